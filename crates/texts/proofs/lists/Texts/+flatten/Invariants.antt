use Rattle.std.proofs.Common.{◌≡◌, ◌-◌, ◌++◌, drop, vec_items}
use Rattle.std.specs.List.{flat_map}
use Rattle.texts.specs.Flats.{flat_text}
use Rattle.texts.specs.Tokens.{flattened, items_of}
use Rattle.texts.proofs.Flattened.{text_of}
use Rattle.texts.proofs.lists.Texts.+flatten.Given as goal

abbrev pub decreases-flatten : goal.decreases-flatten
decreases-flatten l = 256 - l.list

abbrev pub invariant-loop-item : goal.invariant-loop-item
invariant-loop-item l =
    flat_text l.out ++ flat_map (text_of (vec_items l.self.items)) (drop l.item-index (items_of l.list (vec_items l.self.items)))
    ≡ flat_text l.initial.out ++ flattened (vec_items l.self.items) l.list
