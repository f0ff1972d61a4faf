-- The lists of a layout's texts.
use Rattle.std.specs.Prelude.{List, vec_items}
use Rattle.texts.specs.declared.lists.Texts.{Texts}
use Rattle.texts.specs.declared.token_tree.Item.{Item}

-- the items of all lists
abbrev pub lists_of : Texts → List Item
lists_of texts = vec_items texts.items
