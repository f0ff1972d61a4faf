-- The new entry after the shift, as the writes leave it.
use Rattle.std.proofs.Common.{◌≡◌, ℕ, ◌<◌, ◌≤◌, List, length, get_or, set, arith}
use Rattle.std.proofs.lemmas.Grind.{common_steps}
use Rattle.pool.specs.declared.entry.Entry.{Entry}
use Rattle.pool.specs.Moved.{Shifted, Added}

-- `count` is what the pool counts as used
module _ {K M : Type 0} (slot used count : ℕ) (key : K) (marks : M) (old new : List (Entry K M)) (same : count ≡ used) (upto : slot ≤ used) (room : used < length old) (s : Shifted slot used old new) (x y : Entry K M) where
  abbrev placed : List (Entry K M)
  placed = set new slot (record { key = (get_or new slot x).key; marks = (get_or new slot x).marks; place = count })

  abbrev added : List (Entry K M)
  added = set placed count (record { key = key; marks = marks; place = (get_or placed count y).place })

  pub added_from_shifted : Added slot used key marks old added
  added_from_shifted = record {
    long = grind (arith, common_steps, s.long);
    new_key = λ d. grind (arith, common_steps, s.long);
    new_marks = λ d. grind (arith, common_steps, s.long);
    old_key = λ i d h. grind (arith, common_steps, s.long, s.keys i d, s.keys slot x);
    old_marks = λ i d h. grind (arith, common_steps, s.long, s.marks i d, s.marks slot x);
    before = λ i d h. grind (arith, common_steps, s.long, s.before i d);
    here = λ d. grind (arith, common_steps, s.long);
    after = λ i d l h. grind (arith, common_steps, s.long, s.moved i d l h);
    elsewhere = λ i d h. grind (arith, common_steps, s.long, s.elsewhere i d h);
  }
