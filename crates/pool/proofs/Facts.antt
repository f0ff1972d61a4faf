-- That keys can be found is a fact with one proof at most, so it comes out of its truncation.
use Rattle.std.proofs.Common.{ℕ, List, [], length, Ordering, refl, arith}
use mathlib.Core.Bool.{Bool-set}
use mathlib.Core.Logic.{∥∥₁_elim}
use native.Mathlib.Bridge.{le_prop}
use native.Mathlib.Nat.{ℕ_set}
use Rattle.std.specs.Ordering.{Ordering-set}
use Rattle.pool.specs.declared.entry.Entry.{Entry}
use Rattle.pool.specs.Held.{keys_of, places_of, Ordered, FindableIn, SoundIn}

ordered_prop : {A : Type 0} (order : A → A → Ordering) (keys : List A) (places : List ℕ) → IsProp (Ordered order keys places)
ordered_prop order keys places o p = λ i. record {
  long = ℕ_set (length places) (length keys) o.long p.long i;
  below = λ n h. le_prop (o.below n h) (p.below n h) i;
  rising = λ n m d l h. Ordering-set _ _ (o.rising n m d l h) (p.rising n m d l h) i;
  every = λ n h. Bool-set _ _ (o.every n h) (p.every n h) i;
}

pub findable_prop : {K M P A : Type 0} (order : A → A → Ordering) (meaning : K → List P → A) (reach : K → ℕ) (ps : List P) (es : List (Entry K M)) → IsProp (FindableIn order meaning reach ps es)
findable_prop order meaning reach ps es s t = λ i. record {
  ordered = ordered_prop order (keys_of meaning ps es) (places_of es) s.ordered t.ordered i;
  reached = λ n d h. le_prop (s.reached n d h) (t.reached n d h) i;
}

pub found_out : {K M P A : Type 0} {order : A → A → Ordering} {meaning : K → List P → A} {reach : K → ℕ} {ps : List P} {es : List (Entry K M)} → SoundIn order meaning reach ps es → FindableIn order meaning reach ps es
found_out {order = order} {meaning = meaning} {reach = reach} {ps = ps} {es = es} s = ∥∥₁_elim s (findable_prop order meaning reach ps es) (λ x. x)

-- among no entries there is nothing to find
pub none_sound : {K M P A : Type 0} (order : A → A → Ordering) (meaning : K → List P → A) (reach : K → ℕ) (ps : List P) → SoundIn {K = K} {M = M} order meaning reach ps []
none_sound order meaning reach ps = ∣ record {
  ordered = record { long = refl; below = λ i h. absurd (omega arith); rising = λ i j d l h. absurd (omega arith); every = λ n h. absurd (omega arith) };
  reached = λ i d h. absurd (omega arith);
} ∣₁
