-- What an order of keys obeys.
use Rattle.std.specs.Prelude.{◌≡◌}
use Rattle.std.specs.declared.cmp.Ordering.TheVariants.{Less, Equal}
use Rattle.std.specs.declared.cmp.Ordering.{Ordering}
use Rattle.std.specs.Ordering.{ordering_reverse}

-- Any two are ordered, one way round and not the other (`flip`); the order is transitive (`chain`); it answers `Equal` for equals
-- (`itself`) and for nothing else (`same`).
pub record Orders {A : Type 0} (order : A → A → Ordering) : Type 0 where
  pub flip : (x y : A) → order x y ≡ ordering_reverse (order y x)
  pub chain : (x y z : A) → order x y ≡ Less → order y z ≡ Less → order x z ≡ Less
  pub itself : (x : A) → order x x ≡ Equal
  pub same : (x y : A) → order x y ≡ Equal → x ≡ y
