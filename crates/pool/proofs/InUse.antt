-- The entries in use: how many keys and slots there are.
use Rattle.std.proofs.Common.{◌≡◌, List, length, ◌∙◌}
use Rattle.std.proofs.lemmas.List.{length-take-le}
use Rattle.pool.specs.declared.pool.Pool.{Pool}
use Rattle.pool.specs.Held.{places_of}
use Rattle.pool.specs.Pools.{entries_of, in_use, pool_keys}
use Rattle.pool.proofs.Entries.{length_keys, length_places}

module _ {K M : Type 0} (pool : Pool K M) where
  pub long_keys : {P A : Type 0} (meaning : K → List P → A) (ps : List P) → length (pool_keys meaning ps pool) ≡ pool.used
  long_keys meaning ps = length_keys meaning ps (in_use pool) ∙ length-take-le pool.used (entries_of pool) pool.within

  pub long_places : length (places_of (in_use pool)) ≡ pool.used
  long_places = length_places (in_use pool) ∙ length-take-le pool.used (entries_of pool) pool.within
