-- Texts of limited length.
use Rattle.std.proofs.Common.{◌≡◌, ℕ, length, arith}
use Rattle.std.proofs.lemmas.List.{length-take-le}
use Rattle.texts.specs.Flats.{flat_text}
use Rattle.texts.specs.declared.room.Bounded.{Bounded}

pub flat_length : {N : ℕ} (t : Bounded N) → length (flat_text t) ≡ t.len
flat_length t = length-take-le t.len t.bytes (omega (arith, t.full, t.within))
