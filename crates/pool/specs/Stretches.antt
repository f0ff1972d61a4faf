-- A stretch of parts: more parts behind it leave it, and it moves with the parts.
use Rattle.std.specs.Prelude.{◌≡◌, ℕ, ◌+◌, ◌≤◌, List, ◌++◌, length, take, drop}
use Rattle.std.proofs.Common.{sym, ap, ◌∙◌, add_comm, arith}
use Rattle.std.proofs.lemmas.List.{length-drop, drop-append-le, take-append-le, drop-drop, drop_at}
use Rattle.pool.specs.Words.{stretch_of}

module _ {P : Type 0} (start len : ℕ) where
  pub stretch_stays : (ps qs : List P) → start + len ≤ length ps → stretch_of start len (ps ++ qs) ≡ stretch_of start len ps
  stretch_stays ps qs h = ap (take len) (drop-append-le start ps qs (omega arith)) ∙ take-append-le len (drop start ps) qs (omega (arith, length-drop start ps))

  pub stretch_moved : (by : ℕ) (ps qs : List P) → length ps ≡ by → stretch_of (start + by) len (ps ++ qs) ≡ stretch_of start len qs
  stretch_moved by ps qs h =
      ap (take len) (ap (λ (n : ℕ). drop n (ps ++ qs)) (add_comm start by) ∙ sym (drop-drop start by (ps ++ qs)) ∙ ap (drop start) (drop_at ps qs by h))
