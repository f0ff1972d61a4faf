-- Parts that are copied behind those in use.
use Rattle.std.proofs.Common.{◌≡◌, ℕ, ◌+◌, ◌-◌, ◌≤◌, List, ◌++◌, length, get_or, take, sym, ap, ◌∙◌, arith}
use Rattle.std.proofs.lemmas.List.{take_all, get_or-drop}
use Rattle.std.proofs.lemmas.List.Edits.{take-paste, drop-paste}
use lib.Seq.{paste}

module _ {X : Type 0} (d : List X) (at : ℕ) (s : List X) (in' : at ≤ length d) where
  pub take_pasted : take (at + length s) (paste d at s (length s)) ≡ take at d ++ s
  take_pasted = let h : length s ≤ length s = omega arith in take-paste d at s (length s) in' h ∙ ap (λ l. take at d ++ l) (take_all (length s) s h)

  pub get_or_pasted : (i : ℕ) (z : X) → at + length s ≤ i → get_or (paste d at s (length s)) i z ≡ get_or d i z
  get_or_pasted i z h =
      let n : ℕ = at + length s in
      let e : n + (i - n) ≡ i = omega arith in
      let k : length s ≤ length s = omega arith in
      ap (λ (j : ℕ). get_or (paste d at s (length s)) j z) (sym e) ∙ sym (get_or-drop n (paste d at s (length s)) (i - n) z)
      ∙ ap (λ l. get_or l (i - n) z) (drop-paste d at s (length s) in' k) ∙ get_or-drop n d (i - n) z ∙ ap (λ (j : ℕ). get_or d j z) e
