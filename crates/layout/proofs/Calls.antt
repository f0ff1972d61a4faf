-- Texts that begin with a call.
use Rattle.std.proofs.Common.{◌≡◌, ℕ, ◌+◌, true, false, eqb, List, [], ◌∷◌, length, get_or, take, drop, ap, ◌∙◌, arith}
use Rattle.std.proofs.lemmas.List.{get_or-drop}
use Rattle.std.proofs.lemmas.Bool.Decides.{nat_tests}
use Rattle.std.proofs.lemmas.Map.Text.{is_eq-slice_cmp}
use Rattle.std.specs.List.{starts_with}
use Rattle.std.specs.Str.{bytes_eq}
use Rattle.layout.specs.Reading.{calls, same_bytes}

-- a text that begins with another one has a parenthesis behind it, or has not
pub calls_behind : (name text rest : List ℕ) → bytes_eq (take (length name) text) name ≡ true → rest ≡ drop (length name) text
    → length rest + length name ≡ length text → starts_with eqb rest (40 ∷ []) ≡ calls name text
calls_behind name text [] begins is long =
    let same : same_bytes (take (length name) text) name ≡ true = is_eq-slice_cmp (take (length name) text) name ∙ begins in
    grind (arith, nat_tests)
calls_behind name text (x ∷ rest) begins is long =
    let same : same_bytes (take (length name) text) name ≡ true = is_eq-slice_cmp (take (length name) text) name ∙ begins in
    let here : x ≡ get_or text (length name + 0) 0 = ap (λ (xs : List ℕ). get_or xs 0 0) is ∙ get_or-drop (length name) text 0 0 in
    grind (arith, nat_tests)

-- a text that does not begin with a name does not call it
pub calls_not : (name text : List ℕ) → bytes_eq (take (length name) text) name ≡ false → false ≡ calls name text
calls_not name text other =
    let differs : same_bytes (take (length name) text) name ≡ false = is_eq-slice_cmp (take (length name) text) name ∙ other in
    grind (arith, nat_tests)
