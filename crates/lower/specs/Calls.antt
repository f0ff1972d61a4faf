-- A bound's text that asks for a width.
use Rattle.std.specs.Prelude.{◌≡◌, ℕ, List, ◌++◌}

-- a text that ends in the width call, and what stands before it
abbrev pub Asks : List ℕ → List ℕ → List ℕ → Type 0
Asks text call front = text ≡ front ++ call
