-- How the concatenations of a layout grow.
use Rattle.std.specs.Prelude.{◌≡◌, ℕ, ◌+◌, ◌-◌, ◌<◌, ◌≤◌, List, [], ◌∷◌, ◌++◌, length}
use Rattle.names.specs.declared.numbers.PName.{PName}
use Rattle.components.specs.declared.component.Component.{Component}
use Rattle.layout.specs.Starts.{concat_at, start_at}

-- where concatenations begin among so many components: none past their end, and none before the one before it
pub record Beginnings (starts : List ℕ) (total : ℕ) : Type 0 where
  pub inside : (k : ℕ) → start_at starts total k ≤ total
  pub rising : (k : ℕ) → start_at starts total k ≤ start_at starts total (k + 1)

-- a component more: every concatenation before the last stays as it is, and the last one has the component at its end
abbrev pub AddedToTheLast : Type 0
AddedToTheLast =
    (starts : List ℕ) (components : List (Component PName)) (c : Component PName)
    → Beginnings starts (length components) → 0 < length starts
    → ((k : ℕ) → k < length starts - 1 → concat_at starts (components ++ c ∷ []) k ≡ concat_at starts components k)
    × (concat_at starts (components ++ c ∷ []) (length starts - 1) ≡ concat_at starts components (length starts - 1) ++ c ∷ [])

-- a concatenation more, which begins where the components end: every other one stays as it is, and it has no components
abbrev pub BegunEmpty : Type 0
BegunEmpty =
    (starts : List ℕ) (components : List (Component PName))
    → ((k : ℕ) → k < length starts → concat_at (starts ++ length components ∷ []) components k ≡ concat_at starts components k)
    × (concat_at (starts ++ length components ∷ []) components (length starts) ≡ [])
