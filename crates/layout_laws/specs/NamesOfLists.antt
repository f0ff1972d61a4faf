-- Names are texts of lists.
use Rattle.std.specs.Prelude.{◌≡◌, ℕ, ◌<◌, ◌≤◌, true, List, [], length}
use Rattle.std.specs.List.{AllByRecursion}
use Rattle.pool.specs.Firsts.{Once}
use Rattle.pool.specs.Words.{by_word}
use Rattle.components.specs.declared.component.Component.{Component}
use Rattle.texts.specs.Tokens.{flattened}
use Rattle.texts.specs.declared.token_tree.Item.{Item}
use Rattle.layout.specs.Layouts.{Described, with_names}
use Rattle.layout.specs.Reading.{component_reads}
use Rattle.layout.specs.declared.handed_names.FnNames.{FnNames}

-- the text is that of one of the 256 lists
abbrev pub TextOfAList : List Item → List ℕ → Type 0
TextOfAList lists text = (list : ℕ) × (list < 256) × (flattened lists list ≡ text)

-- each name is such a text, and no name stands twice
pub record NamesOfLists (lists : List Item) (names : List (List ℕ)) : Type 0 where
  pub texts : AllByRecursion (TextOfAList lists) names
  pub once : Once by_word names

-- there are at most as many such names as lists: 256
abbrev pub NamesNeverRunOut : Type 0
NamesNeverRunOut = (lists : List Item) (names : List (List ℕ)) → NamesOfLists lists names → length names ≤ 256

-- while there is no name, this holds of any lists; and a component whose texts may be read brings only such names
abbrev pub NamesStayTexts : Type 0
NamesStayTexts =
    ((lists : List Item) → NamesOfLists lists [])
    × ((f : FnNames) (d : Described) (c : Component ℕ) → NamesOfLists d.lists d.names → component_reads f d.lists c ≡ true → NamesOfLists d.lists (with_names d c))
