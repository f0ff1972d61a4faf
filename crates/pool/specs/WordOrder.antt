-- The orders that keys are made of obey the laws.
use Rattle.std.specs.Prelude.{◌≡◌, ℕ, List, refl}
use Rattle.std.specs.declared.cmp.Ordering.TheVariants.{Less, Equal, Greater}
use Rattle.std.specs.declared.cmp.Ordering.{Ordering}
use Rattle.std.proofs.Common.{sym, ap}
use Rattle.std.proofs.lemmas.Bool.{false≢true}
use Rattle.std.specs.Ordering.{is_lt, ordering_reverse}
use Rattle.std.specs.Cmp.{IsTotalOrder, nat_cmp_total}
use Rattle.std.specs.Cmp.Lexicographic.{slice_cmp, lists_total}
use Rattle.std.specs.FinMap.{nat_cmp-IsAntisymmetric, slice_cmp-IsAntisymmetric}
use Rattle.pool.specs.Order.{Orders}
use Rattle.pool.specs.Words.{by_number, by_word}

-- an answer that is its own reverse
level : (r : Ordering) → r ≡ ordering_reverse r → r ≡ Equal
level Less e = absurd (false≢true (sym (ap is_lt e)))
level Equal e = refl
level Greater e = absurd (false≢true (ap is_lt e))

-- a total order that tells any two apart
orders_from : {A : Type 0} {R : A → A → Ordering} (o : IsTotalOrder R) → ((x y : A) → R x y ≡ Equal → x ≡ y) → Orders R
orders_from {R = R} o apart = record { flip = o.antisymm; chain = o.trans; itself = λ x. level (R x x) (o.antisymm x x); same = apart }

-- lists by such an order of their elements
pub list_orders : {A : Type 0} {R : A → A → Ordering} → IsTotalOrder R → ((x y : A) → R x y ≡ Equal → x ≡ y) → Orders (slice_cmp R)
list_orders o apart = orders_from (lists_total o) (slice_cmp-IsAntisymmetric apart)

same_number : (x y : ℕ) → by_number x y ≡ Equal → x ≡ y
same_number = nat_cmp-IsAntisymmetric

same_word : (xs ys : List ℕ) → by_word xs ys ≡ Equal → xs ≡ ys
same_word = slice_cmp-IsAntisymmetric same_number

pub number_orders : Orders by_number
number_orders = orders_from nat_cmp_total same_number

pub word_orders : Orders by_word
word_orders = orders_from (lists_total nat_cmp_total) same_word

-- an order of codes is one of what they stand for, where no two have one code
pub orders_by : {A B : Type 0} (order : B → B → Ordering) → Orders order → (code : A → B) → ((x y : A) → code x ≡ code y → x ≡ y) → Orders (λ (x y : A). order (code x) (code y))
orders_by order laws code same = record {
  flip = λ x y. laws.flip (code x) (code y);
  chain = λ x y z. laws.chain (code x) (code y) (code z);
  itself = λ x. laws.itself (code x);
  same = λ x y e. same x y (laws.same (code x) (code y) e);
}
