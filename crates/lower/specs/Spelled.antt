-- No two keys are spelled alike, so their orders obey the laws.
use Rattle.std.specs.Prelude.{◌≡◌, ℕ, List, ◌++◌, ℤ, pos, negsuc, refl}
use Rattle.std.specs.declared.cmp.Ordering.TheVariants.{Less, Equal, Greater}
use Rattle.std.specs.declared.cmp.Ordering.{Ordering}
use Rattle.std.proofs.Common.{sym, ap₂, arith}
use Rattle.std.specs.Ordering.{ordering_then}
use Rattle.pool.specs.Order.{Orders}
use Rattle.pool.specs.Words.{by_number, by_word}
use Rattle.pool.specs.WordOrder.{orders_by, word_orders}
use Rattle.lower.specs.Keys.{Binding, literal, variable, spell_binding, by_binding, Start, nothing, named, asked, Worth, width_of, plus, spell_signed, by_signed, spell_start, spell_worth, by_worth, Extent, whole, between, spell_extent, by_extent}

apart : ◌≡◌ {A = ℕ} 0 1 → ⊥
apart e = omega arith

same_binding : (x y : Binding) → spell_binding x ≡ spell_binding y → x ≡ y
same_binding (literal w v) (literal x y) e = cc
same_binding (literal w v) (variable t) e = let z : ◌≡◌ {A = ℕ} 0 1 = cc in absurd (apart z)
same_binding (variable t) (literal w v) e = let z : ◌≡◌ {A = ℕ} 0 1 = cc in absurd (apart z)
same_binding (variable t) (variable u) e = cc

pub binding_orders : Orders by_binding
binding_orders = orders_by by_word word_orders spell_binding same_binding

same_start : (x y : Start) → spell_start x ≡ spell_start y → x ≡ y
same_start nothing nothing e = refl
same_start nothing (named t) e = let z : ◌≡◌ {A = ℕ} 0 1 = cc in absurd (apart z)
same_start nothing (asked b) e = let z : ◌≡◌ {A = ℕ} 0 1 = cc in absurd (apart z)
same_start (named t) nothing e = let z : ◌≡◌ {A = ℕ} 0 1 = cc in absurd (apart z)
same_start (named t) (named u) e = cc
same_start (named t) (asked b) e = let z : ◌≡◌ {A = ℕ} 0 1 = cc in absurd (apart z)
same_start (asked b) nothing e = let z : ◌≡◌ {A = ℕ} 0 1 = cc in absurd (apart z)
same_start (asked b) (named t) e = let z : ◌≡◌ {A = ℕ} 0 1 = cc in absurd (apart z)
same_start (asked b) (asked c) e = cc

same_plus : (x y : ℤ) (s t : Start) → spell_signed x ++ spell_start s ≡ spell_signed y ++ spell_start t → plus x s ≡ plus y t
same_plus (pos m) (pos n) s t e =
    let a : m ≡ n = cc in
    let b : spell_start s ≡ spell_start t = cc in
    ap₂ (λ (k : ℕ) (u : Start). plus (pos k) u) a (same_start s t b)
same_plus (pos m) (negsuc n) s t e = let z : ◌≡◌ {A = ℕ} 0 1 = cc in absurd (apart z)
same_plus (negsuc m) (pos n) s t e = let z : ◌≡◌ {A = ℕ} 0 1 = cc in absurd (apart z)
same_plus (negsuc m) (negsuc n) s t e =
    let a : m ≡ n = cc in
    let b : spell_start s ≡ spell_start t = cc in
    ap₂ (λ (k : ℕ) (u : Start). plus (negsuc k) u) a (same_start s t b)

same_worth : (x y : Worth) → spell_worth x ≡ spell_worth y → x ≡ y
same_worth (width_of b) (width_of c) e = cc
same_worth (width_of b) (plus x s) e = let z : ◌≡◌ {A = ℕ} 0 1 = cc in absurd (apart z)
same_worth (plus x s) (width_of b) e = let z : ◌≡◌ {A = ℕ} 0 1 = cc in absurd (apart z)
same_worth (plus x s) (plus y t) e = let f : spell_signed x ++ spell_start s ≡ spell_signed y ++ spell_start t = cc in same_plus x y s t f

pub worth_orders : Orders by_worth
worth_orders = orders_by by_word word_orders spell_worth same_worth

same_extent : (x y : Extent) → spell_extent x ≡ spell_extent y → x ≡ y
same_extent (whole e) (whole f) p = cc
same_extent (whole e) (between s f) p = let z : ◌≡◌ {A = ℕ} 0 1 = cc in absurd (apart z)
same_extent (between s e) (whole f) p = let z : ◌≡◌ {A = ℕ} 0 1 = cc in absurd (apart z)
same_extent (between s e) (between t f) p = cc

pub extent_orders : Orders by_extent
extent_orders = orders_by by_word word_orders spell_extent same_extent

-- numbers compared one after the other
pub then_equal : (k : Ordering) → ordering_then k Equal ≡ k
then_equal Less = refl
then_equal Equal = refl
then_equal Greater = refl

then_then : (k t : Ordering) → ordering_then (ordering_then k Equal) t ≡ ordering_then k t
then_then Less t = refl
then_then Equal t = refl
then_then Greater t = refl

-- a signed number in front of a list
pub signed_then : (x y : ℤ) (s t : List ℕ) → by_word (spell_signed x ++ s) (spell_signed y ++ t) ≡ ordering_then (by_signed x y) (by_word s t)
signed_then (pos m) (pos n) s t = sym (then_then (by_number m n) (by_word s t))
signed_then (pos m) (negsuc n) s t = refl
signed_then (negsuc m) (pos n) s t = refl
signed_then (negsuc m) (negsuc n) s t = sym (then_then (by_number m n) (by_word s t))
