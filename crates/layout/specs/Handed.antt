-- Whether what is handed in for the printed text is as it has to be.
use Rattle.std.specs.Prelude.{ℕ, Bool, not, ◌&&◌, List, [], ◌∷◌, length, ◌==◌, nat_le}
use Rattle.components.specs.Concatenations.{all_of, some_of}
use Rattle.texts.specs.Printable.{every_printable}
use Rattle.layout.specs.Reading.{same_bytes}
use Rattle.layout.specs.declared.handed_names.Around.{Around}
use Rattle.layout.specs.declared.handed_names.CodeGen.{CodeGen}
use Rattle.layout.specs.declared.handed_names.FnNames.{FnNames}
use Rattle.layout.specs.declared.handed_names.Names.{Names}

-- a text that stands around another: at most 64 printable bytes
abbrev pub fits_around : List ℕ → Bool
fits_around text = nat_le (length text) 64 && every_printable text

-- a name: such a text of at least 1 byte
abbrev pub fits_name : List ℕ → Bool
fits_name text = nat_le 1 (length text) && fits_around text

abbrev pub names_list : Names → List (List ℕ)
names_list n =
    n.constant.now ∷ n.bind.now ∷ n.value.now ∷ n.width.now ∷ n.cw.now
    ∷ n.bits_ref.now ∷ n.awi.now ∷ n.awi_ref.now ∷ n.shl.now ∷ n.res.now ∷ []

-- each of the ten is a name
abbrev pub names_handed : Names → Bool
names_handed n = all_of fits_name (names_list n)

abbrev pub fn_names_list : FnNames → List (List ℕ)
fn_names_list f =
    f.get_bw.now ∷ f.mut_bits_ref.now ∷ f.bits_ref.now ∷ f.usize_cast.now ∷ f.usize_add.now
    ∷ f.usize_sub.now ∷ f.max_fn.now ∷ f.cc_checks_fn.now ∷ f.copy_.now ∷ f.field.now
    ∷ f.field_to.now ∷ f.field_from.now ∷ f.field_width.now ∷ f.field_bit.now ∷ f.bw_call.now ∷ []

-- no two of three texts are the same
abbrev pub apart : List ℕ → List ℕ → List ℕ → Bool
apart a b c = not (same_bytes a b) && not (same_bytes a c) && not (same_bytes b c)

-- a text without an opening parenthesis
abbrev pub parenthesis : ℕ → Bool
parenthesis byte = byte == 40

abbrev pub no_parenthesis : List ℕ → Bool
no_parenthesis text = not (some_of parenthesis text)

-- the names by which a bound's text is known as a call
abbrev pub calls_list : FnNames → List (List ℕ)
calls_list f = f.get_bw.now ∷ f.usize_add.now ∷ f.usize_sub.now ∷ []

-- each of the fifteen is a name, and calls are told apart by theirs
abbrev pub fn_names_handed : FnNames → Bool
fn_names_handed f =
    all_of fits_name (fn_names_list f)
    && apart f.get_bw.now f.usize_add.now f.usize_sub.now && all_of no_parenthesis (calls_list f)

-- what stands before and what stands after both fit
abbrev pub around_handed : Around → Bool
around_handed a = fits_around a.before.now && fits_around a.after.now

-- each of the five fits
abbrev pub code_gen_handed : CodeGen → Bool
code_gen_handed g =
    all_of around_handed (g.must_use ∷ g.static_construction_fn ∷ g.lit_construction_fn ∷ g.construction_fn ∷ g.const_wrapper ∷ [])
