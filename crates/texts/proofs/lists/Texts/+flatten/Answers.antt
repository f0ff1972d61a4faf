use Rattle.std.proofs.Common.{◌+◌, ◌∙◌, ℕ, List, ◌++◌, leb, length, vec_items, sym, ap, arith, length-append}
use Rattle.std.proofs.lemmas.Result.{err_from_is_err_and}
use Rattle.std.proofs.lemmas.Bool.{le-leb}
use Rattle.texts.specs.Flats.{flat_text}
use Rattle.texts.specs.Tokens.{flattened, items_of, rhs}
use Rattle.texts.specs.declared.token_tree.Item.{Item}
use Rattle.texts.proofs.Flats.{flat_length}
use Rattle.texts.proofs.Flattened.{all_added, child_falls, flattened_is, group_next, moved_on, text_next, text_of, too_long}
use Rattle.texts.proofs.lists.Texts.+flatten.Goals as goal

pub loop-item-init : goal.loop-item-init
loop-item-init t c =
    ap (λ (xs : List ℕ). flat_text c.args.out.now ++ xs) (sym (flattened_is (vec_items c.args.self.now.items) c.args.list c.args.self.now.above (omega (arith, c.ranges.list))))

pub returns-in_err-add-in-Chars-clause-fits : goal.returns-in_err-add-in-Chars-clause-fits
returns-in_err-add-in-Chars-clause-fits t c =
    let items : List Item = vec_items c.args.self.now.items in
    let begun = text_next items c.items_in-item-items.result.now (items_of c.args.list items) c.loop-item.item-index c.item-item.result c.in-Chars.text
    (flat_text c.loop-item.out) c.as_slice.result.now (flat_text c.args.out.now ++ flattened items c.args.list)
    c.items_in-item-items.ensures.items c.loop-item-test.true c.item-item.is c.in-Chars.is c.as_slice.ensures.text c.loop-item.invariant in
    let p = err_from_is_err_and c.from_residual.result c.from_residual.ensures.1 in
    rw p.1 (sym (too_long _ _ _ _ _ begun (sym c.in_err-add-in-Chars.ensures.fits)))

pub returns-in_err-add-in-Group-clause-fits : goal.returns-in_err-add-in-Group-clause-fits
returns-in_err-add-in-Group-clause-fits t c =
    let items : List Item = vec_items c.args.self.now.items in
    let begun = group_next items c.items_in-item-items.result.now (items_of c.args.list items) c.loop-item.item-index c.item-item.result c.in-Group.delimiter c.in-Group.child
    (flat_text c.loop-item.out) c.lhs_chars.result.now (flat_text c.args.out.now ++ flattened items c.args.list)
    c.items_in-item-items.ensures.items c.loop-item-test.true c.item-item.is c.in-Group.is c.lhs_chars.ensures.answer c.loop-item.invariant in
    let p = err_from_is_err_and c.from_residual-in_err-add-in-Group.result c.from_residual-in_err-add-in-Group.ensures.1 in
    rw p.1 (sym (too_long _ _ _ _ _ begun (sym c.in_err-add-in-Group.ensures.fits)))

-- a group's list has a greater number
pub flatten-requires : goal.flatten-requires
flatten-requires t c =
    let falls = child_falls (vec_items c.args.self.now.items) c.items_in-item-items.result.now c.args.list c.loop-item.item-index c.item-item.result c.in-Group.delimiter c.in-Group.child
    c.args.self.now.above c.items_in-item-items.ensures.items c.loop-item-test.true c.item-item.is c.in-Group.is in
    (omega (arith, c.decreases, falls.0, falls.1), tt)

pub returns-in_err-flatten-in-Group-clause-fits : goal.returns-in_err-flatten-in-Group-clause-fits
returns-in_err-flatten-in-Group-clause-fits t c =
    let items : List Item = vec_items c.args.self.now.items in
    let begun = group_next items c.items_in-item-items.result.now (items_of c.args.list items) c.loop-item.item-index c.item-item.result c.in-Group.delimiter c.in-Group.child
    (flat_text c.loop-item.out) c.lhs_chars.result.now (flat_text c.args.out.now ++ flattened items c.args.list)
    c.items_in-item-items.ensures.items c.loop-item-test.true c.item-item.is c.in-Group.is c.lhs_chars.ensures.answer c.loop-item.invariant in
    let opened = moved_on _ _ _ _ _ begun c.in_ok-add-in-Group.ensures.text in
    let p = err_from_is_err_and c.from_residual-in_err-flatten-in-Group.result c.from_residual-in_err-flatten-in-Group.ensures.1 in
    rw p.1 (sym (too_long _ _ _ _ _ opened (sym c.in_err-flatten-in-Group.ensures.fits)))

pub returns-in_err-add-in-Group-2-clause-fits : goal.returns-in_err-add-in-Group-2-clause-fits
returns-in_err-add-in-Group-2-clause-fits t c =
    let items : List Item = vec_items c.args.self.now.items in
    let begun = group_next items c.items_in-item-items.result.now (items_of c.args.list items) c.loop-item.item-index c.item-item.result c.in-Group.delimiter c.in-Group.child
    (flat_text c.loop-item.out) c.lhs_chars.result.now (flat_text c.args.out.now ++ flattened items c.args.list)
    c.items_in-item-items.ensures.items c.loop-item-test.true c.item-item.is c.in-Group.is c.lhs_chars.ensures.answer c.loop-item.invariant in
    let opened = moved_on _ _ _ _ _ begun c.in_ok-add-in-Group.ensures.text in
    let filled = moved_on _ (flat_text c.flatten.new.out) (flattened items c.in-Group.child) _ _ opened c.in_ok-flatten-in-Group.ensures.text in
    let p = err_from_is_err_and c.from_residual-in_err-add-in-Group-2.result c.from_residual-in_err-add-in-Group-2.ensures.1 in
    let short = ap (λ (xs : List ℕ). leb (length (flat_text c.flatten.new.out) + length xs) 1024) (sym c.rhs_chars.ensures.answer) ∙ sym c.in_err-add-in-Group-2.ensures.fits in
    rw p.1 (sym (too_long _ (rhs c.in-Group.delimiter) _ _ _ filled short))

pub returns-clause-fits : goal.returns-clause-fits
returns-clause-fits t c =
    let items : List Item = vec_items c.args.self.now.items in
    let all = all_added (text_of items) c.items_in-item-items.result.now (items_of c.args.list items) c.loop-item.item-index (flat_text c.loop-item.out)
    (flat_text c.args.out.now ++ flattened items c.args.list) c.items_in-item-items.ensures.items c.loop-item-test.false c.loop-item.invariant in
    sym (le-leb (length (flat_text c.args.out.now) + length (flattened items c.args.list)) 1024
    (omega (arith, ap length all, length-append (flat_text c.args.out.now) (flattened items c.args.list), flat_length c.loop-item.out, c.loop-item.out.within)))
