use Rattle.std.proofs.Common.{ℕ, ◌<◌, true, ltb, length, is_ok, vec_items, sym, ap, ◌∙◌, arith, length-set}
use Rattle.std.proofs.lemmas.Bool.{and_parts, ltb-true}
use Rattle.texts.specs.Texts.{lists_of}
use Rattle.texts.specs.Tokens.{child_above}
use Rattle.texts.specs.declared.token_tree.Item.{Item}
use Rattle.texts.proofs.Inserted.{Grown, grown, taken_by_group, taken_by_text}
use Rattle.texts.proofs.lists.Texts.add.Goals as goal

pub invariant_of-self : goal.invariant_of-self
invariant_of-self c =
    let t = c.args.self.now in
    let item : Item = record { list = c.args.list; text = c.args.text } in
    let after : Grown (lists_of t) (vec_items c.insert.new.self) item =
    grown t c.first_of-at.result item (vec_items c.insert.new.self) (is_ok c.insert.result) c.insert.ensures.items
    (c.insert.ensures.succeeds (omega (arith, c.requires.room, t.room))) c.first_of-at.ensures.within c.first_of-at.ensures.before c.first_of-at.ensures.after c.requires.above in
    let child : ℕ = c.in-Group.child in
    let below : child < length t.taken =
    omega (arith, ltb-true child 256 (and_parts (ltb c.args.list child) (ltb child 256) (sym (ap (child_above c.args.list) c.in-Group.is) ∙ c.requires.above)).1, t.flags) in
    record {
      room = omega (arith, c.insert.ensures.capacity, t.room);
      few = omega (arith, c.insert.new.self.ok.0, after.added.count, t.items.ok.0, c.requires.room);
      sorted = after.sorted;
      above = after.above;
      flags = length-set t.taken child true ∙ t.flags;
      parents = taken_by_group t.taken (lists_of t) (vec_items c.insert.new.self) c.args.text c.in-Group.field-0 child c.in-Group.is below t.parents after.taken;
    }

pub invariant_of-self-in_default : goal.invariant_of-self-in_default
invariant_of-self-in_default c =
    let t = c.args.self.now in
    let item : Item = record { list = c.args.list; text = c.args.text } in
    let after : Grown (lists_of t) (vec_items c.insert.new.self) item =
    grown t c.first_of-at.result item (vec_items c.insert.new.self) (is_ok c.insert.result) c.insert.ensures.items
    (c.insert.ensures.succeeds (omega (arith, c.requires.room, t.room))) c.first_of-at.ensures.within c.first_of-at.ensures.before c.first_of-at.ensures.after c.requires.above in
    record {
      room = omega (arith, c.insert.ensures.capacity, t.room);
      few = omega (arith, c.insert.new.self.ok.0, after.added.count, t.items.ok.0, c.requires.room);
      sorted = after.sorted;
      above = after.above;
      flags = t.flags;
      parents = taken_by_text t.taken (lists_of t) (vec_items c.insert.new.self) c.args.text c.in_default.field-0 c.in_default.is t.parents after.taken;
    }

pub returns-in-Group : goal.returns-in-Group
returns-in-Group c =
    let t = c.args.self.now in
    let item : Item = record { list = c.args.list; text = c.args.text } in
    let after : Grown (lists_of t) (vec_items c.insert.new.self) item =
    grown t c.first_of-at.result item (vec_items c.insert.new.self) (is_ok c.insert.result) c.insert.ensures.items
    (c.insert.ensures.succeeds (omega (arith, c.requires.room, t.room))) c.first_of-at.ensures.within c.first_of-at.ensures.before c.first_of-at.ensures.after c.requires.above in
    record { added = after.added }

pub returns-in_default : goal.returns-in_default
returns-in_default c =
    let t = c.args.self.now in
    let item : Item = record { list = c.args.list; text = c.args.text } in
    let after : Grown (lists_of t) (vec_items c.insert.new.self) item =
    grown t c.first_of-at.result item (vec_items c.insert.new.self) (is_ok c.insert.result) c.insert.ensures.items
    (c.insert.ensures.succeeds (omega (arith, c.requires.room, t.room))) c.first_of-at.ensures.within c.first_of-at.ensures.before c.first_of-at.ensures.after c.requires.above in
    record { added = after.added }
