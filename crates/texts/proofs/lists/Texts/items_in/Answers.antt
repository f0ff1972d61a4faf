use Rattle.std.proofs.Common.{◌-◌, List, take, drop, vec_items, ap, ◌∙◌}
use Rattle.texts.specs.declared.token_tree.Item.{Item}
use Rattle.texts.proofs.Runs.{run_is}
use Rattle.texts.proofs.lists.Texts.items_in.Goals as goal

pub returns : goal.returns
returns c =
    record {
      items = ap (λ (xs : List Item). take (c.first_of-to.result - c.first_of-from.result) (drop c.first_of-from.result xs)) c.deref.ensures.value
          ∙ run_is c.args.list c.first_of-from.result c.first_of-to.result (vec_items c.args.self.now.items) c.first_of-to.ensures.within
          c.first_of-from.ensures.before c.first_of-from.ensures.after c.first_of-to.ensures.before c.first_of-to.ensures.after;
    }
