use Rattle.std.proofs.Common.{◌≡◌, ◌≤◌, List, true, false, ltb, length, vec_items, subst, sym, ap, arith, rules, tests}
use Rattle.std.proofs.lemmas.List.Sorted.{IsPartitionPoint-from_clause, IsPartitionedBy-ltb}
use Rattle.std.specs.List.Sorted.{IsNonDecreasingBy, IsPartitionPoint}
use Rattle.texts.specs.declared.token_tree.Item.{Item}
use Rattle.texts.proofs.Runs.{below_point, from_point, lists_rise}
use Rattle.texts.proofs.lists.Texts.first_of.Goals as goal

pub returns : goal.returns
returns c =
    let items : List Item = vec_items c.args.self.now.items in
    let rise = subst (IsNonDecreasingBy (λ (x : Item). x.list)) (sym c.deref.ensures.value) (lists_rise items c.args.self.now.sorted) in
    let point = IsPartitionPoint-from_clause (λ (x : Item). ltb x.list c.args.list) c.deref.result.now _ c.partition_point.ensures.partitioned
    (IsPartitionedBy-ltb (λ (x : Item). x.list) c.deref.result.now c.args.list rise) (λ a r f k. search (rules, tests)) in
    let found = subst (λ (xs : List Item). IsPartitionPoint (λ (x : Item). ltb x.list c.args.list ≡ true) (λ (x : Item). ltb x.list c.args.list ≡ false) xs c.partition_point.result) c.deref.ensures.value point in
    let within : c.partition_point.result ≤ length items = omega (arith, c.partition_point.ensures.bound, ap length c.deref.ensures.value) in
    record {
      within = within;
      before = below_point items c.args.list c.partition_point.result within found;
      after = from_point items c.args.list c.partition_point.result within found c.requires.there;
    }
