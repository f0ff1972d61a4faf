use Rattle.std.proofs.Common.{◌≤◌, List, ℕ, length, ap, subst}
use Rattle.names.specs.Names.{total}
use Rattle.names.proofs.Facts.{names_few, names_once, names_small}
use Rattle.pool.specs.Firsts.{Once}
use Rattle.pool.specs.Words.{by_word}
use Rattle.layout.specs.Layouts.{Described}
use Rattle.layout.proofs.laws.names_in_order.Goals as goal

pub returns-clause-few : goal.returns-clause-few
returns-clause-few c = subst (λ (d : Described). length d.names ≤ 256) c.layout.view_is (names_few c.layout.inside.names)

pub returns-clause-small : goal.returns-clause-small
returns-clause-small c = subst (λ (d : Described). total d.names ≤ 16384) c.layout.view_is (names_small c.layout.inside.names)

pub returns-clause-once : goal.returns-clause-once
returns-clause-once c = subst (λ (d : Described). Once by_word d.names) c.layout.view_is (names_once c.layout.inside.names)
