use Rattle.std.proofs.Common.{◌≡◌, map, sym, subst, arith}
use Rattle.std.proofs.lemmas.Grind.{common_steps}
use Rattle.term_core.specs.Rows.{AreSorted, named_term}
use Rattle.term_core.proofs.Builders.{in_order}
use Rattle.term_core.proofs.row_builder.in_order.Goals as goal

pub returns-clause-sorted : goal.returns-clause-sorted
returns-clause-sorted c =
    let all : c.loop-name.entries.items ≡ map named_term c.args.terms.entries = grind (arith, common_steps) in
    let ordered = c.into_iter-name-iterator.ensures.into_iter_gives.5 in
    subst AreSorted (sym all) (in_order c.args.terms.entries ordered)
