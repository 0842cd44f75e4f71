use Rattle.std.proofs.Common.{◌∙◌, subst, ap}
use Rattle.std.specs.FinMap.{from_sorted}
use Rattle.term_core.specs.Order.{bytes_cmp}
use Rattle.term_core.specs.Rows.{AreSorted}
use Rattle.term_core.proofs.Builders.{row_of_order}
use Rattle.term_core.proofs.row_builder.RowBuilder.build.Goals as goal

pub returns : goal.returns
returns c =
    c.of_sorted.ensures
    ∙ (ap (from_sorted {R = bytes_cmp}) c.in_ok-in_order.ensures.entries
    ∙ (row_of_order c.self.inside.terms (subst AreSorted c.in_ok-in_order.ensures.entries c.in_ok-in_order.ensures.sorted) ∙ c.self.view_is))
