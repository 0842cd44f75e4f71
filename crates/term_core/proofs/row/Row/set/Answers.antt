use Rattle.std.proofs.Common.{◌∙◌, sym, ap, subst}
use Rattle.std.specs.FinMap.{insert, from_sorted}
use Rattle.term_core.specs.Order.{bytes_cmp}
use Rattle.term_core.specs.Rows.{AreSorted}
use Rattle.term_core.proofs.Puts.{sorted_put, row_set}
use Rattle.term_core.proofs.row.Row.set.Goals as goal

pub invariant_of-self-2 : goal.invariant_of-self-2
invariant_of-self-2 c = subst AreSorted (sym c.in_ok-put.ensures.ok) (sorted_put c.self.inside.entries.items c.args.name c.args.term c.self.invariant)

pub returns-clause-ok : goal.returns-clause-ok
returns-clause-ok c =
    ap (from_sorted {R = bytes_cmp}) c.in_ok-put.ensures.ok ∙ row_set c.self.inside.entries.items c.args.name c.args.term c.self.invariant
    ∙ ap (λ m. insert m c.args.name c.args.term) c.self.view_is
