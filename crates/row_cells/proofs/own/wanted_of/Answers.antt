use Rattle.std.proofs.Common.{sym, subst, Some}
use Rattle.row_cells.specs.Owns.{Wants}
use Rattle.row_cells.proofs.Asking.{shown_store, wants_rank}
use Rattle.row_cells.proofs.own.wanted_of.Goals as goal

pub returns-in-Ok-clause-wanted : goal.returns-in-Ok-clause-wanted
returns-in-Ok-clause-wanted g c = λ D shown.
    subst (Wants D.terms (Some c.args.term.now)) (sym c.of.ensures)
    (wants_rank D.terms c.args.term.now _ D.table.rising (c.in-Ok.ensures.found D.terms D.ids (shown_store _ D shown)))
