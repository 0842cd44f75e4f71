use Rattle.std.proofs.Common.{◌≡◌, ◌∙◌, sym, subst}
use Rattle.row_cells.proofs.Asking.{shown_after, asks_parts}
use Rattle.row_cells.proofs.own.asked.Goals as goal

pub returns-in-Err-wanted_by-clause-sought : goal.returns-in-Err-wanted_by-clause-sought
returns-in-Err-wanted_by-clause-sought g c = λ D shown sought.
    c.wanted_by-in-Ok.ensures.sought D (shown_after _ _ D c.wanted_by.ensures.kept shown) (c.wanted_by.ensures.sought D shown sought)

pub returns-in-Err-wanted_by-2-clause-sought : goal.returns-in-Err-wanted_by-2-clause-sought
returns-in-Err-wanted_by-2-clause-sought g c = λ D shown sought.
    let shown2 = shown_after _ _ D c.wanted_by.ensures.kept shown in
    c.wanted_by-in-Ok-wanted_by.ensures.sought D (shown_after _ _ D c.wanted_by-in-Ok.ensures.kept shown2)
    (c.wanted_by-in-Ok.ensures.sought D shown2 (c.wanted_by.ensures.sought D shown sought))

pub returns-in-Ok-wanted_by-2-clause-sought : goal.returns-in-Ok-wanted_by-2-clause-sought
returns-in-Ok-wanted_by-2-clause-sought g c = λ D shown sought.
    let shown2 = shown_after _ _ D c.wanted_by.ensures.kept shown in
    c.wanted_by-in-Ok-wanted_by.ensures.sought D (shown_after _ _ D c.wanted_by-in-Ok.ensures.kept shown2)
    (c.wanted_by-in-Ok.ensures.sought D shown2 (c.wanted_by.ensures.sought D shown sought))

pub returns-in-Ok-wanted_by-2-clause-asked : goal.returns-in-Ok-wanted_by-2-clause-asked
returns-in-Ok-wanted_by-2-clause-asked g c = λ D shown sought.
    let shown2 = shown_after _ _ D c.wanted_by.ensures.kept shown in
    let shown3 = shown_after _ _ D c.wanted_by-in-Ok.ensures.kept shown2 in
    let sought2 = c.wanted_by.ensures.sought D shown sought in
    let sought3 = c.wanted_by-in-Ok.ensures.sought D shown2 sought2 in
    asks_parts D.terms c.args.own.now c.wanted_by.new.own c.wanted_by-in-Ok.new.own c.args.pattern.now c.args.row.now _ _ _ _ _ _
    c.cell_of.ensures c.cell_of-in-Ok.ensures c.cell_of-in-Ok-wanted_by.ensures c.wanted_by.ensures.own c.wanted_by-in-Ok.ensures.own
    (c.in-Ok.ensures.wanted D shown sought) (c.in-Ok-wanted_by.ensures.wanted D shown2 sought2) (c.in-Ok-wanted_by-2.ensures.wanted D shown3 sought3)
