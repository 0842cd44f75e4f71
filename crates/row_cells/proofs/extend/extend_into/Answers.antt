use Rattle.std.proofs.Common.{◌≡◌, sym, subst}
use Rattle.row_cells.specs.Cells.{AreCellsIn}
use Rattle.row_cells.proofs.extend.extend_into.Goals as goal

pub returns-then-bind_in-2-clause-within : goal.returns-then-bind_in-2-clause-within
returns-then-bind_in-2-clause-within c = λ terms given made h b.
    c.bind_in-then-bind_in-2.ensures.within terms given made (c.bind_in-then-bind_in.ensures.within terms given made
    (c.bind_in.ensures.within terms given made (subst (AreCellsIn terms given made) (sym c.copy_from_slice.ensures.after) h) b.s) b.p) b.o

pub returns-else-bind_in-2-clause-within : goal.returns-else-bind_in-2-clause-within
returns-else-bind_in-2-clause-within c = λ terms given made h b.
    c.bind_in-then-bind_in.ensures.within terms given made (c.bind_in.ensures.within terms given made (subst (AreCellsIn terms given made) (sym c.copy_from_slice.ensures.after) h) b.s) b.p

pub returns-else-bind_in-clause-within : goal.returns-else-bind_in-clause-within
returns-else-bind_in-clause-within c = λ terms given made h b. c.bind_in.ensures.within terms given made (subst (AreCellsIn terms given made) (sym c.copy_from_slice.ensures.after) h) b.s
