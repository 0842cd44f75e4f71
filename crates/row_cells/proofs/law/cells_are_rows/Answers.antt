use Rattle.std.proofs.Common.{ap, Some, []}
use Rattle.std.proofs.lemmas.Option.{get_or_from_slice_get}
use Rattle.term_core.specs.declared.term.Term.TheVariants.{Iri}
use Rattle.row_cells.specs.declared.cell.Cell.TheVariants.{Made}
use Rattle.row_cells.proofs.Rows.{value_of_cell, set_row}
use Rattle.row_cells.proofs.Binding.{cells_extend, extended_within}
use Rattle.row_cells.proofs.Asking.{cells_ask}
use Rattle.row_cells.proofs.law.cells_are_rows.Goals as goal

pub returns-clause-values : goal.returns-clause-values
returns-clause-values c = value_of_cell

pub returns-clause-ask : goal.returns-clause-ask
returns-clause-ask c = cells_ask

pub returns-clause-extend : goal.returns-clause-extend
returns-clause-extend c = cells_extend

pub returns-clause-are : goal.returns-clause-are
returns-clause-are c = extended_within

pub returns-clause-assign : goal.returns-clause-assign
returns-clause-assign c = λ names words cells slot k name t once e within made.
    set_row names words cells slot name (Made k) t once e within (ap Some (get_or_from_slice_get words.made k t (Iri []) made))
