use Rattle.std.proofs.Common.{◌∙◌, sym, ap}
use Rattle.std.specs.FinMap.{entries, entries-from_sorted}
use Rattle.term_core.specs.Order.{bytes_cmp}
use Rattle.term_core.proofs.row.Row.entries.Goals as goal

pub returns : goal.returns
returns c = c.deref.ensures.value ∙ sym (ap entries (sym c.self.view_is) ∙ entries-from_sorted bytes_cmp _ c.self.invariant)
