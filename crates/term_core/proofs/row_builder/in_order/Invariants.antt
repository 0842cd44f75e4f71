use Rattle.std.proofs.Common.{◌≡◌, ◌++◌, map}
use Rattle.term_core.specs.Rows.{named_term}
use Rattle.term_core.proofs.row_builder.in_order.Given as goal

-- behind what was pushed, what is left gives all
abbrev pub invariant-loop-name : goal.invariant-loop-name
invariant-loop-name l = l.entries.items ++ map named_term l.name-iterator ≡ map named_term l.fn.terms.entries
