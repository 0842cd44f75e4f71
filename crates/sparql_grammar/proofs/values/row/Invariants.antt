use Rattle.std.proofs.Common.{◌≡◌, drop}
use Rattle.sparql_grammar.specs.ValueReading as spec
use Rattle.sparql_grammar.proofs.values.row.Given as goal

abbrev pub invariant-loop-name : goal.invariant-loop-name
invariant-loop-name l = spec.row l.variables l.fn.cursor ≡ spec.row_with (drop l.name-index l.variables) l.row l.cursor
