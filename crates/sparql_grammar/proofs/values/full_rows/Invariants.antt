use Rattle.std.proofs.Common.{◌≡◌, ◌-◌}
use Rattle.sparql_grammar.specs.Parser.{more}
use Rattle.sparql_grammar.specs.ValueReading as spec
use Rattle.sparql_grammar.proofs.values.full_rows.Given as goal

abbrev pub invariant-loop-turn : goal.invariant-loop-turn
invariant-loop-turn l = spec.full_rows l.variables l.fn.cursor ≡ more (spec.full_turn l.variables) (l._turn-end - l._turn) l.found l.cursor
