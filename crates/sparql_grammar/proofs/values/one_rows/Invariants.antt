use Rattle.std.proofs.Common.{◌≡◌, ◌-◌}
use Rattle.sparql_grammar.specs.Parser.{more}
use Rattle.sparql_grammar.specs.ValueReading as spec
use Rattle.sparql_grammar.proofs.values.one_rows.Given as goal

abbrev pub invariant-loop-turn : goal.invariant-loop-turn
invariant-loop-turn l = spec.one_rows l.variables l.fn.cursor ≡ more (spec.one_turn l.variables) (l._turn-end - l._turn) l.found l.cursor
