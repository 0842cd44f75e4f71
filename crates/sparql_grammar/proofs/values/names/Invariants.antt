use Rattle.std.proofs.Common.{◌≡◌, ◌-◌}
use Rattle.sparql_grammar.specs.Parser.{more}
use Rattle.sparql_grammar.specs.ValueReading as spec
use Rattle.sparql_grammar.proofs.values.names.Given as goal

abbrev pub invariant-loop-turn : goal.invariant-loop-turn
invariant-loop-turn l = spec.names l.fn.cursor ≡ more (spec.names_turn) (l._turn-end - l._turn) l.found l.cursor
