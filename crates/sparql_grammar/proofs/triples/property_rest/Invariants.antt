use Rattle.std.proofs.Common.{◌≡◌, ◌-◌}
use Rattle.sparql_grammar.specs.Parser.{repeat}
use Rattle.sparql_grammar.specs.TripleReading as spec
use Rattle.sparql_grammar.proofs.triples.property_rest.Given as goal

abbrev pub invariant-loop-turn : goal.invariant-loop-turn
invariant-loop-turn l = spec.property_rest l.subject l.fn.found l.fn.cursor ≡ repeat (spec.property_turn l.subject) (l._turn-end - l._turn) l.found l.cursor
