use Rattle.std.proofs.Common.{◌≡◌, ◌-◌}
use Rattle.sparql_grammar.specs.Parser.{more}
use Rattle.sparql_grammar.specs.TripleReading as spec
use Rattle.sparql_grammar.proofs.triples.object_rest.Given as goal

abbrev pub invariant-loop-turn : goal.invariant-loop-turn
invariant-loop-turn l = spec.object_rest l.subject l.predicate l.fn.found l.fn.cursor ≡ more (spec.object_turn l.subject l.predicate) (l._turn-end - l._turn) l.found l.cursor
