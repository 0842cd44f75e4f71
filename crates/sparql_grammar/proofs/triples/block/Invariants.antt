use Rattle.std.proofs.Common.{◌≡◌, ◌-◌}
use Rattle.sparql_grammar.specs.TripleReading as spec
use Rattle.sparql_grammar.proofs.triples.block.Given as goal

abbrev pub invariant-loop-turn : goal.invariant-loop-turn
invariant-loop-turn l = spec.block l.fn.cursor ≡ spec.block_within (l._turn-end - l._turn) l.found l.cursor
