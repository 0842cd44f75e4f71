use Rattle.std.proofs.Common.{◌≡◌, ◌+◌, ◌++◌, length, option_map}
use Rattle.std.specs.List.{filter_map}
use Rattle.std.specs.Option.{option_map_or}
use Rattle.sage.specs.Words.{quantum_of, pieces_of, pieces_left}
use Rattle.sage.proofs.words.read_quanta.Given as goal

abbrev pub invariant-pieces : goal.invariant-pieces
invariant-pieces l = l.quanta ++ filter_map quantum_of (pieces_left (option_map (λ rest. rest.now) l.left)) ≡ filter_map quantum_of (pieces_of l.fn.word)

abbrev pub decreases-pieces : goal.decreases-pieces
decreases-pieces l = option_map_or (λ rest. length rest.now + 1) l.left 0
