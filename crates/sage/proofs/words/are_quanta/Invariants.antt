use Rattle.std.proofs.Common.{◌≡◌, ◌≤◌, ◌+◌, ◌&&◌, length, option_map}
use Rattle.std.specs.Prelude.{nat_le}
use Rattle.std.specs.List.{list_all}
use Rattle.std.specs.Option.{option_map_or}
use Rattle.sage.specs.Words.{is_quantum, pieces_left, are_quanta}
use Rattle.sage.proofs.words.are_quanta.Given as goal

abbrev pub invariant-pieces : goal.invariant-pieces
invariant-pieces l = let pieces = pieces_left (option_map (λ rest. rest.now) l.left) in record {
  few : l.count ≤ 64;
  same : (list_all is_quantum pieces && nat_le (l.count + length pieces) 64) ≡ are_quanta l.fn.word;
}

abbrev pub decreases-pieces : goal.decreases-pieces
decreases-pieces l = option_map_or (λ rest. length rest.now + 1) l.left 0
