use Rattle.std.proofs.Common.{◌≡◌, ◌*◌, ◌≤◌, ◌++◌, drop, map, flat_map}
use Rattle.std.specs.Int.{w64, to_be_bytes}
use Rattle.term_dict.specs.Built.{places_from}
use Rattle.term_dict.proofs.dict_image.push_places.Given as goal

abbrev pub invariant-loop-t : goal.invariant-loop-t
invariant-loop-t l = record {
  places : l.out.items ++ flat_map (to_be_bytes w64) (places_from l.from (drop l.t-index (map (λ t. t.now) l.terms)))
      ≡ l.initial.out.items ++ flat_map (to_be_bytes w64) (places_from 0 (map (λ t. t.now) l.terms));
  small : l.from ≤ l.t-index * 262153;
}
