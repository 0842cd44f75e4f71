use Rattle.std.proofs.Common.{◌≡◌, ◌+◌, ◌*◌, ◌≤◌, length, drop, map, max}
use Rattle.term_dict.specs.Built.{records_of, longest_of}
use Rattle.term_dict.proofs.dict_image.extent_of.Given as goal

abbrev pub invariant-loop-t : goal.invariant-loop-t
invariant-loop-t l = record {
  bytes : l.bytes + length (records_of (drop l.t-index (map (λ t. t.now) l.terms))) ≡ length (records_of (map (λ t. t.now) l.terms));
  longest : max l.longest (longest_of (drop l.t-index (map (λ t. t.now) l.terms))) ≡ longest_of (map (λ t. t.now) l.terms);
  small : l.bytes ≤ l.t-index * 262153;
}
