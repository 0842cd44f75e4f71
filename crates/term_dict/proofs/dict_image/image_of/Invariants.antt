use Rattle.std.proofs.Common.{◌≡◌, ◌*◌, ◌≤◌, ◌<◌, ◌++◌, ℕ, length, drop, max, Some}
use Rattle.std.specs.List.{slice_get}
use Rattle.term_core.specs.declared.term.Term.{Term}
use Rattle.term_dict.specs.Built.{records_of, places_from, longest_of, IsText}
use Rattle.term_dict.proofs.dict_image.image_of.Given as goal

abbrev pub invariant-loop-t : goal.invariant-loop-t
invariant-loop-t l = record {
  records : l.records.items ++ records_of (drop l.t-index l.terms) ≡ records_of l.terms;
  places : l.places ++ places_from (length l.records.items) (drop l.t-index l.terms) ≡ places_from 0 l.terms;
  longest : max l.longest (longest_of (drop l.t-index l.terms)) ≡ longest_of l.terms;
  small : length l.records.items ≤ l.t-index * 262153;
  texts : (k : ℕ) (u : Term) → k < l.t-index → slice_get l.terms k ≡ Some u → IsText u;
}
