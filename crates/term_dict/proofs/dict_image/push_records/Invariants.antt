use Rattle.std.proofs.Common.{◌≡◌, ◌<◌, ◌++◌, ℕ, drop, map, Some}
use Rattle.std.specs.List.{slice_get}
use Rattle.term_core.specs.declared.term.Term.{Term}
use Rattle.term_dict.specs.Built.{records_of, IsText}
use Rattle.term_dict.proofs.dict_image.push_records.Given as goal

abbrev pub invariant-loop-t : goal.invariant-loop-t
invariant-loop-t l = record {
  records : l.out.items ++ records_of (drop l.t-index (map (λ t. t.now) l.terms)) ≡ l.initial.out.items ++ records_of (map (λ t. t.now) l.terms);
  texts : (k : ℕ) (u : Term) → k < l.t-index → slice_get (map (λ t. t.now) l.terms) k ≡ Some u → IsText u;
}
