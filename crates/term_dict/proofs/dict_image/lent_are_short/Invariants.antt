use Rattle.std.proofs.Common.{◌≡◌, ◌≤◌, ◌<◌, ℕ, map, Some}
use Rattle.std.specs.List.{slice_get}
use Rattle.term_core.specs.declared.term.Term.{Term}
use Rattle.term_core.specs.Order.{size_of}
use Rattle.term_dict.proofs.dict_image.lent_are_short.Given as goal

abbrev pub invariant-loop-t : goal.invariant-loop-t
invariant-loop-t l = record {
  before : (k : ℕ) (u : Term) → k < l.t-index → slice_get (map (λ t. t.now) l.terms) k ≡ Some u → size_of u ≤ 262144;
}
