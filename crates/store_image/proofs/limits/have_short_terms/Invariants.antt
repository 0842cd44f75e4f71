use Rattle.std.proofs.Common.{◌≤◌, take, flat_map}
use Rattle.term_core.specs.declared.term.Term.{Term}
use Rattle.term_core.specs.Order.{size_of}
use Rattle.term_core.specs.Bags.{In}
use Rattle.term_core.specs.Data.{parts}
use Rattle.store_image.proofs.limits.have_short_terms.Given as goal

abbrev pub invariant-loop-triple : goal.invariant-loop-triple
invariant-loop-triple l = record {
  before : (t : Term) → In (flat_map parts (take l.triple-index l.triples)) t → size_of t ≤ 262144;
}
