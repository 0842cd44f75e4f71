use Rattle.std.proofs.Common.{◌≡◌, ◌≤◌, true, false}
use Rattle.term_core.specs.Order.{size_of}
use Rattle.store_image.proofs.Sizes.{terms_more, terms_of_one}
use Rattle.store_image.proofs.limits.have_short_terms.Goals as goal

pub returns-then-not-has_short_terms : goal.returns-then-not-has_short_terms
returns-then-not-has_short_terms c = (
  λ e. absurd (let f : false ≡ true = e in cc),
  λ short.
      let one : c.has_short_terms.result ≡ true = c.has_short_terms.ensures.1 (λ t i. short t (terms_of_one c.args.triples.now c.loop-triple.triple-index c.triple-item.result c.loop-triple-test.true c.triple-item.is t i)) in
      let none : c.has_short_terms.result ≡ false = c.if-not-has_short_terms.true in
      cc,
)

pub loop-triple-preserved : goal.loop-triple-preserved
loop-triple-preserved c = record {
  before = terms_more (λ t. size_of t ≤ 262144) c.args.triples.now c.loop-triple.triple-index c.triple-item.result c.loop-triple-test.true c.triple-item.is
      (c.has_short_terms.ensures.0 c.if-not-has_short_terms.false) c.loop-triple.invariant.before;
}
