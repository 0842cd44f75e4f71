use Rattle.std.proofs.Common.{◌≡◌, ◌≤◌, map, true, false, arith, refl, Some}
use Rattle.std.specs.List.{slice_get}
use Rattle.std.proofs.lemmas.List.{length-map}
use Rattle.term_core.specs.Order.{size_of}
use Rattle.term_dict.proofs.Ranks.{inside}
use Rattle.term_dict.proofs.Steps.{mapped_at, before_more}
use Rattle.term_dict.proofs.dict_image.lent_are_short.Goals as goal

pub returns-then-size-gt262144 : goal.returns-then-size-gt262144
returns-then-size-gt262144 c = (
  λ e. absurd (let f : false ≡ true = e in cc),
  λ short.
      let t = c.t-item.result.now in
      let le : size_of t ≤ 262144 = short c.loop-t.t-index t (mapped_at (λ t. t.now) c.args.terms.now c.loop-t.t-index c.t-item.result c.loop-t-test.true c.t-item.is) in
      absurd (omega (arith, c.size.ensures, c.if-size-gt262144.true)),
)

pub loop-t-preserved : goal.loop-t-preserved
loop-t-preserved c =
    let t = c.t-item.result.now in
    let ts = map (λ t. t.now) c.args.terms.now in
    let at : slice_get ts c.loop-t.t-index ≡ Some t = mapped_at (λ t. t.now) c.args.terms.now c.loop-t.t-index c.t-item.result c.loop-t-test.true c.t-item.is in
    record { before = before_more (λ u. size_of u ≤ 262144) ts c.loop-t.t-index t at (omega (arith, c.size.ensures, c.if-size-gt262144.false)) c.loop-t.invariant.before }

pub returns : goal.returns
returns c = (
  λ e k t at. c.loop-t.invariant.before k t (omega (arith, inside (map (λ t. t.now) c.args.terms.now) k t at, length-map c.args.terms.now (λ t. t.now))) at,
  λ short. refl,
)
