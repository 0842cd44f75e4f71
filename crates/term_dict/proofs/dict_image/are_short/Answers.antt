use Rattle.std.proofs.Common.{◌≡◌, ◌≤◌, arith, refl, Some}
use Rattle.std.specs.List.{slice_get}
use Rattle.std.proofs.lemmas.Option.{slice_get_read}
use Rattle.term_core.specs.Order.{size_of}
use Rattle.term_dict.proofs.Ranks.{inside}
use Rattle.term_dict.proofs.Steps.{before_more}
use Rattle.term_dict.proofs.dict_image.are_short.Goals as goal

pub loop-t-preserved : goal.loop-t-preserved
loop-t-preserved c =
    let t = c.t-item.result in
    let at : slice_get c.args.terms.now c.loop-t.t-index ≡ Some t = slice_get_read c.args.terms.now _ c.loop-t.t-index t refl c.loop-t-test.true c.t-item.is in
    record { before = before_more (λ u. size_of u ≤ 262144) c.args.terms.now c.loop-t.t-index t at (omega (arith, c.size.ensures, c.if-size-gt262144.false)) c.loop-t.invariant.before }

pub returns : goal.returns
returns c = (λ e k t at. c.loop-t.invariant.before k t (omega (arith, inside c.args.terms.now k t at)) at, λ short. refl)
