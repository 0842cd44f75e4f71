use Rattle.std.proofs.Common.{◌∙◌, arith, sym, inl, inr}
use Rattle.xsd_num.proofs.Digits.{zero_goes, front_stays, front_digits}
use Rattle.xsd_num.proofs.lexical.without_zeros.Goals as goal
use Rattle.xsd_num.proofs.lexical.without_zeros.Goals.{then-loop-end-test+else-digits-end-eq48, else-loop-end-test}

pub loop-end-preserved : goal.loop-end-preserved
loop-end-preserved c = record {
  within = omega arith;
  trims = λ n. zero_goes c.args.digits.now c.loop-end.end n (omega arith) c.loop-end.invariant.within c.if-digits-end-eq48.true ∙ c.loop-end.invariant.trims n;
}

pub returns-clause-trims : goal.returns-clause-trims
returns-clause-trims c =
    elim c.loop-end-test.branch [
      | then-loop-end-test+else-digits-end-eq48 w ↦
          λ n. sym (c.loop-end.invariant.trims n) ∙ front_stays c.args.digits.now c.loop-end.end n c.requires c.loop-end.invariant.within (inr w.if-digits-end-eq48.false)
      | else-loop-end-test w ↦
          λ n. sym (c.loop-end.invariant.trims n) ∙ front_stays c.args.digits.now c.loop-end.end n c.requires c.loop-end.invariant.within (inl (omega arith))
    ]

pub returns-clause-digits : goal.returns-clause-digits
returns-clause-digits c = front_digits c.args.digits.now c.loop-end.end c.requires
