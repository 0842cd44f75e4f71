use Rattle.xsd_num.proofs.Quotients.{one_digit_more, one_digit_below}
use Rattle.std.proofs.lemmas.Nat.{mod_below}
use Rattle.std.proofs.Common.{◌*◌, arith}
use Rattle.xsd_num.proofs.division.fraction_of.Goals as goal

pub loop-place-preserved : goal.loop-place-preserved
loop-place-preserved c = record {
  left = mod_below (c.loop-place.left * 10) c.args.divisor (omega arith);
  value = one_digit_more c.loop-place.digits c.loop-place.left c.args.divisor c.args.rest c.loop-place.place c.loop-place.invariant.value;
  bound = one_digit_below c.loop-place.digits c.loop-place.left c.args.divisor c.loop-place.place c.loop-place.invariant.left c.loop-place.invariant.bound;
}
