use Rattle.std.proofs.Common.{◌-◌, ◌^◌, sym, ◌∙◌}
use Rattle.xsd_num.specs.Values.{number_of}
use Rattle.term_core.specs.Numbers.{numerator, scale}
use Rattle.xsd_num.proofs.Places.{less_by_sign, greater_by_sign, power_positive, negatives_turn}
use Rattle.xsd_num.proofs.order.cmp.Goals as goal

pub returns-in-true-false : goal.returns-in-true-false
returns-in-true-false c =
    sym (less_by_sign (numerator (number_of c.args.a)) (numerator (number_of c.args.b)) (10 ^ (18 - scale (number_of c.args.a))) (10 ^ (18 - scale (number_of c.args.b)))
    (sym c.in-true-false.ensures) (sym c.in-true-false.ensures') (power_positive (18 - scale (number_of c.args.a))))

pub returns-in-false-true : goal.returns-in-false-true
returns-in-false-true c =
    sym (greater_by_sign (numerator (number_of c.args.a)) (numerator (number_of c.args.b)) (10 ^ (18 - scale (number_of c.args.a))) (10 ^ (18 - scale (number_of c.args.b)))
    (sym c.in-false-true.ensures) (sym c.in-false-true.ensures') (power_positive (18 - scale (number_of c.args.b))))

pub returns-in-true-true : goal.returns-in-true-true
returns-in-true-true c =
    c.cmp_magnitudes.ensures
    ∙ negatives_turn (numerator (number_of c.args.a)) (numerator (number_of c.args.b)) (10 ^ (18 - scale (number_of c.args.a))) (10 ^ (18 - scale (number_of c.args.b)))
    (sym c.in-true-true.ensures) (sym c.in-true-true.ensures') (power_positive (18 - scale (number_of c.args.a))) (power_positive (18 - scale (number_of c.args.b)))
