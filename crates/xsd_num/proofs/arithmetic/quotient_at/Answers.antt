use Rattle.std.proofs.Common.{◌∙◌, sym}
use Rattle.term_core.specs.Numbers.{at_scale}
use Rattle.xsd_num.specs.Values.{number_of}
use Rattle.xsd_num.proofs.Held.{quotient_combined, divisor_positive, quotient_kept}
use Rattle.xsd_num.proofs.arithmetic.quotient_at.Goals as goal

pub cut_quotient-requires : goal.cut_quotient-requires
cut_quotient-requires c = divisor_positive c.args.to (number_of c.args.b) c.in_ok-y.y c.requires.divisor (sym c.at_scale-2.ensures ∙ c.in_ok-y.was)

pub returns-clause-exact : goal.returns-clause-exact
returns-clause-exact c =
    quotient_combined c.args.to (number_of c.args.a) (number_of c.args.b) c.in_ok-x.x c.in_ok-y.y c.cut_quotient.result
    (sym c.at_scale.ensures ∙ c.in_ok-x.was) (sym c.at_scale-2.ensures ∙ c.in_ok-y.was) c.cut_quotient.ensures

pub returns-clause-kept : goal.returns-clause-kept
returns-clause-kept c =
    quotient_kept (at_scale c.args.to (number_of c.args.a)) (at_scale c.args.to (number_of c.args.b)) c.cut_quotient.result (returns-clause-exact c)
