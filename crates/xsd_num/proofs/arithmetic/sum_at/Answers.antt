use Rattle.std.proofs.Common.{◌+ℤ◌, sym, ◌∙◌}
use Rattle.xsd_num.specs.Values.{number_of}
use Rattle.xsd_num.proofs.Held.{combined_is}
use Rattle.xsd_num.proofs.arithmetic.sum_at.Goals as goal

pub returns-clause-exact : goal.returns-clause-exact
returns-clause-exact c =
    combined_is (λ x y. x +ℤ y) c.args.to (number_of c.args.a) (number_of c.args.b) c.are_whole.result c.in_ok-x.x c.in_ok-y.y c.in_ok-m.m c.made.result
    (sym c.at_scale.ensures ∙ c.in_ok-x.was) (sym c.at_scale-2.ensures ∙ c.in_ok-y.was) (sym c.sum.ensures ∙ c.in_ok-m.was)
    c.are_whole.ensures c.made.ensures.exact
