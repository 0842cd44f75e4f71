use Rattle.std.proofs.Common.{arith}
use Rattle.xsd_num.proofs.Places.{parts_value, fraction_below}
use Rattle.xsd_num.proofs.order.parts.Goals as goal

pub overflow_mul-result : goal.overflow_mul-result
overflow_mul-result c =
    rw (c.power-unit.ensures.exact, c.power.ensures.exact) (let b = fraction_below c.args.magnitude c.args.scale c.requires in record { fits = omega arith })

pub returns-clause-value : goal.returns-clause-value
returns-clause-value c =
    rw (c.power-unit.ensures.exact, c.power.ensures.exact) (parts_value c.args.magnitude c.args.scale c.requires)

pub returns-clause-fraction : goal.returns-clause-fraction
returns-clause-fraction c =
    rw (c.power-unit.ensures.exact, c.power.ensures.exact) (fraction_below c.args.magnitude c.args.scale c.requires)
