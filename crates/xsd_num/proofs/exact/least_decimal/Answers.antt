use Rattle.xsd_num.proofs.Trims.{least_is_kept}
use Rattle.xsd_num.proofs.exact.least_decimal.Goals as goal

pub returns-clause-kept : goal.returns-clause-kept
returns-clause-kept c =
    least_is_kept c.args.minus c.args.magnitude c.args.scale c.trimmed-magnitude.result _ c.trimmed-magnitude.ensures.exact c.held_decimal.ensures
