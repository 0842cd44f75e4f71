use Rattle.xsd_num.proofs.Scales.{least_value}
use Rattle.xsd_num.proofs.law.least_decimals_keep_values.Goals as goal

pub returns : goal.returns
returns c minus n s a e = least_value minus n s a e
