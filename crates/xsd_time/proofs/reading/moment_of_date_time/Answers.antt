use Rattle.std.proofs.Common.{◌∙◌}
use Rattle.xsd_time.proofs.Forms.{date_time_by}
use Rattle.xsd_time.proofs.reading.moment_of_date_time.Goals as goal

pub returns : goal.returns
returns c =
    c.moment_of_parts.ensures
    ∙ date_time_by c.args.text.now _ _ _ _ _ c.begins_date_time.ensures.exact c.if-not-begins_date_time.false
    c.day_at_front.ensures.exact c.second_at_front.ensures.exact
    (rw c.split_at.ensures.back at c.fraction_of-nanos.ensures.nanos) (rw c.split_at.ensures.back at c.fraction_of-nanos.ensures.rest)
