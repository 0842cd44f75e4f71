use Rattle.std.proofs.Common.{◌∙◌}
use Rattle.store_image.proofs.TableSlots.{last_read}
use Rattle.store_image.proofs.table.is_at_end.Goals as goal

pub returns-in-Some : goal.returns-in-Some
returns-in-Some c = c.eq.ensures ∙ last_read c.args.terms.now c.in-Some.last.now c.args.term.now c.in-Some.ensures.value
