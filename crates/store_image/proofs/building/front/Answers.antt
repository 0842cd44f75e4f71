use Rattle.std.proofs.Common.{subst}
use Rattle.term_dict.specs.Built.{AreTexts}
use Rattle.store_image.proofs.building.front.Goals as goal

pub returns-clause-texts : goal.returns-clause-texts
returns-clause-texts c = subst AreTexts c.terms-2.ensures c.in_ok-push_record_blocks.ensures.texts
