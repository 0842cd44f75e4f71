use Rattle.part_texts.proofs.Laws.{parts-read-back}
use Rattle.part_texts.proofs.law.parts_are_read_back.Goals as goal

pub returns : goal.returns
returns c = parts-read-back
