use Rattle.part_texts.proofs.Laws.{texts-read-back}
use Rattle.part_texts.proofs.law.part_texts_read_back.Goals as goal

pub returns : goal.returns
returns c = texts-read-back
