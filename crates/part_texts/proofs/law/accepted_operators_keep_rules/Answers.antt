use Rattle.part_texts.proofs.Laws.{queries-keep, parts-keep}
use Rattle.part_texts.proofs.law.accepted_operators_keep_rules.Goals as goal

pub returns : goal.returns
returns c = record { queries = queries-keep; parts = parts-keep }
