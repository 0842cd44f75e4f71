use Rattle.std.proofs.Common.{Err, refl, ap, ◌∙◌}
use Rattle.sage.specs.declared.refusal.Refusal.TheVariants as refusals
use Rattle.sage.proofs.Sinks.{ended_so}
use Rattle.sage.proofs.ending.end.Goals as goal

pub returns-in-Err-Memory : goal.returns-in-Err-Memory
returns-in-Err-Memory g c =
    ended_so _ _ _ _ _ _ (c.in-Err-Memory.is ∙ ap Err c.in-Err-Memory.field-0-is) c.tell-in-Err-Memory.ensures.status refl c.tell-in-Err-Memory.ensures.told

pub returns-in-Err-Words : goal.returns-in-Err-Words
returns-in-Err-Words g c =
    ended_so _ _ _ _ _ _ (c.in-Err-Words.is ∙ ap Err c.in-Err-Words.field-0-is) c.tell-in-Err-Words.ensures.status refl c.tell-in-Err-Words.ensures.told

pub returns-in-Err-NotAStore : goal.returns-in-Err-NotAStore
returns-in-Err-NotAStore g c =
    ended_so _ _ _ _ _ _ (c.in-Err-NotAStore.is ∙ ap Err c.in-Err-NotAStore.field-0-is) c.tell-in-Err-NotAStore.ensures.status refl c.tell-in-Err-NotAStore.ensures.told

pub returns : goal.returns
returns g c =
    ended_so _ _ _ _ _ _ (c.in-Err-Output.is ∙ ap Err c.in-Err-Output.field-0-is) c.tell-in-Err-Output.ensures.status refl c.tell-in-Err-Output.ensures.told

pub returns-in-Ok-file_message : goal.returns-in-Ok-file_message
returns-in-Ok-file_message g c =
    ended_so _ _ _ _ _ _ (c.in-Err-File.is ∙ ap Err c.in-Err-File.field-0-is) c.tell-in-Ok-file_message.ensures.status
    (c.deref.ensures.value ∙ c.in-Ok-file_message.ensures) c.tell-in-Ok-file_message.ensures.told

pub returns-in-Ok-block_message : goal.returns-in-Ok-block_message
returns-in-Ok-block_message g c =
    ended_so _ _ _ _ _ _ (c.in-Err-DamagedStore.is ∙ ap Err (c.in-Err-DamagedStore.field-0-is ∙ ap refusals.DamagedStore c.in-Err-DamagedStore.block-is)) c.tell-in-Ok-block_message.ensures.status
    (c.as_bytes-in-Ok-block_message.ensures.value ∙ c.in-Ok-block_message.ensures) c.tell-in-Ok-block_message.ensures.told
