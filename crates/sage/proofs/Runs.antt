-- From how a command ends to what a run does: a line a command.
use Rattle.std.proofs.Common.{◌≡◌, ℕ, List, Option, Some, None, Err, inl, inr, sym, ap, subst}
use Rattle.sage.specs.declared.refusal.Refusal.TheVariants as refusals
use Rattle.sage.specs.declared.words.Command.{Command}
use Rattle.sage.specs.declared.words.Command.TheVariants.{Try, Build, Info}
use Rattle.sage.specs.Words.{command_of}
use Rattle.sage.specs.World.{SinkState, Io, world}
use Rattle.sage.specs.Ending.{Ending, status_of, message_of, IsTold, TakesMemory, Ends}
use Rattle.sage.specs.Runs.{Does, Must, KeepsFiles, MayPutOut, Runs}
use Rattle.sage.proofs.Tries.{try_must, try_wants, try_unwritten, try_keeps}
use Rattle.sage.proofs.Builds.{build_must, build_wants, build_unwritten, build_keeps}
use Rattle.sage.proofs.Informs.{info_must, info_wants, info_unwritten, info_keeps}

-- words that spell no command end with the words
words_status : (ending : Ending) → ending ≡ Err refusals.Words → status_of ending ≡ 2
words_status ending is = ap status_of is

must : (c : Option Command) (before after : Io) (ending : Ending) → Does c before after ending → Must c before after (status_of ending)
must None before after ending h = words_status ending h.0
must (Some (Try data_name query_name quanta)) before after ending h = try_must data_name query_name quanta before after ending h
must (Some (Build data_name store_name)) before after ending h = build_must data_name store_name before after ending h
must (Some (Info store_name)) before after ending h = info_must store_name before after ending h

-- the words' message takes no memory
words_message : (ending : Ending) → TakesMemory ending → ending ≡ Err refusals.Words → ⊥
words_message ending takes is = subst TakesMemory is takes

wants : (c : Option Command) (before after : Io) (ending : Ending) → TakesMemory ending → Does c before after ending → Does c before after (Err refusals.Memory)
wants None before after ending takes h = absurd (words_message ending takes h.0)
wants (Some (Try data_name query_name quanta)) before after ending takes h = try_wants data_name query_name quanta before after ending takes h
wants (Some (Build data_name store_name)) before after ending takes h = build_wants data_name store_name before after ending takes h
wants (Some (Info store_name)) before after ending takes h = info_wants store_name before after ending takes h

unwritten : (c : Option Command) (before after : Io) (ending : Ending) → (MayPutOut ending → ⊥) → Does c before after ending → after.out.written ≡ before.out.written
unwritten None before after ending none h = h.1.out
unwritten (Some (Try data_name query_name quanta)) before after ending none h = try_unwritten data_name query_name quanta before after ending none h
unwritten (Some (Build data_name store_name)) before after ending none h = build_unwritten data_name store_name before after ending none h
unwritten (Some (Info store_name)) before after ending none h = info_unwritten store_name before after ending none h

keeps : (c : Option Command) (before after : Io) (ending : Ending) → Does c before after ending → KeepsFiles c before.files after.files
keeps None before after ending h = h.1.files
keeps (Some (Try data_name query_name quanta)) before after ending h = try_keeps data_name query_name quanta before after ending h
keeps (Some (Build data_name store_name)) before after ending h = build_keeps data_name store_name before after ending h
keeps (Some (Info store_name)) before after ending h = info_keeps store_name before after ending h

module _ (words : List (List ℕ)) (before after : Io) (err_before err_after : SinkState) (status : ℕ) where
  ended : (ending : Ending) → status ≡ status_of ending → Does (command_of words) before after ending → (told : IsTold err_before err_after (message_of ending)) → Runs words (world before err_before) (world after err_after) status
  ended ending status_is does told = record {
    ending = ending;
    status_is = status_is;
    told = told;
    does = does;
    unwritten = λ none. unwritten (command_of words) before after ending none does;
    keeps = keeps (command_of words) before after ending does;
  }

  module _ (ending : Ending) (does : Does (command_of words) before after ending) (ends : Ends ending err_before err_after status) where
    -- what the run does
    pub runs : Runs words (world before err_before) (world after err_after) status
    runs = (elim ends [
      | inl e ↦ ended ending e.status_is does e.told
      | inr e ↦ ended (Err refusals.Memory) e.1.status_is (wants (command_of words) before after ending e.0 does) e.1.told
    ])

    -- and where its status has to come
    pub run_must : Must (command_of words) before after status
    run_must = subst (Must (command_of words) before after) (sym runs.status_is) (must (command_of words) before after runs.ending runs.does)
