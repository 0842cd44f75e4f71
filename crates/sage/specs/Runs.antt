-- What a run does. A further command has a line in `Does`, `Must` and `KeepsFiles`.
use Rattle.std.specs.Prelude.{◌≡◌, ◌⊎◌, ℕ, List, Option, Some, None, Ok, Err}
use Rattle.sage_outside.specs.Shelf.{Files}
use Rattle.sage.specs.declared.words.Command.{Command}
use Rattle.sage.specs.declared.words.Command.TheVariants.{Try, Build, Info}
use Rattle.sage.specs.declared.refusal.Refusal.TheVariants as refusals
use Rattle.sage.specs.Words.{command_of}
use Rattle.sage.specs.World.{Io, World}
use Rattle.sage.specs.Ending.{Ending, status_of, message_of, IsTold}
use Rattle.sage.specs.Told.{IsUntouched}
use Rattle.sage.specs.StoreFiles.{IsWritten}
use Rattle.sage.specs.Try.{Tries, TryMust}
use Rattle.sage.specs.Build.{Builds, BuildMust}
use Rattle.sage.specs.Info.{Informs, InfoMust}

-- what a command does, by how it ends; words that spell no command end so, and nothing is done
abbrev pub Does : Option Command → Io → Io → Ending → Type 0
Does None before after ending = (ending ≡ Err refusals.Words) × IsUntouched before after
Does (Some (Try data_name query_name quanta)) before after ending = Tries data_name query_name quanta before after ending
Does (Some (Build data_name store_name)) before after ending = Builds data_name store_name before after ending
Does (Some (Info store_name)) before after ending = Informs store_name before after ending

-- where a status has to come
abbrev pub Must : Option Command → Io → Io → ℕ → Type 0
Must None before after status = status ≡ 2
Must (Some (Try data_name query_name quanta)) before after status = TryMust data_name query_name before after status
Must (Some (Build data_name store_name)) before after status = BuildMust data_name before after status
Must (Some (Info store_name)) before after status = InfoMust store_name before after status

-- no file changed, but for the store file of `build`
abbrev pub KeepsFiles : Option Command → Option Files → Option Files → Type 0
KeepsFiles None before after = after ≡ before
KeepsFiles (Some (Try data_name query_name quanta)) before after = after ≡ before
KeepsFiles (Some (Build data_name store_name)) before after = (after ≡ before) ⊎ ((bytes : List ℕ) × IsWritten before after store_name bytes)
KeepsFiles (Some (Info store_name)) before after = after ≡ before

-- the work was done, or the output failed
abbrev pub MayPutOut : Ending → Type 0
MayPutOut (Ok told) = Unit {0}
MayPutOut (Err refusals.Output) = Unit {0}
MayPutOut (Err refusal) = ⊥

-- A run ended so.
pub record Runs (words : List (List ℕ)) (before after : World) (status : ℕ) : Type 0 where
  pub ending : Ending
  pub status_is : status ≡ status_of ending
  -- standard error got the ending's message, or a prefix of it where its faults rose
  pub told : IsTold before.err after.err (message_of ending)
  pub does : Does (command_of words) before.io after.io ending
  -- nothing was put out, unless the work was done or the output failed
  pub unwritten : (MayPutOut ending → ⊥) → after.io.out.written ≡ before.io.out.written
  pub keeps : KeepsFiles (command_of words) before.io.files after.io.files
