-- How a command ends: with what it tells standard error, or with a refusal; and the status and the message of each.
use Rattle.std.specs.Prelude.{◌≡◌, ◌⊎◌, ◌++◌, ℕ, List, [], ◌∷◌, take, Some, Result, Ok, Err, codes}
use Rattle.std.specs.Fmt.{decimal}
use Rattle.sage_outside.specs.Causes.{Rose}
use Rattle.sage.specs.declared.refusal.Refusal.{Refusal}
use Rattle.sage.specs.declared.refusal.Refusal.TheVariants as refusals
use Rattle.sage.specs.World.{SinkState}
use Rattle.sage.specs.Data.{data_message}
use Rattle.sage.specs.QueryMessages.{query_message}

-- what a command that ended well tells standard error, or why it was refused
abbrev pub Ending : Type 0
Ending = Result (List ℕ) Refusal

-- the status that the program ends with
abbrev pub status_of : Ending → ℕ
status_of (Ok told) = 0
status_of (Err refusals.Memory) = 1
status_of (Err refusals.Words) = 2
status_of (Err (refusals.File name)) = 3
status_of (Err (refusals.Data fault)) = 4
status_of (Err refusals.NotAStore) = 5
status_of (Err (refusals.DamagedStore block)) = 5
status_of (Err (refusals.Query cause)) = 6
status_of (Err refusals.Output) = 9

-- the line for a file that is not read or written
abbrev pub file_message : List ℕ → List ℕ
file_message name = codes "sage: file " ++ (name ++ 10 ∷ [])

-- the line for a block of a store file that is not well formed
abbrev pub block_message : ℕ → List ℕ
block_message block = codes "sage: store block " ++ (decimal block ++ codes "\n")

-- what standard error is told
abbrev pub message_of : Ending → List ℕ
message_of (Ok told) = told
message_of (Err refusals.Memory) = codes "sage: memory\n"
message_of (Err refusals.Words) = codes "sage: words\n"
message_of (Err (refusals.File name)) = file_message name
message_of (Err (refusals.Data fault)) = data_message fault
message_of (Err refusals.NotAStore) = codes "sage: not a store\n"
message_of (Err (refusals.DamagedStore block)) = block_message block
message_of (Err (refusals.Query cause)) = query_message cause
message_of (Err refusals.Output) = codes "sage: output\n"

-- the refusal names the file, or there was no memory for its name
abbrev pub NamesFile : List ℕ → Refusal → Type 0
NamesFile name refusals.Memory = Unit {0}
NamesFile name (refusals.File other) = other ≡ name
NamesFile name refusal = ⊥

-- a sink whose bytes are known has got the text behind what it had
abbrev pub HasGot : SinkState → SinkState → List ℕ → Type 0
HasGot before after text = (old : List ℕ) → before.written ≡ Some old → after.written ≡ Some (old ++ text)

-- a sink whose bytes are known has got a prefix of the text
abbrev pub HasGotPrefix : SinkState → SinkState → List ℕ → Type 0
HasGotPrefix before after text = (old : List ℕ) → before.written ≡ Some old → (n : ℕ) × (after.written ≡ Some (old ++ take n text))

-- the text was told, or a prefix of it where the sink's faults rose
abbrev pub IsTold : SinkState → SinkState → List ℕ → Type 0
IsTold before after text = HasGot before after text ⊎ (Rose before.faults after.faults × HasGotPrefix before after text)

-- the status of an ending, whose message was told
pub record IsEnded (ending : Ending) (before after : SinkState) (status : ℕ) : Type 0 where
  pub status_is : status ≡ status_of ending
  pub told : IsTold before after (message_of ending)

-- a refusal whose message takes memory
abbrev pub TakesMemory : Ending → Type 0
TakesMemory (Ok told) = ⊥
TakesMemory (Err (refusals.File name)) = Unit {0}
TakesMemory (Err (refusals.Data fault)) = Unit {0}
TakesMemory (Err (refusals.DamagedStore block)) = Unit {0}
TakesMemory (Err (refusals.Query cause)) = Unit {0}
TakesMemory (Err refusal) = ⊥

-- it was ended so, or its message found no memory
abbrev pub Ends : Ending → SinkState → SinkState → ℕ → Type 0
Ends ended before after status = IsEnded ended before after status ⊎ (TakesMemory ended × IsEnded (Err refusals.Memory) before after status)
