-- What `build DATA STORE` does, by how it ends.
use Rattle.std.specs.Prelude.{◌≡◌, ◌⊎◌, ℕ, List, [], Option, Ok, Err}
use Rattle.term_core.specs.declared.term.Triple.{Triple}
use Rattle.nt_text.specs.declared.fault.DataFault.{DataFault}
use Rattle.sage_outside.specs.Causes.{Rose}
use Rattle.sage_outside.specs.Shelf.{Files, Lacks}
use Rattle.sage.specs.declared.refusal.Refusal.{Refusal}
use Rattle.sage.specs.declared.refusal.Refusal.TheVariants as refusals
use Rattle.sage.specs.World.{Io}
use Rattle.sage.specs.Ending.{Ending, HasGot, HasGotPrefix}
use Rattle.sage.specs.Told.{TellsFile, HasBytes, IsUntouched, IsFileUnread, IsQuiet}
use Rattle.sage.specs.Data.{IsData, IsRefusedDocument, NoData}
use Rattle.sage.specs.StoreFiles.{IsWritten, IsWrittenInPart, IsMade}

-- the store file of the data of the file DATA, and the lines of its header
pub record IsMadeOf (files : Option Files) (data_name image lines : List ℕ) : Type 0 where
  pub document : List ℕ
  pub reads : HasBytes files data_name document
  pub made : IsMade document image lines

-- the document is refused: this is the first cause
pub record IsDocumentRefused (files : Option Files) (data_name : List ℕ) (fault : DataFault) : Type 0 where
  pub document : List ℕ
  pub reads : HasBytes files data_name document
  pub refused : IsRefusedDocument document fault

-- why nothing was made of the file DATA
abbrev pub WhyUnmade : Refusal → List ℕ → Option Files → ℕ → ℕ → Type 0
WhyUnmade refusals.Memory data_name files before now = Unit {0}
WhyUnmade (refusals.File name) data_name files before now = (name ≡ data_name) × (Lacks files data_name ⊎ Rose before now)
WhyUnmade (refusals.Data fault) data_name files before now = IsDocumentRefused files data_name fault
WhyUnmade refusal data_name files before now = ⊥

-- the store file stands at STORE, and no other file changed
pub record IsBuilt (data_name store_name : List ℕ) (before after : Io) (lines : List ℕ) : Type 0 where
  pub image : List ℕ
  pub made : IsMadeOf before.files data_name image lines
  pub written : IsWritten before.files after.files store_name image

-- STORE is as it was or has a prefix of the store file, and no other file changed
pub record HasBegun (data_name store_name : List ℕ) (before after : Io) : Type 0 where
  pub image : List ℕ
  pub lines : List ℕ
  pub made : IsMadeOf before.files data_name image lines
  pub written : IsWrittenInPart before.files after.files store_name image

-- no file changed or STORE has begun to, and nothing was put out
pub record MayHaveBegun (data_name store_name : List ℕ) (before after : Io) : Type 0 where
  pub files : (after.files ≡ before.files) ⊎ HasBegun data_name store_name before after
  pub out : after.out.written ≡ before.out.written

-- STORE was not written whole
pub record IsUnwritten (data_name store_name : List ℕ) (before after : Io) : Type 0 where
  pub rose : Rose before.faults after.faults
  pub begun : HasBegun data_name store_name before after
  pub out : after.out.written ≡ before.out.written

-- the lines of the header were put out
pub record IsBuildDone (data_name store_name : List ℕ) (before after : Io) : Type 0 where
  pub lines : List ℕ
  pub built : IsBuilt data_name store_name before after lines
  pub got : HasGot before.out after.out lines

-- the output failed, and has got a prefix of the lines
pub record IsBuildUntold (data_name store_name : List ℕ) (before after : Io) : Type 0 where
  pub lines : List ℕ
  pub built : IsBuilt data_name store_name before after lines
  pub rose : Rose before.out.faults after.out.faults
  pub prefix : HasGotPrefix before.out after.out lines

-- What `build` does, a line an ending.
abbrev pub Builds : List ℕ → List ℕ → Io → Io → Ending → Type 0
Builds data_name store_name before after (Ok told) = IsBuildDone data_name store_name before after × (told ≡ [])
Builds data_name store_name before after (Err refusals.Memory) = MayHaveBegun data_name store_name before after
Builds data_name store_name before after (Err (refusals.File name)) =
    ((name ≡ data_name) × IsFileUnread [] data_name before after) ⊎ ((name ≡ store_name) × IsUnwritten data_name store_name before after)
Builds data_name store_name before after (Err (refusals.Data fault)) = IsDocumentRefused before.files data_name fault × IsUntouched before after
Builds data_name store_name before after (Err refusals.Output) = IsBuildUntold data_name store_name before after
Builds data_name store_name before after (Err refusals.Words) = ⊥
Builds data_name store_name before after (Err refusals.NotAStore) = ⊥
Builds data_name store_name before after (Err (refusals.DamagedStore block)) = ⊥
Builds data_name store_name before after (Err (refusals.Query cause)) = ⊥

-- Where a status of `build` has to come, want of memory aside.
pub record BuildMust (data_name : List ℕ) (before after : Io) (status : ℕ) : Type 0 where
  pub no_file : Lacks before.files data_name → (status ≡ 3) ⊎ (status ≡ 1)
  pub refuses_data : (document : List ℕ) → TellsFile before.files data_name document → NoData document →
      (Rose before.faults after.faults → ⊥) → (status ≡ 4) ⊎ (status ≡ 1)
  pub complete : (document : List ℕ) → TellsFile before.files data_name document → (triples : List Triple) → IsData document triples →
      IsQuiet before after → (status ≡ 0) ⊎ (status ≡ 1)
