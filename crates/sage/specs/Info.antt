-- What `info STORE` does, by how it ends. STORE is read by its first block, so it is spoken of where its contents are known.
use Rattle.std.specs.Prelude.{◌≡◌, ◌⊎◌, ℕ, List, [], length, Option, Ok, Err}
use Rattle.sage_outside.specs.Causes.{Rose}
use Rattle.sage_outside.specs.Shelf.{Files, Lacks}
use Rattle.sage_outside.specs.Blocks.{block_at, block_count, image_of}
use Rattle.store_image.specs.declared.header.Header.{Header}
use Rattle.store_image.specs.Header.{IsBroken}
use Rattle.triple_store.specs.Stores.{IsNoStore}
use Rattle.sage.specs.declared.refusal.Refusal.{Refusal}
use Rattle.sage.specs.declared.refusal.Refusal.TheVariants as refusals
use Rattle.sage.specs.World.{Io}
use Rattle.sage.specs.declared.info_lines.HeaderFault.{HeaderFault}
use Rattle.sage.specs.declared.info_lines.HeaderFault.TheVariants as faults
use Rattle.sage.specs.Ending.{Ending, NamesFile}
use Rattle.sage.specs.Told.{TellsFile, IsUntouched, IsFileUnread, IsQuiet}
use Rattle.sage.specs.StoreFiles.{HasHeader, TellHeader, IsToldOf, IsToldInPart}

-- what holds of the file of a name, which is not lacking, where its contents are known
pub record OverFile (files : Option Files) (name : List ℕ) (P : List ℕ → Type 0) : Type 0 where
  pub there : Lacks files name → ⊥
  pub holds : (file : List ℕ) → TellsFile files name file → P file

-- the lines tell the header of the file
abbrev pub AreHeaderLines : List ℕ → List ℕ → Type 0
AreHeaderLines lines file = TellHeader (block_at 0 (image_of file)) (block_count (length file)) lines

-- the file has no header
abbrev pub NoHeader : List ℕ → Type 0
NoHeader file = (header : Header) → HasHeader file header → ⊥

-- the file's first block is no header, and no damaged one
abbrev pub NoStore : List ℕ → Type 0
NoStore file = IsNoStore (block_at 0 (image_of file)) (block_count (length file))

-- the file's first block has the mark of format 2 and not its tag; it is block 0
abbrev pub HasDamagedHeader : ℕ → List ℕ → Type 0
HasDamagedHeader block file = (block ≡ 0) × IsBroken (block_at 0 (image_of file))

-- why there are no lines of the file STORE
abbrev pub WhyNoLines : Refusal → List ℕ → Option Files → ℕ → ℕ → Type 0
WhyNoLines refusals.Memory store_name files before now = Unit {0}
WhyNoLines (refusals.File name) store_name files before now = (name ≡ store_name) × (Lacks files store_name ⊎ Rose before now)
WhyNoLines refusals.NotAStore store_name files before now = OverFile files store_name NoStore
WhyNoLines (refusals.DamagedStore block) store_name files before now = OverFile files store_name (HasDamagedHeader block)
WhyNoLines refusal store_name files before now = ⊥

-- the refusal of what has no lines of a header
abbrev pub IsHeaderRefusal : HeaderFault → List ℕ → Refusal → Type 0
IsHeaderRefusal faults.Memory store_name refusal = refusal ≡ refusals.Memory
IsHeaderRefusal faults.NotAStore store_name refusal = refusal ≡ refusals.NotAStore
IsHeaderRefusal faults.Damaged store_name refusal = refusal ≡ refusals.DamagedStore 0
IsHeaderRefusal faults.Unread store_name refusal = NamesFile store_name refusal

-- the lines of the file's header were put out
pub record IsInfoDone (store_name : List ℕ) (before after : Io) : Type 0 where
  pub told : OverFile before.files store_name (λ file. IsToldOf file before.out after.out)
  pub files : after.files ≡ before.files

-- the output failed, and has got a prefix of the lines
pub record IsInfoUntold (store_name : List ℕ) (before after : Io) : Type 0 where
  pub rose : Rose before.out.faults after.out.faults
  pub prefix : OverFile before.files store_name (λ file. IsToldInPart file before.out after.out)
  pub files : after.files ≡ before.files

-- What `info` does, a line an ending.
abbrev pub Informs : List ℕ → Io → Io → Ending → Type 0
Informs store_name before after (Ok told) = IsInfoDone store_name before after × (told ≡ [])
Informs store_name before after (Err refusals.Memory) = IsUntouched before after
Informs store_name before after (Err (refusals.File name)) = (name ≡ store_name) × IsFileUnread [] store_name before after
Informs store_name before after (Err refusals.NotAStore) = OverFile before.files store_name NoStore × IsUntouched before after
Informs store_name before after (Err (refusals.DamagedStore block)) = OverFile before.files store_name (HasDamagedHeader block) × IsUntouched before after
Informs store_name before after (Err refusals.Output) = IsInfoUntold store_name before after
Informs store_name before after (Err refusals.Words) = ⊥
Informs store_name before after (Err (refusals.Data fault)) = ⊥
Informs store_name before after (Err (refusals.Query cause)) = ⊥

-- Where a status of `info` has to come, want of memory aside.
pub record InfoMust (store_name : List ℕ) (before after : Io) (status : ℕ) : Type 0 where
  pub no_file : Lacks before.files store_name → (status ≡ 3) ⊎ (status ≡ 1)
  pub refuses_store : (file : List ℕ) → TellsFile before.files store_name file → NoHeader file →
      (Rose before.faults after.faults → ⊥) → (status ≡ 5) ⊎ (status ≡ 1)
  pub complete : (file : List ℕ) → TellsFile before.files store_name file → (header : Header) → HasHeader file header →
      IsQuiet before after → (status ≡ 0) ⊎ (status ≡ 1)
