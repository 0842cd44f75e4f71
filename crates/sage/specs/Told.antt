-- What the contract knows of files, and what was left as it was.
use Rattle.std.specs.Prelude.{◌≡◌, ◌⊎◌, ℕ, List, take, Option, Some, None}
use Rattle.std.specs.FinMap as map
use Rattle.term_core.specs.Bags.{In}
use Rattle.sage_outside.specs.Causes.{Rose}
use Rattle.sage_outside.specs.Shelf.{Files, Lacks}
use Rattle.sage.specs.World.{Io}

-- the contents are known, and the file of that name has these bytes
pub record TellsFile (files : Option Files) (name file : List ℕ) : Type 0 where
  pub all : Files
  pub told : files ≡ Some all
  pub has : map.get all name ≡ Some file

-- the file of that name has these bytes, where the contents are known
abbrev pub HasBytes : Option Files → List ℕ → List ℕ → Type 0
HasBytes None name file = Unit {0}
HasBytes (Some files) name file = map.get files name ≡ Some file

-- what was read of a file is its bytes, or so many of them as are read at most
pub record IsPrefixOf (files : Option Files) (name : List ℕ) (most : ℕ) (read : List ℕ) : Type 0 where
  pub file : List ℕ
  pub reads : HasBytes files name file
  pub is : read ≡ take most file

-- files and output are as they were
pub record IsUntouched (before after : Io) : Type 0 where
  pub files : after.files ≡ before.files
  pub out : after.out.written ≡ before.out.written

-- The file was not read, and none of the earlier ones is lacking: files are read in the order of the words.
pub record IsFileUnread (earlier : List (List ℕ)) (name : List ℕ) (before after : Io) : Type 0 where
  pub there : (other : List ℕ) → In earlier other → Lacks before.files other → ⊥
  pub cause : Lacks before.files name ⊎ Rose before.faults after.faults
  pub untouched : IsUntouched before after

-- no call on files and output failed
pub record IsQuiet (before after : Io) : Type 0 where
  pub files : Rose before.faults after.faults → ⊥
  pub out : Rose before.out.faults after.out.faults → ⊥
