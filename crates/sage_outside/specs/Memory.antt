-- The files of a shelf in memory.
use Rattle.std.specs.Prelude.{◌≡◌, ℕ, ◌<◌, Bool, List, [], ◌∷◌, Some, IsSome, length, slice_get, slice_set, string_bytes}
use Rattle.std.specs.Str.{bytes_eq}
use Rattle.std.specs.FinMap as map
use Rattle.sage_outside.specs.declared.memory.MemFile.{MemFile}
use Rattle.sage_outside.specs.Shelf.{Files}

-- the files by name; of two with one name the first counts
abbrev pub files_of : List MemFile → Files
files_of [] = map.empty
files_of (file ∷ files) = map.insert (files_of files) (string_bytes file.name) file.bytes.items

-- the file has that name
abbrev pub is_named : List ℕ → MemFile → Bool
is_named name file = bytes_eq name (string_bytes file.name)

-- the first file of that name stands there, so that another in its place is what the name has then
pub record IsPlace (files : List MemFile) (name : List ℕ) (i : ℕ) : Type 0 where
  pub within : i < length files
  pub there : IsSome (map.get (files_of files) name)
  pub found : (file : MemFile) → slice_get files i ≡ Some file
      → (string_bytes file.name ≡ name) × (map.get (files_of files) name ≡ Some file.bytes.items)
  pub replaced : (file : MemFile) → string_bytes file.name ≡ name
      → files_of (slice_set files i file) ≡ map.insert (files_of files) name file.bytes.items
  pub kept : (file : MemFile) → string_bytes file.name ≡ name → map.get (files_of files) name ≡ Some file.bytes.items
      → files_of (slice_set files i file) ≡ files_of files
