-- Store files: made of a document, written to a shelf, and their headers told.
use Rattle.std.specs.Prelude.{◌≡◌, ◌⊎◌, ℕ, List, take, length, Option, Some, None}
use Rattle.std.specs.FinMap as map
use Rattle.term_core.specs.declared.term.Triple.{Triple}
use Rattle.sage_outside.specs.Shelf.{Files}
use Rattle.sage_outside.specs.Blocks.{block_at, block_count, image_of}
use Rattle.store_image.specs.declared.header.Header.{Header}
use Rattle.store_image.specs.Header.{IsHeader}
use Rattle.store_image.specs.Image.{IsImage}
use Rattle.store_image.specs.Holds.{Holds}
use Rattle.sage.specs.Data.{IsData}
use Rattle.sage.specs.World.{SinkState}
use Rattle.sage.specs.Ending.{HasGot, HasGotPrefix}
use Rattle.sage.specs.InfoLines.{header_lines}

-- known files have these bytes at the name, and else what they had
abbrev pub IsWritten : Option Files → Option Files → List ℕ → List ℕ → Type 0
IsWritten None after name bytes = after ≡ None
IsWritten (Some files) after name bytes = after ≡ Some (map.insert files name bytes)

-- known files are as they were, or have a prefix of the bytes at the name
abbrev pub IsWrittenInPart : Option Files → Option Files → List ℕ → List ℕ → Type 0
IsWrittenInPart before after name bytes = (after ≡ before) ⊎ ((n : ℕ) × IsWritten before after name (take n bytes))

-- the bytes are the store file of triples, of format 2, and the lines tell its header
pub record IsStoreFile (triples : List Triple) (image lines : List ℕ) : Type 0 where
  pub is_image : IsImage triples 2 image
  pub holds : Holds triples 2 image
  pub tell : lines ≡ header_lines holds.header

-- the bytes are the store file of a document's data, and the lines tell its header
pub record IsMade (document image lines : List ℕ) : Type 0 where
  pub triples : List Triple
  pub is_data : IsData document triples
  pub store : IsStoreFile triples image lines

-- the first block of the file is a header of as many blocks as the file fills
abbrev pub HasHeader : List ℕ → Header → Type 0
HasHeader file h = IsHeader (block_at 0 (image_of file)) (block_count (length file)) h

-- the lines tell the header that a first block of so many blocks is
pub record TellHeader (block : List ℕ) (count : ℕ) (lines : List ℕ) : Type 0 where
  pub header : Header
  pub is_header : IsHeader block count header
  pub tell : lines ≡ header_lines header

-- the lines of the header of a file were put out; where the file holds data, it is the header of their store file
pub record IsToldOf (file : List ℕ) (before after : SinkState) : Type 0 where
  pub header : Header
  pub is_header : HasHeader file header
  pub of_data : (triples : List Triple) (format : ℕ) (holds : Holds triples format (image_of file)) → header ≡ holds.header
  pub got : HasGot before after (header_lines header)

-- a prefix of the lines of the header of a file was put out
pub record IsToldInPart (file : List ℕ) (before after : SinkState) : Type 0 where
  pub header : Header
  pub is_header : HasHeader file header
  pub prefix : HasGotPrefix before after (header_lines header)
