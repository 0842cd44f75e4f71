-- What is kept of the blocks of an image.
use Rattle.std.specs.Prelude.{◌≡◌, ℕ, true, Bool, List, Contains, Option, nat_eq}
use Rattle.std.specs.List.{list_any}
use Rattle.sage_outside.specs.Blocks.{Tells, block_at}
use Rattle.sage_outside.specs.Parts.{agrees}
use Rattle.block_cache.specs.declared.kept.Kept.{Kept}

-- a block that is kept is that of the image, and one that passed had its tag
pub record IsBlockOf (image : List ℕ) (n : ℕ) (kept : Kept) : Type 0 where
  pub block : kept.block.value ≡ block_at n image
  pub agreed : kept.agreed ≡ true → agrees n kept.block.value ≡ true

-- all that are kept are so
pub record AreBlocksOf (image : List ℕ) (entries : List (ℕ × Kept)) : Type 0 where
  pub each : (n : ℕ) (kept : Kept) → Contains entries (n, kept) → IsBlockOf image n kept

-- the same, where the image is told
pub record AreKeptOf (told : Option (List ℕ)) (entries : List (ℕ × Kept)) : Type 0 where
  pub of : (image : List ℕ) → Tells told image → AreBlocksOf image entries

-- the block of that number is among those kept
abbrev pub is_held : ℕ → List ℕ → Bool
is_held n numbers = list_any (nat_eq n) numbers
