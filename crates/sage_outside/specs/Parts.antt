-- Parts of blocks whose payload is the whole block, or leaves its last 16 bytes to a tag.
use Rattle.std.specs.Prelude.{◌≡◌, ℕ, ◌==◌, ◌⊎◌, ◌++◌, Bool, true, List, take, drop, Result, Ok, Err, if◌then◌else◌}
use Rattle.std.specs.Int.{w32, to_be_bytes}
use Rattle.std.specs.Str.{bytes_eq}
use Rattle.sha2.specs.Sha256.{sha256}
use Rattle.sage_outside.specs.declared.fault.ReadFault.{ReadFault}
use Rattle.sage_outside.specs.declared.fault.ReadFault.TheVariants as faults
use Rattle.sage_outside.specs.declared.fault.StoreFault.{StoreFault}
use Rattle.sage_outside.specs.declared.fault.StoreFault.TheVariants as store_faults
use Rattle.sage_outside.specs.Blocks.{block_at}

-- the tag of a block: the first 16 bytes of SHA-256 (FIPS 180-4, 6.2) over its number and its payload
unfoldable pub tag_of : ℕ → List ℕ → List ℕ
tag_of n payload = take 16 (sha256 (to_be_bytes w32 n ++ payload))

-- the last 16 bytes of a block are its tag
unfoldable pub agrees : ℕ → List ℕ → Bool
agrees n block = bytes_eq (take 16 (drop 4080 block)) (tag_of n (take 4080 block))

-- a block is payload all over, or leaves 16 bytes to its tag
pub record IsPayload (p : ℕ) : Type 0 where
  pub one : (p ≡ 4096) ⊎ (p ≡ 4080)

-- the block has no tag, or the right one
abbrev pub is_sound : ℕ → ℕ → List ℕ → Bool
is_sound p n block = if p == 4096 then true else agrees n block

-- so many bytes of block n from a place on, or the block's number, where its tag does not agree
abbrev pub part_in : ℕ → ℕ → ℕ → ℕ → List ℕ → Result (List ℕ) ℕ
part_in p n from k block = if is_sound p n block then Ok (take k (drop from block)) else Err n

-- the same of a block of an image
abbrev pub piece_at : ℕ → ℕ → ℕ → ℕ → List ℕ → Result (List ℕ) ℕ
piece_at p n from k image = part_in p n from k (block_at n image)

-- the call answers what is read: its value, or the damaged block; of a failed call nothing is said
abbrev pub Reads : {X Y : Type 0} → (X → Y) → Result X ReadFault → Result Y ℕ → Type 0
Reads view (Ok x) read = read ≡ Ok (view x)
Reads view (Err (faults.Damaged block)) read = read ≡ Err block
Reads view (Err faults.Blocks) read = Unit {0}

-- the same fault, of a call that takes memory
abbrev pub wider : ReadFault → StoreFault
wider faults.Blocks = store_faults.Blocks
wider (faults.Damaged block) = store_faults.Damaged block
