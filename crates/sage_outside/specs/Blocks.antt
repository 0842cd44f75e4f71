-- Blocks of 4,096 bytes, as far as a device tells them, and what its calls answer.
use Rattle.std.specs.Prelude.{◌≡◌, ℕ, ◌+◌, ◌-◌, ◌*◌, ◌/◌, ◌^◌, ◌≤◌, ◌++◌, min, List, length, take, drop, replicate, Option, Some, None, Result, Ok, Err}

-- the bytes where they are told, the number of blocks, how often a call failed, and how many reads were counted
pub record Device : Type 0 where
  pub image : Option (List ℕ)
  pub count : ℕ
  pub faults : ℕ
  pub reads : ℕ

-- the device tells these bytes
pub record Tells (image : Option (List ℕ)) (bytes : List ℕ) : Type 0 where
  pub told : image ≡ Some bytes

-- bytes and number of blocks are as they were, no count fell, and at most so many reads were counted
pub record HasRead (before now : Device) (n : ℕ) : Type 0 where
  pub image : now.image ≡ before.image
  pub count : now.count ≡ before.count
  pub later : before.faults ≤ now.faults
  pub risen : before.reads ≤ now.reads
  pub cost : now.reads ≤ before.reads + n

-- no call failed yet, and no read was counted
pub record IsFreshDevice (device : Device) : Type 0 where
  pub faults : device.faults ≡ 0
  pub reads : device.reads ≡ 0

-- block n of the bytes
abbrev pub block_at : ℕ → List ℕ → List ℕ
block_at n bytes = take 4096 (drop (4096 * n) bytes)

-- after an answer the buffer holds block n of told bytes
abbrev pub HasBlock : {T E : Type 0} → Option (List ℕ) → ℕ → List ℕ → Result T E → Type 0
HasBlock None n block result = Unit {0}
HasBlock (Some bytes) n block (Ok x) = block ≡ block_at n bytes
HasBlock (Some bytes) n block (Err e) = Unit {0}

-- the blocks that so many bytes begin, and no more than a number of 32 bits counts
abbrev pub block_count : ℕ → ℕ
block_count size = min ((size + 4095) / 4096) (2 ^ 32 - 1)

-- so many whole blocks, with zeros behind the bytes
abbrev pub whole_blocks : ℕ → List ℕ → List ℕ
whole_blocks n bytes = take (4096 * n) (bytes ++ replicate (4096 * n) 0)

-- the bytes as blocks
abbrev pub image_of : List ℕ → List ℕ
image_of bytes = whole_blocks (block_count (length bytes)) bytes
