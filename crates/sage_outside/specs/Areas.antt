-- The bytes of an area of blocks: those of the payloads, one block after the other.
use Rattle.std.specs.Prelude.{ℕ, zero, suc, ◌+◌, ◌-◌, ◌*◌, ◌/◌, ◌%◌, ◌^◌, ◌<◌, ◌≤◌, ◌++◌, List, [], length, take, drop, Option, Some, None, Result, Ok, Err, if◌then◌else◌}
use Rattle.sage_outside.specs.Blocks.{block_at}
use Rattle.sage_outside.specs.Parts.{IsPayload, is_sound}
use Rattle.sage_outside.specs.declared.area.Area.{Area}

-- the first p bytes of each of so many blocks of 4,096
abbrev pub payloads : ℕ → ℕ → List ℕ → List ℕ
payloads p zero bytes = []
payloads p (suc n) bytes = take p bytes ++ payloads p n (drop 4096 bytes)

-- the bytes of an area, which goes on to the last block
abbrev pub area_bytes : Area → List ℕ → List ℕ
area_bytes area bytes = payloads area.payload (length bytes / 4096 - area.first) (drop (4096 * area.first) bytes)

-- so many bytes of an area from a place on
abbrev pub part_of : Area → ℕ → ℕ → List ℕ → List ℕ
part_of area at n bytes = take n (drop at (area_bytes area bytes))

-- the block in which the byte of a place stands
abbrev pub block_of : Area → ℕ → ℕ
block_of area at = area.first + at / area.payload

-- how many blocks n bytes from a place on touch
abbrev pub touched : ℕ → ℕ → ℕ → ℕ
touched p at zero = 0
touched p at (suc n) = (at % p + n + p) / p

-- the first of so many blocks from b on whose tag does not agree
unfoldable pub first_broken : ℕ → ℕ → ℕ → List ℕ → Option ℕ
first_broken p b zero image = None
first_broken p b (suc k) image = if is_sound p b (block_at b image) then first_broken p (suc b) k image else Some b

-- a value, or the block to blame
abbrev pub or_block : {T : Type 0} → Option ℕ → T → Result T ℕ
or_block None x = Ok x
or_block (Some b) x = Err b

-- those bytes, or the first of their blocks whose tag does not agree
unfoldable pub part_at : Area → ℕ → ℕ → List ℕ → Result (List ℕ) ℕ
part_at area at n image = or_block (first_broken area.payload (block_of area at) (touched area.payload at n) image) (part_of area at n image)

-- the payload is whole or leaves 16 bytes for a tag, and so many bytes from a place on are within the blocks
pub record Fits (area : Area) (at n count : ℕ) : Type 0 where
  pub counted : count < 2 ^ 32
  pub payload : IsPayload area.payload
  pub within : area.first * area.payload + at + n ≤ count * area.payload

-- what is made of bytes that were read
abbrev pub made : {X : Type 0} → (List ℕ → X) → Result (List ℕ) ℕ → Result X ℕ
made f (Ok bytes) = Ok (f bytes)
made f (Err block) = Err block
