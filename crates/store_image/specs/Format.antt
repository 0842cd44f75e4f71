-- The two formats of a store file: how many bytes of a block are data, and what stands behind them.
use Rattle.std.specs.Prelude.{◌≡◌, ℕ, zero, suc, ◌+◌, ◌-◌, ◌*◌, ◌==◌, ◌⊎◌, List, [], ◌++◌, length, take, drop, replicate, codes, if◌then◌else◌}
use Rattle.sage_outside.specs.Parts.{tag_of}
use Rattle.btree_build.specs.Trees.{blocks_for}

-- a format is 1 or 2
pub record IsFormat (format : ℕ) : Type 0 where
  pub one : (format ≡ 1) ⊎ (format ≡ 2)

-- the bytes of a block that hold data: all 4,096 in format 1, and in format 2 those before the tag of 16 bytes
unfoldable pub payload_of : ℕ → ℕ
payload_of format = if format == 1 then 4096 else 4080

-- the eight bytes with which a file of the format begins
unfoldable pub mark_of : ℕ → List ℕ
mark_of format = if format == 1 then codes "SAGESTO1" else codes "SAGESTO2"

-- bytes with zeros behind them up to the end of a payload
unfoldable pub padded : ℕ → List ℕ → List ℕ
padded p bytes = bytes ++ replicate (p * blocks_for p (length bytes) - length bytes) 0

-- so many blocks, each with the next bytes as its payload, and zeros where a tag is to stand
abbrev pub spread : ℕ → ℕ → List ℕ → List ℕ
spread p zero bytes = []
spread p (suc n) bytes = (take p bytes ++ replicate (4096 - p) 0) ++ spread p n (drop p bytes)

-- block n with its tag behind its payload, where there is room for one
unfoldable pub tagged : ℕ → ℕ → List ℕ → List ℕ
tagged p n block = if p == 4096 then block else take 4080 block ++ tag_of n (take 4080 block)

-- so many blocks, each with its tag; the first of them is block n of its file
abbrev pub all_tagged : ℕ → ℕ → ℕ → List ℕ → List ℕ
all_tagged p n zero bytes = []
all_tagged p n (suc k) bytes = tagged p n (take 4096 bytes) ++ all_tagged p (suc n) k (drop 4096 bytes)
