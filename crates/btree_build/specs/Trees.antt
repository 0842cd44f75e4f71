-- The layout of a tree of entries in blocks of 4,096 bytes: level 0 has all entries, and each next level the first
-- entry of each block of the level below, until a level has one block (Bayer and McCreight 1972, B-trees of fixed width).
use Rattle.std.specs.Prelude.{◌≡◌, ℕ, zero, suc, ◌+◌, ◌-◌, ◌*◌, ◌/◌, ◌⊎◌, ◌++◌, List, [], length, take, drop, replicate, nat_lt, if◌then◌else◌}
use Rattle.std.specs.List.{flat_map}
use Rattle.std.specs.Int.{w32, to_be_bytes}
use Rattle.term_core.specs.declared.pattern.IdTriple.{IdTriple}

-- an entry: its three ids in four bytes each, the highest first (network byte order, RFC 791 appendix B)
unfoldable pub entry_bytes : IdTriple → List ℕ
entry_bytes e = to_be_bytes w32 e.s ++ (to_be_bytes w32 e.p ++ to_be_bytes w32 e.o)

-- entries, one behind the other without gaps
abbrev pub list_bytes : List IdTriple → List ℕ
list_bytes es = flat_map entry_bytes es

-- a block: entries, and zeros behind them
unfoldable pub block_bytes : List IdTriple → List ℕ
block_bytes es = list_bytes es ++ replicate (4096 - 12 * length es) 0

-- so many blocks, of which each keeps the next entries
abbrev pub level_bytes : ℕ → ℕ → List IdTriple → List ℕ
level_bytes per zero es = []
level_bytes per (suc k) es = block_bytes (take per es) ++ level_bytes per k (drop per es)

-- the first entry of each of so many blocks
abbrev pub firsts : {X : Type 0} → ℕ → ℕ → List X → List X
firsts per zero es = []
firsts per (suc k) es = take 1 es ++ firsts per k (drop per es)

-- the blocks for n entries, of which each keeps per
unfoldable pub blocks_for : ℕ → ℕ → ℕ
blocks_for per n = (n + (per - 1)) / per

-- the blocks of a level
abbrev pub level_of : ℕ → List IdTriple → List ℕ
level_of per es = level_bytes per (blocks_for per (length es)) es

-- the entries of the level above a level
abbrev pub above : ℕ → List IdTriple → List IdTriple
above per es = firsts per (blocks_for per (length es)) es

-- the blocks of a tree of at most so many levels, level 0 first; none where it is empty
abbrev pub tree_bytes : ℕ → ℕ → List IdTriple → List ℕ
tree_bytes per zero es = []
tree_bytes per (suc l) es = level_of per es ++ (if nat_lt 1 (length (above per es)) then tree_bytes per l (above per es) else [])

-- the entries of 12 bytes that a payload of 4,096 or of 4,080 bytes keeps
pub record IsPer (per : ℕ) : Type 0 where
  pub one : (per ≡ 341) ⊎ (per ≡ 340)
