-- The levels of a tree: above a level of more than one block stands one with the first entry of each of its blocks.
use Rattle.std.specs.Prelude.{◌≡◌, ℕ, zero, suc, ◌+◌, ◌*◌, ◌/◌, ◌%◌, ◌^◌, ◌≤◌, ◌<◌, Bool, true, false, List, length, slice_get, Option, Some, None, Result, Ok, Err, if◌then◌else◌}
use Rattle.std.specs.List.Sorted.{IsStrictlySortedBy}
use Rattle.sage_outside.specs.Blocks.{block_at}
use Rattle.sage_outside.specs.Parts.{IsPayload, is_sound}
use Rattle.sage_outside.specs.declared.fault.ReadFault.{ReadFault}
use Rattle.term_core.specs.declared.pattern.IdTriple.{IdTriple}
use Rattle.term_core.specs.Ids.{id_cmp}
use Rattle.btree_build.specs.Trees.{blocks_for}
use Rattle.btree_scan.specs.declared.tree.Tree.{Tree}
use Rattle.btree_scan.specs.Entries.{entry_of, IsEdgeOf}

-- the entries that a block keeps
abbrev pub per_block : Tree → ℕ
per_block tree = tree.payload / 12

-- the number of entries of a level: above level 0 it is the number of blocks of the level below
abbrev pub size_at : Tree → ℕ → ℕ
size_at tree zero = tree.entries
size_at tree (suc l) = blocks_for (per_block tree) (size_at tree l)

-- the first block of a level, which follows the blocks of the level below
abbrev pub first_at : Tree → ℕ → ℕ
first_at tree zero = tree.first
first_at tree (suc l) = first_at tree l + size_at tree (suc l)

-- level 0 is there, and one above a level of more than one block
abbrev pub IsLevel : Tree → ℕ → Type 0
IsLevel tree zero = Unit {0}
IsLevel tree (suc l) = 1 < size_at tree (suc l)

-- entry j of block n, or the block's number, where its tag does not agree
abbrev pub key_in : ℕ → ℕ → ℕ → List ℕ → Result IdTriple ℕ
key_in p n j image = if is_sound p n (block_at n image) then Ok (entry_of (block_at n image) j) else Err n

-- the same of entry k of a level whose first block is that
abbrev pub key_from : ℕ → ℕ → ℕ → List ℕ → Result IdTriple ℕ
key_from p first k image = key_in p (first + k / (p / 12)) (k % (p / 12)) image

-- entry k of a level
unfoldable pub key_at : Tree → ℕ → ℕ → List ℕ → Result IdTriple ℕ
key_at tree l k image = key_from tree.payload (first_at tree l) k image

-- the entry is there and passes
abbrev pub passes : (IdTriple → Bool) → Result IdTriple ℕ → Bool
passes test (Ok e) = test e
passes test (Err block) = false

-- each entry of a level above is the first of its block
pub record AreLevels (tree : Tree) (image : List ℕ) : Type 0 where
  pub agree : (l k : ℕ) → IsLevel tree (suc l) → k < size_at tree (suc l) → key_at tree (suc l) k image ≡ key_at tree l (k * per_block tree) image

-- the image is a tree of these keys, which rise strictly: entry k is the key of place k, and there are no more
pub record Lists (tree : Tree) (es : List IdTriple) (image : List ℕ) : Type 0 where
  pub sorted : IsStrictlySortedBy id_cmp es
  pub entries : tree.entries ≡ length es
  pub each : (k : ℕ) (e : IdTriple) → slice_get es k ≡ Some e → key_at tree 0 k image ≡ Ok e
  pub levels : AreLevels tree image

-- the payload is one of the two, the entries are within the limit, and the levels within so many blocks
pub record Lies (tree : Tree) (count : ℕ) : Type 0 where
  pub payload : IsPayload tree.payload
  pub few : tree.entries ≤ 4194303
  pub counted : count < 2 ^ 32
  pub within : (l : ℕ) → IsLevel tree l → first_at tree l + size_at tree (suc l) ≤ count

-- a place in front of which the entry passes, and at which it does not
abbrev pub IsEdgeAt : Tree → ℕ → (IdTriple → Bool) → List ℕ → ℕ → Type 0
IsEdgeAt tree l test image place = IsEdgeOf (λ k. passes test (key_at tree l k image)) 0 (size_at tree l) place

-- the edge is in block b: the test holds at the block's first place, and not at the next block's
pub record IsBlock (test : ℕ → Bool) (per size b : ℕ) : Type 0 where
  pub first : 0 < b → test (b * per) ≡ true
  pub next : (b + 1) * per < size → test ((b + 1) * per) ≡ false

-- the block of a level in which the edge is, or none, where nothing passes
abbrev pub Leads : (ℕ → Bool) → ℕ → ℕ → Result (Option ℕ) ReadFault → Type 0
Leads test per size (Ok None) = test 0 ≡ false
Leads test per size (Ok (Some b)) = IsBlock test per size b
Leads test per size (Err fault) = Unit {0}

-- the place behind a block
abbrev pub place_of : Option ℕ → ℕ
place_of None = 0
place_of (Some b) = b + 1
