-- An image in whose blocks the levels of a list stand.
use Rattle.std.specs.Prelude.{◌≡◌, ℕ, zero, suc, ◌+◌, ◌*◌, ◌^◌, ◌<◌, ◌≤◌, true, List, length, take, drop, slice_get, Some}
use Rattle.std.specs.List.Sorted.{IsStrictlySortedBy}
use Rattle.sage_outside.specs.Blocks.{block_at}
use Rattle.sage_outside.specs.Parts.{IsPayload, is_sound}
use Rattle.term_core.specs.declared.pattern.IdTriple.{IdTriple}
use Rattle.term_core.specs.Ids.{id_cmp}
use Rattle.btree_build.specs.Trees.{block_bytes, above, tree_bytes}
use Rattle.btree_scan.specs.declared.tree.Tree.{Tree}
use Rattle.btree_scan.specs.Levels.{per_block, size_at, first_at, IsLevel}

-- ids are numbers of 32 bits
pub record AreIds (e : IdTriple) : Type 0 where
  pub s : e.s < 2 ^ 32
  pub p : e.p < 2 ^ 32
  pub o : e.o < 2 ^ 32

-- the entries of a level
abbrev pub level_list : ℕ → ℕ → List IdTriple → List IdTriple
level_list per zero es = es
level_list per (suc l) es = above per (level_list per l es)

-- the payload of a block is that of these entries, and its tag agrees
pub record IsBlockWith (p n : ℕ) (es : List IdTriple) (image : List ℕ) : Type 0 where
  pub sound : is_sound p n (block_at n image) ≡ true
  pub bytes : take p (block_at n image) ≡ take p (block_bytes es)

-- in the image stand all blocks of all levels of these keys
pub record IsWritten (tree : Tree) (es : List IdTriple) (image : List ℕ) : Type 0 where
  pub payload : IsPayload tree.payload
  pub entries : tree.entries ≡ length es
  pub sorted : IsStrictlySortedBy id_cmp es
  pub ids : (k : ℕ) (e : IdTriple) → slice_get es k ≡ Some e → AreIds e
  pub blocks : (l b : ℕ) → IsLevel tree l → b < size_at tree (suc l)
      → IsBlockWith tree.payload (first_at tree l + b) (take (per_block tree) (drop (b * per_block tree) (level_list (per_block tree) l es))) image

-- the blocks of the image, from the tree's first on, have the payloads of these bytes, and their tags agree
pub record AreBlocksOf (tree : Tree) (bytes image : List ℕ) : Type 0 where
  pub each : (b : ℕ) → 4096 * b < length bytes → (is_sound tree.payload (tree.first + b) (block_at (tree.first + b) image) ≡ true)
      × (take tree.payload (block_at (tree.first + b) image) ≡ take tree.payload (block_at b bytes))

-- the blocks of a tree stand in the image
pub record IsTreeIn (tree : Tree) (es : List IdTriple) (image : List ℕ) : Type 0 where
  pub payload : IsPayload tree.payload
  pub few : length es ≤ 4194303
  pub entries : tree.entries ≡ length es
  pub sorted : IsStrictlySortedBy id_cmp es
  pub ids : (k : ℕ) (e : IdTriple) → slice_get es k ≡ Some e → AreIds e
  pub blocks : AreBlocksOf tree (tree_bytes (per_block tree) 3 es) image
