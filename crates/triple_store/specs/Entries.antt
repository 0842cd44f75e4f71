-- What the entries of an opened store's trees spell, and which blocks are not well formed.
use Rattle.std.specs.Prelude.{◌≡◌, ℕ, ◌+◌, ◌/◌, ◌<◌, ◌≤◌, ◌⊎◌, false, List, Result, Ok, Err, nat_le, if◌then◌else◌}
use Rattle.term_core.specs.declared.pattern.IdTriple.{IdTriple}
use Rattle.sage_outside.specs.Blocks.{block_at}
use Rattle.sage_outside.specs.Parts.{is_sound}
use Rattle.term_dict.specs.Layout.{stored_term}
use Rattle.btree_scan.specs.declared.tree.Tree.{Tree}
use Rattle.btree_scan.specs.Levels.{per_block, key_at}
use Rattle.store_image.specs.Format.{payload_of}
use Rattle.store_image.specs.Keys.{index_numbered, key_in, ids_of_key}
use Rattle.store_image.specs.declared.header.Header.{Header}
use Rattle.store_image.specs.Header.{dict_of, tree_of}

-- the block of the entry at a place
abbrev pub leaf_of : Tree → ℕ → ℕ
leaf_of tree place = tree.first + place / per_block tree

-- the triple of a key in an order, where its ids are below the number of terms; or the block of its entry
unfoldable pub named_key : ℕ → ℕ → Tree → ℕ → IdTriple → Result IdTriple ℕ
named_key order terms tree place key =
    if nat_le terms key.s then Err (leaf_of tree place)
    else if nat_le terms key.p then Err (leaf_of tree place)
    else if nat_le terms key.o then Err (leaf_of tree place)
    else Ok (ids_of_key (index_numbered order) key)

-- the same of a key that was read
abbrev pub named_from : ℕ → ℕ → Tree → ℕ → Result IdTriple ℕ → Result IdTriple ℕ
named_from order terms tree place (Ok key) = named_key order terms tree place key
named_from order terms tree place (Err block) = Err block

-- the triple of the entry at a place of an order's tree; or its block, where the tag does not agree or an id is no term's
abbrev pub stored_triple : Header → ℕ → ℕ → List ℕ → Result IdTriple ℕ
stored_triple h order place image = named_from order h.terms (tree_of h order) place (key_at (tree_of h order) 0 place image)

-- a triple's key stands at a place of an order's tree
pub record HasEntry (h : Header) (order : ℕ) (t : IdTriple) (image : List ℕ) (place : ℕ) : Type 0 where
  pub within : place < h.triples
  pub is : key_at (tree_of h order) 0 place image ≡ Ok (key_in (index_numbered order) t)

-- the tag of a block does not agree, in format 2
pub record HasWrongTag (h : Header) (image : List ℕ) (block : ℕ) : Type 0 where
  pub within : block < h.blocks
  pub tag : is_sound (payload_of h.format) block (block_at block image) ≡ false

-- a number or a record of the dictionary that begins in that block is not well formed
pub record HasBadRecord (h : Header) (image : List ℕ) (block : ℕ) : Type 0 where
  pub id : ℕ
  pub within : id < h.terms
  pub read : stored_term (dict_of h) id image ≡ Err block

-- an entry that stands in that block has an id that is no term's
pub record HasBadEntry (h : Header) (image : List ℕ) (block : ℕ) : Type 0 where
  pub order : ℕ
  pub few : order ≤ 2
  pub place : ℕ
  pub within : place < h.triples
  pub read : stored_triple h order place image ≡ Err block

-- that block of the file is not well formed
pub record IsDamaged (h : Header) (image : List ℕ) (block : ℕ) : Type 0 where
  pub is : HasWrongTag h image block ⊎ (HasBadRecord h image block ⊎ HasBadEntry h image block)
