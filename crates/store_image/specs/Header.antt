-- The first block of a store file, and where the areas stand that follow it.
use Rattle.std.specs.Prelude.{◌≡◌, ℕ, zero, suc, ◌+◌, ◌-◌, ◌*◌, ◌/◌, ◌≤◌, List, ◌++◌, take, drop, true, false, Result, Ok, Err, nat_lt, if◌then◌else◌}
use Rattle.std.specs.Int.{w32, from_be_bytes}
use Rattle.sage_outside.specs.Parts.{agrees, is_sound}
use Rattle.term_core.specs.Ids.{number_bytes}
use Rattle.term_dict.specs.declared.dict.Dict.{Dict}
use Rattle.btree_build.specs.Trees.{blocks_for}
use Rattle.btree_scan.specs.declared.tree.Tree.{Tree}
use Rattle.store_image.specs.declared.header.Header.{Header}
use Rattle.store_image.specs.declared.header.HeaderFault.{HeaderFault}
use Rattle.store_image.specs.declared.header.HeaderFault.TheVariants as faults
use Rattle.store_image.specs.Format.{IsFormat, payload_of, mark_of}

-- the blocks of the numbers that tell where so many records begin, and where the last ends, of 8 bytes each
abbrev pub place_blocks : ℕ → ℕ → ℕ
place_blocks p terms = blocks_for p (8 * (terms + 1))

-- the blocks of a tree of so many entries: those of a level, and, where they are more than one, those of the levels above,
-- which have one entry for each
unfoldable pub tree_blocks : ℕ → ℕ → ℕ → ℕ
tree_blocks per zero entries = 0
tree_blocks per (suc levels) entries =
    blocks_for per entries + (if nat_lt 1 (blocks_for per entries) then tree_blocks per levels (blocks_for per entries) else 0)

-- the blocks of the header, the places and the three trees, of at most three levels each
abbrev pub fixed_blocks : ℕ → ℕ → ℕ → ℕ
fixed_blocks p terms triples = 1 + place_blocks p terms + 3 * tree_blocks (p / 12) 3 triples

-- the dictionary: its places follow the header, its records the places, up to the trees
abbrev pub dict_of : Header → Dict
dict_of h = record {
  places = 1;
  records = 1 + place_blocks (payload_of h.format) h.terms;
  terms = h.terms;
  bytes = payload_of h.format * (h.blocks - fixed_blocks (payload_of h.format) h.terms h.triples);
  payload = payload_of h.format;
}

-- the tree of an order: the three trees are the last areas, in the order of their numbers
abbrev pub tree_of : Header → ℕ → Tree
tree_of h order = record {
  first = h.blocks - (3 - order) * tree_blocks (payload_of h.format / 12) 3 h.triples;
  entries = h.triples;
  payload = payload_of h.format;
}

-- a number of four bytes at a place, the highest first
unfoldable pub header_number : ℕ → List ℕ → ℕ
header_number place block = from_be_bytes w32 (take 4 (drop place block))

-- the numbers are within their limits, and a file of so many blocks has room for all areas
pub record AreWithinFile (h : Header) (count : ℕ) : Type 0 where
  pub counted : h.blocks ≡ count
  pub few : h.triples ≤ 4194303
  pub named : h.terms ≤ 3 * h.triples
  pub short : h.longest ≤ 262153
  pub room : fixed_blocks (payload_of h.format) h.terms h.triples ≤ h.blocks

-- a block is the header of a file of so many blocks: the mark of a format, four numbers and the name of the data, and in
-- format 2 its tag; the numbers are within their limits, and the file has room for all areas
pub record IsHeader (block : List ℕ) (count : ℕ) (h : Header) : Type 0 where
  pub format : IsFormat h.format
  pub mark : take 8 block ≡ mark_of h.format
  pub sound : is_sound (payload_of h.format) 0 block ≡ true
  pub blocks : h.blocks ≡ header_number 8 block
  pub terms : h.terms ≡ header_number 12 block
  pub triples : h.triples ≡ header_number 16 block
  pub longest : h.longest ≡ header_number 20 block
  pub data_name : h.data_id ≡ take 32 (drop 24 block)
  pub within : AreWithinFile h count

-- a block has the mark of format 2, and not the tag of a first block
pub record IsBroken (block : List ℕ) : Type 0 where
  pub mark : take 8 block ≡ mark_of 2
  pub tag : agrees 0 block ≡ false

-- what a first block of so many tells: its header; or it is damaged, having a mark of format 2 alone; or it is of no store
abbrev pub TellsHeader : List ℕ → ℕ → Result Header HeaderFault → Type 0
TellsHeader block count (Ok h) = IsHeader block count h
TellsHeader block count (Err faults.Damaged) = IsBroken block
TellsHeader block count (Err faults.NotAStore) = (IsBroken block → ⊥) × ((h : Header) → IsHeader block count h → ⊥)

-- the mark of the format, four numbers of four bytes, the highest first (network byte order, RFC 791 appendix B), and the
-- name of the data
unfoldable pub header_bytes : Header → List ℕ
header_bytes h = mark_of h.format ++ (number_bytes h.blocks ++ (number_bytes h.terms ++ (number_bytes h.triples
    ++ (number_bytes h.longest ++ h.data_id))))
