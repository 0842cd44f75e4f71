-- The bytes of a store file: a header, the dictionary of the terms, and the triples in three orders.
use Rattle.std.specs.Prelude.{◌≡◌, ℕ, ◌+◌, ◌/◌, List, ◌++◌, length, flat_map}
use Rattle.std.specs.Int.{w64, to_be_bytes}
use Rattle.term_core.specs.declared.term.Term.{Term}
use Rattle.term_core.specs.declared.term.Triple.{Triple}
use Rattle.term_core.specs.declared.pattern.IdTriple.{IdTriple}
use Rattle.term_core.specs.Index.{by_subject, by_predicate, by_object}
use Rattle.term_core.specs.Data.{data_id}
use Rattle.term_dict.specs.Built.{records_of, places_from, longest_of}
use Rattle.btree_build.specs.Trees.{blocks_for, tree_bytes}
use Rattle.store_image.specs.Table.{IsTable}
use Rattle.store_image.specs.Keys.{keys_by}
use Rattle.store_image.specs.Format.{payload_of, padded, spread, all_tagged}
use Rattle.store_image.specs.declared.header.Header.{Header}
use Rattle.store_image.specs.Header.{fixed_blocks, header_bytes}

-- where each record begins and where the last ends, in eight bytes each, the highest first
abbrev pub place_bytes : List Term → List ℕ
place_bytes terms = flat_map (to_be_bytes w64) (places_from 0 terms)

-- the header of a file of a format, of these terms and triples, with such a name
abbrev pub header_of : ℕ → List Term → List IdTriple → List ℕ → Header
header_of format terms ids name = record {
  format = format;
  blocks = fixed_blocks (payload_of format) (length terms) (length ids) + blocks_for (payload_of format) (length (records_of terms));
  terms = length terms;
  triples = length ids;
  longest = longest_of terms;
  data_id = name;
}

-- the payloads of the first three areas, each from a new block on: header, places, records
abbrev pub front_bytes : Header → List Term → List ℕ
front_bytes h terms =
    let p = payload_of h.format in padded p (header_bytes h) ++ (padded p (place_bytes terms) ++ padded p (records_of terms))

-- the blocks of a tree, of at most three levels
unfoldable pub tree_in : ℕ → List IdTriple → List ℕ
tree_in p keys = tree_bytes (p / 12) 3 keys

-- the blocks of the trees by subject, by predicate and by object
abbrev pub trees_in : ℕ → List IdTriple → List ℕ
trees_in p ids = tree_in p (keys_by by_subject ids) ++ (tree_in p (keys_by by_predicate ids) ++ tree_in p (keys_by by_object ids))

-- the blocks of all areas, without their tags: those three, and the trees
abbrev pub areas : Header → List Term → List IdTriple → List ℕ
areas h terms ids =
    spread (payload_of h.format) (length (front_bytes h terms) / payload_of h.format) (front_bytes h terms)
    ++ trees_in (payload_of h.format) ids

-- the bytes of a file with that header
abbrev pub file_bytes : Header → List Term → List IdTriple → List ℕ
file_bytes h terms ids = all_tagged (payload_of h.format) 0 h.blocks (areas h terms ids)

-- the bytes of a file of a format, of these terms and triples, with such a name
abbrev pub store_bytes : ℕ → List Term → List IdTriple → List ℕ → List ℕ
store_bytes format terms ids name = file_bytes (header_of format terms ids name) terms ids

-- the bytes are the image of the data, a set of triples, in a format
pub record IsImage (L : List Triple) (format : ℕ) (image : List ℕ) : Type 0 where
  pub terms : List Term
  pub ids : List IdTriple
  pub table : IsTable L terms ids
  pub bytes : image ≡ store_bytes format terms ids (data_id L)
