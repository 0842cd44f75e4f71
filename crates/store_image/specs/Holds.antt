-- What a store file holds: the set of triples that it was made of.
use Rattle.std.specs.Prelude.{◌≡◌, ℕ, ◌*◌, ◌^◌, ◌<◌, ◌≤◌, true, List, length, flat_map, All}
use Rattle.term_core.specs.declared.term.Term.{Term}
use Rattle.term_core.specs.declared.term.Triple.{Triple}
use Rattle.term_core.specs.declared.pattern.IdTriple.{IdTriple}
use Rattle.sage_outside.specs.Blocks.{block_at}
use Rattle.sage_outside.specs.Parts.{is_sound}
use Rattle.term_core.specs.Order.{size_of, IsAllowed}
use Rattle.term_core.specs.Spelling.{AreSpelled}
use Rattle.term_core.specs.Bags.{In}
use Rattle.term_core.specs.Data.{parts, data_id}
use Rattle.term_dict.specs.Ranks as dict
use Rattle.term_dict.specs.Built.{longest_of}
use Rattle.term_dict.specs.Layout.{longest_record}
use Rattle.btree_scan.specs.Levels.{Lists}
use Rattle.store_image.specs.Table.{AreBelow, IsTable}
use Rattle.store_image.specs.Keys.{index_numbered, keys_by}
use Rattle.store_image.specs.Format.{payload_of}
use Rattle.store_image.specs.declared.header.Header.{Header}
use Rattle.store_image.specs.Header.{IsHeader, dict_of, tree_of}

-- behind such a header an image shows these terms, each by its rank, and these triples of ranks in each of the three orders;
-- the longest of its records is as long as the header tells, and in format 2 each block has its tag
pub record Shows (h : Header) (terms : List Term) (ids : List IdTriple) (image : List ℕ) : Type 0 where
  pub dictionary : dict.HoldsTerms (dict_of h) terms image
  pub below : AreBelow (length terms) ids
  pub lists : (order : ℕ) → order ≤ 2 → Lists (tree_of h order) (keys_by (index_numbered order) ids) image
  pub longest : longest_record (dict_of h) image ≡ h.longest
  pub sound : (n : ℕ) → n < h.blocks → is_sound (payload_of h.format) n (block_at n image) ≡ true

-- the image holds the data in a format: a set of triples of RDF (RDF 1.1 Concepts, section 3.1) whose terms N-Triples can
-- spell and are within the limit on size. Its header tells how many terms and triples they are and their name, and the terms
-- of the data and the triples by the ranks of their terms are shown
pub record Holds (L : List Triple) (format : ℕ) (image : List ℕ) : Type 0 where
  pub header : Header
  pub terms : List Term
  pub ids : List IdTriple
  pub allowed : All IsAllowed L
  pub spelled : All AreSpelled L
  pub short : (t : Term) → In (flat_map parts L) t → size_of t ≤ 262144
  pub table : IsTable L terms ids
  pub few : header.blocks < 2 ^ 32
  pub whole : length image ≡ 4096 * header.blocks
  pub is_header : IsHeader (block_at 0 image) header.blocks header
  pub of_format : header.format ≡ format
  pub term_count : header.terms ≡ length terms
  pub triple_count : header.triples ≡ length ids
  pub longest : header.longest ≡ longest_of terms
  pub data_name : header.data_id ≡ data_id L
  pub shows : Shows header terms ids image
