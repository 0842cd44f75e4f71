-- The triples that agree with the terms of a pattern: a stretch of one of the three lists.
use Rattle.std.specs.Prelude.{◌≡◌, ◌-◌, ◌≤◌, List, length, map, take, drop}
use Rattle.term_core.specs.declared.term.Term.{Term}
use Rattle.term_core.specs.declared.term.Triple.{Triple}
use Rattle.term_core.specs.declared.pattern.IdTriple.{IdTriple}
use Rattle.term_core.specs.Patterns.{Pattern, agrees}
use Rattle.term_core.specs.Mappings.{Row}
use Rattle.term_core.specs.Index.{index_of}
use Rattle.term_core.specs.Index as indexes
use Rattle.store_image.specs.Table.{decode, IsBelow, AreBelow}
use Rattle.store_image.specs.Keys.{index_numbered, ids_of_key, keys_by}
use Rattle.triple_store.specs.declared.range.Range.{Range}
use Rattle.triple_store.specs.declared.asked.Asked.{Asked}
use Rattle.triple_store.specs.Asked.{asks_for, index_for}
use Rattle.triple_store.specs.Stores.{View}

-- the places are of one of the three lists
pub record IsInStore (store : View) (r : Range) : Type 0 where
  pub order : r.order ≤ 2
  pub rises : r.first ≤ r.end
  pub within : r.end ≤ store.header.triples

-- the triples at the places of a range, in the order of its list
abbrev pub triples_at : List IdTriple → Range → List IdTriple
triples_at ids r = map (ids_of_key (index_numbered r.order)) (take (r.end - r.first) (drop r.first (keys_by (index_numbered r.order) ids)))

-- what is asked for is what a pattern asks for under a row: its terms and the values of its names, by their ranks
pub record IsAskedBy (terms : List Term) (p : Pattern) (row : Row) (asked : Asked) : Type 0 where
  pub index : index_for asked ≡ index_of p row
  pub same : (i : IdTriple) → IsBelow (length terms) i → asks_for asked i ≡ agrees p row (decode terms i)

-- the triples of the data that agree with a pattern under a row, by ranks, in the order of the pattern's index, each once
pub record IsRangeOf (L : List Triple) (terms : List Term) (ids : List IdTriple) (p : Pattern) (row : Row) (r : Range) : Type 0 where
  pub index : index_numbered r.order ≡ index_of p row
  pub count : length (triples_at ids r) ≡ r.end - r.first
  pub below : AreBelow (length terms) (triples_at ids r)
  pub triples : map (decode terms) (triples_at ids r) ≡ indexes.range L p row
