-- The triples that ranks ask for, as a stretch of one of the three lists.
use Rattle.std.specs.Prelude.{◌≡◌, ◌-◌, List, Bool, true, length, take, drop}
use Rattle.std.specs.List.Sorted.{IsStrictlySortedBy}
use Rattle.term_core.specs.Bags.{In}
use Rattle.term_core.specs.Ids.{id_cmp}
use Rattle.term_core.specs.declared.pattern.IdTriple.{IdTriple}
use Rattle.store_image.specs.Keys.{index_numbered, key_in, ids_of_key, keys_by}
use Rattle.triple_store.specs.declared.range.Range.{Range}

-- the keys at the places of a range
abbrev pub keys_at : List IdTriple → Range → List IdTriple
keys_at ids r = take (r.end - r.first) (drop r.first (keys_by (index_numbered r.order) ids))

-- the keys at the places of a range are those of the triples that pass a test, in order
pub record IsKeyStretch (test : IdTriple → Bool) (ids : List IdTriple) (r : Range) : Type 0 where
  pub ordered : IsStrictlySortedBy id_cmp (keys_at ids r)
  pub count : length (keys_at ids r) ≡ r.end - r.first
  pub to : (key : IdTriple) → In (keys_at ids r) key
      → In ids (ids_of_key (index_numbered r.order) key) × (test (ids_of_key (index_numbered r.order) key) ≡ true)
  pub from : (i : IdTriple) → In ids i → test i ≡ true → In (keys_at ids r) (key_in (index_numbered r.order) i)
