-- Triples of ranks in the three orders, each by a key.
use Rattle.std.specs.Prelude.{ℕ, zero, suc, List, map}
use Rattle.term_core.specs.declared.pattern.IdTriple.{IdTriple}
use Rattle.term_core.specs.Ids.{id_cmp}
use Rattle.term_core.specs.Index.{Index, by_subject, by_predicate, by_object, in_order}

-- the orders by number: 0 is by subject, predicate and object, 1 by predicate, object and subject, 2 by object, subject
-- and predicate
abbrev pub index_numbered : ℕ → Index
index_numbered zero = by_subject
index_numbered (suc zero) = by_predicate
index_numbered (suc (suc n)) = by_object

-- a triple's ranks in the order in which an index compares them
abbrev pub key_in : Index → IdTriple → IdTriple
key_in by_subject ids = ids
key_in by_predicate ids = record { s = ids.p; p = ids.o; o = ids.s }
key_in by_object ids = record { s = ids.o; p = ids.s; o = ids.p }

-- the triple with such a key
abbrev pub ids_of_key : Index → IdTriple → IdTriple
ids_of_key by_subject key = key
ids_of_key by_predicate key = record { s = key.o; p = key.s; o = key.p }
ids_of_key by_object key = record { s = key.p; p = key.o; o = key.s }

-- the keys of triples in an index, in order, each once
unfoldable pub keys_by : Index → List IdTriple → List IdTriple
keys_by x ids = in_order id_cmp (map (key_in x) ids)
