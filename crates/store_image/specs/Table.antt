-- The data in memory: its terms in order, and its triples by the numbers of their terms.
use Rattle.std.specs.Prelude.{◌≡◌, ℕ, ◌+◌, ◌<◌, ◌≤◌, List, [], ◌∷◌, ◌++◌, length, map, flat_map, slice_get, slice_index, slice_index_or, Option, Some, None, ◌↔◌, Bool, false, cond}
use Rattle.std.specs.Ordering.{is_lt}
use Rattle.std.specs.List.Sorted.{IsStrictlySortedBy}
use Rattle.term_core.specs.declared.term.Term.{Term}
use Rattle.term_core.specs.declared.term.Term.TheVariants.{Iri}
use Rattle.term_core.specs.declared.term.Triple.{Triple}
use Rattle.term_core.specs.declared.pattern.IdTriple.{IdTriple}
use Rattle.term_core.specs.Order.{term_cmp}
use Rattle.term_core.specs.Ids.{id_cmp}
use Rattle.term_core.specs.Bags.{In}
use Rattle.term_core.specs.Mappings.{same_term}
use Rattle.term_core.specs.Data.{parts}
use Rattle.store_image.specs.declared.table.Table.{Table}
use Rattle.term_core.specs.Index.{by_subject, triple_cmp, in_order}

-- the terms of a table
abbrev pub terms_in : Table → List Term
terms_in table = map (λ t. t.now) table.terms.items

-- the triples of a table
abbrev pub ids_in : Table → List IdTriple
ids_in table = table.triples.items

-- the term with a number, and an empty IRI where there is none
abbrev pub term_numbered : List Term → ℕ → Term
term_numbered terms k = slice_index_or terms k (Iri [])

-- the triple of the terms with these numbers
abbrev pub decode : List Term → IdTriple → Triple
decode terms ids = record { subject = term_numbered terms ids.s; predicate = term_numbered terms ids.p; object = term_numbered terms ids.o }

-- each of the three numbers is less than `count`
pub record IsBelow (count : ℕ) (ids : IdTriple) : Type 0 where
  pub s : ids.s < count
  pub p : ids.p < count
  pub o : ids.o < count

-- each of the triples has the numbers of terms
abbrev pub AreBelow : ℕ → List IdTriple → Type 0
AreBelow count ids = (i : IdTriple) → In ids i → IsBelow count i

-- the terms of the data in order, each once, and its triples by their numbers, in order, each once
pub record IsTable (L : List Triple) (terms : List Term) (ids : List IdTriple) : Type 0 where
  pub rising : IsStrictlySortedBy term_cmp terms
  pub to : (t : Term) → In terms t → In (flat_map parts L) t
  pub from : (t : Term) → In (flat_map parts L) t → In terms t
  pub few : length terms ≤ 12582909
  pub below : AreBelow (length terms) ids
  pub ordered : IsStrictlySortedBy id_cmp ids
  pub listing : map (decode terms) ids ≡ in_order (triple_cmp by_subject) L

-- where a value stands in a list in which it stands at most once: its place, or nothing where it is not there
pub record IsFound {X : Type 0} (xs : List X) (x : X) (result : Option ℕ) : Type 0 where
  pub at : (k : ℕ) → (result ≡ Some k) ↔ (slice_get xs k ≡ Some x)
  pub none : (result ≡ None) ↔ (In xs x → ⊥)
