-- What is proved of data: their listings, the ranges of patterns, ranks, and that only the set of triples counts.
use Rattle.std.specs.Prelude.{◌≡◌, ℕ, List, ◌++◌, slice_get, Some, true}
use Rattle.std.specs.List.Sorted.{IsStrictlySortedBy}
use Rattle.std.specs.declared.cmp.Ordering.TheVariants.{Less, Equal, Greater}
use Rattle.term_core.specs.declared.term.Term.{Term}
use Rattle.term_core.specs.declared.term.Triple.{Triple}
use Rattle.term_core.specs.Order.{term_cmp}
use Rattle.term_core.specs.Bags.{In, HaveSame}
use Rattle.term_core.specs.Mappings.{Row}
use Rattle.term_core.specs.Patterns.{Pattern, agrees}
use Rattle.term_core.specs.Index.{Index, triple_cmp, index_cmp, side, in_order, range}
use Rattle.term_core.specs.Data.{terms_of, rank, ids_of, data_id}

-- a list that stands in an index's order, each triple once
pub record IsListing (index : Index) (D ts : List Triple) : Type 0 where
  pub ordered : IsStrictlySortedBy (triple_cmp index) ts
  pub same : HaveSame ts D

-- the data in an index's order are such a list, and the only one
pub record ListingIs (index : Index) (D : List Triple) : Type 0 where
  pub is : IsListing index D (in_order (triple_cmp index) D)
  pub alone : (ts : List Triple) → IsListing index D ts → ts ≡ in_order (triple_cmp index) D

-- so it is for each index
abbrev pub ListingsAre : Type 0
ListingsAre = (index : Index) (D : List Triple) → ListingIs index D

-- triples in the order of the pattern's index, each once, that are those of the data that agree
pub record IsRange (D : List Triple) (p : Pattern) (row : Row) (ts : List Triple) : Type 0 where
  pub ordered : IsStrictlySortedBy (index_cmp p row) ts
  pub to : (t : Triple) → In ts t → In D t × (agrees p row t ≡ true)
  pub from : (t : Triple) → In D t → agrees p row t ≡ true → In ts t

-- the range is such a list, and the only one
pub record RangeIs (D : List Triple) (p : Pattern) (row : Row) : Type 0 where
  pub is : IsRange D p row (range D p row)
  pub alone : (ts : List Triple) → IsRange D p row ts → ts ≡ range D p row

-- so it is for each pattern under each row
abbrev pub RangesAre : Type 0
RangesAre = (D : List Triple) (p : Pattern) (row : Row) → RangeIs D p row

-- the range is one stretch of the listing by the pattern's index: what stands before it is less, and what stands after it greater
pub record IsStretch (D : List Triple) (p : Pattern) (row : Row) : Type 0 where
  pub front : List Triple
  pub back : List Triple
  pub is : in_order (index_cmp p row) D ≡ front ++ (range D p row ++ back)
  pub before : (t : Triple) → In front t → side p row t ≡ Less
  pub among : (t : Triple) → In (range D p row) t → side p row t ≡ Equal
  pub after : (t : Triple) → In back t → side p row t ≡ Greater

-- so it is for each pattern under each row
abbrev pub RangesAreStretches : Type 0
RangesAreStretches = (D : List Triple) (p : Pattern) (row : Row) → IsStretch D p row

-- the rank of a term is its place in the list, and at its rank stands the term
pub record PlacesAreRanks (D : List Triple) (ts : List Term) : Type 0 where
  pub to : (k : ℕ) (t : Term) → slice_get ts k ≡ Some t → rank D t ≡ k
  pub from : (t : Term) → In (terms_of D) t → slice_get ts (rank D t) ≡ Some t

-- so it is in the sorted list of the data's terms
abbrev pub RanksArePlaces : Type 0
RanksArePlaces = (D : List Triple) (ts : List Term) → IsStrictlySortedBy term_cmp ts → HaveSame ts (terms_of D) → PlacesAreRanks D ts

-- two terms of the data have two ranks, and two triples of the data have other numbers
pub record RanksAreExact (D : List Triple) : Type 0 where
  pub terms : (s t : Term) → In (terms_of D) s → In (terms_of D) t → rank D s ≡ rank D t → s ≡ t
  pub triples : (s t : Triple) → In D s → In D t → ids_of D s ≡ ids_of D t → s ≡ t

-- whatever the data
abbrev pub RanksExact : Type 0
RanksExact = (D : List Triple) → RanksAreExact D

-- two lists of the same triples have the same ranks, the same name and the same ranges
pub record AreOneSet (D E : List Triple) : Type 0 where
  pub ranks : (t : Term) → rank D t ≡ rank E t
  pub names : data_id D ≡ data_id E
  pub ranges : (p : Pattern) (row : Row) → range D p row ≡ range E p row

-- only which triples there are counts, not their order or repeats
abbrev pub DataAreSets : Type 0
DataAreSets = (D E : List Triple) → HaveSame D E → AreOneSet D E
