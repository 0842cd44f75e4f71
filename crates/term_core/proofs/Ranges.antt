-- The range of a pattern under a row.
use Rattle.std.proofs.Common.{◌≡◌, true, List, Equal}
use Rattle.std.specs.List.Sorted.{IsStrictlySortedBy}
use Rattle.std.specs.Cmp.{IsTotalOrder}
use Rattle.std.proofs.lemmas.Cmp.{then_total, on_total}
use Rattle.std.proofs.lemmas.List.Kept.{IsStrictlySortedBy-filter}
use Rattle.term_core.specs.declared.term.Triple.{Triple}
use Rattle.term_core.specs.OrderLaws.{terms_total, same_terms, both_tie}
use Rattle.term_core.specs.Bags.{In, AreDistinct, HaveSame}
use Rattle.term_core.specs.Mappings.{Row}
use Rattle.term_core.proofs.Bags.{In-filter, from_In-filter}
use Rattle.term_core.specs.Patterns.{Pattern, agrees}
use Rattle.term_core.specs.Index.{Index, by_subject, by_predicate, by_object, index_of, triple_cmp, index_cmp, in_order, range}
use Rattle.term_core.specs.DataLaws.{IsListing, ListingIs, IsRange, RangeIs}
use Rattle.term_core.proofs.Orders.{AreDistinct-ordered, from_In-in_order, ordered-in_order, same_ordered, In-in_order}

-- each index is a total order, in which equal triples alone tie
pub index_total : (index : Index) → IsTotalOrder (triple_cmp index)
index_total by_subject = then_total (on_total (λ (t : Triple). t.subject) terms_total) (then_total (on_total (λ (t : Triple). t.predicate) terms_total) (on_total (λ (t : Triple). t.object) terms_total))
index_total by_predicate = then_total (on_total (λ (t : Triple). t.predicate) terms_total) (then_total (on_total (λ (t : Triple). t.object) terms_total) (on_total (λ (t : Triple). t.subject) terms_total))
index_total by_object = then_total (on_total (λ (t : Triple). t.object) terms_total) (then_total (on_total (λ (t : Triple). t.subject) terms_total) (on_total (λ (t : Triple). t.predicate) terms_total))

-- a triple by its three terms
same_triple : (a b : Triple) → a.subject ≡ b.subject → a.predicate ≡ b.predicate → a.object ≡ b.object → a ≡ b
same_triple a b s p o = λ i. record { subject = s i; predicate = p i; object = o i }

pub index_exact : (index : Index) (a b : Triple) → triple_cmp index a b ≡ Equal → a ≡ b
index_exact by_subject a b e =
    let x = both_tie _ _ e in let y = both_tie _ _ x.1 in same_triple a b (same_terms _ _ x.0) (same_terms _ _ y.0) (same_terms _ _ y.1)
index_exact by_predicate a b e =
    let x = both_tie _ _ e in let y = both_tie _ _ x.1 in same_triple a b (same_terms _ _ y.1) (same_terms _ _ x.0) (same_terms _ _ y.0)
index_exact by_object a b e =
    let x = both_tie _ _ e in let y = both_tie _ _ x.1 in same_triple a b (same_terms _ _ y.0) (same_terms _ _ y.1) (same_terms _ _ x.0)

-- the law of listings
pub listing_is : (index : Index) (D : List Triple) → ListingIs index D
listing_is index D =
    let own : IsListing index D (in_order (triple_cmp index) D) = record {
      ordered = ordered-in_order (triple_cmp index) (index_total index) D;
      same = record {
        to = λ t i. from_In-in_order (triple_cmp index) (index_total index) D t i;
        from = λ t i. In-in_order (triple_cmp index) (index_total index) (index_exact index) D t i;
      };
    } in
    record {
      is = own;
      alone = λ ts h. same_ordered (triple_cmp index) (index_total index) ts (in_order (triple_cmp index) D) h.ordered own.ordered
          (λ t i. own.same.from t (h.same.to t i)) (λ t i. h.same.from t (own.same.to t i));
    }

-- the range has the triples of the data that agree
pub In-range : (D : List Triple) (p : Pattern) (row : Row) (t : Triple) → In D t → agrees p row t ≡ true → In (range D p row) t
In-range D p row t i e =
    In-filter (agrees p row) (in_order (index_cmp p row) D) t (In-in_order (index_cmp p row) (index_total (index_of p row)) (index_exact (index_of p row)) D t i) e

pub from_In-range : (D : List Triple) (p : Pattern) (row : Row) (t : Triple) → In (range D p row) t → In D t × (agrees p row t ≡ true)
from_In-range D p row t i =
    let r = from_In-filter (agrees p row) (in_order (index_cmp p row) D) t i in
    (from_In-in_order (index_cmp p row) (index_total (index_of p row)) D t r.0, r.1)

-- the range is in strict order, so it has each triple once
pub range_ordered : (D : List Triple) (p : Pattern) (row : Row) → IsStrictlySortedBy (index_cmp p row) (range D p row)
range_ordered D p row =
    IsStrictlySortedBy-filter (index_cmp p row) (agrees p row) (in_order (index_cmp p row) D) (ordered-in_order (index_cmp p row) (index_total (index_of p row)) D)

pub range_distinct : (D : List Triple) (p : Pattern) (row : Row) → AreDistinct (range D p row)
range_distinct D p row = AreDistinct-ordered (index_cmp p row) (index_total (index_of p row)) (range D p row) (range_ordered D p row)

-- no other list has this order and these members
pub range_alone : (D : List Triple) (p : Pattern) (row : Row) (ts : List Triple) → IsRange D p row ts → ts ≡ range D p row
range_alone D p row ts h =
    same_ordered (index_cmp p row) (index_total (index_of p row)) ts (range D p row) h.ordered (range_ordered D p row)
    (λ t i. let r = h.to t i in In-range D p row t r.0 r.1)
    (λ t i. let r = from_In-range D p row t i in h.from t r.0 r.1)

-- the law of ranges
pub range_is : (D : List Triple) (p : Pattern) (row : Row) → RangeIs D p row
range_is D p row = record {
  is = record { ordered = range_ordered D p row; to = λ t i. from_In-range D p row t i; from = λ t i e. In-range D p row t i e };
  alone = λ ts h. range_alone D p row ts h;
}

-- the range depends on the data's members alone
pub range_same : (D E : List Triple) (p : Pattern) (row : Row) → HaveSame D E → range D p row ≡ range E p row
range_same D E p row h = range_alone E p row (range D p row) (record {
  ordered = range_ordered D p row;
  to = λ t i. let r = from_In-range D p row t i in (h.to t r.0, r.1);
  from = λ t i e. In-range D p row t (h.from t i) e;
})
