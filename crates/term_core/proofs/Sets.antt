-- A list of triples stands for the set of them.
use Rattle.std.proofs.Common.{◌≡◌, List, ap}
use Rattle.std.specs.Prelude.{flat_map}
use Rattle.std.specs.Ordering.{is_lt}
use Rattle.sha2.specs.Sha256.{sha256}
use Rattle.term_core.specs.declared.term.Term.{Term}
use Rattle.term_core.specs.declared.term.Triple.{Triple}
use Rattle.term_core.specs.Order.{term_cmp}
use Rattle.term_core.specs.Texts.{triple_text}
use Rattle.term_core.specs.Bags.{In, HaveSame}
use Rattle.term_core.specs.Mappings.{same_term}
use Rattle.term_core.specs.Index.{by_subject, triple_cmp, in_order}
use Rattle.term_core.specs.Data.{parts, terms_of, rank, ids_of, data_id}
use Rattle.term_core.specs.DataLaws.{AreOneSet}
use Rattle.term_core.proofs.Bags.{In-flat_map, from_In-flat_map, same_members}
use Rattle.term_core.proofs.Merges.{terms_same, term_itself}
use Rattle.term_core.proofs.Distinct.{In-distinct, from_In-distinct}
use Rattle.term_core.proofs.Ranges.{listing_is, range_same}
use Rattle.term_core.proofs.Ranked.{terms_distinct, length-filter_same}

-- the same members, the other way round
pub same_back : {X : Type 0} {xs ys : List X} → HaveSame xs ys → HaveSame ys xs
same_back h = record { to = h.from; from = h.to }

-- the name depends on the data's members alone
listed : (D E : List Triple) → HaveSame D E → in_order (triple_cmp by_subject) D ≡ in_order (triple_cmp by_subject) E
listed D E same =
    let own = (listing_is by_subject D).is in
    (listing_is by_subject E).alone (in_order (triple_cmp by_subject) D) (record {
      ordered = own.ordered;
      same = record { to = λ t i. same.to t (own.same.to t i); from = λ t i. own.same.from t (same.from t i) };
    })

pub data_id_same : (D E : List Triple) → HaveSame D E → data_id D ≡ data_id E
data_id_same D E same = ap (λ ts. sha256 (flat_map triple_text ts)) (listed D E same)

-- so do the terms and their ranks
term_moves : (D E : List Triple) → HaveSame D E → (t : Term) → In (terms_of D) t → In (terms_of E) t
term_moves D E same t i =
    let r = from_In-flat_map parts D t (from_In-distinct same_term terms_same term_itself (flat_map parts D) t i) in
    In-distinct same_term terms_same term_itself (flat_map parts E) t (In-flat_map parts E r.0 t (same.to r.0 r.1) r.2)

pub rank_same : (D E : List Triple) → HaveSame D E → (t : Term) → rank D t ≡ rank E t
rank_same D E same t =
    length-filter_same (λ u. is_lt (term_cmp u t)) (terms_of D) (terms_of E)
    (same_members (terms_of D) (terms_of E) (terms_distinct D) (terms_distinct E) (term_moves D E same) (term_moves E D (same_back same)))

pub ids_same : (D E : List Triple) → HaveSame D E → (t : Triple) → ids_of D t ≡ ids_of E t
ids_same D E same t = λ i. record { s = rank_same D E same t.subject i; p = rank_same D E same t.predicate i; o = rank_same D E same t.object i }

-- the law of sets
pub one_set : (D E : List Triple) → HaveSame D E → AreOneSet D E
one_set D E same = record {
  ranks = rank_same D E same;
  names = data_id_same D E same;
  ranges = λ p row. range_same D E p row same;
}
