-- The rank of a term is its place among the data's terms in order.
use Rattle.std.proofs.Common.{◌≡◌, ℕ, zero, suc, ◌+◌, Bool, true, false, cond, List, [], ◌∷◌, length, Some, refl, sym, ap, ◌∙◌, ⊎_elim, inl, inr, arith, Less}
use Rattle.std.specs.Prelude.{flat_map, filter, slice_get}
use Rattle.std.specs.List.Sorted.{IsStrictlySortedBy}
use Rattle.std.specs.declared.cmp.Ordering.{Ordering}
use Rattle.std.specs.Ordering.{is_lt, ordering_reverse}
use Rattle.std.specs.Cmp.{IsTotalOrder}
use Rattle.std.proofs.lemmas.Cmp.{tied_itself}
use Rattle.term_core.specs.declared.term.Term.{Term}
use Rattle.term_core.specs.declared.term.Triple.{Triple}
use Rattle.term_core.specs.Order.{term_cmp}
use Rattle.term_core.specs.OrderLaws.{terms_total, same_terms}
use Rattle.term_core.specs.Bags.{In, AreDistinct, total, SameBag, HaveSame}
use Rattle.term_core.specs.Mappings.{same_term}
use Rattle.term_core.proofs.Bags.{In-flat_map, same_members}
use Rattle.term_core.proofs.Merges.{Some_same, terms_same, term_itself}
use Rattle.term_core.proofs.Distinct.{In-distinct, AreDistinct-distinct}
use Rattle.term_core.specs.Data.{parts, terms_of, rank, ids_of}
use Rattle.term_core.specs.Index.{in_order}
use Rattle.term_core.specs.DataLaws.{PlacesAreRanks, RanksAreExact}
use Rattle.term_core.proofs.Orders.{all_at, AreDistinct-ordered, from_In-in_order, ordered-in_order, In-in_order}

-- members and places
pub In-slice_get : {X : Type 0} (xs : List X) (k : ℕ) (x : X) → slice_get xs k ≡ Some x → In xs x
In-slice_get [] k x e = cc
In-slice_get (y ∷ xs) zero x e = inl (Some_same y x e)
In-slice_get (y ∷ xs) (suc k) x e = inr (In-slice_get xs k x e)

pub slice_get-In : {X : Type 0} (xs : List X) (x : X) → In xs x → (k : ℕ) × (slice_get xs k ≡ Some x)
slice_get-In [] x i = absurd i
slice_get-In {X} (y ∷ xs) x i = ⊎_elim {C = (k : ℕ) × (slice_get (y ∷ xs) k ≡ Some x)} (λ e. (0, ap Some e)) (λ j. let r = slice_get-In xs x j in (suc r.0, r.1)) i

-- how many elements pass a test depends on the bag alone
length-filter_total : {X : Type 0} (f : X → Bool) (xs : List X) → length (filter f xs) ≡ total (λ x. cond (f x) 1 0) xs
length-filter_total f [] = refl
length-filter_total f (x ∷ xs) =
    elim (f x) as (λ b. length (cond b (x ∷ filter f xs) (filter f xs)) ≡ cond b 1 0 + total (λ y. cond (f y) 1 0) xs) [
      | true ↦ omega (arith, length-filter_total f xs)
      | false ↦ omega (arith, length-filter_total f xs)
    ]

pub length-filter_same : {X : Type 0} (f : X → Bool) (xs ys : List X) → SameBag xs ys → length (filter f xs) ≡ length (filter f ys)
length-filter_same f xs ys h = length-filter_total f xs ∙ h.by (λ x. cond (f x) 1 0) ∙ sym (length-filter_total f ys)

none_pass : {X : Type 0} (f : X → Bool) (xs : List X) → ((x : X) → In xs x → f x ≡ false) → length (filter f xs) ≡ 0
none_pass f [] h = refl
none_pass f (x ∷ xs) h = ap (λ b. length (cond b (x ∷ filter f xs) (filter f xs))) (h x (inl refl)) ∙ none_pass f xs (λ y i. h y (inr i))

-- an element of a list in strict order stands above as many as stand before it
module _ {X : Type 0} (R : X → X → Ordering) (o : IsTotalOrder R) where
  place_is : (xs : List X) (k : ℕ) (x : X) → IsStrictlySortedBy R xs → slice_get xs k ≡ Some x → length (filter (λ y. is_lt (R y x)) xs) ≡ k
  unfolding IsStrictlySortedBy
  place_is [] k x h e = cc
  place_is (y ∷ xs) zero x h e =
      let same : y ≡ x = Some_same y x e in
      none_pass (λ z. is_lt (R z x)) (y ∷ xs) (λ z i. ⊎_elim
      (λ s. ap (λ w. is_lt (R w x)) (sym s ∙ same) ∙ ap is_lt (tied_itself o x))
      (λ j. ap (λ w. is_lt (R z w)) (sym same) ∙ ap is_lt (o.antisymm z y ∙ ap ordering_reverse (all_at (λ w. R y w ≡ Less) xs z h.0 j)))
      i)
  place_is (y ∷ xs) (suc k) x h e =
      let less : R y x ≡ Less = all_at (λ w. R y w ≡ Less) xs x h.0 (In-slice_get xs k x e) in
      ap (λ b. length (cond b (y ∷ filter (λ z. is_lt (R z x)) xs) (filter (λ z. is_lt (R z x)) xs))) (ap is_lt less)
      ∙ ap suc (place_is xs k x h.1 e)

pub terms_distinct : (D : List Triple) → AreDistinct (terms_of D)
terms_distinct D = AreDistinct-distinct same_term terms_same term_itself (flat_map parts D)

pub rank_is : (D : List Triple) (ts : List Term) → IsStrictlySortedBy term_cmp ts → HaveSame ts (terms_of D) → (k : ℕ) (t : Term) → slice_get ts k ≡ Some t → rank D t ≡ k
rank_is D ts h same k t e =
    length-filter_same (λ u. is_lt (term_cmp u t)) (terms_of D) ts
    (same_members (terms_of D) ts (terms_distinct D) (AreDistinct-ordered term_cmp terms_total ts h) same.from same.to)
    ∙ place_is term_cmp terms_total ts k t h e

pub rank_found : (D : List Triple) (ts : List Term) → IsStrictlySortedBy term_cmp ts → HaveSame ts (terms_of D) → (t : Term) → In (terms_of D) t → slice_get ts (rank D t) ≡ Some t
rank_found D ts h same t i =
    let x = slice_get-In ts t (same.from t i) in
    ap (slice_get ts) (rank_is D ts h same x.0 t x.1) ∙ x.1

pub ranks_are_places : (D : List Triple) (ts : List Term) → IsStrictlySortedBy term_cmp ts → HaveSame ts (terms_of D) → PlacesAreRanks D ts
ranks_are_places D ts h same = record { to = rank_is D ts h same; from = rank_found D ts h same }

-- the data's terms in order
pub ordered_terms_same : (D : List Triple) → HaveSame (in_order term_cmp (terms_of D)) (terms_of D)
ordered_terms_same D = record {
  to = λ t i. from_In-in_order term_cmp terms_total (terms_of D) t i;
  from = λ t i. In-in_order term_cmp terms_total same_terms (terms_of D) t i;
}

pub rank_at : (D : List Triple) (k : ℕ) (t : Term) → slice_get (in_order term_cmp (terms_of D)) k ≡ Some t → rank D t ≡ k
rank_at D k t e = rank_is D (in_order term_cmp (terms_of D)) (ordered-in_order term_cmp terms_total (terms_of D)) (ordered_terms_same D) k t e

pub ranks_same : (D : List Triple) (s t : Term) → In (terms_of D) s → In (terms_of D) t → rank D s ≡ rank D t → s ≡ t
ranks_same D s t i j e =
    let ts = in_order term_cmp (terms_of D) in
    let x = slice_get-In ts s ((ordered_terms_same D).from s i) in
    let y = slice_get-In ts t ((ordered_terms_same D).from t j) in
    let places : x.0 ≡ y.0 = sym (rank_at D x.0 s x.1) ∙ e ∙ rank_at D y.0 t y.1 in
    Some_same s t (sym x.1 ∙ ap (slice_get ts) places ∙ y.1)

-- the terms of a triple of the data are terms of the data
pub part_among : (D : List Triple) (t : Triple) (s : Term) → In D t → In (parts t) s → In (terms_of D) s
part_among D t s i j = In-distinct same_term terms_same term_itself (flat_map parts D) s (In-flat_map parts D t s i j)

pub ids_same : (D : List Triple) (s t : Triple) → In D s → In D t → ids_of D s ≡ ids_of D t → s ≡ t
ids_same D s t i j e =
    let subjects : s.subject ≡ t.subject = ranks_same D _ _ (part_among D s _ i (inl refl)) (part_among D t _ j (inl refl)) (ap (λ ids. ids.s) e) in
    let predicates : s.predicate ≡ t.predicate = ranks_same D _ _ (part_among D s _ i (inr (inl refl))) (part_among D t _ j (inr (inl refl))) (ap (λ ids. ids.p) e) in
    let objects : s.object ≡ t.object = ranks_same D _ _ (part_among D s _ i (inr (inr (inl refl)))) (part_among D t _ j (inr (inr (inl refl)))) (ap (λ ids. ids.o) e) in
    λ l. record { subject = subjects l; predicate = predicates l; object = objects l }

pub ranks_exact : (D : List Triple) → RanksAreExact D
ranks_exact D = record { terms = ranks_same D; triples = ids_same D }
