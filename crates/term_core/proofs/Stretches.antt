-- Ranges are stretches of their listings.
use Rattle.std.proofs.Common.{◌≡◌, Bool, true, false, cond, List, [], ◌∷◌, ◌++◌, Option, Some, None, refl, sym, ap, ◌∙◌, subst, ⊎_elim, inl, inr, Less, Equal, Greater}
use Rattle.std.specs.Prelude.{◌⊎◌, ◌&&◌, filter, is_some}
use Rattle.std.specs.List.Sorted.{IsStrictlySortedBy}
use Rattle.std.specs.declared.cmp.Ordering.{Ordering}
use Rattle.std.specs.Ordering.{ordering_then, ordering_reverse, is_eq}
use Rattle.std.specs.Cmp.{eq_by_cmp_equiv}
use Rattle.term_core.specs.declared.term.Term.{Term}
use Rattle.term_core.specs.declared.term.Triple.{Triple}
use Rattle.term_core.specs.Order.{term_cmp}
use Rattle.term_core.specs.OrderLaws.{terms_total, same_terms}
use Rattle.term_core.specs.Bags.{In}
use Rattle.term_core.specs.Mappings.{Row}
use Rattle.term_core.proofs.Bags.{from_In-filter}
use Rattle.term_core.proofs.Merges.{tie}
use Rattle.term_core.specs.Patterns.{Pattern, filled, fits, agrees}
use Rattle.term_core.specs.Index.{Index, by_subject, by_predicate, by_object, index_at, index_of, triple_cmp, index_cmp, side_at, sides, side, in_order}
use Rattle.term_core.specs.DataLaws.{IsStretch}
use Rattle.term_core.proofs.Orders.{all_at, ordered-in_order}
use Rattle.term_core.proofs.Ranges.{index_total}

-- the first comes no later than the second
abbrev pub AtMost : Ordering → Ordering → Type 0
AtMost Less b = Unit {0}
AtMost Equal Less = ⊥
AtMost Equal Equal = Unit {0}
AtMost Equal Greater = Unit {0}
AtMost Greater Less = ⊥
AtMost Greater Equal = ⊥
AtMost Greater Greater = Unit {0}

-- nothing is after what is greater
at_most_greater : (a : Ordering) → AtMost a Greater
at_most_greater Less = tt
at_most_greater Equal = tt
at_most_greater Greater = tt

-- where one term is less than another, it is less than a third or that is less than the other
apart : (x a b : Term) → term_cmp a b ≡ Less → (term_cmp a x ≡ Less) ⊎ (term_cmp b x ≡ Greater)
apart x a b e = at (term_cmp a x) refl
  where
    above : term_cmp x b ≡ Less → term_cmp b x ≡ Greater
    above h = terms_total.antisymm b x ∙ ap ordering_reverse h

    at : (o : Ordering) → term_cmp a x ≡ o → (term_cmp a x ≡ Less) ⊎ (term_cmp b x ≡ Greater)
    at Less h = inl h
    at Equal h = inr (above (sym (terms_total.congr a x b h) ∙ e))
    at Greater h = inr (above (terms_total.trans x a b (terms_total.antisymm x a ∙ ap ordering_reverse h) e))

-- one position of two triples, and what comes after it
step : (x a b : Term) (r c d : Ordering) → ordering_then (term_cmp a b) r ≡ Less → (r ≡ Less → AtMost c d) → AtMost (ordering_then (term_cmp a x) c) (ordering_then (term_cmp b x) d)
step x a b r c d e h = at (term_cmp a b) refl e
  where
    level : (o : Ordering) → AtMost c d → AtMost (ordering_then o c) (ordering_then o d)
    level Less g = tt
    level Equal g = g
    level Greater g = tt

    at : (o : Ordering) → term_cmp a b ≡ o → ordering_then o r ≡ Less → AtMost (ordering_then (term_cmp a x) c) (ordering_then (term_cmp b x) d)
    at Less p q = ⊎_elim
        (λ l. subst (λ w. AtMost (ordering_then w c) (ordering_then (term_cmp b x) d)) (sym l) tt)
        (λ g. subst (λ w. AtMost (ordering_then (term_cmp a x) c) (ordering_then w d)) (sym g) (at_most_greater (ordering_then (term_cmp a x) c)))
        (apart x a b p)
    at Equal p q = subst (λ w. AtMost (ordering_then (term_cmp a x) c) (ordering_then (term_cmp w x) d)) (same_terms a b p) (level (term_cmp a x) (h q))
    at Greater p q = absurd (not_less q)
      where
        not_less : Greater ≡ Less → ⊥
        not_less s = cc

-- the last position of two triples
last : (x a b : Term) → term_cmp a b ≡ Less → AtMost (term_cmp a x) (term_cmp b x)
last x a b e = ⊎_elim
    (λ l. subst (λ w. AtMost w (term_cmp b x)) (sym l) tt)
    (λ g. subst (λ w. AtMost (term_cmp a x) w) (sym g) (at_most_greater (term_cmp a x)))
    (apart x a b e)

-- along an index, triples come to the bound values no later than those after them
pub sides_rise : (s p o : Option Term) (a b : Triple) → triple_cmp (index_at (is_some s) (is_some p) (is_some o)) a b ≡ Less
    → AtMost (sides (index_at (is_some s) (is_some p) (is_some o)) s p o a) (sides (index_at (is_some s) (is_some p) (is_some o)) s p o b)
sides_rise None None None a b e = tt
sides_rise (Some s) None None a b e = step s a.subject b.subject _ Equal Equal e (λ _. tt)
sides_rise (Some s) (Some p) None a b e = step s a.subject b.subject _ _ _ e (λ f. step p a.predicate b.predicate _ Equal Equal f (λ _. tt))
sides_rise (Some s) (Some p) (Some o) a b e = step s a.subject b.subject _ _ _ e (λ f. step p a.predicate b.predicate _ _ _ f (λ g. last o a.object b.object g))
sides_rise None (Some p) None a b e = step p a.predicate b.predicate _ Equal Equal e (λ _. tt)
sides_rise None (Some p) (Some o) a b e = step p a.predicate b.predicate _ _ _ e (λ f. step o a.object b.object _ Equal Equal f (λ _. tt))
sides_rise None None (Some o) a b e = step o a.object b.object _ Equal Equal e (λ _. tt)
sides_rise (Some s) None (Some o) a b e = step o a.object b.object _ _ _ e (λ f. step s a.subject b.subject _ Equal Equal f (λ _. tt))

-- a triple agrees where it stands neither before nor after
fits_level : (o : Option Term) (t : Term) → fits o t ≡ is_eq (side_at o t)
fits_level None t = refl
fits_level (Some x) t = (eq_by_cmp_equiv terms_total).symm x t

-- a comparison by parts ties where each part ties
then_level : (a b : Ordering) → is_eq (ordering_then a b) ≡ is_eq a && is_eq b
then_level Less b = refl
then_level Equal b = refl
then_level Greater b = refl

three_level : (a b c : Ordering) → is_eq (ordering_then a (ordering_then b c)) ≡ is_eq a && (is_eq b && is_eq c)
three_level a b c = then_level a (ordering_then b c) ∙ ap (λ w. is_eq a && w) (then_level b c)

-- three tests in another order
turned : (a b c : Bool) → a && (b && c) ≡ b && (c && a)
turned true true true = refl
turned true true false = refl
turned true false c = refl
turned false true true = refl
turned false true false = refl
turned false false c = refl

-- three terms fit where each is level
all_fit : (s p o : Option Term) (t : Triple) → fits s t.subject && (fits p t.predicate && fits o t.object) ≡ is_eq (side_at s t.subject) && (is_eq (side_at p t.predicate) && is_eq (side_at o t.object))
all_fit s p o t = λ i. fits_level s t.subject i && (fits_level p t.predicate i && fits_level o t.object i)

sides_level : (index : Index) (s p o : Option Term) (t : Triple) → fits s t.subject && (fits p t.predicate && fits o t.object) ≡ is_eq (sides index s p o t)
sides_level by_subject s p o t = all_fit s p o t ∙ sym (three_level (side_at s t.subject) (side_at p t.predicate) (side_at o t.object))
sides_level by_predicate s p o t =
    all_fit s p o t
    ∙ turned (is_eq (side_at s t.subject)) (is_eq (side_at p t.predicate)) (is_eq (side_at o t.object))
    ∙ sym (three_level (side_at p t.predicate) (side_at o t.object) (side_at s t.subject))
sides_level by_object s p o t =
    all_fit s p o t
    ∙ sym (turned (is_eq (side_at o t.object)) (is_eq (side_at s t.subject)) (is_eq (side_at p t.predicate)))
    ∙ sym (three_level (side_at o t.object) (side_at s t.subject) (side_at p t.predicate))

-- so it is for a pattern under a row
pub agrees_level : (p : Pattern) (row : Row) (t : Triple) → agrees p row t ≡ is_eq (side p row t)
agrees_level p row t = sides_level (index_of p row) (filled row p.subject) (filled row p.predicate) (filled row p.object) t

-- along a pattern's index, triples come to its bound values no later than those after them
pub side_rises : (p : Pattern) (row : Row) (a b : Triple) → index_cmp p row a b ≡ Less → AtMost (side p row a) (side p row b)
side_rises p row a b e = sides_rise (filled row p.subject) (filled row p.predicate) (filled row p.object) a b e

-- lists in strict order on which a side rises
module _ {X : Type 0} (R : X → X → Ordering) (at : X → Ordering) (rises : (a b : X) → R a b ≡ Less → AtMost (at a) (at b)) where
  pub record Parts (xs : List X) : Type 0 where
    pub front : List X
    pub back : List X
    pub is : xs ≡ front ++ (filter (λ x. is_eq (at x)) xs ++ back)
    pub before : (x : X) → In front x → at x ≡ Less
    pub after : (x : X) → In back x → at x ≡ Greater

  -- after one that is greater, all are greater
  greater_after : (x : X) (xs : List X) → IsStrictlySortedBy R (x ∷ xs) → at x ≡ Greater → (y : X) → In (x ∷ xs) y → at y ≡ Greater
  unfolding IsStrictlySortedBy
  greater_after x xs h g y i = ⊎_elim
      (λ e. subst (λ w. at w ≡ Greater) e g)
      (λ j. only_greater (at y) (subst (λ w. AtMost w (at y)) g (rises x y (all_at (λ w. R x w ≡ Less) xs y h.0 j))))
      i
    where
      only_greater : (o : Ordering) → AtMost Greater o → o ≡ Greater
      only_greater Less k = absurd k
      only_greater Equal k = absurd k
      only_greater Greater k = refl

  -- where all are greater, none is level
  none_level : (xs : List X) → ((y : X) → In xs y → at y ≡ Greater) → filter (λ x. is_eq (at x)) xs ≡ []
  none_level [] h = refl
  none_level (x ∷ xs) h =
      ap (λ o. cond (is_eq o) (x ∷ filter (λ y. is_eq (at y)) xs) (filter (λ y. is_eq (at y)) xs)) (h x (inl refl)) ∙ none_level xs (λ y i. h y (inr i))

  -- what follows the first that is level
  level_parts : (xs : List X) → IsStrictlySortedBy R xs → ((y : X) → In xs y → at y ≡ Less → ⊥) → (back : List X) × (xs ≡ filter (λ x. is_eq (at x)) xs ++ back) × ((y : X) → In back y → at y ≡ Greater)
  unfolding IsStrictlySortedBy
  level_parts [] h k = ([], refl, λ y i. absurd i)
  level_parts (x ∷ xs) h k =
      let rest = level_parts xs h.1 (λ y i. k y (inr i)) in
      elim (at x) as (λ o. at x ≡ o → (back : List X) × (x ∷ xs ≡ cond (is_eq o) (x ∷ filter (λ y. is_eq (at y)) xs) (filter (λ y. is_eq (at y)) xs) ++ back) × ((y : X) → In back y → at y ≡ Greater)) [
        | Less ↦ λ e. absurd (k x (inl refl) e)
        | Equal ↦ λ e. (rest.0, ap (λ w. x ∷ w) rest.1, rest.2)
        | Greater ↦ λ e. (
          x ∷ xs,
          ap (λ w. w ++ x ∷ xs) (sym (none_level xs (λ y i. greater_after x xs h e y (inr i)))),
          greater_after x xs h e,
        )
      ] refl

  -- after one that is level, none is less
  not_less_after : (x : X) (xs : List X) → IsStrictlySortedBy R (x ∷ xs) → at x ≡ Equal → (y : X) → In xs y → at y ≡ Less → ⊥
  unfolding IsStrictlySortedBy
  not_less_after x xs h e y i l =
      subst (λ w. AtMost Equal w) l (subst (λ w. AtMost w (at y)) e (rises x y (all_at (λ w. R x w ≡ Less) xs y h.0 i)))

  -- a list in order falls into what is less, level and greater
  pub parts : (xs : List X) → IsStrictlySortedBy R xs → Parts xs
  unfolding IsStrictlySortedBy
  parts [] h = record { front = []; back = []; is = refl; before = λ x i. absurd i; after = λ x i. absurd i }
  parts (x ∷ xs) h = at_first (at x) refl (parts xs h.1)
    where
      at_first : (o : Ordering) → at x ≡ o → Parts xs → Parts (x ∷ xs)
      at_first Less e rest = record {
        front = x ∷ rest.front;
        back = rest.back;
        is = ap (λ w. x ∷ w) rest.is ∙ ap (λ o. x ∷ (rest.front ++ (cond (is_eq o) (x ∷ filter (λ y. is_eq (at y)) xs) (filter (λ y. is_eq (at y)) xs) ++ rest.back))) (sym e);
        before = λ y i. ⊎_elim (λ s. subst (λ w. at w ≡ Less) s e) (λ j. rest.before y j) i;
        after = rest.after;
      }
      at_first Equal e _ =
          let rest = level_parts xs h.1 (not_less_after x xs h e) in
          record {
            front = [];
            back = rest.0;
            is = ap (λ w. x ∷ w) rest.1 ∙ ap (λ o. cond (is_eq o) (x ∷ filter (λ y. is_eq (at y)) xs) (filter (λ y. is_eq (at y)) xs) ++ rest.0) (sym e);
            before = λ y i. absurd i;
            after = rest.2;
          }
      at_first Greater e _ = record {
        front = [];
        back = x ∷ xs;
        is = ap (λ w. w ++ x ∷ xs) (sym (none_level (x ∷ xs) (greater_after x xs h e)));
        before = λ y i. absurd i;
        after = greater_after x xs h e;
      }

-- two tests that answer alike keep the same
filter_same : {X : Type 0} (p q : X → Bool) (xs : List X) → ((x : X) → p x ≡ q x) → filter p xs ≡ filter q xs
filter_same p q [] h = refl
filter_same p q (x ∷ xs) h = λ i. cond (h x i) (x ∷ filter_same p q xs h i) (filter_same p q xs h i)

-- the law of stretches
pub stretch : (D : List Triple) (p : Pattern) (row : Row) → IsStretch D p row
stretch D p row =
    let listing = in_order (index_cmp p row) D in
    let r : Parts (index_cmp p row) (side p row) (side_rises p row) listing = parts (index_cmp p row) (side p row) (side_rises p row) listing (ordered-in_order (index_cmp p row) (index_total (index_of p row)) D) in
    record {
      front = r.front;
      back = r.back;
      is = r.is ∙ ap (λ w. r.front ++ (w ++ r.back)) (sym (filter_same (agrees p row) (λ t. is_eq (side p row t)) listing (agrees_level p row)));
      before = r.before;
      among = λ t i. tie (side p row t) (sym (agrees_level p row t) ∙ (from_In-filter (agrees p row) listing t i).1);
      after = r.after;
    }
