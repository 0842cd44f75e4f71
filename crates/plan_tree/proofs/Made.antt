-- What a join makes of one row.
use Rattle.std.proofs.Common.{◌≡◌, true, false, cond, List, [], ◌∷◌, Option, Some, None, refl, sym, ap, ◌∙◌, subst, ⊎_elim, inl, inr}
use Rattle.std.specs.Prelude.{◌⊎◌}
use Rattle.std.specs.List.{filter_map}
use Rattle.std.specs.FinMap as finmap
use Rattle.term_core.specs.declared.term.Term.{Term}
use Rattle.term_core.specs.declared.term.Triple.{Triple}
use Rattle.term_core.specs.Bags.{In, AreDistinct, SameBag}
use Rattle.term_core.specs.Mappings.{Name, Row, value, same_name, same_term, joined, restricted, IsJoin}
use Rattle.term_core.proofs.Bags.{In-append_left, In-append_right, In-filter_map, from_In-filter_map, AreDistinct-filter_map, same_members}
use Rattle.term_core.proofs.Merges.{names_same, terms_same, term_itself, Some_same, not_some, cond_some, same_row, Below, both_true, and_true, joined_to, joined_from}
use Rattle.term_core.specs.Patterns.{Position, Known, Named, Pattern, names_at, names_in, filled, fits, agrees}
use Rattle.sparql_tree.specs.Bgp.{names_of, full_solutions, IsFull}
use Rattle.sparql_tree.proofs.Assignments.{value-insert, inserted_at}
use Rattle.sparql_tree.proofs.Full.{Becomes, becomes_to, becomes_from, becomes_more, one_triple, part_of, full_to, full_from, full_distinct, same_part, part_value, part_within}
use Rattle.term_core.specs.Index.{range}
use Rattle.plan_tree.specs.Trace.{put, bind_at, extended, made_of}
use Rattle.plan_tree.specs.Laws.{IsExtended, ExtendedIs}
use Rattle.term_core.proofs.Ranges.{In-range, from_In-range, range_distinct}

-- what it is to bind one position
pub record Bound (at : Position) (term : Term) (row k : Row) : Type 0 where
  pub more : Below row k
  pub only : (name : Name) (t : Term) → value k name ≡ Some t → (value row name ≡ Some t) ⊎ In (names_at at) name
  pub named : (name : Name) → In (names_at at) name → value k name ≡ Some term

-- a row with a name bound, if there is one, is bound so
put_to : (row k : Row) (name : Name) (term : Term) (o : Option Term) → value row name ≡ o → put row name term o ≡ Some k → Bound (Named name) term row k
put_to row k name term None v e =
    let is : finmap.insert row name term ≡ k = Some_same _ _ e in
    subst (Bound (Named name) term row) is (record {
      more = λ other t h. value-insert row name other term ∙
          elim (same_name other name) as (λ b. same_name other name ≡ b → cond b (Some term) (value row other) ≡ Some t) [
            | true ↦ λ s. absurd (not_some t (sym h ∙ ap (value row) (names_same other name s) ∙ v))
            | false ↦ λ s. h
          ] refl;
      only = λ other t h. elim (same_name other name) as (λ b. same_name other name ≡ b → cond b (Some term) (value row other) ≡ Some t → (value row other ≡ Some t) ⊎ In (name ∷ []) other) [
        | true ↦ λ s _. inr (inl (sym (names_same other name s)))
        | false ↦ λ s g. inl g
      ] refl (sym (value-insert row name other term) ∙ h);
      named = λ other i. ⊎_elim (λ s. subst (λ w. value (finmap.insert row name term) w ≡ Some term) s (inserted_at row name term)) (λ j. absurd j) i;
    })
put_to row k name term (Some x) v e =
    let r = cond_some (same_term x term) row k e in
    subst (Bound (Named name) term row) r.1 (record {
      more = λ other t h. h;
      only = λ other t h. inl h;
      named = λ other i. ⊎_elim (λ s. subst (λ w. value row w ≡ Some term) s (v ∙ ap Some (terms_same x term r.0))) (λ j. absurd j) i;
    })

-- a row with a position bound, if there is one, is bound so
bind_to : (at : Position) (term : Term) (row : Option Row) (k : Row) → bind_at at term row ≡ Some k → (a : Row) × (row ≡ Some a) × Bound at term a k
bind_to (Known other) term row k e = (k, e, record { more = λ n t h. h; only = λ n t h. inl h; named = λ n i. absurd i })
bind_to (Named name) term None k e = absurd (not_some k (sym e))
bind_to (Named name) term (Some a) k e = (a, refl, put_to a k name term (value a name) refl e)

-- below a row that has the name bound so, there is a row with the name bound
put_below : (row k : Row) (name : Name) (term : Term) (o : Option Term) → value row name ≡ o → Below row k → value k name ≡ Some term → (r : Row) × (put row name term o ≡ Some r) × Below r k
put_below row k name term None v h e = (
  finmap.insert row name term,
  refl,
  λ other t g.
      elim (same_name other name) as (λ b. same_name other name ≡ b → cond b (Some term) (value row other) ≡ Some t → value k other ≡ Some t) [
        | true ↦ λ s f. ap (value k) (names_same other name s) ∙ e ∙ f
        | false ↦ λ s f. h other t f
      ] refl (sym (value-insert row name other term) ∙ g),
)
put_below row k name term (Some x) v h e =
    (row, ap (λ b. cond b (Some row) None) (ap (λ w. same_term w term) (Some_same x term (sym (h name x v) ∙ e)) ∙ term_itself term), h)

-- below a row that has the position bound so, there is a row with the position bound
bind_below : (at : Position) (term : Term) (row : Option Row) (a k : Row) → row ≡ Some a → Below a k → filled k at ≡ Some term → (r : Row) × (bind_at at term row ≡ Some r) × Below r k
bind_below (Known other) term row a k s h e = (a, s, h)
bind_below (Named name) term row a k s h e =
    let r = put_below a k name term (value a name) refl h e in
    (r.0, ap (bind_at (Named name) term) s ∙ r.1, r.2)

-- the pattern becomes the triple, position by position
becomes_of : (p : Pattern) (row : Row) (t : Triple) (k : Row) → IsExtended p row t k → Becomes k p t
becomes_of p row t k e = becomes_to k p t e.made

-- a term fits where a value that is there equals it
fits_from : (o : Option Term) (t : Term) → ((s : Term) → o ≡ Some s → s ≡ t) → fits o t ≡ true
fits_from None t h = refl
fits_from (Some x) t h = ap (λ w. same_term w t) (h x refl) ∙ term_itself t

-- a position whose term fits and whose name is bound is filled
known_at : (at : Position) (row k : Row) (t : Term) → fits (filled row at) t ≡ true → ((name : Name) → In (names_at at) name → value k name ≡ Some t) → filled k at ≡ Some t
known_at (Known x) row k t e h = ap Some (terms_same x t e)
known_at (Named name) row k t e h = h name (inl refl)

-- the entry of a triple that agrees extends the row
pub extended_to : (p : Pattern) (row : Row) (t : Triple) (k : Row) → agrees p row t ≡ true → extended p row t ≡ Some k → IsExtended p row t k
extended_to p row t k g e =
    let c = bind_to p.object t.object (bind_at p.predicate t.predicate (bind_at p.subject t.subject (Some row))) k e in
    let b = bind_to p.predicate t.predicate (bind_at p.subject t.subject (Some row)) c.0 c.1 in
    let a = bind_to p.subject t.subject (Some row) b.0 b.1 in
    let start : row ≡ a.0 = Some_same _ _ a.1 in
    let x = both_true _ _ g in let y = both_true _ _ x.1 in
    let first : Bound p.subject t.subject a.0 b.0 = a.2 in
    let second : Bound p.predicate t.predicate b.0 c.0 = b.2 in
    let third : Bound p.object t.object c.0 k = c.2 in
    record {
      more = λ n s h. third.more n s (second.more n s (first.more n s (ap (λ r. value r n) (sym start) ∙ h)));
      only = λ n s h. ⊎_elim
          (λ h3. ⊎_elim
          (λ h2. ⊎_elim
          (λ h1. inl (ap (λ r. value r n) start ∙ h1))
          (λ i. inr (In-append_left _ _ n i)) (first.only n s h2))
          (λ i. inr (In-append_right (names_at p.subject) _ n (In-append_left _ _ n i))) (second.only n s h3))
          (λ i. inr (In-append_right (names_at p.subject) _ n (In-append_right (names_at p.predicate) _ n i))) (third.only n s h);
      made = becomes_from k p t (record {
        subject = known_at p.subject row k t.subject x.0 (λ n i. third.more n t.subject (second.more n t.subject (first.named n i)));
        predicate = known_at p.predicate row k t.predicate y.0 (λ n i. third.more n t.predicate (second.named n i));
        object = known_at p.object row k t.object y.1 (λ n i. third.named n i);
      });
    }

-- a term that fills a position in a row fits in the rows below it
fits_below : (at : Position) (row k : Row) (t : Term) → Below row k → filled k at ≡ Some t → fits (filled row at) t ≡ true
fits_below (Known x) row k t h e = fits_from (Some x) t (λ s f. sym (Some_same x s f) ∙ Some_same x t e)
fits_below (Named name) row k t h e = fits_from (value row name) t (λ s f. Some_same s t (sym (h name s f) ∙ e))

-- a triple by which a row is extended agrees
pub extended_agrees : (p : Pattern) (row : Row) (t : Triple) (k : Row) → IsExtended p row t k → agrees p row t ≡ true
extended_agrees p row t k e =
    let b : Becomes k p t = becomes_of p row t k e in
    and_true _ _ (fits_below p.subject row k t.subject e.more b.subject)
    (and_true _ _ (fits_below p.predicate row k t.predicate e.more b.predicate) (fits_below p.object row k t.object e.more b.object))

-- a row below another that has a value wherever the other has one
same_below : (r k : Row) → Below r k → ((n : Name) (s : Term) → value k n ≡ Some s → (u : Term) × (value r n ≡ Some u)) → r ≡ k
same_below r k h g = same_row r k (λ n. at n (value k n) refl)
  where
    lacking : (n : Name) (o : Option Term) → value r n ≡ o → value k n ≡ None → o ≡ None
    lacking n None p q = refl
    lacking n (Some s) p q = absurd (not_some s (sym (h n s p) ∙ q))

    at : (n : Name) (o : Option Term) → value k n ≡ o → value r n ≡ value k n
    at n None e = lacking n (value r n) refl e ∙ sym e
    at n (Some s) e = let u = g n s e in u.1 ∙ sym (h n u.0 u.1)

-- a row that extends by a triple is the triple's entry
pub extended_from : (p : Pattern) (row : Row) (t : Triple) (k : Row) → IsExtended p row t k → extended p row t ≡ Some k
extended_from p row t k e =
    let m : Becomes k p t = becomes_of p row t k e in
    let a = bind_below p.subject t.subject (Some row) row k refl e.more m.subject in
    let b = bind_below p.predicate t.predicate (bind_at p.subject t.subject (Some row)) a.0 k a.1 a.2 m.predicate in
    let c = bind_below p.object t.object (bind_at p.predicate t.predicate (bind_at p.subject t.subject (Some row))) b.0 k b.1 b.2 m.object in
    let x : IsExtended p row t c.0 = extended_to p row t c.0 (extended_agrees p row t k e) c.1 in
    c.1 ∙ ap Some (same_below c.0 k c.2 (λ n s h. ⊎_elim
    (λ l. (s, x.more n s l))
    (λ i. let u = part_of c.0 p t n (becomes_of p row t c.0 x) i in (u.0, u.1))
    (e.only n s h)))

-- the law of entries
pub extended_is : (p : Pattern) (row : Row) (t : Triple) (k : Row) → ExtendedIs p row t k
extended_is p row t k = record {
  to = λ g e. extended_to p row t k g e;
  from = λ x. (extended_agrees p row t k x, extended_from p row t k x);
}

-- a row that extends another has a part that solves the pattern alone
part_solves : (D : List Triple) (p : Pattern) (row : Row) (t : Triple) (k : Row) → In D t → IsExtended p row t k → IsFull D (p ∷ []) (restricted (names_of (p ∷ [])) k)
part_solves D p row t k i x = record {
  within = λ n s e. (part_within (p ∷ []) k n s e).0;
  made = λ q j. ⊎_elim
      (λ s. (t, i, becomes_from _ q t (becomes_more k _ q t (λ n u h e. part_value (p ∷ []) k n u (q, j, h) e) (subst (λ w. Becomes k w t) s (becomes_of p row t k x)))))
      (λ l. absurd l) j;
}

-- and the row joined with that part is the extended row
part_joins : (p : Pattern) (row : Row) (t : Triple) (k : Row) → IsExtended p row t k → IsJoin row (restricted (names_of (p ∷ [])) k) k
part_joins p row t k x = record {
  left = x.more;
  right = λ n s e. (part_within (p ∷ []) k n s e).1;
  only = λ n s e. ⊎_elim (λ l. inl l) (λ h. inr (part_value (p ∷ []) k n s (p, inl refl, h) e)) (x.only n s e);
}

-- a join of a row with a solution of the pattern extends the row by a triple of the data
join_extends : (D : List Triple) (p : Pattern) (row a k : Row) → IsFull D (p ∷ []) a → IsJoin row a k → (t : Triple) × In D t × IsExtended p row t k
join_extends D p row a k f j =
    let m = f.made p (inl refl) in (
      m.0,
      m.1,
      record {
        more = j.left;
        only = λ n s e. ⊎_elim
            (λ l. inl l)
            (λ h. let w = f.within n s h in inr (⊎_elim (λ q. subst (λ r. In (names_in r) n) (sym q) w.2) (λ l. absurd l) w.1))
            (j.only n s e);
        made = becomes_from k p m.0 (becomes_more a k p m.0 (λ n s _ e. j.right n s e) (becomes_to a p m.0 m.2));
      },
    )

-- a pattern makes no row of a row twice
made_distinct : (D : List Triple) (p : Pattern) (row : Row) → AreDistinct (made_of D p row)
made_distinct D p row =
    AreDistinct-filter_map (extended p row) (range D p row) (range_distinct D p row)
    (λ s t k i j e f.
    let x : IsExtended p row s k = extended_to p row s k (from_In-range D p row s i).1 e in
    let y : IsExtended p row t k = extended_to p row t k (from_In-range D p row t j).1 f in
    one_triple k p s t (becomes_of p row s k x) (becomes_of p row t k y))

-- no two solutions of a pattern give the same merge with a row
merges_distinct : (D : List Triple) (p : Pattern) (row : Row) → AreDistinct (filter_map (joined row) (full_solutions D (p ∷ [])))
merges_distinct D p row =
    AreDistinct-filter_map (joined row) (full_solutions D (p ∷ [])) (full_distinct D (p ∷ []))
    (λ b c k x y e f.
    let m : IsJoin row b k = joined_to row b k e in
    let n : IsJoin row c k = joined_to row c k f in
    same_part D (p ∷ []) b c k (full_to D (p ∷ []) b x) (full_to D (p ∷ []) c y) m.right n.right)

-- what a pattern makes of a row are the merges of the row with the solutions of the pattern
pub made_is : (D : List Triple) (p : Pattern) (row : Row) → SameBag (made_of D p row) (filter_map (joined row) (full_solutions D (p ∷ [])))
made_is D p row =
    same_members _ _ (made_distinct D p row) (merges_distinct D p row)
    (λ k i.
    let r = from_In-filter_map (extended p row) (range D p row) k i in
    let g = from_In-range D p row r.0 r.1 in
    let x : IsExtended p row r.0 k = extended_to p row r.0 k g.1 r.2 in
    In-filter_map (joined row) (full_solutions D (p ∷ [])) (restricted (names_of (p ∷ [])) k) k
    (full_from D (p ∷ []) (restricted (names_of (p ∷ [])) k) (part_solves D p row r.0 k g.0 x))
    (joined_from row (restricted (names_of (p ∷ [])) k) k (part_joins p row r.0 k x)))
    (λ k i.
    let r = from_In-filter_map (joined row) (full_solutions D (p ∷ [])) k i in
    let m = join_extends D p row r.0 k (full_to D (p ∷ []) r.0 r.1) (joined_to row r.0 k r.2) in
    let x : IsExtended p row m.0 k = m.2 in
    In-filter_map (extended p row) (range D p row) m.0 k (In-range D p row m.0 m.1 (extended_agrees p row m.0 k x)) (extended_from p row m.0 k x))
