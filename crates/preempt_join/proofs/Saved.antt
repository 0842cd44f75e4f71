-- The state of a cursor stands where the cursor stands.
use Rattle.std.proofs.Common.{◌≡◌, ℕ, zero, suc, ◌+◌, ◌<◌, ◌≤◌, Bool, true, false, List, [], length, flat_map, map, Option, Some, None, refl, sym, ap, ◌∙◌, subst, arith}
use Rattle.std.specs.Prelude.{slice_get, option_map}
use Rattle.std.proofs.lemmas.List.{length-map}
use Rattle.std.proofs.lemmas.Option.{slice_get-get_or}
use Rattle.term_core.specs.declared.term.Term.{Term}
use Rattle.term_core.specs.declared.term.Term.TheVariants.{Iri}
use Rattle.term_core.specs.declared.pattern.IdTriple.{IdTriple}
use Rattle.term_core.specs.Bags.{HaveSame}
use Rattle.term_core.specs.Data.{parts, terms_of, rank, ids_of}
use Rattle.term_core.specs.Mappings.{Name, Row, same_term, restricted}
use Rattle.term_core.specs.Patterns.{Pattern}
use Rattle.term_core.specs.Index.{range}
use Rattle.term_core.proofs.Distinct.{In-distinct, from_In-distinct}
use Rattle.term_core.proofs.Merges.{terms_same, term_itself}
use Rattle.term_core.proofs.Ranked.{In-slice_get, rank_is}
use Rattle.plan_tree.specs.Trace.{Entries, trace, steps, kept, changed, extended_by}
use Rattle.plan_tree.specs.States.{InnerAt, Stands, made_before, done}
use Rattle.plan_tree.proofs.Pieces.{slice_get-some}
use Rattle.plan_tree.proofs.Standing.{row_not_last}
use Rattle.store_image.specs.Table.{term_numbered, decode, IsBelow}
use Rattle.preempt_scan.specs.Scans.{scanned}
use Rattle.row_cells.specs.Cells.{pattern_of, name_at}
use Rattle.row_cells.specs.Data.{Data}
use Rattle.plan_course.specs.Courses.{Course, rows_course, join_course, union_course, filter_course, bind_course, project_course, plan_of}
use Rattle.preempt_join.specs.declared.cursor.Open.{Open}
use Rattle.preempt_join.specs.declared.cursor.Cursor.{Cursor}
use Rattle.preempt_join.specs.declared.cursor.Cursor.TheVariants as cursor
use Rattle.preempt_join.specs.Cursors.{IsLast, HasOpened, CursorAt, is_over}
use Rattle.preempt_join.specs.States.{inner_of, state_of, IsStateAt}
use Rattle.preempt_join.proofs.Entries.{get-map}
use Rattle.preempt_join.proofs.Ends.{EndIs, end_is_at}

-- the numbers of a triple are its ranks
module _ (D : Data) where
  alike : HaveSame D.terms (terms_of D.triples)
  alike = record {
    to = λ t i. In-distinct same_term terms_same term_itself (flat_map parts D.triples) t (D.table.to t i);
    from = λ t i. D.table.from t (from_In-distinct same_term terms_same term_itself (flat_map parts D.triples) t i);
  }

  rank_at : (k : ℕ) → k < length D.terms → rank D.triples (term_numbered D.terms k) ≡ k
  rank_at k l = rank_is D.triples D.terms D.table.rising alike k (term_numbered D.terms k) (slice_get-get_or D.terms k (Iri []) l)

  pub ids_decoded : (ids : IdTriple) → IsBelow (length D.terms) ids → ids ≡ ids_of D.triples (decode D.terms ids)
  ids_decoded ids b =
      let s = rank_at ids.s b.s in let p = rank_at ids.p b.p in let o = rank_at ids.o b.o in
      sym (λ i. record { s = s i; p = p i; o = o i })

  inner_stands : (p : Pattern) (entries : Entries) (m k : ℕ) (row : Row) (held : Open) (last : Option IdTriple) (n : ℕ) → slice_get entries m ≡ Some (Some row) → HasOpened D p row held k
      → IsLast (scanned D.ids held.scan) k last → n ≡ made_before D.triples p entries m + 1 + k → InnerAt D.triples p entries (suc m) (inner_of last) n
  inner_stands p entries m zero row held last n is opened l e = rw l (row, is, omega (arith, e))
  inner_stands p entries m (suc k) row held last n is opened l e =
      let ids = scanned D.ids held.scan in
      let x = slice_get-some ids k (omega (arith, opened.given.within)) in
      let below = opened.scan.below x.0 (In-slice_get ids k x.0 x.1) in
      let there : slice_get (range D.triples p row) k ≡ Some (decode D.terms x.0) =
      ap (λ w. slice_get w k) (sym opened.scan.triples) ∙ get-map (decode D.terms) ids k ∙ ap (option_map (decode D.terms)) x.1 in
      rw (sym l ∙ x.1) (row, k, decode D.terms x.0, is, there, ids_decoded x.0 below, omega (arith, e))

  module _ (names : List Name) (given made : List Term) where
    -- a cursor before the end is not over
    going : (course : Course) (at : Cursor) (n : ℕ) → CursorAt names D given made course at n → n < steps D.triples (plan_of names given course) → is_over at ≡ false
    going course at n h b = by_test (is_over at) refl
      where
        e : EndIs D (plan_of names given course) at n
        e = end_is_at names D given made course at n h

        by_test : (o : Bool) → is_over at ≡ o → is_over at ≡ false
        by_test true d = absurd (omega (arith, e.over d, b))
        by_test false d = d

    state_stands : (course : Course) (at : Cursor) (n : ℕ) → CursorAt names D given made course at n → n < steps D.triples (plan_of names given course)
        → Stands D.triples (plan_of names given course) (state_of at) n
    state_stands (rows_course variables rows) (cursor.Table place false) n h b = (omega (arith, h.0, length-map rows (Rattle.plan_course.specs.Courses.given_row names given)), h.1)
    state_stands (rows_course variables rows) (cursor.Table place true) n h b =
        let over = (end_is_at names D given made (rows_course variables rows) (cursor.Table place true) n h).over refl in absurd (omega (arith, over, b))
    state_stands (join_course left s) (cursor.Join' p below row None) n (m, (at, e)) b =
        let on : is_over below ≡ false = going (join_course left s) (cursor.Join' p below row None) n (m, (at, e)) b in
        let end = end_is_at names D given made left below m at in
        rw on (m, state_stands left below m at (end.going on), e)
    state_stands (join_course left s) (cursor.Join' p below row (Some held)) n (zero, (at, o)) b = absurd o
    state_stands (join_course left s) (cursor.Join' p below row (Some held)) n (suc m, (at, (is, (k, (opened, e))))) b = (
      suc m,
      state_stands left below (suc m) at (row_not_last D.triples (plan_of names given left) m _ is),
      inner_stands (pattern_of names given s) (trace D.triples (plan_of names given left)) m k _ held held.last n is opened opened.last e,
    )
    state_stands (union_course first second) (cursor.Union' p active false) n h b = state_stands first active n h.0 h.1
    state_stands (union_course first second) (cursor.Union' p active true) n (k, (at, e)) b =
        let on : is_over active ≡ false = going (union_course first second) (cursor.Union' p active true) n (k, (at, e)) b in
        let end = end_is_at names D given made second active k at in
        rw on (k, state_stands second active k at (end.going on), e)
    state_stands (filter_course inner reads condition) at n h b =
        state_stands inner at n h (omega (arith, length-map (trace D.triples (plan_of names given inner)) (kept condition), b))
    state_stands (bind_course inner slot place reads e) at n h b =
        state_stands inner at n h (omega (arith, length-map (trace D.triples (plan_of names given inner)) (changed (extended_by (name_at names slot) e)), b))
    state_stands (project_course inner variables ks) at n h b =
        state_stands inner at n h (omega (arith, length-map (trace D.triples (plan_of names given inner)) (changed (restricted variables)), b))
    state_stands course at n h b = absurd assumption

    over : (course : Course) (at : Cursor) (n : ℕ) → CursorAt names D given made course at n → n ≡ steps D.triples (plan_of names given course) → is_over at ≡ true
    over course at n h b = by_test (is_over at) refl
      where
        e : EndIs D (plan_of names given course) at n
        e = end_is_at names D given made course at n h

        by_test : (o : Bool) → is_over at ≡ o → is_over at ≡ true
        by_test false d = absurd (omega (arith, e.going d, b))
        by_test true d = d

state_over : (at : Cursor) → is_over at ≡ true → state_of at ≡ done
state_over (cursor.Table place ended) e = rw e refl
state_over (cursor.Join' p below row None) e = rw e refl
state_over (cursor.Join' p below row (Some held)) e = cc
state_over (cursor.Union' p active false) e = cc
state_over (cursor.Union' p active true) e = rw e refl

pub state_is : (names : List Name) (D : Data) (given made : List Term) (course : Course) (at : Cursor) (n : ℕ) → CursorAt names D given made course at n → IsStateAt names D given course at n
state_is names D given made course at n h = record {
  stands = λ b. state_stands D names given made course at n h b;
  over = λ b. state_over at (over D names given made course at n h b);
}
