-- Where cursors end, the sides of a union, and steps along equations.
use Rattle.std.proofs.Common.{◌≡◌, ℕ, zero, suc, ◌+◌, ◌-◌, ◌<◌, ◌≤◌, Bool, true, false, List, [], ◌∷◌, ◌++◌, length, map, Option, Some, None, refl, sym, ap, ◌∙◌, subst, arith, length-append}
use Rattle.std.specs.Prelude.{take, drop, Result, Ok, Err, IfOk, flat_map, slice_get, is_none, is_some, ◌&&◌, Vec}
use Rattle.std.specs.Global.{Global}
use Rattle.std.proofs.lemmas.List.{length-map}
use Rattle.term_core.specs.declared.term.Term.{Term}
use Rattle.term_core.specs.Mappings.{Name, Row, restricted}
use Rattle.sparql_tree.specs.Exprs.{Expr}
use Rattle.plan_tree.specs.Trace.{Plan, extended as row_extended, Entries, join_entries, changed, kept, extended_by, trace, steps}
use Rattle.term_core.specs.Index.{range}
use Rattle.plan_tree.proofs.Pieces.{slice_get-front, slice_get-back, slice_get-within, slice_get-some}
use Rattle.plan_tree.proofs.Standing.{some_entries}
use Rattle.preempt_scan.specs.Scans.{HasGiven, scanned}
use Rattle.row_cells.specs.declared.cell.Cell.{Cell}
use Rattle.row_cells.specs.declared.cell.PatternSlots.{PatternSlots}
use Rattle.row_cells.specs.Cells.{row_of, pattern_of, name_at, AreSlots}
use Rattle.row_cells.specs.Data.{Data}
use Rattle.row_cells.specs.Laws.{IsOnce, AreCells}
use Rattle.plan_course.specs.declared.course.Placed.{Placed}
use Rattle.plan_course.specs.Courses.{Course, rows_course, join_course, union_course, filter_course, bind_course, project_course, plan_of, given_row}
use Rattle.preempt_join.specs.declared.cursor.Open.{Open}
use Rattle.preempt_join.specs.declared.cursor.Signal.{Signal}
use Rattle.preempt_join.specs.declared.cursor.Signal.TheVariants.{End, NotYet, Row as ARow}
use Rattle.preempt_join.specs.declared.cursor.Cursor.{Cursor}
use Rattle.preempt_join.specs.declared.cursor.Cursor.TheVariants as cursor
use Rattle.preempt_join.specs.Cursors.{words_in, CursorAt, is_over}
use Rattle.preempt_join.specs.Steps.{Shows, moved, Advances, quiet, Opens, GoesOn}
use Rattle.preempt_join.proofs.Entries.{before-all, table_long}
use Rattle.preempt_join.proofs.Moves.{idle_entry, open_place, long, idle_advances, open_advances}

-- where the end of a cursor is
pub record EndIs (D : Data) (plan : Plan) (at : Cursor) (n : ℕ) : Type 0 where
  pub over : is_over at ≡ true → n ≡ steps D.triples plan
  pub going : is_over at ≡ false → n < steps D.triples plan

same_end : (D : Data) (plan inner : Plan) (at : Cursor) (n : ℕ) → steps D.triples plan ≡ steps D.triples inner → EndIs D inner at n → EndIs D plan at n
same_end D plan inner at n e h = record { over = λ o. omega (arith, h.over o, e); going = λ g. omega (arith, h.going g, e) }

module _ (names : List Name) (D : Data) (given : List Term) where
  abbrev trace_of : Course → Entries
  trace_of course = trace D.triples (plan_of names given course)

  pub end_is_at : (made : List Term) (course : Course) (at : Cursor) (n : ℕ) → CursorAt names D given made course at n → EndIs D (plan_of names given course) at n
  end_is_at made (rows_course variables rows) (cursor.Table place true) n h =
      let f = given_row names given in
      record { over = λ o. omega (arith, h, table_long (map f rows), length-map rows f); going = λ g. cc }
  end_is_at made (rows_course variables rows) (cursor.Table place false) n h =
      let f = given_row names given in
      record { over = λ o. cc; going = λ g. omega (arith, h.0, h.1, table_long (map f rows), length-map rows f) }
  end_is_at made (join_course left s) (cursor.Join' p below row None) n (m, (at, e)) =
      let inner = end_is_at made left below m at in
      let entries = trace_of left in
      let f = join_entries D.triples (pattern_of names given s) in
      record {
        over = λ o. omega (arith, e, before-all f entries m (omega (arith, inner.over o)));
        going = λ g.
            let x = slice_get-some entries m (inner.going g) in
            slice_get-within (flat_map f entries) n _
            (idle_entry names D given s left m n x.0 x.1 e ∙ (slice_get-some (f x.0) 0 (some_entries D.triples (pattern_of names given s) x.0)).1);
      }
  end_is_at made (join_course left s) (cursor.Join' p below row (Some held)) n (zero, (at, o)) = absurd o
  end_is_at made (join_course left s) (cursor.Join' p below row (Some held)) n (suc m, (at, (is, (k, (opened, e))))) =
      let q = pattern_of names given s in
      let r = row_of names (words_in D given made) row.items in
      let rs = range D.triples q r in
      let count = long names D given s left r held.scan opened.scan in
      let more : k < length (map (row_extended q r) rs ++ None ∷ []) =
      omega (arith, opened.given.within, count, length-append (map (row_extended q r) rs) (None ∷ []), length-map rs (row_extended q r)) in
      let x = slice_get-some (map (row_extended q r) rs ++ None ∷ []) k more in
      record {
        over = λ o. cc;
        going = λ g. slice_get-within (flat_map (join_entries D.triples q) (trace_of left)) n x.0
            (open_place names D given s left r m k n is (omega (arith, opened.given.within, count)) e ∙ x.1);
      }
  end_is_at made (union_course first second) (cursor.Union' p a false) n h =
      record { over = λ o. cc; going = λ g. omega (arith, h.1, length-append (trace_of first) (trace_of second)) }
  end_is_at made (union_course first second) (cursor.Union' p a true) n (k, (at, e)) =
      let inner = end_is_at made second a k at in
      let both = length-append (trace_of first) (trace_of second) in
      record { over = λ o. omega (arith, e, inner.over o, both); going = λ g. omega (arith, e, inner.going g, both) }
  end_is_at made (filter_course inner reads condition) at n h =
      same_end D _ (plan_of names given inner) at n (length-map (trace_of inner) (kept condition)) (end_is_at made inner at n h)
  end_is_at made (bind_course inner slot place reads e) at n h =
      same_end D _ (plan_of names given inner) at n (length-map (trace_of inner) (changed (extended_by (name_at names slot) e))) (end_is_at made inner at n h)
  end_is_at made (project_course inner variables ks) at n h =
      same_end D _ (plan_of names given inner) at n (length-map (trace_of inner) (changed (restricted variables))) (end_is_at made inner at n h)
  end_is_at made course at n h = absurd assumption

  -- the trace has something where a row, or nothing, is shown
  within_shown : (course : Course) (made : List Term) (turn : Signal) (out : List Cell) (n : ℕ) → n < length (trace_of course)
      → Shows names (words_in D given made) turn out (slice_get (trace_of course) n) → moved turn n ≡ n + 1
  within_shown course made End out n h s =
      let x = slice_get-some (trace_of course) n h in let bad : Some x.0 ≡ None = sym x.1 ∙ s in cc
  within_shown course made NotYet out n h s = refl
  within_shown course made ARow out n h s = refl

  move : (turn : Signal) (n k s : ℕ) → n ≡ s + k → moved turn n ≡ s + moved turn k
  move End n k s e = e
  move NotYet n k s e = omega arith
  move ARow n k s e = omega arith

  -- the sides of a union
  pub second_advances : (first second : Course) (p q : _) (a b : Cursor) (made made2 : List Term) (turn : Signal) (out : List Cell) → Advances names D given second made made2 a b turn out
      → Advances names D given (union_course first second) made made2 (cursor.Union' p a true) (cursor.Union' q b true) turn out
  second_advances first second p q a b made made2 turn out adv = record {
    by = λ n (k, (at, e)).
        let r = adv.by k at in
        let x = trace_of first in
        let y = trace_of second in (
          subst (Shows names (words_in D given made2) turn out) (sym (ap (slice_get (x ++ y)) e ∙ slice_get-back x y k)) r.0,
          (moved turn k, (r.1, move turn n k (length x) e)),
        );
  }

  after_first : (first second : Course) (p q : _) (a a2 after : Cursor) (on : Bool) (made made2 : List Term) (turn : Signal) (out : List Cell)
      → ((n : ℕ) → CursorAt names D given made2 first a2 (n + 1) → CursorAt names D given made2 (union_course first second) (cursor.Union' q after on) (n + 1))
      → Advances names D given first made made2 a a2 turn out
      → Advances names D given (union_course first second) made made2 (cursor.Union' p a false) (cursor.Union' q after on) turn out
  after_first first second p q a a2 after on made made2 turn out next adv = record {
    by = λ n (at, below).
        let r = adv.by n at in
        let x = trace_of first in
        let y = trace_of second in
        let more = within_shown first made2 turn out n below r.0 in
        let at2 = subst (λ i. CursorAt names D given made2 first a2 i) more r.1 in (
          subst (Shows names (words_in D given made2) turn out) (sym (slice_get-front x y n below)) r.0,
          subst (λ i. CursorAt names D given made2 (union_course first second) (cursor.Union' q after on) i) (sym more) (next n at2),
        );
  }

  pub stays_advances : (first second : Course) (p q : _) (a a2 : Cursor) (made made2 : List Term) (turn : Signal) (out : List Cell) → is_over a2 ≡ false
      → Advances names D given first made made2 a a2 turn out
      → Advances names D given (union_course first second) made made2 (cursor.Union' p a false) (cursor.Union' q a2 false) turn out
  stays_advances first second p q a a2 made made2 turn out o adv =
      after_first first second p q a a2 a2 false made made2 turn out (λ n at. (at, (end_is_at made2 first a2 (n + 1) at).going o)) adv

  pub turns_advances : (first second : Course) (p q : _) (a a2 b : Cursor) (made made2 : List Term) (turn : Signal) (out : List Cell) → is_over a2 ≡ true
      → CursorAt names D given made2 second b 0 → Advances names D given first made made2 a a2 turn out
      → Advances names D given (union_course first second) made made2 (cursor.Union' p a false) (cursor.Union' q b true) turn out
  turns_advances first second p q a a2 b made made2 turn out o fresh adv =
      after_first first second p q a a2 b true made made2 turn out (λ n at. (0, (fresh, omega (arith, (end_is_at made2 first a2 (n + 1) at).over o)))) adv

-- steps along equations
pub advances_at : (names : List Name) (D : Data) (given made made2 : List Term) {course course2 : Course} {at at2 new : Cursor} {turn : Signal} {out : List Cell} → course ≡ course2 → at ≡ at2
    → Advances names D given course2 made made2 at2 new turn out → Advances names D given course made made2 at new turn out
advances_at names D given made made2 {course} {course2} {at} {at2} {new} {turn} {out} e d h =
    subst (λ n. Advances names D given course made made2 n new turn out) (sym d) (subst (λ p. Advances names D given p made made2 at2 new turn out) (sym e) h)

pub if_ok_map : {T E : Type 0} (P Q : T → Type 0) → ((v : T) → P v → Q v) → (r : Result T E) → IfOk r P → IfOk r Q
if_ok_map P Q f (Ok v) h = f v h
if_ok_map P Q f (Err e) h = h
