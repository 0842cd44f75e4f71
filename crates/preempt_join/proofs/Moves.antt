-- One step of each kind of plan.
use Rattle.std.proofs.Common.{◌≡◌, ℕ, zero, suc, ◌+◌, ◌-◌, ◌<◌, ◌≤◌, Bool, true, false, List, [], ◌∷◌, ◌++◌, length, map, Option, Some, None, refl, sym, ap, ◌∙◌, subst, arith, length-append}
use Rattle.std.specs.Prelude.{flat_map, filter, max, slice_get, slice_set, option_map, cond, if◌then◌else◌, Vec}
use Rattle.std.specs.Global.{Global}
use Rattle.std.proofs.lemmas.List.{length-map}
use Rattle.std.proofs.lemmas.Option.{slice_get_within, get_or_from_slice_get}
use Rattle.term_core.specs.declared.term.Term.{Term}
use Rattle.term_core.specs.declared.term.Triple.{Triple}
use Rattle.term_core.specs.declared.pattern.IdTriple.{IdTriple}
use Rattle.term_core.specs.Bags.{In}
use Rattle.term_core.specs.Mappings.{Name, Row, restricted}
use Rattle.term_core.specs.Patterns.{Pattern, agrees}
use Rattle.term_core.specs.Index.{range, in_order, index_cmp}
use Rattle.term_core.proofs.Merges.{Some_same}
use Rattle.term_core.proofs.Ranked.{In-slice_get}
use Rattle.sparql_tree.specs.Exprs.{Expr}
use Rattle.sparql_value.specs.Evaluation.{value_under, is_true_under}
use Rattle.sparql_value.specs.Solutions.{with_value}
use Rattle.plan_tree.specs.Trace.{Plan, rows_plan, join_plan, extended as row_extended, Entries, join_entries, changed, kept, extended_by, trace, steps}
use Rattle.plan_tree.specs.States.{made_before}
use Rattle.plan_tree.proofs.Pieces.{slice_get-front, slice_get-back, slice_get-within, before-suc, in_piece}
use Rattle.plan_tree.proofs.Standing.{some_entries, row_entries}
use Rattle.store_image.specs.Table.{decode, IsBelow}
use Rattle.preempt_scan.specs.declared.scan.Scan.{Scan}
use Rattle.preempt_scan.specs.Scans.{IsScanOf, HasGiven, scanned, triples_with}
use Rattle.row_cells.specs.declared.cell.Cell.{Cell}
use Rattle.row_cells.specs.declared.cell.Cell.TheVariants.{Made}
use Rattle.row_cells.specs.declared.cell.PatternSlots.{PatternSlots}
use Rattle.row_cells.specs.Cells.{Words, row_of, pattern_of, name_at, extended, AreSlots, AreCellsIn}
use Rattle.row_cells.specs.Data.{Data}
use Rattle.row_cells.specs.Laws.{IsOnce, AreCells, AgreeBelow}
use Rattle.row_cells.proofs.Binding.{cells_extend, name_there}
use Rattle.row_cells.proofs.Rows.{same_made, set_row}
use Rattle.plan_course.specs.declared.course.Placed.{Placed}
use Rattle.plan_course.specs.Courses.{Course, rows_course, join_course, union_course, filter_course, bind_course, project_course, plan_of, given_row, cells_of, makes, AllPlaced, AreRead, IsWide, Covers, AreKept}
use Rattle.preempt_join.specs.declared.cursor.Open.{Open}
use Rattle.preempt_join.specs.declared.cursor.Signal.{Signal}
use Rattle.preempt_join.specs.declared.cursor.Signal.TheVariants.{End, NotYet, Row as ARow}
use Rattle.preempt_join.specs.declared.cursor.Cursor.{Cursor}
use Rattle.preempt_join.specs.declared.cursor.Cursor.TheVariants as cursor
use Rattle.preempt_join.specs.Cursors.{IsLast, HasOpened, JoinAt, words_in, CursorAt, HasShape}
use Rattle.preempt_join.specs.Steps.{Shows, moved, Advances, IsGivenIn, TableGives, quiet, Opens, Makes, GoesOn, sifted, picked, Assigns, freed}
use Rattle.preempt_join.proofs.Entries.{slice_get-past, past_of-slice_get, get-map, before-all, table_front, table_last, table_long, given_alone, cells_within, placed_at}
use Rattle.preempt_join.proofs.Picked.{picked_same, picked_truth, freed_means}
use Rattle.row_cells.proofs.Set.{all_wider}
use Rattle.term_core.specs.declared.term.Term.TheVariants.{Iri}
use Rattle.std.specs.FinMap as finmap

-- a table
module _ (names : List Name) (D : Data) (given made : List Term) (variables : List Name) (rows : List (List Placed)) where
  abbrev table_rows : List Row
  table_rows = map (given_row names given) rows

  -- the row that is given is the one of VALUES
  shown_row : (place : ℕ) (row : List Placed) (out : List Cell) → AllPlaced (length names) (length given) rows → slice_get rows place ≡ Some row → length out ≡ length names
      → out ≡ cells_of (length out) row → given_row names given row ≡ row_of names (words_in D given made) out
  shown_row place row out placed at width is =
      let same : out ≡ cells_of (length names) row = is ∙ ap (λ w. cells_of w row) width in
      given_alone names given [] [] D.terms made (length given) (cells_of (length names) row)
      (cells_within 0 (length names) (length given) row (placed_at (length names) (length given) rows place row placed at))
      ∙ ap (row_of names (words_in D given made)) (sym same)

  pub table_advances : (place place2 : ℕ) (ended ended2 : Bool) (turn : Signal) (out : List Cell) → AllPlaced (length names) (length given) rows → length out ≡ length names
      → TableGives rows place ended turn out place2 ended2 → Advances names D given (rows_course variables rows) made made (cursor.Table place ended) (cursor.Table place2 ended2) turn out
  table_advances place place2 true ended2 turn out placed width (g, (p, e)) =
      rw (g, p, e) (record { by = λ n at. (slice_get-past (map Some table_rows ++ None ∷ []) n (omega (arith, at, table_long table_rows, length-map rows (given_row names given))), at) })
  table_advances place place2 false ended2 ARow out placed width ((row, (g, is)), (p, e)) =
      rw (p, e) (record {
        by = λ n at. (
          ap (slice_get (map Some table_rows ++ None ∷ [])) at.1
              ∙ table_front table_rows place (given_row names given row) (get-map (given_row names given) rows place ∙ ap (option_map (given_row names given)) g)
              ∙ ap (λ r. Some (Some r)) (shown_row place row out placed g width is),
          (omega (arith, slice_get-within rows place row g), omega (arith, at.1)),
        );
      })
  table_advances place place2 false ended2 NotYet out placed width (g, (p, e)) =
      rw (p, e) (record {
        by = λ n at.
            let all : n ≡ length table_rows = omega (arith, at.0, at.1, past_of-slice_get rows place g, length-map rows (given_row names given)) in
            (ap (slice_get (map Some table_rows ++ None ∷ [])) all ∙ table_last table_rows, omega (arith, all, length-map rows (given_row names given)));
      })
  table_advances place place2 false ended2 End out placed width g = absurd g

-- what stands in a range agrees
passes : {X : Type 0} (Q : X → Bool) (xs : List X) (k : ℕ) (x : X) → slice_get (filter Q xs) k ≡ Some x → Q x ≡ true
passes Q [] k x e = cc
passes {X} Q (y ∷ ys) k x e = tested (Q y) refl k e (λ j d. passes Q ys j x d)
  where
    tested : (b : Bool) → Q y ≡ b → (k : ℕ) → slice_get (filter Q (y ∷ ys)) k ≡ Some x → ((j : ℕ) → slice_get (filter Q ys) j ≡ Some x → Q x ≡ true) → Q x ≡ true
    tested true q zero e next =
        let h : slice_get (y ∷ filter Q ys) 0 ≡ Some x = subst (λ b. slice_get (if b then y ∷ filter Q ys else filter Q ys) 0 ≡ Some x) q e in
        subst (λ z. Q z ≡ true) (Some_same y x h) q
    tested true q (suc k) e next =
        let h : slice_get (y ∷ filter Q ys) (suc k) ≡ Some x = subst (λ b. slice_get (if b then y ∷ filter Q ys else filter Q ys) (suc k) ≡ Some x) q e in
        next k h
    tested false q k e next = next k (subst (λ b. slice_get (if b then y ∷ filter Q ys else filter Q ys) k ≡ Some x) q e)

-- a scan that has moved is of the same range
scan_moves : (D : Data) (p : Pattern) (row : Row) (old new : Scan) → new.order ≡ old.order → new.prefix ≡ old.prefix → IsScanOf D.triples D.terms D.ids p row old → IsScanOf D.triples D.terms D.ids p row new
scan_moves D p row old new order prefix is =
    let same : scanned D.ids new ≡ scanned D.ids old = λ i. triples_with (order i) (prefix i) D.ids in
    record {
      index = ap Rattle.store_image.specs.Keys.index_numbered order ∙ is.index;
      below = subst (Rattle.store_image.specs.Table.AreBelow (length D.terms)) (sym same) is.below;
      triples = ap (map (decode D.terms)) same ∙ is.triples;
    }

-- a join
module _ (names : List Name) (D : Data) (given : List Term) (s : PatternSlots) (left : Course) where
  abbrev p : Pattern
  p = pattern_of names given s

  abbrev entries : Entries
  entries = trace D.triples (plan_of names given left)

  abbrev f : Option Row → Entries
  f = join_entries D.triples p

  abbrev all : Entries
  all = trace D.triples (plan_of names given (join_course left s))

  at_suc : (made : List Term) (a : Cursor) (m : ℕ) → CursorAt names D given made left a (m + 1) → CursorAt names D given made left a (suc m)
  at_suc made a m h = let e : m + 1 ≡ suc m = omega arith in subst (λ i. CursorAt names D given made left a i) e h

  pub idle_entry : (m n : ℕ) (entry : Option Row) → slice_get entries m ≡ Some entry → n ≡ made_before D.triples p entries m → slice_get all n ≡ slice_get (f entry) 0
  idle_entry m n entry is e =
      let z : n ≡ made_before D.triples p entries m + 0 = omega (arith, e) in
      ap (slice_get (flat_map f entries)) z ∙ in_piece f entries m 0 entry is (some_entries D.triples p entry)

  pub idle_advances : (x y : _) (a b : Cursor) (row row2 : Vec Cell Global) (made made2 : List Term) (turn : Signal) (held : Option Open) (out : List Cell)
      → Opens names D (words_in D given made2) s turn row2.items held → Advances names D given left made made2 a b turn row2.items
      → Advances names D given (join_course left s) made made2 (cursor.Join' x a row None) (cursor.Join' y b row2 held) (quiet turn) out
  idle_advances x y a b row row2 made made2 End held out o adv = rw o (record {
    by = λ n (m, (at, e)).
        let r = adv.by m at in
        (slice_get-past (flat_map f entries) n (omega (arith, e, before-all f entries m (past_of-slice_get entries m r.0))), (m, (r.1, e)));
  })
  idle_advances x y a b row row2 made made2 NotYet held out o adv = rw o (record {
    by = λ n (m, (at, e)).
        let r = adv.by m at in
        (idle_entry m n None r.0 e, (suc m, (at_suc made2 b m r.1, omega (arith, e, before-suc f entries m None r.0))));
  })
  idle_advances x y a b row row2 made made2 ARow None out o adv = absurd o
  idle_advances x y a b row row2 made made2 ARow (Some held) out o adv = record {
    by = λ n (m, (at, e)).
        let r = adv.by m at in
        let row3 = row_of names (words_in D given made2) row2.items in
        (idle_entry m n (Some row3) r.0 e, (suc m, (at_suc made2 b m r.1, (r.0, (0, (o, omega (arith, e)))))));
  }

  -- the range of a row goes on
  pub open_place : (row : Row) (m k n : ℕ) → slice_get entries m ≡ Some (Some row) → k ≤ length (range D.triples p row) → n ≡ made_before D.triples p entries m + 1 + k
      → slice_get all n ≡ slice_get (map (row_extended p row) (range D.triples p row) ++ None ∷ []) k
  open_place row m k n is h e =
      let z : n ≡ made_before D.triples p entries m + suc k = omega (arith, e) in
      ap (slice_get (flat_map f entries)) z ∙ in_piece f entries m (suc k) (Some row) is (omega (arith, row_entries D.triples p row))

  pub long : (row : Row) (scan : Scan) → IsScanOf D.triples D.terms D.ids p row scan → length (range D.triples p row) ≡ length (scanned D.ids scan)
  long row scan is = ap length (sym is.triples) ∙ length-map (scanned D.ids scan) (decode D.terms)

  -- what a triple makes is shown
  shows_made : (made : List Term) (cells : List Cell) (turn : Signal) (out : List Cell) (ids : IdTriple) → IsOnce names → AreSlots (length names) s → AreCells names (words_in D given made) cells
      → IsBelow (length D.terms) ids → agrees p (row_of names (words_in D given made) cells) (decode D.terms ids) ≡ true → Makes turn out (extended s cells ids)
      → Shows names (words_in D given made) turn out (Some (row_extended p (row_of names (words_in D given made) cells) (decode D.terms ids)))
  shows_made made cells End out ids once slots are b agree m = absurd m
  shows_made made cells NotYet out ids once slots are b agree m =
      ap Some (sym (cells_extend names (words_in D given made) s cells ids once D.table.rising slots are b agree) ∙ ap (option_map (row_of names (words_in D given made))) m)
  shows_made made cells ARow out ids once slots are b agree m =
      ap Some (sym (cells_extend names (words_in D given made) s cells ids once D.table.rising slots are b agree) ∙ ap (option_map (row_of names (words_in D given made))) m)

  made_moves : (turn : Signal) (out : List Cell) (o : Option (List Cell)) (n : ℕ) → Makes turn out o → moved turn n ≡ n + 1
  made_moves End out o n m = absurd m
  made_moves NotYet out o n m = refl
  made_moves ARow out o n m = refl

  closing : (y : _) (a : Cursor) (row : Vec Cell Global) (made : List Term) (old : Open) (turn : Signal) (out : List Cell) (n m : ℕ) → CursorAt names D given made left a m
      → ((k : ℕ) → HasGiven D.ids old.scan k → (k ≡ length (scanned D.ids old.scan)) × (turn ≡ NotYet))
      → JoinAt D p entries m (row_of names (words_in D given made) row.items) (Some old) n
      → Shows names (words_in D given made) turn out (slice_get all n) × CursorAt names D given made (join_course left s) (cursor.Join' y a row None) (moved turn n)
  closing y a row made old turn out n zero at ends o = absurd o
  closing y a row made old turn out n (suc m) at ends (is, (k, (opened, e))) =
      let r = row_of names (words_in D given made) row.items in
      let rs = range D.triples p r in
      let count = long r old.scan opened.scan in
      let last = ends k opened.given in
      let z : k ≡ length (map (row_extended p r) rs) + 0 = omega (arith, last.0, count, length-map rs (row_extended p r)) in
      let entry = ap (slice_get (map (row_extended p r) rs ++ None ∷ [])) z ∙ slice_get-back (map (row_extended p r) rs) (None ∷ []) 0 in
      let shown : slice_get all n ≡ Some None = open_place r m k n is (omega (arith, last.0, count)) e ∙ entry in
      let behind : CursorAt names D given made (join_course left s) (cursor.Join' y a row None) (n + 1) =
      (suc m, (at, omega (arith, e, last.0, count, before-suc f entries m (Some r) is, row_entries D.triples p r))) in
      subst (λ t. Shows names (words_in D given made) t out (slice_get all n) × CursorAt names D given made (join_course left s) (cursor.Join' y a row None) (moved t n))
      (sym last.1) (shown, behind)

  going : (y : _) (a : Cursor) (row : Vec Cell Global) (made : List Term) (old new : Open) (turn : Signal) (out : List Cell) → IsOnce names → AreSlots (length names) s
      → AreCells names (words_in D given made) row.items → ((k : ℕ) → HasGiven D.ids old.scan k → GoesOn D.ids s row.items (Some old) k turn out (Some new))
      → (n m : ℕ) → CursorAt names D given made left a m → JoinAt D p entries m (row_of names (words_in D given made) row.items) (Some old) n
      → Shows names (words_in D given made) turn out (slice_get all n) × CursorAt names D given made (join_course left s) (cursor.Join' y a row (Some new)) (moved turn n)
  going y a row made old new turn out once slots are goes n zero at o = absurd o
  going y a row made old new turn out once slots are goes n (suc m) at (is, (k, (opened, e))) =
      let r = row_of names (words_in D given made) row.items in
      let rs = range D.triples p r in
      let g = goes k opened.given in
      let t = g.0 in
      let there = g.1.0 in
      let order = g.1.1.0 in
      let prefix = g.1.1.1.0 in
      let given2 = g.1.1.1.1.0 in
      let last = g.1.1.1.1.1.0 in
      let makes_it = g.1.1.1.1.1.1 in
      let count = long r old.scan opened.scan in
      let within : k < length (scanned D.ids old.scan) = slice_get_within (scanned D.ids old.scan) k t there in
      let found : slice_get rs k ≡ Some (decode D.terms t) = ap (λ w. slice_get w k) (sym opened.scan.triples) ∙ get-map (decode D.terms) (scanned D.ids old.scan) k ∙ ap (option_map (decode D.terms)) there in
      let agree : agrees p r (decode D.terms t) ≡ true = passes (agrees p r) (in_order (index_cmp p r) D.triples) k (decode D.terms t) found in
      let below : IsBelow (length D.terms) t = opened.scan.below t (In-slice_get (scanned D.ids old.scan) k t there) in
      let entry : slice_get (map (row_extended p r) rs ++ None ∷ []) k ≡ Some (row_extended p r (decode D.terms t)) =
      slice_get-front (map (row_extended p r) rs) (None ∷ []) k (omega (arith, length-map rs (row_extended p r), within, count))
      ∙ get-map (row_extended p r) rs k ∙ ap (option_map (row_extended p r)) found in
      let whole = open_place r m k n is (omega (arith, within, count)) e ∙ entry in
      let same : scanned D.ids new.scan ≡ scanned D.ids old.scan = λ i. triples_with (order i) (prefix i) D.ids in
      let z : k + 1 ≡ suc k = omega arith in
      let opened2 : HasOpened D p r new (k + 1) = record {
        scan = scan_moves D p r old.scan new.scan order prefix opened.scan;
        given = given2;
        last = subst (λ i. IsLast (scanned D.ids new.scan) i new.last) (sym z) (ap (λ w. slice_get w k) same ∙ there ∙ sym last);
      } in (
        subst (Shows names (words_in D given made) turn out) (sym whole) (shows_made made row.items turn out t once slots are below agree makes_it),
        subst (λ i. CursorAt names D given made (join_course left s) (cursor.Join' y a row (Some new)) i) (sym (made_moves turn out _ n makes_it))
            (suc m, (at, (is, (k + 1, (opened2, omega (arith, e)))))),
      )

  pub open_advances : (x y : _) (a : Cursor) (row : Vec Cell Global) (made : List Term) (old : Open) (new : Option Open) (turn : Signal) (out : List Cell) → IsOnce names
      → AreSlots (length names) s → AreCells names (words_in D given made) row.items → ((k : ℕ) → HasGiven D.ids old.scan k → GoesOn D.ids s row.items (Some old) k turn out new)
      → Advances names D given (join_course left s) made made (cursor.Join' x a row (Some old)) (cursor.Join' y a row new) turn out
  open_advances x y a row made old None turn out once slots are goes =
      record { by = λ n (m, (at, o)). closing y a row made old turn out n m at goes o }
  open_advances x y a row made old (Some new) turn out once slots are goes =
      record { by = λ n (m, (at, o)). going y a row made old new turn out once slots are goes n m at o }

get_set_here : (xs : List Term) (k : ℕ) (t : Term) → k < length xs → slice_get (slice_set xs k t) k ≡ Some t
get_set_here [] k t h = absurd (omega arith)
get_set_here (x ∷ xs) zero t h = refl
get_set_here (x ∷ xs) (suc k) t h = get_set_here xs k t (omega arith)

agree_set : (xs : List Term) (place : ℕ) (t : Term) → AgreeBelow place xs (slice_set xs place t)
agree_set [] place t k h = refl
agree_set (x ∷ xs) zero t k h = absurd (omega arith)
agree_set (x ∷ xs) (suc place) t zero h = refl
agree_set (x ∷ xs) (suc place) t (suc k) h = agree_set xs place t k (omega arith)

-- a frame: what the BINDs above give changes nothing below
agree_less : (m n : ℕ) (old new : List Term) → m ≤ n → AgreeBelow n old new → AgreeBelow m old new
agree_less m n old new h agree k lt = agree k (omega (arith, h, lt))

join_frame : (D : Data) (p : Pattern) (entries : Entries) (m : ℕ) (row row2 : Row) (held : Option Open) (n : ℕ) → row2 ≡ row → JoinAt D p entries m row held n → JoinAt D p entries m row2 held n
join_frame D p entries m row row2 held n e h = subst (λ r. JoinAt D p entries m r held n) (sym e) h

module _ (names : List Name) (D : Data) (given made made2 : List Term) (triples terms width count binds : ℕ) where
  pub cursor_frame : (course : Course) (at : Cursor) (n : ℕ) → IsWide width count binds course → HasShape triples terms width count course at → AgreeBelow (makes course) made made2
      → CursorAt names D given made course at n → CursorAt names D given made2 course at n
  cursor_frame (rows_course variables rows) (cursor.Table place true) n wide shape agree h = h
  cursor_frame (rows_course variables rows) (cursor.Table place false) n wide shape agree h = h
  cursor_frame (join_course left s) (cursor.Join' p below row None) n wide shape agree (m, (at, o)) = (m, (cursor_frame left below m wide.0 shape.0 agree at, o))
  cursor_frame (join_course left s) (cursor.Join' p below row (Some held)) n wide shape agree (m, (at, o)) = (
    m,
    (
      cursor_frame left below m wide.0 shape.0 agree at,
      join_frame D (pattern_of names given s) (trace D.triples (plan_of names given left)) m _ _ (Some held) n
          (same_made names (words_in D given made) made2 terms count (makes left) row.items shape.1.1.1 agree) o,
    ),
  )
  cursor_frame (union_course first second) (cursor.Union' p active false) n wide shape agree h =
      (cursor_frame first active n wide.0 shape (agree_less (makes first) (max (makes first) (makes second)) made made2 (omega arith) agree) h.0, h.1)
  cursor_frame (union_course first second) (cursor.Union' p active true) n wide shape agree (k, (at, e)) =
      (k, (cursor_frame second active k wide.1 shape (agree_less (makes second) (max (makes first) (makes second)) made made2 (omega arith) agree) at, e))
  cursor_frame (filter_course inner reads condition) at n wide shape agree h = cursor_frame inner at n wide.0 shape agree h
  cursor_frame (bind_course inner slot place reads e) at n wide shape agree h =
      cursor_frame inner at n wide.0 shape (agree_less (makes inner) (place + 1) made made2 (omega (arith, wide.1.1.1.0)) agree) h
  cursor_frame (project_course inner variables kept) at n wide shape agree h = cursor_frame inner at n wide shape agree h
  cursor_frame course at n wide shape agree h = absurd assumption

-- conditions
module _ (names : List Name) (D : Data) (given made : List Term) (once : IsOnce names) (reads : List ℕ) (read : AreRead (length names) reads) where
  shows_kept : (e : Expr) → Covers names reads e → (turn : Signal) (out : List Cell) (entry : Option (Option Row)) → Shows names (words_in D given made) turn out entry
      → Shows names (words_in D given made) (sifted (is_true_under e (picked names (words_in D given made) out reads finmap.empty)) turn) out (option_map (kept e) entry)
  shows_kept e covers End out entry h = ap (option_map (kept e)) h
  shows_kept e covers NotYet out entry h = ap (option_map (kept e)) h
  shows_kept e covers ARow out entry h = tested (is_true_under e (picked names (words_in D given made) out reads finmap.empty)) refl
    where
      row : Row
      row = row_of names (words_in D given made) out

      same : is_true_under e (picked names (words_in D given made) out reads finmap.empty) ≡ is_true_under e row
      same = picked_truth names (words_in D given made) out once reads e read covers

      tested : (b : Bool) → is_true_under e (picked names (words_in D given made) out reads finmap.empty) ≡ b
          → Shows names (words_in D given made) (if b then ARow else NotYet) out (option_map (kept e) entry)
      tested true t = ap (option_map (kept e)) h ∙ ap (λ b. Some (cond b (Some row) None)) (sym same ∙ t)
      tested false t = ap (option_map (kept e)) h ∙ ap (λ b. Some (cond b (Some row) None)) (sym same ∙ t)

  sifted_moved : (b : Bool) (turn : Signal) (n : ℕ) → moved (sifted b turn) n ≡ moved turn n
  sifted_moved b End n = refl
  sifted_moved b NotYet n = refl
  sifted_moved true ARow n = refl
  sifted_moved false ARow n = refl

  pub filter_advances : (e : Expr) → Covers names reads e → (inner : Course) (a b : Cursor) (made0 : List Term) (turn shown : Signal) (out : List Cell)
      → shown ≡ sifted (is_true_under e (picked names (words_in D given made) out reads finmap.empty)) turn
      → Advances names D given inner made0 made a b turn out → Advances names D given (filter_course inner reads e) made0 made a b shown out
  filter_advances e covers inner a b made0 turn shown out is adv = record {
    by = λ n at.
        let r = adv.by n at in
        let es = trace D.triples (plan_of names given inner) in
        let v = is_true_under e (picked names (words_in D given made) out reads finmap.empty) in (
          subst (λ w. Shows names (words_in D given made) w out (slice_get (map (kept e) es) n)) (sym is)
              (subst (Shows names (words_in D given made) (sifted v turn) out) (sym (get-map (kept e) es n)) (shows_kept e covers turn out (slice_get es n) r.0)),
          subst (λ i. CursorAt names D given made inner b i) (sym (ap (λ w. moved w n) is ∙ sifted_moved v turn n)) r.1,
        );
  }

  -- a value under its name
  assigned_row : (slot place : ℕ) (made2 : List Term) (out out2 : List Cell) (terms g : ℕ) (v : Option Term) → slot < length names → length out ≡ length names → place < length made
      → AreCellsIn terms g place out → Assigns v slot place ARow out out2 made made2
      → row_of names (words_in D given made2) out2 ≡ with_value (name_at names slot) v (row_of names (words_in D given made) out)
  assigned_row slot place made2 out out2 terms g None within width lt cells (o, m) = λ i. row_of names (words_in D given (m i)) (o i)
  assigned_row slot place made2 out out2 terms g (Some t) within width lt cells (o, m) =
      let words = words_in D given (slice_set made place t) in
      let here : slice_get (slice_set made place t) place ≡ Some t = get_set_here made place t lt in
      (λ i. row_of names (words_in D given (m i)) (o i))
      ∙ set_row names words out slot (name_at names slot) (Made place) t once (name_there names slot within) (omega (arith, within, width))
      (ap Some (get_or_from_slice_get (slice_set made place t) place t (Iri []) here))
      ∙ ap (λ r. finmap.insert r (name_at names slot) t) (same_made names (words_in D given made) (slice_set made place t) terms g place out cells (agree_set made place t))

  pub bind_advances : (e : Expr) → Covers names reads e → (slot place : ℕ) (inner : Course) (a b : Cursor) (made0 made2 : List Term) (turn shown : Signal) (out out2 : List Cell)
      (triples terms g binds : ℕ) → slot < length names → length out ≡ length names → place < length made → IsWide (length names) g binds inner → HasShape triples terms (length names) g inner b
      → makes inner ≤ place → IsGivenIn turn terms g (makes inner) out → shown ≡ turn
      → Assigns (value_under e (picked names (words_in D given made) out reads finmap.empty)) slot place turn out out2 made made2
      → Advances names D given inner made0 made a b turn out → Advances names D given (bind_course inner slot place reads e) made0 made2 a b shown out2
  bind_advances e covers slot place inner a b made0 made2 turn shown out out2 triples terms g binds within width lt wide shape above cells same is adv = rw same (record {
    by = λ n at.
        let r = adv.by n at in
        let es = trace D.triples (plan_of names given inner) in
        let change = changed (extended_by (name_at names slot) e) in (
          subst (Shows names (words_in D given made2) turn out2) (sym (get-map change es n)) (shows turn (slice_get es n) cells is r.0),
          cursor_frame names D given made made2 triples terms (length names) g binds inner b (moved turn n) wide shape (agree turn is) r.1,
        );
  })
    where
      v : Option Term
      v = value_under e (picked names (words_in D given made) out reads finmap.empty)

      small : v ≡ value_under e (row_of names (words_in D given made) out)
      small = picked_same names (words_in D given made) out once reads e read covers

      agree : (turn : Signal) → Assigns v slot place turn out out2 made made2 → AgreeBelow (makes inner) made made2
      agree End m = λ k h. ap (λ w. slice_get w k) (sym m)
      agree NotYet m = λ k h. ap (λ w. slice_get w k) (sym m)
      agree ARow m = by_value v m
        where
          by_value : (o : Option Term) → Assigns o slot place ARow out out2 made made2 → AgreeBelow (makes inner) made made2
          by_value None (o, m) = λ k h. ap (λ w. slice_get w k) (sym m)
          by_value (Some t) (o, m) = λ k h. agree_set made place t k (omega (arith, h, above)) ∙ ap (λ w. slice_get w k) (sym m)

      shows : (turn : Signal) (entry : Option (Option Row)) → IsGivenIn turn terms g (makes inner) out → Assigns v slot place turn out out2 made made2
          → Shows names (words_in D given made) turn out entry → Shows names (words_in D given made2) turn out2 (option_map (changed (extended_by (name_at names slot) e)) entry)
      shows End entry c m h = ap (option_map (changed (extended_by (name_at names slot) e))) h
      shows NotYet entry c m h = ap (option_map (changed (extended_by (name_at names slot) e))) h
      shows ARow entry c m h =
          ap (option_map (changed (extended_by (name_at names slot) e))) h
          ∙ ap (λ o. Some (Some (with_value (name_at names slot) o (row_of names (words_in D given made) out)))) (sym small)
          ∙ ap (λ r. Some (Some r)) (sym (assigned_row slot place made2 out out2 terms g v within width lt
          (all_wider terms g (makes inner) place out (λ k q. omega (arith, q, above)) c) m))

-- a projection
shows_projected : (names : List Name) (words : Words) (variables : List Name) (kept : List Bool) → IsOnce names → AreKept names variables kept → (turn : Signal) (out : List Cell)
    (entry : Option (Option Row)) → Shows names words turn out entry → Shows names words turn (freed kept out) (option_map (changed (restricted variables)) entry)
shows_projected names words variables kept once are End out entry h = ap (option_map (changed (restricted variables))) h
shows_projected names words variables kept once are NotYet out entry h = ap (option_map (changed (restricted variables))) h
shows_projected names words variables kept once are ARow out entry h =
    ap (option_map (changed (restricted variables))) h ∙ ap (λ r. Some (Some r)) (sym (freed_means names words variables kept out once are))

pub project_advances : (names : List Name) (D : Data) (given made0 made : List Term) (variables : List Name) (kept : List Bool) → IsOnce names → AreKept names variables kept
    → (inner : Course) (a b : Cursor) (turn : Signal) (out out2 : List Cell) → out2 ≡ freed kept out → Advances names D given inner made0 made a b turn out
    → Advances names D given (project_course inner variables kept) made0 made a b turn out2
project_advances names D given made0 made variables kept once are inner a b turn out out2 f adv = record {
  by = λ n at.
      let r = adv.by n at in
      let es = trace D.triples (plan_of names given inner) in
      let change = changed (restricted variables) in (
        subst (λ w. Shows names (words_in D given made) turn w (slice_get (map change es) n)) (sym f)
            (subst (Shows names (words_in D given made) turn (freed kept out)) (sym (get-map change es n))
            (shows_projected names (words_in D given made) variables kept once are turn out (slice_get es n) r.0)),
        r.1,
      );
}
