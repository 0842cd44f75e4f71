-- The arms of one step.
use Rattle.std.proofs.Common.{◌≡◌, ℕ, zero, suc, ◌+◌, ◌<◌, ◌≤◌, Bool, true, false, List, [], ◌∷◌, ◌++◌, length, Option, Some, None, refl, sym, ap, ◌∙◌, subst, arith}
use Rattle.std.specs.Prelude.{take, drop, Result, Ok, Err, IfOk, is_some, slice_get, Vec}
use Rattle.std.specs.Global.{Global}
use Rattle.std.specs.FinMap as finmap
use Rattle.term_core.specs.declared.term.Term.{Term}
use Rattle.term_core.specs.Mappings.{Name}
use Rattle.sage_outside.specs.declared.fault.StoreFault.{StoreFault}
use Rattle.sparql_tree.specs.Exprs.{Expr}
use Rattle.sparql_value.specs.Evaluation.{value_under, is_true_under}
use Rattle.preempt_scan.specs.Scans.{HasGiven}
use Rattle.row_cells.specs.declared.cell.Cell.{Cell}
use Rattle.row_cells.specs.declared.cell.PatternSlots.{PatternSlots}
use Rattle.row_cells.specs.Cells.{Words, AreSlots, AreCellsIn}
use Rattle.row_cells.specs.Data.{Data}
use Rattle.row_cells.specs.Laws.{IsOnce, AreCells}
use Rattle.row_cells.proofs.Set.{all_wider}
use Rattle.plan_course.specs.declared.course.Placed.{Placed}
use Rattle.plan_course.specs.Courses.{Course, rows_course, join_course, union_course, filter_course, bind_course, project_course, plan_of, makes, AllPlaced, AreRead, IsWide, Covers}
use Rattle.preempt_join.specs.declared.cursor.Open.{Open}
use Rattle.preempt_join.specs.declared.cursor.Signal.{Signal}
use Rattle.preempt_join.specs.declared.cursor.Signal.TheVariants.{End, NotYet, Row as ARow}
use Rattle.preempt_join.specs.declared.cursor.Cursor.{Cursor}
use Rattle.preempt_join.specs.declared.cursor.Cursor.TheVariants as cursor
use Rattle.preempt_join.specs.Cursors.{CursorAt, HasShape, IsHeldIn, words_in, is_over}
use Rattle.preempt_join.specs.Steps.{Advances, IsGivenIn, TableGives, quiet, Opens, GoesOn, sifted, picked, Assigns, freed}
use Rattle.preempt_join.proofs.Entries.{cells_within, placed_at}
use Rattle.preempt_join.proofs.Picked.{freed_within}
use Rattle.preempt_join.proofs.Moves.{table_advances, idle_advances, open_advances, filter_advances, bind_advances, project_advances}
use Rattle.preempt_join.proofs.Ends.{second_advances, stays_advances, turns_advances}

module _ (names : List Name) (D : Data) (given : List Term) where
  pub table_arm : (made : List Term) (variables : List Name) (rows rows2 : List (List Placed)) (place place2 : ℕ) (ended ended2 : Bool) (turn : Signal) (out : List Cell) → rows2 ≡ rows
      → AllPlaced (length names) (length given) rows → length out ≡ length names → TableGives rows2 place ended turn out place2 ended2
      → Advances names D given (rows_course variables rows) made made (cursor.Table place ended) (cursor.Table place2 ended2) turn out
  table_arm made variables rows rows2 place place2 ended ended2 turn out e placed width h =
      table_advances names D given made variables rows place place2 ended ended2 turn out placed width (subst (λ w. TableGives w place ended turn out place2 ended2) e h)

  pub idle_arm : (given2 : List Term) (s : PatternSlots) (left : Course) (x y : _) (a b : Cursor) (row row2 : Vec Cell Global) (cells cells2 : List Cell) (old new : Option Open)
      (made made2 made3 : List Term) (turn : Signal) (r : Result Signal StoreFault) (out : List Cell) → given2 ≡ given → made3 ≡ made2 → cells ≡ row2.items → cells2 ≡ row2.items
      → is_some old ≡ false → IfOk r (λ shown. shown ≡ quiet turn) → IfOk r (λ shown. Opens names D record { terms = D.terms; given = given2; made = made2 } s turn cells new)
      → Advances names D given left made made2 a b turn cells2
      → IfOk r (λ shown. Advances names D given (join_course left s) made made3 (cursor.Join' x a row old) (cursor.Join' y b row2 new) shown out)
  idle_arm given2 s left x y a b row row2 cells cells2 (Some o) new made made2 made3 turn r out g k c d none q h adv = cc
  idle_arm given2 s left x y a b row row2 cells cells2 None new made made2 made3 turn (Err fault) out g k c d none q h adv = tt
  idle_arm given2 s left x y a b row row2 cells cells2 None new made made2 made3 turn (Ok shown) out g k c d none q h adv =
      let h2 = subst (λ w. Opens names D (words_in D w made2) s turn cells new) g h in
      let h3 = subst (λ w. Opens names D (words_in D given made2) s turn w new) c h2 in
      let adv2 = subst (λ w. Advances names D given left made made2 a b turn w) d adv in
      rw (q, k) (idle_advances names D given s left x y a b row row2 made made2 turn new out h3 adv2)

  pub open_arm : (s : PatternSlots) (left : Course) (x y : _) (a : Cursor) (row : Vec Cell Global) (cells : List Cell) (old new : Option Open) (made : List Term)
      (r : Result Signal StoreFault) (out : List Cell) → is_some old ≡ true → cells ≡ row.items → IsOnce names → AreSlots (length names) s
      → ((before : Open) → old ≡ Some before → AreCells names (words_in D given made) row.items)
      → ((k : ℕ) (before : Open) → old ≡ Some before → HasGiven D.ids before.scan k → IfOk r (λ turn. GoesOn D.ids s cells old k turn out new))
      → IfOk r (λ turn. Advances names D given (join_course left s) made made (cursor.Join' x a row old) (cursor.Join' y a row new) turn out)
  open_arm s left x y a row cells None new made r out some c once slots are goes = cc
  open_arm s left x y a row cells (Some o) new made (Err fault) out some c once slots are goes = tt
  open_arm s left x y a row cells (Some o) new made (Ok turn) out some c once slots are goes =
      open_advances names D given s left x y a row made o new turn out once slots (are o refl)
      (λ k h. subst (λ w. GoesOn D.ids s w (Some o) k turn out new) c (goes k o refl h))

  pub second_arm : (first second : Course) (p q : _) (a b : Cursor) (on : Bool) (made made2 : List Term) (turn : Signal) (out : List Cell) → on ≡ true
      → Advances names D given second made made2 a b turn out
      → Advances names D given (union_course first second) made made2 (cursor.Union' p a on) (cursor.Union' q b on) turn out
  second_arm first second p q a b on made made2 turn out e adv = rw e (second_advances names D given first second p q a b made made2 turn out adv)

  pub stays_arm : (first second : Course) (p q : _) (a a2 : Cursor) (on : Bool) (made made2 : List Term) (turn : Signal) (out : List Cell) → on ≡ false → is_over a2 ≡ false
      → Advances names D given first made made2 a a2 turn out
      → Advances names D given (union_course first second) made made2 (cursor.Union' p a on) (cursor.Union' q a2 on) turn out
  stays_arm first second p q a a2 on made made2 turn out e o adv = rw e (stays_advances names D given first second p q a a2 made made2 turn out o adv)

  pub turns_arm : (first second : Course) (p q : _) (a a2 b : Cursor) (on : Bool) (made made2 : List Term) (turn : Signal) (out : List Cell) → on ≡ false → is_over a2 ≡ true
      → CursorAt names D given made2 second b 0 → Advances names D given first made made2 a a2 turn out
      → Advances names D given (union_course first second) made made2 (cursor.Union' p a on) (cursor.Union' q b true) turn out
  turns_arm first second p q a a2 b on made made2 turn out e o fresh adv =
      rw e (turns_advances names D given first second p q a a2 b made made2 turn out o fresh adv)

  pub filter_arm : (given2 made made2 : List Term) (reads reads2 : List ℕ) (e : Expr) (inner : Course) (a b : Cursor) (turn : Signal) (out : List Cell) (r : Result Signal StoreFault)
      → given2 ≡ given → reads2 ≡ reads → IsOnce names → AreRead (length names) reads → Covers names reads e
      → IfOk r (λ shown. shown ≡ sifted (is_true_under e (picked names record { terms = D.terms; given = given2; made = made2 } out reads2 finmap.empty)) turn)
      → Advances names D given inner made made2 a b turn out → IfOk r (λ shown. Advances names D given (filter_course inner reads e) made made2 a b shown out)
  filter_arm given2 made made2 reads reads2 e inner a b turn out (Err fault) g d once read covers is adv = tt
  filter_arm given2 made made2 reads reads2 e inner a b turn out (Ok shown) g d once read covers is adv =
      filter_advances names D given made2 once reads read e covers inner a b made turn shown out
      (subst (λ w. shown ≡ sifted (is_true_under e (picked names (words_in D given made2) out w finmap.empty)) turn) d
      (subst (λ w. shown ≡ sifted (is_true_under e (picked names (words_in D w made2) out reads2 finmap.empty)) turn) g is)) adv

  pub bind_arm : (given2 made made2 made3 : List Term) (reads reads2 : List ℕ) (e : Expr) (slot place : ℕ) (inner : Course) (a b : Cursor) (turn : Signal) (out out2 : List Cell)
      (r : Result Signal StoreFault) (triples terms g binds : ℕ) → given2 ≡ given → reads2 ≡ reads → IsOnce names → AreRead (length names) reads → Covers names reads e
      → slot < length names → length out ≡ length names → place < length made2 → IsWide (length names) g binds inner → HasShape triples terms (length names) g inner b
      → makes inner ≤ place → IsGivenIn turn terms g (makes inner) out → IfOk r (λ shown. shown ≡ turn)
      → IfOk r (λ shown. Assigns (value_under e (picked names record { terms = D.terms; given = given2; made = made2 } out reads2 finmap.empty)) slot place turn out out2 made2 made3)
      → Advances names D given inner made made2 a b turn out → IfOk r (λ shown. Advances names D given (bind_course inner slot place reads e) made made3 a b shown out2)
  bind_arm given2 made made2 made3 reads reads2 e slot place inner a b turn out out2 (Err fault) triples terms g binds eg d once read covers within width lt wide shape above cells same is adv = tt
  bind_arm given2 made made2 made3 reads reads2 e slot place inner a b turn out out2 (Ok shown) triples terms g binds eg d once read covers within width lt wide shape above cells same is adv =
      bind_advances names D given made2 once reads read e covers slot place inner a b made made3 turn shown out out2 triples terms g binds within width lt wide shape above cells same
      (subst (λ w. Assigns (value_under e (picked names (words_in D given made2) out w finmap.empty)) slot place turn out out2 made2 made3) d
      (subst (λ w. Assigns (value_under e (picked names (words_in D w made2) out reads2 finmap.empty)) slot place turn out out2 made2 made3) eg is)) adv

-- a slice that was written whole
pub written_whole : (xs old : List Cell) (len : ℕ) → length old ≡ len → length xs ≡ length old → xs ≡ take len (xs ++ drop (length xs) old)
written_whole [] [] len e d = let z : len ≡ 0 = omega (arith, e) in rw z refl
written_whole [] (y ∷ old) len e d = absurd (omega arith)
written_whole (x ∷ xs) [] len e d = absurd (omega arith)
written_whole (x ∷ xs) (y ∷ old) zero e d = absurd (omega arith)
written_whole (x ∷ xs) (y ∷ old) (suc len) e d = ap (λ w. x ∷ w) (written_whole xs old len (omega (arith, e)) (omega (arith, d)))

pub row_wide : (triples terms width count : ℕ) (course left : Course) (s : PatternSlots) (x : _) (at below : Cursor) (row : Vec Cell Global) (held : Option Open) → course ≡ join_course left s
    → at ≡ cursor.Join' x below row held → HasShape triples terms width count course at → length row.items ≡ width
row_wide triples terms width count course left s x at below row held e d h =
    let h2 : HasShape triples terms width count (join_course left s) (cursor.Join' x below row held) =
    subst (λ w. HasShape triples terms width count w (cursor.Join' x below row held)) e (subst (HasShape triples terms width count course) d h) in h2.1.0

-- the cells of a join's row, while its scan is open
pub held_cells : (names : List Name) (D : Data) (given made : List Term) (triples terms width count binds : ℕ) (course left : Course) (s : PatternSlots) (x : _) (at below : Cursor)
    (row : Vec Cell Global) (held : Option Open) (before : Open) → course ≡ join_course left s → at ≡ cursor.Join' x below row held → held ≡ Some before
    → HasShape triples terms width count course at → width ≡ length names → terms ≡ length D.terms → count ≡ length given → makes left ≤ length made
    → AreCells names (words_in D given made) row.items
held_cells names D given made triples terms width count binds course left s x at below row held before e d o h w t g m =
    let h2 : HasShape triples terms width count (join_course left s) (cursor.Join' x below row (Some before)) =
    subst (λ u. HasShape triples terms width count (join_course left s) (cursor.Join' x below row u)) o
    (subst (λ u. HasShape triples terms width count u (cursor.Join' x below row held)) e (subst (HasShape triples terms width count course) d h)) in
    record {
      count = h2.1.0 ∙ w;
      within = all_wider (length D.terms) (length given) (makes left) (length made) row.items (λ k q. omega (arith, q, m))
          (subst (λ u. AreCellsIn u (length given) (makes left) row.items) t (subst (λ u. AreCellsIn terms u (makes left) row.items) g h2.1.1.1));
    }

-- BINDs are of so many
pub makes_few : (width given made : ℕ) (course : Course) → IsWide width given made course → makes course ≤ made
makes_few width given made (rows_course variables rows) h = omega arith
makes_few width given made (join_course left s) h = makes_few width given made left h.0
makes_few width given made (union_course first second) h = omega (arith, makes_few width given made first h.0, makes_few width given made second h.1)
makes_few width given made (filter_course inner reads e) h = makes_few width given made inner h.0
makes_few width given made (bind_course inner slot place reads e) h = omega (arith, h.1.1.0)
makes_few width given made (project_course inner variables kept) h = makes_few width given made inner h

-- rows that are given hold cells
pub given_wider : (terms given m n : ℕ) (turn : Signal) (cells : List Cell) → m ≤ n → IsGivenIn turn terms given m cells → IsGivenIn turn terms given n cells
given_wider terms given m n End cells h g = tt
given_wider terms given m n NotYet cells h g = tt
given_wider terms given m n ARow cells h g = all_wider terms given m n cells (λ k q. omega (arith, q, h)) g

pub given_freed : (terms given made : ℕ) (kept : List Bool) (turn : Signal) (cells cells2 : List Cell) → cells2 ≡ freed kept cells → IsGivenIn turn terms given made cells → IsGivenIn turn terms given made cells2
given_freed terms given made kept End cells cells2 e h = tt
given_freed terms given made kept NotYet cells cells2 e h = tt
given_freed terms given made kept ARow cells cells2 e h = subst (AreCellsIn terms given made) (sym e) (freed_within terms given made kept cells h)

pub given_table : (terms width given : ℕ) (rows : List (List Placed)) (place place2 : ℕ) (ended ended2 : Bool) (turn : Signal) (out : List Cell) → AllPlaced width given rows → length out ≡ width
    → TableGives rows place ended turn out place2 ended2 → IsGivenIn turn terms given 0 out
given_table terms width given rows place place2 ended ended2 End out placed w h = tt
given_table terms width given rows place place2 ended ended2 NotYet out placed w h = tt
given_table terms width given rows place place2 true ended2 ARow out placed w h = cc (h.0)
given_table terms width given rows place place2 false ended2 ARow out placed w h =
    let row = h.0.0 in
    let is = h.0.1.1 ∙ ap (λ n. Rattle.plan_course.specs.Courses.cells_of n row) w in
    subst (AreCellsIn terms given 0) (sym is) (cells_within terms width given row (placed_at width given rows place row placed h.0.1.0))
