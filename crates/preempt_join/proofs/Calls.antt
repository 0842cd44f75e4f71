-- What the calls of a step owe and give, along the equations of its arms.
use Rattle.std.proofs.Common.{◌≡◌, ℕ, ◌+◌, ◌*◌, ◌<◌, ◌≤◌, Bool, List, length, Some, refl, sym, ap, ◌∙◌, subst, arith}
use Rattle.std.specs.Prelude.{max, slice_get}
use Rattle.term_core.specs.declared.term.Term.{Term}
use Rattle.term_core.specs.Mappings.{Name}
use Rattle.sparql_tree.specs.Exprs.{Expr}
use Rattle.store_image.specs.Table.{term_numbered}
use Rattle.row_cells.specs.declared.cell.Cell.{Cell}
use Rattle.row_cells.specs.declared.cell.PatternSlots.{PatternSlots}
use Rattle.row_cells.specs.declared.own.OwnTerms.{OwnTerms}
use Rattle.row_cells.specs.Cells.{AreSlots}
use Rattle.row_cells.specs.Owns.{AreSought, Wants}
use Rattle.plan_course.specs.declared.course.Placed.{Placed}
use Rattle.plan_course.specs.Courses.{Course, rows_course, join_course, union_course, filter_course, bind_course, project_course, makes, AllPlaced, AreRead, IsWide, cost}
use Rattle.row_cells.specs.Data.{Data}
use Rattle.preempt_join.specs.declared.cursor.Signal.{Signal}
use Rattle.preempt_join.specs.declared.cursor.Cursor.{Cursor}
use Rattle.preempt_join.specs.declared.cursor.Cursor.TheVariants as cursor
use Rattle.preempt_join.specs.Steps.{Advances, IsGivenIn, TableGives, freed}
use Rattle.preempt_join.proofs.Ends.{advances_at}
use Rattle.preempt_join.proofs.Arms.{table_arm, makes_few, given_wider, given_freed, given_table}

-- a row that was given by the plan below is one of all BINDs
pub given_to : (terms terms2 given given2 made made2 n : ℕ) (turn : Signal) (cells cells2 : List Cell) → terms2 ≡ terms → given2 ≡ given → made2 ≡ made → n ≤ made → cells2 ≡ cells
    → IsGivenIn turn terms given n cells → IsGivenIn turn terms2 given2 made2 cells2
given_to terms terms2 given given2 made made2 n turn cells cells2 t g m few c h =
    subst (λ w. IsGivenIn turn terms2 given2 made2 w) (sym c)
    (subst (λ k. IsGivenIn turn k given2 made2 cells) (sym t)
    (subst (λ k. IsGivenIn turn terms k made2 cells) (sym g)
    (subst (λ k. IsGivenIn turn terms given k cells) (sym m) (given_wider terms given n made turn cells few h))))

pub join_few : (width given made : ℕ) (course left inner : Course) (s : PatternSlots) → course ≡ join_course left s → inner ≡ left → IsWide width given made course → makes inner ≤ made
join_few width given made course left inner s e d wide =
    let wide2 : IsWide width given made (join_course left s) = subst (IsWide width given made) e wide in
    subst (λ w. makes w ≤ made) (sym d) (makes_few width given made left wide2.0)

pub filter_few : (width given made : ℕ) (course below inner : Course) (reads : List ℕ) (condition : Expr) → course ≡ filter_course below reads condition → inner ≡ below → IsWide width given made course
    → makes inner ≤ made
filter_few width given made course below inner reads condition e d wide =
    let wide2 : IsWide width given made (filter_course below reads condition) = subst (IsWide width given made) e wide in
    subst (λ w. makes w ≤ made) (sym d) (makes_few width given made below wide2.0)

pub bind_few : (width given made : ℕ) (course below inner : Course) (slot place : ℕ) (reads : List ℕ) (value : Expr) → course ≡ bind_course below slot place reads value → inner ≡ below
    → IsWide width given made course → makes inner ≤ made
bind_few width given made course below inner slot place reads value e d wide =
    let wide2 : IsWide width given made (bind_course below slot place reads value) = subst (IsWide width given made) e wide in
    subst (λ w. makes w ≤ made) (sym d) (makes_few width given made below wide2.0)

-- what is given
pub table_within : (terms width given binds : ℕ) (course : Course) (variables : List Name) (rows rows2 : List (List Placed)) (place place2 : ℕ) (ended ended2 : Bool) (turn : Signal) (out : List Cell)
    → course ≡ rows_course variables rows → IsWide width given binds course → rows2 ≡ rows → length out ≡ width → TableGives rows2 place ended turn out place2 ended2
    → IsGivenIn turn terms given (makes course) out
table_within terms width given binds course variables rows rows2 place place2 ended ended2 turn out e wide r w h =
    let wide2 : IsWide width given binds (rows_course variables rows) = subst (IsWide width given binds) e wide in
    let h2 : TableGives rows place ended turn out place2 ended2 = subst (λ u. TableGives u place ended turn out place2 ended2) r h in
    subst (λ p. IsGivenIn turn terms given (makes p) out) (sym e) (given_table terms width given rows place place2 ended ended2 turn out wide2.1 w h2)

-- a table's turn
pub table_turn : (names : List Name) (D : Data) (given made : List Term) (width binds : ℕ) (course : Course) (variables : List Name) (rows rows2 : List (List Placed)) (place place2 : ℕ)
    (ended ended2 : Bool) (turn : Signal) (out : List Cell) (at : Cursor) → course ≡ rows_course variables rows → at ≡ cursor.Table place ended → length names ≡ width
    → IsWide width (length given) binds course → rows2 ≡ rows → length out ≡ width → TableGives rows2 place ended turn out place2 ended2
    → Advances names D given course made made at (cursor.Table place2 ended2) turn out
table_turn names D given made width binds course variables rows rows2 place place2 ended ended2 turn out at e d n wide r w h =
    let wide2 : IsWide width (length given) binds (rows_course variables rows) = subst (IsWide width (length given) binds) e wide in
    let placed : AllPlaced (length names) (length given) rows = subst (λ k. AllPlaced k (length given) rows) (sym n) wide2.1 in
    advances_at names D given made made e d (table_arm names D given made variables rows rows2 place place2 ended ended2 turn out r placed (w ∙ sym n) h)

pub first_within : (terms given : ℕ) (course first second inner : Course) (turn : Signal) (out : List Cell) → course ≡ union_course first second → inner ≡ first
    → IsGivenIn turn terms given (makes inner) out → IsGivenIn turn terms given (makes course) out
first_within terms given course first second inner turn out e d h =
    subst (λ p. IsGivenIn turn terms given (makes p) out) (sym e)
    (given_wider terms given (makes first) (max (makes first) (makes second)) turn out (omega arith) (subst (λ p. IsGivenIn turn terms given (makes p) out) d h))

pub second_within : (terms given : ℕ) (course first second inner : Course) (turn : Signal) (out : List Cell) → course ≡ union_course first second → inner ≡ second
    → IsGivenIn turn terms given (makes inner) out → IsGivenIn turn terms given (makes course) out
second_within terms given course first second inner turn out e d h =
    subst (λ p. IsGivenIn turn terms given (makes p) out) (sym e)
    (given_wider terms given (makes second) (max (makes first) (makes second)) turn out (omega arith) (subst (λ p. IsGivenIn turn terms given (makes p) out) d h))

pub bind_within : (width terms given binds : ℕ) (course below inner : Course) (slot place : ℕ) (reads : List ℕ) (value : Expr) (turn shown : Signal) (out out2 : List Cell)
    → course ≡ bind_course below slot place reads value → inner ≡ below → IsWide width given binds course → IsGivenIn turn terms given (makes inner) out → shown ≡ turn
    → ((made : ℕ) → place < made → IsGivenIn turn terms given made out → IsGivenIn turn terms given made out2) → IsGivenIn shown terms given (makes course) out2
bind_within width terms given binds course below inner slot place reads value turn shown out out2 e d wide h same sets =
    let wide2 : IsWide width given binds (bind_course below slot place reads value) = subst (IsWide width given binds) e wide in
    let h2 : IsGivenIn turn terms given (makes below) out = subst (λ p. IsGivenIn turn terms given (makes p) out) d h in
    subst (λ p. IsGivenIn shown terms given (makes p) out2) (sym e)
    (subst (λ t. IsGivenIn t terms given (place + 1) out2) (sym same)
    (sets (place + 1) (omega arith) (given_wider terms given (makes below) (place + 1) turn out (omega (arith, wide2.1.1.1.0)) h2)))

pub project_within : (terms given : ℕ) (course below inner : Course) (variables : List Name) (kept kept2 : List Bool) (turn : Signal) (out out2 : List Cell)
    → course ≡ project_course below variables kept → inner ≡ below → out2 ≡ freed kept2 out → IsGivenIn turn terms given (makes inner) out
    → IsGivenIn turn terms given (makes course) out2
project_within terms given course below inner variables kept kept2 turn out out2 e d f h =
    subst (λ p. IsGivenIn turn terms given (makes p) out2) (sym e)
    (given_freed terms given (makes below) kept2 turn out out2 f (subst (λ p. IsGivenIn turn terms given (makes p) out) d h))

-- one read is within what a join may read
pub join_reads : (r old new : ℕ) (course left : Course) (s : PatternSlots) → course ≡ join_course left s → new ≤ old + 1 → new ≤ old + cost r course
join_reads r old new course left s e h =
    let there : new ≤ old + cost r (join_course left s) = omega (arith, h) in subst (λ p. new ≤ old + cost r p) (sym e) there

-- only what BINDs give has changed
pub sought_same : (terms : List Term) (old new : OwnTerms) → new.ranks ≡ old.ranks → new.given ≡ old.given → AreSought terms old → AreSought terms new
sought_same terms old new e d s = λ k w h.
    subst (λ g. Wants terms (Some (term_numbered g k)) w) (sym d) (s k w (subst (λ r. slice_get r.items k ≡ Some (Some w)) e h))
