-- Whole steps.
use Rattle.std.proofs.Common.{◌≡◌, ℕ, zero, suc, ◌+◌, List, length, Option, Some, None, refl, sym, ap, ◌∙◌, subst}
use Rattle.std.proofs.Common.{◌*◌, ◌≤◌, arith}
use Rattle.std.specs.Prelude.{slice_get, replicate, Result, Ok, Err}
use Rattle.term_core.specs.declared.term.Term.{Term}
use Rattle.term_core.specs.Mappings.{Name, Row}
use Rattle.sage_outside.specs.Blocks.{Tells}
use Rattle.sage_outside.specs.declared.fault.StoreFault.{StoreFault}
use Rattle.sage_outside.specs.declared.fault.StoreFault.TheVariants.{Damaged}
use Rattle.store_image.specs.declared.header.Header.{Header}
use Rattle.triple_store.specs.Stores.{View, IsKept}
use Rattle.triple_store.specs.Entries.{IsDamaged}
use Rattle.triple_store.proofs.Opened.{undamaged}
use Rattle.plan_tree.specs.Spelling.{nodes}
use Rattle.plan_tree.specs.States.{State, Stands}
use Rattle.plan_tree.specs.Trace.{trace}
use Rattle.triple_store.specs.declared.asked.Wanted.{Wanted}
use Rattle.row_cells.specs.declared.cell.Cell.{Cell}
use Rattle.row_cells.specs.declared.own.OwnTerms.{OwnTerms}
use Rattle.row_cells.specs.Cells.{row_of}
use Rattle.row_cells.specs.Data.{Data, ShowsData, record_reads}
use Rattle.row_cells.specs.Owns.{AreSought}
use Rattle.plan_course.specs.Courses.{Course, course_of, plan_of, cost}
use Rattle.preempt_join.specs.declared.cursor.Signal.{Signal}
use Rattle.preempt_join.specs.declared.cursor.Signal.TheVariants.{End, NotYet, Row as ARow}
use Rattle.preempt_join.specs.declared.cursor.Cursor.{Cursor}
use Rattle.preempt_join.specs.Cursors.{CursorAt, words_in}
use Rattle.preempt_join.specs.Steps.{Shows, moved, Advances}
use Rattle.preempt_join.specs.States.{state_of}
use Rattle.preempt_join.specs.declared.node.Node.{Node}
use Rattle.preempt_join.specs.declared.node.Turn.{Turn}
use Rattle.preempt_join.specs.declared.node.StepFault.{StepFault}
use Rattle.preempt_join.specs.declared.node.StepFault.TheVariants as step
use Rattle.preempt_join.specs.Nodes.{NodeAt, plan_under, step_reads, HasFewNames, IsStateAfter}
use Rattle.preempt_join.proofs.Costs.{few_reads}
use Rattle.preempt_join.proofs.Saved.{state_is}

module _ (names : List Name) (D : Data) (given : List Term) (course : Course) (made made2 : List Term) (a b : Cursor) (out : List Cell) where
  -- a step as its signal has it
  pub stepped : (s t : Signal) → s ≡ t → Advances names D given course made made2 a b s out → (n : ℕ) → CursorAt names D given made course a n
      → Shows names (words_in D given made2) t out (slice_get (trace D.triples (plan_of names given course)) n) × CursorAt names D given made2 course b (moved t n)
  stepped s t e adv n at = (subst (λ w. Advances names D given course made made2 a b w out) e adv).by n at

no_wanted : (count k : ℕ) (w : Wanted) (ranks : List (Option Wanted)) → ranks ≡ replicate count None → slice_get ranks k ≡ Some (Some w) → ⊥
no_wanted count k w ranks e h = none count k (subst (λ r. slice_get r k ≡ Some (Some w)) e h)
  where
    none : (count k : ℕ) → slice_get (replicate count None) k ≡ Some (Some w) → ⊥
    none zero k h = cc
    none (suc count) zero h = cc
    none (suc count) (suc k) h = none count k h

-- nothing was looked up yet
pub none_sought : (terms : List Term) (own : OwnTerms) (count : ℕ) → own.ranks.items ≡ replicate count None → AreSought terms own
none_sought terms own count e = λ k w h. absurd (no_wanted count k w own.ranks.items e h)

-- the state that is told
pub state_after : (D : Data) (node : Node) (n : ℕ) (s : State) → s ≡ state_of node.at → NodeAt D node n → IsStateAfter D (plan_under node) n s
state_after D node n s e there =
    let is = state_is node.names D node.own.given node.own.made.items (course_of node.course) node.at n there.at in
    (λ b. subst (λ w. Stands D.triples (plan_under node) w n) (sym e) (is.stands b), λ b. e ∙ is.over b)

-- few reads
pub few_at : (r old new : ℕ) (node : Node) → HasFewNames node → new ≤ old + step_reads r node → new ≤ old + nodes (plan_under node) * (6 + 80 * r)
few_at r old new node few h = omega (arith, h, few_reads r node few)

-- what a step gives of the entry
pub stepped_at : (names names2 : List Name) (D : Data) (given given2 : List Term) (course : Course) (made made2 : List Term) (a b : Cursor) (out : List Cell) (s t : Signal)
    → names2 ≡ names → given2 ≡ given → s ≡ t → Advances names2 D given course made made2 a b s out → (n : ℕ) → CursorAt names D given made course a n
    → Shows names (words_in D given made2) t out (slice_get (trace D.triples (plan_of names given course)) n) × CursorAt names D given2 made2 course b (moved t n)
stepped_at names names2 D given given2 course made made2 a b out s t e g d adv n there =
    let r = stepped names D given course made made2 a b out s t d (subst (λ w. Advances w D given course made made2 a b s out) e adv) n there in
    (r.0, subst (λ w. CursorAt names D w made2 course b (moved t n)) (sym g) r.1)

pub row_shown : (names names2 : List Name) (D : Data) (given given2 made : List Term) (out cells : List Cell) (row : Row) (entry : Option (Option Row)) → names2 ≡ names → given2 ≡ given → cells ≡ out
    → row ≡ row_of names2 record { terms = D.terms; given = given2; made = made } cells → entry ≡ Some (Some (row_of names (words_in D given made) out)) → entry ≡ Some (Some row)
row_shown names names2 D given given2 made out cells row entry e g c is there =
    let same : row_of names2 record { terms = D.terms; given = given2; made = made } cells ≡ row_of names (words_in D given made) out = λ i. row_of (e i) record { terms = D.terms; given = g i; made = made } (c i) in
    there ∙ ap (λ w. Some (Some w)) (sym (is ∙ same))

-- the reads of a step that gives a row
pub row_reads : (before middle : View) (image : List ℕ) (names : List Name) (new : ℕ) (node : Node) → IsKept before middle → names ≡ node.names
    → middle.device.reads ≤ before.device.reads + cost (record_reads before.header image) (course_of node.course) → new ≤ middle.device.reads + length names * record_reads middle.header image
    → new ≤ before.device.reads + step_reads (record_reads before.header image) node
row_reads before middle image names new node kept e h more =
    let same = subst (λ w. new ≤ middle.device.reads + length names * record_reads w image) kept.header more in
    let mine = subst (λ w. new ≤ middle.device.reads + length w * record_reads before.header image) e same in
    omega (arith, h, mine)

err_value : {T E : Type 0} (d a b : E) → ◌≡◌ {A = Result T E} (Err a) (Err b) → a ≡ b
err_value {T} {E} d a b e = ap (λ r. fault r) e
  where
    fault : Result T E → E
    fault (Ok v) = d
    fault (Err f) = f

-- a store that shows data has no damaged block
pub none_damaged : {T : Type 0} (header : Header) (image : Option (List ℕ)) (D : Data) (block : ℕ) (fault : StoreFault) (told : StepFault) → ShowsData header image D
    → ((bytes : List ℕ) (n : ℕ) → Tells image bytes → ◌≡◌ {A = Result T StoreFault} (Err fault) (Err (Damaged n)) → IsDamaged header bytes n) → (told ≡ step.Damaged block → fault ≡ Damaged block)
    → ◌≡◌ {A = Result Turn StepFault} (Err told) (Err (step.Damaged block)) → ⊥
none_damaged {T} header image D block fault told shown damaged same e =
    undamaged header D.terms D.ids shown.bytes block shown.shows (damaged shown.bytes block shown.told (ap Err (same (err_value told told (step.Damaged block) e))))
