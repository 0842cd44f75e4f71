-- Each operator with its numbers means the operator.
use Rattle.std.proofs.Common.{◌≡◌, ℕ, ◌<◌, ◌^◌, Bool, List, length, Some, sym, subst, arith}
use Rattle.std.specs.Prelude.{slice_get, Result, Ok, Err, IfOk}
use Rattle.term_core.specs.declared.term.Term.{Term}
use Rattle.term_core.specs.Mappings.{Name, Row}
use Rattle.term_core.specs.Patterns.{Position, Known, Named, Pattern}
use Rattle.sparql_tree.specs.Exprs.{Expr}
use Rattle.sparql_tree.specs.Scopes.{outside}
use Rattle.plan_tree.specs.Trace.{Plan, rows_plan, join_plan, union_plan, filter_plan, bind_plan, project_plan}
use Rattle.row_cells.specs.declared.cell.Position.TheVariants as place
use Rattle.row_cells.specs.declared.cell.PatternSlots.{PatternSlots}
use Rattle.plan_course.specs.declared.course.Placed.{Placed}
use Rattle.plan_course.specs.declared.numbering.Numbering.{Numbering}
use Rattle.plan_course.specs.Courses.{Course, rows_course, join_course, union_course, filter_course, bind_course, project_course}
use Rattle.plan_course.specs.Meanings.{Grown, AreNamed, AreRows, IsPosition, known_position, named_position, IsPattern, AreMarked, Means, rows_mean, join_means, union_means, filter_means, bind_means, project_means}
use Rattle.plan_course.proofs.Grows.{grown_twice, named_on, rows_count, means_on}
use Rattle.plan_course.proofs.Meant.{makes_below}

pub table_means : {n : Numbering} (variables variables2 : List Name) (placed : List (List Placed)) (rows : List Row) → variables2 ≡ variables → length rows < 2 ^ 32 → AreRows n placed rows
    → Means n (rows_course variables2 placed) (rows_plan variables rows)
table_means {n} variables variables2 placed rows v few h =
    let small : length placed < 2 ^ 32 = omega (arith, rows_count h, few) in
    subst (λ (w : List Name). Means n (rows_course w placed) (rows_plan variables rows)) (sym v) (rows_mean small h)

pub joined_means : {old n : Numbering} (left left2 : Course) (s : PatternSlots) (plan : Plan) (p : Pattern) → left2 ≡ left → Grown old n → Means old left plan → IsPattern n s p
    → Means n (join_course left2 s) (join_plan plan p)
joined_means {old} {n} left left2 s plan p e g m is = subst (λ (w : Course). Means n (join_course w s) (join_plan plan p)) (sym e) (join_means (means_on g m) is)

pub both_mean : {mid n : Numbering} (first second whole : Course) (one two : Plan) → whole ≡ union_course first second → Grown mid n → Means mid first one → Means n second two
    → Means n whole (union_plan one two)
both_mean {mid} {n} first second whole one two e g f s = subst (λ (w : Course). Means n w (union_plan one two)) (sym e) (union_means (means_on g f) s)

pub filtered_means : {old n : Numbering} (inner inner2 : Course) (reads : List ℕ) (e e2 : Expr) (plan : Plan) → inner2 ≡ inner → e2 ≡ e → Grown old n → Means old inner plan
    → AreNamed n.names reads (outside e) → Means n (filter_course inner2 reads e2) (filter_plan plan e)
filtered_means {old} {n} inner inner2 reads e e2 plan i x g m r =
    subst (λ (w : Course). Means n (filter_course w reads e2) (filter_plan plan e)) (sym i)
    (subst (λ (y : Expr). Means n (filter_course inner reads y) (filter_plan plan e)) (sym x) (filter_means (means_on g m) r))

pub bound_means : {old mid later n : Numbering} (inner inner2 : Course) (slot place : ℕ) (reads : List ℕ) (e e2 : Expr) (plan : Plan) (name : Name) → inner2 ≡ inner → e2 ≡ e → Grown old mid
    → Grown mid later → Grown later n → Means old inner plan → slice_get mid.names slot ≡ Some name → AreNamed later.names reads (outside e) → place ≡ later.made → place < n.made
    → Means n (bind_course inner2 slot place reads e2) (bind_plan plan name e)
bound_means {old} {mid} {later} {n} inner inner2 slot place reads e e2 plan name i x g h k m s r p b =
    subst (λ (w : Course). Means n (bind_course w slot place reads e2) (bind_plan plan name e)) (sym i)
    (subst (λ (y : Expr). Means n (bind_course inner slot place reads y) (bind_plan plan name e)) (sym x)
    (bind_means (means_on (grown_twice g (grown_twice h k)) m) (k.names slot name (h.names slot name s)) b (omega (arith, p, makes_below m, g.made, h.made)) (named_on k r)))

pub projected_means : {old n : Numbering} (inner inner2 : Course) (variables variables2 given : List Name) (slots slots2 : List ℕ) (kept : List Bool) (plan : Plan) → inner2 ≡ inner
    → variables2 ≡ variables → given ≡ variables → slots2 ≡ slots → Grown old n → Means old inner plan → AreNamed n.names slots given → AreMarked slots2 kept
    → Means n (project_course inner2 variables2 kept) (project_plan plan variables)
projected_means {old} {n} inner inner2 variables variables2 given slots slots2 kept plan i v w s g m named marked =
    let here : AreNamed n.names slots variables = subst (λ (u : List Name). AreNamed n.names slots u) w named in
    let marks : AreMarked slots kept = subst (λ (u : List ℕ). AreMarked u kept) s marked in
    subst (λ (u : Course). Means n (project_course u variables2 kept) (project_plan plan variables)) (sym i)
    (subst (λ (u : List Name). Means n (project_course inner u kept) (project_plan plan variables)) (sym v) (project_means (means_on g m) here marks))

-- positions of patterns
pub slot_means : {n : Numbering} (k : ℕ) (name : Name) (p : Position) → p ≡ Named name → slice_get n.names k ≡ Some name → IsPosition n (place.Slot k) p
slot_means {n} k name p e h = subst (λ (q : Position). IsPosition n (place.Slot k) q) (sym e) (named_position h)

pub term_means : {n : Numbering} (k : ℕ) (t : Term) (p : Position) → p ≡ Known t → slice_get n.given k ≡ Some t → IsPosition n (place.Known k) p
term_means {n} k t p e h = subst (λ (q : Position). IsPosition n (place.Known k) q) (sym e) (known_position h)

pub if_ok_map : {T E : Type 0} (P Q : T → Type 0) → ((v : T) → P v → Q v) → (r : Result T E) → IfOk r P → IfOk r Q
if_ok_map P Q f (Ok v) h = f v h
if_ok_map P Q f (Err e) h = h
