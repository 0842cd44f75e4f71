-- What a plan with numbers means, and the bounds of its numbers.
use Rattle.std.proofs.Common.{◌≡◌, ℕ, ◌≤◌, List, [], length, Some, sym, ap, ◌∙◌, arith}
use Rattle.std.specs.Prelude.{slice_get}
use Rattle.std.proofs.lemmas.Option.{get_or_from_slice_get, slice_get_within}
use Rattle.term_core.specs.Mappings.{Name}
use Rattle.term_core.specs.Patterns.{Position, Pattern, Known, Named}
use Rattle.term_core.proofs.Merges.{Some_same}
use Rattle.sparql_tree.specs.Exprs.{Expr}
use Rattle.sparql_tree.specs.Scopes.{outside}
use Rattle.plan_tree.specs.Trace.{Plan, rows_plan, join_plan, union_plan, filter_plan, bind_plan, project_plan}
use Rattle.row_cells.specs.declared.cell.Position as code
use Rattle.row_cells.specs.declared.cell.PatternSlots.{PatternSlots}
use Rattle.row_cells.specs.Cells.{position_of, pattern_of, IsSlot, IsKnown, AreSlots, AreKnown, name_at}
use Rattle.row_cells.specs.Laws.{IsOnce}
use Rattle.plan_course.specs.declared.numbering.Numbering.{Numbering}
use Rattle.plan_course.specs.Courses.{Course, plan_of, makes, AreRead, IsWide, Covers, IsNumbered}
use Rattle.plan_course.specs.Meanings.{Tells, AreNamed, none_named, then_named, IsPosition, known_position, named_position, IsPattern, Means, rows_mean, join_means, union_means, filter_means, bind_means, project_means}
use Rattle.plan_course.proofs.Marked.{slots_are, found}
use Rattle.plan_course.proofs.Entered.{term_is, rows_mean_rows, rows_placed}

-- names that look-ups tell stand once
pub told_once : {n : Numbering} → Tells n → IsOnce n.names
told_once t = record { alone = λ i j name e d. Some_same i j (sym (t.told name i e) ∙ t.told name j d) }

name_is : (names : List Name) (k : ℕ) (name : Name) → slice_get names k ≡ Some name → name_at names k ≡ name
name_is names k name e = get_or_from_slice_get names k name [] e

position_is : {n : Numbering} {s : code.Position} {p : Position} → IsPosition n s p → position_of n.names n.given s ≡ p
position_is {n} (known_position {k = k} {term = term} e) = ap Known (term_is n.given k term e)
position_is {n} (named_position {k = k} {name = name} e) = ap Named (name_is n.names k name e)

pattern_is : {n : Numbering} {s : PatternSlots} {p : Pattern} → IsPattern n s p → pattern_of n.names n.given s ≡ p
pattern_is h = λ i. record { subject = position_is h.subject i; predicate = position_is h.predicate i; object = position_is h.object i }

-- the numbers stand for the plan
pub plan_is : {n : Numbering} {course : Course} {plan : Plan} → IsOnce n.names → Means n course plan → plan_of n.names n.given course ≡ plan
plan_is {n} once (rows_mean {variables = variables} few h) = ap (rows_plan variables) (rows_mean_rows n once h)
plan_is once (join_means h p) = λ i. join_plan (plan_is once h i) (pattern_is p i)
plan_is once (union_means h k) = λ i. union_plan (plan_is once h i) (plan_is once k i)
plan_is once (filter_means {condition = condition} h r) = ap (λ p. filter_plan p condition) (plan_is once h)
plan_is {n} once (bind_means {slot = slot} {value = value} {name = name} h e below above r) =
    λ i. bind_plan (plan_is once h i) (name_is n.names slot name e i) value
plan_is once (project_means {variables = variables} h v m) = ap (λ p. project_plan p variables) (plan_is once h)

position_slot : {n : Numbering} {s : code.Position} {p : Position} → IsPosition n s p → IsSlot (length n.names) s
position_slot (known_position e) = tt
position_slot {n} (named_position {k = k} {name = name} e) = slice_get_within n.names k name e

position_known : {n : Numbering} {s : code.Position} {p : Position} → IsPosition n s p → IsKnown (length n.given) s
position_known {n} (known_position {k = k} {term = term} e) = slice_get_within n.given k term e
position_known (named_position e) = tt

pattern_slots : {n : Numbering} {s : PatternSlots} {p : Pattern} → IsPattern n s p → AreSlots (length n.names) s
pattern_slots h = (position_slot h.subject, (position_slot h.predicate, position_slot h.object))

pattern_known : {n : Numbering} {s : PatternSlots} {p : Pattern} → IsPattern n s p → AreKnown (length n.given) s
pattern_known h = (position_known h.subject, (position_known h.predicate, position_known h.object))

named_read : {names : List Name} {slots : List ℕ} {all : List Name} → AreNamed names slots all → AreRead (length names) slots
named_read none_named = tt
named_read {names} (then_named {slot = slot} {name = name} e h) = (slice_get_within names slot name e, named_read h)

-- the numbers are of so many
pub wide_is : {n : Numbering} {course : Course} {plan : Plan} → Means n course plan → IsWide (length n.names) (length n.given) n.made course
wide_is (rows_mean few h) = (few, rows_placed h)
wide_is (join_means h p) = (wide_is h, (pattern_slots p, pattern_known p))
wide_is (union_means h k) = (wide_is h, wide_is k)
wide_is (filter_means h r) = (wide_is h, named_read r)
wide_is {n} (bind_means {slot = slot} {name = name} h e below above r) = (wide_is h, (slice_get_within n.names slot name e, (below, (above, named_read r))))
wide_is (project_means h v m) = wide_is h

-- the numbers of BINDs are below those that are still to be given
pub makes_below : {n : Numbering} {course : Course} {plan : Plan} → Means n course plan → makes course ≤ n.made
makes_below (rows_mean few h) = omega arith
makes_below (join_means h p) = makes_below h
makes_below (union_means h k) = omega (arith, makes_below h, makes_below k)
makes_below (filter_means h r) = makes_below h
makes_below (bind_means h e below above r) = omega (arith, below)
makes_below (project_means h v m) = makes_below h

named_covers : {names : List Name} {reads : List ℕ} {e : Expr} → AreNamed names reads (outside e) → Covers names reads e
named_covers h = record {
  slot = λ name is. (found name h is).slot;
  read = λ name is. ((found name h is).place, (found name h is).read);
  named = λ name is. (found name h is).named;
}

-- what is read is enough, and what is kept is right
pub numbered_is : {n : Numbering} {course : Course} {plan : Plan} → IsOnce n.names → Means n course plan → IsNumbered n.names course
numbered_is once (rows_mean few h) = tt
numbered_is once (join_means h p) = numbered_is once h
numbered_is once (union_means h k) = (numbered_is once h, numbered_is once k)
numbered_is once (filter_means h r) = (numbered_is once h, named_covers r)
numbered_is once (bind_means h e below above r) = (numbered_is once h, named_covers r)
numbered_is once (project_means h v m) = (numbered_is once h, λ k name e. m.marked k ∙ slots_are k name once e v)
