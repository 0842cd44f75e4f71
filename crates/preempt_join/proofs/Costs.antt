-- How many blocks a step reads.
use Rattle.std.proofs.Common.{◌≡◌, ℕ, zero, suc, ◌+◌, ◌*◌, ◌≤◌, List, length, refl, sym, ap, ◌∙◌, subst, arith}
use Rattle.term_core.specs.declared.term.Term.{Term}
use Rattle.term_core.specs.Mappings.{Name}
use Rattle.plan_course.specs.Courses.{Course, course_of, plan_of, rows_course, join_course, union_course, filter_course, bind_course, project_course, cost}
use Rattle.plan_tree.specs.Spelling.{nodes}
use Rattle.preempt_join.specs.declared.node.Node.{Node}
use Rattle.preempt_join.specs.Nodes.{step_reads, joins_in, names_read, plan_under, HasFewNames}

-- products of sums
times_sum : (a b r : ℕ) → (a + b) * r ≡ a * r + b * r
times_sum zero b r = omega arith
times_sum (suc a) b r = omega (arith, times_sum a b r)

times_more : (a b r : ℕ) → a ≤ b → a * r ≤ b * r
times_more zero b r h = omega arith
times_more (suc a) zero r h = absurd (omega (arith, h))
times_more (suc a) (suc b) r h = omega (arith, times_more a b r (omega (arith, h)))

times_six : (a : ℕ) → a * 6 ≡ 6 * a
times_six zero = refl
times_six (suc a) = omega (arith, times_six a)

times_twice : (a b r : ℕ) → (a * b) * r ≡ a * (b * r)
times_twice zero b r = omega arith
times_twice (suc a) b r = omega (arith, times_sum b (a * b) r, times_twice a b r)

-- what joins and names cost
costs : (r : ℕ) (course : Course) → cost r course ≡ joins_in course * 6 + (joins_in course * 75 + names_read course) * r
costs r (rows_course variables rows) = omega arith
costs r (join_course left s) =
    let j = joins_in left in let q = names_read left in
    let e : (j + 1) * 75 + q ≡ 75 + (j * 75 + q) = omega arith in
    ap (λ c. c + (6 + 75 * r)) (costs r left) ∙ omega (arith, times_sum 75 (j * 75 + q) r, ap (λ k. k * r) e)
costs r (union_course first second) =
    let j = joins_in first in let q = names_read first in let k = joins_in second in let p = names_read second in
    let e : (j + k) * 75 + (q + p) ≡ (j * 75 + q) + (k * 75 + p) = omega arith in
    omega (arith, costs r first, costs r second, times_sum (j * 75 + q) (k * 75 + p) r, ap (λ n. n * r) e)
costs r (filter_course inner reads condition) =
    let j = joins_in inner in let q = names_read inner in
    let e : j * 75 + (q + length reads) ≡ (j * 75 + q) + length reads = omega arith in
    omega (arith, costs r inner, times_sum (j * 75 + q) (length reads) r, ap (λ n. n * r) e)
costs r (bind_course inner slot place reads value) =
    let j = joins_in inner in let q = names_read inner in
    let e : j * 75 + (q + length reads) ≡ (j * 75 + q) + length reads = omega arith in
    omega (arith, costs r inner, times_sum (j * 75 + q) (length reads) r, ap (λ n. n * r) e)
costs r (project_course inner variables kept) = costs r inner

module _ (names : List Name) (given : List Term) where
  abbrev parts : Course → ℕ
  parts course = nodes (plan_of names given course)

  joins_few : (course : Course) → joins_in course ≤ parts course
  joins_few (rows_course variables rows) = omega arith
  joins_few (join_course left s) = omega (arith, joins_few left)
  joins_few (union_course first second) = omega (arith, joins_few first, joins_few second)
  joins_few (filter_course inner reads condition) = omega (arith, joins_few inner)
  joins_few (bind_course inner slot place reads value) = omega (arith, joins_few inner)
  joins_few (project_course inner variables kept) = omega (arith, joins_few inner)

parts_times : (n r : ℕ) → n * (6 + 80 * r) ≡ n * 6 + (80 * n) * r
parts_times zero r = omega arith
parts_times (suc n) r =
    let e : 80 * suc n ≡ 80 + 80 * n = omega arith in
    omega (arith, parts_times n r, times_sum 80 (80 * n) r, ap (λ k. k * r) e)

pub few_reads : (r : ℕ) (node : Node) → HasFewNames node → step_reads r node ≤ nodes (plan_under node) * (6 + 80 * r)
few_reads r node h =
    let course = course_of node.course in
    let j = joins_in course in let q = names_read course in let w = length node.names in let n = nodes (plan_under node) in
    let most : (j * 75 + q + w) * r ≤ (80 * n) * r = times_more (j * 75 + q + w) (80 * n) r (omega (arith, h)) in
    omega (arith, costs r course, times_sum (j * 75 + q) w r, most, parts_times n r, joins_few node.names node.own.given course)
