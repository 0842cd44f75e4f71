-- The order in which patterns are joined, and the plan of an algebra.
use Rattle.std.proofs.Common.{◌≡◌, ℕ, zero, suc, Bool, true, false, List, [], ◌∷◌, length, map, Option, Some, None, refl, sym, ap, ◌∙◌, subst, ⊎_elim, inl, inr, arith}
use Rattle.std.specs.Prelude.{is_some, ◌||◌, if◌then◌else◌}
use Rattle.std.specs.FinMap as finmap
use Rattle.term_core.specs.declared.term.Triple.{Triple}
use Rattle.term_core.specs.Bags.{In, HaveSame}
use Rattle.term_core.specs.Mappings.{Name, has_name}
use Rattle.term_core.specs.Patterns.{Pattern, names_in, pattern_of}
use Rattle.term_core.proofs.Bags.{In-map, from_In-map}
use Rattle.term_core.proofs.Merges.{both_true}
use Rattle.term_core.proofs.Ranges.{range_same}
use Rattle.sparql_tree.specs.Algebra.{Algebra, Bgp, Join, LeftJoin, Minus, Union, Filter, Extend, Table, is_bgp, is_server}
use Rattle.plan_tree.specs.Trace.{Plan, union_plan, filter_plan, bind_plan}
use Rattle.plan_tree.specs.Plans.{joined_onto, one_row, patterns_of, IsJoined, IsPlan, counted, scope_of, wider, comes_first, taken, ordered, counted_onto, ordered_onto, join_of, plan_of}

same_then : {X : Type 0} {xs ys zs : List X} → HaveSame xs ys → HaveSame ys zs → HaveSame xs zs
same_then a b = record { to = λ x i. b.to x (a.to x i); from = λ x i. a.from x (b.from x i) }

same_itself : {X : Type 0} (xs : List X) → HaveSame xs xs
same_itself xs = record { to = λ x i. i; from = λ x i. i }

same_behind : {X : Type 0} (x : X) (xs ys : List X) → HaveSame xs ys → HaveSame (x ∷ xs) (x ∷ ys)
same_behind x xs ys s = record {
  to = λ y i. ⊎_elim (λ e. inl e) (λ j. inr (s.to y j)) i;
  from = λ y i. ⊎_elim (λ e. inl e) (λ j. inr (s.from y j)) i;
}

same_turned : {X : Type 0} (x y : X) (zs : List X) → HaveSame (x ∷ y ∷ zs) (y ∷ x ∷ zs)
same_turned x y zs = record { to = λ z i. turned x y z i; from = λ z i. turned y x z i }
  where
    turned : (a b z : _) → In (a ∷ b ∷ zs) z → In (b ∷ a ∷ zs) z
    turned a b z i = ⊎_elim (λ e. inr (inl e)) (λ j. ⊎_elim (λ e. inl e) (λ l. inr (inr l)) j) i

-- what is taken and what is left
pub record IsTaken (p : Pattern × ℕ) (qs : List (Pattern × ℕ)) (next : (Pattern × ℕ) × List (Pattern × ℕ)) : Type 0 where
  pub same : HaveSame (p ∷ qs) (next.0 ∷ next.1)
  pub left : length next.1 ≡ length qs

pub taken_is : (in_scope : Name → Bool) (p : Pattern × ℕ) (qs : List (Pattern × ℕ)) → IsTaken p qs (taken in_scope p qs)
taken_is in_scope p [] = record { same = same_itself (p ∷ []); left = refl }
taken_is in_scope p (q ∷ qs) =
    let rest = taken in_scope q qs in
    let r : IsTaken q qs rest = taken_is in_scope q qs in
    elim (comes_first in_scope p rest.0) as (λ b. IsTaken p (q ∷ qs) (if b then (p, q ∷ qs) else (rest.0, p ∷ rest.1))) [
      | true ↦ record { same = same_itself (p ∷ q ∷ qs); left = refl }
      | false ↦ record {
        same = same_then (same_behind p (q ∷ qs) (rest.0 ∷ rest.1) r.same) (same_turned p rest.0 rest.1);
        left = ap suc r.left;
      }
    ]

same_map : {X Y : Type 0} (f : X → Y) (xs ys : List X) → HaveSame xs ys → HaveSame (map f xs) (map f ys)
same_map f xs ys s = record { to = λ y i. moved xs ys s.to y i; from = λ y i. moved ys xs s.from y i }
  where
    moved : (us vs : List _) → ((x : _) → In us x → In vs x) → (y : _) → In (map f us) y → In (map f vs) y
    moved us vs to y i = let r = from_In-map f us y i in subst (λ w. In (map f vs) w) r.2 (In-map f vs r.0 (to r.0 r.1))

-- the patterns alone
abbrev alone : Pattern × ℕ → Pattern
alone p = p.0

ordered_same : (n : ℕ) (in_scope : Name → Bool) (ps : List (Pattern × ℕ)) → length ps ≡ n → HaveSame (map alone ps) (ordered n in_scope ps)
ordered_same zero in_scope [] e = same_itself []
ordered_same zero in_scope (p ∷ ps) e = absurd (omega (arith, e))
ordered_same (suc n) in_scope [] e = same_itself []
ordered_same (suc n) in_scope (p ∷ ps) e =
    let next = taken in_scope p ps in
    let t : IsTaken p ps next = taken_is in_scope p ps in
    let more = wider in_scope (names_in next.0.0) in
    same_then (same_map alone (p ∷ ps) (next.0 ∷ next.1) t.same)
    (same_behind next.0.0 (map alone next.1) (ordered n more next.1) (ordered_same n more next.1 (omega (arith, t.left, e))))

alone_counted : (D : List Triple) (ps : List Pattern) → map alone (map (counted D) ps) ≡ ps
alone_counted D [] = refl
alone_counted D (p ∷ ps) = ap (λ w. p ∷ w) (alone_counted D ps)

-- all patterns joined to a plan, in some order
onto_is : (D : List Triple) (below : Plan) (ps : List Pattern) → (qs : List Pattern) × HaveSame ps qs × (ordered_onto D below ps ≡ joined_onto below qs)
onto_is D below ps =
    let cs = map (counted D) ps in
    (ordered (length cs) (has_name (scope_of below)) cs, subst (λ w. HaveSame w (ordered (length cs) (has_name (scope_of below)) cs)) (alone_counted D ps) (ordered_same (length cs) (has_name (scope_of below)) cs refl), refl)

-- the plan of a join
join_is : (D : List Triple) (left right : Option (List Pattern)) (IsLeft IsRight : Plan → Type 0) (first second : Plan) → IsLeft first → IsRight second → (is_some left || is_some right) ≡ true → IsJoined left right IsLeft IsRight (join_of D left right first second)
join_is D left (Some ps) IsLeft IsRight first second a b e = let o = onto_is D first ps in (first, o.0, a, o.1, o.2)
join_is D (Some ps) None IsLeft IsRight first second a b e = let o = onto_is D second ps in (second, o.0, b, o.1, o.2)
join_is D None None IsLeft IsRight first second a b e = cc

bgp_patterns : (a : Algebra) → is_bgp a ≡ is_some (patterns_of a)
bgp_patterns (Bgp patterns) = refl
bgp_patterns (Join left right) = refl
bgp_patterns (LeftJoin left right condition) = refl
bgp_patterns (Minus left right) = refl
bgp_patterns (Union left right) = refl
bgp_patterns (Filter condition inner) = refl
bgp_patterns (Extend inner variable e) = refl
bgp_patterns (Table variables rows) = refl

pub plan_is : (D : List Triple) (a : Algebra) → is_server a ≡ true → IsPlan a (plan_of D a)
plan_is D (Bgp patterns) e = onto_is D one_row (map pattern_of patterns)
plan_is D (Join left right) e =
    let x = both_true _ _ e in
    let y = both_true _ _ x.0 in
    join_is D (patterns_of left) (patterns_of right) (λ below. IsPlan left below) (λ below. IsPlan right below) (plan_of D left) (plan_of D right)
    (plan_is D left y.0) (plan_is D right y.1)
    ((λ i. sym (bgp_patterns left) i || sym (bgp_patterns right) i) ∙ x.1)
plan_is D (LeftJoin left right condition) e = cc
plan_is D (Minus left right) e = cc
plan_is D (Union left right) e =
    let y = both_true _ _ e in
    (plan_of D left, plan_of D right, plan_is D left y.0, plan_is D right y.1, refl)
plan_is D (Filter condition inner) e = (plan_of D inner, plan_is D inner e, refl)
plan_is D (Extend inner variable f) e = (plan_of D inner, plan_is D inner e, refl)
plan_is D (Table variables rows) e = refl

-- data with the same triples have the same plans
counts_same : (D E : List Triple) → HaveSame D E → counted D ≡ counted E
counts_same D E h = λ i p. (p, length (range_same D E p finmap.empty h i))

onto_same : (D E : List Triple) (below other : Plan) (ps : List Pattern) → HaveSame D E → below ≡ other → ordered_onto D below ps ≡ ordered_onto E other ps
onto_same D E below other ps h e = λ i. counted_onto (e i) (map (counts_same D E h i) ps)

join_same : (D E : List Triple) (left right : Option (List Pattern)) (first second third fourth : Plan) → HaveSame D E → first ≡ third → second ≡ fourth → join_of D left right first second ≡ join_of E left right third fourth
join_same D E left (Some ps) first second third fourth h a b = onto_same D E first third ps h a
join_same D E (Some ps) None first second third fourth h a b = onto_same D E second fourth ps h b
join_same D E None None first second third fourth h a b = refl

pub plans_same : (D E : List Triple) (a : Algebra) → HaveSame D E → plan_of D a ≡ plan_of E a
plans_same D E (Bgp patterns) h = onto_same D E one_row one_row (map pattern_of patterns) h refl
plans_same D E (Join left right) h =
    join_same D E (patterns_of left) (patterns_of right) (plan_of D left) (plan_of D right) (plan_of E left) (plan_of E right) h (plans_same D E left h) (plans_same D E right h)
plans_same D E (LeftJoin left right condition) h = refl
plans_same D E (Minus left right) h = refl
plans_same D E (Union left right) h = λ i. union_plan (plans_same D E left h i) (plans_same D E right h i)
plans_same D E (Filter condition inner) h = λ i. filter_plan (plans_same D E inner h i) condition
plans_same D E (Extend inner variable e) h = λ i. bind_plan (plans_same D E inner h i) variable e
plans_same D E (Table variables rows) h = refl
