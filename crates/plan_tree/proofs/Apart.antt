-- A state stands at one place only.
use Rattle.std.proofs.Common.{◌≡◌, ℕ, zero, suc, List, [], ◌∷◌, Some, refl, sym, ap, ◌∙◌, subst, ⊎_elim, arith}
use Rattle.std.specs.Prelude.{slice_get}
use Rattle.term_core.specs.declared.term.Triple.{Triple}
use Rattle.term_core.specs.Bags.{In, AreDistinct}
use Rattle.term_core.specs.Mappings.{Row}
use Rattle.term_core.proofs.Merges.{Some_same}
use Rattle.term_core.specs.Patterns.{Pattern}
use Rattle.plan_tree.specs.Trace.{Plan, rows_plan, join_plan, union_plan, filter_plan, bind_plan, project_plan, Entries, trace}
use Rattle.term_core.specs.Index.{range}
use Rattle.plan_tree.specs.States.{Inner, idle, opened, at_triple, State, table_state, join_state, union_state, InnerAt, Stands, StandsAt}
use Rattle.plan_tree.proofs.Standing.{not_done}
use Rattle.term_core.proofs.Ranges.{from_In-range, range_distinct}
use Rattle.term_core.proofs.Ranked.{In-slice_get, ids_same}

-- a list without repeats has each element at one place
distinct_at : {X : Type 0} (xs : List X) (i j : ℕ) (x : X) → AreDistinct xs → slice_get xs i ≡ Some x → slice_get xs j ≡ Some x → i ≡ j
distinct_at [] i j x d e f = cc
distinct_at (y ∷ xs) zero zero x d e f = refl
distinct_at (y ∷ xs) zero (suc j) x d e f = absurd (d.0 (In-slice_get xs j y (f ∙ ap Some (sym (Some_same y x e)))))
distinct_at (y ∷ xs) (suc i) zero x d e f = absurd (d.0 (In-slice_get xs i y (e ∙ ap Some (sym (Some_same y x f)))))
distinct_at (y ∷ xs) (suc i) (suc j) x d e f = ap suc (distinct_at xs i j x d.1 e f)

-- a triple of a range is of the data
ranged : (D : List Triple) (p : Pattern) (row : Row) (k : ℕ) (t : Triple) → slice_get (range D p row) k ≡ Some t → In D t
ranged D p row k t e = (from_In-range D p row t (In-slice_get (range D p row) k t e)).0

inner_at : (D : List Triple) (p : Pattern) (entries : Entries) (m : ℕ) (inner : Inner) (i j : ℕ) → InnerAt D p entries m inner i → InnerAt D p entries m inner j → i ≡ j
inner_at D p entries m idle i j x y = x ∙ sym y
inner_at D p entries zero opened i j x y = absurd x
inner_at D p entries (suc m) opened i j x y = x.2 ∙ sym y.2
inner_at D p entries zero (at_triple ids) i j x y = absurd x
inner_at D p entries (suc m) (at_triple ids) i j (row, k, t, is, found, ranks, sum) (other, l, u, at, met, numbers, total) =
    let rows : row ≡ other = Some_same _ _ (Some_same _ _ (sym is ∙ at)) in
    let triples : t ≡ u = ids_same D t u (ranged D p row k t found) (ranged D p other l u met) (sym ranks ∙ numbers) in
    let places : k ≡ l = distinct_at (range D p other) k l u (range_distinct D p other) (ap (λ r. slice_get (range D p r) k) (sym rows) ∙ found ∙ ap Some triples) met in
    omega (arith, sum, total, places)

pub other_places : (D : List Triple) (plan : Plan) (state : State) (m n : ℕ) → Stands D plan state m → Stands D plan state n → m ≡ n
other_places D (rows_plan variables rows) (table_state place) m n x y = x.1 ∙ sym y.1
other_places D (join_plan left p) (join_state below inner) m n (i, x, at) (j, y, other) =
    let same : i ≡ j = other_places D left below i j x y in
    inner_at D p (trace D left) i inner m n at (subst (λ w. InnerAt D p (trace D left) w inner n) (sym same) other)
other_places D (union_plan first second) (union_state zero state) m n x y = other_places D first state m n x y
other_places D (union_plan first second) (union_state (suc zero) state) m n (i, x, e) (j, y, f) =
    omega (arith, e, f, other_places D second state i j x y)
other_places D (filter_plan inner condition) state m n x y = other_places D inner state m n x y
other_places D (bind_plan inner variable e) state m n x y = other_places D inner state m n x y
other_places D (project_plan inner names) state m n x y = other_places D inner state m n x y
other_places D plan state m n x y = absurd x

pub other_places_at : (D : List Triple) (plan : Plan) (state : State) (m n : ℕ) → StandsAt D plan state m → StandsAt D plan state n → m ≡ n
other_places_at D plan state m n x y = ⊎_elim
    (λ p. ⊎_elim
    (λ q. p.1 ∙ sym q.1)
    (λ q. absurd (not_done D plan n (subst (λ w. Stands D plan w n) p.0 q)))
    y)
    (λ p. ⊎_elim
    (λ q. absurd (not_done D plan m (subst (λ w. Stands D plan w m) q.0 p)))
    (λ q. other_places D plan state m n p q)
    y)
    x
