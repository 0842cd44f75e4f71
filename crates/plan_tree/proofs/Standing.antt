-- For each number of entries there is one state.
use Rattle.std.proofs.Common.{◌≡◌, ℕ, zero, suc, ◌+◌, ◌-◌, ◌<◌, ◌≤◌, List, [], ◌∷◌, ◌++◌, length, map, Option, Some, None, refl, sym, ap, ◌∙◌, subst, ⊎_elim, inl, inr, arith, length-append}
use Rattle.std.specs.Prelude.{flat_map, slice_get}
use Rattle.std.proofs.lemmas.Bool.{cases_lt}
use Rattle.std.proofs.lemmas.List.{length-map}
use Rattle.term_core.specs.declared.term.Triple.{Triple}
use Rattle.term_core.specs.Mappings.{Row, restricted}
use Rattle.term_core.proofs.Merges.{Some_same}
use Rattle.term_core.specs.Patterns.{Pattern}
use Rattle.plan_tree.specs.Trace.{Plan, rows_plan, join_plan, union_plan, filter_plan, bind_plan, project_plan, extended, Entries, join_entries, changed, trace, steps, kept, extended_by}
use Rattle.term_core.specs.Index.{range}
use Rattle.plan_tree.specs.States.{Inner, idle, opened, at_triple, State, done, table_state, join_state, union_state, made_before, InnerAt, Stands, StandsAt}
use Rattle.term_core.specs.Data.{ids_of}
use Rattle.plan_tree.specs.StateLaws.{HasOne}
use Rattle.plan_tree.proofs.Traces.{traces_end}
use Rattle.plan_tree.proofs.Pieces.{slice_get-within, slice_get-some, in_piece, lies, same_piece}

row_inside : (front : Entries) (k : ℕ) (row : Row) → slice_get (front ++ None ∷ []) k ≡ Some (Some row) → suc k < length (front ++ None ∷ [])
row_inside [] zero row e = cc
row_inside [] (suc k) row e = cc
row_inside (x ∷ front) zero row e = omega (arith, length-append front (None ∷ []))
row_inside (x ∷ front) (suc k) row e = omega (arith, row_inside front k row e)

-- a row is not the last entry
pub row_not_last : (D : List Triple) (plan : Plan) (k : ℕ) (row : Row) → slice_get (trace D plan) k ≡ Some (Some row) → suc k < steps D plan
row_not_last D plan k row h =
    let e = traces_end D plan in
    let moved : slice_get (e.0 ++ None ∷ []) k ≡ Some (Some row) = ap (λ es. slice_get es k) (sym e.1) ∙ h in
    subst (λ es. suc k < length es) (sym e.1) (row_inside e.0 k row moved)

-- what a join makes of an entry
pub some_entries : (D : List Triple) (p : Pattern) (entry : Option Row) → 0 < length (join_entries D p entry)
some_entries D p None = omega arith
some_entries D p (Some row) = omega arith

pub row_entries : (D : List Triple) (p : Pattern) (row : Row) → length (join_entries D p (Some row)) ≡ length (range D p row) + 2
row_entries D p row =
    let ts = range D p row in
    let f = extended p row in
    omega (arith, length-append (map f ts) (None ∷ []), length-map ts f)

-- how the last part of a join says where in which piece it stands
abbrev FormOf : List Triple → Pattern → (m : ℕ) → Inner → (piece inside : ℕ) → Option Row → Type 0
FormOf D p m idle piece inside element = (m ≡ piece) × (inside ≡ 0)
FormOf D p m opened piece inside element = (m ≡ suc piece) × (inside ≡ 1)
FormOf D p m (at_triple ids) piece inside element =
    (row : Row) × (k : ℕ) × (t : Triple) × (m ≡ suc piece) × (inside ≡ 2 + k) × (element ≡ Some row) × (slice_get (range D p row) k ≡ Some t) × (ids ≡ ids_of D t)

record Part (D : List Triple) (p : Pattern) (entries : Entries) (m : ℕ) (inner : Inner) (n : ℕ) : Type 0 where
  piece : ℕ
  inside : ℕ
  element : Option Row
  is : slice_get entries piece ≡ Some element
  within : inside < length (join_entries D p element)
  sum : n ≡ made_before D p entries piece + inside
  form : FormOf D p m inner piece inside element

module _ (D : List Triple) (p : Pattern) (entries : Entries) where
  part_of : (m : ℕ) (inner : Inner) (n : ℕ) → m < length entries → InnerAt D p entries m inner n → Part D p entries m inner n
  part_of m idle n h at =
      let x = slice_get-some entries m h in
      record { piece = m; inside = 0; element = x.0; is = x.1; within = some_entries D p x.0; sum = omega (arith, at); form = (refl, refl) }
  part_of zero opened n h at = absurd at
  part_of (suc m) opened n h (row, is, sum) =
      record { piece = m; inside = 1; element = Some row; is = is; within = omega (arith, row_entries D p row); sum = sum; form = (refl, refl) }
  part_of zero (at_triple ids) n h at = absurd at
  part_of (suc m) (at_triple ids) n h (row, k, t, is, found, ranks, sum) = record {
    piece = m;
    inside = 2 + k;
    element = Some row;
    is = is;
    within = omega (arith, row_entries D p row, slice_get-within (range D p row) k t found);
    sum = omega (arith, sum);
    form = (row, k, t, refl, refl, refl, found, ranks);
  }

  inner_below : (m : ℕ) (inner : Inner) (n : ℕ) → m < length entries → InnerAt D p entries m inner n → n < length (flat_map (join_entries D p) entries)
  inner_below m inner n h at =
      let l = part_of m inner n h at in
      let x = slice_get-some (join_entries D p l.element) l.inside l.within in
      let e = in_piece (join_entries D p) entries l.piece l.inside l.element l.is l.within ∙ x.1 in
      let b = slice_get-within (flat_map (join_entries D p) entries) _ x.0 e in
      omega (arith, b, l.sum)

-- a state stands below the last entry's end
pub stands_below : (D : List Triple) (plan : Plan) (state : State) (n : ℕ) → Stands D plan state n → n < steps D plan
stands_below D (rows_plan variables rows) (table_state place) n h =
    omega (arith, h.0, h.1, length-append (map Some rows) (None ∷ []), length-map rows (λ (r : Row). Some r))
stands_below D (join_plan left p) (join_state below inner) n (m, h, at) =
    inner_below D p (trace D left) m inner n (stands_below D left below m h) at
stands_below D (union_plan first second) (union_state zero state) n h =
    omega (arith, stands_below D first state n h, length-append (trace D first) (trace D second))
stands_below D (union_plan first second) (union_state (suc zero) state) n (k, h, e) =
    omega (arith, e, stands_below D second state k h, length-append (trace D first) (trace D second))
stands_below D (filter_plan inner condition) state n h =
    omega (arith, stands_below D inner state n h, length-map (trace D inner) (kept condition))
stands_below D (bind_plan inner variable e) state n h =
    omega (arith, stands_below D inner state n h, length-map (trace D inner) (changed (extended_by variable e)))
stands_below D (project_plan inner names) state n h =
    omega (arith, stands_below D inner state n h, length-map (trace D inner) (changed (restricted names)))
stands_below D plan state n h = absurd h

-- there is a state at each place
module _ (D : List Triple) (p : Pattern) (left : Plan) where
  abbrev HaveStates : Type 0
  HaveStates = (n : ℕ) → n < steps D left → (state : State) × Stands D left state n

  -- the state of a join, from the place in the pieces
  join_from : HaveStates → (n m : ℕ) (entry : Option Row) (inside : ℕ) → slice_get (trace D left) m ≡ Some entry → inside < length (join_entries D p entry) → n ≡ made_before D p (trace D left) m + inside → (state : State) × Stands D (join_plan left p) state n
  join_from have n m entry zero is h e =
      let at = have m (slice_get-within (trace D left) m entry is) in
      (join_state at.0 idle, (m, at.1, omega (arith, e)))
  join_from have n m None (suc inside) is h e = absurd (omega arith)
  join_from have n m (Some row) (suc zero) is h e =
      let at = have (suc m) (row_not_last D left m row is) in
      (join_state at.0 opened, (suc m, at.1, (row, is, e)))
  join_from have n m (Some row) (suc (suc k)) is h e =
      let at = have (suc m) (row_not_last D left m row is) in
      let t = slice_get-some (range D p row) k (omega (arith, row_entries D p row)) in
      (join_state at.0 (at_triple (ids_of D t.0)), (suc m, at.1, (row, k, t.0, is, t.1, refl, omega (arith, e))))

pub some_state : (D : List Triple) (plan : Plan) (n : ℕ) → n < steps D plan → (state : State) × Stands D plan state n
some_state D (rows_plan variables rows) n h =
    (table_state n, (omega (arith, length-append (map Some rows) (None ∷ []), length-map rows (λ (r : Row). Some r)), refl))
some_state D (join_plan left p) n h =
    let l = lies (join_entries D p) (trace D left) n h in
    join_from D p left (some_state D left) n l.piece l.element l.inside l.is l.within l.sum
some_state D (union_plan first second) n h = ⊎_elim
    (λ l. let s = some_state D first n l in (union_state 0 s.0, s.1))
    (λ l.
    let k = n - steps D first in
    let s = some_state D second k (omega (arith, h, l, length-append (trace D first) (trace D second))) in
    (union_state 1 s.0, (k, s.1, omega (arith, l))))
    (cases_lt n (steps D first))
some_state D (filter_plan inner condition) n h =
    some_state D inner n (omega (arith, length-map (trace D inner) (kept condition)))
some_state D (bind_plan inner variable e) n h =
    some_state D inner n (omega (arith, length-map (trace D inner) (changed (extended_by variable e))))
some_state D (project_plan inner names) n h =
    some_state D inner n (omega (arith, length-map (trace D inner) (changed (restricted names))))

-- the state at a place is one
same_form : (D : List Triple) (p : Pattern) (m k : ℕ) (a b : Inner) (piece inside other within : ℕ) (element beside : Option Row) → piece ≡ other → inside ≡ within → element ≡ beside
    → FormOf D p m a piece inside element → FormOf D p k b other within beside → (m ≡ k) × (a ≡ b)
same_form D p m k idle idle piece inside other within element beside pieces insides elements x y = (x.0 ∙ pieces ∙ sym y.0, refl)
same_form D p m k idle opened piece inside other within element beside pieces insides elements x y = absurd (omega (arith, x.1, y.1))
same_form D p m k idle (at_triple ids) piece inside other within element beside pieces insides elements x y = absurd (omega (arith, x.1, y.4))
same_form D p m k opened idle piece inside other within element beside pieces insides elements x y = absurd (omega (arith, x.1, y.1))
same_form D p m k opened opened piece inside other within element beside pieces insides elements x y = (x.0 ∙ ap suc pieces ∙ sym y.0, refl)
same_form D p m k opened (at_triple ids) piece inside other within element beside pieces insides elements x y = absurd (omega (arith, x.1, y.4))
same_form D p m k (at_triple ids) idle piece inside other within element beside pieces insides elements x y = absurd (omega (arith, x.4, y.1))
same_form D p m k (at_triple ids) opened piece inside other within element beside pieces insides elements x y = absurd (omega (arith, x.4, y.1))
same_form D p m k (at_triple ids) (at_triple others) piece inside other within element beside pieces insides elements x y =
    let rows : x.0 ≡ y.0 = Some_same _ _ (sym x.5 ∙ elements ∙ y.5) in
    let places : x.1 ≡ y.1 = omega (arith, x.4, y.4, insides) in
    let triples : x.2 ≡ y.2 = Some_same _ _ (sym x.6 ∙ ap (λ r. slice_get (range D p r) x.1) rows ∙ ap (slice_get (range D p y.0)) places ∙ y.6) in
    (x.3 ∙ ap suc pieces ∙ sym y.3, ap at_triple (x.7 ∙ ap (ids_of D) triples ∙ sym y.7))

same_inner : (D : List Triple) (p : Pattern) (entries : Entries) (m k : ℕ) (a b : Inner) (n : ℕ) → m < length entries → k < length entries → InnerAt D p entries m a n → InnerAt D p entries k b n → (m ≡ k) × (a ≡ b)
same_inner D p entries m k a b n hm hk at other =
    let x = part_of D p entries m a n hm at in
    let y = part_of D p entries k b n hk other in
    let s = same_piece (join_entries D p) entries x.piece y.piece x.inside y.inside x.element y.element x.is y.is x.within y.within (sym x.sum ∙ y.sum) in
    same_form D p m k a b x.piece x.inside y.piece y.inside x.element y.element s.0 s.1 (Some_same _ _ (sym x.is ∙ ap (slice_get entries) s.0 ∙ y.is)) x.form y.form

pub same_state : (D : List Triple) (plan : Plan) (a b : State) (n : ℕ) → Stands D plan a n → Stands D plan b n → a ≡ b
same_state D (rows_plan variables rows) (table_state i) (table_state j) n x y = ap table_state (sym x.1 ∙ y.1)
same_state D (join_plan left p) (join_state a i) (join_state b j) n (m, x, at) (k, y, other) =
    let s = same_inner D p (trace D left) m k i j n (stands_below D left a m x) (stands_below D left b k y) at other in
    let below : a ≡ b = same_state D left a b m x (subst (λ w. Stands D left b w) (sym s.0) y) in
    λ l. join_state (below l) (s.1 l)
same_state D (union_plan first second) (union_state zero a) (union_state zero b) n x y = ap (union_state 0) (same_state D first a b n x y)
same_state D (union_plan first second) (union_state zero a) (union_state (suc zero) b) n x (k, y, e) = absurd (omega (arith, e, stands_below D first a n x))
same_state D (union_plan first second) (union_state (suc zero) a) (union_state zero b) n (k, x, e) y = absurd (omega (arith, e, stands_below D first b n y))
same_state D (union_plan first second) (union_state (suc zero) a) (union_state (suc zero) b) n (k, x, e) (j, y, f) =
    let same : k ≡ j = omega (arith, e, f) in
    ap (union_state 1) (same_state D second a b k x (subst (λ w. Stands D second b w) (sym same) y))
same_state D (filter_plan inner condition) a b n x y = same_state D inner a b n x y
same_state D (bind_plan inner variable e) a b n x y = same_state D inner a b n x y
same_state D (project_plan inner names) a b n x y = same_state D inner a b n x y
same_state D plan a b n x y = absurd assumption

pub one_state : (D : List Triple) (plan : Plan) (n : ℕ) → n < steps D plan → HasOne (λ state. Stands D plan state n)
one_state D plan n h =
    let s = some_state D plan n h in
    record { found = s.0; has = s.1; alone = λ other x. same_state D plan other s.0 n x s.1 }

-- a state that stands is not done
pub not_done : (D : List Triple) (plan : Plan) (n : ℕ) → Stands D plan done n → ⊥
not_done D (rows_plan variables rows) n h = h
not_done D (join_plan left p) n h = h
not_done D (union_plan first second) n h = h
not_done D (filter_plan inner condition) n h = not_done D inner n h
not_done D (bind_plan inner variable e) n h = not_done D inner n h
not_done D (project_plan inner names) n h = not_done D inner n h

same_at : (D : List Triple) (plan : Plan) (a b : State) (n : ℕ) → StandsAt D plan a n → StandsAt D plan b n → a ≡ b
same_at D plan a b n x y = ⊎_elim
    (λ p. ⊎_elim
    (λ q. p.0 ∙ sym q.0)
    (λ q. absurd (omega (arith, p.1, stands_below D plan b n q)))
    y)
    (λ p. ⊎_elim
    (λ q. absurd (omega (arith, q.1, stands_below D plan a n p)))
    (λ q. same_state D plan a b n p q)
    y)
    x

some_state_at : (D : List Triple) (plan : Plan) (n : ℕ) → n ≤ steps D plan → (state : State) × StandsAt D plan state n
some_state_at D plan n h = ⊎_elim
    (λ l. let s = some_state D plan n l in (s.0, inr s.1))
    (λ l. (done, inl (refl, omega (arith, h, l))))
    (cases_lt n (steps D plan))

pub one_state_at : (D : List Triple) (plan : Plan) (n : ℕ) → n ≤ steps D plan → HasOne (λ state. StandsAt D plan state n)
one_state_at D plan n h =
    let s = some_state_at D plan n h in
    record { found = s.0; has = s.1; alone = λ other x. same_at D plan other s.0 n x s.1 }
