-- What stands is reached, and what is reached stands.
use Rattle.std.proofs.Common.{◌≡◌, ℕ, zero, suc, ◌+◌, ◌<◌, ◌≤◌, ◌^◌, List, [], ◌∷◌, ◌++◌, length, map, Bool, true, Option, Some, None, refl, sym, ap, ◌∙◌, subst, inl, arith, length-append, eqb-true}
use Rattle.std.specs.Prelude.{flat_map, filter, slice_get, option_map}
use Rattle.std.proofs.lemmas.Bool.{eq-eqb}
use Rattle.std.proofs.lemmas.List.{length-map}
use Rattle.term_core.specs.declared.term.Triple.{Triple}
use Rattle.term_core.specs.declared.pattern.IdTriple.{IdTriple}
use Rattle.term_core.specs.Bags.{In}
use Rattle.term_core.specs.Mappings.{Row, restricted}
use Rattle.term_core.specs.Patterns.{Pattern}
use Rattle.term_core.specs.Data.{terms_of, ids_of}
use Rattle.term_core.specs.Index.{range}
use Rattle.term_core.proofs.Bags.{In-filter, from_In-filter}
use Rattle.term_core.proofs.Merges.{Some_same, both_true, and_true}
use Rattle.term_core.proofs.Ranked.{In-slice_get, slice_get-In, ids_same}
use Rattle.term_core.proofs.Ranges.{from_In-range}
use Rattle.plan_tree.specs.Trace.{Plan, rows_plan, join_plan, union_plan, filter_plan, bind_plan, project_plan, extended, Entries, join_entries, changed, kept, extended_by, trace, steps}
use Rattle.plan_tree.specs.States.{Inner, idle, opened, at_triple, State, table_state, join_state, union_state, made_before, InnerAt, Stands}
use Rattle.plan_tree.specs.Reached.{same_ids, triple_of, entry_under, inner_behind, behind, InnerReaches, Reaches, IsEntryBefore, ReachedIs, can_end_in_row, AreSmall, CanFollow, IsShape}
use Rattle.plan_tree.proofs.Traces.{EndsEmpty, traces_end}
use Rattle.plan_tree.proofs.Pieces.{slice_get-front, slice_get-back, slice_get-within, slice_get-some, before-suc, in_piece}
use Rattle.plan_tree.proofs.Standing.{some_entries, row_entries, stands_below}
use Rattle.plan_tree.proofs.Spelled.{rank_bound}

slice_get-map : {X Y : Type 0} (f : X → Y) (xs : List X) (i : ℕ) → slice_get (map f xs) i ≡ option_map f (slice_get xs i)
slice_get-map f [] i = refl
slice_get-map f (x ∷ xs) zero = refl
slice_get-map f (x ∷ xs) (suc i) = slice_get-map f xs i

-- a triple of the data is found by its ranks
ids_equal : (a b : IdTriple) → same_ids a b ≡ true → a ≡ b
ids_equal a b e =
    let x = both_true _ _ e in
    let y = both_true _ _ x.1 in
    let s : a.s ≡ b.s = eqb-true a.s b.s x.0 in
    let p : a.p ≡ b.p = eqb-true a.p b.p y.0 in
    let o : a.o ≡ b.o = eqb-true a.o b.o y.1 in
    λ i. record { s = s i; p = p i; o = o i }

ids_itself : (a : IdTriple) → same_ids a a ≡ true
ids_itself a = and_true _ _ (eq-eqb a.s a.s refl) (and_true _ _ (eq-eqb a.p a.p refl) (eq-eqb a.o a.o refl))

first_is : (ts : List Triple) (t : Triple) → In ts t → ((u : Triple) → In ts u → u ≡ t) → slice_get ts 0 ≡ Some t
first_is [] t i h = absurd i
first_is (u ∷ ts) t i h = ap Some (h u (inl refl))

pub triple_found : (D : List Triple) (t : Triple) (ids : IdTriple) → In D t → ids ≡ ids_of D t → triple_of D ids ≡ Some t
triple_found D t ids i ranks = ap (triple_of D) ranks ∙ first_is (filter (λ u. same_ids (ids_of D u) (ids_of D t)) D) t
    (In-filter (λ u. same_ids (ids_of D u) (ids_of D t)) D t i (ids_itself (ids_of D t)))
    (λ u j. let r = from_In-filter (λ v. same_ids (ids_of D v) (ids_of D t)) D u j in
    ids_same D u t r.0 i (ids_equal (ids_of D u) (ids_of D t) r.1))

-- the last entry of a piece is nothing
piece_last : (D : List Triple) (p : Pattern) (entry : Option Row) → (i : ℕ) × (suc i ≡ length (join_entries D p entry)) × (slice_get (join_entries D p entry) i ≡ Some None)
piece_last D p None = (0, omega arith, refl)
piece_last D p (Some row) =
    let front = map (extended p row) (range D p row) in
    let long : length (front ++ None ∷ []) ≡ length front + 1 = length-append front (None ∷ []) in
    let z : length front ≡ length front + 0 = omega arith in
    (suc (length front), omega (arith, long), ap (slice_get (front ++ None ∷ [])) z ∙ slice_get-back front (None ∷ []) 0)

module _ (D : List Triple) (p : Pattern) (entries : Entries) where
  abbrev pieces : Option Row → Entries
  pieces = join_entries D p

  -- the entry before a piece is nothing
  idle_before : (m : ℕ) → m ≤ length entries → IsEntryBefore (flat_map pieces entries) (made_before D p entries m) None
  idle_before zero h = refl
  idle_before (suc m) h =
      let x = slice_get-some entries m (omega arith) in
      let l = piece_last D p x.0 in
      let e : made_before D p entries (suc m) ≡ suc (made_before D p entries m + l.0) = omega (arith, before-suc pieces entries m x.0 x.1, l.1) in
      let at : IsEntryBefore (flat_map pieces entries) (suc (made_before D p entries m + l.0)) None = in_piece pieces entries m l.0 x.0 x.1 (omega (arith, l.1)) ∙ l.2 in
      subst (λ n. IsEntryBefore (flat_map pieces entries) n None) (sym e) at

  -- the entry before each place of a join, and that its last part is reached
  inner_to : (m : ℕ) (inner : Inner) (n : ℕ) (entry : Option Row) → m < length entries → IsEntryBefore entries m entry → InnerAt D p entries m inner n → InnerReaches D p entry inner × IsEntryBefore (flat_map pieces entries) n (inner_behind D p entry inner)
  inner_to m idle n entry h b at = (tt, subst (λ k. IsEntryBefore (flat_map pieces entries) k None) (sym at) (idle_before m (omega arith)))
  inner_to zero opened n entry h b at = absurd at
  inner_to zero (at_triple ids) n entry h b at = absurd at
  inner_to (suc m) opened n entry h b (row, is, sum) =
      let same : Some row ≡ entry = Some_same (Some row) entry (sym is ∙ b) in
      let e : n ≡ suc (made_before D p entries m + 0) = omega (arith, sum) in
      let x : slice_get (flat_map pieces entries) (made_before D p entries m + 0) ≡ Some None = in_piece pieces entries m 0 (Some row) is (some_entries D p (Some row)) in (
        subst (λ o. InnerReaches D p o opened) same tt,
        subst (λ k. IsEntryBefore (flat_map pieces entries) k None) (sym e) x,
      )
  inner_to (suc m) (at_triple ids) n entry h b (row, k, t, is, found, ranks, sum) =
      let same : Some row ≡ entry = Some_same (Some row) entry (sym is ∙ b) in
      let ts = range D p row in
      let among : In ts t = In-slice_get ts k t found in
      let inside = slice_get-within ts k t found in
      let e : n ≡ suc (made_before D p entries m + suc k) = omega (arith, sum) in
      let x = in_piece pieces entries m (suc k) (Some row) is (omega (arith, row_entries D p row, inside)) in
      let y : slice_get (pieces (Some row)) (suc k) ≡ Some (extended p row t) =
      slice_get-front (map (extended p row) ts) (None ∷ []) k (omega (arith, length-map ts (extended p row), inside)) ∙ slice_get-map (extended p row) ts k ∙ ap (option_map (extended p row)) found in
      let z : IsEntryBefore (flat_map pieces entries) (suc (made_before D p entries m + suc k)) (extended p row t) = x ∙ y in
      let under : entry_under p (Some row) (triple_of D ids) ≡ extended p row t = ap (entry_under p (Some row)) (triple_found D t ids (from_In-range D p row t among).0 ranks) in (
        subst (λ o. InnerReaches D p o (at_triple ids)) same (t, among, ranks),
        subst (λ o. IsEntryBefore (flat_map pieces entries) n (entry_under p o (triple_of D ids))) same
            (subst (λ o. IsEntryBefore (flat_map pieces entries) n o) (sym under)
            (subst (λ j. IsEntryBefore (flat_map pieces entries) j (extended p row t)) (sym e) z)),
      )

  -- a last part that is reached stands
  inner_from : (m : ℕ) (inner : Inner) (entry : Option Row) → IsEntryBefore entries m entry → InnerReaches D p entry inner → (n : ℕ) × InnerAt D p entries m inner n
  inner_from m idle entry b r = (made_before D p entries m, refl)
  inner_from m opened None b r = absurd r
  inner_from m (at_triple ids) None b r = absurd r
  inner_from zero opened (Some row) b r = cc
  inner_from zero (at_triple ids) (Some row) b r = cc
  inner_from (suc m) opened (Some row) b r = (made_before D p entries m + 1, (row, b, refl))
  inner_from (suc m) (at_triple ids) (Some row) b (t, among, ranks) =
      let at = slice_get-In (range D p row) t among in
      (made_before D p entries m + 2 + at.0, (row, at.0, t, b, at.1, ranks, refl))

-- the entry before a place after a change of each entry
map_before : (g : Option Row → Option Row) → g None ≡ None → (entries : Entries) (n : ℕ) (entry : Option Row) → IsEntryBefore entries n entry → IsEntryBefore (map g entries) n (g entry)
map_before g nothing entries zero entry b = ap g b ∙ nothing
map_before g nothing entries (suc n) entry b = slice_get-map g entries n ∙ ap (option_map g) b

-- the entry before a place of the first of two lists, and of the second
front_before : (xs ys : Entries) (n : ℕ) (entry : Option Row) → n < length xs → IsEntryBefore xs n entry → IsEntryBefore (xs ++ ys) n entry
front_before xs ys zero entry h b = b
front_before xs ys (suc n) entry h b = slice_get-front xs ys n (omega arith) ∙ b

back_before : (xs ys : Entries) (k : ℕ) (entry : Option Row) → EndsEmpty xs → IsEntryBefore ys k entry → IsEntryBefore (xs ++ ys) (length xs + k) entry
back_before xs ys zero entry ends b =
    let long : length xs ≡ suc (length ends.0) = ap (λ es. length es) ends.1 ∙ length-append ends.0 (None ∷ []) ∙ omega arith in
    let e : length xs + 0 ≡ suc (length ends.0) = omega (arith, long) in
    let z : length ends.0 ≡ length ends.0 + 0 = omega arith in
    let last : slice_get xs (length ends.0) ≡ Some None =
    ap (λ es. slice_get es (length ends.0)) ends.1 ∙ ap (slice_get (ends.0 ++ None ∷ [])) z ∙ slice_get-back ends.0 (None ∷ []) 0 in
    let at : IsEntryBefore (xs ++ ys) (suc (length ends.0)) entry = slice_get-front xs ys (length ends.0) (omega (arith, long)) ∙ last ∙ ap Some (sym b) in
    subst (λ n. IsEntryBefore (xs ++ ys) n entry) (sym e) at
back_before xs ys (suc k) entry ends b =
    let e : length xs + suc k ≡ suc (length xs + k) = omega arith in
    let at : IsEntryBefore (xs ++ ys) (suc (length xs + k)) entry = slice_get-back xs ys k ∙ b in
    subst (λ n. IsEntryBefore (xs ++ ys) n entry) (sym e) at

-- a row of a table
table_row : (rows : List Row) (k : ℕ) (row : Row) → slice_get rows k ≡ Some row → slice_get (map Some rows ++ None ∷ []) k ≡ Some (Some row)
table_row rows k row e =
    slice_get-front (map (λ (r : Row). Some r) rows) (None ∷ []) k (omega (arith, slice_get-within rows k row e, length-map rows (λ (r : Row). Some r)))
    ∙ slice_get-map (λ (r : Row). Some r) rows k ∙ ap (option_map (λ (r : Row). Some r)) e

pub reached_to : (D : List Triple) (plan : Plan) (state : State) (n : ℕ) → Stands D plan state n → Reaches D plan state × IsEntryBefore (trace D plan) n (behind D plan state)
reached_to D (rows_plan variables rows) (table_state zero) n (h, e) = (h, subst (λ k. IsEntryBefore (map Some rows ++ None ∷ []) k None) (sym e) refl)
reached_to D (rows_plan variables rows) (table_state (suc k)) n (h, e) =
    let x = slice_get-some rows k (omega arith) in
    let at : IsEntryBefore (map Some rows ++ None ∷ []) (suc k) (slice_get rows k) = table_row rows k x.0 x.1 ∙ ap Some (sym x.1) in
    (h, subst (λ j. IsEntryBefore (map Some rows ++ None ∷ []) j (slice_get rows k)) (sym e) at)
reached_to D (join_plan left p) (join_state below inner) n (m, h, at) =
    let l = reached_to D left below m h in
    let r = inner_to D p (trace D left) m inner n (behind D left below) (stands_below D left below m h) l.1 at in
    ((l.0, r.0), r.1)
reached_to D (union_plan first second) (union_state zero state) n h =
    let r = reached_to D first state n h in
    (r.0, front_before (trace D first) (trace D second) n (behind D first state) (stands_below D first state n h) r.1)
reached_to D (union_plan first second) (union_state (suc zero) state) n (k, h, e) =
    let r = reached_to D second state k h in
    let at = back_before (trace D first) (trace D second) k (behind D second state) (traces_end D first) r.1 in
    (r.0, subst (λ j. IsEntryBefore (trace D first ++ trace D second) j (behind D second state)) (sym e) at)
reached_to D (filter_plan inner condition) state n h =
    let r = reached_to D inner state n h in (r.0, map_before (kept condition) refl (trace D inner) n (behind D inner state) r.1)
reached_to D (bind_plan inner variable e) state n h =
    let r = reached_to D inner state n h in (r.0, map_before (changed (extended_by variable e)) refl (trace D inner) n (behind D inner state) r.1)
reached_to D (project_plan inner names) state n h =
    let r = reached_to D inner state n h in (r.0, map_before (changed (restricted names)) refl (trace D inner) n (behind D inner state) r.1)
reached_to D plan state n h = absurd assumption

pub reached_from : (D : List Triple) (plan : Plan) (state : State) → Reaches D plan state → (n : ℕ) × Stands D plan state n
reached_from D (rows_plan variables rows) (table_state place) r = (place, (r, refl))
reached_from D (join_plan left p) (join_state below inner) (l, r) =
    let h = reached_from D left below l in
    let b = reached_to D left below h.0 h.1 in
    let at = inner_from D p (trace D left) h.0 inner (behind D left below) b.1 r in
    (at.0, (h.0, h.1, at.1))
reached_from D (union_plan first second) (union_state zero state) r = reached_from D first state r
reached_from D (union_plan first second) (union_state (suc zero) state) r =
    let h = reached_from D second state r in
    (steps D first + h.0, (h.0, h.1, refl))
reached_from D (filter_plan inner condition) state r = reached_from D inner state r
reached_from D (bind_plan inner variable e) state r = reached_from D inner state r
reached_from D (project_plan inner names) state r = reached_from D inner state r
reached_from D plan state r = absurd assumption

pub reached_is : (D : List Triple) (plan : Plan) (state : State) → ReachedIs D plan state
reached_is D plan state = record {
  to = reached_to D plan state;
  from = λ r. let h = reached_from D plan state r in record { place = h.0; stands = h.1; before = (reached_to D plan state h.0 h.1).1 };
}

-- a reached state is one of the plan's shape
follows : (D : List Triple) (p : Pattern) (entry : Option Row) (can : Bool) (inner : Inner) → length (terms_of D) < 2 ^ 32 → ((row : Row) → entry ≡ Some row → can ≡ true) → InnerReaches D p entry inner → CanFollow can inner
follows D p entry can idle few h r = tt
follows D p None can opened few h r = absurd r
follows D p None can (at_triple ids) few h r = absurd r
follows D p (Some row) can opened few h r = h row refl
follows D p (Some row) can (at_triple ids) few h (t, among, ranks) =
    (h row refl, subst AreSmall (sym ranks) (rank_bound D t.subject few, rank_bound D t.predicate few, rank_bound D t.object few))

ends_kept : (g : Option Row → Option Row) → g None ≡ None → (o : Option Row) (state : State) → ((row : Row) → o ≡ Some row → can_end_in_row state ≡ true) → (row : Row) → g o ≡ Some row → can_end_in_row state ≡ true
ends_kept g nothing None state h row e = cc
ends_kept g nothing (Some other) state h row e = h other refl

ends_row : (D : List Triple) (plan : Plan) (state : State) (row : Row) → behind D plan state ≡ Some row → can_end_in_row state ≡ true
ends_row D (rows_plan variables rows) (table_state zero) row e = cc
ends_row D (rows_plan variables rows) (table_state (suc k)) row e = refl
ends_row D (join_plan left p) (join_state below idle) row e = cc
ends_row D (join_plan left p) (join_state below opened) row e = cc
ends_row D (join_plan left p) (join_state below (at_triple ids)) row e = refl
ends_row D (union_plan first second) (union_state zero state) row e = ends_row D first state row e
ends_row D (union_plan first second) (union_state (suc zero) state) row e = ends_row D second state row e
ends_row D (filter_plan inner condition) state row e = ends_kept (kept condition) refl (behind D inner state) state (λ other d. ends_row D inner state other d) row e
ends_row D (bind_plan inner variable f) state row e = ends_kept (changed (extended_by variable f)) refl (behind D inner state) state (λ other d. ends_row D inner state other d) row e
ends_row D (project_plan inner names) state row e = ends_kept (changed (restricted names)) refl (behind D inner state) state (λ other d. ends_row D inner state other d) row e
ends_row D plan state row e = cc

pub reached_shaped : (D : List Triple) (plan : Plan) (state : State) → length (terms_of D) < 2 ^ 32 → Reaches D plan state → IsShape plan state
reached_shaped D (rows_plan variables rows) (table_state place) few r = r
reached_shaped D (join_plan left p) (join_state below inner) few (l, r) =
    (reached_shaped D left below few l, follows D p (behind D left below) (can_end_in_row below) inner few (λ row e. ends_row D left below row e) r)
reached_shaped D (union_plan first second) (union_state zero state) few r = reached_shaped D first state few r
reached_shaped D (union_plan first second) (union_state (suc zero) state) few r = reached_shaped D second state few r
reached_shaped D (filter_plan inner condition) state few r = reached_shaped D inner state few r
reached_shaped D (bind_plan inner variable e) state few r = reached_shaped D inner state few r
reached_shaped D (project_plan inner names) state few r = reached_shaped D inner state few r
reached_shaped D plan state few r = absurd assumption
