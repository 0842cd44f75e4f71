-- The plan of a single pattern.
use Rattle.std.proofs.Common.{◌≡◌, ℕ, zero, suc, ◌≤◌, List, [], ◌∷◌, ◌++◌, length, map, Option, Some, None, Bool, true, false, cond, refl, sym, ap, ◌∙◌, subst, ⊎_elim, inl, inr, arith, length-append}
use Rattle.std.specs.Prelude.{◌⊎◌, slice_get}
use Rattle.std.specs.List.{filter_map, cons_option}
use Rattle.std.specs.FinMap as finmap
use Rattle.std.proofs.lemmas.List.{length-map}
use Rattle.term_core.specs.declared.term.Term.{Term}
use Rattle.term_core.specs.declared.term.Triple.{Triple}
use Rattle.term_core.specs.Order.{bytes_cmp}
use Rattle.term_core.specs.Bags.{In}
use Rattle.term_core.specs.Mappings.{Name, Row, value, same_name, same_term, has_name, restricted}
use Rattle.term_core.proofs.Bags.{In-append_left, In-append_right}
use Rattle.term_core.proofs.Merges.{names_same, Some_same, not_some, cond_some, same_row, value-restricted, has_name-from}
use Rattle.term_core.specs.Patterns.{Position, Known, Named, Pattern, names_at, names_in}
use Rattle.sparql_tree.specs.Bgp.{solutions}
use Rattle.sparql_tree.specs.Answer.{IsAnswer}
use Rattle.sparql_tree.proofs.Assignments.{value-insert}
use Rattle.plan_tree.specs.Trace.{rows_plan, put, bind_at, changed, trace, steps}
use Rattle.term_core.specs.Index.{range}
use Rattle.plan_tree.specs.Laws.{AreVariables}
use Rattle.plan_tree.specs.States.{Inner, idle, opened, at_triple, State, done, table_state, join_state, union_state, InnerAt, Stands}
use Rattle.plan_tree.specs.OnePattern.{pattern_plan, matches, solution_of, entry_of, PatternTrace, PatternStates, PatternRows, IsPatternState, is_fresh, is_opened, is_triple, is_closing, HasNamesOf}
use Rattle.plan_tree.proofs.Traces.{rows_of-pattern}
use Rattle.plan_tree.proofs.Solutions.{pattern_answers}
use Rattle.plan_tree.proofs.Standing.{row_entries}

-- the entries
two_ends : {X : Type 0} (f : X → Option Row) (g : Row → Row) (ts : List X) →
    map (changed g) ((map f ts ++ None ∷ []) ++ None ∷ []) ≡ map (λ t. changed g (f t)) ts ++ None ∷ None ∷ []
two_ends f g [] = refl
two_ends f g (t ∷ ts) = ap (λ w. changed g (f t) ∷ w) (two_ends f g ts)

entries_are : (D : List Triple) (p : Pattern) (names : List Name) → trace D (pattern_plan p names) ≡ None ∷ (map (entry_of p names) (matches D p) ++ None ∷ None ∷ [])
entries_are D p names = ap (λ w. None ∷ w) (two_ends (solution_of p) (restricted names) (matches D p))

pub pattern_trace : (D : List Triple) (p : Pattern) (names : List Name) → PatternTrace D p names
pattern_trace D p names = record {
  entries_are = entries_are D p names;
  steps_are =
      let long : steps D (pattern_plan p names) ≡ suc (length (map (entry_of p names) (matches D p) ++ None ∷ None ∷ [])) = ap (λ es. length es) (entries_are D p names) in
      omega (arith, long, length-append (map (entry_of p names) (matches D p)) (None ∷ None ∷ []), length-map (matches D p) (entry_of p names));
}

-- the states
pub pattern_states : (D : List Triple) (p : Pattern) (names : List Name) → PatternStates D p names
pattern_states D p names = record {
  fresh = (0, (omega arith, refl), refl);
  opened_next = (1, (omega arith, refl), (finmap.empty, refl, refl));
  triple = λ k t found. (1, (omega arith, refl), (finmap.empty, k, t, refl, found, refl, omega arith));
  closing = (1, (omega arith, refl), omega (arith, row_entries D p finmap.empty));
}

module _ (D : List Triple) (p : Pattern) where
  one_row : (row : Row) → slice_get (trace D (rows_plan [] (finmap.empty ∷ []))) 0 ≡ Some (Some row) → finmap.empty ≡ row
  one_row row e = Some_same _ _ (Some_same _ _ e)

  -- the table is at 0 or at 1
  idle_is : (m n : ℕ) → m ≤ 1 → InnerAt D p (trace D (rows_plan [] (finmap.empty ∷ []))) m idle n → IsPatternState D p (join_state (table_state m) idle) n
  idle_is zero n h at = is_fresh refl at
  idle_is (suc zero) n h at = is_closing refl (omega (arith, at, row_entries D p finmap.empty))
  idle_is (suc (suc m)) n h at = absurd (omega (arith, h))

  opened_is : (m n : ℕ) → m ≤ 1 → InnerAt D p (trace D (rows_plan [] (finmap.empty ∷ []))) m opened n → IsPatternState D p (join_state (table_state m) opened) n
  opened_is zero n h at = absurd at
  opened_is (suc zero) n h (row, is, sum) = is_opened refl sum
  opened_is (suc (suc m)) n h at = absurd (omega (arith, h))

  triple_is : (m n : ℕ) (ids : _) → m ≤ 1 → InnerAt D p (trace D (rows_plan [] (finmap.empty ∷ []))) m (at_triple ids) n → IsPatternState D p (join_state (table_state m) (at_triple ids)) n
  triple_is zero n ids h at = absurd at
  triple_is (suc zero) n ids h (row, k, t, is, found, ranks, sum) =
      let same : finmap.empty ≡ row = one_row row is in
      is_triple k t (ap (λ r. slice_get (range D p r) k) same ∙ found) (ap (λ i. join_state (table_state 1) (at_triple i)) ranks) (omega (arith, sum))
  triple_is (suc (suc m)) n ids h at = absurd (omega (arith, h))

  inner_is : (m n : ℕ) (inner : Inner) → m ≤ 1 → InnerAt D p (trace D (rows_plan [] (finmap.empty ∷ []))) m inner n → IsPatternState D p (join_state (table_state m) inner) n
  inner_is m n idle h at = idle_is m n h at
  inner_is m n opened h at = opened_is m n h at
  inner_is m n (at_triple ids) h at = triple_is m n ids h at

  pub state_is : (names : List Name) (state : State) (n : ℕ) → Stands D (pattern_plan p names) state n → IsPatternState D p state n
  state_is names (join_state (table_state place) inner) n (m, h, at) =
      subst (λ w. IsPatternState D p (join_state (table_state w) inner) n) h.1 (inner_is m n inner (omega (arith, h.0, h.1)) at)
  state_is names (join_state done inner) n h = absurd h.1
  state_is names (join_state (join_state below other) inner) n h = absurd h.1
  state_is names (join_state (union_state side state) inner) n h = absurd h.1
  state_is names (union_state side state) n h = absurd h
  state_is names done n h = absurd h
  state_is names (table_state place) n h = absurd h

-- the names that a solution binds
put_only : (row k : Row) (name : Name) (term : Term) (o : Option Term) → put row name term o ≡ Some k → (other : Name) (t : Term) → value k other ≡ Some t → (value row other ≡ Some t) ⊎ In (name ∷ []) other
put_only row k name term None e other t h =
    elim (same_name other name) as (λ b. same_name other name ≡ b → cond b (Some term) (value row other) ≡ Some t → (value row other ≡ Some t) ⊎ In (name ∷ []) other) [
      | true ↦ λ s _. inr (inl (sym (names_same other name s)))
      | false ↦ λ s g. inl g
    ] refl (sym (value-insert row name other term) ∙ ap (λ r. value r other) (Some_same _ _ e) ∙ h)
put_only row k name term (Some x) e other t h =
    inl (ap (λ r. value r other) (cond_some (same_term x term) row k e).1 ∙ h)

bind_only : (at : Position) (term : Term) (row : Option Row) (k : Row) → bind_at at term row ≡ Some k
    → (a : Row) × (row ≡ Some a) × ((name : Name) (t : Term) → value k name ≡ Some t → (value a name ≡ Some t) ⊎ In (names_at at) name)
bind_only (Known other) term row k e = (k, e, λ name t h. inl h)
bind_only (Named name) term None k e = absurd (not_some k (sym e))
bind_only (Named name) term (Some a) k e = (a, refl, put_only a k name term (value a name) e)

pub solution_names : (p : Pattern) (t : Triple) (k : Row) (name : Name) (s : Term) → solution_of p t ≡ Some k → value k name ≡ Some s → In (names_in p) name
solution_names p t k name s e h =
    let c = bind_only p.object t.object (bind_at p.predicate t.predicate (bind_at p.subject t.subject (Some finmap.empty))) k e in
    let b = bind_only p.predicate t.predicate (bind_at p.subject t.subject (Some finmap.empty)) c.0 c.1 in
    let a = bind_only p.subject t.subject (Some finmap.empty) b.0 b.1 in
    let none : value a.0 name ≡ None = ap (λ r. value r name) (sym (Some_same _ _ a.1)) ∙ finmap.get-empty bytes_cmp name in
    ⊎_elim
    (λ g. ⊎_elim
    (λ f. ⊎_elim
    (λ l. absurd (not_some s (sym l ∙ none)))
    (λ i. In-append_left _ _ name i)
    (a.2 name s f))
    (λ i. In-append_right (names_at p.subject) _ name (In-append_left _ _ name i))
    (b.2 name s g))
    (λ i. In-append_right (names_at p.subject) _ name (In-append_right (names_at p.predicate) _ name i))
    (c.2 name s h)

no_value : (b : Bool) → ◌≡◌ {A = Option Term} (cond b None None) None
no_value true = refl
no_value false = refl

-- a row whose names are all kept stays as it is
pub restricted_same : (names : List Name) (row : Row) → ((name : Name) (s : Term) → value row name ≡ Some s → In names name) → restricted names row ≡ row
restricted_same names row h = same_row (restricted names row) row (λ name. value-restricted names row name ∙ at name (value row name) refl)
  where
    at : (name : Name) (o : Option Term) → value row name ≡ o → cond (has_name names name) (value row name) None ≡ value row name
    at name None e = rw e (no_value (has_name names name))
    at name (Some s) e = ap (λ b. cond b (value row name) None) (has_name-from names name (h name s e))

pub entry_kept : (p : Pattern) (names : List Name) (t : Triple) → HasNamesOf names p → entry_of p names t ≡ solution_of p t
entry_kept p names t h =
    elim (solution_of p t) as (λ o. solution_of p t ≡ o → changed (restricted names) o ≡ o) [
      | None ↦ λ e. refl
      | Some k ↦ λ e. ap Some (restricted_same names k (λ name s v. h name (solution_names p t k name s e v)))
    ] refl

-- the rows
kept_all : {X : Type 0} (f : X → Option Row) (g : Row → Row) (ts : List X) → ((t : X) → changed g (f t) ≡ f t) → map g (filter_map f ts) ≡ filter_map f ts
kept_all f g [] h = refl
kept_all f g (t ∷ ts) h =
    elim (f t) as (λ o. changed g o ≡ o → map g (cons_option o (filter_map f ts)) ≡ cons_option o (filter_map f ts)) [
      | None ↦ λ e. kept_all f g ts h
      | Some row ↦ λ e i. Some_same _ _ e i ∷ kept_all f g ts h i
    ] (h t)

pub pattern_rows : (D : List Triple) (p : Pattern) (names : List Name) → PatternRows D p names
pattern_rows D p names = record {
  cut = rows_of-pattern D p names;
  whole = λ h. rows_of-pattern D p names ∙ kept_all (solution_of p) (restricted names) (matches D p) (λ t. entry_kept p names t h);
}

pub selected_answer : (L : List Triple) (p : Pattern) (selected : List Name) → AreVariables selected → IsAnswer (solutions L (p ∷ [])) selected (map (restricted selected) (filter_map (solution_of p) (matches L p)))
selected_answer L p selected v =
    subst (IsAnswer (solutions L (p ∷ [])) selected) (rows_of-pattern L p selected) (pattern_answers L L p selected (record { to = λ t i. i; from = λ t i. i }) v)
