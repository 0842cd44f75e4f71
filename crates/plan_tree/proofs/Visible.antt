-- Joins, conditions and values of expressions on rows restricted to the variables.
use Rattle.std.proofs.Common.{◌≡◌, ℕ, Bool, true, false, cond, List, map, Option, Some, None, refl, sym, ap, ◌∙◌, subst, ⊎_elim, inl, inr}
use Rattle.std.specs.Prelude.{filter, ◌⊎◌, unwrap_or}
use Rattle.std.specs.FinMap as finmap
use Rattle.term_core.specs.declared.term.Term.{Term}
use Rattle.term_core.specs.Bags.{total, SameBag, In}
use Rattle.term_core.specs.Mappings.{Name, Row, value, same_name, merge, joined, joins, IsJoin}
use Rattle.term_core.proofs.Bags.{total_same, total-map, total-filter, weigh}
use Rattle.term_core.proofs.Merges.{names_same, Some_same, not_some, same_row, has_name-to, compatible_from, joined_to, joined_from}
use Rattle.term_core.proofs.Joined.{total-joins, same_options}
use Rattle.sparql_tree.specs.Bgp.{is_variable, visible}
use Rattle.sparql_tree.specs.Exprs.{Expr}
use Rattle.sparql_tree.specs.Scopes.{outside}
use Rattle.sparql_tree.proofs.Assignments.{value-insert}
use Rattle.sparql_tree.proofs.Visible.{value-visible, visible_to, visible_from}
use Rattle.sparql_value.specs.Evaluation.{value_under, is_true_under}
use Rattle.sparql_value.specs.Operators.{as_truth}
use Rattle.sparql_value.specs.Solutions.{with_value}
use Rattle.sparql_value.proofs.Names.{same_value}
use Rattle.plan_tree.specs.Trace.{extended_by}
use Rattle.plan_tree.specs.Laws.{AreVariables}

visible_join : (a b k : Row) → IsJoin a b k → IsJoin (visible a) (visible b) (visible k)
visible_join a b k j = record {
  left = λ n t e. let h = visible_to a n t e in visible_from k n t h.0 (j.left n t h.1);
  right = λ n t e. let h = visible_to b n t e in visible_from k n t h.0 (j.right n t h.1);
  only = λ n t e. let h = visible_to k n t e in ⊎_elim (λ l. inl (visible_from a n t h.0 l)) (λ r. inr (visible_from b n t h.0 r)) (j.only n t h.1);
}

abbrev shown : Option Row → Option Row
shown None = None
shown (Some row) = Some (visible row)

shown_from : (o : Option Row) (m : Row) → shown o ≡ Some m → (k : Row) × (o ≡ Some k) × (visible k ≡ m)
shown_from None m e = absurd (not_some m (sym e))
shown_from (Some k) m e = (k, refl, Some_same (visible k) m e)

-- all names that both have are variables
abbrev pub ShareVariables : Row → Row → Type 0
ShareVariables a b = (name : Name) (s t : Term) → value a name ≡ Some s → value b name ≡ Some t → is_variable name ≡ true

visible_joined : (a b : Row) → ShareVariables a b → shown (joined a b) ≡ joined (visible a) (visible b)
visible_joined a b v = same_options _ _
    (λ m e. let r = shown_from (joined a b) m e in subst (λ w. joined (visible a) (visible b) ≡ Some w) r.2 (joined_from (visible a) (visible b) (visible r.0) (visible_join a b r.0 (joined_to a b r.0 r.1))))
    (λ m e.
    let j : IsJoin (visible a) (visible b) m = joined_to (visible a) (visible b) m e in
    let c : joined a b ≡ Some (merge a b) = ap (λ x. cond x (Some (merge a b)) None) (compatible_from a b (λ n s t p q.
    Some_same s t (sym (j.left n s (visible_from a n s (v n s t p q) p)) ∙ j.right n t (visible_from b n t (v n s t p q) q)))) in
    ap shown c ∙ sym (joined_from (visible a) (visible b) (visible (merge a b)) (visible_join a b (merge a b) (joined_to a b (merge a b) c))) ∙ e)

weigh_shown : (f : Row → ℕ) (o : Option Row) → weigh (λ k. f (visible k)) o ≡ weigh f (shown o)
weigh_shown f None = refl
weigh_shown f (Some k) = refl

pub visible_joins : (xs ys : List Row) → ((a b : Row) → In xs a → In ys b → ShareVariables a b) → SameBag (map visible (joins xs ys)) (joins (map visible xs) (map visible ys))
visible_joins xs ys v = record {
  by = λ f.
      total-map f visible (joins xs ys)
      ∙ total-joins (λ k. f (visible k)) xs ys
      ∙ total_same _ _ xs (λ a i. total_same _ _ ys (λ b j. weigh_shown f (joined a b) ∙ ap (weigh f) (visible_joined a b (v a b i j)))
      ∙ sym (total-map (λ b. weigh f (joined (visible a) b)) visible ys))
      ∙ sym (total-joins f (map visible xs) (map visible ys) ∙ total-map (λ a. total (λ b. weigh f (joined a b)) (map visible ys)) visible xs);
}

-- an expression over variables has the same value
value_visible : (e : Expr) (row : Row) → AreVariables (outside e) → value_under e (visible row) ≡ value_under e row
value_visible e row h = same_value e (visible row) row (λ name is.
    value-visible row name ∙ ap (λ b. cond b (value row name) None) (h name (has_name-to (outside e) name is)))

pub filter_visible : (e : Expr) (xs : List Row) → AreVariables (outside e) → SameBag (map visible (filter (is_true_under e) xs)) (filter (is_true_under e) (map visible xs))
filter_visible e xs h = record {
  by = λ f.
      total-map f visible (filter (is_true_under e) xs) ∙ total-filter (λ x. f (visible x)) (is_true_under e) xs
      ∙ total_same _ _ xs (λ x _. ap (λ o. cond (unwrap_or (as_truth o) false) (f (visible x)) 0) (sym (value_visible e x h)))
      ∙ sym (total-filter f (is_true_under e) (map visible xs) ∙ total-map (λ x. cond (is_true_under e x) (f x) 0) visible xs);
}

inserted_visible : (row : Row) (name : Name) (t : Term) → is_variable name ≡ true → visible (finmap.insert row name t) ≡ finmap.insert (visible row) name t
inserted_visible row name t v = same_row _ _ (λ n.
    value-visible (finmap.insert row name t) n
    ∙ ap (λ w. cond (is_variable n) w None) (value-insert row name n t)
    ∙ elim (same_name n name) as (λ b. same_name n name ≡ b → cond (is_variable n) (cond b (Some t) (value row n)) None ≡ cond b (Some t) (cond (is_variable n) (value row n) None)) [
      | true ↦ λ s. ap (λ b. cond b (Some t) None) (ap is_variable (names_same n name s) ∙ v)
      | false ↦ λ s. refl
    ] refl
    ∙ ap (cond (same_name n name) (Some t)) (sym (value-visible row n))
    ∙ sym (value-insert (visible row) name n t))

with_visible : (row : Row) (name : Name) (o : Option Term) → is_variable name ≡ true → visible (with_value name o row) ≡ with_value name o (visible row)
with_visible row name None v = refl
with_visible row name (Some t) v = inserted_visible row name t v

pub extended_visible : (row : Row) (name : Name) (e : Expr) → is_variable name ≡ true → AreVariables (outside e) → visible (extended_by name e row) ≡ extended_by name e (visible row)
extended_visible row name e v h = with_visible row name (value_under e row) v ∙ ap (λ o. with_value name o (visible row)) (sym (value_visible e row h))

pub map_visible : (g : Row → Row) (xs : List Row) → ((x : Row) → visible (g x) ≡ g (visible x)) → SameBag (map visible (map g xs)) (map g (map visible xs))
map_visible g xs h = record {
  by = λ f.
      total-map f visible (map g xs) ∙ total-map (λ x. f (visible x)) g xs
      ∙ total_same _ _ xs (λ x _. ap f (h x))
      ∙ sym (total-map f g (map visible xs) ∙ total-map (λ x. f (g x)) visible xs);
}

-- a name that a value was put under, or that was there
pub with_uses : (row : Row) (v name : Name) (o : Option Term) (t : Term) → value (with_value v o row) name ≡ Some t → (value row name ≡ Some t) ⊎ (v ≡ name)
with_uses row v name None t e = inl e
with_uses row v name (Some x) t e =
    elim (same_name name v) as (λ b. same_name name v ≡ b → cond b (Some x) (value row name) ≡ Some t → (value row name ≡ Some t) ⊎ (v ≡ name)) [
      | true ↦ λ s _. inr (sym (names_same name v s))
      | false ↦ λ s g. inl g
    ] refl (sym (value-insert row v name x) ∙ e)

none_either : (b : Bool) → ◌≡◌ {A = Option Term} (cond b None None) None
none_either true = refl
none_either false = refl

-- a row that binds variables alone
pub all_visible : (row : Row) → ((name : Name) (t : Term) → value row name ≡ Some t → is_variable name ≡ true) → visible row ≡ row
all_visible row v = same_row (visible row) row (λ n. at n (value row n) refl)
  where
    at : (n : Name) (o : Option Term) → value row n ≡ o → value (visible row) n ≡ value row n
    at n (Some t) e = visible_from row n t (v n t e) e ∙ sym e
    at n None e = value-visible row n ∙ ap (λ w. cond (is_variable n) w None) e ∙ none_either (is_variable n) ∙ sym e
