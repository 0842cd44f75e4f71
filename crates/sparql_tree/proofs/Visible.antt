-- Rows restricted to the variables.
use Rattle.std.proofs.Common.{◌≡◌, true, false, cond, List, [], ◌∷◌, map, Some, None, refl, sym, ap, ◌∙◌, inl, inr, eqb-true}
use Rattle.std.specs.Prelude.{ℕ, Bool, ◌==◌, ◌&&◌, not}
use Rattle.std.specs.FinMap as finmap
use Rattle.term_core.specs.declared.term.Term.{Term}
use Rattle.term_core.specs.OrderLaws.{same_bytes}
use Rattle.term_core.specs.Bags.{In}
use Rattle.term_core.specs.Mappings.{Name, Row, value, has_name, restricted}
use Rattle.term_core.proofs.Merges.{not_some, same_row, has_name-to, value-restricted}
use Rattle.sparql_tree.specs.Bgp.{is_variable, visible}
use Rattle.sparql_tree.specs.Laws.{AreApart}

-- what a row has when it is restricted to the variables
pub value-visible : (row : Row) (name : Name) → value (visible row) name ≡ cond (is_variable name) (value row name) None
value-visible row name = finmap.get-retain_keys row is_variable name (λ x t. ap is_variable (sym (same_bytes name x t)))

pub visible_to : (row : Row) (name : Name) (t : Term) → value (visible row) name ≡ Some t → (is_variable name ≡ true) × (value row name ≡ Some t)
visible_to row name t e =
    elim (is_variable name) as (λ b. is_variable name ≡ b → cond b (value row name) None ≡ Some t → (is_variable name ≡ true) × (value row name ≡ Some t)) [
      | true ↦ λ h s. (h, s)
      | false ↦ λ h s. absurd (not_some t (sym s))
    ] refl (sym (value-visible row name) ∙ e)

pub visible_from : (row : Row) (name : Name) (t : Term) → is_variable name ≡ true → value row name ≡ Some t → value (visible row) name ≡ Some t
visible_from row name t v e = value-visible row name ∙ ap (λ b. cond b (value row name) None) v ∙ e

-- where all names are variables, the restriction to the variables changes nothing
pub restricted_visible : (names : List Name) (row : Row) → ((name : Name) → In names name → is_variable name ≡ true) → restricted names row ≡ restricted names (visible row)
restricted_visible names row v = same_row _ _ (λ n.
    value-restricted names row n
    ∙ elim (has_name names n) as (λ b. has_name names n ≡ b → cond b (value row n) None ≡ cond b (value (visible row) n) None) [
      | true ↦ λ h. sym (value-visible row n ∙ ap (λ b. cond b (value row n) None) (v n (has_name-to names n h)))
      | false ↦ λ h. refl
    ] refl
    ∙ sym (value-restricted names (visible row) n))

-- the same of rows in a list
pub map_shown : (names : List Name) (xs : List Row) → ((name : Name) → In names name → is_variable name ≡ true) → map (restricted names) xs ≡ map (restricted names) (map visible xs)
map_shown names [] v = refl
map_shown names (x ∷ xs) v = λ i. restricted_visible names x v i ∷ map_shown names xs v i

-- names of variables and of blank nodes are apart
variable_name : (name : Name) → (In name 58 → ⊥) → is_variable name ≡ true
variable_name [] h = refl
variable_name (a ∷ []) h = refl
variable_name (a ∷ b ∷ name) h =
    elim (b == 58) as (λ c. b == 58 ≡ c → not ((a == 95) && c) ≡ true) [
      | true ↦ λ e. absurd (h (inr (inl (same_number b 58 e))))
      | false ↦ λ e. never (a == 95)
    ] refl
  where
    never : (c : Bool) → not (c && false) ≡ true
    never true = refl
    never false = refl

    same_number : (m n : ℕ) → m == n ≡ true → m ≡ n
    same_number m n e = eqb-true m n e

-- the law of names
pub apart : AreApart
apart = record { variable = variable_name; label = λ label. refl }
