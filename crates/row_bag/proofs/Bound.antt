-- The names that rows bind.
use Rattle.std.proofs.Common.{◌≡◌, ℕ, ◌+◌, ◌<◌, Bool, true, false, cond, List, [], ◌∷◌, ◌++◌, map, length, take, get_or, is_some, Option, Some, None, refl, sym, ap, ◌∙◌, inl, inr}
use Rattle.std.specs.Prelude.{◌&&◌, ◌||◌}
use Rattle.std.specs.List.{list_any}
use Rattle.std.specs.FinMap as finmap
use Rattle.std.proofs.lemmas.Cmp.{nat_list_cmp_total}
use Rattle.std.proofs.lemmas.List.{map-append}
use Rattle.term_core.specs.declared.term.Term.{Term}
use Rattle.term_core.specs.Order.{bytes_cmp}
use Rattle.term_core.specs.Mappings.{Name, Row, value, same_name, has_name}
use Rattle.term_core.proofs.Merges.{names_same}
use Rattle.row_bag.specs.Rows.{BindsAll}
use Rattle.row_bag.proofs.Steps.{take_next}

or_nothing : (b : Bool) → b || false ≡ b
or_nothing true = refl
or_nothing false = refl

or_swap : (a b : Bool) → a || b ≡ b || a
or_swap true true = refl
or_swap true false = refl
or_swap false true = refl
or_swap false false = refl

or_assoc : (a b c : Bool) → (a || b) || c ≡ a || (b || c)
or_assoc true b c = refl
or_assoc false b c = refl

list_any-append : {X : Type 0} (p : X → Bool) (xs ys : List X) → list_any p (xs ++ ys) ≡ list_any p xs || list_any p ys
list_any-append p [] ys = refl
list_any-append p (x ∷ xs) ys = ap (λ b. p x || b) (list_any-append p xs ys) ∙ sym (or_assoc (p x) (list_any p xs) (list_any p ys))

-- a name that is set is bound, and no other changes
pub set_binds : (row : Row) (name : Name) (term : Term) (q : Name) → is_some (value (finmap.insert row name term) q) ≡ is_some (value row q) || same_name q name
set_binds row name term q =
    ap is_some (finmap.get-insert nat_list_cmp_total row name term q)
    ∙ elim (same_name q name) as (λ b. is_some (cond b (Some term) (value row q)) ≡ is_some (value row q) || b) [
      | true ↦ sym (or_swap (is_some (value row q)) true)
      | false ↦ sym (or_nothing (is_some (value row q)))
    ]

-- a bound name need not be set
pub bound_binds : (row : Row) (name : Name) → is_some (value row name) ≡ true → (q : Name) → is_some (value row q) ≡ is_some (value row q) || same_name q name
bound_binds row name e q =
    elim (same_name q name) as (λ b. same_name q name ≡ b → is_some (value row q) ≡ is_some (value row q) || b) [
      | true ↦ λ s. let bound : is_some (value row q) ≡ true = ap (λ w. is_some (value row w)) (names_same q name s) ∙ e in bound ∙ sym (ap (λ b. b || true) bound)
      | false ↦ λ s. sym (or_nothing (is_some (value row q)))
    ] refl

-- no entries bind nothing more
pub none_bound : (row : Row) (q : Name) → is_some (value row q) ≡ is_some (value row q) || has_name (map (λ (e : Name × Term). e.0) []) q
none_bound row q = sym (or_nothing (is_some (value row q)))

-- one more entry
pub entry_bound : (es : List (Name × Term)) (i : ℕ) (e : Name × Term) (old now next : Row) → i < length es → e ≡ get_or es i e
    → ((q : Name) → is_some (value now q) ≡ is_some (value old q) || has_name (map (λ e. e.0) (take i es)) q)
    → ((q : Name) → is_some (value next q) ≡ is_some (value now q) || same_name q e.0)
    → (q : Name) → is_some (value next q) ≡ is_some (value old q) || has_name (map (λ e. e.0) (take (i + 1) es)) q
entry_bound es i e old now next p d h n q =
    n q ∙ ap (λ b. b || same_name q e.0) (h q)
    ∙ or_assoc (is_some (value old q)) (has_name (map (λ e. e.0) (take i es)) q) (same_name q e.0)
    ∙ ap (λ b. is_some (value old q) || b)
    (sym (ap (λ w. has_name (map (λ e. e.0) w) q) (take_next es i e p d)
    ∙ ap (λ w. has_name w q) (map-append (λ e. e.0) (take i es) (e ∷ []))
    ∙ list_any-append (same_name q) (map (λ e. e.0) (take i es)) (e.0 ∷ [])
    ∙ ap (λ b. has_name (map (λ e. e.0) (take i es)) q || b) (or_nothing (same_name q e.0))))

pub empty_binds : BindsAll finmap.empty []
empty_binds q = ap is_some (finmap.get-empty bytes_cmp q)

-- one more row
pub row_bound : (rows : List Row) (i : ℕ) (row : Row) (now next : Row) → i < length rows → row ≡ get_or rows i row → BindsAll now (take i rows)
    → ((q : Name) → is_some (value next q) ≡ is_some (value now q) || has_name (finmap.keys row) q) → BindsAll next (take (i + 1) rows)
row_bound rows i row now next p d h n q =
    n q ∙ ap (λ b. b || has_name (finmap.keys row) q) (h q)
    ∙ ap (λ b. list_any (λ r. is_some (value r q)) (take i rows) || b) (sym (finmap.contains_key-keys row q))
    ∙ sym (ap (list_any (λ r. is_some (value r q))) (take_next rows i row p d)
    ∙ list_any-append (λ r. is_some (value r q)) (take i rows) (row ∷ [])
    ∙ ap (λ b. list_any (λ r. is_some (value r q)) (take i rows) || b) (or_nothing (is_some (value row q))))
