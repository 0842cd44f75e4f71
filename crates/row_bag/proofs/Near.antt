-- Only rows of the same hash are compatible.
use Rattle.std.proofs.Common.{◌≡◌, ℕ, Bool, true, false, cond, List, [], ◌∷◌, ◌++◌, Option, Some, None, refl, sym, ap, ◌∙◌, inl, inr}
use Rattle.std.specs.Prelude.{filter, ◌==◌, ◌&&◌, ◌||◌, is_some, fold}
use Rattle.std.specs.List.{filter_map, cons_option, list_any, list_all}
use Rattle.std.specs.Hash as fed
use Rattle.std.specs.Hash.FoldHasher as folding
use Rattle.term_core.specs.declared.term.Term.{Term}
use Rattle.term_core.specs.Bags.{In}
use Rattle.term_core.specs.Mappings.{Name, Row, value, merge, joined, are_compatible}
use Rattle.term_core.specs.OrderLaws.{hash_writes}
use Rattle.std.specs.Cmp.{nat_eq_equiv}
use Rattle.term_core.proofs.Merges.{list_all-at, compatible_to, not_both}
use Rattle.sparql_value.specs.Solutions.{share_name, rules_out}
use Rattle.row_bag.specs.Hashes.{fed_values, hash_at, of_hash}
use Rattle.row_bag.specs.Rows.{are_bound}

-- what is left out gives nothing
pub filter_map-kept : {X Y : Type 0} (h : X → Option Y) (p : X → Bool) (xs : List X) → ((x : X) → In xs x → p x ≡ false → h x ≡ None) → filter_map h (filter p xs) ≡ filter_map h xs
filter_map-kept h p [] e = refl
filter_map-kept h p (x ∷ xs) e =
    let rest = filter_map-kept h p xs (λ y i. e y (inr i)) in
    elim (p x) as (λ b. p x ≡ b → filter_map h (cond b (x ∷ filter p xs) (filter p xs)) ≡ cons_option (h x) (filter_map h xs)) [
      | true ↦ λ _. ap (cons_option (h x)) rest
      | false ↦ λ d. rest ∙ ap (λ o. cons_option o (filter_map h xs)) (sym (e x (inl refl) d))
    ] refl

pub list_any-kept : {X : Type 0} (q p : X → Bool) (xs : List X) → ((x : X) → In xs x → p x ≡ false → q x ≡ false) → list_any q (filter p xs) ≡ list_any q xs
list_any-kept q p [] e = refl
list_any-kept q p (x ∷ xs) e =
    let rest = list_any-kept q p xs (λ y i. e y (inr i)) in
    elim (p x) as (λ b. p x ≡ b → list_any q (cond b (x ∷ filter p xs) (filter p xs)) ≡ q x || list_any q xs) [
      | true ↦ λ _. ap (λ b. q x || b) rest
      | false ↦ λ d. rest ∙ ap (λ b. b || list_any q xs) (sym (e x (inl refl) d))
    ] refl

-- a name that is bound in all rows is bound in each
bound_at : (names : List Name) (rows : List Row) (row : Row) (name : Name) → are_bound names rows ≡ true → In rows row → In names name → is_some (value row name) ≡ true
bound_at names rows row name e i j =
    list_all-at (λ r. is_some (value r name)) rows row (list_all-at (λ n. list_all (λ r. is_some (value r n)) rows) names name e j) i

-- compatible rows have the same values at names that both bind
one_value : (a b : Row) (name : Name) → are_compatible a b ≡ true → is_some (value a name) ≡ true → is_some (value b name) ≡ true → value b name ≡ value a name
one_value a b name h p q = at (value a name) (value b name) refl refl p q
  where
    at : (x y : Option Term) → value a name ≡ x → value b name ≡ y → is_some x ≡ true → is_some y ≡ true → value b name ≡ value a name
    at None y d e p q = cc
    at (Some s) None d e p q = cc
    at (Some s) (Some t) d e p q = e ∙ ap Some (sym (compatible_to a b name s t h d e)) ∙ sym d

same_fed : (names : List Name) (a b : Row) → ((name : Name) → In names name → value b name ≡ value a name) → fed_values names b ≡ fed_values names a
same_fed [] a b h = refl
same_fed (name ∷ names) a b h =
    ap (λ o. fed.option hash_writes o ++ fed_values names b) (h name (inl refl)) ∙ ap (λ w. fed.option hash_writes (value a name) ++ w) (same_fed names a b (λ n i. h n (inr i)))

-- compatible rows have the same hash
pub same_hash : (names : List Name) (xs ys : List Row) (a b : Row) → are_bound names xs ≡ true → are_bound names ys ≡ true → In xs a → In ys b → are_compatible a b ≡ true → hash_at names b ≡ hash_at names a
unfolding hash_at
same_hash names xs ys a b d e i j h =
    ap (λ w. folding.finish (fold folding.write folding.initial w))
    (same_fed names a b (λ name k. one_value a b name h (bound_at names xs a name d i k) (bound_at names ys b name e j k)))

-- a test that is not true is false
pub not_true : (b : Bool) → (b ≡ true → ⊥) → b ≡ false
not_true true h = absurd (h refl)
not_true false h = refl

pub not_apart : (n m : ℕ) → n ≡ m → (n == m) ≡ false → ⊥
not_apart n m e d = not_both (n == m) (ap (λ k. k == m) e ∙ nat_eq_equiv.refl m) d

far : (names : List Name) (xs ys : List Row) (a b : Row) → are_bound names xs ≡ true → are_bound names ys ≡ true → In xs a → In ys b → (hash_at names b == hash_at names a) ≡ false → are_compatible a b ≡ false
far names xs ys a b d e i j f = not_true (are_compatible a b) (λ h. not_apart _ _ (same_hash names xs ys a b d e i j h) f)

-- the merges with rows of the same hash are all merges
pub near_joined : (names : List Name) (xs ys : List Row) (a : Row) → are_bound names xs ≡ true → are_bound names ys ≡ true → In xs a → filter_map (joined a) (of_hash (hash_at names) (hash_at names a) ys) ≡ filter_map (joined a) ys
near_joined names xs ys a d e i =
    filter_map-kept (joined a) (λ row. hash_at names row == hash_at names a) ys
    (λ b j f. ap (λ w. cond w (Some (merge a b)) None) (far names xs ys a b d e i j f))

-- what is ruled out is ruled out by a row of the same hash
pub near_ruled : (names : List Name) (xs ys : List Row) (a : Row) → are_bound names xs ≡ true → are_bound names ys ≡ true → In xs a
    → list_any (rules_out a) (of_hash (hash_at names) (hash_at names a) ys) ≡ list_any (rules_out a) ys
near_ruled names xs ys a d e i =
    list_any-kept (rules_out a) (λ row. hash_at names row == hash_at names a) ys
    (λ b j f. ap (λ w. w && share_name a b) (far names xs ys a b d e i j f))
