-- One more row of the left side of a join or a difference.
use Rattle.std.proofs.Common.{◌≡◌, ℕ, ◌+◌, ◌<◌, Bool, true, false, cond, List, [], ◌∷◌, ◌++◌, length, take, get_or, is_some, refl, sym, ap, ◌∙◌, inl, inr}
use Rattle.std.specs.Prelude.{filter, ◌&&◌, ◌||◌, not}
use Rattle.std.specs.List.{filter_map, list_any}
use Rattle.std.specs.FinMap as finmap
use Rattle.std.proofs.lemmas.List.Elements.{filter-append}
use Rattle.term_core.specs.Bags.{In}
use Rattle.term_core.specs.Mappings.{Name, Row, value, joined, joins, are_compatible}
use Rattle.row_bag.specs.Hashes.{hash_at, of_hash}
use Rattle.row_bag.specs.Rows.{are_bound, BindsAll}
use Rattle.sparql_value.specs.Solutions.{share_name, rules_out, differences}
use Rattle.row_bag.proofs.Near.{near_joined, near_ruled}
use Rattle.row_bag.proofs.Steps.{In-get_or, take_next, flat_map_next}

pub join_step : (names : List Name) (xs ys : List Row) (i : ℕ) (a : Row) (out found next : List Row)
    → i < length xs → a ≡ get_or xs i a → are_bound names xs ≡ true → are_bound names ys ≡ true
    → out ≡ joins (take i xs) ys → found ≡ of_hash (hash_at names) (hash_at names a) ys → next ≡ out ++ filter_map (joined a) found
    → next ≡ joins (take (i + 1) xs) ys
join_step names xs ys i a out found next p q d e h f n =
    n ∙ ap (λ w. w ++ filter_map (joined a) found) h
    ∙ ap (λ w. joins (take i xs) ys ++ w) (ap (filter_map (joined a)) f ∙ near_joined names xs ys a d e (In-get_or xs i a p q))
    ∙ sym (flat_map_next (λ a. filter_map (joined a) ys) xs i a p q)

either_part : (a b : Bool) → a || b ≡ false → (a ≡ false) × (b ≡ false)
either_part true b e = cc
either_part false b e = (refl, e)

-- what no element meets
none_meets : {X : Type 0} (p : X → Bool) (xs : List X) → ((x : X) → In xs x → p x ≡ false) → list_any p xs ≡ false
none_meets p [] h = refl
none_meets p (x ∷ xs) h = ap (λ b. b || list_any p xs) (h x (inl refl)) ∙ none_meets p xs (λ y i. h y (inr i))

none_met : {X : Type 0} (p : X → Bool) (xs : List X) (x : X) → list_any p xs ≡ false → In xs x → p x ≡ false
none_met p [] x e i = absurd i
none_met p (y ∷ xs) x e (inl s) = ap p (sym s) ∙ (either_part (p y) _ e).0
none_met p (y ∷ xs) x e (inr i) = none_met p xs x (either_part (p y) _ e).1 i

never : (b : Bool) → b && false ≡ false
never true = refl
never false = refl

-- a row that shares no name with all names shares none with a row
no_share : (a bound : Row) (ys : List Row) (b : Row) → BindsAll bound ys → In ys b → share_name a bound ≡ false → share_name a b ≡ false
no_share a bound ys b h i e =
    none_meets (λ name. is_some (value b name)) (finmap.keys a)
    (λ name j. none_met (λ row. is_some (value row name)) ys b (sym (h name) ∙ none_met (λ name. is_some (value bound name)) (finmap.keys a) name e j) i)

-- a row is ruled out only where it has a name of the other side
pub ruled_by_name : (a bound : Row) (ys : List Row) → BindsAll bound ys → share_name a bound && list_any (rules_out a) ys ≡ list_any (rules_out a) ys
ruled_by_name a bound ys h =
    elim (share_name a bound) as (λ s. share_name a bound ≡ s → s && list_any (rules_out a) ys ≡ list_any (rules_out a) ys) [
      | true ↦ λ s. refl
      | false ↦ λ s. sym (none_meets (rules_out a) ys (λ b i. ap (λ c. are_compatible a b && c) (no_share a bound ys b h i s) ∙ never (are_compatible a b)))
    ] refl

pub minus_step : (names : List Name) (xs ys : List Row) (i : ℕ) (a bound : Row) (out found next : List Row) (ruled : Bool)
    → i < length xs → a ≡ get_or xs i a → are_bound names xs ≡ true → are_bound names ys ≡ true → BindsAll bound ys
    → out ≡ differences (take i xs) ys → found ≡ of_hash (hash_at names) (hash_at names a) ys
    → ruled ≡ share_name a bound && list_any (rules_out a) found → next ≡ out ++ cond (not ruled) (a ∷ []) []
    → next ≡ differences (take (i + 1) xs) ys
minus_step names xs ys i a bound out found next ruled p q d e g h f o n =
    let same : ruled ≡ list_any (rules_out a) ys =
    o ∙ ap (λ w. share_name a bound && list_any (rules_out a) w) f
    ∙ ap (λ b. share_name a bound && b) (near_ruled names xs ys a d e (In-get_or xs i a p q)) ∙ ruled_by_name a bound ys g in
    n ∙ ap (λ w. w ++ cond (not ruled) (a ∷ []) []) h
    ∙ ap (λ b. differences (take i xs) ys ++ cond (not b) (a ∷ []) []) same
    ∙ sym (filter-append (λ a. not (list_any (rules_out a) ys)) (take i xs) (a ∷ []))
    ∙ ap (λ w. differences w ys) (sym (take_next xs i a p q))
