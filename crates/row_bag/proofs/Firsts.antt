-- The first of equal rows, found by a hash.
use Rattle.std.proofs.Common.{◌≡◌, ℕ, ◌+◌, ◌<◌, Bool, true, false, cond, List, [], ◌∷◌, ◌++◌, length, take, get_or, refl, sym, ap, ◌∙◌, ⊎_elim, inl, inr}
use Rattle.std.specs.Prelude.{filter, not, ◌&&◌, ◌==◌}
use Rattle.std.specs.Cmp.{nat_eq_equiv}
use Rattle.term_core.specs.Bags.{In, distinct, is_new}
use Rattle.term_core.specs.Mappings.{Row}
use Rattle.term_core.proofs.Merges.{not_both}
use Rattle.term_core.proofs.Distinct.{In-distinct, from_In-distinct, distinct-append}
use Rattle.row_bag.specs.Hashes.{whole_hash, of_hash}
use Rattle.row_bag.specs.Rows.{same_row}
use Rattle.row_bag.proofs.Equal.{rows_same, row_itself}
use Rattle.row_bag.proofs.Near.{not_true, not_apart}
use Rattle.row_bag.proofs.Steps.{take_next}

-- what is left out is not equal
is_new-kept : {X : Type 0} (same : X → X → Bool) (p : X → Bool) (xs : List X) (x : X) → ((y : X) → p y ≡ false → same y x ≡ false) → is_new same (filter p xs) x ≡ is_new same xs x
is_new-kept same p [] x h = refl
is_new-kept same p (y ∷ xs) x h =
    let rest = is_new-kept same p xs x h in
    elim (p y) as (λ b. p y ≡ b → is_new same (cond b (y ∷ filter p xs) (filter p xs)) x ≡ not (same y x) && is_new same xs x) [
      | true ↦ λ _. ap (λ b. not (same y x) && b) rest
      | false ↦ λ d. rest ∙ ap (λ b. not b && is_new same xs x) (sym (h y d))
    ] refl

-- equal rows have one hash, so a row is new where it is new in its bucket
pub near_new : (done : List Row) (x : Row) → is_new same_row (of_hash whole_hash (whole_hash x) done) x ≡ is_new same_row done x
near_new done x = is_new-kept same_row (λ row. whole_hash row == whole_hash x) done x
    (λ y d. not_true (same_row y x) (λ e. not_apart (whole_hash y) (whole_hash x) (ap whole_hash (rows_same y x e)) d))

same_answer : (a b : Bool) → (a ≡ true → b ≡ true) → (b ≡ true → a ≡ true) → a ≡ b
same_answer true b f g = sym (f refl)
same_answer false true f g = g refl
same_answer false false f g = refl

new_out : (xs : List Row) (x : Row) → is_new same_row xs x ≡ true → In xs x → ⊥
new_out [] x e i = i
new_out (y ∷ xs) x e i = ⊎_elim
    (λ s. met (same_row y x) _ e (ap (same_row y) (sym s) ∙ row_itself y))
    (λ j. new_out xs x (later (not (same_row y x)) _ e) j) i
  where
    met : (a b : Bool) → not a && b ≡ true → a ≡ true → ⊥
    met true b e d = cc
    met false b e d = cc

    later : (a b : Bool) → a && b ≡ true → b ≡ true
    later true b e = e
    later false b e = cc

out_new : (xs : List Row) (x : Row) → (In xs x → ⊥) → is_new same_row xs x ≡ true
out_new [] x h = refl
out_new (y ∷ xs) x h =
    ap (λ b. not b && is_new same_row xs x) (not_true (same_row y x) (λ e. h (inl (rows_same y x e)))) ∙ out_new xs x (λ i. h (inr i))

-- a row is new where it is new among those that are kept
new_kept : (xs : List Row) (x : Row) → is_new same_row xs x ≡ is_new same_row (distinct same_row xs) x
new_kept xs x = same_answer _ _
    (λ e. out_new (distinct same_row xs) x (λ i. new_out xs x e (from_In-distinct same_row rows_same row_itself xs x i)))
    (λ e. out_new xs x (λ i. new_out (distinct same_row xs) x e (In-distinct same_row rows_same row_itself xs x i)))

nothing_more : (xs : List Row) → xs ≡ xs ++ []
nothing_more [] = refl
nothing_more (x ∷ xs) = ap (λ w. x ∷ w) (nothing_more xs)

-- a row is added where it is new in its bucket, and only there
in_bucket : (done found : List Row) (x : Row) (b : Bool) → found ≡ of_hash whole_hash (whole_hash x) done → b ≡ is_new same_row found x → is_new same_row done x ≡ b
in_bucket done found x b f e = sym (near_new done x) ∙ ap (λ w. is_new same_row w x) (sym f) ∙ sym e

pub added : (done found next : List Row) (x : Row) (b : Bool) → found ≡ of_hash whole_hash (whole_hash x) done → b ≡ is_new same_row found x → b ≡ true
    → next ≡ done ++ x ∷ [] → next ≡ done ++ cond (is_new same_row done x) (x ∷ []) []
added done found next x b f e t n = n ∙ ap (λ w. done ++ cond w (x ∷ []) []) (sym (in_bucket done found x b f e ∙ t))

pub not_added : (done found : List Row) (x : Row) (b : Bool) → found ≡ of_hash whole_hash (whole_hash x) done → b ≡ is_new same_row found x → b ≡ false
    → done ≡ done ++ cond (is_new same_row done x) (x ∷ []) []
not_added done found x b f e t = nothing_more done ∙ ap (λ w. done ++ cond w (x ∷ []) []) (sym (in_bucket done found x b f e ∙ t))

-- one more row
pub first_next : (rows : List Row) (i : ℕ) (row : Row) (out next : List Row) → i < length rows → row ≡ get_or rows i row
    → out ≡ distinct same_row (take i rows) → next ≡ out ++ cond (is_new same_row out row) (row ∷ []) [] → next ≡ distinct same_row (take (i + 1) rows)
first_next rows i row out next p d h n =
    n ∙ ap (λ w. w ++ cond (is_new same_row w row) (row ∷ []) []) h
    ∙ ap (λ b. distinct same_row (take i rows) ++ cond b (row ∷ []) []) (sym (new_kept (take i rows) row))
    ∙ sym (ap (distinct same_row) (take_next rows i row p d) ∙ distinct-append same_row (take i rows) (row ∷ []))
