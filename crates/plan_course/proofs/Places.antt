-- Places in lists that grow at their ends, and look-ups of names.
use Rattle.std.proofs.Common.{◌≡◌, ℕ, zero, suc, true, false, cond, List, [], ◌∷◌, ◌++◌, length, Option, Some, None, refl, sym, ap, ◌∙◌, inl, inr, ⊎_elim}
use Rattle.std.specs.Prelude.{◌⊎◌, slice_get}
use Rattle.std.specs.Str.{bytes_eq}
use Rattle.std.proofs.lemmas.Slice.Eq.{bytes_eq-Decides}
use Rattle.term_core.specs.Mappings.{Name}
use Rattle.term_core.proofs.Merges.{Some_same}

pub push_left : {X : Type 0} (xs zs : List X) (k : ℕ) (y : X) → slice_get xs k ≡ Some y → slice_get (xs ++ zs) k ≡ Some y
push_left [] zs k y e = absurd (cc e)
push_left (x ∷ xs) zs zero y e = e
push_left (x ∷ xs) zs (suc k) y e = push_left xs zs k y e

pub push_last : {X : Type 0} (xs : List X) (x : X) → slice_get (xs ++ x ∷ []) (length xs) ≡ Some x
push_last [] x = refl
push_last (y ∷ xs) x = push_last xs x

pub push_cases : {X : Type 0} (xs : List X) (x : X) (k : ℕ) (y : X) → slice_get (xs ++ x ∷ []) k ≡ Some y → (slice_get xs k ≡ Some y) ⊎ ((k ≡ length xs) × (x ≡ y))
push_cases [] x zero y e = inr (refl, Some_same x y e)
push_cases [] x (suc k) y e = absurd (cc e)
push_cases (z ∷ xs) x zero y e = inl e
push_cases (z ∷ xs) x (suc k) y e = ⊎_elim (λ l. inl l) (λ r. inr (ap suc r.0, r.1)) (push_cases xs x k y e)

-- a look-up to which the next name was added tells names
pub named_more : (names : List Name) (get : Name → Option ℕ) (key name : Name) (count : ℕ) → key ≡ name → count ≡ length names
    → ((t : Name) (k : ℕ) → get t ≡ Some k → slice_get names k ≡ Some t)
    → (t : Name) (k : ℕ) → cond (bytes_eq key t) (Some count) (get t) ≡ Some k → slice_get (names ++ name ∷ []) k ≡ Some t
named_more names get key name count same counted named t k e =
    elim (bytes_eq key t) as (λ b. bytes_eq key t ≡ b → cond b (Some count) (get t) ≡ Some k → slice_get (names ++ name ∷ []) k ≡ Some t) [
      | true ↦ λ is d.
          let at : k ≡ length names = sym (Some_same count k d) ∙ counted in
          let here : name ≡ t = sym same ∙ (bytes_eq-Decides key t).0 is in
          ap (slice_get (names ++ name ∷ [])) at ∙ push_last names name ∙ ap Some here
      | false ↦ λ is d. push_left names (name ∷ []) k t (named t k d)
    ] refl e

missing_other : (get : Name → Option ℕ) (key name t : Name) (k : ℕ) → key ≡ name → get name ≡ None → get t ≡ Some k → bytes_eq key t ≡ true → ⊥
missing_other get key name t k same missing e is =
    let here : name ≡ t = sym same ∙ (bytes_eq-Decides key t).0 is in
    let none : get t ≡ None = ap get (sym here) ∙ missing in
    let clash : Some k ≡ None = sym e ∙ none in
    cc clash

-- and all of them
pub told_more : (names : List Name) (get : Name → Option ℕ) (key name : Name) (count : ℕ) → key ≡ name → count ≡ length names → get name ≡ None
    → ((t : Name) (k : ℕ) → slice_get names k ≡ Some t → get t ≡ Some k)
    → (t : Name) (k : ℕ) → slice_get (names ++ name ∷ []) k ≡ Some t → cond (bytes_eq key t) (Some count) (get t) ≡ Some k
told_more names get key name count same counted missing told t k e =
    ⊎_elim
    (λ l. elim (bytes_eq key t) as (λ b. bytes_eq key t ≡ b → cond b (Some count) (get t) ≡ Some k) [
      | true ↦ λ is. absurd (missing_other get key name t k same missing (told t k l) is)
      | false ↦ λ is. told t k l
    ] refl)
    (λ r. ap (λ b. cond b (Some count) (get t)) ((bytes_eq-Decides key t).1 (same ∙ r.1)) ∙ ap Some (counted ∙ sym r.0))
    (push_cases names name k t e)
