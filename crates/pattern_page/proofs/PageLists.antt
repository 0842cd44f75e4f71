-- Steps taken of a list of entries.
use Rattle.std.proofs.Common.{◌≡◌, ℕ, zero, suc, ◌+◌, ◌≤◌, List, [], ◌∷◌, ◌++◌, length, take, drop, Option, Some, refl, sym, ap, ◌∙◌, subst, arith}
use Rattle.std.specs.Prelude.{slice_get, min}
use Rattle.term_core.specs.Mappings.{Row}
use Rattle.term_core.proofs.Merges.{Some_same}
use Rattle.plan_tree.specs.Trace.{Entries, rows_of}
use Rattle.plan_tree.proofs.Traces.{rows_of-append}
use Rattle.pattern_page.specs.PagesOf.{AreTaken}

at_suc : (P : ℕ → Type 0) (k : ℕ) → P (suc k) → P (k + 1)
at_suc P k h = let e : suc k ≡ k + 1 = omega arith in subst P e h

drop_at_suc : {X : Type 0} (xs : List X) (k : ℕ) (x : X) → slice_get xs k ≡ Some x → drop k xs ≡ x ∷ drop (suc k) xs
drop_at_suc [] k x e = cc
drop_at_suc (y ∷ xs) zero x e = ap (λ w. w ∷ xs) (Some_same y x e)
drop_at_suc (y ∷ xs) (suc k) x e = drop_at_suc xs k x e

-- the element at a place begins what is left there
pub drop_at : {X : Type 0} (xs : List X) (k : ℕ) (x : X) → slice_get xs k ≡ Some x → drop k xs ≡ x ∷ drop (k + 1) xs
drop_at xs k x e = at_suc (λ n. drop k xs ≡ x ∷ drop n xs) k (drop_at_suc xs k x e)

-- what is left and what was taken, one element further
record IsFurther {X : Type 0} (xs : List X) (k : ℕ) (x : X) (rest : List X) (n : ℕ) : Type 0 where
  room : n ≤ length xs
  taken : take n xs ≡ take k xs ++ x ∷ []
  left : rest ≡ drop n xs

further_suc : {X : Type 0} (xs : List X) (k : ℕ) (x : X) (rest : List X) → x ∷ rest ≡ drop k xs → IsFurther xs k x rest (suc k)
further_suc [] zero x rest e = cc
further_suc [] (suc k) x rest e = cc
further_suc (y ∷ xs) zero x rest e = record { room = omega arith; taken = ap (λ w. w ∷ []) (sym (Some_same x y (ap (λ l. slice_get l 0) e))); left = ap (drop 1) e }
further_suc (y ∷ xs) (suc k) x rest e =
    let f = further_suc xs k x rest e in
    record { room = omega (arith, f.room); taken = ap (λ w. y ∷ w) f.taken; left = f.left }

further : {X : Type 0} (xs : List X) (k : ℕ) (x : X) (rest : List X) → x ∷ rest ≡ drop k xs → IsFurther xs k x rest (k + 1)
further xs k x rest e = at_suc (IsFurther xs k x rest) k (further_suc xs k x rest e)

pub none_taken : (entries : Entries) → AreTaken entries 0 [] entries
none_taken entries = record { few = omega arith; rows_are = refl; left_are = refl }

-- one step more
pub taken_more : (entries : Entries) (steps more : ℕ) (rows others : List Row) (left rest : Entries) (row : Option Row) →
    AreTaken entries steps rows left → left ≡ row ∷ rest → others ≡ rows ++ rows_of (row ∷ []) → more ≡ steps + 1 → AreTaken entries more others rest
taken_more entries steps more rows others left rest row h l r m =
    let f = further entries steps row rest (sym l ∙ h.left_are) in
    record {
      few = omega (arith, f.room, m);
      rows_are = r ∙ ap (λ w. w ++ rows_of (row ∷ [])) h.rows_are ∙ sym (rows_of-append (take steps entries) (row ∷ [])) ∙ ap rows_of (sym f.taken) ∙ ap (λ w. rows_of (take w entries)) (sym m);
      left_are = f.left ∙ ap (λ w. drop w entries) (sym m);
    }

pub length-drop_sum : {X : Type 0} (xs : List X) (k : ℕ) → k ≤ length xs → length (drop k xs) + k ≡ length xs
length-drop_sum xs zero h = omega arith
length-drop_sum [] (suc k) h = absurd (omega (arith, h))
length-drop_sum (x ∷ xs) (suc k) h = omega (arith, length-drop_sum xs k (omega (arith, h)))

-- how many are left
pub left_length : (entries : Entries) (steps : ℕ) (rows : List Row) (left : Entries) → AreTaken entries steps rows left → length left + steps ≡ length entries
left_length entries steps rows left h = ap (λ (w : Entries). length w + steps) h.left_are ∙ length-drop_sum entries steps h.few

-- where none is left, all were taken
pub all_taken : (entries : Entries) (steps quantum : ℕ) (rows : List Row) (left : Entries) → AreTaken entries steps rows left → left ≡ [] → steps ≤ quantum → steps ≡ min quantum (length entries)
all_taken entries steps quantum rows left h e q = omega (arith, left_length entries steps rows left h, ap (λ (w : Entries). length w) e, q)

-- where as many were taken as may be
pub quantum_taken : (entries : Entries) (steps quantum : ℕ) (rows : List Row) (left : Entries) → AreTaken entries steps rows left → steps ≡ quantum → steps ≡ min quantum (length entries)
quantum_taken entries steps quantum rows left h q = omega (arith, h.few, q)
