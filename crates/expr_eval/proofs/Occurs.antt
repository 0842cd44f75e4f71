-- A text has another just where that stands in it.
use Rattle.std.proofs.Common.{◌≡◌, ℕ, refl, sym, ap, true, false, Bool, List, [], ◌∷◌, ◌++◌, length, drop, ◌⊎◌, inl, inr, ◌↔◌}
use Rattle.std.specs.Prelude.{◌||◌}
use Rattle.std.specs.Str.Iter.{HasSubslice}
use Rattle.std.proofs.lemmas.Bool.Decides.{Decides-eqb}
use Rattle.std.proofs.lemmas.Slice.Eq.{starts_is}
use Rattle.term_core.specs.Numbers.{is_empty}
use Rattle.sparql_value.specs.Functions.{begins_with, has_text}

begins_from : (s n rest : List ℕ) → s ≡ n ++ rest → begins_with s n ≡ true
begins_from s n rest e = (starts_is Decides-eqb s n (begins_with s n) refl).1 rest e

begins_to : (s n : List ℕ) → begins_with s n ≡ true → s ≡ n ++ drop (length n) s
begins_to s n e = (starts_is Decides-eqb s n (begins_with s n) refl).0 e

or_cases : (x y : Bool) → (x || y) ≡ true → (x ≡ true) ⊎ (y ≡ true)
or_cases true y e = inl refl
or_cases false y e = inr e

or_front : (x y : Bool) → x ≡ true → (x || y) ≡ true
or_front x y is = ap (λ b. b || y) is

or_behind : (x y : Bool) → y ≡ true → (x || y) ≡ true
or_behind true y is = refl
or_behind false y is = is

empty_is : (n : List ℕ) → is_empty n ≡ true → n ≡ []
empty_is [] e = refl
empty_is (c ∷ cs) e = cc

at_end : (n b : List ℕ) → [] ≡ n ++ b → is_empty n ≡ true
at_end [] b e = refl
at_end (c ∷ cs) b e = cc

has_at : (c : ℕ) (s n : List ℕ) → (begins_with (c ∷ s) n ≡ true) ⊎ (has_text s n ≡ true) → (has_text s n ≡ true → HasSubslice s n) → HasSubslice (c ∷ s) n
has_at c s n (inl is) behind = ([], drop (length n) (c ∷ s), begins_to (c ∷ s) n is)
has_at c s n (inr is) behind = let h : HasSubslice s n = behind is in (c ∷ h.0, h.1, ap (λ l. c ∷ l) h.2)

pub has_to : (s n : List ℕ) → has_text s n ≡ true → HasSubslice s n
has_to [] n e = ([], [], ap (λ l. l ++ []) (sym (empty_is n e)))
has_to (c ∷ s) n e = has_at c s n (or_cases (begins_with (c ∷ s) n) (has_text s n) e) (has_to s n)

pub has_from : (s n a b : List ℕ) → s ≡ a ++ (n ++ b) → has_text s n ≡ true
has_from [] n [] b e = at_end n b e
has_from [] n (d ∷ a) b e = cc
has_from (c ∷ s) n [] b e = or_front (begins_with (c ∷ s) n) (has_text s n) (begins_from (c ∷ s) n b e)
has_from (c ∷ s) n (d ∷ a) b e = or_behind (begins_with (c ∷ s) n) (has_text s n) (has_from s n a b (cc))

-- two tests of one fact
same_test : (x y : Bool) → (x ≡ true → y ≡ true) → (y ≡ true → x ≡ true) → x ≡ y
same_test true y to from = sym (to refl)
same_test false true to from = from refl
same_test false false to from = refl

pub occurs : (r : Bool) (s n : List ℕ) → (r ≡ true) ↔ HasSubslice s n → r ≡ has_text s n
occurs r s n iff = same_test r (has_text s n) (λ e. let h : HasSubslice s n = iff.0 e in has_from s n h.0 h.1 h.2) (λ e. iff.1 (has_to s n e))
