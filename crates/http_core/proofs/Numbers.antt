-- Numbers of digits, and names in any case.
use Rattle.std.proofs.Common.{◌≡◌, ℕ, ◌+◌, ◌*◌, ◌-◌, ◌^◌, ◌≤◌, List, [], ◌∷◌, Bool, true, false, IsTrue, ◌↔◌, refl, sym, ap, ◌∙◌, arith, inl, inr, min}
use Rattle.std.proofs.lemmas.Bool.{cases_lt}
use Rattle.std.specs.Char.{is_ascii_digit, digit_value}
use Rattle.std.specs.Str.{bytes_eq}
use Rattle.std.specs.Str.Parse.{digits_value_after}
use Rattle.std.proofs.lemmas.Slice.Eq.{bytes_eq-Decides}
use Rattle.http_core.specs.Fields.{are_digits}

-- more digits make no smaller number
not_less : (n : ℕ) (cs : List ℕ) → n ≤ digits_value_after 10 n cs
not_less n [] = omega arith
not_less n (c ∷ cs) = let h = not_less (n * 10 + digit_value c) cs in omega arith

-- past the end of the type all numbers are alike
capped : (n : ℕ) (cs : List ℕ)
    → min (digits_value_after 10 (min n (2 ^ 64 - 1)) cs) (2 ^ 64 - 1) ≡ min (digits_value_after 10 n cs) (2 ^ 64 - 1)
capped n cs =
    elim (cases_lt (2 ^ 64 - 1) n) [
      | inl lt ↦ (let e : min n (2 ^ 64 - 1) ≡ 2 ^ 64 - 1 = omega arith in
          let low = not_less (2 ^ 64 - 1) cs in
          let high = not_less n cs in
          rw e (omega (arith, low, high)))
      | inr le ↦ (let e : min n (2 ^ 64 - 1) ≡ n = omega arith in rw e refl)
    ]

-- the value of a digit
pub value_of_digit : (c : ℕ) → is_ascii_digit c ≡ true → digit_value c ≡ c - 48
value_of_digit c is = grind (arith, is)

-- one digit more
pub digit_step : (total next c : ℕ) (cs : List ℕ) → is_ascii_digit c ≡ true → next ≡ min (total * 10 + (c - 48)) (2 ^ 64 - 1)
    → min (digits_value_after 10 next cs) (2 ^ 64 - 1) ≡ min (digits_value_after 10 total (c ∷ cs)) (2 ^ 64 - 1)
digit_step total next c cs is e =
    ap (λ n. min (digits_value_after 10 n cs) (2 ^ 64 - 1)) (e ∙ ap (λ d. min (total * 10 + d) (2 ^ 64 - 1)) (sym (value_of_digit c is)))
    ∙ capped (total * 10 + digit_value c) cs

same_tests : (a b : Bool) → (a ≡ true → b ≡ true) → (b ≡ true → a ≡ true) → a ≡ b
same_tests true true h k = refl
same_tests true false h k = sym (h refl)
same_tests false true h k = k refl
same_tests false false h k = refl

-- a test that decides equality is the comparison of bytes
pub tests_equal : (b : Bool) (xs ys : List ℕ) → (IsTrue b ↔ (xs ≡ ys)) → b ≡ bytes_eq xs ys
tests_equal b xs ys h =
    same_tests b (bytes_eq xs ys) (λ t. (bytes_eq-Decides xs ys).1 (h.0 t)) (λ t. h.1 ((bytes_eq-Decides xs ys).0 t))

pub one_less : (c : ℕ) (cs : List ℕ) → is_ascii_digit c ≡ true → are_digits cs ≡ are_digits (c ∷ cs)
one_less c cs e = rw e refl
