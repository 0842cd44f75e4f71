-- The digits of a number that is written, as a field has them.
use Rattle.std.proofs.Common.{◌≡◌, ℕ, ◌+◌, ◌<◌, ◌≤◌, ◌/◌, ◌%◌, ◌^◌, List, [], ◌∷◌, ◌++◌, Bool, true, false, length, reverse, refl, ap, ◌∙◌, arith}
use Rattle.std.specs.Char.{is_ascii_digit}
use Rattle.std.specs.Fmt.{decimal}
use Rattle.std.specs.List.{list_all}
use Rattle.std.proofs.lemmas.Fmt.{decimal_by_steps, decimal_step, decimal_digit, decimal_nonempty}
use Rattle.std.proofs.lemmas.List.{length_push}
use Rattle.std.proofs.lemmas.List.Folds.{list_all-append}
use Rattle.std.proofs.lemmas.List.Sums.{AllPass-from_list_all, list_all-from_AllPass}
use Rattle.httparse.specs.Grammar.{skip_ows, trim_ows, is_ows}
use Rattle.httparse.proofs.TrimLemmas.{AllPass-reverse, trim_ows_space}
use Rattle.http_core.specs.Fields.{are_digits, is_number}

-- what passes each digit passes the digits of a number
pub all_of_digits : (test : ℕ → Bool) → ((d : ℕ) → d < 10 → test (48 + d) ≡ true) → (n : ℕ) → n < 2 ^ 64 → list_all test (decimal n) ≡ true
all_of_digits test each n small =
    decimal_by_steps (λ _ ds. list_all test ds ≡ true) one more n small
  where
    one : (n : ℕ) → n < 10 → list_all test ((48 + n) ∷ []) ≡ true
    one n lt = rw (each n lt) refl

    more : (n : ℕ) (ds : List ℕ) → 10 ≤ n → list_all test ds ≡ true → list_all test (ds ++ ((48 + n % 10) ∷ [])) ≡ true
    more n ds le before = list_all-append test ds ((48 + n % 10) ∷ []) ∙ (rw (before, each (n % 10) (omega arith)) refl)

digit_is : (d : ℕ) → d < 10 → is_ascii_digit (48 + d) ≡ true
digit_is d lt = grind (arith, lt)

digits_as : (ds : List ℕ) → are_digits ds ≡ list_all is_ascii_digit ds
digits_as [] = refl
digits_as (d ∷ ds) = rw (digits_as ds) refl

pub are_digits_of : (n : ℕ) → n < 2 ^ 64 → are_digits (decimal n) ≡ true
are_digits_of n small = digits_as (decimal n) ∙ all_of_digits is_ascii_digit digit_is n small

number_from : (ds : List ℕ) → 0 < length ds → are_digits ds ≡ true → is_number ds ≡ true
number_from [] some are = absurd (omega arith)
number_from (d ∷ ds) some are = are

pub is_number_of : (n : ℕ) → n < 2 ^ 64 → is_number (decimal n) ≡ true
is_number_of n small = number_from (decimal n) (decimal_nonempty n small) (are_digits_of n small)

first_digit : (d : ℕ) (ds : List ℕ) → are_digits (d ∷ ds) ≡ true → is_ows d ≡ false
first_digit d ds are = grind (arith, are)

-- digits have no white space to skip
no_skip : (ds : List ℕ) → are_digits ds ≡ true → skip_ows ds ≡ ds
no_skip [] are = refl
no_skip (d ∷ ds) are = rw (first_digit d ds are) refl

pub trim_decimal : (n : ℕ) → n < 2 ^ 64 → trim_ows (32 ∷ decimal n) ≡ decimal n
trim_decimal n small =
    let all = all_of_digits is_ascii_digit digit_is n small in
    let back = AllPass-reverse is_ascii_digit (decimal n) (AllPass-from_list_all is_ascii_digit (decimal n) all) in
    let reversed = digits_as (reverse (decimal n)) ∙ list_all-from_AllPass is_ascii_digit (reverse (decimal n)) back in
    trim_ows_space (decimal n) (no_skip (decimal n) (are_digits_of n small)) (no_skip (reverse (decimal n)) reversed)

-- a status has three digits
pub three_digits : (n : ℕ) → 100 ≤ n → n < 1000 → length (decimal n) ≡ 3
three_digits n low high =
    let a = decimal_step n (omega arith) (omega arith) in
    let b = decimal_step (n / 10) (omega arith) (omega arith) in
    let c = decimal_digit (n / 10 / 10) (omega arith) in
    ap length a ∙ length_push (decimal (n / 10)) _ ∙ ap (λ k. k + 1) (ap length b ∙ length_push (decimal (n / 10 / 10)) _ ∙ ap (λ k. k + 1) (ap length c))
