-- Fields of fixed forms, and the numbers of digits.
use Rattle.std.proofs.Common.{◌≡◌, ℕ, suc, ◌+◌, ◌-◌, ◌*◌, ◌^◌, ◌<◌, ◌≤◌, refl, sym, ap, ◌∙◌, arith}
use Rattle.std.proofs.Common.{◌&&◌, Bool, true, false, List, [], ◌∷◌, length}
use Rattle.std.proofs.Common.{mul-le-mul, take, drop, cond, Option, None, ℤ}
use Rattle.std.proofs.lemmas.Nat.{pow-add}
use Rattle.term_core.specs.Moments.{has_form, suits, date_time_form, day_at_front, second_at_front, fraction_of}
use Rattle.term_core.specs.Moments.{moment_of_parts, moment_of_date_time}

-- a text of another length does not have the form
pub no_form : (form text : List ℕ) → (length text ≡ length form → ⊥) → false ≡ has_form form text
no_form [] [] h = absurd (h refl)
no_form [] (c ∷ text) h = refl
no_form (f ∷ form) [] h = refl
no_form (f ∷ form) (c ∷ text) h = false_both (suits f c) (has_form form text) (no_form form text (λ e. h (ap suc e)))
  where
    false_both : (p q : Bool) → false ≡ q → false ≡ (p && q)
    false_both true q e = e
    false_both false q e = refl

-- digits that are few write few nanoseconds
pub scaled_bound : (a n : ℕ) → a < 23 * 10 ^ n → n ≤ 9 → a * 10 ^ (9 - n) ≤ 23_000_000_000
scaled_bound a n h few =
    let nine : n + (9 - n) ≡ 9 = omega arith in
    let whole : 10 ^ n * 10 ^ (9 - n) ≡ 10 ^ 9 = sym (pow-add 10 n (9 - n)) ∙ ap (λ k. 10 ^ k) nine in
    let scaled : a * 10 ^ (9 - n) ≤ 23 * 10 ^ n * 10 ^ (9 - n) = mul-le-mul (omega arith) (omega arith) in
    omega (arith, scaled, whole)

-- the moment of a text by what was read of it
pub date_time_by : (text : List ℕ) (is : Bool) (day : Option ℤ) (second nanos : Option ℕ) (zone : List ℕ)
    → is ≡ has_form date_time_form (take 19 text) → is ≡ true → day ≡ day_at_front text → second ≡ second_at_front text
    → nanos ≡ (fraction_of (drop 19 text)).0 → zone ≡ (fraction_of (drop 19 text)).1
    → moment_of_parts day second (nanos, zone) ≡ moment_of_date_time text
date_time_by text is day second nanos zone h t d s n z =
    rw (d, s, n, z)
    (sym (ap (λ is. cond is (moment_of_parts (day_at_front text) (second_at_front text) (fraction_of (drop 19 text))) None) (sym h ∙ t)))
