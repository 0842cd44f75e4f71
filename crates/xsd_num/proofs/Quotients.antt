-- Quotients digit by digit.
use Rattle.std.proofs.Common.{◌≡◌, ℕ, zero, suc, ◌+◌, ◌*◌, ◌/◌, ◌%◌, ◌^◌, ◌<◌, refl, sym, ap, ◌∙◌, arith, Bool, true, false, cond, ◌==◌}
use Rattle.std.proofs.lemmas.Grind.{common_steps}
use Rattle.std.proofs.Math.Nat.{pow-suc, add-mul, mul_assoc, mul_right_comm, mul-add-div_right}
use Rattle.std.proofs.lemmas.Nat.{div-add-mod', div_below, pow-add}
use Rattle.std.specs.Prelude.{Some, None}
use Rattle.term_core.specs.Numbers.{trimmed, held_decimal, least_decimal}
use Rattle.xsd_num.specs.Values.{below}

-- the digits so far and what is left make the rest that there was
digit_sum : (digits left divisor q r n : ℕ) → q * divisor + r ≡ left * 10 → digits * divisor + left ≡ n → (digits * 10 + q) * divisor + r ≡ n * 10
digit_sum digits left divisor q r n e h =
    let a : (digits * 10 + q) * divisor ≡ digits * 10 * divisor + q * divisor = add-mul (digits * 10) q divisor in
    let b : digits * 10 * divisor ≡ digits * divisor * 10 = mul_right_comm digits 10 divisor in
    omega (arith, a, b)

pub one_digit_more : (digits left divisor rest i : ℕ) → digits * divisor + left ≡ rest * 10 ^ i
    → (digits * 10 + left * 10 / divisor) * divisor + left * 10 % divisor ≡ rest * 10 ^ (i + 1)
one_digit_more digits left divisor rest i h =
    digit_sum digits left divisor (left * 10 / divisor) (left * 10 % divisor) (rest * 10 ^ i) (div-add-mod' (left * 10) divisor) h
    ∙ mul_assoc rest (10 ^ i) 10 ∙ ap (λ k. rest * k) (sym (pow-add 10 i 1))

pub one_digit_below : (digits left divisor i : ℕ) → left < divisor → digits < 10 ^ i → digits * 10 + left * 10 / divisor < 10 ^ (i + 1)
one_digit_below digits left divisor i h b =
    let more : 10 ^ (i + 1) ≡ 10 ^ i * 10 = pow-add 10 i 1 in
    let q : left * 10 / divisor < 10 = div_below (left * 10) divisor 10 (omega arith) (omega arith) in
    rw more (omega arith)

-- a quotient's whole part and what is behind it
pub quotient_parts : (n d w : ℕ) → 0 < d → n * w / d ≡ n / d * w + n % d * w / d
quotient_parts n d w h =
    let whole : n / d * d + n % d ≡ n = div-add-mod' n d in
    let parts : n * w ≡ n / d * w * d + n % d * w = sym (ap (λ k. k * w) whole) ∙ add-mul (n / d * d) (n % d) w ∙ ap (λ k. k + n % d * w) (mul_right_comm (n / d) d w) in
    ap (λ k. k / d) parts ∙ mul-add-div_right h (n / d * w) (n % d * w)

-- the whole part is kept while zeros go at the end
parts_split : (b : Bool) (t : ℕ × ℕ) (q f s : ℕ)
    → ◌≡◌ {A = ℕ × ℕ} (cond b (q * 10 ^ t.1 + t.0, t.1) (q * 10 ^ suc s + f, suc s)) (q * 10 ^ (cond b t (f, suc s)).1 + (cond b t (f, suc s)).0, (cond b t (f, suc s)).1)
parts_split true t q f s = refl
parts_split false t q f s = refl

pub trimmed_parts : (q f s : ℕ) → trimmed (q * 10 ^ s + f) s ≡ (q * 10 ^ (trimmed f s).1 + (trimmed f s).0, (trimmed f s).1)
unfolding trimmed
trimmed_parts q f zero = refl
trimmed_parts q f (suc s) =
    let tenfold : q * 10 ^ suc s ≡ q * 10 ^ s * 10 = ap (λ k. q * k) (pow-suc 10 s) ∙ sym (mul_assoc q (10 ^ s) 10) in
    let ends : (q * 10 ^ suc s + f) % 10 ≡ f % 10 = omega arith in
    let tenth : (q * 10 ^ suc s + f) / 10 ≡ q * 10 ^ s + f / 10 = omega arith in
    rw (ends, tenth, trimmed_parts q (f / 10) s) (parts_split (f % 10 == 0) (trimmed (f / 10) s) q f s)

-- the least decimal of a quotient, by its whole part and what is behind it
pub quotient_is : (minus : Bool) (n d fr : ℕ) (t : ℕ × ℕ) → 0 < d → fr ≡ n % d * 10 ^ 18 / d → t ≡ trimmed fr 18
    → held_decimal minus (n / d * 10 ^ t.1 + t.0, t.1) ≡ least_decimal minus (n * 10 ^ 18 / d) 18
quotient_is minus n d fr t h e f =
    ap (λ u. held_decimal minus (n / d * 10 ^ u.1 + u.0, u.1)) f
    ∙ sym (ap (λ u. held_decimal minus u) (ap (λ k. trimmed k 18) (quotient_parts n d (10 ^ 18) h ∙ ap (λ k. n / d * 10 ^ 18 + k) (sym e)) ∙ trimmed_parts (n / d) fr 18))

past_plus : (v s : ℕ) → below v ≡ None → held_decimal false (v, s) ≡ None
past_plus v s e = grind (arith, common_steps)

past_minus : (v s : ℕ) → below (suc v) ≡ None → held_decimal true (suc v, s) ≡ None
past_minus v s e = grind (arith, common_steps)

-- a magnitude that is past 2^128 is past every signed number of 128 bits
pub none_held : (minus : Bool) (v s : ℕ) → below v ≡ None → held_decimal minus (v, s) ≡ None
none_held true zero s e = absurd (cc)
none_held true (suc v) s e = past_minus v s e
none_held false v s e = past_plus v s e

pub below_some : (v m : ℕ) → below v ≡ Some m → v ≡ m
below_some v m e = grind (arith, common_steps)
