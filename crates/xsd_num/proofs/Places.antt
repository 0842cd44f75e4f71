-- Numbers at 18 places, and their order.
use Rattle.std.proofs.Common.{◌≡◌, ℕ, zero, suc, ◌+◌, ◌-◌, ◌*◌, ◌/◌, ◌%◌, ◌^◌, ◌<◌, ◌≤◌, refl, sym, ap, ◌∙◌, arith, true, false, ℤ, pos, negsuc, ◌*ℤ◌, neg_ℤ, Less, Greater, nat_cmp}
use Rattle.std.proofs.lemmas.Grind.{common_steps}
use Rattle.std.proofs.Math.Nat.{pow-le-pow_right, mul-lt-mul_of_pos_right}
use Rattle.std.proofs.lemmas.Nat.{pow-add, div-add-mod', mul-lt, mod_below}
use Rattle.std.specs.Prelude.{unsigned_abs}
use Rattle.std.specs.Int.{is_negative}
use Rattle.std.specs.Ordering.{int_cmp, ordering_then}

-- a power of at most 18
pub power_bound : (s : ℕ) → s ≤ 18 → 10 ^ s ≤ 10 ^ 18
power_bound s h = pow-le-pow_right {n = 10} (omega arith) h

pub power_positive : (s : ℕ) → 0 < 10 ^ s
power_positive s = pow-le-pow_right {n = 10} (omega arith) {i = 0} {j = s} (omega arith)

-- the two powers make one
pub powers_join : (s : ℕ) → s ≤ 18 → 10 ^ s * 10 ^ (18 - s) ≡ 10 ^ 18
powers_join s h = let whole : s + (18 - s) ≡ 18 = omega arith in sym (pow-add 10 s (18 - s)) ∙ ap (λ k. 10 ^ k) whole

-- a product of a sum
pub product_split : (n q u r v w : ℕ) → q * u + r ≡ n → u * v ≡ w → n * v ≡ q * w + r * v
product_split n q u r v w e f = rw (← e, ← f) (grind arith)

-- what is in front of the point, and behind it
pub parts_value : (n s : ℕ) → s ≤ 18 → n * 10 ^ (18 - s) ≡ n / 10 ^ s * 10 ^ 18 + n % 10 ^ s * 10 ^ (18 - s)
parts_value n s h = product_split n (n / 10 ^ s) (10 ^ s) (n % 10 ^ s) (10 ^ (18 - s)) (10 ^ 18) (div-add-mod' n (10 ^ s)) (powers_join s h)

-- two numbers with the front of each and what is behind it
pub by_parts : (m n q r f g : ℕ) → f < 10 ^ 18 → g < 10 ^ 18 → m ≡ q * 10 ^ 18 + f → n ≡ r * 10 ^ 18 + g → ordering_then (nat_cmp q r) (nat_cmp f g) ≡ nat_cmp m n
by_parts m n q r f g hf hg e d = grind (arith, common_steps)

below_product : (r u v : ℕ) → r < u → 0 < v → r * v < u * v
below_product r u v h p = mul-lt-mul_of_pos_right h p

pub less_from_minus : (k l : ℕ) → 0 < k → int_cmp (neg_ℤ (pos k)) (pos l) ≡ Less
less_from_minus zero l h = absurd (omega arith)
less_from_minus (suc k) l h = refl

pub greater_than_minus : (k l : ℕ) → 0 < k → int_cmp (pos l) (neg_ℤ (pos k)) ≡ Greater
greater_than_minus zero l h = absurd (omega arith)
greater_than_minus (suc k) l h = refl

-- a fraction of a unit stays below one
pub fraction_below : (n s : ℕ) → s ≤ 18 → n % 10 ^ s * 10 ^ (18 - s) < 10 ^ 18
fraction_below n s h =
    let r : n % 10 ^ s < 10 ^ s = mod_below n (10 ^ s) (power_positive s) in
    let v : 0 < 10 ^ (18 - s) = power_positive (18 - s) in
    rw (← powers_join s h) (below_product (n % 10 ^ s) (10 ^ s) (10 ^ (18 - s)) r v)

pub turned : (k l : ℕ) → nat_cmp (suc l) (suc k) ≡ int_cmp (negsuc k) (negsuc l)
turned k l = grind (arith, common_steps)

pub minus_turns : (k l : ℕ) → 0 < k → 0 < l → nat_cmp l k ≡ int_cmp (neg_ℤ (pos k)) (neg_ℤ (pos l))
minus_turns zero l h g = absurd (omega arith)
minus_turns (suc k) zero h g = absurd (omega arith)
minus_turns (suc k) (suc l) h g = turned k l

-- a natural number is not negative
pub natural_sign : (m : ℕ) → is_negative (pos m) ≡ false
natural_sign m = grind (arith, common_steps)

-- a negative number is less than another
pub less_by_sign : (m n : ℤ) (v w : ℕ) → is_negative m ≡ true → is_negative n ≡ false → 0 < v → int_cmp (m *ℤ pos v) (n *ℤ pos w) ≡ Less
less_by_sign (pos m) n v w p q h = cc (natural_sign m)
less_by_sign (negsuc m) (negsuc n) v w p q h = cc
less_by_sign (negsuc m) (pos n) zero w p q h = absurd (omega arith)
less_by_sign (negsuc m) (pos n) (suc v) w p q h = less_from_minus (suc m * suc v) (n * w) (omega (arith, mul-lt 0 0 (suc m) (suc v) (omega arith) (omega arith)))

-- and another is greater than a negative one
pub greater_by_sign : (m n : ℤ) (v w : ℕ) → is_negative m ≡ false → is_negative n ≡ true → 0 < w → int_cmp (m *ℤ pos v) (n *ℤ pos w) ≡ Greater
greater_by_sign m (pos n) v w p q h = cc (natural_sign n)
greater_by_sign (negsuc m) (negsuc n) v w p q h = cc
greater_by_sign (pos m) (negsuc n) v zero p q h = absurd (omega arith)
greater_by_sign (pos m) (negsuc n) v (suc w) p q h = greater_than_minus (suc n * suc w) (m * v) (omega (arith, mul-lt 0 0 (suc n) (suc w) (omega arith) (omega arith)))

-- two magnitudes in the order of their parts
pub magnitudes_by_parts :
    (m n s t q r f g : ℕ) → m * 10 ^ (18 - s) ≡ q * 10 ^ 18 + f → n * 10 ^ (18 - t) ≡ r * 10 ^ 18 + g → f < 10 ^ 18 → g < 10 ^ 18
    → ordering_then (nat_cmp q r) (nat_cmp f g) ≡ nat_cmp (m * 10 ^ (18 - s)) (n * 10 ^ (18 - t))
magnitudes_by_parts m n s t q r f g e d hf hg = by_parts (m * 10 ^ (18 - s)) (n * 10 ^ (18 - t)) q r f g hf hg e d

-- two negative numbers are in the other order
pub negatives_turn : (m n : ℤ) (v w : ℕ) → is_negative m ≡ true → is_negative n ≡ true → 0 < v → 0 < w → nat_cmp (unsigned_abs n * w) (unsigned_abs m * v) ≡ int_cmp (m *ℤ pos v) (n *ℤ pos w)
negatives_turn (pos m) n v w p q h k = cc (natural_sign m)
negatives_turn (negsuc m) (pos n) v w p q h k = cc (natural_sign n)
negatives_turn (negsuc m) (negsuc n) v w p q h k = minus_turns (suc m * v) (suc n * w) (omega (arith, mul-lt-mul_of_pos_right {m = 0} {n = suc m} {k = v} (omega arith) h)) (omega (arith, mul-lt-mul_of_pos_right {m = 0} {n = suc n} {k = w} (omega arith) k))
