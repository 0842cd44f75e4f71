-- What scaling keeps: the order of two numbers, and the value of one.
use Rattle.std.proofs.Common.{◌≡◌, Equal, ◌↔◌, ℕ, zero, suc, ◌+◌, ◌-◌, ◌*◌, ◌/◌, ◌%◌, ◌^◌, ◌<◌, ◌≤◌, refl, sym, ap, subst, ◌∙◌, arith, Bool, true, false, cond, ◌==◌, ℤ, pos, negsuc, neg_ℤ, ◌*ℤ◌, nat_cmp}
use Rattle.std.proofs.lemmas.Grind.{common_steps}
use Rattle.std.proofs.Math.Nat.{mul-lt-mul_of_pos_right, mul_assoc, mul_right_comm, pow-suc}
use Rattle.std.proofs.lemmas.Nat.{pow-add, mul-lt}
use Rattle.std.specs.Ordering.{int_cmp}
use Rattle.std.specs.FinMap.{int_cmp-IsAntisymmetric}
use Rattle.std.proofs.lemmas.Cmp.{int_cmp_total, tied_itself}
use Rattle.std.specs.Prelude.{Some, None}
use Rattle.term_core.specs.Numbers.{Number, Decimal, numerator, scale, trimmed, signed, least_decimal}
use Rattle.xsd_num.proofs.Places.{greater_than_minus, less_from_minus, minus_turns, turned, power_positive}

-- two numbers in the order of their multiples
pub less_scaled : (a b k : ℕ) → 0 < k → a < b → a * k < b * k
less_scaled a b k p h = mul-lt-mul_of_pos_right h p

naturals_by : (a b x y : ℕ) → (a < b → x < y) → (b < a → y < x) → (a ≡ b → x ≡ y) → nat_cmp x y ≡ nat_cmp a b
naturals_by a b x y less more same = grind (arith, common_steps)

naturals_scaled : (a b k : ℕ) → 0 < k → nat_cmp (a * k) (b * k) ≡ nat_cmp a b
naturals_scaled a b k p = naturals_by a b (a * k) (b * k) (less_scaled a b k p) (less_scaled b a k p) (ap (λ c. c * k))

natural_order : (a b : ℕ) → int_cmp (pos a) (pos b) ≡ nat_cmp a b
natural_order a b = grind (arith, common_steps)

positive_scaled : (a k : ℕ) → 0 < suc a * suc k
positive_scaled a k = mul-lt 0 0 (suc a) (suc k) (omega arith) (omega arith)

pub scaled_order : (m n : ℤ) (k : ℕ) → 0 < k → int_cmp (m *ℤ pos k) (n *ℤ pos k) ≡ int_cmp m n
scaled_order m n zero p = absurd (omega arith)
scaled_order (pos a) (pos b) (suc k) p = natural_order (a * suc k) (b * suc k) ∙ naturals_scaled a b (suc k) p ∙ sym (natural_order a b)
scaled_order (pos a) (negsuc b) (suc k) p = greater_than_minus (suc b * suc k) (a * suc k) (positive_scaled b k)
scaled_order (negsuc a) (pos b) (suc k) p = less_from_minus (suc a * suc k) (b * suc k) (positive_scaled a k)
scaled_order (negsuc a) (negsuc b) (suc k) p =
    sym (minus_turns (suc a * suc k) (suc b * suc k) (positive_scaled a k) (positive_scaled b k))
    ∙ naturals_scaled (suc b) (suc a) (suc k) p ∙ turned a b

-- a multiple of a multiple
minus_scaled : (n k : ℕ) → neg_ℤ (pos n) *ℤ pos k ≡ neg_ℤ (pos (n * k))
minus_scaled zero k = let none : 0 * k ≡ 0 = omega arith in rw none refl
minus_scaled (suc n) k = refl

pub scaled_twice : (m : ℤ) (k l : ℕ) → m *ℤ pos k *ℤ pos l ≡ m *ℤ pos (k * l)
scaled_twice (pos n) k l = ap pos (mul_assoc n k l)
scaled_twice (negsuc n) k l = minus_scaled (suc n * k) l ∙ ap (λ c. neg_ℤ (pos c)) (mul_assoc (suc n) k l)

-- the numerator at 18 places, and more
all_powers : (s t : ℕ) → s ≤ 18 → 10 ^ (18 - s) * 10 ^ (s + t) ≡ 10 ^ t * 10 ^ 18
all_powers s t h =
    let whole : 18 - s + (s + t) ≡ t + 18 = omega arith in
    sym (pow-add 10 (18 - s) (s + t)) ∙ ap (λ k. 10 ^ k) whole ∙ pow-add 10 t 18

-- numbers are in the order of their values
pub order_by_value : (m n : ℤ) (s t : ℕ) → s ≤ 18 → t ≤ 18
    → int_cmp (m *ℤ pos (10 ^ (18 - s))) (n *ℤ pos (10 ^ (18 - t))) ≡ int_cmp (m *ℤ pos (10 ^ t)) (n *ℤ pos (10 ^ s))
order_by_value m n s t h g =
    let turn : t + s ≡ s + t = omega arith in
    let left : m *ℤ pos (10 ^ (18 - s)) *ℤ pos (10 ^ (s + t)) ≡ m *ℤ pos (10 ^ t) *ℤ pos (10 ^ 18) =
    scaled_twice m (10 ^ (18 - s)) (10 ^ (s + t)) ∙ ap (λ k. m *ℤ pos k) (all_powers s t h) ∙ sym (scaled_twice m (10 ^ t) (10 ^ 18)) in
    let right : n *ℤ pos (10 ^ (18 - t)) *ℤ pos (10 ^ (s + t)) ≡ n *ℤ pos (10 ^ s) *ℤ pos (10 ^ 18) =
    scaled_twice n (10 ^ (18 - t)) (10 ^ (s + t)) ∙ ap (λ k. n *ℤ pos k) (ap (λ k. 10 ^ (18 - t) * 10 ^ k) (sym turn) ∙ all_powers t s g) ∙ sym (scaled_twice n (10 ^ s) (10 ^ 18)) in
    sym (scaled_order (m *ℤ pos (10 ^ (18 - s))) (n *ℤ pos (10 ^ (18 - t))) (10 ^ (s + t)) (power_positive (s + t)))
    ∙ ap (λ k. int_cmp k (n *ℤ pos (10 ^ (18 - t)) *ℤ pos (10 ^ (s + t)))) left
    ∙ ap (λ k. int_cmp (m *ℤ pos (10 ^ t) *ℤ pos (10 ^ 18)) k) right
    ∙ scaled_order (m *ℤ pos (10 ^ t)) (n *ℤ pos (10 ^ s)) (10 ^ 18) (power_positive 18)

-- so those tie whose values are equal
order_ties : (x y : ℤ) → (int_cmp x y ≡ Equal) ↔ (x ≡ y)
order_ties x y = (int_cmp-IsAntisymmetric x y, λ e. ap (λ z. int_cmp x z) (sym e) ∙ tied_itself int_cmp_total x)

pub ties_by_value : (m n : ℤ) (s t : ℕ) → s ≤ 18 → t ≤ 18
    → (int_cmp (m *ℤ pos (10 ^ (18 - s))) (n *ℤ pos (10 ^ (18 - t))) ≡ Equal) ↔ (m *ℤ pos (10 ^ t) ≡ n *ℤ pos (10 ^ s))
ties_by_value m n s t h g =
    let ties : (int_cmp (m *ℤ pos (10 ^ t)) (n *ℤ pos (10 ^ s)) ≡ Equal) ↔ (m *ℤ pos (10 ^ t) ≡ n *ℤ pos (10 ^ s)) = order_ties (m *ℤ pos (10 ^ t)) (n *ℤ pos (10 ^ s)) in
    (λ e. ties.0 (sym (order_by_value m n s t h g) ∙ e), λ e. order_by_value m n s t h g ∙ ties.1 e)

tenth_back : (n : ℕ) → (n % 10 == 0) ≡ true → n / 10 * 10 ≡ n
tenth_back n e = grind (arith, common_steps)

-- what trimming leaves has the same value
trim_step : (b : Bool) (n s : ℕ) (t : ℕ × ℕ) → b ≡ (n % 10 == 0) → n / 10 * 10 ^ t.1 ≡ t.0 * 10 ^ s
    → n * 10 ^ (cond b t (n, suc s)).1 ≡ (cond b t (n, suc s)).0 * 10 ^ suc s
trim_step false n s t e h = refl
trim_step true n s t e h =
    let tenfold : n / 10 * 10 ≡ n = tenth_back n (sym e) in
    sym (ap (λ k. k * 10 ^ t.1) tenfold) ∙ mul_right_comm (n / 10) 10 (10 ^ t.1) ∙ ap (λ k. k * 10) h ∙ mul_assoc t.0 (10 ^ s) 10 ∙ ap (λ k. t.0 * k) (sym (pow-suc 10 s))

pub trimmed_value : (n s : ℕ) → n * 10 ^ (trimmed n s).1 ≡ (trimmed n s).0 * 10 ^ s
unfolding trimmed
trimmed_value n zero = refl
trimmed_value n (suc s) = trim_step (n % 10 == 0) n s (trimmed (n / 10) s) refl (trimmed_value (n / 10) s)

-- a signed magnitude and its multiples
signed_scaled : (b : Bool) (n k : ℕ) → signed b n *ℤ pos k ≡ signed b (n * k)
signed_scaled false n k = refl
signed_scaled true n k = minus_scaled n k

-- a decimal that is found is the one of the magnitude and scale
found_decimal : (b minus : Bool) (t : ℕ × ℕ) (c : Number) → cond b (Some (Decimal (signed minus t.0) t.1)) None ≡ Some c → Decimal (signed minus t.0) t.1 ≡ c
found_decimal true minus t c e = cc
found_decimal false minus t c e = cc

-- the least decimal has the value that it is made of
pub least_value : (minus : Bool) (n s : ℕ) (c : Number) → least_decimal minus n s ≡ Some c → numerator c *ℤ pos (10 ^ s) ≡ signed minus n *ℤ pos (10 ^ scale c)
least_value minus n s c e =
    let t : ℕ × ℕ = trimmed n s in
    let is : Decimal (signed minus t.0) t.1 ≡ c = found_decimal _ minus t c e in
    subst (λ d. numerator d *ℤ pos (10 ^ s) ≡ signed minus n *ℤ pos (10 ^ scale d)) is
    (signed_scaled minus t.0 (10 ^ s) ∙ ap (signed minus) (sym (trimmed_value n s)) ∙ sym (signed_scaled minus n (10 ^ t.1)))
