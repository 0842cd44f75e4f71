-- The answers of the operations have the values that they name.
use Rattle.std.proofs.Common.{◌≡◌, ℕ, zero, suc, ◌+◌, ◌*◌, ◌/◌, ◌^◌, max, refl, sym, ap, subst, ◌∙◌, Bool, true, false, cond, ◌==◌, ℤ, pos, negsuc, neg_ℤ, ◌+ℤ◌, ◌-ℤ◌, ◌*ℤ◌}
use Rattle.std.proofs.Math.Nat.{zero-div}
use Rattle.std.specs.Int.{is_negative}
use Rattle.std.specs.Prelude.{Option, Some, None, Result, Ok, Err, ok_or, unsigned_abs, int_div, ◌&&◌, nat_lt}
use Rattle.term_core.specs.Numbers.{Number, Whole, Decimal, Fault, Range, Zero, numerator, scale, are_whole, at_scale, are_held_at, signed, is_held, least_decimal, made, do_differ, cut_quotient, sum_at, difference_at, sum, difference, product, quotient}
use Rattle.xsd_num.proofs.Places.{natural_sign}
use Rattle.xsd_num.proofs.Scales.{least_value}

-- what is made of a numerator and a scale has their value
signed_back : (m : ℤ) → signed (is_negative m) (unsigned_abs m) ≡ m
signed_back (pos n) = rw (natural_sign n) refl
signed_back (negsuc n) = refl

made_if : (held whole : Bool) (m : ℤ) (s : ℕ) (a : Number) → (whole ≡ true → s ≡ 0)
    → cond held (cond whole (Some (Whole m)) (least_decimal (is_negative m) (unsigned_abs m) s)) None ≡ Some a
    → numerator a *ℤ pos (10 ^ s) ≡ m *ℤ pos (10 ^ scale a)
made_if false whole m s a z e = cc
made_if true true m s a z e =
    let is : Whole m ≡ a = cc in
    subst (λ d. numerator d *ℤ pos (10 ^ s) ≡ m *ℤ pos (10 ^ scale d)) is (ap (λ k. m *ℤ pos (10 ^ k)) (z refl))
made_if true false m s a z e =
    least_value (is_negative m) (unsigned_abs m) s a e ∙ ap (λ k. k *ℤ pos (10 ^ scale a)) (signed_back m)

pub made_value : (whole : Bool) (m : ℤ) (s : ℕ) (a : Number) → (whole ≡ true → s ≡ 0) → made whole m s ≡ Some a
    → numerator a *ℤ pos (10 ^ s) ≡ m *ℤ pos (10 ^ scale a)
made_value whole m s a z e = made_if (is_held m) whole m s a z e

-- the quotient of magnitudes with its sign is the quotient toward zero
minus_quotient : (k n : ℕ) → int_div (neg_ℤ (pos k)) (pos n) ≡ neg_ℤ (pos (k / n))
minus_quotient zero n = let none : 0 / n ≡ 0 = zero-div n in rw none refl
minus_quotient (suc k) n = refl

minus_both : (k n : ℕ) → int_div (neg_ℤ (pos k)) (negsuc n) ≡ pos (k / suc n)
minus_both zero n = let none : 0 / suc n ≡ 0 = zero-div (suc n) in rw none refl
minus_both (suc k) n = refl

pub quotient_toward_zero : (m n : ℤ) (w : ℕ) → signed (do_differ m n) (unsigned_abs m * w / unsigned_abs n) ≡ int_div (m *ℤ pos w) n
quotient_toward_zero (pos m) (pos n) w = rw (natural_sign m, natural_sign n) refl
quotient_toward_zero (pos m) (negsuc n) w = rw (natural_sign m) refl
quotient_toward_zero (negsuc m) (pos n) w = rw (natural_sign n) (sym (minus_quotient (suc m * w) n))
quotient_toward_zero (negsuc m) (negsuc n) w = sym (minus_both (suc m * w) n)

-- the answers of the operations
ok_some : (o : Option Number) (c : Number) → ok_or o Range ≡ Ok c → o ≡ Some c
ok_some None c e = cc
ok_some (Some x) c e = cc

cond_some : (b : Bool) (o : Option Number) (c : Number) → cond b o None ≡ Some c → o ≡ Some c
cond_some true o c e = e
cond_some false o c e = cc

cond_ok : (b : Bool) (r : Result Number Fault) (c : Number) → cond b (Err Zero) r ≡ Ok c → r ≡ Ok c
cond_ok true r c e = cc
cond_ok false r c e = e

whole_scale : (a b : Number) → are_whole a b ≡ true → max (scale a) (scale b) ≡ 0
whole_scale (Whole m) (Whole n) e = refl
whole_scale (Whole m) (Decimal n t) e = cc
whole_scale (Decimal m s) b e = cc

whole_scales : (a b : Number) → are_whole a b ≡ true → scale a + scale b ≡ 0
whole_scales (Whole m) (Whole n) e = refl
whole_scales (Whole m) (Decimal n t) e = cc
whole_scales (Decimal m s) b e = cc

pub sum_value : (a b c : Number) → sum a b ≡ Ok c
    → numerator c *ℤ pos (10 ^ max (scale a) (scale b)) ≡ (at_scale (max (scale a) (scale b)) a +ℤ at_scale (max (scale a) (scale b)) b) *ℤ pos (10 ^ scale c)
sum_value a b c e =
    let t : ℕ = max (scale a) (scale b) in
    made_value (are_whole a b) (at_scale t a +ℤ at_scale t b) t c (whole_scale a b)
    (cond_some (are_held_at t a b) (made (are_whole a b) (at_scale t a +ℤ at_scale t b) t) c (ok_some (sum_at t a b) c e))

pub difference_value : (a b c : Number) → difference a b ≡ Ok c
    → numerator c *ℤ pos (10 ^ max (scale a) (scale b)) ≡ (at_scale (max (scale a) (scale b)) a -ℤ at_scale (max (scale a) (scale b)) b) *ℤ pos (10 ^ scale c)
difference_value a b c e =
    let t : ℕ = max (scale a) (scale b) in
    made_value (are_whole a b) (at_scale t a -ℤ at_scale t b) t c (whole_scale a b)
    (cond_some (are_held_at t a b) (made (are_whole a b) (at_scale t a -ℤ at_scale t b) t) c (ok_some (difference_at t a b) c e))

pub product_value : (a b c : Number) → product a b ≡ Ok c
    → numerator c *ℤ pos (10 ^ (scale a + scale b)) ≡ numerator a *ℤ numerator b *ℤ pos (10 ^ scale c)
product_value a b c e =
    made_value (are_whole a b) (numerator a *ℤ numerator b) (scale a + scale b) c (whole_scales a b)
    (ok_some (made (are_whole a b) (numerator a *ℤ numerator b) (scale a + scale b)) c e)

pub quotient_value : (a b c : Number) → quotient a b ≡ Ok c
    → numerator c *ℤ pos (10 ^ 18)
    ≡ int_div (at_scale (max (scale a) (scale b)) a *ℤ pos (10 ^ 18)) (at_scale (max (scale a) (scale b)) b) *ℤ pos (10 ^ scale c)
quotient_value a b c e =
    let t : ℕ = max (scale a) (scale b) in
    let x : ℤ = at_scale t a in
    let y : ℤ = at_scale t b in
    let q : ok_or (cut_quotient x y) Range ≡ Ok c = cond_ok (unsigned_abs (numerator b) == 0) (ok_or (cut_quotient x y) Range) c e in
    let d : least_decimal (do_differ x y) (unsigned_abs x * 10 ^ 18 / unsigned_abs y) 18 ≡ Some c =
    cond_some (is_held x && (is_held y && nat_lt (unsigned_abs y) (10 ^ 37))) (least_decimal (do_differ x y) (unsigned_abs x * 10 ^ 18 / unsigned_abs y) 18) c (ok_some (cut_quotient x y) c q) in
    least_value (do_differ x y) (unsigned_abs x * 10 ^ 18 / unsigned_abs y) 18 c d ∙ ap (λ k. k *ℤ pos (10 ^ scale c)) (quotient_toward_zero x y (10 ^ 18))
