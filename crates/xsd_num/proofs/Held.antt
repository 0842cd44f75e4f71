-- Numbers of 128 bits.
use Rattle.std.proofs.Common.{◌≡◌, ℕ, ◌-◌, ◌*◌, ◌/◌, ◌^◌, ◌<◌, sym, ap, ◌∙◌, arith, Bool, true, false, cond, ℤ, pos, negsuc}
use Rattle.std.proofs.lemmas.Grind.{common_steps}
use Rattle.std.proofs.lemmas.Int.{to_z-of_z, unsigned_abs-mul}
use Rattle.std.proofs.lemmas.Nat.{mul-lt}
use Rattle.std.specs.Prelude.{unsigned_abs, Option, Some, None, ◌&&◌, nat_lt, FitsSigned, IfSome, IsTrue}
use Rattle.std.specs.Int.{is_negative}
use mir.Syntax.{w128}
use mir.Val.{to_z, of_z}
use Rattle.term_core.specs.Numbers as numbers
use Rattle.term_core.specs.Numbers.{Number, is_held, at_scale, are_held_at, are_whole, made, least_decimal, cut_quotient, do_differ, numerator, scale, is_kept}
use Rattle.xsd_num.specs.Values.{number_of, found, held}
use Rattle.xsd_num.specs.declared.num.Num.{Num}
use Rattle.xsd_num.specs.declared.num.Num.TheVariants.{Whole, Decimal}
use Rattle.xsd_num.proofs.Trims.{least_kept}
use Rattle.xsd_num.proofs.Places.{power_positive}

-- what is held has 128 bits, and is itself
pub held_some : (z x : ℤ) → held z ≡ Some x → (is_held z ≡ true) × (z ≡ x)
held_some z x e = grind (arith, common_steps)

pub held_fits : (z : ℤ) → is_held z ≡ true → FitsSigned w128 z
held_fits (pos n) e = record { sfits = grind (arith, common_steps) }
held_fits (negsuc n) e = record { sfits = grind (arith, common_steps) }

-- so the bits of what is held are those of it
pub bits_back : (z x : ℤ) → held z ≡ Some x → to_z w128 (of_z w128 x) ≡ x
bits_back z x e = to_z-of_z w128 x (held_fits x (ap is_held (sym (held_some z x e).1) ∙ (held_some z x e).0))

-- a number that is made of two numerators at one scale
pub combined_is :
    (op : ℤ → ℤ → ℤ) (t : ℕ) (a b : Number) (whole : Bool) (x y m : ℤ) (r : Option Num)
    → held (at_scale t a) ≡ Some x → held (at_scale t b) ≡ Some y
    → held (op (to_z w128 (of_z w128 x)) (to_z w128 (of_z w128 y))) ≡ Some m
    → whole ≡ are_whole a b
    → found r ≡ cond whole (Some (numbers.Whole (to_z w128 (of_z w128 m)))) (least_decimal (is_negative (to_z w128 (of_z w128 m))) (unsigned_abs (to_z w128 (of_z w128 m))) t)
    → found r ≡ cond (are_held_at t a b) (made (are_whole a b) (op (at_scale t a) (at_scale t b)) t) None
combined_is op t a b whole x y m r p q o w e =
    let px = held_some (at_scale t a) x p in
    let qy = held_some (at_scale t b) y q in
    let om = held_some (op (to_z w128 (of_z w128 x)) (to_z w128 (of_z w128 y))) m o in
    let bx = bits_back (at_scale t a) x p in
    let by = bits_back (at_scale t b) y q in
    let bm = bits_back (op (to_z w128 (of_z w128 x)) (to_z w128 (of_z w128 y))) m o in
    made_of op t (at_scale t a) (at_scale t b) whole (are_whole a b) x y m r px qy (rw (bx, by) at om) w (rw bm at e)
  where
    made_of :
        (op : ℤ → ℤ → ℤ) (t : ℕ) (za zb : ℤ) (whole both : Bool) (x y m : ℤ) (r : Option Num)
        → (is_held za ≡ true) × (za ≡ x) → (is_held zb ≡ true) × (zb ≡ y) → (is_held (op x y) ≡ true) × (op x y ≡ m) → whole ≡ both
        → found r ≡ cond whole (Some (numbers.Whole m)) (least_decimal (is_negative m) (unsigned_abs m) t)
        → found r ≡ cond (is_held za && is_held zb) (made both (op za zb) t) None
    made_of op t za zb whole both x y m r p q o w e = grind (arith, common_steps)

-- a quotient of two numerators at one scale
pub quotient_combined : (t : ℕ) (a b : Number) (x y : ℤ) (r : Option Num)
    → held (at_scale t a) ≡ Some x → held (at_scale t b) ≡ Some y
    → found r ≡ cut_quotient (to_z w128 (of_z w128 x)) (to_z w128 (of_z w128 y))
    → found r ≡ cut_quotient (at_scale t a) (at_scale t b)
quotient_combined t a b x y r p q e =
    e ∙ ap (λ z. cut_quotient z (to_z w128 (of_z w128 y))) (bits_back (at_scale t a) x p ∙ sym (held_some (at_scale t a) x p).1)
    ∙ ap (λ z. cut_quotient (at_scale t a) z) (bits_back (at_scale t b) y q ∙ sym (held_some (at_scale t b) y q).1)

-- a divisor that is not zero stays so at a greater scale
pub divisor_positive : (t : ℕ) (b : Number) (y : ℤ) → 0 < unsigned_abs (numerator b) → held (at_scale t b) ≡ Some y → 0 < unsigned_abs (to_z w128 (of_z w128 y))
divisor_positive t b y h q =
    let back : to_z w128 (of_z w128 y) ≡ at_scale t b = bits_back (at_scale t b) y q ∙ sym (held_some (at_scale t b) y q).1 in
    let size : unsigned_abs (at_scale t b) ≡ unsigned_abs (numerator b) * 10 ^ (t - scale b) = unsigned_abs-mul (numerator b) (pos (10 ^ (t - scale b))) in
    rw (back, size) (mul-lt 0 0 (unsigned_abs (numerator b)) (10 ^ (t - scale b)) h (power_positive (t - scale b)))

-- a quotient is kept
kept_if : (b minus : Bool) (n s : ℕ) (r : Option Num) → found r ≡ cond b (least_decimal minus n s) None → IfSome r (λ n. IsTrue (is_kept (number_of n)))
kept_if true minus n s r e = least_kept minus n s r e
kept_if false minus n s None e = tt
kept_if false minus n s (Some (Whole m)) e = cc
kept_if false minus n s (Some (Decimal m t)) e = cc

pub quotient_kept : (m n : ℤ) (r : Option Num) → found r ≡ cut_quotient m n → IfSome r (λ n. IsTrue (is_kept (number_of n)))
quotient_kept m n r e =
    kept_if (is_held m && (is_held n && nat_lt (unsigned_abs n) (10 ^ 37))) (do_differ m n) (unsigned_abs m * 10 ^ 18 / unsigned_abs n) 18 r e
