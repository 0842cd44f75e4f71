-- How numbers lose the zeros at their ends.
use Rattle.std.proofs.Common.{◌≡◌, ◌≢◌, ℕ, zero, suc, ◌-◌, ◌/◌, ◌%◌, ◌<◌, refl, arith, Bool, true, false, ◌⊎◌}
use Rattle.std.proofs.lemmas.Grind.{common_steps}
use Rattle.std.proofs.Common.{sym}
use Rattle.std.specs.Prelude.{unsigned_abs, IsTrue, IfSome, Option, Some, None}
use Rattle.term_core.specs.Numbers.{trimmed, signed, is_kept, held_decimal, least_decimal}
use Rattle.xsd_num.specs.Values.{number_of, found}
use Rattle.xsd_num.specs.declared.num.Num.{Num}
use Rattle.xsd_num.specs.declared.num.Num.TheVariants.{Whole, Decimal}

-- a zero at the end goes where there are places
pub trims_zero : (n s : ℕ) → 0 < s → n % 10 ≡ 0 → trimmed (n / 10) (s - 1) ≡ trimmed n s
unfolding trimmed
trims_zero n zero p e = absurd (omega arith)
trims_zero n (suc s) p e = grind (arith, common_steps)

-- without places nothing goes
pub trims_no_place : (n s : ℕ) → s ≡ 0 → trimmed n s ≡ (n, s)
unfolding trimmed
trims_no_place n zero e = refl
trims_no_place n (suc s) e = absurd (omega arith)

-- another digit at the end stays
pub trims_no_digit : (n s : ℕ) → n % 10 ≢ 0 → trimmed n s ≡ (n, s)
unfolding trimmed
trims_no_digit n zero e = refl
trims_no_digit n (suc s) e = grind (arith, common_steps)

ends_after : (n s m t : ℕ) → (trimmed (n / 10) s ≡ (m, t) → (t ≡ 0) ⊎ (m % 10 ≢ 0)) → trimmed n (suc s) ≡ (m, t) → (t ≡ 0) ⊎ (m % 10 ≢ 0)
unfolding trimmed
ends_after n s m t more e = grind (arith, common_steps)

-- what is left has no zero at its end, or no places
pub trimmed_ends : (n s m t : ℕ) → trimmed n s ≡ (m, t) → (t ≡ 0) ⊎ (m % 10 ≢ 0)
unfolding trimmed
trimmed_ends n zero m t e = grind (arith, common_steps)
trimmed_ends n (suc s) m t e = ends_after n s m t (trimmed_ends (n / 10) s m t) e

-- a magnitude loses its sign again
pub signed_magnitude : (b : Bool) (n : ℕ) → unsigned_abs (signed b n) ≡ n
signed_magnitude false n = refl
signed_magnitude true zero = refl
signed_magnitude true (suc n) = refl

-- a decimal is kept where its numerator ends in another digit than 0, or it has no places
kept_decimal : (minus : Bool) (m t : ℕ) (r : Option Num) → (t ≡ 0) ⊎ (m % 10 ≢ 0) → found r ≡ held_decimal minus (m, t) → IfSome r (λ n. IsTrue (is_kept (number_of n)))
kept_decimal minus m t None ends e = tt
kept_decimal minus m t (Some (Whole k)) ends e = grind (arith, common_steps)
kept_decimal minus m t (Some (Decimal k s)) ends e = grind (arith, common_steps, signed_magnitude minus m)

-- a decimal at its least scale is kept
pub least_is_kept : (minus : Bool) (n s : ℕ) (t : ℕ × ℕ) (r : Option Num) → t ≡ trimmed n s → found r ≡ held_decimal minus (t.0, t.1) → IfSome r (λ n. IsTrue (is_kept (number_of n)))
least_is_kept minus n s t r e f = kept_decimal minus t.0 t.1 r (trimmed_ends n s t.0 t.1 (sym e)) f

-- so is what is one
pub least_kept : (minus : Bool) (n s : ℕ) (r : Option Num) → found r ≡ least_decimal minus n s → IfSome r (λ n. IsTrue (is_kept (number_of n)))
least_kept minus n s r e = least_is_kept minus n s (trimmed n s) r refl e
