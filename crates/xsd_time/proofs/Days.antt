-- The number of a day is that of the library's calendar, which counts from the year -10000.
use Rattle.std.proofs.Common.{◌≡◌, ℕ, zero, suc, ◌+◌, ◌-◌, ◌≤◌, refl, sym, ap, ◌∙◌, arith, pos, unsigned_abs, true, cond, Some, None}
use Rattle.std.proofs.lemmas.Bool.Decides.{nat_tests}
use Rattle.jiff_core.specs.Calendar.{days_of_years, days_of_months, day_count, days_from_civil, IsCivilDate}
use Rattle.jiff_core.specs.Date.{epoch_day, IsYmd}
use Rattle.jiff_core.specs.declared.civil.date.Date.{Date}
use Rattle.jiff_core.proofs.SignedLemmas.{signed_arith}
use Rattle.jiff_core.proofs.CalendarLemmas.{day_count-epoch}
use Rattle.jiff_core.proofs.DateLemmas.{civil}
use Rattle.jiff_core.proofs.MarchLemmas.{days_of_years-march_days, march_days-suc}
use Rattle.term_core.specs.Moments as moments

-- the days of months
months_same : (y n : ℕ) → days_of_months (pos y) n ≡ moments.days_of_months y n
unfolding days_of_months moments.days_of_months
months_same y zero = refl
months_same y (suc n) = ap (λ days. days + moments.days_in_month y (suc n)) (months_same y n)

-- the days of the years from -10000 on, and those from 1 on
years_same : (n : ℕ) → days_of_years (suc n + 10000) ≡ 3_652_791 + moments.days_of_years n
years_same n =
    let same : suc n + 10000 ≡ suc (n + 10000) = omega arith in
    rw same (omega (arith, days_of_years-march_days (suc (n + 10000)), march_days-suc (n + 10000)))

-- the count of a day
count_same : (n m d : ℕ) → 1 ≤ m → 1 ≤ d
    → day_count (pos (suc n)) m d ≡ 3_652_791 + (moments.days_of_years n + (moments.days_of_months (suc n) (m - 1) + (d - 1)))
unfolding day_count
count_same n m d low first = omega (arith, years_same n, months_same (suc n) (m - 1))

-- the number of a day
number_same : (n m d : ℕ) → 1 ≤ m → 1 ≤ d → days_from_civil (pos (suc n)) m d ≡ moments.day_number (suc n) m d
unfolding days_from_civil
number_same n m d low first = rw day_count-epoch (omega (arith, signed_arith, count_same n m d low first))

-- a date of the library is one
are_in : (n m d : ℕ) → suc n ≤ 9999 → IsCivilDate (pos (suc n)) m d → moments.is_date (suc n) m d ≡ true
are_in n m d high h = grind (arith, nat_tests, h.1.0, h.1.1, h.2.0, h.2.1)

number_of_civil : (n m d : ℕ) → suc n ≤ 9999 → IsCivilDate (pos (suc n)) m d
    → Some (days_from_civil (pos (suc n)) m d) ≡ moments.day_of_date (suc n) m d
number_of_civil n m d high h =
    ap Some (number_same n m d h.1.0 h.2.0)
    ∙ sym (ap (λ is. cond is (Some (moments.day_number (suc n) m d)) None) (are_in n m d high h))

-- the number of a date of the library
pub number_of_date : (y m d : ℕ) (date : Date) → 1 ≤ y → y ≤ 9999 → IsYmd (pos y) (pos m) (pos d) date
    → Some (epoch_day date) ≡ moments.day_of_date y m d
number_of_date zero m d date low high h = absurd (omega arith)
number_of_date (suc n) m d date low high h =
    let month : date.month ≡ m = ap unsigned_abs h.1 in
    let day : date.day ≡ d = ap unsigned_abs h.2 in
    let is : IsCivilDate (pos (suc n)) m d = rw (h.0, month, day) at (civil date) in
    rw (h.0, month, day) (number_of_civil n m d high is)
