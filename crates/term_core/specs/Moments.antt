-- Dates and moments: what a lexical form and a datatype are as a day, or as a moment with a zone or without one
-- (XSD 1.1 part 2, sections 3.3.7 and 3.3.9). Of those forms the years 0001 to 9999 are read, fractions of a second of at
-- most nine digits, hours of at most 23, and dates without a zone.
use Rattle.std.specs.Prelude.{ℕ, zero, suc, ◌+◌, ◌-◌, ◌*◌, ◌/◌, ◌%◌, ◌^◌, ℤ, pos, ◌-ℤ◌, ◌+ℤ◌, ◌*ℤ◌}
use Rattle.std.specs.Prelude.{Bool, true, false, cond, not, ◌&&◌, ◌||◌, ◌==◌, nat_le, if◌then◌else◌}
use Rattle.std.specs.Prelude.{List, [], ◌∷◌, length, take, drop, codes, Option, Some, None, option_map}
use Rattle.std.specs.Ordering.{int_cmp}
use Rattle.std.specs.declared.cmp.Ordering.{Ordering}
use Rattle.std.specs.Str.{bytes_eq}
use Rattle.term_core.specs.Characters.{is_digit, is_between, front, after}
use Rattle.term_core.specs.Numbers.{digits_value, is_empty, is_minus, is_type, signed}

-- a moment with a zone, in nanoseconds from 1970-01-01T00:00:00Z; one without a zone, in nanoseconds from
-- 1970-01-01T00:00:00 of its own clock; or a day, in days from 1970-01-01 (XSD 1.1 part 2, sections 3.3.7 and 3.3.9)
pub data Moment : Type 0 where
  Instant : (nanos : ℤ) → Moment
  Local : (nanos : ℤ) → Moment
  Day : (day : ℤ) → Moment

-- ---- the calendar (ISO 8601; XSD 1.1 part 2, appendix D.2.1 and E.3)

-- each fourth year is a leap year, but of the centuries only each fourth
abbrev pub is_leap_year : ℕ → Bool
is_leap_year year = (year % 4 == 0) && (not (year % 100 == 0) || (year % 400 == 0))

-- the days of a month: 28 or 29, 30 in April, June, September and November, and else 31 (XSD, daysInMonth)
abbrev pub days_in_month : ℕ → ℕ → ℕ
days_in_month year month =
    if month == 2 then (if is_leap_year year then 29 else 28)
    else (if (month == 4) || (month == 6) || (month == 9) || (month == 11) then 30 else 31)

-- the days of the first n months of a year
unfoldable pub days_of_months : ℕ → ℕ → ℕ
days_of_months year zero = 0
days_of_months year (suc n) = days_of_months year n + days_in_month year (suc n)

-- the days of the years 1 to n: 365 each, and the leap days among them (XSD, timeOnTimeline)
abbrev pub days_of_years : ℕ → ℕ
days_of_years n = 365 * n + n / 4 - n / 100 + n / 400

-- the calendar has this date, in a year from 1 to 9999
abbrev pub is_date : ℕ → ℕ → ℕ → Bool
is_date year month day =
    is_between 1 9999 year && (is_between 1 12 month && is_between 1 (days_in_month year month) day)

-- the days from 1970-01-01 to a date: those of the years before it, of the months before it, and of its month
abbrev pub day_number : ℕ → ℕ → ℕ → ℤ
day_number year month day =
    pos (days_of_years (year - 1) + (days_of_months year (month - 1) + (day - 1))) -ℤ pos (days_of_years 1969)

-- the number of a date that the calendar has
abbrev pub day_of_date : ℕ → ℕ → ℕ → Option ℤ
day_of_date year month day = cond (is_date year month day) (Some (day_number year month day)) None

-- ---- lexical forms

-- a character suits a form's: a digit where that is 0, and else the same
abbrev pub suits : ℕ → ℕ → Bool
suits f c = if f == 48 then is_digit c else c == f

-- a digit where the form has a 0, and elsewhere the form's own character
abbrev pub has_form : List ℕ → List ℕ → Bool
has_form [] [] = true
has_form [] (c ∷ text) = false
has_form (f ∷ form) [] = false
has_form (f ∷ form) (c ∷ text) = suits f c && has_form form text

-- the number that n digits write from a place on
abbrev pub number_at : ℕ → ℕ → List ℕ → ℕ
number_at place n text = digits_value (take n (drop place text))

-- YYYY-MM-DD (XSD 3.3.9.1)
abbrev pub date_form : List ℕ
date_form = codes "0000-00-00"

-- YYYY-MM-DDThh:mm:ss (XSD 3.3.7.2)
abbrev pub date_time_form : List ℕ
date_time_form = codes "0000-00-00T00:00:00"

-- the day of a text that begins YYYY-MM-DD
abbrev pub day_at_front : List ℕ → Option ℤ
day_at_front text = day_of_date (number_at 0 4 text) (number_at 5 2 text) (number_at 8 2 text)

-- a time of day (XSD 3.3.7.2: an hour from 00 to 23, a minute and a second from 00 to 59)
abbrev pub is_time : ℕ → ℕ → ℕ → Bool
is_time hour minute second = nat_le hour 23 && (nat_le minute 59 && nat_le second 59)

-- the seconds of a day before a time of day
abbrev pub second_of_time : ℕ → ℕ → ℕ → Option ℕ
second_of_time hour minute second =
    cond (is_time hour minute second) (Some (hour * 3600 + minute * 60 + second)) None

-- the seconds of a day before the time in a text that begins YYYY-MM-DDThh:mm:ss
abbrev pub second_at_front : List ℕ → Option ℕ
second_at_front text = second_of_time (number_at 11 2 text) (number_at 14 2 text) (number_at 17 2 text)

-- ---- behind the seconds: a fraction or none, and a zone or none (XSD 3.3.7.2)

-- the nanoseconds that one to nine digits behind a point write
abbrev pub nanos_of_digits : List ℕ → Option ℕ
nanos_of_digits digits =
    cond (is_between 1 9 (length digits)) (Some (digits_value digits * 10 ^ (9 - length digits))) None

-- the nanoseconds behind the seconds, and the text behind them: none are written where no point stands in front
abbrev pub fraction_of : List ℕ → Option ℕ × List ℕ
fraction_of [] = (Some 0, [])
fraction_of (c ∷ text) =
    if c == 46 then (nanos_of_digits (front is_digit text), after is_digit text) else (Some 0, c ∷ text)

-- the minutes of a zone's hours and minutes: at most 14:00
abbrev pub minutes_of_zone : ℕ → ℕ → Option ℕ
minutes_of_zone hours minutes =
    cond (nat_le minutes 59 && nat_le (hours * 60 + minutes) 840) (Some (hours * 60 + minutes)) None

-- the minutes that a zone is ahead of UTC: Z, or a sign and hh:mm (XSD 3.3.7.2, timezoneFrag)
abbrev pub offset_of : List ℕ → Option ℤ
offset_of zone =
    if bytes_eq zone (codes "Z") then Some (pos 0)
    else if has_form (codes "+00:00") zone || has_form (codes "-00:00") zone then
    option_map (signed (is_minus zone)) (minutes_of_zone (number_at 1 2 zone) (number_at 4 2 zone))
    else None

-- the moment of a count of nanoseconds on a clock: without a zone that count, and with one the count less the offset
abbrev pub moment_in_zone : ℤ → List ℕ → Option Moment
moment_in_zone nanos zone =
    if is_empty zone then Some (Local nanos)
    else option_map (λ minutes. Instant (nanos -ℤ minutes *ℤ pos 60_000_000_000)) (offset_of zone)

-- ---- the moment of a literal

-- the nanoseconds from 1970-01-01T00:00:00 on one clock (XSD, timeOnTimeline)
abbrev pub clock_nanos : ℤ → ℕ → ℕ → ℤ
clock_nanos day second nanos = (day *ℤ pos 86_400 +ℤ pos second) *ℤ pos 1_000_000_000 +ℤ pos nanos

-- the moment of a day, of the seconds in it, of a fraction and of a zone, if there is each of them
abbrev pub moment_of_parts : Option ℤ → Option ℕ → Option ℕ × List ℕ → Option Moment
moment_of_parts None second rest = None
moment_of_parts (Some day) None rest = None
moment_of_parts (Some day) (Some second) (None, zone) = None
moment_of_parts (Some day) (Some second) (Some nanos, zone) = moment_in_zone (clock_nanos day second nanos) zone

-- the day of a text YYYY-MM-DD
abbrev pub moment_of_date : List ℕ → Option Moment
moment_of_date text = cond (has_form date_form text) (option_map Day (day_at_front text)) None

-- the moment of a text YYYY-MM-DDThh:mm:ss with a fraction or none and a zone or none
abbrev pub moment_of_date_time : List ℕ → Option Moment
moment_of_date_time text =
    cond (has_form date_time_form (take 19 text))
    (moment_of_parts (day_at_front text) (second_at_front text) (fraction_of (drop 19 text))) None

-- xsd:dateTime (XSD 3.3.7)
abbrev pub xsd_date_time : List ℕ
xsd_date_time = codes "http://www.w3.org/2001/XMLSchema#dateTime"

-- xsd:date (XSD 3.3.9)
abbrev pub xsd_date : List ℕ
xsd_date = codes "http://www.w3.org/2001/XMLSchema#date"

-- the moment of a lexical form and a datatype (XSD 2.3: the lexical mapping)
abbrev pub moment_of : List ℕ → List ℕ → Option Moment
moment_of text datatype =
    if is_type xsd_date_time datatype then moment_of_date_time text
    else if is_type xsd_date datatype then moment_of_date text
    else None

-- ---- order

-- the order of two moments of one kind, by the number; there is none between kinds (SPARQL 1.1, 17.3)
abbrev pub moment_cmp : Moment → Moment → Option Ordering
moment_cmp (Instant a) (Instant b) = Some (int_cmp a b)
moment_cmp (Instant a) (Local b) = None
moment_cmp (Instant a) (Day b) = None
moment_cmp (Local a) (Instant b) = None
moment_cmp (Local a) (Local b) = Some (int_cmp a b)
moment_cmp (Local a) (Day b) = None
moment_cmp (Day a) (Instant b) = None
moment_cmp (Day a) (Local b) = None
moment_cmp (Day a) (Day b) = Some (int_cmp a b)
