-- Numbers of rows (SPARQL 1.1, 15.4 and 15.5).
use Rattle.std.specs.Prelude.{ℕ, ◌^◌, cond, nat_lt, List, Option, Some, None}
use Rattle.term_core.specs.Numbers.{digits_value}
use Rattle.sparql_grammar.specs.QueryReading.{fits_64_bits}

-- the number, if it is below 2^64
abbrev pub below_64_bits : ℕ → Option ℕ
below_64_bits n = cond (nat_lt n (2 ^ 64)) (Some n) None

-- the number that a text of digits writes, if it is below 2^64
abbrev pub count_of_digits : List ℕ → Option ℕ
count_of_digits text = cond (fits_64_bits text) (Some (digits_value text)) None
