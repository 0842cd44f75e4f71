-- The comparisons that follow from equality and less (SPARQL 1.1, section 17.3). Each is an error exactly where the one that
-- it is made of is: so `<=` of two terms without an order is an error, even where they are equal.
use Rattle.std.specs.Prelude.{◌≡◌, ◌⊎◌, true, false, not, Bool, Option, Some, option_map}
use Rattle.term_core.specs.declared.term.Term.{Term}
use Rattle.value_table.specs.Values.{equal, less}

-- a != b: not a = b
abbrev pub unequal : Term → Term → Option Bool
unequal a b = option_map not (equal a b)

-- a > b: b < a
abbrev pub greater : Term → Term → Option Bool
greater a b = less b a

-- a <= b: not b < a
abbrev pub at_most : Term → Term → Option Bool
at_most a b = option_map not (less b a)

-- a >= b: not a < b
abbrev pub at_least : Term → Term → Option Bool
at_least a b = option_map not (less a b)

-- what a < b, a = b and b < a answer
pub record ComparesAs (a b : Term) (is_less is_equal is_greater : Bool) : Type 0 where
  pub below : less a b ≡ Some is_less
  pub level : equal a b ≡ Some is_equal
  pub above : less b a ≡ Some is_greater

-- exactly one of a < b, a = b and b < a is true, and none is an error
abbrev pub IsOneOfThree : Term → Term → Type 0
IsOneOfThree a b = ComparesAs a b true false false ⊎ (ComparesAs a b false true false ⊎ ComparesAs a b false false true)
