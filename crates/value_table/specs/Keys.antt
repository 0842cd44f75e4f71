-- The order of the keys of ORDER BY (SPARQL 1.1, section 15.1).
use Rattle.std.specs.Prelude.{ℕ, Option, Some, None}
use Rattle.std.specs.Ordering.{nat_cmp, ordering_then}
use Rattle.std.specs.declared.cmp.Ordering.{Ordering}
use Rattle.std.specs.declared.cmp.Ordering.TheVariants.{Equal}
use Rattle.term_core.specs.declared.term.Term.{Term}
use Rattle.term_core.specs.declared.term.Term.TheVariants.{Iri, Blank, Literal}
use Rattle.term_core.specs.Order.{term_cmp}
use Rattle.value_table.specs.Values.{Value, Numeric, WideNumber, Logical, IllFormed, Simple, Temporal, Tagged, Opaque, Resource}
use Rattle.value_table.specs.Values.{value_of, value_cmp}
use Rattle.term_core.specs.Moments.{Moment, Instant, Local, Day}

-- where a moment's kind stands among the literals: those with a zone, those without one, days
abbrev pub moment_rank : Moment → ℕ
moment_rank (Instant nanos) = 3
moment_rank (Local nanos) = 4
moment_rank (Day day) = 5

-- where a literal's class stands among the literals: numbers, truth values, strings, moments, and all others
abbrev pub class_rank : Value → ℕ
class_rank (Numeric number) = 0
class_rank (Logical truth) = 1
class_rank (Simple text) = 2
class_rank (Temporal moment) = moment_rank moment
class_rank WideNumber = 6
class_rank IllFormed = 6
class_rank (Tagged text tag) = 6
class_rank Opaque = 6
class_rank Resource = 6

-- where a key stands: nothing, blank nodes, IRIs, literals
abbrev pub key_rank : Option Term → ℕ
key_rank None = 0
key_rank (Some (Blank label)) = 1
key_rank (Some (Iri iri)) = 2
key_rank (Some (Literal text datatype tag)) = 3

-- the class of a key that is a literal
abbrev pub literal_rank : Option Term → ℕ
literal_rank None = 0
literal_rank (Some t) = class_rank (value_of t)

-- the order of the values, where there is one, and else that of the terms
abbrev pub value_or_term : Option Ordering → Term → Term → Ordering
value_or_term (Some order) a b = order
value_or_term None a b = term_cmp a b

-- two keys of one rank and one class
abbrev pub same_rank_cmp : Option Term → Option Term → Ordering
same_rank_cmp None b = Equal
same_rank_cmp (Some a) None = Equal
same_rank_cmp (Some a) (Some b) = value_or_term (value_cmp (value_of a) (value_of b)) a b

-- the order of two keys; a key that is unbound or an error is None
abbrev pub order_keys : Option Term → Option Term → Ordering
order_keys a b =
    ordering_then (nat_cmp (key_rank a) (key_rank b)) (ordering_then (nat_cmp (literal_rank a) (literal_rank b)) (same_rank_cmp a b))
