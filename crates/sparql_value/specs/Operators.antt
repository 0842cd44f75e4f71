-- The operators over the values of their operands (SPARQL 1.1, sections 17.2 to 17.4.1). None is the error, also of an operand.
use Rattle.std.specs.Prelude.{Bool, true, false, not, List, [], ◌∷◌, Option, Some, None, option_map, option_and_then, Result}
use Rattle.std.specs.Result.{result_ok}
use Rattle.term_core.specs.declared.term.Term.{Term}
use Rattle.term_core.specs.Numbers.{Number, Fault, sum, difference, product, quotient, negation}
use Rattle.value_table.specs.Values.{value_of, kept_number, truth, equal, less}
use Rattle.value_table.specs.Comparisons.{unequal, greater, at_most, at_least}
use Rattle.sparql_tree.specs.declared.words.CompareOp.{CompareOp}
use Rattle.sparql_tree.specs.declared.words.CompareOp.TheVariants as ops

-- the truth of an operand
abbrev pub as_truth : Option Term → Option Bool
as_truth operand = option_and_then truth operand

-- the number of an operand
abbrev pub as_number : Option Term → Option Number
as_number operand = option_and_then (λ t. kept_number (value_of t)) operand

-- what is asked of two operands, if both are there
abbrev pub on_both : {A : Type 0} → (Term → Term → Option A) → Option Term → Option Term → Option A
on_both table None b = None
on_both table (Some a) None = None
on_both table (Some a) (Some b) = table a b

-- a || b: true where one side is, and else an error where one side is one (SPARQL 1.1, section 17.2)
abbrev pub either : Option Bool → Option Bool → Option Bool
either (Some true) b = Some true
either (Some false) b = b
either None (Some true) = Some true
either None (Some false) = None
either None None = None

-- a && b: false where one side is, and else an error where one side is one (SPARQL 1.1, section 17.2)
abbrev pub both : Option Bool → Option Bool → Option Bool
both (Some true) b = b
both (Some false) b = Some false
both None (Some true) = None
both None (Some false) = Some false
both None None = None

-- a || b || ..
abbrev pub any_true : List (Option Term) → Option Bool
any_true [] = Some false
any_true (first ∷ rest) = either (as_truth first) (any_true rest)

-- a && b && ..
abbrev pub all_true : List (Option Term) → Option Bool
all_true [] = Some true
all_true (first ∷ rest) = both (as_truth first) (all_true rest)

-- the comparisons (SPARQL 1.1, section 17.3)
abbrev pub comparison : CompareOp → Option Term → Option Term → Option Bool
comparison ops.Eq a b = on_both equal a b
comparison ops.Ne a b = on_both unequal a b
comparison ops.Lt a b = on_both less a b
comparison ops.Gt a b = on_both greater a b
comparison ops.Le a b = on_both at_most a b
comparison ops.Ge a b = on_both at_least a b

-- x IN (a, b, ..), which is x = a || x = b || .. (SPARQL 1.1, section 17.4.1.9)
abbrev pub in_list : Option Term → List (Option Term) → Option Bool
in_list x [] = Some false
in_list x (first ∷ rest) = either (on_both equal x first) (in_list x rest)

-- IN, or NOT IN where it is negated (SPARQL 1.1, section 17.4.1.10)
abbrev pub membership : Bool → Option Term → List (Option Term) → Option Bool
membership false x items = in_list x items
membership true x items = option_map not (in_list x items)

-- a step of a chain of numbers, each of which is there
abbrev pub on_numbers : (Number → Number → Result Number Fault) → Option Number → Option Number → Option Number
on_numbers operator None b = None
on_numbers operator (Some a) None = None
on_numbers operator (Some a) (Some b) = result_ok (operator a b)

-- + and - (SPARQL 1.1, section 17.3)
abbrev pub adding : Bool → Number → Number → Result Number Fault
adding false a b = sum a b
adding true a b = difference a b

-- * and / (SPARQL 1.1, section 17.3)
abbrev pub multiplying : Bool → Number → Number → Result Number Fault
multiplying false a b = product a b
multiplying true a b = quotient a b

-- a chain of operators of one level, from the left; an operand says whether it is subtracted, or divided by
abbrev pub chain : (Bool → Number → Number → Result Number Fault) → Option Number → List (Bool × Option Term) → Option Number
chain operator done [] = done
chain operator done (next ∷ rest) = chain operator (on_numbers (operator next.0) done (as_number next.1)) rest

-- the sign - (SPARQL 1.1, section 17.3)
abbrev pub opposite : Option Number → Option Number
opposite number = option_and_then (λ n. result_ok (negation n)) number
