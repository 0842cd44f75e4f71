-- What the value of an expression depends on, and what decides a chain of conditions.
use Rattle.std.specs.Prelude.{◌≡◌, Bool, true, false, not, if◌then◌else◌, List, Option, Some, None, option_map}
use Rattle.std.specs.List.{list_any, list_all}
use Rattle.term_core.specs.declared.term.Term.{Term}
use Rattle.term_core.specs.Mappings.{Name, Row, value, has_name, restricted}
use Rattle.sparql_tree.specs.Exprs.{Expr}
use Rattle.sparql_tree.specs.Scopes.{outside}
use Rattle.value_table.specs.Values.{equal}
use Rattle.sparql_value.specs.Operators.{as_truth, on_both, any_true, all_true, in_list}
use Rattle.sparql_value.specs.Evaluation.{value_under}

-- two solutions bind alike the variables that an expression names outside aggregates
abbrev pub AgreeOn : Expr → Row → Row → Type 0
AgreeOn e a b = (name : Name) → has_name (outside e) name ≡ true → value a name ≡ value b name

-- then the expression has the same value on both
abbrev pub NamesDecide : Type 0
NamesDecide = (e : Expr) (a b : Row) → AgreeOn e a b → value_under e a ≡ value_under e b

-- the value on a solution is that on its part of these variables
abbrev pub NamesAreEnough : Type 0
NamesAreEnough = (e : Expr) (row : Row) → value_under e (restricted (outside e) row) ≡ value_under e row

-- what a truth says of this one; an error says neither
abbrev pub says : Bool → Option Bool → Bool
says claim None = false
says true (Some b) = b
says false (Some b) = not b

-- true where some say so, else false where all deny it, and else the error
abbrev pub decided : Bool → Bool → Option Bool
decided some none = if some then Some true else if none then Some false else None

-- || is true where a side is, else false where all are, and else the error
abbrev pub OrDecides : Type 0
OrDecides = (sides : List (Option Term)) → any_true sides
    ≡ decided (list_any (λ v. says true (as_truth v)) sides) (list_all (λ v. says false (as_truth v)) sides)

-- && is false where a side is, else true where all are, and else the error
abbrev pub AndDecides : Type 0
AndDecides = (sides : List (Option Term)) → all_true sides
    ≡ option_map not (decided (list_any (λ v. says false (as_truth v)) sides) (list_all (λ v. says true (as_truth v)) sides))

-- IN is true where a = is, else false where all are, and else the error
abbrev pub InDecides : Type 0
InDecides = (x : Option Term) (items : List (Option Term)) → in_list x items
    ≡ decided (list_any (λ v. says true (on_both equal x v)) items) (list_all (λ v. says false (on_both equal x v)) items)
