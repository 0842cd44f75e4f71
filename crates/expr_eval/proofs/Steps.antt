-- Steps of the loops over parts, items, operands and arguments.
use Rattle.std.proofs.Common.{◌≡◌, ◌<◌, ◌≤◌, ◌+◌, ℕ, zero, suc, refl, sym, ap, ◌∙◌, arith, true, false, Bool, List, [], ◌∷◌, length, get_or, drop, Option, Some, None}
use Rattle.std.specs.Prelude.{if◌then◌else◌, not, option_map, Result}
use Rattle.term_core.specs.declared.term.Term.{Term}
use Rattle.term_core.specs.Mappings.{Row}
use Rattle.term_core.specs.Numbers.{Number, Fault}
use Rattle.std.proofs.lemmas.List.{drop_more}
use Rattle.sparql_tree.specs.Exprs.{exprs, operands}
use Rattle.sparql_tree.specs.ExprTrees.{tree_of, trees_of, signs_of, factors_of}
use Rattle.sparql_tree.specs.declared.expr.Expr.{Expr}
use Rattle.sparql_tree.specs.declared.expr.Signed.{Signed}
use Rattle.sparql_tree.specs.declared.expr.Factor.{Factor}
use Rattle.sparql_tree.specs.declared.expr.Expr.TheVariants as code
use Rattle.sparql_tree.proofs.ExprViews.{one_of_view}
use Rattle.sparql_value.specs.MadeTerms.{boolean_term}
use Rattle.sparql_value.specs.Operators.{as_number, either, both, in_list, membership, on_numbers, adding, multiplying, chain}
use Rattle.sparql_value.specs.Functions.{argument}
use Rattle.sparql_value.specs.Evaluation.{value_under, values_under, operands_under}

-- what is known of a chain of || before the rest
abbrev pub not_yet : Bool → Option Bool
not_yet unknown = if unknown then None else Some false

-- what is known of a chain of && before the rest
abbrev pub so_far : Bool → Option Bool
so_far unknown = if unknown then None else Some true

pub either_true : (unknown : Bool) (rest : Option Bool) → either (not_yet unknown) (either (Some true) rest) ≡ Some true
either_true true rest = refl
either_true false rest = refl

pub either_error : (unknown : Bool) (rest : Option Bool) → either (not_yet unknown) (either None rest) ≡ either (not_yet true) rest
either_error true None = refl
either_error true (Some true) = refl
either_error true (Some false) = refl
either_error false rest = refl

pub both_false : (unknown : Bool) (rest : Option Bool) → both (so_far unknown) (both (Some false) rest) ≡ Some false
both_false true rest = refl
both_false false rest = refl

pub both_error : (unknown : Bool) (rest : Option Bool) → both (so_far unknown) (both None rest) ≡ both (so_far true) rest
both_error true None = refl
both_error true (Some true) = refl
both_error true (Some false) = refl
both_error false rest = refl

pub chain_none : (operator : Bool → Number → Number → Result Number Fault) (rest : List (Bool × Option Term)) → chain operator None rest ≡ None
chain_none operator [] = refl
chain_none operator (next ∷ rest) = chain_none operator rest

list_none : (first : Option Term) (rest : List (Option Term)) → in_list None (first ∷ rest) ≡ None
list_none first [] = refl
list_none first (second ∷ rest) = ap (either None) (list_none second rest)

pub no_left : (negated : Bool) (first : Option Term) (rest : List (Option Term)) → membership negated None (first ∷ rest) ≡ None
no_left false first rest = list_none first rest
no_left true first rest = ap (option_map not) (list_none first rest)

pub no_left_some : (items : List Expr) (negated : Bool) (row : Row) → 0 < length items
    → option_map boolean_term (membership negated None (values_under (exprs (trees_of items)) row)) ≡ None
no_left_some [] negated row some = absurd (omega arith)
no_left_some (x ∷ xs) negated row some = ap (option_map boolean_term) (no_left negated (value_under (tree_of x) row) (values_under (exprs (trees_of xs)) row))

-- a chain whose next step fails
pub sum_fails : (rest : List Signed) (i : ℕ) (signed : Signed) (row : Row) (total : Option Number) → i < length rest → signed ≡ get_or rest i signed
    → on_numbers (adding signed.minus) total (as_number (value_under (tree_of signed.value) row)) ≡ None
    → chain adding total (operands_under (operands (signs_of (drop i rest))) row) ≡ None
sum_fails rest i signed row total small is fails =
    ap (λ l. chain adding total (operands_under (operands (signs_of l)) row)) (drop_more rest i signed small ∙ (λ k. sym is k ∷ drop (i + 1) rest))
    ∙ (ap (λ n. chain adding n (operands_under (operands (signs_of (drop (i + 1) rest))) row)) fails
    ∙ chain_none adding (operands_under (operands (signs_of (drop (i + 1) rest))) row))

pub product_fails : (rest : List Factor) (i : ℕ) (factor : Factor) (row : Row) (total : Option Number) → i < length rest → factor ≡ get_or rest i factor
    → on_numbers (multiplying factor.divide) total (as_number (value_under (tree_of factor.value) row)) ≡ None
    → chain multiplying total (operands_under (operands (factors_of (drop i rest))) row) ≡ None
product_fails rest i factor row total small is fails =
    ap (λ l. chain multiplying total (operands_under (operands (factors_of l)) row)) (drop_more rest i factor small ∙ (λ k. sym is k ∷ drop (i + 1) rest))
    ∙ (ap (λ n. chain multiplying n (operands_under (operands (factors_of (drop (i + 1) rest))) row)) fails
    ∙ chain_none multiplying (operands_under (operands (factors_of (drop (i + 1) rest))) row))

-- an argument that is there, and one that is not
pub argument_there : (place : ℕ) (es : List Expr) (row : Row) (e : Expr) → place < length es → e ≡ get_or es place e
    → argument place (values_under (exprs (trees_of es)) row) ≡ value_under (tree_of e) row
argument_there place [] row e small is = absurd (omega arith)
argument_there zero (x ∷ xs) row e small is = ap (λ f. value_under (tree_of f) row) (sym is)
argument_there (suc place) (x ∷ xs) row e small is = argument_there place xs row e (omega arith) is

pub argument_past : (place : ℕ) (es : List Expr) (row : Row) → length es ≤ place → argument place (values_under (exprs (trees_of es)) row) ≡ None
argument_past place [] row past = refl
argument_past zero (x ∷ xs) row past = absurd (omega arith)
argument_past (suc place) (x ∷ xs) row past = argument_past place xs row (omega arith)

-- the value of IN, by the value of its left side
pub one_of_is : (e : Expr) (left : _) (items : _) (negated : Bool) (row : Row) (first : Expr) (list : List Expr) (v : Option Term)
    → e ≡ code.OneOf left items negated → first ≡ left.value → list ≡ items.items → value_under (tree_of first) row ≡ v
    → value_under (tree_of e) row ≡ option_map boolean_term (membership negated v (values_under (exprs (trees_of list)) row))
one_of_is e left items negated row first list v is same all valued =
    ap (λ f. value_under (tree_of f) row) is
    ∙ (ap (λ t. value_under t row) (one_of_view left items negated)
    ∙ ((λ i. option_map boolean_term (membership negated (value_under (tree_of (sym same i)) row) (values_under (exprs (trees_of (sym all i))) row)))
    ∙ ap (λ w. option_map boolean_term (membership negated w (values_under (exprs (trees_of list)) row))) valued))
