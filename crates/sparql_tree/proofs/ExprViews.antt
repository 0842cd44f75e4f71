-- The tree of each variant, at what the code wrote into it.
use Rattle.std.proofs.Common.{◌≡◌, refl, ap, ◌∙◌, Some, None}
use Rattle.sparql_tree.specs.Exprs as tree
use Rattle.sparql_tree.specs.declared.expr.Expr.{Row_of-Expr, end_of-Expr, more_of-Expr, Row_of-Signed, end_of-Signed, more_of-Signed, Row_of-Factor, end_of-Factor, more_of-Factor}
use Rattle.sparql_tree.specs.declared.expr.Expr.TheVariants as code
use Rattle.sparql_tree.specs.declared.expr.Expr.TheBlock as block
use Rattle.sparql_tree.specs.ExprTrees.{tree_of, row_of, signed_of, factored_of, aggregate_of, trees_of, signs_of, factors_of}

pub row_items : (n : _) (k : Row_of-Expr n) → row_of k ≡ tree.exprs (trees_of (block.items-the_row-Expr n k))
unfolding row_of
row_items n end_of-Expr = refl
row_items n (more_of-Expr first rest) = ap (tree.ThenExpr (tree_of first)) (row_items _ rest)

pub signed_items : (n : _) (k : Row_of-Signed n) → signed_of k ≡ tree.operands (signs_of (block.items-the_row-Signed n k))
unfolding signed_of
signed_items n end_of-Signed = refl
signed_items n (more_of-Signed minus value rest) = ap (tree.ThenOperand minus (tree_of value)) (signed_items _ rest)

pub factored_items : (n : _) (k : Row_of-Factor n) → factored_of k ≡ tree.operands (factors_of (block.items-the_row-Factor n k))
unfolding factored_of
factored_items n end_of-Factor = refl
factored_items n (more_of-Factor divide value rest) = ap (tree.ThenOperand divide (tree_of value)) (factored_items _ rest)

exprs_in : (v : _) → row_of (block.hidden-the_row-Expr-0 v) ≡ tree.exprs (trees_of v.items)
exprs_in v = row_items _ (block.hidden-the_row-Expr-0 v) ∙ ap (λ xs. tree.exprs (trees_of xs)) (block.items_hidden-the_row-Expr-0 v)

signs_in : (v : _) → signed_of (block.hidden-the_row-Signed-1 v) ≡ tree.operands (signs_of v.items)
signs_in v = signed_items _ (block.hidden-the_row-Signed-1 v) ∙ ap (λ xs. tree.operands (signs_of xs)) (block.items_hidden-the_row-Signed-1 v)

factors_in : (v : _) → factored_of (block.hidden-the_row-Factor-2 v) ≡ tree.operands (factors_of v.items)
factors_in v = factored_items _ (block.hidden-the_row-Factor-2 v) ∙ ap (λ xs. tree.operands (factors_of xs)) (block.items_hidden-the_row-Factor-2 v)

pub var_view : (name : _) → tree_of (code.Var name) ≡ tree.Var name
unfolding tree_of
var_view name = refl

pub const_view : (term : _) → tree_of (code.Const term) ≡ tree.Const term
unfolding tree_of
const_view term = refl

pub or_view : (v : _) → tree_of (code.Or v) ≡ tree.Or (tree.exprs (trees_of v.items))
unfolding tree_of
or_view v = ap tree.Or (exprs_in v)

pub and_view : (v : _) → tree_of (code.And v) ≡ tree.And (tree.exprs (trees_of v.items))
unfolding tree_of
and_view v = ap tree.And (exprs_in v)

pub not_view : (value : _) → tree_of (code.Not value) ≡ tree.Not (tree_of value.value)
unfolding tree_of
not_view value = refl

pub plus_view : (value : _) → tree_of (code.Plus value) ≡ tree.Plus (tree_of value.value)
unfolding tree_of
plus_view value = refl

pub minus_view : (value : _) → tree_of (code.Minus value) ≡ tree.Minus (tree_of value.value)
unfolding tree_of
minus_view value = refl

pub compare_view : (op left right : _) → tree_of (code.Compare op left right) ≡ tree.Compare op (tree_of left.value) (tree_of right.value)
unfolding tree_of
compare_view op left right = refl

pub one_of_view : (left : _) (v : _) (negated : _) → tree_of (code.OneOf left v negated) ≡ tree.OneOf (tree_of left.value) (tree.exprs (trees_of v.items)) negated
unfolding tree_of
one_of_view left v negated = ap (λ xs. tree.OneOf (tree_of left.value) xs negated) (exprs_in v)

pub sum_view : (first : _) (v : _) → tree_of (code.Sum first v) ≡ tree.Sum (tree_of first.value) (tree.operands (signs_of v.items))
unfolding tree_of
sum_view first v = ap (tree.Sum (tree_of first.value)) (signs_in v)

pub product_view : (first : _) (v : _) → tree_of (code.Product first v) ≡ tree.Product (tree_of first.value) (tree.operands (factors_of v.items))
unfolding tree_of
product_view first v = ap (tree.Product (tree_of first.value)) (factors_in v)

pub call_view : (f : _) (v : _) → tree_of (code.Call f v) ≡ tree.Call f (tree.exprs (trees_of v.items))
unfolding tree_of
call_view f v = ap (tree.Call f) (exprs_in v)

pub aggregate_view : (kind distinct value : _) → tree_of (code.Aggregate kind distinct (Some value)) ≡ tree.Aggregate kind distinct (tree_of value.value)
unfolding tree_of aggregate_of
aggregate_view kind distinct value = refl

pub aggregate_all_view : (kind distinct : _) → tree_of (code.Aggregate kind distinct None) ≡ tree.AggregateAll kind distinct
unfolding tree_of aggregate_of
aggregate_all_view kind distinct = refl

-- all of these
pub ruleset views = (var_view, const_view, or_view, and_view, not_view, plus_view, minus_view, compare_view, one_of_view, sum_view, product_view, call_view, aggregate_view, aggregate_all_view)
