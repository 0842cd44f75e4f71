-- The value of an expression depends on the variables alone that it names outside aggregates.
use Rattle.std.proofs.Common.{◌≡◌, refl, ap, ◌∙◌, true, false, Bool, List, [], ◌∷◌, ◌++◌, cond, None}
use Rattle.std.specs.Prelude.{◌||◌, not, option_map}
use Rattle.std.proofs.lemmas.List.Folds.{list_any-append}
use Rattle.term_core.specs.Mappings.{Name, Row, value, has_name, same_name, restricted}
use Rattle.term_core.proofs.Merges.{name_itself, value-restricted}
use Rattle.sparql_tree.specs.Exprs.{Expr, Var, Const, Or, And, Not, Plus, Minus, Compare, OneOf, Sum, Product, Call, Aggregate, AggregateAll, Exprs, EndOfExprs, ThenExpr, Operands, EndOfOperands, ThenOperand}
use Rattle.sparql_tree.specs.Scopes.{outside, outside_all, outside_rest}
use Rattle.sparql_value.specs.MadeTerms.{boolean_term, number_term}
use Rattle.sparql_value.specs.Operators.{as_truth, as_number, any_true, all_true, comparison, membership, chain, adding, multiplying, opposite}
use Rattle.sparql_value.specs.Functions.{called}
use Rattle.sparql_value.specs.Evaluation.{value_under, values_under, operands_under}

-- two solutions bind the names of a list alike
abbrev Alike : List Name → Row → Row → Type 0
Alike names a b = (name : Name) → has_name names name ≡ true → value a name ≡ value b name

or_front : (x y : Bool) → x ≡ true → (x || y) ≡ true
or_front x y is = ap (λ b. b || y) is

or_behind : (x y : Bool) → y ≡ true → (x || y) ≡ true
or_behind true y is = refl
or_behind false y is = is

front : (xs ys : List Name) (a b : Row) → Alike (xs ++ ys) a b → Alike xs a b
front xs ys a b alike name is = alike name (list_any-append (same_name name) xs ys ∙ or_front (has_name xs name) (has_name ys name) is)

behind : (xs ys : List Name) (a b : Row) → Alike (xs ++ ys) a b → Alike ys a b
behind xs ys a b alike name is = alike name (list_any-append (same_name name) xs ys ∙ or_behind (has_name xs name) (has_name ys name) is)

itself : (name : Name) → has_name (name ∷ []) name ≡ true
itself name = or_front (same_name name name) false (name_itself name)

mutual
  pub same_value : (e : Expr) (a b : Row) → Alike (outside e) a b → value_under e a ≡ value_under e b
  same_value (Var name) a b alike = alike name (itself name)
  same_value (Const term) a b alike = refl
  same_value (Or parts) a b alike = λ i. option_map boolean_term (any_true (same_values parts a b alike i))
  same_value (And parts) a b alike = λ i. option_map boolean_term (all_true (same_values parts a b alike i))
  same_value (Not operand) a b alike = λ i. option_map (λ t. boolean_term (not t)) (as_truth (same_value operand a b alike i))
  same_value (Plus operand) a b alike = λ i. option_map number_term (as_number (same_value operand a b alike i))
  same_value (Minus operand) a b alike = λ i. option_map number_term (opposite (as_number (same_value operand a b alike i)))
  same_value (Compare op left right) a b alike = λ i. option_map boolean_term
      (comparison op (same_value left a b (front (outside left) (outside right) a b alike) i) (same_value right a b (behind (outside left) (outside right) a b alike) i))
  same_value (OneOf left items negated) a b alike = λ i. option_map boolean_term
      (membership negated (same_value left a b (front (outside left) (outside_all items) a b alike) i) (same_values items a b (behind (outside left) (outside_all items) a b alike) i))
  same_value (Sum first rest) a b alike = λ i. option_map number_term
      (chain adding (as_number (same_value first a b (front (outside first) (outside_rest rest) a b alike) i)) (same_operands rest a b (behind (outside first) (outside_rest rest) a b alike) i))
  same_value (Product first rest) a b alike = λ i. option_map number_term
      (chain multiplying (as_number (same_value first a b (front (outside first) (outside_rest rest) a b alike) i)) (same_operands rest a b (behind (outside first) (outside_rest rest) a b alike) i))
  same_value (Call function arguments) a b alike = λ i. called function (same_values arguments a b alike i)
  same_value (Aggregate kind distinct argument) a b alike = refl
  same_value (AggregateAll kind distinct) a b alike = refl

  same_values : (es : Exprs) (a b : Row) → Alike (outside_all es) a b → values_under es a ≡ values_under es b
  same_values EndOfExprs a b alike = refl
  same_values (ThenExpr first rest) a b alike = λ i.
      same_value first a b (front (outside first) (outside_all rest) a b alike) i ∷ same_values rest a b (behind (outside first) (outside_all rest) a b alike) i

  same_operands : (os : Operands) (a b : Row) → Alike (outside_rest os) a b → operands_under os a ≡ operands_under os b
  same_operands EndOfOperands a b alike = refl
  same_operands (ThenOperand inverse operand rest) a b alike = λ i.
      (inverse, same_value operand a b (front (outside operand) (outside_rest rest) a b alike) i) ∷ same_operands rest a b (behind (outside operand) (outside_rest rest) a b alike) i

-- the variables that an expression names are enough
pub restricted_value : (e : Expr) (row : Row) → value_under e (restricted (outside e) row) ≡ value_under e row
restricted_value e row = same_value e (restricted (outside e) row) row
    (λ name is. value-restricted (outside e) row name ∙ ap (λ b. cond b (value row name) None) is)
