-- The value of an expression on a solution: a term, or None for the one error (SPARQL 1.1, section 17).
use Rattle.std.specs.Prelude.{Bool, false, List, [], ◌∷◌, Option, Some, None, option_map, unwrap_or, not}
use Rattle.term_core.specs.declared.term.Term.{Term}
use Rattle.term_core.specs.Mappings.{Row, value}
use Rattle.sparql_tree.specs.Exprs.{Expr, Var, Const, Or, And, Not, Plus, Minus, Compare, OneOf, Sum, Product, Call, Aggregate, AggregateAll, Exprs, EndOfExprs, ThenExpr, Operands, EndOfOperands, ThenOperand}
use Rattle.sparql_value.specs.MadeTerms.{boolean_term, number_term}
use Rattle.sparql_value.specs.Operators.{as_truth, as_number, any_true, all_true, comparison, membership, chain, adding, multiplying, opposite}
use Rattle.sparql_value.specs.Functions.{called}

abbrev mutual
  -- the value of an expression on a solution; an aggregate has none outside a group
  pub value_under : Expr → Row → Option Term
  value_under (Var name) row = value row name
  value_under (Const term) row = Some term
  value_under (Or parts) row = option_map boolean_term (any_true (values_under parts row))
  value_under (And parts) row = option_map boolean_term (all_true (values_under parts row))
  value_under (Not operand) row = option_map (λ b. boolean_term (not b)) (as_truth (value_under operand row))
  value_under (Plus operand) row = option_map number_term (as_number (value_under operand row))
  value_under (Minus operand) row = option_map number_term (opposite (as_number (value_under operand row)))
  value_under (Compare op left right) row = option_map boolean_term (comparison op (value_under left row) (value_under right row))
  value_under (OneOf left items negated) row = option_map boolean_term (membership negated (value_under left row) (values_under items row))
  value_under (Sum first rest) row = option_map number_term (chain adding (as_number (value_under first row)) (operands_under rest row))
  value_under (Product first rest) row =
      option_map number_term (chain multiplying (as_number (value_under first row)) (operands_under rest row))
  value_under (Call function arguments) row = called function (values_under arguments row)
  value_under (Aggregate kind distinct argument) row = None
  value_under (AggregateAll kind distinct) row = None

  pub values_under : Exprs → Row → List (Option Term)
  values_under EndOfExprs row = []
  values_under (ThenExpr first rest) row = value_under first row ∷ values_under rest row

  pub operands_under : Operands → Row → List (Bool × Option Term)
  operands_under EndOfOperands row = []
  operands_under (ThenOperand inverse operand rest) row = (inverse, value_under operand row) ∷ operands_under rest row

-- whether an expression is true on a solution: it has a value, whose truth is true (SPARQL 1.1, sections 17.2.2 and 18.5, Filter)
abbrev pub is_true_under : Expr → Row → Bool
is_true_under condition row = unwrap_or (as_truth (value_under condition row)) false
