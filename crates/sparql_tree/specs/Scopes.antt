-- The variables of a query's parts, in text order: those that are in scope of a group (SPARQL 1.1, 18.2.1), and those
-- of an expression that stand outside aggregates (SPARQL 1.1, 11.4).
use Rattle.std.specs.Prelude.{Bool, true, false, ◌||◌, List, [], ◌∷◌, ◌++◌, flat_map}
use Rattle.term_core.specs.Mappings.{Name}
use Rattle.term_core.specs.declared.pattern.Place.{Place}
use Rattle.term_core.specs.declared.pattern.Place.TheVariants as places
use Rattle.term_core.specs.declared.pattern.Pattern.{Pattern}
use Rattle.sparql_tree.specs.Exprs.{Expr, Var, Const, Or, And, Not, Plus, Minus, Compare, OneOf, Sum, Product, Call, Aggregate, AggregateAll, Exprs, EndOfExprs, ThenExpr, Operands, EndOfOperands, ThenOperand}
use Rattle.sparql_tree.specs.Groups.{Group, GroupOf, Elements, EndOfElements, ThenElement, Groups, EndOfGroups, ThenGroup, Element, Triples, Union, Optional, Filter, Bind, Values}
use Rattle.sparql_tree.specs.Groups as tree

abbrev mutual
  -- the variables of an expression that stand outside aggregates
  pub outside : Expr → List Name
  outside (Var name) = name ∷ []
  outside (Const term) = []
  outside (Or parts) = outside_all parts
  outside (And parts) = outside_all parts
  outside (Not value) = outside value
  outside (Plus value) = outside value
  outside (Minus value) = outside value
  outside (Compare op left right) = outside left ++ outside right
  outside (OneOf left items negated) = outside left ++ outside_all items
  outside (Sum first rest) = outside first ++ outside_rest rest
  outside (Product first rest) = outside first ++ outside_rest rest
  outside (Call function arguments) = outside_all arguments
  outside (Aggregate kind distinct argument) = []
  outside (AggregateAll kind distinct) = []

  pub outside_all : Exprs → List Name
  outside_all EndOfExprs = []
  outside_all (ThenExpr first rest) = outside first ++ outside_all rest

  pub outside_rest : Operands → List Name
  outside_rest EndOfOperands = []
  outside_rest (ThenOperand inverse value rest) = outside value ++ outside_rest rest

abbrev mutual
  -- whether an aggregate stands in an expression
  pub has_aggregate : Expr → Bool
  has_aggregate (Var name) = false
  has_aggregate (Const term) = false
  has_aggregate (Or parts) = have_aggregate parts
  has_aggregate (And parts) = have_aggregate parts
  has_aggregate (Not value) = has_aggregate value
  has_aggregate (Plus value) = has_aggregate value
  has_aggregate (Minus value) = has_aggregate value
  has_aggregate (Compare op left right) = has_aggregate left || has_aggregate right
  has_aggregate (OneOf left items negated) = has_aggregate left || have_aggregate items
  has_aggregate (Sum first rest) = has_aggregate first || rest_has_aggregate rest
  has_aggregate (Product first rest) = has_aggregate first || rest_has_aggregate rest
  has_aggregate (Call function arguments) = have_aggregate arguments
  has_aggregate (Aggregate kind distinct argument) = true
  has_aggregate (AggregateAll kind distinct) = true

  pub have_aggregate : Exprs → Bool
  have_aggregate EndOfExprs = false
  have_aggregate (ThenExpr first rest) = has_aggregate first || have_aggregate rest

  pub rest_has_aggregate : Operands → Bool
  rest_has_aggregate EndOfOperands = false
  rest_has_aggregate (ThenOperand inverse value rest) = has_aggregate value || rest_has_aggregate rest

-- the variable at a place, if one stands there
abbrev pub variable_in : Place → List Name
variable_in (places.Var name) = name ∷ []
variable_in (places.Blank label) = []
variable_in (places.Term term) = []

-- the label at a place, if one stands there
abbrev pub label_in : Place → List Name
label_in (places.Var name) = []
label_in (places.Blank label) = label ∷ []
label_in (places.Term term) = []

-- the variables of a pattern: of its subject, its predicate and its object
abbrev pub variables_in : Pattern → List Name
variables_in p = variable_in p.subject ++ (variable_in p.predicate ++ variable_in p.object)

-- the labels of a pattern
abbrev pub labels_in : Pattern → List Name
labels_in p = label_in p.subject ++ (label_in p.predicate ++ label_in p.object)

abbrev mutual
  -- the variables that are in scope of a part of a group: not those of MINUS and FILTER (SPARQL 1.1 18.2.1)
  pub scope_at : Element → List Name
  scope_at (Triples patterns) = flat_map variables_in patterns
  scope_at (Union groups) = scope_of_groups groups
  scope_at (Optional group) = scope_of_group group
  scope_at (tree.Minus group) = []
  scope_at (Filter value) = []
  scope_at (Bind value variable) = variable ∷ []
  scope_at (Values variables rows) = variables

  pub scope_of : Elements → List Name
  scope_of EndOfElements = []
  scope_of (ThenElement first rest) = scope_at first ++ scope_of rest

  pub scope_of_group : Group → List Name
  scope_of_group (GroupOf elements) = scope_of elements

  pub scope_of_groups : Groups → List Name
  scope_of_groups EndOfGroups = []
  scope_of_groups (ThenGroup first rest) = scope_of_group first ++ scope_of_groups rest
