-- The expressions of a query, with whether aggregates may stand in them (SPARQL 1.1, 11, 19.8).
use Rattle.std.specs.Prelude.{Bool, true, false, List, [], ◌∷◌, Option, Some, None}
use Rattle.sparql_tree.specs.Exprs.{Expr}
use Rattle.sparql_tree.specs.Groups.{Group, GroupOf, Elements, EndOfElements, ThenElement, Groups, EndOfGroups, ThenGroup, Element, Triples, Union, Optional, Minus, Filter, Bind, Values, SelectItem, GroupKey, OrderKey, Query}

-- a fact of an expression where aggregates may stand, or may not
abbrev pub Fact : Type 1
Fact = Bool → Expr → Type 0

unfoldable mutual
  -- the fact holds of each expression between braces: of filters and of what is bound, where no aggregate may stand
  pub EachOfGroup : Fact → Group → Type 0
  EachOfGroup fact (GroupOf elements) = EachOfElements fact elements

  -- of each part's, in order
  pub EachOfElements : Fact → Elements → Type 0
  EachOfElements fact EndOfElements = Unit {0}
  EachOfElements fact (ThenElement first rest) = EachOfElement fact first × EachOfElements fact rest

  -- of each group's, in order
  pub EachOfGroups : Fact → Groups → Type 0
  EachOfGroups fact EndOfGroups = Unit {0}
  EachOfGroups fact (ThenGroup first rest) = EachOfGroup fact first × EachOfGroups fact rest

  -- of those of a part (SPARQL 1.1 19.8, Filter and Bind)
  pub EachOfElement : Fact → Element → Type 0
  EachOfElement fact (Triples patterns) = Unit {0}
  EachOfElement fact (Union groups) = EachOfGroups fact groups
  EachOfElement fact (Optional group) = EachOfGroup fact group
  EachOfElement fact (Minus group) = EachOfGroup fact group
  EachOfElement fact (Filter value) = fact false value
  EachOfElement fact (Bind value variable) = fact false value
  EachOfElement fact (Values variables rows) = Unit {0}

-- a selected value, if there is one (SPARQL 1.1 19.8, SelectClause)
abbrev pub EachOfValue : Fact → Option Expr → Type 0
EachOfValue fact None = Unit {0}
EachOfValue fact (Some value) = fact true value

-- selected values
abbrev pub EachOfItems : Fact → List SelectItem → Type 0
EachOfItems fact [] = Unit {0}
EachOfItems fact (first ∷ rest) = EachOfValue fact first.value × EachOfItems fact rest

-- keys by which solutions are grouped, where no aggregate may stand (SPARQL 1.1 19.8, GroupClause)
abbrev pub EachOfKeys : Fact → List GroupKey → Type 0
EachOfKeys fact [] = Unit {0}
EachOfKeys fact (first ∷ rest) = fact false first.value × EachOfKeys fact rest

-- conditions on groups (SPARQL 1.1 19.8, HavingClause)
abbrev pub EachOfConditions : Fact → List Expr → Type 0
EachOfConditions fact [] = Unit {0}
EachOfConditions fact (first ∷ rest) = fact true first × EachOfConditions fact rest

-- keys by which solutions are ordered (SPARQL 1.1 19.8, OrderClause)
abbrev pub EachOfOrder : Fact → List OrderKey → Type 0
EachOfOrder fact [] = Unit {0}
EachOfOrder fact (first ∷ rest) = fact true first.value × EachOfOrder fact rest

-- the fact holds of each expression of a query
pub record EachExpression (fact : Fact) (query : Query) : Type 0 where
  pub items : EachOfItems fact query.items
  pub body : EachOfGroup fact query.body
  pub keys : EachOfKeys fact query.keys
  pub having : EachOfConditions fact query.having
  pub order : EachOfOrder fact query.order
