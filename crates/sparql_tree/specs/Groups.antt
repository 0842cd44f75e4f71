-- Group graph patterns and queries, apart from where they lie in memory (SPARQL 1.1, 5 to 11, 15 and 19.8).
use Rattle.std.specs.Prelude.{ℕ, Bool, List, [], ◌∷◌, Option}
use Rattle.term_core.specs.declared.pattern.Pattern.{Pattern}
use Rattle.term_core.specs.Mappings.{Name, Row}
use Rattle.sparql_tree.specs.Exprs.{Expr}

mutual
  -- what stands between braces (SPARQL 1.1 19.8, GroupGraphPattern)
  pub data Group : Type 0 where
    GroupOf : (elements : Elements) → Group

  -- a list of parts of a group
  pub data Elements : Type 0 where
    EndOfElements : Elements
    ThenElement : (first : Element) (rest : Elements) → Elements

  -- a list of groups
  pub data Groups : Type 0 where
    EndOfGroups : Groups
    ThenGroup : (first : Group) (rest : Groups) → Groups

  -- a part of a group (SPARQL 1.1 19.8, TriplesBlock and GraphPatternNotTriples)
  pub data Element : Type 0 where
    Triples : (patterns : List Pattern) → Element
    -- a group, or a union of two or more
    Union : (groups : Groups) → Element
    Optional : (group : Group) → Element
    Minus : (group : Group) → Element
    Filter : (value : Expr) → Element
    Bind : (value : Expr) (variable : Name) → Element
    Values : (variables : List Name) (rows : List Row) → Element

-- the parts of a list
abbrev pub elements : List Element → Elements
elements [] = EndOfElements
elements (first ∷ rest) = ThenElement first (elements rest)

-- the groups of a list
abbrev pub groups : List Group → Groups
groups [] = EndOfGroups
groups (first ∷ rest) = ThenGroup first (groups rest)

-- what is selected: a variable, or a value under a variable's name (SPARQL 1.1 19.8, SelectClause)
pub record SelectItem : Type 0 where
  pub variable : Name
  pub value : Option Expr

-- by what solutions are grouped, and the variable that names it, if any (SPARQL 1.1 19.8, GroupCondition)
pub record GroupKey : Type 0 where
  pub value : Expr
  pub variable : Option Name

-- by what solutions are ordered (SPARQL 1.1 19.8, OrderCondition)
pub record OrderKey : Type 0 where
  pub value : Expr
  pub descending : Bool

-- a query that selects (SPARQL 1.1 19.8, SelectQuery)
pub record Query : Type 0 where
  pub distinct : Bool
  pub star : Bool
  pub items : List SelectItem
  pub body : Group
  pub keys : List GroupKey
  pub having : List Expr
  pub order : List OrderKey
  pub limit : Option ℕ
  pub offset : ℕ
