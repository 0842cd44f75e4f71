-- The grammar of group graph patterns: the symbols from here, what they spell, and the symbols behind them
-- (SPARQL 1.1, 19.8, GroupGraphPattern to Constraint).
use Rattle.std.specs.Prelude.{Bool, true, false, List, [], ◌∷◌, ◌++◌}
use Rattle.term_core.specs.Mappings.{Name, Row}
use Rattle.sparql_tree.specs.Exprs.{Expr}
use Rattle.sparql_tree.specs.Groups.{Group, GroupOf, Element, Union, Optional, Minus, Filter, Bind, Values, elements, groups}
use Rattle.sparql_tree.specs.declared.symbol.Shape.TheVariants as s
use Rattle.sparql_tree.specs.declared.symbol.Symbol.{Symbol}
use Rattle.sparql_tree.specs.Heads.{Is, IsHead}
use Rattle.sparql_tree.specs.Expressions.{IsExpr, IsCall, IsAggregate}
use Rattle.sparql_tree.specs.Triples.{IsTriples}
use Rattle.sparql_tree.specs.Values.{IsValues}

-- '(' expr ')' | call | aggregate, the last where aggregates may stand (SPARQL 1.1 19.8, Constraint)
pub data IsConstraint : Bool → List Symbol → Expr → List Symbol → Type 0 where
  constraint : {b : Bool} {ts us vs rest : List Symbol} {a : Expr} → Is s.Open ts us → IsExpr b us a vs → Is s.Close vs rest → IsConstraint b ts a rest
  constraint_call : {b : Bool} {ts rest : List Symbol} {a : Expr} → IsCall b ts a rest → IsConstraint b ts a rest
  constraint_aggregate : {ts rest : List Symbol} {a : Expr} → IsAggregate ts a rest → IsConstraint true ts a rest

-- a point, or nothing
pub data IsPoint : List Symbol → List Symbol → Type 0 where
  no_point : {ts : List Symbol} → IsPoint ts ts
  point : {ts rest : List Symbol} → Is s.Point ts rest → IsPoint ts rest

mutual
  -- '{' triples? (element '.'? triples?)* '}'
  pub data IsGroup : List Symbol → Group → List Symbol → Type 0 where
    group : {ts us vs ws rest : List Symbol} {first more : List Element} → Is s.OpenBrace ts us → IsTriples us first vs → GroupTail vs more ws → Is s.CloseBrace ws rest
        → IsGroup ts (GroupOf (elements (first ++ more))) rest

  pub data GroupTail : List Symbol → List Element → List Symbol → Type 0 where
    group_end : {ts : List Symbol} → GroupTail ts [] ts
    group_more : {ts us vs ws rest : List Symbol} {x : Element} {after more : List Element} → IsElement ts x us → IsPoint us vs → IsTriples vs after ws → GroupTail ws more rest
        → GroupTail ts (x ∷ (after ++ more)) rest

  -- group ('UNION' group)* | 'OPTIONAL' group | 'MINUS' group | 'FILTER' constraint | 'BIND' '(' expr 'AS' VAR ')' | 'VALUES' values
  pub data IsElement : List Symbol → Element → List Symbol → Type 0 where
    union : {ts us rest : List Symbol} {first : Group} {more : List Group} → IsGroup ts first us → UnionTail us more rest → IsElement ts (Union (groups (first ∷ more))) rest
    optional : {ts us rest : List Symbol} {inner : Group} → Is s.Optional ts us → IsGroup us inner rest → IsElement ts (Optional inner) rest
    without : {ts us rest : List Symbol} {inner : Group} → Is s.Without ts us → IsGroup us inner rest → IsElement ts (Minus inner) rest
    filter : {ts us rest : List Symbol} {a : Expr} → Is s.Filter ts us → IsConstraint false us a rest → IsElement ts (Filter a) rest
    bind : {ts us vs ws xs ys rest : List Symbol} {a : Expr} {name : Name} → Is s.Bind ts us → Is s.Open us vs → IsExpr false vs a ws → Is s.As ws xs → IsHead s.Var name xs ys
        → Is s.Close ys rest → IsElement ts (Bind a name) rest
    values : {ts us rest : List Symbol} {names : List Name} {rows : List Row} → Is s.Values ts us → IsValues us names rows rest → IsElement ts (Values names rows) rest

  pub data UnionTail : List Symbol → List Group → List Symbol → Type 0 where
    union_end : {ts : List Symbol} → UnionTail ts [] ts
    union_more : {ts us vs rest : List Symbol} {first : Group} {more : List Group} → Is s.Union ts us → IsGroup us first vs → UnionTail vs more rest → UnionTail ts (first ∷ more) rest
