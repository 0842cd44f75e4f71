-- The grammar of queries: the symbols from here, what they spell, and the symbols behind them
-- (SPARQL 1.1, 19.8, SelectQuery to OffsetClause).
use Rattle.std.specs.Prelude.{◌≡◌, ◌<◌, ◌^◌, ◌++◌, map, ℕ, Bool, true, false, List, [], ◌∷◌, Option, Some, None, if◌then◌else◌}
use Rattle.term_core.specs.Mappings.{Name, has_name}
use Rattle.term_core.specs.Numbers.{are_digits, digits_value}
use Rattle.sparql_tree.specs.Exprs.{Expr, Var}
use Rattle.sparql_tree.specs.Groups.{Group, SelectItem, GroupKey, OrderKey, Query}
use Rattle.sparql_tree.specs.declared.symbol.Shape.TheVariants as s
use Rattle.sparql_tree.specs.declared.symbol.Symbol.{Symbol}
use Rattle.sparql_tree.specs.Heads.{Is, IsHead}
use Rattle.sparql_tree.specs.Expressions.{IsExpr, IsCall}
use Rattle.sparql_tree.specs.GroupPatterns.{IsConstraint, IsGroup}

abbrev pub item : Name → Option Expr → SelectItem
item variable value = record { variable = variable; value = value }

abbrev pub key : Expr → Option Name → GroupKey
key value variable = record { value = value; variable = variable }

-- a key that is a variable alone has that name
abbrev pub variable_key : Name → GroupKey
variable_key name = key (Var name) (Some name)

abbrev pub ordered : Expr → Bool → OrderKey
ordered value descending = record { value = value; descending = descending }

-- DISTINCT, REDUCED or neither; REDUCED may keep all rows, and does (SPARQL 1.1 19.8, SelectClause; 15.3.2)
pub data IsDistinctness : List Symbol → Bool → List Symbol → Type 0 where
  distinct_rows : {ts rest : List Symbol} → Is s.Distinct ts rest → IsDistinctness ts true rest
  reduced_rows : {ts rest : List Symbol} → Is s.Reduced ts rest → IsDistinctness ts false rest
  all_rows : {ts : List Symbol} → IsDistinctness ts false ts

-- VAR | '(' expr 'AS' VAR ')' (SPARQL 1.1 19.8, SelectClause)
pub data IsItem : List Symbol → SelectItem → List Symbol → Type 0 where
  item_variable : {ts rest : List Symbol} {name : Name} → IsHead s.Var name ts rest → IsItem ts (item name None) rest
  item_value : {ts us vs ws xs rest : List Symbol} {a : Expr} {name : Name} → Is s.Open ts us → IsExpr true us a vs → Is s.As vs ws → IsHead s.Var name ws xs
      → Is s.Close xs rest → IsItem ts (item name (Some a)) rest

-- item*
pub data ItemTail : List Symbol → List SelectItem → List Symbol → Type 0 where
  item_end : {ts : List Symbol} → ItemTail ts [] ts
  item_more : {ts us rest : List Symbol} {first : SelectItem} {more : List SelectItem} → IsItem ts first us → ItemTail us more rest → ItemTail ts (first ∷ more) rest

-- '*' | item+, with whether it is '*' (SPARQL 1.1 19.8, SelectClause)
pub data IsSelection : List Symbol → Bool → List SelectItem → List Symbol → Type 0 where
  select_star : {ts rest : List Symbol} → Is s.Star ts rest → IsSelection ts true [] rest
  select_items : {ts us rest : List Symbol} {first : SelectItem} {more : List SelectItem} → IsItem ts first us → ItemTail us more rest → IsSelection ts false (first ∷ more) rest

-- 'WHERE'? (SPARQL 1.1 19.8, WhereClause)
pub data IsWhere : List Symbol → List Symbol → Type 0 where
  where_word : {ts rest : List Symbol} → Is s.Where ts rest → IsWhere ts rest
  no_where : {ts : List Symbol} → IsWhere ts ts

-- VAR | call | '(' expr ('AS' VAR)? ')', where no aggregate stands (SPARQL 1.1 19.8, GroupCondition)
pub data IsKey : List Symbol → GroupKey → List Symbol → Type 0 where
  key_variable : {ts rest : List Symbol} {name : Name} → IsHead s.Var name ts rest → IsKey ts (key (Var name) (Some name)) rest
  key_call : {ts rest : List Symbol} {a : Expr} → IsCall false ts a rest → IsKey ts (key a None) rest
  key_value : {ts us vs rest : List Symbol} {a : Expr} → Is s.Open ts us → IsExpr false us a vs → Is s.Close vs rest → IsKey ts (key a None) rest
  key_named : {ts us vs ws xs rest : List Symbol} {a : Expr} {name : Name} → Is s.Open ts us → IsExpr false us a vs → Is s.As vs ws → IsHead s.Var name ws xs
      → Is s.Close xs rest → IsKey ts (key a (Some name)) rest

-- key*
pub data KeyTail : List Symbol → List GroupKey → List Symbol → Type 0 where
  key_end : {ts : List Symbol} → KeyTail ts [] ts
  key_more : {ts us rest : List Symbol} {first : GroupKey} {more : List GroupKey} → IsKey ts first us → KeyTail us more rest → KeyTail ts (first ∷ more) rest

-- ('GROUP' 'BY' key+)? (SPARQL 1.1 19.8, GroupClause)
pub data IsGrouping : List Symbol → List GroupKey → List Symbol → Type 0 where
  no_grouping : {ts : List Symbol} → IsGrouping ts [] ts
  grouping : {ts us vs ws rest : List Symbol} {first : GroupKey} {more : List GroupKey} → Is s.Group ts us → Is s.By us vs → IsKey vs first ws → KeyTail ws more rest
      → IsGrouping ts (first ∷ more) rest

-- constraint*
pub data HavingTail : List Symbol → List Expr → List Symbol → Type 0 where
  having_end : {ts : List Symbol} → HavingTail ts [] ts
  having_more : {ts us rest : List Symbol} {first : Expr} {more : List Expr} → IsConstraint true ts first us → HavingTail us more rest → HavingTail ts (first ∷ more) rest

-- ('HAVING' constraint+)? (SPARQL 1.1 19.8, HavingClause)
pub data IsHaving : List Symbol → List Expr → List Symbol → Type 0 where
  no_having : {ts : List Symbol} → IsHaving ts [] ts
  having : {ts us vs rest : List Symbol} {first : Expr} {more : List Expr} → Is s.Having ts us → IsConstraint true us first vs → HavingTail vs more rest
      → IsHaving ts (first ∷ more) rest

-- ('ASC' | 'DESC') '(' expr ')' | constraint | VAR (SPARQL 1.1 19.8, OrderCondition)
pub data IsOrderKey : List Symbol → OrderKey → List Symbol → Type 0 where
  ascending : {ts us vs ws rest : List Symbol} {a : Expr} → Is s.Asc ts us → Is s.Open us vs → IsExpr true vs a ws → Is s.Close ws rest → IsOrderKey ts (ordered a false) rest
  descending : {ts us vs ws rest : List Symbol} {a : Expr} → Is s.Desc ts us → Is s.Open us vs → IsExpr true vs a ws → Is s.Close ws rest → IsOrderKey ts (ordered a true) rest
  order_constraint : {ts rest : List Symbol} {a : Expr} → IsConstraint true ts a rest → IsOrderKey ts (ordered a false) rest
  order_variable : {ts rest : List Symbol} {name : Name} → IsHead s.Var name ts rest → IsOrderKey ts (ordered (Var name) false) rest

-- order*
pub data OrderTail : List Symbol → List OrderKey → List Symbol → Type 0 where
  order_end : {ts : List Symbol} → OrderTail ts [] ts
  order_more : {ts us rest : List Symbol} {first : OrderKey} {more : List OrderKey} → IsOrderKey ts first us → OrderTail us more rest → OrderTail ts (first ∷ more) rest

-- ('ORDER' 'BY' order+)? (SPARQL 1.1 19.8, OrderClause)
pub data IsOrdering : List Symbol → List OrderKey → List Symbol → Type 0 where
  no_ordering : {ts : List Symbol} → IsOrdering ts [] ts
  ordering : {ts us vs ws rest : List Symbol} {first : OrderKey} {more : List OrderKey} → Is s.Order ts us → Is s.By us vs → IsOrderKey vs first ws → OrderTail ws more rest
      → IsOrdering ts (first ∷ more) rest

-- INTEGER, of digits that write a number below 2^64
pub data IsCount : List Symbol → ℕ → List Symbol → Type 0 where
  count : {ts rest : List Symbol} {digits : List ℕ} → IsHead s.Integer digits ts rest → are_digits digits ≡ true → digits_value digits < 2 ^ 64 → IsCount ts (digits_value digits) rest

-- 'LIMIT' INTEGER (SPARQL 1.1 19.8, LimitClause)
pub data IsLimit : List Symbol → ℕ → List Symbol → Type 0 where
  limit : {ts us rest : List Symbol} {n : ℕ} → Is s.Limit ts us → IsCount us n rest → IsLimit ts n rest

-- 'OFFSET' INTEGER (SPARQL 1.1 19.8, OffsetClause)
pub data IsOffset : List Symbol → ℕ → List Symbol → Type 0 where
  offset : {ts us rest : List Symbol} {n : ℕ} → Is s.Offset ts us → IsCount us n rest → IsOffset ts n rest

-- (limit offset? | offset limit?)?, where no offset is 0 (SPARQL 1.1 19.8, LimitOffsetClauses)
pub data IsSlice : List Symbol → Option ℕ → ℕ → List Symbol → Type 0 where
  no_slice : {ts : List Symbol} → IsSlice ts None 0 ts
  limit_only : {ts rest : List Symbol} {n : ℕ} → IsLimit ts n rest → IsSlice ts (Some n) 0 rest
  limit_offset : {ts us rest : List Symbol} {n m : ℕ} → IsLimit ts n us → IsOffset us m rest → IsSlice ts (Some n) m rest
  offset_only : {ts rest : List Symbol} {m : ℕ} → IsOffset ts m rest → IsSlice ts None m rest
  offset_limit : {ts us rest : List Symbol} {n m : ℕ} → IsOffset ts m us → IsLimit us n rest → IsSlice ts (Some n) m rest

-- 'SELECT' distinctness selection where group grouping having ordering slice, and nothing behind (SPARQL 1.1 19.8, SelectQuery)
pub data IsSelect : List Symbol → Query → Type 0 where
  select : {ts us vs ws xs ys zs bs cs : List Symbol} {distinct star : Bool} {items : List SelectItem} {body : Group} {keys : List GroupKey} {conditions : List Expr}
      {order : List OrderKey} {limit : Option ℕ} {offset : ℕ} → Is s.Select ts us → IsDistinctness us distinct vs → IsSelection vs star items ws → IsWhere ws xs → IsGroup xs body ys
      → IsGrouping ys keys zs → IsHaving zs conditions bs → IsOrdering bs order cs → IsSlice cs limit offset []
      → IsSelect ts (record { distinct = distinct; star = star; items = items; body = body; keys = keys; having = conditions; order = order; limit = limit; offset = offset })

-- whether an item is a variable alone that is among these
abbrev pub repeats : List Name → Name → Option Expr → Bool
repeats names variable None = has_name names variable
repeats names variable (Some value) = false

-- the variables of the items, in order
abbrev pub variables : List SelectItem → List Name
variables items = map (λ one. one.variable) items

-- these items, and behind them this one, unless it is a variable alone that one of them has (SPARQL 1.1 16.1)
abbrev pub with_item : List SelectItem → SelectItem → List SelectItem
with_item items one = if repeats (variables items) one.variable one.value then items else items ++ one ∷ []

-- these items, and behind them the others, one by one
abbrev pub with_items : List SelectItem → List SelectItem → List SelectItem
with_items items [] = items
with_items items (first ∷ rest) = with_items (with_item items first) rest

-- the query without the variables that are selected again
abbrev pub without_repeats : Query → Query
without_repeats query = record query { items = with_items [] query.items }

-- the symbols, all of them, spell the query
pub record IsQuery (symbols : List Symbol) (query : Query) : Type 0 where
  pub written : Query
  pub spelled : IsSelect symbols written
  pub kept_once : query ≡ without_repeats written
