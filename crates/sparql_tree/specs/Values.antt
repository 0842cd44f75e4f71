-- The grammar of inline data: the symbols from here, the variables and rows, and the symbols behind them
-- (SPARQL 1.1, 10.2 and 19.8, DataBlock).
use Rattle.std.specs.Prelude.{List, [], ◌∷◌, Option, Some, None}
use Rattle.std.specs.FinMap as finmap
use Rattle.term_core.specs.Mappings.{Name, Row}
use Rattle.term_core.specs.declared.term.Term.{Term}
use Rattle.sparql_tree.specs.declared.symbol.Shape.TheVariants as s
use Rattle.sparql_tree.specs.declared.symbol.Symbol.{Symbol}
use Rattle.sparql_tree.specs.Heads.{Is, IsHead}
use Rattle.sparql_tree.specs.Terms.{IsTerm}

-- a term, or UNDEF for none (SPARQL 1.1 19.8, DataBlockValue)
pub data IsCell : List Symbol → Option Term → List Symbol → Type 0 where
  cell_term : {ts rest : List Symbol} {term : Term} → IsTerm ts term rest → IsCell ts (Some term) rest
  cell_undef : {ts rest : List Symbol} → Is s.Undef ts rest → IsCell ts None rest

-- the row with the cell's term, if it has one, under the name
abbrev pub with_cell : Row → Name → Option Term → Row
with_cell row name None = row
with_cell row name (Some term) = finmap.insert row name term

-- a cell for each of the names, put into the row
pub data IsRow : List Name → Row → List Symbol → Row → List Symbol → Type 0 where
  row_end : {row : Row} {ts : List Symbol} → IsRow [] row ts row ts
  row_more : {name : Name} {names : List Name} {row all : Row} {ts us rest : List Symbol} {cell : Option Term} → IsCell ts cell us
      → IsRow names (with_cell row name cell) us all rest → IsRow (name ∷ names) row ts all rest

-- cell* under one name (SPARQL 1.1 19.8, InlineDataOneVar)
pub data OneRows (name : Name) : List Symbol → List Row → List Symbol → Type 0 where
  one_end : {ts : List Symbol} → OneRows name ts [] ts
  one_more : {ts us rest : List Symbol} {row : Row} {more : List Row} → IsRow (name ∷ []) finmap.empty ts row us → OneRows name us more rest → OneRows name ts (row ∷ more) rest

-- VAR*
pub data IsNames : List Symbol → List Name → List Symbol → Type 0 where
  names_end : {ts : List Symbol} → IsNames ts [] ts
  names_more : {ts us rest : List Symbol} {name : Name} {more : List Name} → IsHead s.Var name ts us → IsNames us more rest → IsNames ts (name ∷ more) rest

-- ('(' cell* ')')*, with a cell for each name (SPARQL 1.1 19.8, InlineDataFull)
pub data FullRows (names : List Name) : List Symbol → List Row → List Symbol → Type 0 where
  full_end : {ts : List Symbol} → FullRows names ts [] ts
  full_more : {ts us vs ws rest : List Symbol} {row : Row} {more : List Row} → Is s.Open ts us → IsRow names finmap.empty us row vs → Is s.Close vs ws
      → FullRows names ws more rest → FullRows names ts (row ∷ more) rest

-- VAR '{' cell* '}' | '(' VAR* ')' '{' ('(' cell* ')')* '}' (SPARQL 1.1 19.8, DataBlock)
pub data IsValues : List Symbol → List Name → List Row → List Symbol → Type 0 where
  values_one : {ts us vs ws rest : List Symbol} {name : Name} {rows : List Row} → IsHead s.Var name ts us → Is s.OpenBrace us vs → OneRows name vs rows ws
      → Is s.CloseBrace ws rest → IsValues ts (name ∷ []) rows rest
  values_full : {ts us vs ws xs ys rest : List Symbol} {names : List Name} {rows : List Row} → Is s.Open ts us → IsNames us names vs → Is s.Close vs ws → Is s.OpenBrace ws xs
      → FullRows names xs rows ys → Is s.CloseBrace ys rest → IsValues ts names rows rest
