-- The group as which a part is written, the symbols of it, and what can be written (SPARQL 1.1, 18.2 and 19.8).
use Rattle.std.specs.Prelude.{◌≡◌, Bool, true, false, List, [], ◌∷◌, Option, Some, None}
use Rattle.std.specs.FinMap as finmap
use Rattle.term_core.specs.Characters.{IsTextOf, is_pn}
use Rattle.term_core.specs.Mappings.{Name, Row, value}
use Rattle.term_core.specs.Spelling.{IsSpelledIri}
use Rattle.term_core.specs.Names.{IsName}
use Rattle.term_core.specs.Terminals.{is_query_label_first}
use Rattle.term_core.specs.declared.pattern.Pattern.{Pattern}
use Rattle.term_core.specs.declared.pattern.Place.{Place}
use Rattle.term_core.specs.declared.pattern.Place.TheVariants as places
use Rattle.term_core.specs.declared.term.Term.{Term}
use Rattle.term_core.specs.declared.term.Term.TheVariants as terms
use Rattle.sparql_tree.specs.Algebra as algebra
use Rattle.sparql_tree.specs.Algebra.{Algebra}
use Rattle.sparql_tree.specs.Exprs.{Expr}
use Rattle.sparql_tree.specs.Groups.{Group, GroupOf, Elements, EndOfElements, ThenElement, Groups, EndOfGroups, ThenGroup, Element, Triples, Union, Optional, Filter, Bind, Values, Query}
use Rattle.sparql_tree.specs.Groups as tree
use Rattle.sparql_tree.specs.Symbols.{symbol, bare}
use Rattle.sparql_tree.specs.Values.{with_cell}
use Rattle.sparql_tree.specs.declared.symbol.Shape.TheVariants as s
use Rattle.sparql_tree.specs.declared.symbol.Symbol.{Symbol}
use Rattle.sparql_print.proofs.ExprSymbols.{expr_symbols, term_symbols}
use Rattle.sparql_print.proofs.SpelledNames.{AreSpelledNames}
use Rattle.sparql_print.specs.OfTrees.{IsOfTree}
use Rattle.sparql_print.specs.Spelled.{IsSpelledName, AreSpelledIn, IsConstant}

-- ---- the group

abbrev pub one_group : Group → Groups
one_group g = ThenGroup g EndOfGroups

abbrev pub one_element : Element → Elements
one_element x = ThenElement x EndOfElements

-- the group that a part is written as
abbrev pub group_of_part : Algebra → Group
group_of_part (algebra.Bgp []) = GroupOf EndOfElements
group_of_part (algebra.Bgp (p ∷ ps)) = GroupOf (one_element (Triples (p ∷ ps)))
group_of_part (algebra.Join left right) = GroupOf (ThenElement (Union (one_group (group_of_part left))) (one_element (Union (one_group (group_of_part right)))))
group_of_part (algebra.Union left right) = GroupOf (one_element (Union (ThenGroup (group_of_part left) (one_group (group_of_part right)))))
group_of_part (algebra.Filter condition inner) = GroupOf (ThenElement (Union (one_group (group_of_part inner))) (one_element (Filter condition)))
group_of_part (algebra.Extend inner variable value) = GroupOf (ThenElement (Union (one_group (group_of_part inner))) (one_element (Bind value variable)))
group_of_part (algebra.Table variables rows) = GroupOf (one_element (Values variables rows))
group_of_part (algebra.LeftJoin left right condition) = GroupOf EndOfElements
group_of_part (algebra.Minus left right) = GroupOf EndOfElements

-- the query for all its variables
abbrev pub query_of_part : Algebra → Query
query_of_part a = record { distinct = false; star = true; items = []; body = group_of_part a; keys = []; having = []; order = []; limit = None; offset = 0 }

-- ---- which operators are of a part

-- no LeftJoin and no Minus
abbrev pub IsPart : Algebra → Type 0
IsPart (algebra.Bgp patterns) = Unit {0}
IsPart (algebra.Table variables rows) = Unit {0}
IsPart (algebra.Join left right) = IsPart left × IsPart right
IsPart (algebra.Union left right) = IsPart left × IsPart right
IsPart (algebra.Filter condition inner) = IsPart inner
IsPart (algebra.Extend inner variable value) = IsPart inner
IsPart (algebra.LeftJoin left right condition) = ⊥
IsPart (algebra.Minus left right) = ⊥

abbrev pub is_unit : Algebra → Bool
is_unit (algebra.Bgp []) = true
is_unit a = false

-- ---- what can be written

-- the UTF-8 of a label (SPARQL 1.1 19.8, BLANK_NODE_LABEL)
pub record IsWrittenLabel (label : Name) : Type 0 where
  pub characters : Name
  pub is_text : IsTextOf characters label
  pub is_label : IsName is_query_label_first is_pn characters

abbrev pub IsWrittenPlace : Place → Type 0
IsWrittenPlace (places.Var name) = IsSpelledName name
IsWrittenPlace (places.Blank label) = IsWrittenLabel label
IsWrittenPlace (places.Term term) = IsConstant term

-- a variable or an IRI (SPARQL 1.1 19.8, Verb)
abbrev pub IsWrittenVerb : Place → Type 0
IsWrittenVerb (places.Var name) = IsSpelledName name
IsWrittenVerb (places.Blank label) = ⊥
IsWrittenVerb (places.Term (terms.Iri iri)) = IsSpelledIri iri
IsWrittenVerb (places.Term term) = ⊥

pub record IsWrittenPattern (p : Pattern) : Type 0 where
  pub subject : IsWrittenPlace p.subject
  pub verb : IsWrittenVerb p.predicate
  pub object : IsWrittenPlace p.object

abbrev pub AreWrittenPatterns : List Pattern → Type 0
AreWrittenPatterns [] = Unit {0}
AreWrittenPatterns (first ∷ rest) = IsWrittenPattern first × AreWrittenPatterns rest

-- a constant, or nothing
abbrev pub IsWrittenCell : Option Term → Type 0
IsWrittenCell None = Unit {0}
IsWrittenCell (Some term) = IsConstant term

-- one for each name
abbrev pub AreCells : List Name → List (Option Term) → Type 0
AreCells [] [] = Unit {0}
AreCells (name ∷ names) (cell ∷ cells) = IsWrittenCell cell × AreCells names cells
AreCells names cells = ⊥

-- the row with each cell put in under its name
abbrev pub with_cells : Row → List Name → List (Option Term) → Row
with_cells row (name ∷ names) (cell ∷ cells) = with_cells (with_cell row name cell) names cells
with_cells row names cells = row

-- a row of such cells
pub record IsWrittenRow (names : List Name) (row : Row) : Type 0 where
  pub cells : List (Option Term)
  pub are_cells : AreCells names cells
  pub spelled : row ≡ with_cells finmap.empty names cells

abbrev pub AreWrittenRows : List Name → List Row → Type 0
AreWrittenRows names [] = Unit {0}
AreWrittenRows names (first ∷ rest) = IsWrittenRow names first × AreWrittenRows names rest

-- an expression of a tree whose names and terms can be written
pub record IsWrittenExpr (e : Expr) : Type 0 where
  pub of_tree : IsOfTree false e
  pub spelled : AreSpelledIn e

-- all that stands in a group
abbrev mutual
  pub IsWrittenGroup : Group → Type 0
  IsWrittenGroup (GroupOf elements) = AreWrittenElements elements

  pub AreWrittenElements : Elements → Type 0
  AreWrittenElements EndOfElements = Unit {0}
  AreWrittenElements (ThenElement first rest) = IsWrittenElement first × AreWrittenElements rest

  pub AreWrittenGroups : Groups → Type 0
  AreWrittenGroups EndOfGroups = Unit {0}
  AreWrittenGroups (ThenGroup first rest) = IsWrittenGroup first × AreWrittenGroups rest

  pub IsWrittenElement : Element → Type 0
  IsWrittenElement (Triples patterns) = AreWrittenPatterns patterns
  IsWrittenElement (Union groups) = AreWrittenGroups groups
  IsWrittenElement (Optional group) = IsWrittenGroup group
  IsWrittenElement (tree.Minus group) = IsWrittenGroup group
  IsWrittenElement (Filter value) = IsWrittenExpr value
  IsWrittenElement (Bind value variable) = IsWrittenExpr value × IsSpelledName variable
  IsWrittenElement (Values variables rows) = AreSpelledNames variables × AreWrittenRows variables rows

-- operators that can be written: no side of a join is the unit
abbrev pub IsWritten : Algebra → Type 0
IsWritten (algebra.Bgp patterns) = AreWrittenPatterns patterns
IsWritten (algebra.Join left right) = IsWritten left × IsWritten right × (is_unit left ≡ false) × (is_unit right ≡ false)
IsWritten (algebra.Union left right) = IsWritten left × IsWritten right
IsWritten (algebra.Filter condition inner) = IsWritten inner × IsWrittenExpr condition
IsWritten (algebra.Extend inner variable value) = IsWritten inner × IsWrittenExpr value × IsSpelledName variable
IsWritten (algebra.Table variables rows) = AreSpelledNames variables × AreWrittenRows variables rows
IsWritten (algebra.LeftJoin left right condition) = IsWritten left × IsWritten right
IsWritten (algebra.Minus left right) = IsWritten left × IsWritten right

-- ---- the symbols, before the rest

abbrev pub place_symbols : Place → List Symbol → List Symbol
place_symbols (places.Var name) rest = symbol s.Var name ∷ rest
place_symbols (places.Blank label) rest = symbol s.Blank label ∷ rest
place_symbols (places.Term term) rest = term_symbols term rest

abbrev pub patterns_symbols : List Pattern → List Symbol → List Symbol
patterns_symbols [] rest = rest
patterns_symbols (p ∷ ps) rest = place_symbols p.subject (place_symbols p.predicate (place_symbols p.object (bare s.Point ∷ patterns_symbols ps rest)))

abbrev pub names_symbols : List Name → List Symbol → List Symbol
names_symbols [] rest = rest
names_symbols (name ∷ names) rest = symbol s.Var name ∷ names_symbols names rest

abbrev pub value_symbols : Option Term → List Symbol → List Symbol
value_symbols None rest = bare s.Undef ∷ rest
value_symbols (Some term) rest = term_symbols term rest

abbrev pub row_symbols : Row → List Name → List Symbol → List Symbol
row_symbols row [] rest = rest
row_symbols row (name ∷ names) rest = value_symbols (value row name) (row_symbols row names rest)

abbrev pub rows_symbols : List Name → List Row → List Symbol → List Symbol
rows_symbols names [] rest = rest
rows_symbols names (row ∷ rows) rest = bare s.Open ∷ row_symbols row names (bare s.Close ∷ rows_symbols names rows rest)

unfoldable pub group_symbols : Algebra → List Symbol → List Symbol
group_symbols (algebra.Bgp patterns) rest = bare s.OpenBrace ∷ patterns_symbols patterns (bare s.CloseBrace ∷ rest)
group_symbols (algebra.Join left right) rest = bare s.OpenBrace ∷ group_symbols left (group_symbols right (bare s.CloseBrace ∷ rest))
group_symbols (algebra.Union left right) rest = bare s.OpenBrace ∷ group_symbols left (bare s.Union ∷ group_symbols right (bare s.CloseBrace ∷ rest))
group_symbols (algebra.Filter condition inner) rest =
    bare s.OpenBrace ∷ group_symbols inner (bare s.Filter ∷ bare s.Open ∷ expr_symbols condition (bare s.Close ∷ bare s.CloseBrace ∷ rest))
group_symbols (algebra.Extend inner variable value) rest =
    bare s.OpenBrace ∷ group_symbols inner (bare s.Bind ∷ bare s.Open ∷ expr_symbols value (bare s.As ∷ symbol s.Var variable ∷ bare s.Close ∷ bare s.CloseBrace ∷ rest))
group_symbols (algebra.Table variables rows) rest =
    bare s.OpenBrace ∷ bare s.Values ∷ bare s.Open ∷ names_symbols variables (bare s.Close ∷ bare s.OpenBrace ∷ rows_symbols variables rows (bare s.CloseBrace ∷ bare s.CloseBrace ∷ rest))
group_symbols (algebra.LeftJoin left right condition) rest = rest
group_symbols (algebra.Minus left right) rest = rest
