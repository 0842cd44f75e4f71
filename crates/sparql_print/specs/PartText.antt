-- The text in which a part of a query travels to a server (SPARQL 1.1, 18.2 and 19.8).
use Rattle.std.specs.Prelude.{ℕ, List, [], ◌∷◌, ◌++◌, codes, flat_map, Option, Some, None}
use Rattle.term_core.specs.Texts.{term_text}
use Rattle.term_core.specs.Mappings.{Name, Row, value}
use Rattle.term_core.specs.declared.term.Term.{Term}
use Rattle.term_core.specs.declared.pattern.Pattern.{Pattern}
use Rattle.term_core.specs.declared.pattern.Place.{Place}
use Rattle.term_core.specs.declared.pattern.Place.TheVariants as places
use Rattle.sparql_tree.specs.Algebra.{Algebra, Bgp, Join, LeftJoin, Minus, Union, Filter, Extend, Table}
use Rattle.sparql_print.specs.ExprText.{spaced, in_parens, expr_text}

-- a text in braces (SPARQL 1.1 19.8, GroupGraphPattern)
abbrev pub in_braces : List ℕ → List ℕ
in_braces text = spaced (codes "{") (spaced text (codes "}"))

-- a variable (SPARQL 1.1 19.8, VAR1)
abbrev pub variable_text : Name → List ℕ
variable_text name = 63 ∷ name

-- a place of a triple pattern (SPARQL 1.1 19.8, VarOrTerm)
abbrev pub place_text : Place → List ℕ
place_text (places.Var name) = variable_text name
place_text (places.Blank label) = 95 ∷ 58 ∷ label
place_text (places.Term term) = term_text term

-- a triple pattern with its point, behind other texts (SPARQL 1.1 19.8, TriplesBlock)
abbrev pub pattern_text : Pattern → List ℕ
pattern_text p = 32 ∷ spaced (place_text p.subject) (spaced (place_text p.predicate) (spaced (place_text p.object) (codes ".")))

-- a variable before other texts
abbrev pub variable_before : Name → List ℕ
variable_before name = spaced (variable_text name) []

-- what a row has for a variable: a term, or nothing (SPARQL 1.1 19.8, DataBlockValue)
abbrev pub value_text : Option Term → List ℕ
value_text (Some term) = term_text term
value_text None = codes "UNDEF"

-- what a row has for a variable, before other texts
abbrev pub value_before : Row → Name → List ℕ
value_before row name = spaced (value_text (value row name)) []

-- a row, before other texts (SPARQL 1.1 19.8, InlineDataFull)
abbrev pub row_before : List Name → Row → List ℕ
row_before variables row = spaced (codes "(") (flat_map (value_before row) variables ++ codes ") ")

-- variables and rows (SPARQL 1.1 19.8, InlineDataFull)
abbrev pub table_text : List Name → List Row → List ℕ
table_text variables rows =
    spaced (codes "(") (flat_map variable_before variables ++ spaced (codes ")") (spaced (codes "{") (flat_map (row_before variables) rows ++ codes "}")))

-- the text of an operator as one group; those that no server evaluates have none
unfoldable pub group_text : Algebra → List ℕ
group_text (Bgp patterns) = codes "{" ++ (flat_map pattern_text patterns ++ codes " }")
group_text (Join left right) = in_braces (spaced (group_text left) (group_text right))
group_text (Union left right) = in_braces (spaced (group_text left) (spaced (codes "UNION") (group_text right)))
group_text (Filter condition inner) = in_braces (spaced (group_text inner) (spaced (codes "FILTER") (in_parens (expr_text condition))))
group_text (Extend inner variable value) =
    in_braces (spaced (group_text inner) (spaced (codes "BIND") (in_parens (spaced (expr_text value) (spaced (codes "AS") (variable_text variable))))))
group_text (Table variables rows) = in_braces (spaced (codes "VALUES") (table_text variables rows))
group_text (LeftJoin left right condition) = []
group_text (Minus left right) = []

-- the text of a part: a query for all its variables (SPARQL 1.1 19.8, SelectQuery)
abbrev pub part_text : Algebra → List ℕ
part_text a = spaced (codes "SELECT") (spaced (codes "*") (group_text a))
