-- Reading inline data.
use Rattle.std.specs.Prelude.{List, [], ◌∷◌, Option, Some, None}
use Rattle.std.specs.FinMap as finmap
use Rattle.term_core.specs.Mappings.{Name, Row}
use Rattle.term_core.specs.declared.term.Term.{Term}
use Rattle.sparql_tree.specs.Groups.{Element, Values}
use Rattle.sparql_tree.specs.declared.symbol.Shape.{Shape}
use Rattle.sparql_tree.specs.declared.symbol.Shape.TheVariants as s
use Rattle.sparql_grammar.specs.Parser.{Parser, ◌>>=◌, ◌>>◌, ◌<<◌, ◌<$>◌, pure, refuse, peek, take, spelled_value, all_more, open_brace, close_brace, close_paren}
use Rattle.sparql_grammar.specs.TermReading.{term}
use Rattle.sparql_tree.specs.Values.{with_cell}

abbrev pub cell_by : Option Shape → Parser (Option Term)
cell_by (Some s.Undef) = take >> pure None
cell_by o = Some <$> term

unfoldable pub cell : Parser (Option Term)
cell = peek >>= cell_by

-- a cell for each of the names
unfoldable pub row_with : List Name → Row → Parser Row
row_with [] so_far = pure so_far
row_with (name ∷ variables) so_far = cell >>= (λ found. row_with variables (with_cell so_far name found))

-- the same from the row that binds no name
unfoldable pub row : List Name → Parser Row
row variables = row_with variables finmap.empty

abbrev pub one_turn : List Name → Option Shape → Option (Parser Row)
one_turn variables (Some s.CloseBrace) = None
one_turn variables o = Some (row variables)

unfoldable pub one_rows : List Name → Parser (List Row)
one_rows variables = all_more (one_turn variables) []

abbrev pub names_turn : Option Shape → Option (Parser Name)
names_turn (Some s.Var) = Some spelled_value
names_turn o = None

unfoldable pub names : Parser (List Name)
names = all_more names_turn []

abbrev pub full_turn : List Name → Option Shape → Option (Parser Row)
full_turn variables (Some s.Open) = Some (take >> (row variables << close_paren))
full_turn variables o = None

unfoldable pub full_rows : List Name → Parser (List Row)
full_rows variables = all_more (full_turn variables) []

-- behind a variable
unfoldable pub one : Name → Parser Element
one name = open_brace >> (one_rows (name ∷ []) >>= (λ rows. close_brace >> pure (Values (name ∷ []) rows)))

-- behind an opening parenthesis
unfoldable pub full : Parser Element
full = names >>= (λ variables. close_paren >> (open_brace >> (full_rows variables >>= (λ rows. close_brace >> pure (Values variables rows)))))

abbrev pub values_by : Option Shape → Parser Element
values_by (Some s.Var) = spelled_value >>= (λ name. one name)
values_by (Some s.Open) = take >> full
values_by o = refuse

-- behind VALUES
unfoldable pub values : Parser Element
values = peek >>= values_by
