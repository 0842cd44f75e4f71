-- Reading a group. The number is the room for nested groups and expressions.
use Rattle.std.specs.Prelude.{ℕ, zero, suc, Bool, false, List, [], ◌∷◌, ◌++◌, Option, Some, None}
use Rattle.sparql_tree.specs.Exprs.{Expr}
use Rattle.sparql_tree.specs.Groups.{Group, GroupOf, Element, Union, Optional, Minus, Filter, Bind, elements, groups}
use Rattle.sparql_tree.specs.declared.symbol.Shape.{Shape}
use Rattle.sparql_tree.specs.declared.symbol.Shape.TheVariants as s
use Rattle.sparql_grammar.specs.Parser.{Parser, ◌>>=◌, ◌>>◌, ◌<<◌, ◌<$>◌, pure, refuse, peek, take, all_more, all_steps, open_paren, close_paren, open_brace, close_brace, as_word, name}
use Rattle.sparql_grammar.specs.ExprReading.{expr, call, aggregate_if}
use Rattle.sparql_grammar.specs.TripleReading.{triples}
use Rattle.sparql_grammar.specs.ValueReading as value

abbrev pub point_by : Option Shape → Parser (Unit {0})
point_by (Some s.Point) = take
point_by o = pure tt

-- a point or nothing
unfoldable pub point : Parser (Unit {0})
point = peek >>= point_by

module _ (expr : Bool → Parser Expr) where
  abbrev pub constraint_by : Bool → Option Shape → Parser Expr
  constraint_by b (Some s.Open) = take >> (expr b << close_paren)
  constraint_by b (Some (s.Function function)) = take >> call expr b function
  constraint_by b (Some (s.Aggregate kind)) = aggregate_if expr b b kind
  constraint_by b o = refuse

  unfoldable pub constraint : Bool → Parser Expr
  constraint b = peek >>= constraint_by b

  -- behind BIND
  unfoldable pub bound : Parser Element
  bound = open_paren >> (expr false >>= (λ a. as_word >> (name >>= (λ n. close_paren >> pure (Bind a n)))))

module _ (expr : Bool → Parser Expr) (group : Parser Group) where
  abbrev pub union_turn : Option Shape → Option (Parser Group)
  union_turn (Some s.Union) = Some (take >> group)
  union_turn o = None

  unfoldable pub union_from : List Group → Parser (List Group)
  union_from found = all_more union_turn found

  abbrev pub element_by : Option Shape → Parser Element
  element_by (Some s.Optional) = take >> (Optional <$> group)
  element_by (Some s.Without) = take >> (Minus <$> group)
  element_by (Some s.Filter) = take >> (Filter <$> constraint expr false)
  element_by (Some s.Bind) = take >> bound expr
  element_by (Some s.Values) = take >> value.values
  element_by o = group >>= (λ first. (λ all. Union (groups all)) <$> union_from (first ∷ []))

  unfoldable pub element : Parser Element
  element = peek >>= element_by

  -- an element, a point or none, and triples or none
  unfoldable pub step : List Element → Parser (List Element)
  step found = element >>= (λ x. point >> (triples >>= (λ after. pure ((found ++ x ∷ []) ++ after))))

  abbrev pub body_turn : Option Shape → Option (List Element → Parser (List Element))
  body_turn (Some s.CloseBrace) = None
  body_turn o = Some step

  unfoldable pub body : List Element → Parser (List Element)
  body found = all_steps body_turn found

  unfoldable pub braced : Parser Group
  braced = open_brace >> (triples >>= (λ first. body first >>= (λ all. close_brace >> pure (GroupOf (elements all)))))

unfoldable pub group : ℕ → Parser Group
group zero = refuse
group (suc room) = braced (expr room) (group room)
