-- Reading an expression, level by level. The number is the room for nested expressions.
use Rattle.std.specs.Prelude.{ℕ, zero, suc, Bool, true, false, List, [], ◌∷◌, length, Option, Some, None, codes, if◌then◌else◌}
use Rattle.sparql_tree.specs.Exprs.{Expr, Var, Const, Not, Plus, Minus, Compare, OneOf, Call, Aggregate, AggregateAll, exprs}
use Rattle.sparql_tree.specs.declared.words.AggregateKind.{AggregateKind}
use Rattle.sparql_tree.specs.declared.words.AggregateKind.TheVariants as kinds
use Rattle.sparql_tree.specs.declared.words.CompareOp.{CompareOp}
use Rattle.sparql_tree.specs.declared.words.Function.{Function}
use Rattle.sparql_tree.specs.declared.words.Function.TheVariants as functions
use Rattle.sparql_tree.specs.declared.symbol.Shape.{Shape}
use Rattle.sparql_tree.specs.declared.symbol.Shape.TheVariants as s
use Rattle.sparql_grammar.specs.Parser.{Parser, ◌>>=◌, ◌>>◌, ◌<<◌, ◌<$>◌, pure, refuse, peek, take, spelled_value, all_more, open_paren, close_paren, name}
use Rattle.sparql_grammar.specs.TermReading.{term, number}
use Rattle.sparql_tree.specs.Expressions.{or_node, and_node, sum_node, product_node, op_of, begins_number, takes}

abbrev pub distinct_by : Option Shape → Parser Bool
distinct_by (Some s.Distinct) = take >> pure true
distinct_by o = pure false

-- DISTINCT or nothing
unfoldable pub distinct_or_all : Parser Bool
distinct_or_all = peek >>= distinct_by

-- the comparison that comes next, if any
abbrev pub op_at : Option Shape → Option CompareOp
op_at None = None
op_at (Some shape) = op_of shape

abbrev pub in_by : Option Shape → Parser (Unit {0})
in_by (Some s.In) = take
in_by o = refuse

-- IN behind NOT
unfoldable pub in_word : Parser (Unit {0})
in_word = peek >>= in_by

-- BOUND of a variable, behind the word
unfoldable pub bound : Parser Expr
bound = open_paren >> (name >>= (λ n. close_paren >> pure (Call functions.Bound (exprs (Var n ∷ [])))))

-- the expressions, if the function takes so many
abbrev pub taken_if : Bool → Function → List Expr → Parser Expr
taken_if fits function arguments = if fits then pure (Call function (exprs arguments)) else refuse

abbrev pub taken : Function → List Expr → Parser Expr
taken function arguments = taken_if (takes function (length arguments)) function arguments

module _ (expr : Bool → Parser Expr) (b : Bool) where
  abbrev pub list_turn : Option Shape → Option (Parser Expr)
  list_turn (Some s.Comma) = Some (take >> expr b)
  list_turn o = None

  unfoldable pub list_from : List Expr → Parser (List Expr)
  list_from found = all_more list_turn found

  abbrev pub list_by : Option Shape → Parser (List Expr)
  list_by (Some s.Close) = take >> pure []
  list_by o = expr b >>= (λ first. list_from (first ∷ []) << close_paren)

  unfoldable pub list : Parser (List Expr)
  list = open_paren >> (peek >>= list_by)

  abbrev pub call_by : Function → Parser Expr
  call_by functions.Bound = bound
  call_by function = list >>= (λ arguments. taken function arguments)

  -- behind the function's name
  unfoldable pub call : Function → Parser Expr
  call function = call_by function

  abbrev pub starred : AggregateKind → Bool → Parser Expr
  starred kinds.Count once = take >> pure (AggregateAll kinds.Count once)
  starred kind once = refuse

  abbrev pub counted : AggregateKind → Bool → Option Shape → Parser Expr
  counted kind once (Some s.Star) = starred kind once
  counted kind once o = Aggregate kind once <$> expr false

  -- behind the aggregate's name
  unfoldable pub aggregate : AggregateKind → Parser Expr
  aggregate kind = open_paren >> (distinct_or_all >>= (λ once. (peek >>= counted kind once) << close_paren))

  abbrev pub aggregate_if : Bool → AggregateKind → Parser Expr
  aggregate_if true kind = take >> aggregate kind
  aggregate_if false kind = refuse

  abbrev pub atom_by : Option Shape → Parser Expr
  atom_by (Some s.Var) = Var <$> spelled_value
  atom_by (Some s.Open) = take >> (expr b << close_paren)
  atom_by (Some (s.Function function)) = take >> call function
  atom_by (Some (s.Aggregate kind)) = aggregate_if b kind
  atom_by o = Const <$> term

  unfoldable pub atom : Parser Expr
  atom = peek >>= atom_by

  abbrev pub signed_by : List ℕ → (Expr → Expr) → Bool → Parser Expr
  signed_by sign node true = Const <$> number sign
  signed_by sign node false = node <$> atom

  abbrev pub signed : List ℕ → (Expr → Expr) → Parser Expr
  signed sign node = peek >>= (λ o. signed_by sign node (begins_number o))

  abbrev pub unary_by : Option Shape → Parser Expr
  unary_by (Some s.Bang) = take >> (Not <$> atom)
  unary_by (Some s.Plus) = take >> signed (codes "+") Plus
  unary_by (Some s.Minus) = take >> signed (codes "-") Minus
  unary_by o = atom

  unfoldable pub unary : Parser Expr
  unary = peek >>= unary_by

  abbrev pub product_turn : Option Shape → Option (Parser (Bool × Expr))
  product_turn (Some s.Star) = Some (take >> ((λ value. (false, value)) <$> unary))
  product_turn (Some s.Slash) = Some (take >> ((λ value. (true, value)) <$> unary))
  product_turn o = None

  unfoldable pub product_rest : Parser (List (Bool × Expr))
  product_rest = all_more product_turn []

  unfoldable pub product : Parser Expr
  product = unary >>= (λ first. product_node first <$> product_rest)

  abbrev pub sum_turn : Option Shape → Option (Parser (Bool × Expr))
  sum_turn (Some s.Plus) = Some (take >> ((λ value. (false, value)) <$> product))
  sum_turn (Some s.Minus) = Some (take >> ((λ value. (true, value)) <$> product))
  sum_turn o = None

  unfoldable pub sum_rest : Parser (List (Bool × Expr))
  sum_rest = all_more sum_turn []

  unfoldable pub sum : Parser Expr
  sum = product >>= (λ first. sum_node first <$> sum_rest)

  abbrev pub compared : Expr → Option CompareOp → Parser Expr
  compared left None = pure left
  compared left (Some op) = take >> (Compare op left <$> sum)

  abbrev pub rel_by : Expr → Option Shape → Parser Expr
  rel_by left (Some s.In) = take >> ((λ items. OneOf left (exprs items) false) <$> list)
  rel_by left (Some s.Not) = take >> (in_word >> ((λ items. OneOf left (exprs items) true) <$> list))
  rel_by left o = compared left (op_at o)

  unfoldable pub rel : Parser Expr
  rel = sum >>= (λ left. peek >>= rel_by left)

  abbrev pub and_turn : Option Shape → Option (Parser Expr)
  and_turn (Some s.And) = Some (take >> rel)
  and_turn o = None

  unfoldable pub and_from : List Expr → Parser (List Expr)
  and_from found = all_more and_turn found

  unfoldable pub and : Parser Expr
  and = rel >>= (λ first. and_node <$> and_from (first ∷ []))

  abbrev pub or_turn : Option Shape → Option (Parser Expr)
  or_turn (Some s.Or) = Some (take >> and)
  or_turn o = None

  unfoldable pub or_from : List Expr → Parser (List Expr)
  or_from found = all_more or_turn found

  unfoldable pub or : Parser Expr
  or = and >>= (λ first. or_node <$> or_from (first ∷ []))

unfoldable pub expr : ℕ → Bool → Parser Expr
expr zero b = refuse
expr (suc room) b = or (expr room) b
