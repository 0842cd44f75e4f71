-- Reading a query.
use Rattle.std.specs.Prelude.{◌^◌, ◌&&◌, nat_lt, ℕ, Bool, true, false, List, [], ◌∷◌, Option, Some, None, if◌then◌else◌}
use Rattle.term_core.specs.Numbers.{are_digits}
use Rattle.term_core.specs.Numbers as numbers
use Rattle.sparql_tree.specs.Exprs.{Expr, Var}
use Rattle.sparql_tree.specs.Groups.{Group, SelectItem, GroupKey, OrderKey, Query}
use Rattle.sparql_tree.specs.declared.symbol.Shape.{Shape}
use Rattle.sparql_tree.specs.declared.symbol.Shape.TheVariants as s
use Rattle.sparql_grammar.specs.Parser.{Parser, ◌>>=◌, ◌>>◌, ◌<$>◌, pure, refuse, peek, take, spelled_value, all_more, open_paren, close_paren, as_word, name}
use Rattle.sparql_grammar.specs.ExprReading.{expr, call}
use Rattle.sparql_grammar.specs.GroupReading.{constraint, group}
use Rattle.sparql_tree.specs.Queries.{item, key, ordered}

abbrev pub select_by : Option Shape → Parser (Unit {0})
select_by (Some s.Select) = take
select_by o = refuse

unfoldable pub select_word : Parser (Unit {0})
select_word = peek >>= select_by

abbrev pub by_by : Option Shape → Parser (Unit {0})
by_by (Some s.By) = take
by_by o = refuse

unfoldable pub by_word : Parser (Unit {0})
by_word = peek >>= by_by

abbrev pub where_by : Option Shape → Parser (Unit {0})
where_by (Some s.Where) = take
where_by o = pure tt

unfoldable pub where_word : Parser (Unit {0})
where_word = peek >>= where_by

abbrev pub distinct_by : Option Shape → Parser Bool
distinct_by (Some s.Distinct) = take >> pure true
distinct_by (Some s.Reduced) = take >> pure false
distinct_by o = pure false

unfoldable pub distinctness : Parser Bool
distinctness = peek >>= distinct_by

-- the number that digits write, below 2^64
abbrev pub fits_64_bits : List ℕ → Bool
fits_64_bits digits = are_digits digits && nat_lt (numbers.digits_value digits) (2 ^ 64)

abbrev pub counted_if : Bool → ℕ → Parser ℕ
counted_if fit n = if fit then pure n else refuse

abbrev pub count_by : Option Shape → Parser ℕ
count_by (Some s.Integer) = spelled_value >>= (λ digits. counted_if (fits_64_bits digits) (numbers.digits_value digits))
count_by o = refuse

unfoldable pub count : Parser ℕ
count = peek >>= count_by

abbrev pub offset_by : Option Shape → Parser ℕ
offset_by (Some s.Offset) = take >> count
offset_by o = pure 0

-- an offset or none
unfoldable pub offset : Parser ℕ
offset = peek >>= offset_by

abbrev pub limit_by : Option Shape → Parser (Option ℕ)
limit_by (Some s.Limit) = take >> (Some <$> count)
limit_by o = pure None

-- a limit or none
unfoldable pub limit : Parser (Option ℕ)
limit = peek >>= limit_by

abbrev pub slice_by : Option Shape → Parser (Option ℕ × ℕ)
slice_by (Some s.Offset) = take >> (count >>= (λ m. limit >>= (λ n. pure (n, m))))
slice_by o = limit >>= (λ n. offset >>= (λ m. pure (n, m)))

unfoldable pub slice : Parser (Option ℕ × ℕ)
slice = peek >>= slice_by

module _ (room : ℕ) where
  -- behind the parenthesis of an item
  unfoldable pub item_value : Parser SelectItem
  item_value = expr room true >>= (λ a. as_word >> (name >>= (λ n. close_paren >> pure (item n (Some a)))))

  abbrev pub item_by : Option Shape → Parser SelectItem
  item_by (Some s.Var) = (λ n. item n None) <$> spelled_value
  item_by (Some s.Open) = take >> item_value
  item_by o = refuse

  unfoldable pub one_item : Parser SelectItem
  one_item = peek >>= item_by

  abbrev pub item_turn : Option Shape → Option (Parser SelectItem)
  item_turn (Some s.Var) = Some one_item
  item_turn (Some s.Open) = Some one_item
  item_turn o = None

  unfoldable pub items_from : List SelectItem → Parser (List SelectItem)
  items_from found = all_more item_turn found

  abbrev pub selection_by : Option Shape → Parser (Bool × List SelectItem)
  selection_by (Some s.Star) = take >> pure (true, [])
  selection_by o = one_item >>= (λ first. (λ all. (false, all)) <$> items_from (first ∷ []))

  unfoldable pub selection : Parser (Bool × List SelectItem)
  selection = peek >>= selection_by

  abbrev pub key_end : Expr → Option Shape → Parser GroupKey
  key_end a (Some s.As) = take >> (name >>= (λ n. close_paren >> pure (key a (Some n))))
  key_end a o = close_paren >> pure (key a None)

  -- behind the parenthesis of a key
  unfoldable pub key_value : Parser GroupKey
  key_value = expr room false >>= (λ a. peek >>= key_end a)

  abbrev pub key_by : Option Shape → Parser GroupKey
  key_by (Some s.Var) = (λ n. key (Var n) (Some n)) <$> spelled_value
  key_by (Some s.Open) = take >> key_value
  key_by (Some (s.Function function)) = take >> ((λ a. key a None) <$> call (expr room) false function)
  key_by o = refuse

  unfoldable pub one_key : Parser GroupKey
  one_key = peek >>= key_by

  abbrev pub key_turn : Option Shape → Option (Parser GroupKey)
  key_turn (Some s.Var) = Some one_key
  key_turn (Some s.Open) = Some one_key
  key_turn (Some (s.Function function)) = Some one_key
  key_turn o = None

  unfoldable pub keys_from : List GroupKey → Parser (List GroupKey)
  keys_from found = all_more key_turn found

  abbrev pub grouping_by : Option Shape → Parser (List GroupKey)
  grouping_by (Some s.Group) = take >> (by_word >> (one_key >>= (λ first. keys_from (first ∷ []))))
  grouping_by o = pure []

  unfoldable pub grouping : Parser (List GroupKey)
  grouping = peek >>= grouping_by

  abbrev pub having_turn : Option Shape → Option (Parser Expr)
  having_turn (Some s.Open) = Some (constraint (expr room) true)
  having_turn (Some (s.Function function)) = Some (constraint (expr room) true)
  having_turn (Some (s.Aggregate kind)) = Some (constraint (expr room) true)
  having_turn o = None

  unfoldable pub having_from : List Expr → Parser (List Expr)
  having_from found = all_more having_turn found

  abbrev pub having_by : Option Shape → Parser (List Expr)
  having_by (Some s.Having) = take >> (constraint (expr room) true >>= (λ first. having_from (first ∷ [])))
  having_by o = pure []

  unfoldable pub having : Parser (List Expr)
  having = peek >>= having_by

  -- behind ASC or DESC
  unfoldable pub directed : Bool → Parser OrderKey
  directed descending = open_paren >> (expr room true >>= (λ a. close_paren >> pure (ordered a descending)))

  abbrev pub order_by : Option Shape → Parser OrderKey
  order_by (Some s.Asc) = take >> directed false
  order_by (Some s.Desc) = take >> directed true
  order_by (Some s.Var) = (λ n. ordered (Var n) false) <$> spelled_value
  order_by o = (λ a. ordered a false) <$> constraint (expr room) true

  unfoldable pub one_order : Parser OrderKey
  one_order = peek >>= order_by

  abbrev pub order_turn : Option Shape → Option (Parser OrderKey)
  order_turn (Some s.Asc) = Some one_order
  order_turn (Some s.Desc) = Some one_order
  order_turn (Some s.Var) = Some one_order
  order_turn (Some s.Open) = Some one_order
  order_turn (Some (s.Function function)) = Some one_order
  order_turn (Some (s.Aggregate kind)) = Some one_order
  order_turn o = None

  unfoldable pub orders_from : List OrderKey → Parser (List OrderKey)
  orders_from found = all_more order_turn found

  abbrev pub ordering_by : Option Shape → Parser (List OrderKey)
  ordering_by (Some s.Order) = take >> (by_word >> (one_order >>= (λ first. orders_from (first ∷ []))))
  ordering_by o = pure []

  unfoldable pub ordering : Parser (List OrderKey)
  ordering = peek >>= ordering_by

  -- behind the group
  unfoldable pub modified : Bool → Bool × List SelectItem → Group → Parser Query
  modified distinct selected body = grouping >>= (λ keys. having >>= (λ conditions. ordering >>= (λ order. slice >>= (λ part.
      pure (record { distinct = distinct; star = selected.0; items = selected.1; body = body; keys = keys; having = conditions; order = order; limit = part.0; offset = part.1 })))))

  unfoldable pub query : Parser Query
  query = select_word >> (distinctness >>= (λ distinct. selection >>= (λ selected. where_word >> (group room >>= (λ body. modified distinct selected body)))))
