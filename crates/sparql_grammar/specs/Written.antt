-- The trees of what is read of a query before its repeated variables are dropped.
use Rattle.std.specs.Prelude.{ℕ, Bool, List, map, Option}
use Rattle.sparql_tree.specs.Groups as tree
use Rattle.sparql_tree.specs.ExprTrees.{trees_of}
use Rattle.sparql_tree.specs.GroupTrees.{group_of, item_of, key_of, order_of}
use Rattle.sparql_grammar.specs.declared.queries.Selection.{Selection}
use Rattle.sparql_grammar.specs.declared.queries.Slice.{Slice}
use Rattle.sparql_grammar.specs.declared.queries.Written.{Written}

-- what is selected, with whether it is '*'
abbrev pub selection_of : Selection → Bool × List tree.SelectItem
selection_of selection = (selection.star, map item_of selection.items.items)

-- the limit, if there is one, and the offset
abbrev pub slice_of : Slice → Option ℕ × ℕ
slice_of slice = (slice.limit, slice.offset)

-- the query as it is written
abbrev pub written_of : Written → tree.Query
written_of written = record {
  distinct = written.distinct;
  star = written.selection.star;
  items = map item_of written.selection.items.items;
  body = group_of written.body;
  keys = map key_of written.keys;
  having = trees_of written.having;
  order = map order_of written.order;
  limit = written.slice.limit;
  offset = written.slice.offset;
}
