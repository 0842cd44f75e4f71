-- The trees of the code's groups and queries.
use Rattle.std.specs.Prelude.{List, map}
use Rattle.sparql_tree.specs.ExprTrees.{tree_of, trees_of, tree_within}
use Rattle.sparql_tree.specs.Groups as tree
use Rattle.sparql_tree.specs.declared.group.Element.{Element, Row_of-Element, end_of-Element, more_of-Element, Row_of-Group, end_of-Group, more_of-Group}
use Rattle.sparql_tree.specs.declared.group.Element.TheVariants as code
use Rattle.sparql_tree.specs.declared.group.Group.{Group}
use Rattle.sparql_tree.specs.declared.query.SelectItem.{SelectItem}
use Rattle.sparql_tree.specs.declared.query.GroupKey.{GroupKey}
use Rattle.sparql_tree.specs.declared.query.OrderKey.{OrderKey}
use Rattle.sparql_tree.specs.declared.query.Query.{Query}

unfoldable mutual
  -- the tree that the code holds
  pub element_of : Element → tree.Element
  element_of (code.Triples patterns) = tree.Triples patterns
  element_of (code.Groups' shape groups) = tree.Union (groups_in groups)
  element_of (code.Optional' shape elements) = tree.Optional (tree.GroupOf (elements_in elements))
  element_of (code.Minus' shape elements) = tree.Minus (tree.GroupOf (elements_in elements))
  element_of (code.Filter value) = tree.Filter (tree_of value)
  element_of (code.Bind value variable) = tree.Bind (tree_of value) variable
  element_of (code.Values variables rows) = tree.Values variables rows

  pub elements_in : {n : _} → Row_of-Element n → tree.Elements
  elements_in end_of-Element = tree.EndOfElements
  elements_in (more_of-Element first rest) = tree.ThenElement (element_of first) (elements_in rest)

  pub groups_in : {n : _} → Row_of-Group n → tree.Groups
  groups_in end_of-Group = tree.EndOfGroups
  groups_in (more_of-Group shape elements rest) = tree.ThenGroup (tree.GroupOf (elements_in elements)) (groups_in rest)

-- the trees of a list
abbrev pub elements_of : List Element → List tree.Element
elements_of elements = map element_of elements

-- the tree of a group
abbrev pub group_of : Group → tree.Group
group_of group = tree.GroupOf (tree.elements (elements_of group.elements.items))

-- the trees of a list
abbrev pub groups_of : List Group → List tree.Group
groups_of groups = map group_of groups

-- the trees of a query's parts
abbrev pub item_of : SelectItem → tree.SelectItem
item_of item = record { variable = item.variable; value = tree_within item.value }

abbrev pub key_of : GroupKey → tree.GroupKey
key_of key = record { value = tree_of key.value; variable = key.variable }

abbrev pub order_of : OrderKey → tree.OrderKey
order_of key = record { value = tree_of key.value; descending = key.descending }

-- the tree of a query
abbrev pub query_of : Query → tree.Query
query_of query = record {
  distinct = query.distinct;
  star = query.star;
  items = map item_of query.items;
  body = group_of query.body;
  keys = map key_of query.keys;
  having = trees_of query.having;
  order = map order_of query.order;
  limit = query.limit;
  offset = query.offset;
}
