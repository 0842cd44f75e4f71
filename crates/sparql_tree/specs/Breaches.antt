-- Breaches of the rules on the scope of variables and labels, each by the name that it is at, in text order.
use Rattle.std.specs.Prelude.{Bool, true, false, not, ◌&&◌, ◌||◌, if◌then◌else◌, List, [], ◌∷◌, ◌++◌, map, filter, flat_map, Option, Some, None}
use Rattle.std.specs.List.{list_any}
use Rattle.term_core.specs.Mappings.{Name, has_name, same_name}
use Rattle.term_core.specs.Patterns.{label_name}
use Rattle.sparql_tree.specs.Exprs.{Expr, Var}
use Rattle.sparql_tree.specs.Groups.{Group, GroupOf, Elements, EndOfElements, ThenElement, Groups, EndOfGroups, ThenGroup, Element, Triples, Union, Optional, Filter, Bind, Values, SelectItem, GroupKey, OrderKey, Query}
use Rattle.sparql_tree.specs.Groups as tree
use Rattle.sparql_tree.specs.Queries.{variables}
use Rattle.sparql_tree.specs.declared.mark.Mark.{Mark}
use Rattle.sparql_tree.specs.declared.mark.Mark.TheVariants as marks
use Rattle.sparql_tree.specs.Scopes.{outside, has_aggregate, labels_in, scope_at, scope_of_group}

-- a variable as it is named: behind a question mark
abbrev pub variable_name : Name → Name
variable_name name = 63 ∷ name

-- the star as it is named
abbrev pub star_name : Name
star_name = 42 ∷ []

-- this name, where it is a breach
abbrev pub breach_if : Bool → Name → List Name
breach_if breaks name = if breaks then name ∷ [] else []

-- ---- the group

-- variables that are there already
abbrev pub declared_again : List Name → List Mark
declared_again names = map (λ name. marks.Again name) names

-- the names that stand before among them too, where these stand before all
abbrev pub repeated : List Name → List Name → List Name
repeated before [] = []
repeated before (first ∷ rest) = breach_if (has_name before first) first ++ repeated (before ++ first ∷ []) rest

-- a label of a basic graph pattern
abbrev pub label : Name → Mark
label name = marks.Label name

-- marks behind the end of a basic graph pattern
abbrev pub behind_edge : List Mark → List Mark
behind_edge more = marks.Edge ∷ more

-- the marks of BIND, where these variables are in scope of the parts before it (SPARQL 1.1 18.2.1)
abbrev pub bind_marks : List Name → Name → List Mark
bind_marks before variable = behind_edge (declared_again (breach_if (has_name before variable) variable))

-- the marks of VALUES: its variables that stand in it before (SPARQL 1.1 10.2)
abbrev pub values_marks : List Name → List Mark
values_marks variables = behind_edge (declared_again (repeated [] variables))

abbrev mutual
  -- the marks of a part, where these variables are in scope of the parts before it; triples with only filters between
  -- are one basic graph pattern (SPARQL 1.1 5.1.1 and 19.6)
  pub marks_at : List Name → Element → List Mark
  marks_at before (Triples patterns) = map label (flat_map labels_in patterns)
  marks_at before (Union groups) = behind_edge (marks_of_groups groups)
  marks_at before (Optional group) = behind_edge (marks_of_group group)
  marks_at before (tree.Minus group) = behind_edge (marks_of_group group)
  marks_at before (Filter value) = []
  marks_at before (Bind value variable) = bind_marks before variable
  marks_at before (Values variables rows) = values_marks variables

  pub marks_of : List Name → Elements → List Mark
  marks_of before EndOfElements = []
  marks_of before (ThenElement first rest) = marks_at before first ++ marks_of (before ++ scope_at first) rest

  pub marks_of_group : Group → List Mark
  marks_of_group (GroupOf elements) = marks_of [] elements ++ marks.Edge ∷ []

  pub marks_of_groups : Groups → List Mark
  marks_of_groups EndOfGroups = []
  marks_of_groups (ThenGroup first rest) = marks_of_group first ++ marks_of_groups rest

-- the breaches at marks, where these labels stand in basic graph patterns that have ended, and these in the one that goes on:
-- a label that stands in one that has ended, at its first place in this one (SPARQL 1.1 19.6), and a variable that is there
-- already (SPARQL 1.1 18.2.1 and 10.2)
abbrev pub mark_breaches : List Name → List Name → List Mark → List Name
mark_breaches ended going [] = []
mark_breaches ended going (marks.Edge ∷ rest) = mark_breaches (ended ++ going) [] rest
mark_breaches ended going (marks.Label name ∷ rest) =
    breach_if (has_name ended name && not (has_name going name)) (label_name name) ++ mark_breaches ended (going ++ name ∷ []) rest
mark_breaches ended going (marks.Again name ∷ rest) = variable_name name ∷ mark_breaches ended going rest

-- ---- the query

-- the name that is there, if any
abbrev pub name_there : Option Name → List Name
name_there None = []
name_there (Some name) = name ∷ []

-- the variables of keys
abbrev pub key_names : List GroupKey → List Name
key_names keys = flat_map (λ key. name_there key.variable) keys

-- whether an expression is this variable alone
abbrev pub is_alone : Expr → Name → Bool
is_alone (Var other) name = same_name other name
is_alone value name = false

-- the variable behind AS of a key: one that the key is not itself
abbrev pub as_name : Expr → Option Name → List Name
as_name value None = []
as_name value (Some name) = if is_alone value name then [] else name ∷ []

abbrev pub as_names : List GroupKey → List Name
as_names keys = flat_map (λ key. as_name key.value key.variable) keys

-- the variable behind AS of an item
abbrev pub named : Name → Option Expr → List Name
named variable None = []
named variable (Some value) = variable ∷ []

abbrev pub item_names : List SelectItem → List Name
item_names items = flat_map (λ item. named item.variable item.value) items

-- the values of items
abbrev pub value_there : Option Expr → List Expr
value_there None = []
value_there (Some value) = value ∷ []

abbrev pub item_values : List SelectItem → List Expr
item_values items = flat_map (λ item. value_there item.value) items

-- whether solutions are grouped: by keys, or since an aggregate stands somewhere (SPARQL 1.1 18.2.4.1)
abbrev pub has_no_keys : List GroupKey → Bool
has_no_keys [] = true
has_no_keys (first ∷ rest) = false

abbrev pub order_has_aggregate : OrderKey → Bool
order_has_aggregate key = has_aggregate key.value

abbrev pub is_grouped : Query → Bool
is_grouped q = not (has_no_keys q.keys)
    || (list_any has_aggregate (item_values q.items) || (list_any has_aggregate q.having || list_any order_has_aggregate q.order))

-- the variables that the keys of the order have outside aggregates
abbrev pub orders_outside : List OrderKey → List Name
orders_outside order = flat_map (λ key. outside key.value) order

-- the variables that are none of those allowed, where solutions are grouped (SPARQL 1.1 11.4)
abbrev pub loose : Bool → (Name → Bool) → List Name → List Name
loose grouped is_allowed names = if grouped then map variable_name (filter (λ name. not (is_allowed name)) names) else []

-- the variables that an item has outside aggregates
abbrev pub item_outside : Name → Option Expr → List Name
item_outside variable None = variable ∷ []
item_outside variable (Some value) = outside value

-- the breaches at an item: variables outside aggregates that are not allowed, and a name behind AS that is taken
abbrev pub breaches_at : Bool → (is_allowed is_taken : Name → Bool) → SelectItem → List Name
breaches_at grouped is_allowed is_taken item =
    loose grouped is_allowed (item_outside item.variable item.value)
    ++ map variable_name (filter is_taken (named item.variable item.value))

-- the breaches at items, where these stand before; allowed outside aggregates are the variables of keys and those that an earlier
-- item names (SPARQL 1.1 11.4); taken are those that are in scope of the group, that a key names, and those of earlier
-- items (SPARQL 1.1 18.2.1)
abbrev pub item_breaches : Query → List SelectItem → List SelectItem → List Name
item_breaches q before [] = []
item_breaches q before (first ∷ rest) =
    breaches_at (is_grouped q) (has_name (key_names q.keys ++ item_names before))
    (λ name. has_name (scope_of_group q.body) name || (has_name (as_names q.keys) name || has_name (variables before) name)) first
    ++ item_breaches q (before ++ first ∷ []) rest

-- the names behind AS of keys that are another key's variable too
abbrev pub key_breaches : List GroupKey → List Name
key_breaches keys = map variable_name (filter (has_name (repeated [] (key_names keys))) (as_names keys))

-- those of HAVING, where variables of keys are allowed
abbrev pub having_breaches : Bool → Query → List Name
having_breaches grouped q = loose grouped (has_name (key_names q.keys)) (flat_map outside q.having)

-- those of ORDER BY, where those that an item names are allowed too
abbrev pub order_breaches : Bool → Query → List Name
order_breaches grouped q = loose grouped (has_name (key_names q.keys ++ item_names q.items)) (orders_outside q.order)

-- those behind the group
abbrev pub breaches_behind : Bool → Query → List Name
breaches_behind grouped q = key_breaches q.keys ++ (having_breaches grouped q ++ order_breaches grouped q)

-- all breaches of a query, in text order: the star where solutions are grouped, the items, the group, and what stands behind it
abbrev pub breaches : Query → List Name
breaches q = breach_if (q.star && is_grouped q) star_name
    ++ (item_breaches q [] q.items ++ (mark_breaches [] [] (marks_of_group q.body) ++ breaches_behind (is_grouped q) q))

-- the first of names, if there is one
abbrev pub first_name : List Name → Option Name
first_name [] = None
first_name (first ∷ rest) = Some first
