-- Which variables are named before an item, as the code keeps them.
use Rattle.std.specs.Prelude.{Bool, ◌||◌, List, ◌++◌}
use Rattle.std.specs.BTreeSet.{contains_text}
use Rattle.term_core.specs.Mappings.{Name, has_name}
use Rattle.sparql_tree.specs.Groups.{Query, SelectItem}
use Rattle.sparql_tree.specs.Queries.{variables}
use Rattle.sparql_tree.specs.NameSets.{HasNames}
use Rattle.sparql_tree.specs.Breaches.{key_names, as_names, item_names}
use Rattle.sparql_scope.specs.declared.breach.Named.{Named}

-- the sets have the variables of keys and those behind AS of the items before, those behind AS of keys, and those of the items before
pub record AreNamed (named : Named) (q : Query) (before : List SelectItem) : Type 0 where
  pub allowed : HasNames named.allowed (key_names q.keys ++ item_names before)
  pub keys : HasNames named.keys (as_names q.keys)
  pub items : HasNames named.items (variables before)

-- whether a name is among these, or behind AS of keys, or an earlier item's
abbrev pub is_taken : List Name → Named → Name → Bool
is_taken scope named name = has_name scope name || (contains_text named.keys name || contains_text named.items name)
