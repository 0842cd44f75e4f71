-- The rules on the scope of variables and labels in a group, in their own words (SPARQL 1.1, 10.2, 18.2.1 and 19.6).
use Rattle.std.specs.Prelude.{◌≡◌, false, List, [], ◌∷◌, ◌++◌}
use Rattle.term_core.specs.Mappings.{Name, has_name}
use Rattle.sparql_tree.specs.Groups.{Group, GroupOf, Elements, EndOfElements, ThenElement, Groups, EndOfGroups, ThenGroup, Element, Triples, Union, Optional, Filter, Bind, Values}
use Rattle.sparql_tree.specs.Groups as tree
use Rattle.sparql_tree.specs.Breaches.{marks_of_group}
use Rattle.sparql_tree.specs.Scopes.{scope_at}
use Rattle.sparql_tree.specs.declared.mark.Mark.{Mark}
use Rattle.sparql_tree.specs.declared.mark.Mark.TheVariants as marks

-- each of the names differs from these and from those before it
abbrev pub Differ : List Name → List Name → Type 0
Differ before [] = Unit {0}
Differ before (first ∷ rest) = (has_name before first ≡ false) × Differ (before ++ first ∷ []) rest

abbrev mutual
  -- at any depth: the variable of a BIND is not in scope of the parts before it in its group (18.2.1), and the variables of a table
  -- differ (10.2)
  pub KeepsAt : List Name → Element → Type 0
  KeepsAt before (Triples patterns) = Unit {0}
  KeepsAt before (Union groups) = AllKeep groups
  KeepsAt before (Optional group) = Keeps group
  KeepsAt before (tree.Minus group) = Keeps group
  KeepsAt before (Filter value) = Unit {0}
  KeepsAt before (Bind value variable) = has_name before variable ≡ false
  KeepsAt before (Values variables rows) = Differ [] variables

  pub KeepsBehind : List Name → Elements → Type 0
  KeepsBehind before EndOfElements = Unit {0}
  KeepsBehind before (ThenElement first rest) = KeepsAt before first × KeepsBehind (before ++ scope_at first) rest

  pub Keeps : Group → Type 0
  Keeps (GroupOf elements) = KeepsBehind [] elements

  pub AllKeep : Groups → Type 0
  AllKeep EndOfGroups = Unit {0}
  AllKeep (ThenGroup first rest) = Keeps first × AllKeep rest

-- the labels of each basic graph pattern, where these stand in the one that goes on
abbrev pub labels_from : List Name → List Mark → List (List Name)
labels_from going [] = going ∷ []
labels_from going (marks.Edge ∷ rest) = going ∷ labels_from [] rest
labels_from going (marks.Label name ∷ rest) = labels_from (going ++ name ∷ []) rest
labels_from going (marks.Again name ∷ rest) = labels_from going rest

-- the labels of each basic graph pattern of a group, at any depth, in text order (19.6)
abbrev pub labels_of_group : Group → List (List Name)
labels_of_group group = labels_from [] (marks_of_group group)

-- none of the names is one of these
abbrev pub AreNew : List Name → List Name → Type 0
AreNew before [] = Unit {0}
AreNew before (first ∷ rest) = (has_name before first ≡ false) × AreNew before rest

-- no name of a list is one of these, or of a list before it
abbrev pub AreFresh : List Name → List (List Name) → Type 0
AreFresh before [] = Unit {0}
AreFresh before (first ∷ rest) = AreNew before first × AreFresh (before ++ first) rest
