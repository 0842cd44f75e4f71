-- The algebra of a group has the same variables in scope as the group.
use Rattle.std.proofs.Common.{◌≡◌, List, [], ◌∷◌, ◌++◌, Option, Some, None, refl, sym, ap, ◌∙◌}
use Rattle.std.specs.Prelude.{flat_map}
use Rattle.std.proofs.lemmas.Grind.{flat_map-append}
use Rattle.std.proofs.lemmas.List.{append_assoc, append-nil}
use Rattle.term_core.specs.Mappings.{Name}
use Rattle.term_core.specs.declared.pattern.Pattern.{Pattern}
use Rattle.sparql_tree.specs.Algebra as algebra
use Rattle.sparql_tree.specs.Algebra.{Algebra, Bgp, Table}
use Rattle.sparql_tree.specs.Exprs.{Expr}
use Rattle.sparql_tree.specs.Groups.{Group, GroupOf, Elements, EndOfElements, ThenElement, Groups, EndOfGroups, ThenGroup, Triples, Union, Optional, Filter, Bind, Values}
use Rattle.sparql_tree.specs.Groups as tree
use Rattle.sparql_tree.specs.Scopes.{variables_in, scope_of, scope_of_group, scope_of_groups}
use Rattle.sparql_tree.specs.Translation.{unit, joined, filters_in, conjunction, filtered, of_group, of_elements, of_groups, union_from}
use Rattle.sparql_tree.specs.Variables.{in_scope}

-- the unit that is dropped has none
joined-scope : (left right : Algebra) → in_scope (joined left right) ≡ in_scope left ++ in_scope right
joined-scope (Bgp []) right = refl
joined-scope left (Bgp []) = sym (append-nil (in_scope left))
joined-scope left right = refl

filtered-scope : (condition : Option Expr) (a : Algebra) → in_scope (filtered condition a) ≡ in_scope a
filtered-scope None a = refl
filtered-scope (Some condition) a = refl

-- what is in scope of the operator so far, of its patterns and of a part, and of the parts to come
with_rest : (all operator patterns part rest : List Name) → all ≡ (operator ++ patterns) ++ part → all ++ rest ≡ operator ++ (patterns ++ (part ++ rest))
with_rest all operator patterns part rest e = ap (λ names. names ++ rest) e ∙ append_assoc (operator ++ patterns) part rest ∙ append_assoc operator patterns (part ++ rest)

mutual
  pub group-scope : (group : Group) → in_scope (of_group group) ≡ scope_of_group group
  group-scope (GroupOf elements) = filtered-scope (conjunction (filters_in elements)) (of_elements unit [] elements) ∙ elements-scope elements unit []

  elements-scope : (elements : Elements) (a : Algebra) (ps : List Pattern) → in_scope (of_elements a ps elements) ≡ in_scope a ++ (flat_map variables_in ps ++ scope_of elements)
  elements-scope EndOfElements a ps = joined-scope a (Bgp ps) ∙ ap (λ names. in_scope a ++ names) (sym (append-nil (flat_map variables_in ps)))
  elements-scope (ThenElement (Triples more) rest) a ps =
      elements-scope rest a (ps ++ more)
      ∙ ap (λ names. in_scope a ++ names)
      (ap (λ names. names ++ scope_of rest) (flat_map-append variables_in ps more) ∙ append_assoc (flat_map variables_in ps) (flat_map variables_in more) (scope_of rest))
  elements-scope (ThenElement (Filter value) rest) a ps = elements-scope rest a ps
  elements-scope (ThenElement (Union groups) rest) a ps =
      elements-scope rest (joined (joined a (Bgp ps)) (of_groups groups)) []
      ∙ with_rest _ (in_scope a) (flat_map variables_in ps) (scope_of_groups groups) (scope_of rest)
      (joined-scope (joined a (Bgp ps)) (of_groups groups) ∙ (λ i. joined-scope a (Bgp ps) i ++ groups-scope groups i))
  elements-scope (ThenElement (Optional (GroupOf elements)) rest) a ps =
      elements-scope rest (algebra.LeftJoin (joined a (Bgp ps)) (of_elements unit [] elements) (conjunction (filters_in elements))) []
      ∙ with_rest _ (in_scope a) (flat_map variables_in ps) (scope_of elements) (scope_of rest) (λ i. joined-scope a (Bgp ps) i ++ elements-scope elements unit [] i)
  elements-scope (ThenElement (tree.Minus group) rest) a ps =
      elements-scope rest (algebra.Minus (joined a (Bgp ps)) (of_group group)) []
      ∙ with_rest _ (in_scope a) (flat_map variables_in ps) [] (scope_of rest) (joined-scope a (Bgp ps) ∙ sym (append-nil (in_scope a ++ flat_map variables_in ps)))
  elements-scope (ThenElement (Bind value variable) rest) a ps =
      elements-scope rest (algebra.Extend (joined a (Bgp ps)) variable value) []
      ∙ with_rest _ (in_scope a) (flat_map variables_in ps) (variable ∷ []) (scope_of rest) (ap (λ names. names ++ variable ∷ []) (joined-scope a (Bgp ps)))
  elements-scope (ThenElement (Values variables rows) rest) a ps =
      elements-scope rest (joined (joined a (Bgp ps)) (Table variables rows)) []
      ∙ with_rest _ (in_scope a) (flat_map variables_in ps) variables (scope_of rest)
      (joined-scope (joined a (Bgp ps)) (Table variables rows) ∙ ap (λ names. names ++ variables) (joined-scope a (Bgp ps)))

  groups-scope : (groups : Groups) → in_scope (of_groups groups) ≡ scope_of_groups groups
  groups-scope EndOfGroups = refl
  groups-scope (ThenGroup first rest) = union-scope rest (of_group first) ∙ ap (λ names. names ++ scope_of_groups rest) (group-scope first)

  union-scope : (groups : Groups) (a : Algebra) → in_scope (union_from a groups) ≡ in_scope a ++ scope_of_groups groups
  union-scope EndOfGroups a = sym (append-nil (in_scope a))
  union-scope (ThenGroup next rest) a =
      union-scope rest (algebra.Union a (of_group next))
      ∙ append_assoc (in_scope a) (in_scope (of_group next)) (scope_of_groups rest)
      ∙ ap (λ names. in_scope a ++ (names ++ scope_of_groups rest)) (group-scope next)
