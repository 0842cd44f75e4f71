-- The tree of each part, at what the code wrote into it.
use Rattle.std.proofs.Common.{◌≡◌, refl}
use Rattle.sparql_tree.specs.ExprTrees.{tree_of}
use Rattle.sparql_tree.specs.Groups as tree
use Rattle.sparql_tree.specs.GroupTrees.{element_of}
use Rattle.sparql_tree.specs.declared.group.Element.TheVariants as code
use Rattle.sparql_tree.proofs.GroupViews.{union_view, optional_view, minus_view}

pub triples_view : (patterns : _) → element_of (code.Triples patterns) ≡ tree.Triples patterns
unfolding element_of
triples_view patterns = refl

pub filter_view : (value : _) → element_of (code.Filter value) ≡ tree.Filter (tree_of value)
unfolding element_of
filter_view value = refl

pub bind_view : (value variable : _) → element_of (code.Bind value variable) ≡ tree.Bind (tree_of value) variable
unfolding element_of
bind_view value variable = refl

pub values_view : (variables rows : _) → element_of (code.Values variables rows) ≡ tree.Values variables rows
unfolding element_of
values_view variables rows = refl

-- all of these
pub ruleset views = (triples_view, union_view, optional_view, minus_view, filter_view, bind_view, values_view)
