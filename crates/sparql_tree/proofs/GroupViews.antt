-- The tree of each variant that holds groups, at what the code wrote into it.
use Rattle.std.proofs.Common.{◌≡◌, refl, ap, ◌∙◌, sym}
use Rattle.sparql_tree.specs.Groups as tree
use Rattle.sparql_tree.specs.declared.group.Element.{Row_of-Element, end_of-Element, more_of-Element, Row_of-Group, end_of-Group, more_of-Group}
use Rattle.sparql_tree.specs.declared.group.Element.TheVariants as code
use Rattle.sparql_tree.specs.declared.group.Element.TheBlock as block
use Rattle.sparql_tree.specs.declared.group.Group.{Group}
use Rattle.sparql_tree.specs.GroupTrees.{element_of, elements_in, groups_in, elements_of, group_of, groups_of}

pub element_items : (n : _) (k : Row_of-Element n) → elements_in k ≡ tree.elements (elements_of (block.items-the_row-Element n k))
unfolding elements_in
element_items n end_of-Element = refl
element_items n (more_of-Element first rest) = ap (tree.ThenElement (element_of first)) (element_items _ rest)

elements_at : (v : _) → elements_in (block.hidden-the_row-Element-0 v) ≡ tree.elements (elements_of v.items)
elements_at v = element_items _ (block.hidden-the_row-Element-0 v) ∙ ap (λ xs. tree.elements (elements_of xs)) (block.items_hidden-the_row-Element-0 v)

pub group_items : (n : _) (k : Row_of-Group n) → groups_in k ≡ tree.groups (groups_of (block.items-the_row-Group n k))
unfolding groups_in
group_items n end_of-Group = refl
group_items n (more_of-Group shape elements rest) =
    let first : elements_in elements ≡ tree.elements (elements_of (block.shown-the_row-Element-0 shape elements).items) =
    element_items _ elements ∙ ap (λ xs. tree.elements (elements_of xs)) (sym (block.items_shown-the_row-Element-0 shape elements)) in
    λ i. tree.ThenGroup (tree.GroupOf (first i)) (group_items _ rest i)

pub union_view : (v : _) → element_of (code.Groups v) ≡ tree.Union (tree.groups (groups_of v.items))
unfolding element_of
union_view v = ap tree.Union (group_items _ (block.hidden-the_row-Group-1 v) ∙ ap (λ xs. tree.groups (groups_of xs)) (block.items_hidden-the_row-Group-1 v))

pub optional_view : (g : Group) → element_of (code.Optional g) ≡ tree.Optional (group_of g)
unfolding element_of
optional_view g = ap (λ es. tree.Optional (tree.GroupOf es)) (elements_at g.elements)

pub minus_view : (g : Group) → element_of (code.Minus g) ≡ tree.Minus (group_of g)
unfolding element_of
minus_view g = ap (λ es. tree.Minus (tree.GroupOf es)) (elements_at g.elements)
