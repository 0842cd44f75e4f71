-- The tree of each part of a group, at what the code holds.
use Rattle.std.proofs.Common.{◌≡◌, ◌∙◌, List, [], ◌∷◌, ◌++◌, refl, ap, sym}
use Rattle.std.proofs.lemmas.List.{map-append}
use Rattle.sparql_tree.specs.Breaches.{item_values}
use Rattle.sparql_tree.specs.Exprs.{Expr}
use Rattle.sparql_tree.specs.ExprTrees.{tree_of}
use Rattle.sparql_tree.specs.Groups as tree
use Rattle.sparql_tree.specs.Groups.{SelectItem}
use Rattle.sparql_tree.specs.GroupTrees.{element_of, elements_of}
use Rattle.sparql_tree.specs.Translation.{filters_in}
use Rattle.sparql_tree.specs.declared.group.Element.{Element}
use Rattle.sparql_tree.specs.declared.group.Element.TheVariants as code
use Rattle.sparql_tree.proofs.GroupViews.{union_view, optional_view, minus_view}

pub triples_view : (patterns : _) → element_of (code.Triples patterns) ≡ tree.Triples patterns
unfolding element_of
triples_view patterns = refl

pub filter_view : (value : _) → element_of (code.Filter value) ≡ tree.Filter (tree_of value)
unfolding element_of
filter_view value = refl

pub bind_view : (value variable : _) → element_of (code.Bind value variable) ≡ tree.Bind (tree_of value) variable
unfolding element_of
bind_view value variable = refl

pub values_view : (variables rows : _) → element_of (code.Values variables rows) ≡ tree.Values variables rows
unfolding element_of
values_view variables rows = refl

-- all of these
pub ruleset views = (triples_view, union_view, optional_view, minus_view, filter_view, bind_view, values_view)

-- a part that is no filter
pub no_filter : (e : Element) → ((value : _) → e ≡ code.Filter value → ⊥) → filters_in (tree.elements (element_of e ∷ [])) ≡ []
unfolding element_of
no_filter (code.Filter value) h = absurd (h value refl)
no_filter e h = refl

pub filter_there : (e : Element) (value : _) → e ≡ code.Filter value → filters_in (tree.elements (element_of e ∷ [])) ≡ tree_of value ∷ []
filter_there e value h = ap (λ x. filters_in (tree.ThenElement x tree.EndOfElements)) (ap element_of h ∙ filter_view value)

-- the filters of two lists of parts
pub filters_of_both : (xs ys : List tree.Element) → filters_in (tree.elements (xs ++ ys)) ≡ filters_in (tree.elements xs) ++ filters_in (tree.elements ys)
filters_of_both [] ys = refl
filters_of_both (tree.Filter value ∷ xs) ys = ap (λ fs. value ∷ fs) (filters_of_both xs ys)
filters_of_both (x ∷ xs) ys = filters_of_both xs ys

pub filters_behind : (xs : List Element) (x : Element) → filters_in (tree.elements (elements_of (xs ++ x ∷ []))) ≡ filters_in (tree.elements (elements_of xs)) ++ filters_in (tree.elements (element_of x ∷ []))
filters_behind xs x = ap (λ es. filters_in (tree.elements es)) (map-append element_of xs (x ∷ [])) ∙ filters_of_both (elements_of xs) (element_of x ∷ [])
