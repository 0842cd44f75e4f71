-- What decides a chain of conditions.
use Rattle.std.proofs.Common.{◌≡◌, refl, ap, ◌∙◌, Bool, true, false, List, [], ◌∷◌, Option, Some, None}
use Rattle.std.specs.Prelude.{◌||◌, ◌&&◌, not, option_map}
use Rattle.std.specs.List.{list_any, list_all}
use Rattle.term_core.specs.declared.term.Term.{Term}
use Rattle.value_table.specs.Values.{equal}
use Rattle.sparql_value.specs.Operators.{as_truth, on_both, either, both, any_true, all_true, in_list}
use Rattle.sparql_value.specs.Laws.{says, decided}

one_more : (side : Option Bool) (some none : Bool) → either side (decided some none) ≡ decided (says true side || some) (says false side && none)
one_more None true none = refl
one_more None false true = refl
one_more None false false = refl
one_more (Some true) some none = refl
one_more (Some false) some none = refl

one_more_both : (side : Option Bool) (some none : Bool)
    → both side (option_map not (decided some none)) ≡ option_map not (decided (says false side || some) (says true side && none))
one_more_both None true none = refl
one_more_both None false true = refl
one_more_both None false false = refl
one_more_both (Some true) some none = refl
one_more_both (Some false) some none = refl

pub or_decides : (sides : List (Option Term)) → any_true sides ≡ decided (list_any (λ v. says true (as_truth v)) sides) (list_all (λ v. says false (as_truth v)) sides)
or_decides [] = refl
or_decides (first ∷ rest) =
    ap (either (as_truth first)) (or_decides rest)
    ∙ one_more (as_truth first) (list_any (λ v. says true (as_truth v)) rest) (list_all (λ v. says false (as_truth v)) rest)

pub and_decides : (sides : List (Option Term)) → all_true sides
    ≡ option_map not (decided (list_any (λ v. says false (as_truth v)) sides) (list_all (λ v. says true (as_truth v)) sides))
and_decides [] = refl
and_decides (first ∷ rest) =
    ap (both (as_truth first)) (and_decides rest)
    ∙ one_more_both (as_truth first) (list_any (λ v. says false (as_truth v)) rest) (list_all (λ v. says true (as_truth v)) rest)

pub in_decides : (x : Option Term) (items : List (Option Term)) → in_list x items
    ≡ decided (list_any (λ v. says true (on_both equal x v)) items) (list_all (λ v. says false (on_both equal x v)) items)
in_decides x [] = refl
in_decides x (first ∷ rest) =
    ap (either (on_both equal x first)) (in_decides x rest)
    ∙ one_more (on_both equal x first) (list_any (λ v. says true (on_both equal x v)) rest) (list_all (λ v. says false (on_both equal x v)) rest)
