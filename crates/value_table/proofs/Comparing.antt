-- The comparisons that are made of less and of equality.
use Rattle.std.proofs.Common.{◌≡◌, refl, sym, ap, ◌∙◌, inl, inr, ⊎_elim, Bool, true, false, Option, Some, None}
use Rattle.std.specs.Prelude.{◌⊎◌, ◌↔◌, option_map, not}
use Rattle.std.specs.Ordering.{ordering_reverse, is_lt}
use Rattle.std.specs.declared.cmp.Ordering.{Ordering}
use Rattle.term_core.specs.declared.term.Term.{Term}
use Rattle.value_table.specs.Values.{value_of, value_cmp, equal, less}
use Rattle.value_table.specs.Comparisons.{IsOneOfThree, greater, at_most, at_least}
use Rattle.value_table.proofs.Classes.{turned_values}

-- a negation is true of false, and of nothing else
pub true_of_false : (o : Option Bool) → (option_map not o ≡ Some true) ↔ (o ≡ Some false)
true_of_false None = (λ e. cc, λ e. cc)
true_of_false (Some true) = (λ e. cc, λ e. cc)
true_of_false (Some false) = (λ e. refl, λ e. refl)

-- a negation is the error of the error, and of nothing else
pub none_of_none : (o : Option Bool) → (option_map not o ≡ None) ↔ (o ≡ None)
none_of_none None = (λ e. refl, λ e. refl)
none_of_none (Some true) = (λ e. cc, λ e. cc)
none_of_none (Some false) = (λ e. cc, λ e. cc)

untold : (o : Option Ordering) → option_map is_lt o ≡ None → option_map is_lt (option_map ordering_reverse o) ≡ None
untold None e = refl
untold (Some o) e = cc

-- where one of a < b and b < a is the error, both are
pub untold_back : (a b : Term) → less a b ≡ None → less b a ≡ None
untold_back a b e =
    ap (option_map is_lt) (turned_values (value_of b) (value_of a)) ∙ untold (value_cmp (value_of a) (value_of b)) e

-- at most is less or equal
pub at_most_is : (a b : Term) → IsOneOfThree a b → (at_most a b ≡ Some true) ↔ ((less a b ≡ Some true) ⊎ (equal a b ≡ Some true))
at_most_is a b = ⊎_elim
    (λ r. (λ e. inl r.below, λ h. ap (option_map not) r.above))
    (⊎_elim
    (λ r. (λ e. inr r.level, λ h. ap (option_map not) r.above))
    (λ r. (
      λ e. absurd (two_truths (sym (ap (option_map not) r.above) ∙ e)),
      ⊎_elim (λ e. absurd (two_truths (sym r.below ∙ e))) (λ e. absurd (two_truths (sym r.level ∙ e))),
    )))
  where
    two_truths : Some false ≡ Some true → ⊥
    two_truths e = cc

-- at least is greater or equal
pub at_least_is : (a b : Term) → IsOneOfThree a b → (at_least a b ≡ Some true) ↔ ((greater a b ≡ Some true) ⊎ (equal a b ≡ Some true))
at_least_is a b = ⊎_elim
    (λ r. (
      λ e. absurd (two_truths (sym (ap (option_map not) r.below) ∙ e)),
      ⊎_elim (λ e. absurd (two_truths (sym r.above ∙ e))) (λ e. absurd (two_truths (sym r.level ∙ e))),
    ))
    (⊎_elim
    (λ r. (λ e. inr r.level, λ h. ap (option_map not) r.below))
    (λ r. (λ e. inl r.above, λ h. ap (option_map not) r.below)))
  where
    two_truths : Some false ≡ Some true → ⊥
    two_truths e = cc
