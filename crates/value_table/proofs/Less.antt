-- Less of terms: an order where it is told.
use Rattle.std.proofs.Common.{◌≡◌, refl, sym, ap, ◌∙◌, inl, inr, ⊎_elim, true, Option, Some, None, Less, Equal, Greater}
use Rattle.std.specs.Prelude.{option_map, IsSome}
use Rattle.std.specs.Ordering.{ordering_reverse, is_lt, is_eq}
use Rattle.std.specs.declared.cmp.Ordering.{Ordering}
use Rattle.term_core.specs.declared.term.Term.{Term}
use Rattle.value_table.specs.Values.{value_of, value_cmp, equal_by, equal, less}
use Rattle.value_table.specs.Comparisons.{ComparesAs, IsOneOfThree}
use Rattle.value_table.proofs.Classes.{turned_values, values_alike, values_chain}
use Rattle.value_table.proofs.Equality.{equal_means}

-- what is answered where the values have the order o
answers : (a b : Term) (o : Ordering) → value_cmp (value_of a) (value_of b) ≡ Some o
    → ComparesAs a b (is_lt o) (is_eq o) (is_lt (ordering_reverse o))
answers a b o e = record {
  below = ap (option_map is_lt) e;
  level = ap (λ p. equal_by p a b) e;
  above = ap (option_map is_lt) (turned_values (value_of b) (value_of a) ∙ ap (option_map ordering_reverse) e);
}

one_by : (a b : Term) (o : Option Ordering) → value_cmp (value_of a) (value_of b) ≡ o → IsSome (option_map is_lt o) → IsOneOfThree a b
one_by a b None e h = cc
one_by a b (Some Less) e h = inl (answers a b Less e)
one_by a b (Some Equal) e h = inr (inl (answers a b Equal e))
one_by a b (Some Greater) e h = inr (inr (answers a b Greater e))

-- where less is told, exactly one of the three is true
pub one_of_three : (a b : Term) → IsSome (less a b) → IsOneOfThree a b
one_of_three a b = one_by a b (value_cmp (value_of a) (value_of b)) refl

-- a less that is true is that of the values
pub lesser : (o : Option Ordering) → option_map is_lt o ≡ Some true → o ≡ Some Less
lesser None e = cc
lesser (Some Less) e = refl
lesser (Some Equal) e = cc
lesser (Some Greater) e = cc

-- less is transitive
pub less_chain : (a b c : Term) → less a b ≡ Some true → less b c ≡ Some true → less a c ≡ Some true
less_chain a b c e f =
    ap (option_map is_lt) (values_chain (value_of a) (value_of b) (value_of c) (lesser _ e) (lesser _ f))

-- equal terms are less than the same terms
pub less_alike : (a b c : Term) → equal a b ≡ Some true → less a c ≡ less b c
less_alike a b c e = ⊎_elim
    (λ h. ap (option_map is_lt) (values_alike (value_of a) (value_of b) (value_of c) h))
    (λ h. ap (λ t. less t c) h)
    (equal_means a b e)

-- to equal terms the same terms are less
pub less_alike_right : (a b c : Term) → equal a b ≡ Some true → less c a ≡ less c b
less_alike_right a b c e = ⊎_elim
    (λ h. ap (option_map is_lt) (turned_values (value_of c) (value_of a)
    ∙ (ap (option_map ordering_reverse) (values_alike (value_of a) (value_of b) (value_of c) h)
    ∙ sym (turned_values (value_of c) (value_of b)))))
    (λ h. ap (less c) h)
    (equal_means a b e)
