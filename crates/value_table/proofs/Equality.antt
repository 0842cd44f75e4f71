-- Equality of terms: it is that of their values where these have an order, and else that of the terms.
use Rattle.std.proofs.Common.{◌≡◌, refl, sym, ap, ◌∙◌, subst, inl, inr, ⊎_elim, Bool, true, false, Option, Some, None, Less, Equal, Greater}
use Rattle.std.specs.Prelude.{◌⊎◌, option_map, ◌&&◌, if◌then◌else◌}
use Rattle.std.specs.Ordering.{ordering_reverse, is_eq}
use Rattle.std.specs.declared.cmp.Ordering.{Ordering}
use Rattle.std.proofs.lemmas.Cmp.{tied_itself}
use Rattle.term_core.specs.declared.term.Term.{Term}
use Rattle.term_core.specs.declared.term.Term.TheVariants.{Iri, Blank, Literal}
use Rattle.term_core.specs.Order.{term_cmp}
use Rattle.term_core.specs.OrderLaws.{terms_total, same_terms}
use Rattle.term_core.specs.Mappings.{same_term}
use Rattle.value_table.specs.Values.{Value}
use Rattle.value_table.specs.Values.{value_of, value_cmp, is_literal, same_or_unknown, equal_by, equal}
use Rattle.value_table.proofs.Classes.{turned_values, values_alike, value_itself}

-- an order that is tested to be a tie is one
tied : (o : Ordering) → is_eq o ≡ true → o ≡ Equal
tied Less e = cc
tied Equal e = refl
tied Greater e = cc

-- terms that are tested to be one are one
pub one_term : (a b : Term) → same_term a b ≡ true → a ≡ b
one_term a b e = same_terms a b (tied (term_cmp a b) e)

-- a term is itself
pub term_itself : (t : Term) → same_term t t ≡ true
term_itself t = ap is_eq (tied_itself terms_total t)

-- a tie is one both ways
turned_tie : (o : Ordering) → is_eq (ordering_reverse o) ≡ is_eq o
turned_tie Less = refl
turned_tie Equal = refl
turned_tie Greater = refl

-- the test of one term is the same both ways
turned_terms : (a b : Term) → same_term a b ≡ same_term b a
turned_terms a b = ap is_eq (terms_total.antisymm a b) ∙ turned_tie (term_cmp b a)

-- two tests, in either order
turned_and : (p q : Bool) → (p && q) ≡ (q && p)
turned_and true true = refl
turned_and true false = refl
turned_and false true = refl
turned_and false false = refl

-- equality where there is no order is the same both ways
turned_unknown : (a b : Term) → same_or_unknown a b ≡ same_or_unknown b a
turned_unknown a b =
    ap (λ s. if s then Some true else if is_literal a && is_literal b then None else Some false) (turned_terms a b)
    ∙ ap (λ l. if same_term b a then Some true else if l then None else Some false) (turned_and (is_literal a) (is_literal b))

turned_by : (o : Option Ordering) (a b : Term) → equal_by (option_map ordering_reverse o) a b ≡ equal_by o b a
turned_by None a b = turned_unknown a b
turned_by (Some o) a b = ap Some (turned_tie o)

-- a = b and b = a answer the same
pub equal_turned : (a b : Term) → equal a b ≡ equal b a
equal_turned a b =
    ap (λ o. equal_by o a b) (turned_values (value_of a) (value_of b)) ∙ turned_by (value_cmp (value_of b) (value_of a)) a b

itself_by : (o : Option Ordering) (t : Term) → value_cmp (value_of t) (value_of t) ≡ o → equal_by o t t ≡ Some true
itself_by None t e = ap (λ s. if s then Some true else if is_literal t && is_literal t then None else Some false) (term_itself t)
itself_by (Some o) t e = ap (λ p. Some (is_eq p)) (value_itself (value_of t) o e)

-- a term equals itself
pub equal_itself : (t : Term) → equal t t ≡ Some true
equal_itself t = itself_by (value_cmp (value_of t) (value_of t)) t refl

same_by : (s l : Bool) → (if s then Some true else if l then None else Some false) ≡ Some true → s ≡ true
same_by true l e = refl
same_by false true e = cc
same_by false false e = cc

equal_from : (o : Option Ordering) (a b : Term) → equal_by o a b ≡ Some true → (o ≡ Some Equal) ⊎ (a ≡ b)
equal_from None a b e = inr (one_term a b (same_by (same_term a b) (is_literal a && is_literal b) e))
equal_from (Some Less) a b e = cc
equal_from (Some Equal) a b e = inl refl
equal_from (Some Greater) a b e = cc

-- terms that are equal have values that tie, or are one
pub equal_means : (a b : Term) → equal a b ≡ Some true → (value_cmp (value_of a) (value_of b) ≡ Some Equal) ⊎ (a ≡ b)
equal_means a b = equal_from (value_cmp (value_of a) (value_of b)) a b

-- a term whose value has an order with some other is a literal
pub literal_with_order : (a b : Term) (o : Ordering) → value_cmp (value_of a) (value_of b) ≡ Some o → is_literal a ≡ true
literal_with_order (Iri iri) b o e = cc
literal_with_order (Blank label) b o e = cc
literal_with_order (Literal text datatype tag) b o e = refl

-- a literal against a term that it is not, where there is no order: unknown where that is a literal too
apart : (a c : Term) → same_term a c ≡ false → is_literal a ≡ true → same_or_unknown a c ≡ (if is_literal c then None else Some false)
apart a c s l =
    ap (λ q. if q then Some true else if is_literal a && is_literal c then None else Some false) s
    ∙ ap (λ q. if q && is_literal c then None else Some false) l

-- the order with itself of a value that has an order with some other
has_itself : (v w : Value) → value_cmp v w ≡ Some Equal → value_cmp v v ≡ Some Equal
has_itself v w e = values_alike v w v e ∙ (turned_values w v ∙ ap (option_map ordering_reverse) e)

-- a term whose value ties with another, but has no order with that of c, is not c
not_one : (a b c : Term) → value_cmp (value_of a) (value_of b) ≡ Some Equal → value_cmp (value_of a) (value_of c) ≡ None
    → (s : Bool) → same_term a c ≡ s → same_term a c ≡ false
not_one a b c h n false e = e
not_one a b c h n true e =
    let there : value_cmp (value_of a) (value_of c) ≡ Some Equal
    = subst (λ t. value_cmp (value_of a) (value_of t) ≡ Some Equal) (one_term a c e) (has_itself (value_of a) (value_of b) h) in
    absurd (told (sym n ∙ there))
  where
    told : None ≡ Some Equal → ⊥
    told e = cc

-- two terms whose values tie, against a term with which the first has no order
alike_by : (a b c : Term) → value_cmp (value_of a) (value_of b) ≡ Some Equal → (o : Option Ordering)
    → value_cmp (value_of a) (value_of c) ≡ o → value_cmp (value_of b) (value_of c) ≡ o → equal_by o a c ≡ equal_by o b c
alike_by a b c h (Some o) e f = refl
alike_by a b c h None e f =
    let back : value_cmp (value_of b) (value_of a) ≡ Some Equal
    = turned_values (value_of b) (value_of a) ∙ ap (option_map ordering_reverse) h in
    apart a c (not_one a b c h e (same_term a c) refl) (literal_with_order a b Equal h)
    ∙ sym (apart b c (not_one b a c back f (same_term b c) refl) (literal_with_order b a Equal back))

-- equal terms are equal to the same terms, and unknown to be so to the same
pub equal_alike : (a b c : Term) → equal a b ≡ Some true → equal a c ≡ equal b c
equal_alike a b c e = ⊎_elim
    (λ h. let same : value_cmp (value_of a) (value_of c) ≡ value_cmp (value_of b) (value_of c)
    = values_alike (value_of a) (value_of b) (value_of c) h in
    alike_by a b c h (value_cmp (value_of a) (value_of c)) refl (sym same) ∙ ap (λ o. equal_by o b c) same)
    (λ h. ap (λ t. equal t c) h)
    (equal_means a b e)
