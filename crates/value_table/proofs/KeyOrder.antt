-- The order of keys is total: it compares parts one after the other, of which each class of keys fills its own alone.
use Rattle.std.proofs.Common.{◌≡◌, refl, sym, ap, ◌∙◌, subst, ⊎_elim}
use Rattle.std.proofs.Common.{ℕ, List, [], Bool, true, false, pos, ℤ, Option, Some, None, Less, Equal, Greater}
use Rattle.std.specs.Prelude.{◌↔◌, option_map}
use Rattle.std.specs.Ordering.{ordering_then, ordering_reverse, then_cmp, on, nat_cmp, int_cmp, bool_cmp, is_eq}
use Rattle.std.specs.Option.{option_cmp}
use Rattle.std.specs.declared.cmp.Ordering.{Ordering}
use Rattle.std.specs.Cmp.{IsTotalOrder, bool_cmp_total}
use Rattle.std.specs.Cmp.Lexicographic.{options_total}
use Rattle.std.proofs.lemmas.Cmp.{on_total, then_total, nat_cmp_total, int_cmp_total, nat_list_cmp_total, tied_itself}
use Rattle.term_core.specs.declared.term.Term.{Term}
use Rattle.term_core.specs.declared.term.Term.TheVariants.{Iri, Blank, Literal}
use Rattle.term_core.specs.Numbers.{Number, Whole, compared}
use Rattle.term_core.specs.Order.{bytes_cmp, term_cmp}
use Rattle.term_core.specs.OrderLaws.{terms_total, same_terms, both_tie}
use Rattle.value_table.specs.Values.{Value, Numeric, WideNumber, Logical, IllFormed, Simple, Temporal, Tagged, Opaque, Resource}
use Rattle.term_core.specs.Moments.{Moment, Instant, Local, Day}
use Rattle.value_table.specs.Values.{value_of, value_cmp, is_literal, equal_by, equal, less}
use Rattle.value_table.specs.Keys.{class_rank, key_rank, literal_rank, value_or_term, order_keys}
use Rattle.value_table.proofs.Classes.{numbers_total, turned_values}
use Rattle.value_table.proofs.Equality.{equal_itself, equal_means, literal_with_order}
use Rattle.value_table.proofs.Less.{lesser}

-- the number, and else 0
number_part : Value → Number
number_part (Numeric number) = number
number_part v = Whole (pos 0)

-- the truth value, and else false
boolean_part : Value → Bool
boolean_part (Logical truth) = truth
boolean_part v = false

-- the string, and else none
string_part : Value → List ℕ
string_part (Simple text) = text
string_part v = []

-- the number of a moment, and else 0
number_of_moment : Moment → ℤ
number_of_moment (Instant nanos) = nanos
number_of_moment (Local nanos) = nanos
number_of_moment (Day day) = day

moment_part : Value → ℤ
moment_part (Temporal moment) = number_of_moment moment
moment_part v = pos 0

-- the term where its class has no order of its own
term_part : Value → Term → Option Term
term_part (Numeric number) t = None
term_part (Logical truth) t = None
term_part (Simple text) t = None
term_part (Temporal moment) t = None
term_part v t = Some t

-- the parts of a key
number_of_key : Option Term → Number
number_of_key None = Whole (pos 0)
number_of_key (Some t) = number_part (value_of t)

boolean_of_key : Option Term → Bool
boolean_of_key None = false
boolean_of_key (Some t) = boolean_part (value_of t)

string_of_key : Option Term → List ℕ
string_of_key None = []
string_of_key (Some t) = string_part (value_of t)

moment_of_key : Option Term → ℤ
moment_of_key None = pos 0
moment_of_key (Some t) = moment_part (value_of t)

term_of_key : Option Term → Option Term
term_of_key None = None
term_of_key (Some t) = term_part (value_of t) t

-- the parts of two keys, one after the other
abbrev parts_cmp : Option Term → Option Term → Ordering
parts_cmp =
    then_cmp (on number_of_key compared) (then_cmp (on boolean_of_key bool_cmp)
    (then_cmp (on string_of_key bytes_cmp) (then_cmp (on moment_of_key int_cmp) (on term_of_key (option_cmp term_cmp)))))

-- the ranks of two keys, and then their parts
abbrev ranked_cmp : Option Term → Option Term → Ordering
ranked_cmp = then_cmp (on key_rank nat_cmp) (then_cmp (on literal_rank nat_cmp) parts_cmp)

-- ranks and parts are in a total order
ranked_total : IsTotalOrder ranked_cmp
ranked_total =
    then_total (on_total key_rank nat_cmp_total) (then_total (on_total literal_rank nat_cmp_total)
    (then_total (on_total number_of_key numbers_total) (then_total (on_total boolean_of_key bool_cmp_total)
    (then_total (on_total string_of_key nat_list_cmp_total)
    (then_total (on_total moment_of_key int_cmp_total) (on_total term_of_key (options_total terms_total)))))))

-- a tie behind an order adds nothing
then_equal : (o : Ordering) → o ≡ ordering_then o Equal
then_equal Less = refl
then_equal Equal = refl
then_equal Greater = refl

-- two values behind their ranks, as the table has them and by parts
by_parts : (v w : Value) (a b : Term)
    → ordering_then (nat_cmp (class_rank v) (class_rank w)) (value_or_term (value_cmp v w) a b)
    ≡ ordering_then (nat_cmp (class_rank v) (class_rank w))
    (ordering_then (compared (number_part v) (number_part w)) (ordering_then (bool_cmp (boolean_part v) (boolean_part w))
    (ordering_then (bytes_cmp (string_part v) (string_part w))
    (ordering_then (int_cmp (moment_part v) (moment_part w)) (option_cmp term_cmp (term_part v a) (term_part w b))))))
unfolding number_part boolean_part string_part moment_part number_of_moment term_part
by_parts (Numeric m) (Numeric n) a b = then_equal (compared m n)
by_parts (Logical p) (Logical q) a b = then_equal (bool_cmp p q)
by_parts (Simple s) (Simple t) a b = then_equal (bytes_cmp s t)
by_parts (Temporal (Instant m)) (Temporal (Instant n)) a b = then_equal (int_cmp m n)
by_parts (Temporal (Local m)) (Temporal (Local n)) a b = then_equal (int_cmp m n)
by_parts (Temporal (Day m)) (Temporal (Day n)) a b = then_equal (int_cmp m n)
by_parts (Temporal (Instant m)) w a b = refl
by_parts (Temporal (Local m)) w a b = refl
by_parts (Temporal (Day m)) w a b = refl
by_parts v (Temporal (Instant n)) a b = refl
by_parts v (Temporal (Local n)) a b = refl
by_parts v (Temporal (Day n)) a b = refl
by_parts WideNumber (Numeric n) a b = refl
by_parts IllFormed (Numeric n) a b = refl
by_parts (Tagged x y) (Numeric n) a b = refl
by_parts Opaque (Numeric n) a b = refl
by_parts Resource (Numeric n) a b = refl
by_parts v w a b = refl

keys_by_parts : (a b : Option Term) → order_keys a b ≡ ranked_cmp a b
unfolding number_of_key boolean_of_key string_of_key moment_of_key term_of_key
keys_by_parts None None = refl
keys_by_parts None (Some (Iri iri)) = refl
keys_by_parts None (Some (Blank label)) = refl
keys_by_parts None (Some (Literal text datatype tag)) = refl
keys_by_parts (Some (Iri iri)) None = refl
keys_by_parts (Some (Blank label)) None = refl
keys_by_parts (Some (Literal text datatype tag)) None = refl
keys_by_parts (Some a) (Some b) =
    ap (ordering_then (nat_cmp (key_rank (Some a)) (key_rank (Some b)))) (by_parts (value_of a) (value_of b) a b)

-- keys are in a total order
pub keys_total : IsTotalOrder order_keys
keys_total = subst IsTotalOrder (λ i a b. sym (keys_by_parts a b) i) ranked_total

-- values that have an order are of one class
one_class : (v w : Value) (o : Ordering) → value_cmp v w ≡ Some o → nat_cmp (class_rank v) (class_rank w) ≡ Equal
one_class (Numeric a) (Numeric b) o e = refl
one_class (Logical a) (Logical b) o e = refl
one_class (Simple a) (Simple b) o e = refl
one_class (Temporal (Instant a)) (Temporal (Instant b)) o e = refl
one_class (Temporal (Local a)) (Temporal (Local b)) o e = refl
one_class (Temporal (Day a)) (Temporal (Day b)) o e = refl
one_class v w o e = cc

-- literals are of one kind
one_kind : (a b : Term) → is_literal a ≡ true → is_literal b ≡ true → nat_cmp (key_rank (Some a)) (key_rank (Some b)) ≡ Equal
one_kind (Literal x y z) (Literal u v w) h g = refl
one_kind a b h g = cc

-- keys whose values have an order are in that order
pub keys_by_value : (a b : Term) (o : Ordering) → value_cmp (value_of a) (value_of b) ≡ Some o → order_keys (Some a) (Some b) ≡ o
keys_by_value a b o e =
    let back : value_cmp (value_of b) (value_of a) ≡ Some (ordering_reverse o)
    = turned_values (value_of b) (value_of a) ∙ ap (option_map ordering_reverse) e in
    let kinds = one_kind a b (literal_with_order a b o e) (literal_with_order b a (ordering_reverse o) back) in
    let classes = one_class (value_of a) (value_of b) o e in
    ap (λ p. ordering_then p (ordering_then (nat_cmp (class_rank (value_of a)) (class_rank (value_of b)))
    (value_or_term (value_cmp (value_of a) (value_of b)) a b))) kinds
    ∙ (ap (λ p. ordering_then p (value_or_term (value_cmp (value_of a) (value_of b)) a b)) classes
    ∙ ap (λ p. value_or_term p a b) e)

-- the key of a term that is less is lower
pub keys_by_less : (a b : Term) → less a b ≡ Some true → order_keys (Some a) (Some b) ≡ Less
keys_by_less a b e = keys_by_value a b Less (lesser _ e)

tie_by : (o : Option Ordering) (a b : Term) → value_cmp (value_of a) (value_of b) ≡ o → value_or_term o a b ≡ Equal → equal a b ≡ Some true
tie_by None a b e h = subst (λ t. equal a t ≡ Some true) (same_terms a b h) (equal_itself a)
tie_by (Some o) a b e h = ap (λ p. equal_by p a b) e ∙ ap (λ p. Some (is_eq p)) h

-- keys that tie are equal terms
equal_from_tie : (a b : Term) → order_keys (Some a) (Some b) ≡ Equal → equal a b ≡ Some true
equal_from_tie a b e =
    let behind_kind = both_tie _ _ e in
    let behind_class = both_tie _ _ behind_kind.1 in
    tie_by (value_cmp (value_of a) (value_of b)) a b refl behind_class.1

-- equal terms are keys that tie
tie_from_equal : (a b : Term) → equal a b ≡ Some true → order_keys (Some a) (Some b) ≡ Equal
tie_from_equal a b e = ⊎_elim
    (λ h. keys_by_value a b Equal h)
    (λ h. subst (λ t. order_keys (Some a) (Some t) ≡ Equal) h (tied_itself keys_total (Some a)))
    (equal_means a b e)

pub keys_tie : (a b : Term) → (order_keys (Some a) (Some b) ≡ Equal) ↔ (equal a b ≡ Some true)
keys_tie a b = (equal_from_tie a b, tie_from_equal a b)
