-- The order of two values: total within a class that has one, and none between classes.
use Rattle.std.proofs.Common.{◌≡◌, refl, sym, ap, ◌∙◌, ℕ, List, Bool, Some, Less, Equal}
use Rattle.std.specs.Prelude.{option_map}
use Rattle.std.specs.Ordering.{ordering_reverse, bool_cmp}
use Rattle.std.specs.declared.cmp.Ordering.{Ordering}
use Rattle.std.specs.Cmp.{IsTotalOrder, bool_cmp_total}
use Rattle.std.proofs.lemmas.Cmp.{on_total, int_cmp_total, nat_list_cmp_total, tied_itself}
use Rattle.term_core.specs.Numbers.{Number, at_scale, compared}
use Rattle.term_core.specs.Order.{bytes_cmp}
use Rattle.value_table.specs.Values.{Value, Numeric, WideNumber, Logical, IllFormed, Simple, Temporal, Tagged, Opaque, Resource}
use Rattle.value_table.specs.Values.{value_cmp, against_number, against_boolean, against_string, against_moment}
use Rattle.term_core.specs.Moments.{Moment, Instant, Local, Day, moment_cmp}

-- numbers are in a total order
pub numbers_total : IsTotalOrder compared
numbers_total = on_total (at_scale 18) int_cmp_total

-- two moments are compared one way as the other, turned round
turned_moments : (a b : Moment) → moment_cmp a b ≡ option_map ordering_reverse (moment_cmp b a)
turned_moments (Instant a) (Instant b) = ap Some (int_cmp_total.antisymm a b)
turned_moments (Local a) (Local b) = ap Some (int_cmp_total.antisymm a b)
turned_moments (Day a) (Day b) = ap Some (int_cmp_total.antisymm a b)
turned_moments (Instant a) (Local b) = refl
turned_moments (Instant a) (Day b) = refl
turned_moments (Local a) (Instant b) = refl
turned_moments (Local a) (Day b) = refl
turned_moments (Day a) (Instant b) = refl
turned_moments (Day a) (Local b) = refl

-- two values are compared one way as the other, turned round
pub turned_values : (v w : Value) → value_cmp v w ≡ option_map ordering_reverse (value_cmp w v)
turned_values (Numeric a) (Numeric b) = ap Some (numbers_total.antisymm a b)
turned_values (Logical a) (Logical b) = ap Some (bool_cmp_total.antisymm a b)
turned_values (Simple a) (Simple b) = ap Some (nat_list_cmp_total.antisymm a b)
turned_values (Temporal a) (Temporal b) = turned_moments a b
turned_values WideNumber (Numeric b) = refl
turned_values IllFormed (Numeric b) = refl
turned_values (Tagged x y) (Numeric b) = refl
turned_values Opaque (Numeric b) = refl
turned_values Resource (Numeric b) = refl
turned_values v w = refl

-- the order within an option
inside : (o p : Ordering) → Some o ≡ Some p → o ≡ p
inside o p e = cc

-- numbers that tie are compared alike
number_alike : (a b : Number) (w : Value) → compared a b ≡ Equal → against_number a w ≡ against_number b w
number_alike a b (Numeric c) e = ap Some (numbers_total.congr a b c e)
number_alike a b w e = refl

-- truth values that tie are compared alike
boolean_alike : (a b : Bool) (w : Value) → bool_cmp a b ≡ Equal → against_boolean a w ≡ against_boolean b w
boolean_alike a b (Logical c) e = ap Some (bool_cmp_total.congr a b c e)
boolean_alike a b w e = refl

-- strings that tie are compared alike
string_alike : (a b : List ℕ) (w : Value) → bytes_cmp a b ≡ Equal → against_string a w ≡ against_string b w
string_alike a b (Simple c) e = ap Some (nat_list_cmp_total.congr a b c e)
string_alike a b w e = refl

-- moments that tie are compared alike
moments_alike : (a b c : Moment) → moment_cmp a b ≡ Some Equal → moment_cmp a c ≡ moment_cmp b c
moments_alike (Instant a) (Instant b) (Instant c) e = ap Some (int_cmp_total.congr a b c (inside _ _ e))
moments_alike (Local a) (Local b) (Local c) e = ap Some (int_cmp_total.congr a b c (inside _ _ e))
moments_alike (Day a) (Day b) (Day c) e = ap Some (int_cmp_total.congr a b c (inside _ _ e))
moments_alike a b c e = cc

moment_alike : (a b : Moment) (w : Value) → moment_cmp a b ≡ Some Equal → against_moment a w ≡ against_moment b w
moment_alike a b (Temporal c) e = moments_alike a b c e
moment_alike a b w e = refl

-- values that tie are compared alike
pub values_alike : (u v w : Value) → value_cmp u v ≡ Some Equal → value_cmp u w ≡ value_cmp v w
values_alike (Numeric a) (Numeric b) w e = number_alike a b w (inside _ _ e)
values_alike (Logical a) (Logical b) w e = boolean_alike a b w (inside _ _ e)
values_alike (Simple a) (Simple b) w e = string_alike a b w (inside _ _ e)
values_alike (Temporal a) (Temporal b) w e = moment_alike a b w e
values_alike u v w e = cc

-- a number below one that is below a value is below that value
number_chain : (a b : Number) (w : Value) → compared a b ≡ Less → against_number b w ≡ Some Less → against_number a w ≡ Some Less
number_chain a b (Numeric c) e f = ap Some (numbers_total.trans a b c e (inside _ _ f))
number_chain a b w e f = cc

-- the same of truth values
boolean_chain : (a b : Bool) (w : Value) → bool_cmp a b ≡ Less → against_boolean b w ≡ Some Less → against_boolean a w ≡ Some Less
boolean_chain a b (Logical c) e f = ap Some (bool_cmp_total.trans a b c e (inside _ _ f))
boolean_chain a b w e f = cc

-- the same of strings
string_chain : (a b : List ℕ) (w : Value) → bytes_cmp a b ≡ Less → against_string b w ≡ Some Less → against_string a w ≡ Some Less
string_chain a b (Simple c) e f = ap Some (nat_list_cmp_total.trans a b c e (inside _ _ f))
string_chain a b w e f = cc

-- the same of moments
moments_chain : (a b c : Moment) → moment_cmp a b ≡ Some Less → moment_cmp b c ≡ Some Less → moment_cmp a c ≡ Some Less
moments_chain (Instant a) (Instant b) (Instant c) e f = ap Some (int_cmp_total.trans a b c (inside _ _ e) (inside _ _ f))
moments_chain (Local a) (Local b) (Local c) e f = ap Some (int_cmp_total.trans a b c (inside _ _ e) (inside _ _ f))
moments_chain (Day a) (Day b) (Day c) e f = ap Some (int_cmp_total.trans a b c (inside _ _ e) (inside _ _ f))
moments_chain a b c e f = cc

moment_chain : (a b : Moment) (w : Value) → moment_cmp a b ≡ Some Less → against_moment b w ≡ Some Less → against_moment a w ≡ Some Less
moment_chain a b (Temporal c) e f = moments_chain a b c e f
moment_chain a b w e f = cc

-- less is transitive
pub values_chain : (u v w : Value) → value_cmp u v ≡ Some Less → value_cmp v w ≡ Some Less → value_cmp u w ≡ Some Less
values_chain (Numeric a) (Numeric b) w e f = number_chain a b w (inside _ _ e) f
values_chain (Logical a) (Logical b) w e f = boolean_chain a b w (inside _ _ e) f
values_chain (Simple a) (Simple b) w e f = string_chain a b w (inside _ _ e) f
values_chain (Temporal a) (Temporal b) w e f = moment_chain a b w e f
values_chain u v w e f = cc

-- a moment ties with itself
moment_itself : (a : Moment) → moment_cmp a a ≡ Some Equal
moment_itself (Instant a) = ap Some (tied_itself int_cmp_total a)
moment_itself (Local a) = ap Some (tied_itself int_cmp_total a)
moment_itself (Day a) = ap Some (tied_itself int_cmp_total a)

-- a value ties with itself, or has no order
pub value_itself : (v : Value) (o : Ordering) → value_cmp v v ≡ Some o → o ≡ Equal
value_itself (Numeric a) o e = sym (inside _ _ e) ∙ tied_itself numbers_total a
value_itself (Logical a) o e = sym (inside _ _ e) ∙ tied_itself bool_cmp_total a
value_itself (Simple a) o e = sym (inside _ _ e) ∙ tied_itself nat_list_cmp_total a
value_itself (Temporal a) o e = inside _ _ (sym e ∙ moment_itself a)
value_itself v o e = cc
