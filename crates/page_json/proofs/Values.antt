-- JSON values by what stands in them.
use Rattle.std.proofs.Common.{◌≡◌, ℕ, ◌<◌, ◌^◌, List, Option, Some, None, option_and_then, Bool, true, false, cond, refl, ap, ap₂, subst}
use Rattle.std.proofs.Common.{◌∙◌}
use Rattle.std.specs.Prelude.{nat_lt}
use Rattle.std.specs.Str.{bytes_eq}
use Rattle.std.proofs.lemmas.Bool.{ltb-true}
use Rattle.std.proofs.lemmas.Option.{same_Some}
use Rattle.std.proofs.lemmas.Slice.Eq.{bytes_eq-Decides}
use Rattle.serde_json.specs.Data.{Num, Data, null, boolean, number, string, array, object, unsigned, negative, float}
use Rattle.serde_json.specs.Data.{Items, Members, no_members, member}
use Rattle.serde_json.specs.Find.{as_str, as_object, as_array, as_number, as_u64}
use Rattle.page_json.specs.Reading.{value_in_front, members_behind, are_none, text_member, found_steps}
use Rattle.page_json.proofs.Fronts.{some_from}

pub same_bytes : (a b : List ℕ) → bytes_eq a b ≡ true → a ≡ b
same_bytes a b e = (bytes_eq-Decides a b).0 e

pub if_some : {A : Type 0} (b : Bool) (a c : A) → cond b (Some a) None ≡ Some c → (b ≡ true) × (a ≡ c)
if_some true a c e = (refl, same_Some a c e)
if_some false a c e = absurd (cc)

pub if_only : {A : Type 0} (b : Bool) (o : Option A) (c : A) → cond b o None ≡ Some c → (b ≡ true) × (o ≡ Some c)
if_only true o c e = (refl, e)
if_only false o c e = absurd (cc)

-- ---- the kinds of values

pub str_shape : (d : Data) (s : List ℕ) → as_str d ≡ Some s → d ≡ string s
str_shape null s e = absurd (cc)
str_shape (boolean b) s e = absurd (cc)
str_shape (number n) s e = absurd (cc)
str_shape (string t) s e = ap string (same_Some t s e)
str_shape (array ds) s e = absurd (cc)
str_shape (object ms) s e = absurd (cc)

pub object_shape : (d : Data) (ms : Members) → as_object d ≡ Some ms → d ≡ object ms
object_shape null ms e = absurd (cc)
object_shape (boolean b) ms e = absurd (cc)
object_shape (number n) ms e = absurd (cc)
object_shape (string t) ms e = absurd (cc)
object_shape (array ds) ms e = absurd (cc)
object_shape (object ns) ms e = ap object (same_Some ns ms e)

pub array_shape : (d : Data) (ds : Items) → as_array d ≡ Some ds → d ≡ array ds
array_shape null ds e = absurd (cc)
array_shape (boolean b) ds e = absurd (cc)
array_shape (number n) ds e = absurd (cc)
array_shape (string t) ds e = absurd (cc)
array_shape (array es) ds e = ap array (same_Some es ds e)
array_shape (object ns) ds e = absurd (cc)

num_shape : (n : Num) (m : ℕ) → as_u64 n ≡ Some m → n ≡ unsigned m
num_shape (unsigned k) m e = ap unsigned (same_Some k m e)
num_shape (negative z) m e = absurd (cc)
num_shape (float x) m e = absurd (cc)

number_shape : (d : Data) (n : Num) → as_number d ≡ Some n → d ≡ number n
number_shape null n e = absurd (cc)
number_shape (boolean b) n e = absurd (cc)
number_shape (number m) n e = ap number (same_Some m n e)
number_shape (string t) n e = absurd (cc)
number_shape (array es) n e = absurd (cc)
number_shape (object ns) n e = absurd (cc)

abbrev IsSteps : Data → ℕ → Type 0
IsSteps d n = (d ≡ number (unsigned n)) × (n < 2 ^ 32)

pub steps_sound : (d : Data) (n : ℕ) → found_steps d ≡ Some n → (d ≡ number (unsigned n)) × (n < 2 ^ 32)
steps_sound d n e =
    let o = some_from _ (option_and_then as_u64 (as_number d)) n e in
    let p = if_some (nat_lt o.0 (2 ^ 32)) o.0 n o.2 in
    let q = some_from as_u64 (as_number d) o.0 o.1 in
    let small : o.0 < 2 ^ 32 = ltb-true o.0 (2 ^ 32) p.0 in
    subst (IsSteps d) p.1 (number_shape d q.0 q.1 ∙ ap number (num_shape q.0 o.0 q.2), small)

-- ---- members

first_shape_at : (b : Bool) (name k : List ℕ) (d e : Data) (ms : Members) → bytes_eq k name ≡ b → cond b (Some e) None ≡ Some d
    → member k e ms ≡ member name d (cond b ms (member k e ms))
first_shape_at true name k d e ms same is = ap₂ (λ n v. member n v ms) (same_bytes k name same) (if_some true e d is).1
first_shape_at false name k d e ms same is = absurd (cc)

pub first_shape : (name : List ℕ) (d : Data) (ms : Members) → value_in_front name ms ≡ Some d → ms ≡ member name d (members_behind name ms)
first_shape name d no_members e = absurd (cc)
first_shape name d (member k v ms) e = first_shape_at (bytes_eq k name) name k d v ms refl e

first_none_at : (b : Bool) (k : List ℕ) (d : Data) (ms : Members) → cond b (Some d) None ≡ None → cond b ms (member k d ms) ≡ member k d ms
first_none_at true k d ms e = absurd (cc)
first_none_at false k d ms e = refl

pub first_none : (name : List ℕ) (ms : Members) → value_in_front name ms ≡ None → members_behind name ms ≡ ms
first_none name no_members e = refl
first_none name (member k d ms) e = first_none_at (bytes_eq k name) k d ms e

pub none_left : (ms : Members) → are_none ms ≡ true → ms ≡ no_members
none_left no_members e = refl
none_left (member k d ms) e = absurd (cc)

pub text_shape : (name text : List ℕ) (ms : Members) → text_member name ms ≡ Some text
    → ms ≡ member name (string text) (members_behind name ms)
text_shape name text ms e =
    let v = some_from as_str (value_in_front name ms) text e in
    first_shape name v.0 ms v.1 ∙ ap (λ d. member name d (members_behind name ms)) (str_shape v.0 text v.2)
