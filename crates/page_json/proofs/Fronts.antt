-- The entries of a tree beside the members that they stand for.
use Rattle.std.proofs.Common.{◌≡◌, ℕ, List, [], ◌∷◌, ◌++◌, length, slice_get, Option, Some, None, option_map, option_and_then, Bool, true}
use Rattle.std.proofs.Common.{false, cond, IsTrue, ◌↔◌, String, Global, string_bytes, string_cmp, T, Less, refl, sym, ap, subst, ◌∙◌, arith}
use Rattle.std.proofs.Common.{append_assoc}
use Rattle.std.proofs.lemmas.Option.{same_Some}
use Rattle.std.specs.Prelude.{is_some, ◌&&◌}
use Rattle.std.specs.Str.{bytes_eq}
use Rattle.std.specs.List.{AllByRecursion}
use Rattle.std.specs.List.Sorted.{IsStrictlySortedBy}
use Rattle.std.specs.Map.{keys_of}
use Rattle.std.specs.Ordering.{is_lt}
use Rattle.std.specs.FinMap.{FinMap, from_sorted, entries, entries-from_sorted}
use Rattle.std.specs.FinMap.Entries.{below_all}
use Rattle.term_core.specs.declared.term.Term.{Term}
use Rattle.term_core.specs.Order.{bytes_cmp}
use Rattle.term_core.specs.Rows.{RowEntries, AreSorted}
use Rattle.serde_json.specs.Data.{Data, Members, member}
use Rattle.serde_json.specs.Find.{as_object}
use Rattle.serde_json.specs.View.{view, members_view}
use Rattle.serde_json.specs.declared.value.Value.{Value}
use Rattle.page_json.specs.Reading.{value_in_front, are_none}
use Rattle.page_json.specs.Reading.{found_term, found_entries, found_row}

-- a name with its value
abbrev pub Entry : Type 0
Entry = String Global × Value

tested : {A : Type 0} (b : Bool) (a : A) → b ≡ is_some (cond b (Some a) None)
tested true a = refl
tested false a = refl

-- ---- the first member

pub first_named : (es : List Entry) (key : String Global) (v : Value) (name : List ℕ) → slice_get es 0 ≡ Some (key, v)
    → bytes_eq (string_bytes key) name ≡ is_some (value_in_front name (members_view es))
first_named [] key v name e = absurd (cc)
first_named (x ∷ es) key v name e =
    let same : x ≡ (key, v) = same_Some x (key, v) e in
    ap (λ (p : Entry). bytes_eq (string_bytes p.0) name) (sym same) ∙ tested (bytes_eq (string_bytes x.0) name) (view x.1)

pub none_first : (es : List Entry) (name : List ℕ) → length es ≡ 0 → is_some (value_in_front name (members_view es)) ≡ false
none_first [] name e = refl
none_first (x ∷ es) name e = absurd (omega arith)

pub done : (b : Bool) (es : List Entry) → (IsTrue b ↔ (length es ≡ 0)) → b ≡ are_none (members_view es)
done true [] h = refl
done false [] h = h.1 refl
done true (x ∷ es) h = absurd (omega (arith, h.0 refl))
done false (x ∷ es) h = refl

-- ---- what an option is made from

pub some_from : {A B : Type 0} (f : A → Option B) (o : Option A) (b : B) → option_and_then f o ≡ Some b
    → (a : A) × (o ≡ Some a) × (f a ≡ Some b)
some_from f None b e = absurd (cc)
some_from f (Some a) b e = (a, refl, e)

pub some_map : {A B : Type 0} (f : A → B) (o : Option A) (b : B) → option_map f o ≡ Some b → (a : A) × (o ≡ Some a) × (f a ≡ b)
some_map f None b e = absurd (cc)
some_map f (Some a) b e = (a, refl, same_Some (f a) b e)

-- ---- names in order, and rows

both : (a b : Bool) → T a → T b → T (a && b)
both true b h k = k
both false b h k = h

below : (k : String Global) (es : List Entry) (out : RowEntries) → AllByRecursion (λ y. string_cmp k y ≡ Less) (keys_of es)
    → found_entries (members_view es) ≡ Some out → T (below_all bytes_cmp (string_bytes k) out)
below k [] out h e = subst (λ o. T (below_all bytes_cmp (string_bytes k) o)) (same_Some [] out e) tt
below k (x ∷ es) out h e =
    let t = some_from _ (found_term (view x.1)) out e in
    let r = some_map _ (found_entries (members_view es)) out t.2 in
    subst (λ o. T (below_all bytes_cmp (string_bytes k) o)) r.2
    (both _ _ (subst (λ o. T (is_lt o)) (sym h.0) tt) (below k es r.0 h.1 r.1))

pub names_sorted : (es : List Entry) (out : RowEntries) → IsStrictlySortedBy string_cmp (keys_of es)
    → found_entries (members_view es) ≡ Some out → AreSorted out
unfolding IsStrictlySortedBy
names_sorted [] out h e = subst AreSorted (same_Some [] out e) tt
names_sorted (x ∷ es) out h e =
    let t = some_from _ (found_term (view x.1)) out e in
    let r = some_map _ (found_entries (members_view es)) out t.2 in
    subst AreSorted r.2 (both _ _ (below x.0 es r.0 h.0 r.1) (names_sorted es r.0 h.1 r.1))

pub row_done : (d : Data) (ms : Members) (es : RowEntries) (row : FinMap bytes_cmp Term) → Some ms ≡ as_object d
    → found_entries ms ≡ Some es
    → AreSorted es → row ≡ from_sorted es → found_row d ≡ Some (entries row)
row_done d ms es row object read sorted is =
    ap (option_and_then found_entries) (sym object) ∙ read ∙ ap Some (sym (ap entries is ∙ entries-from_sorted bytes_cmp es sorted))

pub pushed : {A : Type 0} (done : List A) (x : A) (o : Option (List A))
    → option_map (λ ys. done ++ ys) (option_map (λ ys. x ∷ ys) o) ≡ option_map (λ ys. (done ++ x ∷ []) ++ ys) o
pushed done x None = refl
pushed done x (Some ys) = ap Some (sym (append_assoc done (x ∷ []) ys))

pub entries_step : (done : RowEntries) (k : List ℕ) (t : Term) (d : Data) (rest : Members) → found_term d ≡ Some t
    → option_map (λ es. done ++ es) (found_entries (member k d rest)) ≡ option_map (λ es. (done ++ (k, t) ∷ []) ++ es) (found_entries rest)
entries_step done k t d rest e = rw e (pushed done (k, t) (found_entries rest))
