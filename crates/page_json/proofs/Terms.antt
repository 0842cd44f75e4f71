-- Terms and rows in JSON values, against their form.
use Rattle.std.proofs.Common.{◌≡◌, ℕ, List, [], ◌∷◌, Option, Some, None, Bool, true, false, cond, refl, sym, ap, ap₂, subst}
use Rattle.std.proofs.Common.{◌∙◌, codes}
use Rattle.std.specs.Str.{bytes_eq}
use Rattle.std.specs.FinMap.{FinMap, entries, same_entries_map}
use Rattle.std.proofs.lemmas.Option.{same_Some}
use Rattle.term_core.specs.declared.term.Term.{Term}
use Rattle.term_core.specs.declared.term.Term.TheVariants.{Iri, Blank, Literal}
use Rattle.term_core.specs.Order.{bytes_cmp}
use Rattle.term_core.specs.Rows.{RowEntries}
use Rattle.term_core.specs.Spelling.{lang_string}
use Rattle.term_core.specs.Texts.{xsd_string}
use Rattle.serde_json.specs.Data.{Data, string, object, Items, no_items, item, Members, no_members, member}
use Rattle.serde_json.specs.Find.{as_str, as_object}
use Rattle.page_json.specs.Terms.{kind_and_value, typed_members, term_json, row_members, row_items}
use Rattle.page_json.specs.Terms.{IsTaggedAsTyped, EntriesAreTagged, RowsAreTagged}
use Rattle.page_json.specs.Reading.{value_in_front, members_behind, are_none, text_member, typed_term, tagged_term, kinded_term}
use Rattle.page_json.specs.Reading.{term_by_type, found_term, found_entries, found_row, found_rows}
use Rattle.page_json.specs.Views.{rows_entries}
use Rattle.page_json.proofs.Fronts.{some_from, some_map}
use Rattle.page_json.proofs.Values.{same_bytes, if_some, if_only, str_shape, object_shape, first_shape, first_none, none_left, text_shape}

-- ---- what is of the form is read

untagged_back : (b : Bool) (lexical datatype : List ℕ) → bytes_eq datatype xsd_string ≡ b → bytes_eq datatype lang_string ≡ false
    → found_term (object (cond b (kind_and_value (codes "literal") lexical no_members) (typed_members lexical datatype)))
    ≡ Some (Literal lexical datatype [])
untagged_back true lexical datatype e f = ap (λ d. Some (Literal lexical d [])) (sym (same_bytes datatype xsd_string e))
untagged_back false lexical datatype e f = rw (e, f) refl

term_back : (t : Term) → IsTaggedAsTyped t → found_term (term_json t) ≡ Some t
term_back (Iri iri) h = refl
term_back (Blank label) h = refl
term_back (Literal lexical datatype []) h = untagged_back (bytes_eq datatype xsd_string) lexical datatype refl h
term_back (Literal lexical datatype (b ∷ tag)) h = ap (λ d. Some (Literal lexical d (b ∷ tag))) (sym h)

entries_back : (es : RowEntries) → EntriesAreTagged es → found_entries (row_members es) ≡ Some es
entries_back [] h = refl
entries_back (e ∷ es) h = rw (term_back e.1 h.0, entries_back es h.1) refl

pub rows_back : (rows : List (FinMap bytes_cmp Term)) → RowsAreTagged rows → found_rows (row_items rows) ≡ Some (rows_entries rows)
rows_back [] h = refl
rows_back (r ∷ rs) h = rw (entries_back (entries r) h.0, rows_back rs h.1) refl

-- ---- what is read is of the form

-- a term's members
abbrev IsFormed : Members → Term → Type 0
IsFormed ms t = (object ms ≡ term_json t) × IsTaggedAsTyped t

-- "type" and "value", where the kind is known
known_kind : (kind known text : List ℕ) (ms : Members) → bytes_eq kind known ≡ true
    → object (kind_and_value kind text ms) ≡ object (kind_and_value known text ms)
known_kind kind known text ms e = ap (λ k. object (kind_and_value k text ms)) (same_bytes kind known e)

plain_sound : (a b c : Bool) (kind text : List ℕ) (t : Term)
    → bytes_eq kind (codes "uri") ≡ a → bytes_eq kind (codes "bnode") ≡ b → bytes_eq kind (codes "literal") ≡ c
    → cond a (Some (Iri text)) (cond b (Some (Blank text)) (cond c (Some (Literal text xsd_string [])) None)) ≡ Some t
    → IsFormed (kind_and_value kind text no_members) t
plain_sound true b c kind text t e f g is =
    subst (IsFormed (kind_and_value kind text no_members)) (if_some true _ t is).1 (known_kind kind (codes "uri") text no_members e, tt)
plain_sound false true c kind text t e f g is =
    subst (IsFormed (kind_and_value kind text no_members)) (if_some true _ t is).1 (known_kind kind (codes "bnode") text no_members f, tt)
plain_sound false false true kind text t e f g is =
    subst (IsFormed (kind_and_value kind text no_members)) (if_some true _ t is).1
    (known_kind kind (codes "literal") text no_members g, refl)
plain_sound false false false kind text t e f g is = absurd (cc)

-- the members of a term with a datatype
abbrev with_datatype : List ℕ → List ℕ → List ℕ → Members
with_datatype kind text datatype = member (codes "datatype") (string datatype) (kind_and_value kind text no_members)

typed_sound : (a b c : Bool) (kind text datatype : List ℕ) (t : Term)
    → bytes_eq kind (codes "literal") ≡ a → bytes_eq datatype xsd_string ≡ b → bytes_eq datatype lang_string ≡ c
    → cond a (cond b None (cond c None (Some (Literal text datatype [])))) None ≡ Some t
    → IsFormed (with_datatype kind text datatype) t
typed_sound true false false kind text datatype t e f g is =
    subst (IsFormed (with_datatype kind text datatype)) (if_some true _ t is).1
    (ap (λ k. object (with_datatype k text datatype)) (same_bytes kind (codes "literal") e) ∙ rw f refl, g)
typed_sound true true c kind text datatype t e f g is = absurd (cc)
typed_sound true false true kind text datatype t e f g is = absurd (cc)
typed_sound false b c kind text datatype t e f g is = absurd (cc)

-- the member of a tag
abbrev tag_member : List ℕ → Members
tag_member tag = member (codes "xml:lang") (string tag) no_members

tagged_sound : (kind text tag : List ℕ) (t : Term) → tagged_term kind text tag ≡ Some t
    → IsFormed (kind_and_value kind text (tag_member tag)) t
tagged_sound kind text [] t is = absurd (cc)
tagged_sound kind text (b ∷ tag) t is =
    let p = if_some (bytes_eq kind (codes "literal")) _ t is in
    subst (IsFormed (kind_and_value kind text (tag_member (b ∷ tag)))) p.1
    (known_kind kind (codes "literal") text (tag_member (b ∷ tag)) p.0, refl)

kinded_sound : (datatype tag : Option Data) (kind text : List ℕ) (ms more : Members) (t : Term)
    → value_in_front (codes "datatype") ms ≡ datatype → value_in_front (codes "xml:lang") more ≡ tag
    → members_behind (codes "datatype") ms ≡ kind_and_value kind text more → members_behind (codes "xml:lang") more ≡ no_members
    → kinded_term kind text datatype tag ≡ Some t → IsFormed ms t
kinded_sound None None kind text ms more t d l is last e =
    let none : more ≡ no_members = sym (first_none (codes "xml:lang") more l) ∙ last in
    let whole : ms ≡ kind_and_value kind text no_members =
    sym (first_none (codes "datatype") ms d) ∙ is ∙ ap (kind_and_value kind text) none in
    subst (λ ns. IsFormed ns t) (sym whole) (plain_sound _ _ _ kind text t refl refl refl e)
kinded_sound (Some dd) None kind text ms more t d l is last e =
    let s = some_from (typed_term kind text) (as_str dd) t e in
    let none : more ≡ no_members = sym (first_none (codes "xml:lang") more l) ∙ last in
    let whole : ms ≡ with_datatype kind text s.0 =
    first_shape (codes "datatype") dd ms d
    ∙ ap₂ (member (codes "datatype")) (str_shape dd s.0 s.1) (is ∙ ap (kind_and_value kind text) none) in
    subst (λ ns. IsFormed ns t) (sym whole) (typed_sound _ _ _ kind text s.0 t refl refl refl s.2)
kinded_sound None (Some ll) kind text ms more t d l is last e =
    let s = some_from (tagged_term kind text) (as_str ll) t e in
    let one : more ≡ tag_member s.0 =
    first_shape (codes "xml:lang") ll more l ∙ ap₂ (member (codes "xml:lang")) (str_shape ll s.0 s.1) last in
    let whole : ms ≡ kind_and_value kind text (tag_member s.0) =
    sym (first_none (codes "datatype") ms d) ∙ is ∙ ap (kind_and_value kind text) one in
    subst (λ ns. IsFormed ns t) (sym whole) (tagged_sound kind text s.0 t s.2)
kinded_sound (Some dd) (Some ll) kind text ms more t d l is last e = absurd (cc)

term_sound : (d : Data) (t : Term) → found_term d ≡ Some t → (d ≡ term_json t) × IsTaggedAsTyped t
term_sound d t e =
    let o = some_from (λ ms. term_by_type (value_in_front (codes "datatype") ms) (members_behind (codes "datatype") ms)) (as_object d) t e in
    let ms = members_behind (codes "datatype") o.0 in
    let k = some_from _ (text_member (codes "type") ms) t o.2 in
    let v = some_from _ (text_member (codes "value") (members_behind (codes "type") ms)) t k.2 in
    let more = members_behind (codes "value") (members_behind (codes "type") ms) in
    let p = if_only (are_none (members_behind (codes "xml:lang") more)) _ t v.2 in
    let value = text_shape (codes "value") v.0 (members_behind (codes "type") ms) v.1 in
    let both : ms ≡ kind_and_value k.0 v.0 more = text_shape (codes "type") k.0 ms k.1 ∙ ap (member (codes "type") (string k.0)) value in
    let f = kinded_sound _ _ k.0 v.0 o.0 more t refl refl both (none_left _ p.0) p.1 in
    (object_shape d o.0 o.1 ∙ f.0, f.1)

-- a row's members
abbrev AreFormed : Members → RowEntries → Type 0
AreFormed ms es = (ms ≡ row_members es) × EntriesAreTagged es

entries_sound : (ms : Members) (es : RowEntries) → found_entries ms ≡ Some es → (ms ≡ row_members es) × EntriesAreTagged es
entries_sound no_members es e = subst (AreFormed no_members) (same_Some [] es e) (refl, tt)
entries_sound (member k d ms) es e =
    let t = some_from _ (found_term d) es e in
    let r = some_map _ (found_entries ms) es t.2 in
    let one = term_sound d t.0 t.1 in
    let rest = entries_sound ms r.0 r.1 in
    subst (AreFormed (member k d ms)) r.2 (ap₂ (member k) one.0 rest.0, (one.1, rest.1))

head_of : List RowEntries → RowEntries
head_of [] = []
head_of (e ∷ es) = e

tail_of : List RowEntries → List RowEntries
tail_of [] = []
tail_of (e ∷ es) = es

pub rows_sound : (ds : Items) (rows : List (FinMap bytes_cmp Term)) → found_rows ds ≡ Some (rows_entries rows)
    → (ds ≡ row_items rows) × RowsAreTagged rows
unfolding head_of tail_of
rows_sound no_items [] e = (refl, tt)
rows_sound no_items (r ∷ rs) e = absurd (cc)
rows_sound (item d ds) [] e =
    let o = some_from _ (found_row d) [] e in
    let p = some_map _ (found_rows ds) [] o.2 in
    absurd (let q = p.2 in cc)
rows_sound (item d ds) (r ∷ rs) e =
    let o = some_from _ (found_row d) (rows_entries (r ∷ rs)) e in
    let p = some_map _ (found_rows ds) (rows_entries (r ∷ rs)) o.2 in
    let m = some_from found_entries (as_object d) o.0 o.1 in
    let here = entries_sound m.0 (entries r) (m.2 ∙ ap Some (ap head_of p.2)) in
    let rest = rows_sound ds rs (p.1 ∙ ap Some (ap tail_of p.2)) in
    (ap₂ item (object_shape d m.0 m.1 ∙ ap object here.0) rest.0, (here.1, rest.1))

-- rows of the same entries are the same
pub rows_same : (xs ys : List (FinMap bytes_cmp Term)) → rows_entries xs ≡ rows_entries ys → xs ≡ ys
unfolding head_of tail_of
rows_same [] [] e = refl
rows_same [] (y ∷ ys) e = absurd (cc)
rows_same (x ∷ xs) [] e = absurd (cc)
rows_same (x ∷ xs) (y ∷ ys) e = ap₂ (λ z zs. z ∷ zs) (same_entries_map x y (ap head_of e)) (rows_same xs ys (ap tail_of e))
