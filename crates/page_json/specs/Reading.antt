-- What stands in a JSON value, if anything does: in the steps of the reader, for the contracts of its private functions.
use Rattle.std.specs.Prelude.{◌≡◌, ℕ, List, [], ◌∷◌, Bool, Option, Some, None, option_map, option_and_then, if◌then◌else◌, codes, ◌^◌}
use Rattle.std.specs.Prelude.{nat_lt, is_some, true, false}
use Rattle.std.specs.Result.{result_ok}
use Rattle.std.specs.Str.{bytes_eq}
use Rattle.term_core.specs.declared.term.Term.{Term}
use Rattle.term_core.specs.declared.term.Term.TheVariants.{Iri, Blank, Literal}
use Rattle.term_core.specs.Rows.{RowEntries}
use Rattle.term_core.specs.Spelling.{lang_string}
use Rattle.term_core.specs.Texts.{xsd_string}
use Rattle.serde_json.specs.Data.{Data, null, boolean, number, string, array, object, Items, no_items, item, Members, no_members, member}
use Rattle.serde_json.specs.Find.{as_str, as_object, as_array, as_number, as_u64}
use Rattle.base64.specs.Engines.{url_safe_no_pad}
use Rattle.base64.specs.GeneralPurpose.{encode_of, decode_of}

-- ---- an object's members, taken off its front

-- the value of the first member, where it has the name
abbrev pub value_in_front : List ℕ → Members → Option Data
value_in_front name no_members = None
value_in_front name (member k d ms) = if bytes_eq k name then Some d else None

-- the members behind it, and all of them where the first has another name
abbrev pub members_behind : List ℕ → Members → Members
members_behind name no_members = no_members
members_behind name (member k d ms) = if bytes_eq k name then ms else member k d ms

-- no member is left
abbrev pub are_none : Members → Bool
are_none no_members = true
are_none (member k d ms) = false

-- the first member's string, where it has the name
abbrev pub text_member : List ℕ → Members → Option (List ℕ)
text_member name ms = option_and_then as_str (value_in_front name ms)

-- its array
abbrev pub array_member : List ℕ → Members → Option Items
array_member name ms = option_and_then as_array (value_in_front name ms)

-- ---- terms and rows

-- by "type" and "value" alone
abbrev pub plain_term : List ℕ → List ℕ → Option Term
plain_term kind text =
    if bytes_eq kind (codes "uri") then Some (Iri text)
    else if bytes_eq kind (codes "bnode") then Some (Blank text)
    else if bytes_eq kind (codes "literal") then Some (Literal text xsd_string []) else None

-- with the string of "datatype"
abbrev pub typed_term : List ℕ → List ℕ → List ℕ → Option Term
typed_term kind text datatype =
    if bytes_eq kind (codes "literal") then (if bytes_eq datatype xsd_string then None
    else if bytes_eq datatype lang_string then None else Some (Literal text datatype [])) else None

-- with the string of "xml:lang"
abbrev pub tagged_term : List ℕ → List ℕ → List ℕ → Option Term
tagged_term kind text [] = None
tagged_term kind text (b ∷ tag) = if bytes_eq kind (codes "literal") then Some (Literal text lang_string (b ∷ tag)) else None

-- by the values of "datatype" and "xml:lang" besides, where they stand
abbrev pub kinded_term : List ℕ → List ℕ → Option Data → Option Data → Option Term
kinded_term kind text None None = plain_term kind text
kinded_term kind text (Some d) None = option_and_then (typed_term kind text) (as_str d)
kinded_term kind text None (Some d) = option_and_then (tagged_term kind text) (as_str d)
kinded_term kind text (Some d) (Some e) = None

-- by the members behind "value"
abbrev pub term_by_tag : List ℕ → List ℕ → Option Data → Members → Option Term
term_by_tag kind text datatype ms =
    if are_none (members_behind (codes "xml:lang") ms) then kinded_term kind text datatype (value_in_front (codes "xml:lang") ms) else None

-- by the members behind "type"
abbrev pub term_by_value : List ℕ → Option Data → Members → Option Term
term_by_value kind datatype ms =
    option_and_then (λ text. term_by_tag kind text datatype (members_behind (codes "value") ms)) (text_member (codes "value") ms)

-- by the members behind "datatype"
abbrev pub term_by_type : Option Data → Members → Option Term
term_by_type datatype ms =
    option_and_then (λ kind. term_by_value kind datatype (members_behind (codes "type") ms)) (text_member (codes "type") ms)

-- the term of a value
abbrev pub found_term : Data → Option Term
found_term d =
    option_and_then (λ ms. term_by_type (value_in_front (codes "datatype") ms) (members_behind (codes "datatype") ms)) (as_object d)

-- the entries of a row's members
abbrev pub found_entries : Members → Option RowEntries
found_entries no_members = Some []
found_entries (member k d ms) = option_and_then (λ t. option_map (λ es. (k, t) ∷ es) (found_entries ms)) (found_term d)

-- the entries of a row's value
abbrev pub found_row : Data → Option RowEntries
found_row d = option_and_then found_entries (as_object d)

-- those of all rows of an array
abbrev pub found_rows : Items → Option (List RowEntries)
found_rows no_items = Some []
found_rows (item d ds) = option_and_then (λ row. option_map (λ rows. row ∷ rows) (found_rows ds)) (found_row d)

-- ---- replies

-- the strings of an array
abbrev pub found_texts : Items → Option (List (List ℕ))
found_texts no_items = Some []
found_texts (item d ds) = option_and_then (λ t. option_map (λ ts. t ∷ ts) (found_texts ds)) (as_str d)

-- the plan that a text decodes to, where the text is the one that is written of it
abbrev pub found_plan : List ℕ → Option (List ℕ)
found_plan text =
    option_and_then (λ plan. if bytes_eq text (encode_of url_safe_no_pad plan) then Some plan else None)
    (result_ok (decode_of url_safe_no_pad text))

-- the plan of a page, or none
abbrev pub found_next : Data → Option (Option (List ℕ))
found_next null = Some None
found_next (boolean b) = None
found_next (number n) = None
found_next (string text) = option_map Some (found_plan text)
found_next (array ds) = None
found_next (object ms) = None

-- the steps of a page, an integer of 32 bits
abbrev pub found_steps : Data → Option ℕ
found_steps d = option_and_then (λ n. if nat_lt n (2 ^ 32) then Some n else None) (option_and_then as_u64 (as_number d))

-- the members of a page whose rows, names and plan are still to be read
pub record PageMembers : Type 0 where
  pub next : Data
  pub rows : Items
  pub steps : ℕ
  pub variables : Items

-- the four members of a page
abbrev pub page_members : Members → Option PageMembers
page_members ms =
    option_and_then (λ next. let a = members_behind (codes "next") ms in
    option_and_then (λ rows. let b = members_behind (codes "rows") a in
    option_and_then (λ steps. let c = members_behind (codes "steps") b in
    option_and_then (λ variables. if are_none (members_behind (codes "vars") c)
    then Some (record { next = next; rows = rows; steps = steps; variables = variables }) else None)
    (array_member (codes "vars") c))
    (option_and_then found_steps (value_in_front (codes "steps") b)))
    (array_member (codes "rows") a))
    (value_in_front (codes "next") ms)

-- a page or a refusal, with each row as its entries
pub data Shape : Type 0 where
  page_shape : List (List ℕ) → List RowEntries → Option (List ℕ) → ℕ → Shape
  refusal_shape : List ℕ → Shape

-- the page of these members
abbrev pub found_page : PageMembers → Option Shape
found_page p =
    option_and_then (λ next. option_and_then (λ rows. option_map (λ variables. page_shape variables rows next p.steps)
    (found_texts p.variables)) (found_rows p.rows)) (found_next p.next)

-- the refusal of an object's members
abbrev pub found_refusal : Members → Option Shape
found_refusal ms =
    option_and_then (λ name. if are_none (members_behind (codes "error") ms) then Some (refusal_shape name) else None)
    (text_member (codes "error") ms)

-- the reply of an object's members: a refusal where the first is "error"
abbrev pub reply_by_members : Members → Option Shape
reply_by_members ms =
    if is_some (value_in_front (codes "error") ms) then found_refusal ms else option_and_then found_page (page_members ms)

-- the reply of a value
abbrev pub found_reply : Data → Option Shape
found_reply d = option_and_then reply_by_members (as_object d)

-- ---- requests

-- the plan of a text, or none where there is no text
abbrev pub found_next_plan : Option (List ℕ) → Option (Option (List ℕ))
found_next_plan None = Some None
found_next_plan (Some text) = option_map Some (found_plan text)

-- something is asked, and the text of its plan is no plan's
abbrev pub HasNoPlan : Option (List ℕ × Option (List ℕ)) → Type 0
HasNoPlan asked = (is_some asked ≡ true) × (option_and_then (λ p. found_next_plan p.1) asked ≡ None)
