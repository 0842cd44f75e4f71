-- Replies in JSON values, against their form.
use Rattle.std.proofs.Common.{◌≡◌, ℕ, ◌<◌, ◌^◌, List, [], ◌∷◌, Option, Some, None, option_and_then, Bool, true, false, cond, refl, ap, ap₂}
use Rattle.std.proofs.Common.{subst, ◌∙◌, codes, lt-ltb}
use Rattle.std.specs.Prelude.{⊤}
use Rattle.std.specs.FinMap.{FinMap}
use Rattle.std.proofs.lemmas.Option.{same_Some}
use Rattle.term_core.specs.declared.term.Term.{Term}
use Rattle.term_core.specs.Order.{bytes_cmp}
use Rattle.term_core.specs.Rows.{RowEntries}
use Rattle.serde_json.specs.Data.{Data, number, string, array, object, unsigned, Items, no_items, item, Members, no_members, member}
use Rattle.serde_json.specs.Find.{as_str, as_object, as_array}
use Rattle.page_json.specs.declared.reply.PageReply.{PageReply}
use Rattle.page_json.specs.declared.reply.PageReply.TheVariants.{Rows, Refused}
use Rattle.page_json.specs.Terms.{RowsAreTagged}
use Rattle.page_json.specs.Replies.{text_items, reply_json, HasPlanText, IsInRange, LiteralsAreTagged}
use Rattle.page_json.specs.Reading.{value_in_front, members_behind, are_none, text_member, found_texts, found_rows, found_next, found_steps}
use Rattle.page_json.specs.Reading.{PageMembers, page_members, found_page, found_refusal, reply_by_members, found_reply, Shape, page_shape}
use Rattle.page_json.specs.Reading.{refusal_shape}
use Rattle.page_json.specs.Views.{rows_entries, reply_shape}
use Rattle.page_json.proofs.Fronts.{some_from, some_map}
use Rattle.page_json.proofs.PlanTexts.{next_back, next_sound}
use Rattle.page_json.proofs.Terms.{rows_back, rows_sound, rows_same}
use Rattle.page_json.proofs.Values.{if_some, str_shape, object_shape, array_shape, first_shape, none_left, text_shape, steps_sound}

-- what holds of a reply that is read
abbrev pub IsWhole : PageReply → Type 0
IsWhole (Rows variables rows next steps) = RowsAreTagged rows × HasPlanText next × (steps < 2 ^ 32)
IsWhole (Refused name) = ⊤

pub whole_of : (r : PageReply) → IsInRange r → LiteralsAreTagged r → IsWhole r
whole_of (Rows variables rows next steps) h t = (t, h.0, h.1)
whole_of (Refused name) h t = tt

pub range_of : (r : PageReply) → IsWhole r → IsInRange r
range_of (Rows variables rows next steps) h = (h.1, h.2)
range_of (Refused name) h = tt

pub tagged_of : (r : PageReply) → IsWhole r → LiteralsAreTagged r
tagged_of (Rows variables rows next steps) h = h.0
tagged_of (Refused name) h = tt

-- ---- what is of the form is read

texts_back : (ts : List (List ℕ)) → found_texts (text_items ts) ≡ Some ts
texts_back [] = refl
texts_back (t ∷ ts) = rw (texts_back ts) refl

pub reply_back : (r : PageReply) → IsWhole r → found_reply (reply_json r) ≡ Some (reply_shape r)
reply_back (Rows variables rows next steps) h =
    rw (lt-ltb steps (2 ^ 32) h.2) (rw (next_back next h.1, rows_back rows h.0, texts_back variables) refl)
reply_back (Refused name) h = refl

-- ---- what is read is of the form

text_items_sound : (ds : Items) (ts : List (List ℕ)) → found_texts ds ≡ Some ts → ds ≡ text_items ts
text_items_sound no_items ts e = ap text_items (same_Some [] ts e)
text_items_sound (item d ds) ts e =
    let t = some_from _ (as_str d) ts e in
    let r = some_map _ (found_texts ds) ts t.2 in
    ap₂ item (str_shape d t.0 t.1) (text_items_sound ds r.0 r.1) ∙ ap text_items r.2

-- a page's four members
abbrev four_members : Data → Items → ℕ → Items → Members
four_members next rows steps variables =
    member (codes "next") next (member (codes "rows") (array rows)
    (member (codes "steps") (number (unsigned steps)) (member (codes "vars") (array variables) no_members)))

abbrev AreFour : Members → PageMembers → Type 0
AreFour ms p = (ms ≡ four_members p.next p.rows p.steps p.variables) × (p.steps < 2 ^ 32)

-- one after the other
members_sound : (ms : Members) (p : PageMembers) → page_members ms ≡ Some p → AreFour ms p
members_sound ms p e =
    let n = some_from _ (value_in_front (codes "next") ms) p e in
    let a = members_behind (codes "next") ms in
    let rd = some_from _ (option_and_then as_array (value_in_front (codes "rows") a)) p n.2 in
    let b = members_behind (codes "rows") a in
    let sd = some_from _ (option_and_then found_steps (value_in_front (codes "steps") b)) p rd.2 in
    let c = members_behind (codes "steps") b in
    let vd = some_from _ (option_and_then as_array (value_in_front (codes "vars") c)) p sd.2 in
    let last = if_some (are_none (members_behind (codes "vars") c)) _ p vd.2 in
    let r = some_from as_array (value_in_front (codes "rows") a) rd.0 rd.1 in
    let s = some_from found_steps (value_in_front (codes "steps") b) sd.0 sd.1 in
    let v = some_from as_array (value_in_front (codes "vars") c) vd.0 vd.1 in
    let steps = steps_sound s.0 sd.0 s.2 in
    let end = first_shape (codes "vars") v.0 c v.1 ∙ ap₂ (member (codes "vars")) (array_shape v.0 vd.0 v.2) (none_left _ last.0) in
    let from_steps = first_shape (codes "steps") s.0 b s.1 ∙ ap₂ (member (codes "steps")) steps.0 end in
    let from_rows = first_shape (codes "rows") r.0 a r.1 ∙ ap₂ (member (codes "rows")) (array_shape r.0 rd.0 r.2) from_steps in
    subst (AreFour ms) last.1 (first_shape (codes "next") n.0 ms n.1 ∙ ap (member (codes "next") n.0) from_rows, steps.1)

shape_vars : Shape → List (List ℕ)
shape_vars (page_shape vs rs n k) = vs
shape_vars (refusal_shape s) = []

shape_rows : Shape → List RowEntries
shape_rows (page_shape vs rs n k) = rs
shape_rows (refusal_shape s) = []

shape_next : Shape → Option (List ℕ)
shape_next (page_shape vs rs n k) = n
shape_next (refusal_shape s) = None

shape_steps : Shape → ℕ
shape_steps (page_shape vs rs n k) = k
shape_steps (refusal_shape s) = 0

shape_name : Shape → List ℕ
shape_name (page_shape vs rs n k) = []
shape_name (refusal_shape s) = s

abbrev IsFormed : Members → PageReply → Type 0
IsFormed ms r = (object ms ≡ reply_json r) × IsWhole r

page_sound : (ms : Members) (variables : List (List ℕ)) (rows : List (FinMap bytes_cmp Term)) (next : Option (List ℕ)) (steps : ℕ)
    → option_and_then found_page (page_members ms) ≡ Some (page_shape variables (rows_entries rows) next steps)
    → IsFormed ms (Rows variables rows next steps)
unfolding shape_vars shape_rows shape_next shape_steps
page_sound ms variables rows next steps e =
    let whole = page_shape variables (rows_entries rows) next steps in
    let p = some_from found_page (page_members ms) whole e in
    let n = some_from _ (found_next p.0.next) whole p.2 in
    let r = some_from _ (found_rows p.0.rows) whole n.2 in
    let v = some_map _ (found_texts p.0.variables) whole r.2 in
    let form = members_sound ms p.0 p.1 in
    let plan = next_sound p.0.next next (n.1 ∙ ap Some (ap shape_next v.2)) in
    let each = rows_sound p.0.rows rows (r.1 ∙ ap Some (ap shape_rows v.2)) in
    let names = text_items_sound p.0.variables variables (v.1 ∙ ap Some (ap shape_vars v.2)) in
    let same : p.0.steps ≡ steps = ap shape_steps v.2 in (
      ap object (form.0 ∙ (λ i. four_members (plan.0 i) (each.0 i) (same i) (names i))),
      (each.1, plan.1, subst (λ k. k < 2 ^ 32) same form.1),
    )

refusal_sound : (ms : Members) (name : List ℕ) → found_refusal ms ≡ Some (refusal_shape name) → object ms ≡ reply_json (Refused name)
unfolding shape_name
refusal_sound ms name e =
    let n = some_from _ (text_member (codes "error") ms) (refusal_shape name) e in
    let p = if_some (are_none (members_behind (codes "error") ms)) _ (refusal_shape name) n.2 in
    let only = ap₂ (λ s rest. member (codes "error") (string s) rest) (ap shape_name p.1) (none_left _ p.0) in
    ap object (text_shape (codes "error") n.0 ms n.1 ∙ only)

members_are_formed : (b : Bool) (ms : Members) (r : PageReply)
    → cond b (found_refusal ms) (option_and_then found_page (page_members ms)) ≡ Some (reply_shape r) → IsFormed ms r
members_are_formed true ms (Refused name) e = (refusal_sound ms name e, tt)
members_are_formed false ms (Rows variables rows next steps) e = page_sound ms variables rows next steps e
members_are_formed true ms (Rows variables rows next steps) e =
    let n = some_from _ (text_member (codes "error") ms) (reply_shape (Rows variables rows next steps)) e in
    let p = if_some (are_none (members_behind (codes "error") ms)) _ (reply_shape (Rows variables rows next steps)) n.2 in
    absurd (let q = p.1 in cc)
members_are_formed false ms (Refused name) e =
    let p = some_from found_page (page_members ms) (refusal_shape name) e in
    let n = some_from _ (found_next p.0.next) (refusal_shape name) p.2 in
    let r = some_from _ (found_rows p.0.rows) (refusal_shape name) n.2 in
    let v = some_map _ (found_texts p.0.variables) (refusal_shape name) r.2 in
    absurd (let q = v.2 in cc)

pub reply_sound : (d : Data) (r : PageReply) → found_reply d ≡ Some (reply_shape r) → (d ≡ reply_json r) × IsWhole r
reply_sound d r e =
    let o = some_from reply_by_members (as_object d) (reply_shape r) e in
    let s = members_are_formed _ o.0 r o.2 in
    (object_shape d o.0 o.1 ∙ s.0, s.1)

-- ---- one shape, one reply

pub shape_same : (r q : PageReply) → reply_shape r ≡ reply_shape q → r ≡ q
unfolding shape_vars shape_rows shape_next shape_steps shape_name
shape_same (Rows va ra na ka) (Rows vb rb nb kb) e =
    let rows = rows_same ra rb (ap shape_rows e) in λ i. Rows (shape_vars (e i)) (rows i) (shape_next (e i)) (shape_steps (e i))
shape_same (Refused a) (Refused b) e = ap Refused (ap shape_name e)
shape_same (Rows va ra na ka) (Refused b) e = absurd (cc)
shape_same (Refused a) (Rows vb rb nb kb) e = absurd (cc)
