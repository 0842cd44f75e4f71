-- The forms of pages and requests: their names rise, their numbers read back, and they are not deep.
use Rattle.std.proofs.Common.{◌≡◌, ℕ, ◌≤◌, List, [], ◌∷◌, Option, Some, None, Bool, true, false, cond, T}
use Rattle.std.proofs.Common.{Ordering, Less, Equal, Greater, refl, ◌∙◌, arith, codes}
use Rattle.std.specs.Prelude.{⊤, ◌&&◌}
use Rattle.std.specs.Str.{bytes_eq}
use Rattle.std.specs.Ordering.{nat_cmp, is_lt, ordering_reverse}
use Rattle.std.specs.Cmp.Lexicographic.{slice_cmp}
use Rattle.std.specs.FinMap.{FinMap, entries, entries_sorted}
use Rattle.std.specs.FinMap.Entries.{below_all}
use Rattle.std.proofs.lemmas.Cmp.{nat_list_cmp_total}
use Rattle.json.specs.Tree as tree
use Rattle.term_core.specs.declared.term.Term.{Term}
use Rattle.term_core.specs.declared.term.Term.TheVariants.{Iri, Blank, Literal}
use Rattle.term_core.specs.Order.{bytes_cmp}
use Rattle.term_core.specs.Rows.{RowEntries, AreSorted}
use Rattle.term_core.specs.Texts.{xsd_string}
use Rattle.serde_json.specs.Data.{Data, object, Members, no_members, member}
use Rattle.serde_json.specs.Read.{max_depth}
use Rattle.serde_json.specs.Written.{outline, items_outline, members_outline}
use Rattle.page_json.proofs.ReadsBack.{snoc, IsAbove, IsPlain, ItemsArePlain, MembersRise}
use Rattle.serde_json.proofs.Numbers.{number_of-decimal}
use Rattle.page_json.specs.declared.reply.PageReply.{PageReply}
use Rattle.page_json.specs.declared.reply.PageReply.TheVariants.{Rows, Refused}
use Rattle.page_json.specs.declared.request.PageRequest.{PageRequest}
use Rattle.page_json.specs.Requests.{request_members, request_json}
use Rattle.page_json.specs.Terms.{kind_and_value, typed_members, untagged_members, term_json, row_members, row_items}
use Rattle.page_json.specs.Replies.{text_items, next_json, reply_json, IsInRange}

pub untagged_plain : (lexical datatype : List ℕ) → bytes_eq datatype xsd_string ≡ true
    → untagged_members lexical datatype ≡ kind_and_value (codes "literal") lexical no_members
untagged_plain lexical datatype e = rw e refl

pub untagged_typed : (lexical datatype : List ℕ) → bytes_eq datatype xsd_string ≡ false
    → untagged_members lexical datatype ≡ typed_members lexical datatype
untagged_typed lexical datatype e = rw e refl

-- ---- the names of a row's entries rise

first : (a b : Bool) → T (a && b) → T a
first true b h = tt
first false b h = h

second : (a b : Bool) → T (a && b) → T b
second true b h = h
second false b h = absurd h

is_less : (o : Ordering) → T (is_lt o) → ordering_reverse o ≡ Greater
is_less Less h = refl
is_less Equal h = absurd h
is_less Greater h = absurd h

above : (k l : List ℕ) → T (is_lt (bytes_cmp k l)) → slice_cmp nat_cmp l k ≡ Greater
above k l h = nat_list_cmp_total.antisymm l k ∙ is_less (bytes_cmp k l) h

abbrev AllAbove : Members → RowEntries → Type 0
AllAbove found [] = ⊤
AllAbove found (e ∷ es) = IsAbove e.0 found × AllAbove found es

none_above : (es : RowEntries) → AllAbove no_members es
none_above [] = tt
none_above (e ∷ es) = (tt, none_above es)

above_snoc : (k l : List ℕ) (d : Data) (found : Members) → IsAbove k found → slice_cmp nat_cmp k l ≡ Greater → IsAbove k (snoc found l d)
above_snoc k l d no_members h g = (g, tt)
above_snoc k l d (member m e ms) h g = (h.0, above_snoc k l d ms h.1 g)

all_above_snoc : (k : List ℕ) (d : Data) (found : Members) (es : RowEntries) → AllAbove found es → T (below_all bytes_cmp k es)
    → AllAbove (snoc found k d) es
all_above_snoc k d found [] h b = tt
all_above_snoc k d found (e ∷ es) h b =
    (above_snoc e.0 k d found h.0 (above k e.0 (first _ _ b)), all_above_snoc k d found es h.1 (second _ _ b))

-- ---- the names of every object rise, and the numbers read back

-- the members of a literal without a tag, by whether its datatype is that of plain strings
abbrev untagged : Bool → List ℕ → List ℕ → Members
untagged b lexical datatype = cond b (kind_and_value (codes "literal") lexical no_members) (typed_members lexical datatype)

untagged_rises : (b : Bool) (lexical datatype : List ℕ) → MembersRise no_members (untagged b lexical datatype)
untagged_rises true lexical datatype = (tt, tt, ((refl, tt), tt, tt))
untagged_rises false lexical datatype = (tt, tt, ((refl, tt), tt, ((refl, (refl, tt)), tt, tt)))

term_plain : (t : Term) → IsPlain (term_json t)
term_plain (Iri iri) = (tt, tt, ((refl, tt), tt, tt))
term_plain (Blank label) = (tt, tt, ((refl, tt), tt, tt))
term_plain (Literal lexical datatype []) = untagged_rises (bytes_eq datatype xsd_string) lexical datatype
term_plain (Literal lexical datatype (b ∷ tag)) = (tt, tt, ((refl, tt), tt, ((refl, (refl, tt)), tt, tt)))

row_rises : (found : Members) (es : RowEntries) → AllAbove found es → AreSorted es → MembersRise found (row_members es)
row_rises found [] h s = tt
row_rises found (e ∷ es) h s =
    let rest = all_above_snoc e.0 (term_json e.1) found es h.1 (first _ _ s) in
    (h.0, term_plain e.1, row_rises (snoc found e.0 (term_json e.1)) es rest (second _ _ s))

rows_plain : (rows : List (FinMap bytes_cmp Term)) → ItemsArePlain (row_items rows)
rows_plain [] = tt
rows_plain (r ∷ rs) = (row_rises no_members (entries r) (none_above (entries r)) (entries_sorted r), rows_plain rs)

texts_plain : (ts : List (List ℕ)) → ItemsArePlain (text_items ts)
texts_plain [] = tt
texts_plain (t ∷ ts) = (tt, texts_plain ts)

next_plain : (next : Option (List ℕ)) → IsPlain (next_json next)
next_plain None = tt
next_plain (Some bytes) = tt

pub reply_plain : (r : PageReply) → IsInRange r → IsPlain (reply_json r)
reply_plain (Rows variables rows next steps) h =
    let number = number_of-decimal steps (omega (arith, h.1)) in
    let names = texts_plain variables in
    (tt, next_plain next, ((refl, tt), rows_plain rows, ((refl, (refl, tt)), number, ((refl, (refl, (refl, tt))), names, tt))))
reply_plain (Refused name) h = (tt, tt, tt)

-- ---- their depth

untagged_depth : (b : Bool) (lexical datatype : List ℕ)
    → tree.members_depth (members_outline (untagged b lexical datatype)) ≤ 0
untagged_depth true lexical datatype = omega arith
untagged_depth false lexical datatype = omega arith

term_depth : (t : Term) → tree.depth (outline (term_json t)) ≤ 1
term_depth (Iri iri) = omega arith
term_depth (Blank label) = omega arith
term_depth (Literal lexical datatype []) = omega (arith, untagged_depth (bytes_eq datatype xsd_string) lexical datatype)
term_depth (Literal lexical datatype (b ∷ tag)) = omega arith

row_depth : (es : RowEntries) → tree.members_depth (members_outline (row_members es)) ≤ 1
row_depth [] = omega arith
row_depth (e ∷ es) = omega (arith, term_depth e.1, row_depth es)

rows_depth : (rows : List (FinMap bytes_cmp Term)) → tree.items_depth (items_outline (row_items rows)) ≤ 2
rows_depth [] = omega arith
rows_depth (r ∷ rs) = omega (arith, row_depth (entries r), rows_depth rs)

texts_depth : (ts : List (List ℕ)) → tree.items_depth (items_outline (text_items ts)) ≤ 0
texts_depth [] = omega arith
texts_depth (t ∷ ts) = omega (arith, texts_depth ts)

next_depth : (next : Option (List ℕ)) → tree.depth (outline (next_json next)) ≤ 0
next_depth None = omega arith
next_depth (Some bytes) = omega arith

pub reply_depth : (r : PageReply) → tree.depth (outline (reply_json r)) ≤ max_depth
reply_depth (Rows variables rows next steps) = omega (arith, next_depth next, rows_depth rows, texts_depth variables)
reply_depth (Refused name) = omega arith

pub request_plain : (r : PageRequest) → IsPlain (request_json r)
request_plain r = members_plain r.next
  where
    members_plain : (next : Option (List ℕ)) → MembersRise no_members (request_members r.query next)
    members_plain None = (tt, tt, tt)
    members_plain (Some bytes) = (tt, tt, ((refl, tt), tt, tt))

pub request_depth : (r : PageRequest) → tree.depth (outline (request_json r)) ≤ max_depth
request_depth r = members_depth r.next
  where
    members_depth : (next : Option (List ℕ)) → tree.depth (outline (object (request_members r.query next))) ≤ max_depth
    members_depth None = omega arith
    members_depth (Some bytes) = omega arith
