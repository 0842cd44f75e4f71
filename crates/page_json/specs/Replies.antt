-- A reply as a JSON value, and as text.
use Rattle.std.specs.Prelude.{◌≡◌, ℕ, ◌<◌, ◌^◌, List, [], ◌∷◌, Option, Some, None, codes, IsUtf8, ⊤}
use Rattle.std.specs.FinMap.{FinMap}
use Rattle.term_core.specs.declared.term.Term.{Term}
use Rattle.term_core.specs.Order.{bytes_cmp}
use Rattle.serde_json.specs.Data.{Data, null, number, string, array, object, unsigned, Items, no_items, item, Members, no_members, member}
use Rattle.serde_json.specs.Read.{read}
use Rattle.base64.specs.Engines.{url_safe_no_pad}
use Rattle.base64.specs.GeneralPurpose.{encode_of}
use Rattle.page_json.specs.PlanTexts.{IsPlanText}
use Rattle.page_json.specs.Terms.{row_items, RowsAreTagged}
use Rattle.page_json.specs.declared.reply.PageReply.{PageReply}
use Rattle.page_json.specs.declared.reply.PageReply.TheVariants.{Rows, Refused}

-- texts as the items of an array
abbrev pub text_items : List (List ℕ) → Items
text_items [] = no_items
text_items (t ∷ ts) = item (string t) (text_items ts)

-- a suspended plan as its text, or null
abbrev pub next_json : Option (List ℕ) → Data
next_json None = null
next_json (Some plan) = string (encode_of url_safe_no_pad plan)

-- the last member of a page: the names of its columns
abbrev pub vars_member : List (List ℕ) → Members
vars_member variables = member (codes "vars") (array (text_items variables)) no_members

-- its last two members
abbrev pub steps_and_vars : ℕ → List (List ℕ) → Members
steps_and_vars steps variables = member (codes "steps") (number (unsigned steps)) (vars_member variables)

-- its last three members
abbrev pub rows_to_vars : List (FinMap bytes_cmp Term) → ℕ → List (List ℕ) → Members
rows_to_vars rows steps variables = member (codes "rows") (array (row_items rows)) (steps_and_vars steps variables)

-- the value of a page, with its four members, and of a refusal, with one
abbrev pub reply_json : PageReply → Data
reply_json (Rows variables rows next steps) = object (member (codes "next") (next_json next) (rows_to_vars rows steps variables))
reply_json (Refused name) = object (member (codes "error") (string name) no_members)

-- what is written of a plan, if there is one, is its text: it is of bytes
abbrev pub HasPlanText : Option (List ℕ) → Type 0
HasPlanText None = ⊤
HasPlanText (Some plan) = IsPlanText (encode_of url_safe_no_pad plan) plan

-- what the fields' types hold: bytes in the plan, and steps of 32 bits
abbrev pub IsInRange : PageReply → Type 0
IsInRange (Rows variables rows next steps) = HasPlanText next × (steps < 2 ^ 32)
IsInRange (Refused name) = ⊤

-- each literal of the rows has the datatype of strings with a tag exactly where it has a tag
abbrev pub LiteralsAreTagged : PageReply → Type 0
LiteralsAreTagged (Rows variables rows next steps) = RowsAreTagged rows
LiteralsAreTagged (Refused name) = ⊤

-- the bytes are JSON whose value is that of the reply
pub record IsReplyText (body : List ℕ) (reply : PageReply) : Type 0 where
  pub utf8 : IsUtf8 body
  pub value : read body ≡ Some (reply_json reply)
  pub range : IsInRange reply
  pub tagged : LiteralsAreTagged reply
