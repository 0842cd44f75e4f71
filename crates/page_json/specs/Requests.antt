-- A request as a JSON value, and as text.
use Rattle.std.specs.Prelude.{◌≡◌, ℕ, List, Option, Some, None, option_map, option_and_then, codes, IsUtf8}
use Rattle.serde_json.specs.Data.{Members, no_members, member, Data, null, boolean, number, string, array, object}
use Rattle.serde_json.specs.Find.{get, as_str}
use Rattle.serde_json.specs.Read.{read}
use Rattle.base64.specs.Engines.{url_safe_no_pad}
use Rattle.base64.specs.GeneralPurpose.{encode_of}
use Rattle.page_json.specs.PlanTexts.{IsPlanText, IsNoPlanText}
use Rattle.page_json.specs.declared.request.PageRequest.{PageRequest}

-- the text of the plan, by the member "next": none where it is absent or null, and nothing where it is neither null nor a string
abbrev pub text_of_next : Option Data → Option (Option (List ℕ))
text_of_next None = Some None
text_of_next (Some null) = Some None
text_of_next (Some (boolean b)) = None
text_of_next (Some (number n)) = None
text_of_next (Some (string text)) = Some (Some text)
text_of_next (Some (array ds)) = None
text_of_next (Some (object ms)) = None

-- what a value asks: the query, and the text of the plan. Other members do not matter.
abbrev pub asked_by : Data → Option (List ℕ × Option (List ℕ))
asked_by d =
    option_and_then (λ query. option_map (λ text. (query, text)) (text_of_next (get (codes "next") d)))
    (option_and_then as_str (get (codes "query") d))

-- the bytes are JSON that asks with that query and that text of a plan
pub record AsksFor (body query : List ℕ) (text : Option (List ℕ)) : Type 0 where
  pub utf8 : IsUtf8 body
  pub value : option_and_then asked_by (read body) ≡ Some (query, text)

-- the plan is that of the text, or neither stands
abbrev pub IsNextText : Option (List ℕ) → Option (List ℕ) → Type 0
IsNextText None next = next ≡ None
IsNextText (Some text) next = (plan : List ℕ) × (next ≡ Some plan) × IsPlanText text plan

-- the bytes are JSON that asks for that page
abbrev pub IsRequestText : List ℕ → PageRequest → Type 0
IsRequestText body request = (text : Option (List ℕ)) × AsksFor body request.query text × IsNextText text request.next

-- the bytes ask for nothing
abbrev pub AsksNothing : List ℕ → Type 0
AsksNothing body = (query : List ℕ) (text : Option (List ℕ)) → ¬ (AsksFor body query text)

-- the bytes ask with a text that is no plan's
abbrev pub HasBadPlan : List ℕ → Type 0
HasBadPlan body = (query text : List ℕ) × AsksFor body query (Some text) × IsNoPlanText text

-- the members that are written: a plan that is not there is left out
abbrev pub request_members : List ℕ → Option (List ℕ) → Members
request_members query None = member (codes "query") (string query) no_members
request_members query (Some plan) =
    member (codes "next") (string (encode_of url_safe_no_pad plan)) (member (codes "query") (string query) no_members)

-- the value that is written of a request
abbrev pub request_json : PageRequest → Data
request_json request = object (request_members request.query request.next)
