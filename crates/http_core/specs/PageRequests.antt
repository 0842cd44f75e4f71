-- What a request for a page comes to, by the checks in their order.
use Rattle.std.specs.Prelude.{◌≡◌, ℕ, ◌==◌, ◌&&◌, not, Bool, true, false, List, [], length, take, map, Option, Some, None, if◌then◌else◌, codes, nat_lt, nat_le}
use Rattle.std.specs.Str.{bytes_eq}
use Rattle.std.specs.Str.Parse.{digits_value}
use Rattle.httparse.specs.Grammar.{RequestHead}
use Rattle.httparse.specs.Spans.{name_and_value}
use Rattle.http_core.specs.Fields.{Pair, first_value, all_are, has_value, has_field, is_number}
use Rattle.http_core.specs.Heads.{Front, IsCutInto}

-- the most bytes of a body
abbrev pub body_limit : ℕ
body_limit = 2097152

-- what a head leads to: a refusal by a status and a name, or a body of that length, before which the
-- interim reply is written or not
pub data Verdict : Type 0 where
  refuse : ℕ → List ℕ → Verdict
  await : ℕ → Bool → Verdict

-- a Content-Length stands, each is digits and the same text, and the limit is kept; the peer of HTTP/1.1
-- may expect the interim reply (RFC 9110, 10.1.1)
abbrev pub by_length : ℕ → List Pair → Option (List ℕ) → Verdict
by_length minor fields None = refuse 411 (codes "Length")
by_length minor fields (Some text) =
    if not (is_number text && all_are (codes "content-length") text fields) then refuse 400 (codes "Head")
    else if nat_lt body_limit (digits_value 10 text) then refuse 413 (codes "TooLarge")
    else await (digits_value 10 text) ((minor == 1) && has_value (codes "expect") (codes "100-continue") fields)

-- the whole target, then the method, then the length; a coded body has none
abbrev pub verdict_on : List ℕ → List ℕ → ℕ → List Pair → Verdict
verdict_on method target minor fields =
    if not (bytes_eq target (codes "/page")) then refuse 404 (codes "Path")
    else if not (bytes_eq method (codes "POST")) then refuse 405 (codes "Method")
    else if has_field (codes "transfer-encoding") fields then refuse 411 (codes "Length")
    else by_length minor fields (first_value (codes "content-length") fields)

-- the same of a head
abbrev pub verdict_of : RequestHead → Verdict
verdict_of head = verdict_on head.method head.target head.minor (map name_and_value head.fields)

-- what a request comes to: a path and a body, or a refusal by a status and a name
pub data Outcome : Type 0 where
  request : List ℕ → List ℕ → Outcome
  refused : ℕ → List ℕ → Outcome

-- exactly so many bytes behind the head are the body; what is behind them is not looked at
abbrev pub outcome_behind : List ℕ → Verdict → List ℕ → Outcome
outcome_behind target (refuse code name) rest = refused code name
outcome_behind target (await size expects) rest =
    if nat_le size (length rest) then request target (take size rest) else refused 400 (codes "Head")

-- what bytes come to that were cut so
abbrev pub outcome_of : Option Front → Outcome
outcome_of None = refused 400 (codes "Head")
outcome_of (Some front) = outcome_behind front.0.target (verdict_of front.0) front.1

-- the bytes come to that
abbrev pub ComesTo : List ℕ → Outcome → Type 0
ComesTo bytes outcome = (front : Option Front) × IsCutInto bytes front × (outcome_of front ≡ outcome)

-- what is written before the body is taken (RFC 9110, 15.2.1)
abbrev pub interim : Verdict → List ℕ
interim (refuse code name) = []
interim (await size true) = codes "HTTP/1.1 100 Continue\r\n\r\n"
interim (await size false) = []

-- the same of bytes that were cut so
abbrev pub interim_of : Option Front → List ℕ
interim_of None = []
interim_of (Some front) = interim (verdict_of front.0)
