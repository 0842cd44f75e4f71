-- A reply: a head within the limits and, to the end of the bytes, its body (RFC 9112, 6.3).
use Rattle.std.specs.Prelude.{◌≡◌, ℕ, ◌≤◌, ◌==◌, ◌&&◌, not, Bool, true, List, length, map, Option, Some, None, codes}
use Rattle.std.specs.Str.Parse.{digits_value}
use Rattle.httparse.specs.Grammar.{ResponseHead, print_response, ReadsResponse, status_code}
use Rattle.httparse.specs.Spans.{name_and_value}
use Rattle.http_core.specs.Heads.{head_limit, field_limit}
use Rattle.http_core.specs.Fields.{Pair, first_value, all_are, has_field, is_number}
use Rattle.http_core.specs.declared.reply.HttpReply.{HttpReply}

-- the body is as long as each Content-Length says, where one stands
abbrev pub fits_length : List Pair → Option (List ℕ) → ℕ → Bool
fits_length fields None size = true
fits_length fields (Some text) size =
    all_are (codes "content-length") text fields && (is_number text && (digits_value 10 text == size))

-- the body is not coded, and fits the lengths
abbrev pub is_plain : List Pair → ℕ → Bool
is_plain fields size =
    not (has_field (codes "transfer-encoding") fields) && (not (has_field (codes "content-encoding") fields)
    && fits_length fields (first_value (codes "content-length") fields) size)

-- the bytes are that reply
pub record IsReply (bytes : List ℕ) (reply : HttpReply) : Type 0 where
  pub head : ResponseHead
  pub reads : ReadsResponse bytes head reply.body
  pub short : length (print_response head) ≤ head_limit
  pub few : length head.fields ≤ field_limit
  pub plain : is_plain (map name_and_value head.fields) (length reply.body) ≡ true
  pub code : reply.code ≡ status_code head
