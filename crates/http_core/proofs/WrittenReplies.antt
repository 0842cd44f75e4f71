-- The head of a reply that is written is read back.
use Rattle.std.proofs.Common.{◌≡◌, ℕ, ◌+◌, ◌<◌, ◌≤◌, ◌^◌, List, [], ◌∷◌, ◌++◌, true, Some, length, map, refl, sym, ap, ◌∙◌, arith, subst, codes, append_assoc, length-append}
use Rattle.std.specs.Prelude.{All}
use Rattle.std.specs.Fmt.{decimal}
use Rattle.std.specs.Char.{is_ascii_digit}
use Rattle.std.specs.Str.{bytes_eq}
use Rattle.std.specs.Str.Parse.{digits_value}
use Rattle.std.proofs.lemmas.Fmt.{decimal_is_IsNumeral, length-decimal-le}
use Rattle.std.proofs.lemmas.List.Elements.{All-cons, All-nil}
use Rattle.std.proofs.lemmas.List.Sums.{AllPass-from_list_all}
use Rattle.std.proofs.lemmas.Slice.Eq.{bytes_eq-Decides}
use Rattle.httparse.specs.Grammar.{Field, IsField, crlf, ResponseHead, IsResponseHead, print_response, status_code, is_value_byte, is_token_byte}
use Rattle.httparse.specs.Spans.{name_and_value}
use Rattle.httparse.proofs.GrammarLemmas.{response_unique}
use Rattle.httparse.proofs.OnLiterals.{httparse_on_literals}
use Rattle.http_core.specs.Fields.{is_number}
use Rattle.http_core.specs.Replies.{is_plain, IsReply}
use Rattle.http_core.specs.Written.{HasReason, reason_of, head_text}
use Rattle.http_core.specs.declared.reply.HttpReply.{HttpReply}
use Rattle.http_core.proofs.Decimals.{all_of_digits, is_number_of, trim_decimal, three_digits}
use Rattle.http_core.proofs.Reasons.{reason_bytes, reason_length, code_bounds}

-- the fields that are written
abbrev type_field : Field
type_field = record { name = codes "Content-Type"; raw = codes " application/json"; end = crlf }

abbrev length_field : ℕ → Field
length_field size = record { name = codes "Content-Length"; raw = 32 ∷ decimal size; end = crlf }

abbrev last_field : Field
last_field = record { name = codes "Connection"; raw = codes " close"; end = crlf }

abbrev fields_of : ℕ → List Field
fields_of size = type_field ∷ length_field size ∷ last_field ∷ []

-- the head that is written, as a tree
abbrev tree_of : ℕ → ℕ → ResponseHead
tree_of code size = record {
  blank = [];
  minor = 1;
  digits = decimal code;
  reason = Some (reason_of code);
  line_end = crlf;
  fields = fields_of size;
  last = crlf;
}

value_digit : (d : ℕ) → d < 10 → is_value_byte (48 + d) ≡ true
value_digit d lt = grind (arith, lt)

ascii_digit : (d : ℕ) → d < 10 → is_ascii_digit (48 + d) ≡ true
ascii_digit d lt = grind (arith, lt)

is_type_field : IsField type_field
unfolding httparse_on_literals
is_type_field = record {
  name = (omega arith, AllPass-from_list_all is_token_byte (codes "Content-Type") refl);
  raw = AllPass-from_list_all is_value_byte (codes " application/json") refl;
}

is_length_field : (size : ℕ) → size < 2 ^ 64 → IsField (length_field size)
unfolding httparse_on_literals
is_length_field size small = record {
  name = (omega arith, AllPass-from_list_all is_token_byte (codes "Content-Length") refl);
  raw = AllPass-from_list_all is_value_byte (32 ∷ decimal size) (all_of_digits is_value_byte value_digit size small);
}

is_last_field : IsField last_field
unfolding httparse_on_literals
is_last_field = record {
  name = (omega arith, AllPass-from_list_all is_token_byte (codes "Connection") refl);
  raw = AllPass-from_list_all is_value_byte (codes " close") refl;
}

are_fields : (size : ℕ) → size < 2 ^ 64 → All IsField (fields_of size)
are_fields size small =
    All-cons IsField type_field (length_field size ∷ last_field ∷ []) is_type_field
    (All-cons IsField (length_field size) (last_field ∷ []) (is_length_field size small)
    (All-cons IsField last_field [] is_last_field (All-nil IsField)))

is_head : (code size : ℕ) → HasReason code → size < 2 ^ 64 → IsResponseHead (tree_of code size)
is_head code size has small =
    let bounds = code_bounds code has in
    record {
      minor = omega arith;
      digits = (three_digits code bounds.0 bounds.1, AllPass-from_list_all is_ascii_digit (decimal code) (all_of_digits is_ascii_digit ascii_digit code (omega (arith, bounds.1))));
      reason = AllPass-from_list_all is_value_byte (reason_of code) (reason_bytes code);
      fields = are_fields size small;
    }

-- the print of the tree, piece by piece
abbrev pieces : ℕ → ℕ → List ℕ
pieces code size =
    codes "HTTP/1.1 " ++ (((decimal code ++ (codes " " ++ reason_of code)) ++ codes "\r\n")
    ++ (codes "Content-Type: application/json\r\nContent-Length: " ++ (((decimal size ++ codes "\r\n") ++ codes "Connection: close\r\n") ++ codes "\r\n")))

pieces_are : (code size : ℕ) → pieces code size ≡ print_response (tree_of code size)
unfolding httparse_on_literals
pieces_are code size = refl

-- the text is the print of the tree
print_is : (code size : ℕ) → head_text code size ≡ print_response (tree_of code size)
print_is code size = (simp append_assoc refl) ∙ pieces_are code size

is_short : (code size : ℕ) → HasReason code → size < 2 ^ 64 → length (head_text code size) ≤ 16384
is_short code size has small =
    let bounds = code_bounds code has in
    let three = three_digits code bounds.0 bounds.1 in
    let reason = reason_length code in
    let twenty = length-decimal-le 20 size (omega arith) (omega arith) small in
    let a : List ℕ = codes "HTTP/1.1 " ++ decimal code in
    let b : List ℕ = a ++ codes " " in
    let c : List ℕ = b ++ reason_of code in
    let d : List ℕ = c ++ codes "\r\nContent-Type: application/json\r\nContent-Length: " in
    let e : List ℕ = d ++ decimal size in
    omega (
      arith,
      three,
      reason,
      twenty,
      length-append e (codes "\r\nConnection: close\r\n\r\n"),
      length-append d (decimal size),
      length-append c (codes "\r\nContent-Type: application/json\r\nContent-Length: "),
      length-append b (reason_of code),
      length-append a (codes " "),
      length-append (codes "HTTP/1.1 ") (decimal code),
    )

plain_is : (text : List ℕ) (size : ℕ) → is_number text ≡ true → digits_value 10 text ≡ size
    → is_plain ((codes "Content-Type", codes "application/json") ∷ (codes "Content-Length", text) ∷ (codes "Connection", codes "close") ∷ []) size ≡ true
plain_is text size number value =
    let same : bytes_eq text text ≡ true = (bytes_eq-Decides text text).1 refl in
    rw (same, number, value) (grind arith)

is_plain_tree : (size : ℕ) → size < 2 ^ 64 → is_plain (map name_and_value (fields_of size)) size ≡ true
unfolding httparse_on_literals
is_plain_tree size small =
    ap (λ text. is_plain ((codes "Content-Type", codes "application/json") ∷ (codes "Content-Length", text) ∷ (codes "Connection", codes "close") ∷ []) size) (trim_decimal size small)
    ∙ plain_is (decimal size) size (is_number_of size small) (decimal_is_IsNumeral size small).1

-- a written head with a body behind it is that reply
pub written_is_reply : (code : ℕ) (reply : HttpReply) → HasReason code → reply.code ≡ code → length reply.body < 2 ^ 64
    → IsReply (head_text code (length reply.body) ++ reply.body) reply
written_is_reply code reply has is small =
    let size = length reply.body in
    record {
      head = tree_of code size;
      reads = (is_head code size has small, ap (λ text. text ++ reply.body) (print_is code size));
      short = subst (λ text. length text ≤ 16384) (print_is code size) (is_short code size has small);
      few = omega arith;
      plain = is_plain_tree size small;
      code = is ∙ sym (decimal_is_IsNumeral code (omega (arith, (code_bounds code has).1))).1;
    }

-- bytes are one reply at most
pub reply_once : (bytes : List ℕ) (a b : HttpReply) → IsReply bytes a → IsReply bytes b → a ≡ b
reply_once bytes a b x y =
    let one = response_unique bytes x.head y.head a.body b.body x.reads y.reads in
    let code : a.code ≡ b.code = x.code ∙ ap status_code one.0 ∙ sym y.code in
    ap (λ k. let made : HttpReply = record { code = k; body = a.body } in made) code
    ∙ ap (λ body. let made : HttpReply = record { code = b.code; body = body } in made) one.1
