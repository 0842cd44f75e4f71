-- What stands between the marks of a token.
use Rattle.std.proofs.Common.{◌≡◌, ◌∙◌, ◌<◌, ◌+◌, ◌-◌, ℕ, true, false, List, [], ◌∷◌, ◌++◌, length, get_or, inl, inr, chars, IsUtf8, encode_utf8_all, refl, sym, ap, subst, arith, append_assoc, append-nil, length-append}
use Rattle.std.specs.Prelude.{codes, ◌==◌}
use Rattle.std.specs.Str.{IsCharBoundary, all_scalars}
use Rattle.std.proofs.Math.Seq.{take-append_seam, drop-append_seam}
use Rattle.std.proofs.Math.Utf8.{encode}
use Rattle.std.proofs.lemmas.Bool.Decides.{nat_tests}
use Rattle.std.proofs.lemmas.Str.{encodes-append, encodes-chars, scalars-chars, chars-encodes, IsCharBoundary-at_seam, char_from_byte, length-encode, len_utf8_bounds}
use Rattle.term_core.specs.Characters.{is_among}
use Rattle.term_core.specs.Escapes.{IsEscaped, nothing, character, escape, IsStringEscape}
use Rattle.term_core.specs.Terminals.{IsIri, IsBlank, IsVariable, IsLanguage, IsShortString, IsLongString, is_plain_in, is_quote, IsToken}
use Rattle.term_core.specs.declared.token.Kind.TheVariants as kinds
use Rattle.sparql_lex.proofs.Bools.{among, false_of, same}
use Rattle.sparql_symbol.specs.Reading.{IsFramed, within, is_long, quotes_of}

-- ---- characters and bytes

pub scalars-front : (xs ys : List ℕ) → all_scalars (xs ++ ys) ≡ true → all_scalars xs ≡ true
scalars-front [] ys h = refl
scalars-front (x ∷ xs) ys h = grind (arith, scalars-front xs ys)

pub scalars-behind : (xs ys : List ℕ) → all_scalars (xs ++ ys) ≡ true → all_scalars ys ≡ true
scalars-behind [] ys h = h
scalars-behind (x ∷ xs) ys h = grind (arith, scalars-behind xs ys)

-- the bytes of three texts, one behind another
bytes-of : (text front body back : List ℕ) → IsUtf8 text → chars text ≡ front ++ (body ++ back)
    → text ≡ encode_utf8_all front ++ (encode_utf8_all body ++ encode_utf8_all back)
bytes-of text front body back utf8 e =
    sym (encodes-chars text utf8) ∙ (ap encode_utf8_all e ∙ (encodes-append front (body ++ back) ∙ ap (λ bs. encode_utf8_all front ++ bs) (encodes-append body back)))

within-is : (front body back : List ℕ) → within (length front) (length back) (front ++ (body ++ back)) ≡ body
within-is front body back =
    let size : (length (front ++ (body ++ back)) - length back) - length front ≡ length body = omega (arith, length-append front (body ++ back), length-append body back) in
    rw (size, drop-append_seam) (take-append_seam body back)

-- a text with so many bytes on both sides of this
pub record Framed (text : List ℕ) (m n : ℕ) (body : List ℕ) : Type 0 where
  pub frame : IsFramed text m n
  pub inner : within m n text ≡ encode_utf8_all body
  pub characters : chars (within m n text) ≡ body

-- marks on both sides, of so many bytes
pub framed : (text front body back : List ℕ) (m n : ℕ) → IsUtf8 text → chars text ≡ front ++ (body ++ back)
    → length (encode_utf8_all front) ≡ m → length (encode_utf8_all back) ≡ n → Framed text m n body
framed text front body back m n utf8 e p q =
    let bytes = bytes-of text front body back utf8 e in
    let scalars : all_scalars (front ++ (body ++ back)) ≡ true = ap all_scalars (sym e) ∙ scalars-chars text utf8 in
    let rest = scalars-behind front (body ++ back) scalars in
    let sizes : length text ≡ m + (length (encode_utf8_all body) + n) = ap length bytes ∙ omega (arith, p, q, length-append (encode_utf8_all front) (encode_utf8_all body ++ encode_utf8_all back), length-append (encode_utf8_all body) (encode_utf8_all back)) in
    let inner : within m n text ≡ encode_utf8_all body = rw (bytes, ← p, ← q) (within-is (encode_utf8_all front) (encode_utf8_all body) (encode_utf8_all back)) in
    let late : text ≡ (encode_utf8_all front ++ encode_utf8_all body) ++ encode_utf8_all back = bytes ∙ sym (append_assoc (encode_utf8_all front) (encode_utf8_all body) (encode_utf8_all back)) in
    let place : length (encode_utf8_all front ++ encode_utf8_all body) ≡ length text - n = omega (arith, sizes, p, length-append (encode_utf8_all front) (encode_utf8_all body)) in
    record {
      frame = record {
        order = omega (arith, sizes);
        begins = subst (IsCharBoundary text) p (IsCharBoundary-at_seam text (encode_utf8_all front) (encode_utf8_all body ++ encode_utf8_all back) bytes
            (body ++ back, (rest, encodes-append body back)));
        ends = subst (IsCharBoundary text) place (IsCharBoundary-at_seam text (encode_utf8_all front ++ encode_utf8_all body) (encode_utf8_all back) late
            (back, (scalars-behind body back rest, refl)));
      };
      inner = inner;
      characters = ap chars inner ∙ chars-encodes body (scalars-front body back rest);
    }

-- ---- the kinds of tokens

pub iri-framed : (text : List ℕ) → IsUtf8 text → (h : IsIri (chars text)) → Framed text 1 1 h.body
unfolding encode
iri-framed text utf8 h = framed text (60 ∷ []) h.body (62 ∷ []) 1 1 utf8 h.spelled refl refl

pub blank-framed : (text : List ℕ) → IsUtf8 text → (h : IsBlank (chars text)) → Framed text 2 0 h.label
unfolding encode
blank-framed text utf8 h = framed text (95 ∷ 58 ∷ []) h.label [] 2 0 utf8 (h.spelled ∙ ap (λ t. 95 ∷ 58 ∷ t) (sym (append-nil h.label))) refl refl

pub language-framed : (text : List ℕ) → IsUtf8 text → (h : IsLanguage (chars text)) → Framed text 1 0 h.tag
unfolding encode
language-framed text utf8 h = framed text (64 ∷ []) h.tag [] 1 0 utf8 (h.spelled ∙ ap (λ t. 64 ∷ t) (sym (append-nil h.tag))) refl refl

mark-small : (mark : ℕ) → is_among (codes "?$") mark ≡ true → length (encode_utf8_all (mark ∷ [])) ≡ 1
unfolding encode
mark-small mark h = among (λ v. length (encode_utf8_all (v ∷ [])) ≡ 1) (codes "?$") mark (refl, (refl, tt)) h

pub variable-framed : (text : List ℕ) → IsUtf8 text → (h : IsVariable (chars text)) → Framed text 1 0 (h.first ∷ h.more)
unfolding encode
variable-framed text utf8 h =
    framed text (h.mark ∷ []) (h.first ∷ h.more) [] 1 0 utf8 (h.spelled ∙ ap (λ t. h.mark ∷ h.first ∷ t) (sym (append-nil h.more))) (mark-small h.mark h.is_mark) refl

-- a quote is one byte, and no backslash
pub record Quote (quote : ℕ) : Type 0 where
  pub one : encode quote ≡ quote ∷ []
  pub small : quote < 128
  pub other : quote ≡ 92 → ⊥

pub quote-is : (quote : ℕ) → is_quote quote ≡ true → Quote quote
unfolding encode
quote-is quote h = among Quote (codes "\"'") quote (record { one = refl; small = omega arith; other = λ e. absurd (omega arith) }, (record { one = refl; small = omega arith; other = λ e. absurd (omega arith) }, tt)) h

-- two bytes that differ open no long string
not-long : (quote : ℕ) (bytes : List ℕ) → (get_or bytes 0 0 ≡ quote → ⊥) → is_long (quote ∷ bytes) ≡ false
not-long quote [] h = refl
not-long quote (b ∷ []) h = refl
not-long quote (b ∷ c ∷ bytes) h = let other : (quote == b) ≡ false = false_of (quote == b) (λ e. h (sym (same quote b e))) in rw other refl

-- an escape begins with a backslash
escape-first : (text : List ℕ) (c : ℕ) → IsStringEscape text c → (more : List ℕ) × (text ≡ 92 ∷ more)
escape-first text c (inl h) = elim h.spelled [ inl short ↦ (117 ∷ h.digits, short.0) | inr long ↦ (85 ∷ h.digits, long.0) ]
escape-first text c (inr h) = (h.letter ∷ [], h.spelled)

-- no short string begins with its quote
short-first : (quote : ℕ) {body value : List ℕ} → Quote quote → IsEscaped (is_plain_in quote) IsStringEscape body value
    → (c : ℕ) (more : List ℕ) → body ≡ c ∷ more → c ≡ quote → ⊥
short-first quote q nothing c more e s = absurd cc
short-first quote q (character {c = d} p h) c more e s =
    let first : d ≡ c = ap (λ t. get_or t 0 0) e in
    let quoted : (d == quote) ≡ true = grind (arith, nat_tests) in
    let no : is_plain_in quote d ≡ false = rw quoted refl in
    absurd cc
short-first quote q (escape {c = d} {escape = f} {text} p h) c more e s =
    let begun = escape-first f d p in
    let first : 92 ≡ c = sym (ap (λ t. get_or (t ++ text) 0 0) begun.1) ∙ ap (λ t. get_or t 0 0) e in
    q.other (sym s ∙ sym first)

-- a short string is no long one
short-open : (quote : ℕ) (body value : List ℕ) → Quote quote → IsEscaped (is_plain_in quote) IsStringEscape body value
    → is_long (encode quote ++ encode_utf8_all (body ++ quote ∷ [])) ≡ false
short-open quote [] value q h = rw q.one refl
short-open quote (c ∷ body) value q h =
    rw q.one (not-long quote (encode c ++ encode_utf8_all (body ++ quote ∷ [])) (λ e.
    let some : 0 < length (encode c ++ encode_utf8_all (body ++ quote ∷ [])) = omega (arith, length-append (encode c) (encode_utf8_all (body ++ quote ∷ [])), length-encode c, len_utf8_bounds c) in
    let small : get_or (encode c ++ encode_utf8_all (body ++ quote ∷ [])) 0 0 < 128 = omega (arith, e, q.small) in
    short-first quote q h c body refl (char_from_byte (encode c ++ encode_utf8_all (body ++ quote ∷ [])) (encode_utf8_all (body ++ quote ∷ [])) c refl small some ∙ e)))

-- what stands between the quotes of a string, and what it spells
pub record StringFramed (text : List ℕ) (body : List ℕ) : Type 0 where
  pub quotes : ℕ
  pub is : quotes_of text ≡ quotes
  pub framed : Framed text quotes quotes body

pub short-framed : (text : List ℕ) → IsUtf8 text → (h : IsShortString (chars text)) → StringFramed text h.body
short-framed text utf8 h =
    let q = quote-is h.quote h.quotes in
    let bytes : text ≡ encode h.quote ++ encode_utf8_all (h.body ++ h.quote ∷ []) = sym (encodes-chars text utf8) ∙ ap encode_utf8_all h.spelled in
    let open' : is_long text ≡ false = ap is_long bytes ∙ short-open h.quote h.body h.value q h.is_body in
    let one : length (encode_utf8_all (h.quote ∷ [])) ≡ 1 = rw q.one refl in
    record { quotes = 1; is = rw open' refl; framed = framed text (h.quote ∷ []) h.body (h.quote ∷ []) 1 1 utf8 h.spelled one one }

long-open : (quote : ℕ) (rest : List ℕ) → Quote quote → is_long (encode quote ++ (encode quote ++ (encode quote ++ rest))) ≡ true
long-open quote rest q = let itself : (quote == quote) ≡ true = grind (arith, nat_tests) in rw (q.one, itself) refl

pub long-framed : (text : List ℕ) → IsUtf8 text → (h : IsLongString (chars text)) → StringFramed text h.body
long-framed text utf8 h =
    let q = quote-is h.quote h.quotes in
    let three = h.quote ∷ h.quote ∷ h.quote ∷ [] in
    let bytes : text ≡ encode h.quote ++ (encode h.quote ++ (encode h.quote ++ encode_utf8_all (h.body ++ three))) = sym (encodes-chars text utf8) ∙ ap encode_utf8_all h.spelled in
    let open' : is_long text ≡ true = ap is_long bytes ∙ long-open h.quote (encode_utf8_all (h.body ++ three)) q in
    let size : length (encode_utf8_all (h.quote ∷ h.quote ∷ h.quote ∷ [])) ≡ 3 = rw q.one refl in
    record { quotes = 3; is = rw open' refl; framed = framed text three h.body three 3 3 utf8 h.spelled size size }

pub string-frame : (text : List ℕ) → IsUtf8 text → IsToken kinds.String (chars text) → IsFramed text (quotes_of text) (quotes_of text)
string-frame text utf8 (inl h) = let f = short-framed text utf8 h in rw f.is f.framed.frame
string-frame text utf8 (inr h) = let f = long-framed text utf8 h in rw f.is f.framed.frame
