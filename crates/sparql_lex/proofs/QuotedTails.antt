-- What the states of IRIs and strings read is an IRI or a string.
use Rattle.std.proofs.Common.{◌≡◌, ◌⊎◌, inl, inr, ℕ, zero, suc, ◌-◌, ◌<◌, ◌≤◌, true, List, [], ◌∷◌, ◌++◌, length, append_assoc, Some, refl, sym, ap, ◌∙◌, arith}
use Rattle.std.specs.Prelude.{◌==◌, ◌&&◌, not, nat_lt, codes}
use Rattle.std.proofs.lemmas.Bool.Decides.{nat_tests}
use lib.Utf8.{scalar}
use Rattle.term_core.specs.declared.token.Kind.{Kind}
use Rattle.term_core.specs.declared.token.Kind.TheVariants as kinds
use Rattle.sparql_lex.specs.declared.state.State.TheVariants as states
use Rattle.sparql_lex.specs.declared.state.Body.{Body}
use Rattle.sparql_lex.specs.declared.state.Body.TheVariants as bodies
use Rattle.sparql_lex.specs.declared.state.Quoted.{Quoted}
use Rattle.sparql_lex.specs.declared.state.Quoted.TheVariants as quoted
use Rattle.term_core.specs.Characters.{is_hex, is_iri, is_among, AreAll}
use Rattle.term_core.specs.Escapes.{hex_onto, hex_number, IsUchar, IsEchar, echar_value, IsEscaped, IsIriEscape, IsStringEscape, IsIriBody}
use Rattle.term_core.specs.Escapes as escapes
use Rattle.term_core.specs.Terminals.{IsIri, IsShortString, IsLongString, IsLongBody, is_quote, is_plain_in, is_long_plain}
use Rattle.term_core.specs.Terminals as terminals
use Rattle.sparql_lex.specs.Steps.{step, quoted_rows, may_spell, is_echar, with_digit, is_next}
use Rattle.sparql_lex.proofs.Bools.{both, same, among, all-one}
use Rattle.sparql_lex.proofs.NameStates.{some_kind, put}
use Rattle.sparql_lex.proofs.Reading.{reads, read-cases}

-- an escape of the body, and the character that it spells
abbrev pub BodyEscape : Body → List ℕ → ℕ → Type 0
BodyEscape bodies.Iri escape c = IsIriEscape escape c
BodyEscape _ escape c = IsStringEscape escape c

-- what may follow in each body up to its end
pub record IriTail (text : List ℕ) : Type 0 where
  pub body : List ℕ
  pub iri : List ℕ
  pub is_body : IsIriBody body iri
  pub spelled : text ≡ body ++ 62 ∷ []

pub record ShortTail (quote : ℕ) (text : List ℕ) : Type 0 where
  pub body : List ℕ
  pub value : List ℕ
  pub is_body : IsEscaped (is_plain_in quote) IsStringEscape body value
  pub spelled : text ≡ body ++ quote ∷ []

pub record LongTail (quote : ℕ) (text : List ℕ) : Type 0 where
  pub body : List ℕ
  pub value : List ℕ
  pub is_body : IsLongBody quote 0 body value
  pub spelled : text ≡ body ++ quote ∷ quote ∷ quote ∷ []

abbrev pub InsideTail : Body → Kind → List ℕ → Type 0
InsideTail bodies.Iri kind text = (kind ≡ kinds.Iri) × IriTail text
InsideTail (bodies.Short quote) kind text = (kind ≡ kinds.String) × ShortTail quote text
InsideTail (bodies.Long quote) kind text = (kind ≡ kinds.String) × LongTail quote text

pub record BackslashTail (body : Body) (kind : Kind) (text : List ℕ) : Type 0 where
  pub escape : List ℕ
  pub value : ℕ
  pub rest : List ℕ
  pub is_escape : BodyEscape body (92 ∷ escape) value
  pub spelled : text ≡ escape ++ rest
  pub behind : InsideTail body kind rest

pub record DigitsTail (body : Body) (left value : ℕ) (kind : Kind) (text : List ℕ) : Type 0 where
  pub digits : List ℕ
  pub rest : List ℕ
  pub count : length digits ≡ left
  pub are_hex : AreAll is_hex digits
  pub may : may_spell body (hex_onto value digits) ≡ true
  pub spelled : text ≡ digits ++ rest
  pub behind : InsideTail body kind rest

pub record LongBehind (quote : ℕ) (text : List ℕ) : Type 0 where
  pub rest : List ℕ
  pub tail : LongTail quote rest
  pub spelled : text ≡ quote ∷ rest

-- what may follow in each state, up to a token of the kind
abbrev pub QuotedTail : Quoted → Kind → List ℕ → Type 0
QuotedTail quoted.Less kind text = ((kind ≡ kinds.Sign) × ((text ≡ []) ⊎ (text ≡ 61 ∷ []))) ⊎ InsideTail bodies.Iri kind text
QuotedTail quoted.LessEqual kind text = ((kind ≡ kinds.Sign) × (text ≡ [])) ⊎ InsideTail bodies.Iri kind text
QuotedTail (quoted.Quote quote) kind text = (kind ≡ kinds.String) × (ShortTail quote text ⊎ ((rest : List ℕ) × LongBehind quote rest × (text ≡ quote ∷ rest)))
QuotedTail (quoted.TwoQuotes quote) kind text = (kind ≡ kinds.String) × ((text ≡ []) ⊎ LongBehind quote text)
QuotedTail (quoted.Inside body) kind text = InsideTail body kind text
QuotedTail (quoted.OneInside quote) kind text = (kind ≡ kinds.String) × LongTail quote (quote ∷ text)
QuotedTail (quoted.TwoInside quote) kind text = (kind ≡ kinds.String) × LongTail quote (quote ∷ quote ∷ text)
QuotedTail (quoted.Backslash body) kind text = BackslashTail body kind text
QuotedTail (quoted.Digits body left value) kind text = 0 < left → DigitsTail body left value kind text
QuotedTail (quoted.End other) kind text = (kind ≡ other) × (text ≡ [])

-- the letters of escapes
letter-echar : (c : ℕ) → is_among (codes "tbnrf\"'\\") c ≡ true → (value : ℕ) × (echar_value c ≡ Some value)
letter-echar c h = among (λ v. (value : ℕ) × (echar_value v ≡ Some value)) (codes "tbnrf\"'\\") c
    ((9, refl), ((8, refl), ((10, refl), ((13, refl), ((12, refl), ((34, refl), ((39, refl), ((92, refl), tt)))))))) h

-- in an IRI
iri-plain : (c : ℕ) (text : List ℕ) (kind : Kind) → is_iri c ≡ true → InsideTail bodies.Iri kind text → InsideTail bodies.Iri kind (c ∷ text)
iri-plain c text kind h t = let r = t.1 in
    (t.0, record { body = c ∷ r.body; iri = c ∷ r.iri; is_body = escapes.character h r.is_body; spelled = ap (λ v. c ∷ v) r.spelled })

iri-end : (c : ℕ) (text : List ℕ) (kind : Kind) → (c == 62) ≡ true → (kind ≡ kinds.Iri) × (text ≡ []) → InsideTail bodies.Iri kind (c ∷ text)
iri-end c text kind h t = let first : c ≡ 62 = same c 62 h in let none : text ≡ [] = t.1 in
    (t.0, record { body = []; iri = []; is_body = escapes.nothing; spelled = cc })

iri-escape : (c : ℕ) (text : List ℕ) (kind : Kind) → (c == 92) ≡ true → BackslashTail bodies.Iri kind text → InsideTail bodies.Iri kind (c ∷ text)
iri-escape c text kind h t =
    let r = t.behind.1 in
    let first : c ≡ 92 = same c 92 h in (
      t.behind.0,
      record {
        body = (92 ∷ t.escape) ++ r.body;
        iri = t.value ∷ r.iri;
        is_body = escapes.escape t.is_escape r.is_body;
        spelled = ap (λ v. v ∷ text) first ∙ ap (λ v. 92 ∷ v) (t.spelled ∙ ap (λ v. t.escape ++ v) r.spelled ∙ sym (append_assoc t.escape r.body (62 ∷ [])));
      },
    )

-- in a string between two quotes
short-plain : (quote c : ℕ) (text : List ℕ) → is_plain_in quote c ≡ true → ShortTail quote text → ShortTail quote (c ∷ text)
short-plain quote c text h r = record { body = c ∷ r.body; value = c ∷ r.value; is_body = escapes.character h r.is_body; spelled = ap (λ v. c ∷ v) r.spelled }

short-end : (quote c : ℕ) (text : List ℕ) → (c == quote) ≡ true → text ≡ [] → ShortTail quote (c ∷ text)
short-end quote c text h none = let first : c ≡ quote = same c quote h in record { body = []; value = []; is_body = escapes.nothing; spelled = cc }

short-escape : (quote c : ℕ) (text : List ℕ) (kind : Kind) → (c == 92) ≡ true → BackslashTail (bodies.Short quote) kind text → ShortTail quote (c ∷ text)
short-escape quote c text kind h t =
    let r = t.behind.1 in
    let first : c ≡ 92 = same c 92 h in
    record {
      body = (92 ∷ t.escape) ++ r.body;
      value = t.value ∷ r.value;
      is_body = escapes.escape t.is_escape r.is_body;
      spelled = ap (λ v. v ∷ text) first ∙ ap (λ v. 92 ∷ v) (t.spelled ∙ ap (λ v. t.escape ++ v) r.spelled ∙ sym (append_assoc t.escape r.body (quote ∷ [])));
    }

-- in a long string: a character behind so many quotes in a row
abbrev quotes : ℕ → ℕ → List ℕ → List ℕ
quotes quote zero text = text
quotes quote (suc n) text = quote ∷ quotes quote n text

row-body : (quote n : ℕ) (body value : List ℕ) → n ≤ 2 → IsLongBody quote n body value → IsLongBody quote 0 (quotes quote n body) (quotes quote n value)
row-body quote zero body value h k = k
row-body quote (suc zero) body value h k = terminals.one_quote (omega arith) k
row-body quote (suc (suc zero)) body value h k = terminals.one_quote (omega arith) (terminals.one_quote (omega arith) k)
row-body quote (suc (suc (suc n))) body value h k = absurd (omega arith)

quotes-append : (quote n : ℕ) (a b : List ℕ) → quotes quote n (a ++ b) ≡ quotes quote n a ++ b
quotes-append quote zero a b = refl
quotes-append quote (suc n) a b = ap (λ v. quote ∷ v) (quotes-append quote n a b)

long-plain : (quote n c : ℕ) (text : List ℕ) → n ≤ 2 → is_long_plain quote c ≡ true → LongTail quote text → LongTail quote (quotes quote n (c ∷ text))
long-plain quote n c text fits h r = record {
  body = quotes quote n (c ∷ r.body);
  value = quotes quote n (c ∷ r.value);
  is_body = row-body quote n (c ∷ r.body) (c ∷ r.value) fits (terminals.character h r.is_body);
  spelled = ap (λ v. quotes quote n (c ∷ v)) r.spelled ∙ quotes-append quote n (c ∷ r.body) (quote ∷ quote ∷ quote ∷ []);
}

long-escape : (quote n c : ℕ) (text : List ℕ) (kind : Kind) → n ≤ 2 → (c == 92) ≡ true → BackslashTail (bodies.Long quote) kind text → LongTail quote (quotes quote n (c ∷ text))
long-escape quote n c text kind fits h t =
    let r = t.behind.1 in
    let first : c ≡ 92 = same c 92 h in
    let all : c ∷ text ≡ ((92 ∷ t.escape) ++ r.body) ++ quote ∷ quote ∷ quote ∷ [] =
    ap (λ v. v ∷ text) first ∙ ap (λ v. 92 ∷ v) (t.spelled ∙ ap (λ v. t.escape ++ v) r.spelled ∙ sym (append_assoc t.escape r.body (quote ∷ quote ∷ quote ∷ []))) in
    record {
      body = quotes quote n ((92 ∷ t.escape) ++ r.body);
      value = quotes quote n (t.value ∷ r.value);
      is_body = row-body quote n ((92 ∷ t.escape) ++ r.body) (t.value ∷ r.value) fits (terminals.escape t.is_escape r.is_body);
      spelled = ap (λ v. quotes quote n v) all ∙ quotes-append quote n ((92 ∷ t.escape) ++ r.body) (quote ∷ quote ∷ quote ∷ []);
    }

long-end : (quote c : ℕ) (text : List ℕ) → (c == quote) ≡ true → text ≡ [] → LongTail quote (quote ∷ quote ∷ c ∷ text)
long-end quote c text h none = let first : c ≡ quote = same c quote h in record { body = []; value = []; is_body = terminals.nothing; spelled = cc }

one-quote : (quote c : ℕ) (text : List ℕ) (P : List ℕ → Type 0) → (c == quote) ≡ true → P (quote ∷ text) → P (c ∷ text)
one-quote quote c text P h p = put P c quote text h p

-- escapes by number
uchar-body : (body : Body) (escape : List ℕ) (value : ℕ) → may_spell body value ≡ true → (scalar value ≡ true → IsUchar escape value) → BodyEscape body escape value
uchar-body bodies.Iri escape value m u = let b = both (scalar value) (is_iri value) m in record { uchar = u b.0; allowed = b.1 }
uchar-body (bodies.Short quote) escape value m u = inl (u m)
uchar-body (bodies.Long quote) escape value m u = inl (u m)

four-digits : (body : Body) (c : ℕ) (text : List ℕ) (kind : Kind) → (c == 117) ≡ true → DigitsTail body 4 0 kind text → BackslashTail body kind (c ∷ text)
four-digits body c text kind h t = record {
  escape = 117 ∷ t.digits;
  value = hex_number t.digits;
  rest = t.rest;
  is_escape = uchar-body body (92 ∷ 117 ∷ t.digits) (hex_number t.digits) t.may (λ s. record { digits = t.digits; spelled = inl (refl, t.count); are_hex = t.are_hex; value = refl; scalar = s });
  spelled = ap (λ v. v ∷ text) (same c 117 h) ∙ ap (λ v. 117 ∷ v) t.spelled;
  behind = t.behind;
}

eight-digits : (body : Body) (c : ℕ) (text : List ℕ) (kind : Kind) → (c == 85) ≡ true → DigitsTail body 8 0 kind text → BackslashTail body kind (c ∷ text)
eight-digits body c text kind h t = record {
  escape = 85 ∷ t.digits;
  value = hex_number t.digits;
  rest = t.rest;
  is_escape = uchar-body body (92 ∷ 85 ∷ t.digits) (hex_number t.digits) t.may (λ s. record { digits = t.digits; spelled = inr (refl, t.count); are_hex = t.are_hex; value = refl; scalar = s });
  spelled = ap (λ v. v ∷ text) (same c 85 h) ∙ ap (λ v. 85 ∷ v) t.spelled;
  behind = t.behind;
}

one-letter : (body : Body) (c : ℕ) (text : List ℕ) (kind : Kind) → is_echar body c ≡ true → InsideTail body kind text → BackslashTail body kind (c ∷ text)
one-letter bodies.Iri c text kind h t = absurd (cc)
one-letter (bodies.Short quote) c text kind h t = let e = letter-echar c h in
    record { escape = c ∷ []; value = e.0; rest = text; is_escape = inr (record { letter = c; spelled = refl; value = e.1 }); spelled = refl; behind = t }
one-letter (bodies.Long quote) c text kind h t = let e = letter-echar c h in
    record { escape = c ∷ []; value = e.0; rest = text; is_escape = inr (record { letter = c; spelled = refl; value = e.1 }); spelled = refl; behind = t }

digit-more : (body : Body) (left value c : ℕ) (text : List ℕ) (kind : Kind) → (is_next value c && nat_lt 1 left) ≡ true
    → (0 < left - 1 → DigitsTail body (left - 1) (with_digit value c) kind text) → DigitsTail body left value kind (c ∷ text)
digit-more body left value c text kind h t =
    let b = both (is_next value c) (nat_lt 1 left) h in
    let hex = both (is_hex c) (nat_lt value 0x110000) b.0 in
    let more : nat_lt 1 left ≡ true = b.1 in
    let two : 1 < left = grind (arith, nat_tests) in
    let r = t (omega arith) in
    record { digits = c ∷ r.digits; rest = r.rest; count = omega (arith, r.count); are_hex = all-one is_hex c r.digits hex.0 r.are_hex; may = r.may; spelled = ap (λ v. c ∷ v) r.spelled; behind = r.behind }

digit-last : (body : Body) (left value c : ℕ) (text : List ℕ) (kind : Kind) → ((is_next value c && not (nat_lt 1 left)) && may_spell body (with_digit value c)) ≡ true
    → 0 < left → InsideTail body kind text → DigitsTail body left value kind (c ∷ text)
digit-last body left value c text kind h some t =
    let b = both (is_next value c && not (nat_lt 1 left)) (may_spell body (with_digit value c)) h in
    let d = both (is_next value c) (not (nat_lt 1 left)) b.0 in
    let hex = both (is_hex c) (nat_lt value 0x110000) d.0 in
    let last : not (nat_lt 1 left) ≡ true = d.1 in
    let one : left ≡ 1 = grind (arith, nat_tests) in
    record { digits = c ∷ []; rest = text; count = sym one; are_hex = all-one is_hex c [] hex.0 refl; may = b.1; spelled = refl; behind = t }

-- behind two quotes
two-quotes : (quote c : ℕ) (text : List ℕ) → (c == quote) ≡ true → LongTail quote text → LongBehind quote (c ∷ text)
two-quotes quote c text h t = record { rest = text; tail = t; spelled = ap (λ v. v ∷ text) (same c quote h) }

quote-quote : (quote c : ℕ) (text : List ℕ) → (c == quote) ≡ true → (text ≡ []) ⊎ LongBehind quote text
    → ShortTail quote (c ∷ text) ⊎ ((rest : List ℕ) × LongBehind quote rest × (c ∷ text ≡ quote ∷ rest))
quote-quote quote c text h (inl none) = inl (short-end quote c text h none)
quote-quote quote c text h (inr t) = inr (text, t, ap (λ v. v ∷ text) (same c quote h))

less-equal : (c : ℕ) (text : List ℕ) (kind : Kind) → (c == 61) ≡ true → QuotedTail quoted.LessEqual kind text → QuotedTail quoted.Less kind (c ∷ text)
less-equal c text kind h (inl t) = let first : c ≡ 61 = same c 61 h in let none : text ≡ [] = t.1 in inl (t.0, inr (cc))
less-equal c text kind h (inr t) = inr (put (InsideTail bodies.Iri kind) c 61 text h (iri-plain 61 text kind refl t))

pub quoted-sound : (text : List ℕ) (state : Quoted) (kind : Kind) → reads text (states.Quoted state) ≡ Some kind → QuotedTail state kind text
unfolding step
quoted-sound [] quoted.Less kind h = inl (some_kind kinds.Sign kind h, inl refl)
quoted-sound [] quoted.LessEqual kind h = inl (some_kind kinds.Sign kind h, refl)
quoted-sound [] (quoted.Quote quote) kind h = absurd (cc)
quoted-sound [] (quoted.TwoQuotes quote) kind h = (some_kind kinds.String kind h, inl refl)
quoted-sound [] (quoted.Inside body) kind h = absurd (cc)
quoted-sound [] (quoted.OneInside quote) kind h = absurd (cc)
quoted-sound [] (quoted.TwoInside quote) kind h = absurd (cc)
quoted-sound [] (quoted.Backslash body) kind h = absurd (cc)
quoted-sound [] (quoted.Digits body left value) kind h = absurd (cc)
quoted-sound [] (quoted.End other) kind h = (some_kind other kind h, refl)
quoted-sound (c ∷ text) quoted.Less kind h =
    read-cases (quoted_rows quoted.Less c) text kind (QuotedTail quoted.Less kind (c ∷ text)) (
      λ t r. less-equal c text kind t (quoted-sound text quoted.LessEqual kind r),
      (
        λ t r. inr (iri-plain c text kind t (quoted-sound text (quoted.Inside bodies.Iri) kind r)),
        (
          λ t r. inr (iri-end c text kind t (quoted-sound text (quoted.End kinds.Iri) kind r)),
          (λ t r. inr (iri-escape c text kind t (quoted-sound text (quoted.Backslash bodies.Iri) kind r)), tt),
        ),
      ),
    ) h
quoted-sound (c ∷ text) quoted.LessEqual kind h =
    read-cases (quoted_rows quoted.LessEqual c) text kind (QuotedTail quoted.LessEqual kind (c ∷ text)) (
      λ t r. inr (iri-plain c text kind t (quoted-sound text (quoted.Inside bodies.Iri) kind r)),
      (
        λ t r. inr (iri-end c text kind t (quoted-sound text (quoted.End kinds.Iri) kind r)),
        (λ t r. inr (iri-escape c text kind t (quoted-sound text (quoted.Backslash bodies.Iri) kind r)), tt),
      ),
    ) h
quoted-sound (c ∷ text) (quoted.Quote quote) kind h =
    read-cases (quoted_rows (quoted.Quote quote) c) text kind (QuotedTail (quoted.Quote quote) kind (c ∷ text)) (
      λ t r. let s = quoted-sound text (quoted.Inside (bodies.Short quote)) kind r in (s.0, inl (short-plain quote c text t s.1)),
      (
        λ t r. let s = quoted-sound text (quoted.TwoQuotes quote) kind r in (s.0, quote-quote quote c text t s.1),
        (λ t r. let s = quoted-sound text (quoted.Backslash (bodies.Short quote)) kind r in (s.behind.0, inl (short-escape quote c text kind t s)), tt),
      ),
    ) h
quoted-sound (c ∷ text) (quoted.TwoQuotes quote) kind h =
    read-cases (quoted_rows (quoted.TwoQuotes quote) c) text kind (QuotedTail (quoted.TwoQuotes quote) kind (c ∷ text))
    (λ t r. let s = quoted-sound text (quoted.Inside (bodies.Long quote)) kind r in (s.0, inr (two-quotes quote c text t s.1)), tt) h
quoted-sound (c ∷ text) (quoted.Inside bodies.Iri) kind h =
    read-cases (quoted_rows (quoted.Inside bodies.Iri) c) text kind (QuotedTail (quoted.Inside bodies.Iri) kind (c ∷ text)) (
      λ t r. iri-plain c text kind t (quoted-sound text (quoted.Inside bodies.Iri) kind r),
      (
        λ t r. iri-end c text kind t (quoted-sound text (quoted.End kinds.Iri) kind r),
        (λ t r. iri-escape c text kind t (quoted-sound text (quoted.Backslash bodies.Iri) kind r), tt),
      ),
    ) h
quoted-sound (c ∷ text) (quoted.Inside (bodies.Short quote)) kind h =
    read-cases (quoted_rows (quoted.Inside (bodies.Short quote)) c) text kind (QuotedTail (quoted.Inside (bodies.Short quote)) kind (c ∷ text)) (
      λ t r. let s = quoted-sound text (quoted.Inside (bodies.Short quote)) kind r in (s.0, short-plain quote c text t s.1),
      (
        λ t r. let s = quoted-sound text (quoted.End kinds.String) kind r in (s.0, short-end quote c text t s.1),
        (λ t r. let s = quoted-sound text (quoted.Backslash (bodies.Short quote)) kind r in (s.behind.0, short-escape quote c text kind t s), tt),
      ),
    ) h
quoted-sound (c ∷ text) (quoted.Inside (bodies.Long quote)) kind h =
    read-cases (quoted_rows (quoted.Inside (bodies.Long quote)) c) text kind (QuotedTail (quoted.Inside (bodies.Long quote)) kind (c ∷ text)) (
      λ t r. let s = quoted-sound text (quoted.Inside (bodies.Long quote)) kind r in (s.0, long-plain quote 0 c text (omega arith) t s.1),
      (
        λ t r. let s = quoted-sound text (quoted.OneInside quote) kind r in (s.0, one-quote quote c text (LongTail quote) t s.1),
        (λ t r. let s = quoted-sound text (quoted.Backslash (bodies.Long quote)) kind r in (s.behind.0, long-escape quote 0 c text kind (omega arith) t s), tt),
      ),
    ) h
quoted-sound (c ∷ text) (quoted.OneInside quote) kind h =
    read-cases (quoted_rows (quoted.OneInside quote) c) text kind (QuotedTail (quoted.OneInside quote) kind (c ∷ text)) (
      λ t r. let s = quoted-sound text (quoted.Inside (bodies.Long quote)) kind r in (s.0, long-plain quote 1 c text (omega arith) t s.1),
      (
        λ t r. let s = quoted-sound text (quoted.TwoInside quote) kind r in (s.0, one-quote quote c text (λ v. LongTail quote (quote ∷ v)) t s.1),
        (λ t r. let s = quoted-sound text (quoted.Backslash (bodies.Long quote)) kind r in (s.behind.0, long-escape quote 1 c text kind (omega arith) t s), tt),
      ),
    ) h
quoted-sound (c ∷ text) (quoted.TwoInside quote) kind h =
    read-cases (quoted_rows (quoted.TwoInside quote) c) text kind (QuotedTail (quoted.TwoInside quote) kind (c ∷ text)) (
      λ t r. let s = quoted-sound text (quoted.Inside (bodies.Long quote)) kind r in (s.0, long-plain quote 2 c text (omega arith) t s.1),
      (
        λ t r. let s = quoted-sound text (quoted.End kinds.String) kind r in (s.0, long-end quote c text t s.1),
        (λ t r. let s = quoted-sound text (quoted.Backslash (bodies.Long quote)) kind r in (s.behind.0, long-escape quote 2 c text kind (omega arith) t s), tt),
      ),
    ) h
quoted-sound (c ∷ text) (quoted.Backslash body) kind h =
    read-cases (quoted_rows (quoted.Backslash body) c) text kind (QuotedTail (quoted.Backslash body) kind (c ∷ text)) (
      λ t r. four-digits body c text kind t (quoted-sound text (quoted.Digits body 4 0) kind r (omega arith)),
      (
        λ t r. eight-digits body c text kind t (quoted-sound text (quoted.Digits body 8 0) kind r (omega arith)),
        (λ t r. one-letter body c text kind t (quoted-sound text (quoted.Inside body) kind r), tt),
      ),
    ) h
quoted-sound (c ∷ text) (quoted.Digits body left value) kind h =
    read-cases (quoted_rows (quoted.Digits body left value) c) text kind (QuotedTail (quoted.Digits body left value) kind (c ∷ text)) (
      λ t r. λ some. digit-more body left value c text kind t (quoted-sound text (quoted.Digits body (left - 1) (with_digit value c)) kind r),
      (λ t r. λ some. digit-last body left value c text kind t some (quoted-sound text (quoted.Inside body) kind r), tt),
    ) h
quoted-sound (c ∷ text) (quoted.End other) kind h = absurd (cc)
