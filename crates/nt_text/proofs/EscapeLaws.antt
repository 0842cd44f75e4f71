-- Escapes: what is read is of the grammar, and what is of the grammar is read.
use Rattle.std.proofs.Common.{◌≡◌, ℕ, ◌<◌, ◌≤◌, ◌+◌, ◌*◌, Bool, true, false, cond, ◌&&◌, not, nat_lt, List, [], ◌∷◌, ◌++◌, inl, inr, length, Option, Some, None, eqb, refl, sym, ap, ◌∙◌, subst, arith, append_assoc, length-append, take, drop}
use Rattle.std.proofs.lemmas.Bool.{eqb-true, and_parts, or_cases, ltb-true, ltb-false, not-true}
use Rattle.std.proofs.lemmas.List.{take-append-drop, length-take, length-drop}
use Rattle.std.proofs.Math.Utf8.{low_scalar, scalar_cases}
use Rattle.std.proofs.lemmas.Bool.Decides.{nat_tests}
use Rattle.std.specs.List.{list_all}
use Rattle.std.specs.Char.{IsScalar, digit_value}
use Rattle.term_core.specs.Characters.{is_hex, is_iri, AreAll, is_scalar}
use Rattle.term_core.specs.Escapes.{IsUchar, IsIriEscape, IsStringEscape, echar_value, hex_number, hex_onto}
use Rattle.nt_text.specs.declared.escapes.Quoted.{Quoted}
use Rattle.nt_text.specs.declared.escapes.Quoted.TheVariants as quoted
use Rattle.nt_text.specs.Reading.{◌>>=◌, expect, head_at, digit_at, four_at, eight_at, scalar_of, uchar_by, iri_escape, echar_or, escape_by, escape_at}
use Rattle.nt_text.proofs.Steps.{bind_some, guard_some, some_is, expect_is}

abbrev pub Cut : Type 0
Cut = ℕ × List ℕ

-- the escapes that may stand there
abbrev pub IsEscapeIn : Quoted → List ℕ → ℕ → Type 0
IsEscapeIn quoted.Iri text c = IsIriEscape text c
IsEscapeIn quoted.String text c = IsStringEscape text c

-- ---- digits

-- a digit that is read stands there
record IsDigit (text : List ℕ) (n : ℕ) (rest : List ℕ) : Type 0 where
  digit : ℕ
  spelled : text ≡ digit ∷ rest
  hex : is_hex digit ≡ true
  value : n ≡ digit_value digit

digit_sound : (text : List ℕ) (n : ℕ) (rest : List ℕ) → digit_at text ≡ Some (n, rest) → IsDigit text n rest
digit_sound [] n rest e = absurd cc
digit_sound (c ∷ text) n rest e =
    let read : Cut = (digit_value c, text) in
    let wanted : Cut = (n, rest) in
    let g = guard_some (is_hex c) read wanted e in
    record { digit = c; spelled = ap (λ (p : Cut). c ∷ p.1) g.1; hex = g.0; value = sym (ap (λ (p : Cut). p.0) g.1) }

-- four digits that are read stand there
record AreFour (text : List ℕ) (n : ℕ) (rest : List ℕ) : Type 0 where
  digits : List ℕ
  spelled : text ≡ digits ++ rest
  four : length digits ≡ 4
  hex : AreAll is_hex digits
  value : n ≡ hex_number digits

abbrev number_of : Cut → Cut → Cut → Cut → Option Cut
number_of a b c d = Some (((a.0 * 16 + b.0) * 16 + c.0) * 16 + d.0, d.1)

four_sound : (text : List ℕ) (n : ℕ) (rest : List ℕ) → four_at text ≡ Some (n, rest) → AreFour text n rest
unfolding four_at
four_sound text n rest e =
    let a = bind_some (digit_at text) (λ a. digit_at a.1 >>= λ b. digit_at b.1 >>= λ c. digit_at c.1 >>= λ d. number_of a b c d) (n, rest) e in
    let b = bind_some (digit_at a.0.1) (λ b. digit_at b.1 >>= λ c. digit_at c.1 >>= λ d. number_of a.0 b c d) (n, rest) a.2 in
    let c = bind_some (digit_at b.0.1) (λ c. digit_at c.1 >>= λ d. number_of a.0 b.0 c d) (n, rest) b.2 in
    let d = bind_some (digit_at c.0.1) (λ d. number_of a.0 b.0 c.0 d) (n, rest) c.2 in
    let read : Cut = (((a.0.0 * 16 + b.0.0) * 16 + c.0.0) * 16 + d.0.0, d.0.1) in
    let wanted : Cut = (n, rest) in
    let same = some_is read wanted d.2 in
    let p = digit_sound text a.0.0 a.0.1 a.1 in
    let q = digit_sound a.0.1 b.0.0 b.0.1 b.1 in
    let r = digit_sound b.0.1 c.0.0 c.0.1 c.1 in
    let s = digit_sound c.0.1 d.0.0 d.0.1 d.1 in
    record {
      digits = p.digit ∷ q.digit ∷ r.digit ∷ s.digit ∷ [];
      spelled = p.spelled ∙ ap (λ t. p.digit ∷ t) (q.spelled ∙ ap (λ t. q.digit ∷ t) (r.spelled ∙ ap (λ t. r.digit ∷ t) (s.spelled ∙ ap (λ (w : Cut). s.digit ∷ w.1) same)));
      four = refl;
      hex = rw (p.hex, q.hex, r.hex, s.hex) refl;
      value = sym (ap (λ (w : Cut). w.0) same) ∙ omega (arith, p.value, q.value, r.value, s.value);
    }

digit_complete : (c : ℕ) (rest : List ℕ) → is_hex c ≡ true → digit_at (c ∷ rest) ≡ Some (digit_value c, rest)
digit_complete c rest hex = rw hex refl

pub all_parts : (p : ℕ → Bool) (c : ℕ) (text : List ℕ) → AreAll p (c ∷ text) → (p c ≡ true) × AreAll p text
all_parts p c text h = and_parts (p c) (list_all p text) h

-- four digits that stand there are read
four_complete : (a b c d : ℕ) (rest : List ℕ) → AreAll is_hex (a ∷ b ∷ c ∷ d ∷ []) → four_at (a ∷ b ∷ c ∷ d ∷ rest) ≡ Some (hex_number (a ∷ b ∷ c ∷ d ∷ []), rest)
unfolding four_at
four_complete a b c d rest hex =
    let p = all_parts is_hex a (b ∷ c ∷ d ∷ []) hex in
    let q = all_parts is_hex b (c ∷ d ∷ []) p.1 in
    let r = all_parts is_hex c (d ∷ []) q.1 in
    let s = all_parts is_hex d [] r.1 in
    let same : ((digit_value a * 16 + digit_value b) * 16 + digit_value c) * 16 + digit_value d ≡ hex_number (a ∷ b ∷ c ∷ d ∷ []) = omega arith in
    rw (p.0, q.0, r.0, s.0) (ap (λ n. Some (n, rest)) same)

-- eight digits that are read stand there
record AreEight (text : List ℕ) (n : ℕ) (rest : List ℕ) : Type 0 where
  digits : List ℕ
  spelled : text ≡ digits ++ rest
  eight : length digits ≡ 8
  hex : AreAll is_hex digits
  value : n ≡ hex_number digits

pub all_both : (p : ℕ → Bool) (xs ys : List ℕ) → AreAll p xs → AreAll p ys → AreAll p (xs ++ ys)
all_both p [] ys hx hy = hy
all_both p (x ∷ xs) ys hx hy = let h = all_parts p x xs hx in rw h.0 (all_both p xs ys h.1 hy)

hex_onto-append : (n : ℕ) (xs ys : List ℕ) → hex_onto n (xs ++ ys) ≡ hex_onto (hex_onto n xs) ys
hex_onto-append n [] ys = refl
hex_onto-append n (x ∷ xs) ys = hex_onto-append (n * 16 + digit_value x) xs ys

-- four digits behind a number
hex_onto-four : (n : ℕ) (xs : List ℕ) → length xs ≡ 4 → hex_onto n xs ≡ n * 65536 + hex_number xs
hex_onto-four n [] four = absurd (omega (arith, four))
hex_onto-four n (a ∷ []) four = absurd (omega (arith, four))
hex_onto-four n (a ∷ b ∷ []) four = absurd (omega (arith, four))
hex_onto-four n (a ∷ b ∷ c ∷ []) four = absurd (omega (arith, four))
hex_onto-four n (a ∷ b ∷ c ∷ d ∷ []) four = omega arith
hex_onto-four n (a ∷ b ∷ c ∷ d ∷ e ∷ xs) four = absurd (omega (arith, four))

abbrev eight_of : Cut → Cut → Option Cut
eight_of high low = Some (high.0 * 65536 + low.0, low.1)

eight_sound : (text : List ℕ) (n : ℕ) (rest : List ℕ) → eight_at text ≡ Some (n, rest) → AreEight text n rest
unfolding eight_at
eight_sound text n rest e =
    let a = bind_some (four_at text) (λ high. four_at high.1 >>= λ low. eight_of high low) (n, rest) e in
    let b = bind_some (four_at a.0.1) (λ low. eight_of a.0 low) (n, rest) a.2 in
    let read : Cut = (a.0.0 * 65536 + b.0.0, b.0.1) in
    let wanted : Cut = (n, rest) in
    let same = some_is read wanted b.2 in
    let p = four_sound text a.0.0 a.0.1 a.1 in
    let q = four_sound a.0.1 b.0.0 b.0.1 b.1 in
    let number : n ≡ a.0.0 * 65536 + b.0.0 = sym (ap (λ (w : Cut). w.0) same) in
    record {
      digits = p.digits ++ q.digits;
      spelled = p.spelled ∙ ap (λ t. p.digits ++ t) (q.spelled ∙ ap (λ (w : Cut). q.digits ++ w.1) same) ∙ sym (append_assoc p.digits q.digits rest);
      eight = omega (arith, length-append p.digits q.digits, p.four, q.four);
      hex = all_both is_hex p.digits q.digits p.hex q.hex;
      value = number ∙ (λ i. p.value i * 65536 + q.value i) ∙ sym (hex_onto-four (hex_number p.digits) q.digits q.four) ∙ sym (hex_onto-append 0 p.digits q.digits);
    }

-- digits that stand there are read
four_read : (digits rest : List ℕ) → length digits ≡ 4 → AreAll is_hex digits → four_at (digits ++ rest) ≡ Some (hex_number digits, rest)
four_read [] rest four hex = absurd (omega (arith, four))
four_read (a ∷ []) rest four hex = absurd (omega (arith, four))
four_read (a ∷ b ∷ []) rest four hex = absurd (omega (arith, four))
four_read (a ∷ b ∷ c ∷ []) rest four hex = absurd (omega (arith, four))
four_read (a ∷ b ∷ c ∷ d ∷ []) rest four hex = four_complete a b c d rest hex
four_read (a ∷ b ∷ c ∷ d ∷ e ∷ xs) rest four hex = absurd (omega (arith, four))

pub all_front : (p : ℕ → Bool) (xs ys : List ℕ) → AreAll p (xs ++ ys) → AreAll p xs × AreAll p ys
all_front p [] ys h = (refl, h)
all_front p (x ∷ xs) ys h =
    let a = all_parts p x (xs ++ ys) h in
    let b = all_front p xs ys a.1 in
    (rw a.0 b.0, b.1)

eight_read : (digits rest : List ℕ) → length digits ≡ 8 → AreAll is_hex digits → eight_at (digits ++ rest) ≡ Some (hex_number digits, rest)
unfolding eight_at
eight_read digits rest eight hex =
    let high = take 4 digits in
    let low = drop 4 digits in
    let whole : high ++ low ≡ digits = take-append-drop 4 digits in
    let high_four : length high ≡ 4 = omega (arith, length-take 4 digits, eight) in
    let low_four : length low ≡ 4 = omega (arith, length-drop 4 digits, eight) in
    let halves = all_front is_hex high low (ap (list_all is_hex) whole ∙ hex) in
    let text : digits ++ rest ≡ high ++ (low ++ rest) = ap (λ ds. ds ++ rest) (sym whole) ∙ append_assoc high low rest in
    let number : hex_number high * 65536 + hex_number low ≡ hex_number digits =
    sym (hex_onto-four (hex_number high) low low_four) ∙ sym (hex_onto-append 0 high low) ∙ ap hex_number whole in
    ap (λ t. four_at t >>= λ a. four_at a.1 >>= λ b. eight_of a b) text
    ∙ rw (four_read high (low ++ rest) high_four halves.0, four_read low rest low_four halves.1) (ap (λ n. Some (n, rest)) number)

-- the test of scalar values is that of std
scalar_is : (n : ℕ) → is_scalar n ≡ true → IsScalar n
scalar_is n h = elim (or_cases (nat_lt n 0xD800) (not (nat_lt n 0xE000) && nat_lt n 0x110000) h) [
  | inl low ↦ low_scalar n (ltb-true n 0xD800 low)
  | inr high ↦
      let both = and_parts (not (nat_lt n 0xE000)) (nat_lt n 0x110000) high in
      let least : 57344 ≤ n = ltb-false n 0xE000 (not-true (nat_lt n 0xE000) both.0) in
      let most : n < 1114112 = ltb-true n 0x110000 both.1 in
      grind (arith, nat_tests)
]

is_scalar_from : (n : ℕ) → IsScalar n → is_scalar n ≡ true
is_scalar_from n h = elim (scalar_cases n h) [
  | inl low ↦ grind (arith, nat_tests)
  | inr high ↦ let least : 57344 ≤ n = high.0 in let most : n < 1114112 = high.1 in grind (arith, nat_tests)
]

-- ---- escapes

-- the escape whose backslash and letter were read
abbrev pub IsRead : (List ℕ → ℕ → Type 0) → List ℕ → ℕ → List ℕ → Type 0
IsRead IsEscape text c rest = (escape : List ℕ) × (text ≡ escape ++ rest) × IsEscape escape c

scalar_some : (n : Cut) (c : ℕ) (rest : List ℕ) → scalar_of n ≡ Some (c, rest) → IsScalar c × (n.0 ≡ c) × (n.1 ≡ rest)
scalar_some n c rest e =
    let wanted : Cut = (c, rest) in
    let g = guard_some (is_scalar n.0) n wanted e in
    let same = ap (λ (p : Cut). p.0) g.1 in
    (subst IsScalar same (scalar_is n.0 g.0), same, ap (λ (p : Cut). p.1) g.1)

short_sound : (text : List ℕ) (c : ℕ) (rest : List ℕ) → (four_at text >>= scalar_of) ≡ Some (c, rest) → IsRead IsUchar (92 ∷ 117 ∷ text) c rest
short_sound text c rest e =
    let a = bind_some (four_at text) scalar_of (c, rest) e in
    let s = scalar_some a.0 c rest a.2 in
    let p = four_sound text a.0.0 a.0.1 a.1 in (
      92 ∷ 117 ∷ p.digits,
      ap (λ t. 92 ∷ 117 ∷ t) (p.spelled ∙ ap (λ r. p.digits ++ r) s.2),
      record {
        digits = p.digits;
        spelled = inl (refl, p.four);
        are_hex = p.hex;
        value = sym s.1 ∙ p.value;
        scalar = s.0;
      },
    )

long_sound : (text : List ℕ) (c : ℕ) (rest : List ℕ) → (eight_at text >>= scalar_of) ≡ Some (c, rest) → IsRead IsUchar (92 ∷ 85 ∷ text) c rest
long_sound text c rest e =
    let a = bind_some (eight_at text) scalar_of (c, rest) e in
    let s = scalar_some a.0 c rest a.2 in
    let p = eight_sound text a.0.0 a.0.1 a.1 in (
      92 ∷ 85 ∷ p.digits,
      ap (λ t. 92 ∷ 85 ∷ t) (p.spelled ∙ ap (λ r. p.digits ++ r) s.2),
      record {
        digits = p.digits;
        spelled = inr (refl, p.eight);
        are_hex = p.hex;
        value = sym s.1 ∙ p.value;
        scalar = s.0;
      },
    )

uchar_sound : (letter : ℕ) (text : List ℕ) (c : ℕ) (rest : List ℕ) → uchar_by letter text ≡ Some (c, rest) → IsRead IsUchar (92 ∷ letter ∷ text) c rest
uchar_sound letter text c rest e = by_u (eqb letter 117) refl e
  where
    by_long : (t : Bool) → eqb letter 85 ≡ t → cond t (eight_at text >>= scalar_of) None ≡ Some (c, rest) → IsRead IsUchar (92 ∷ letter ∷ text) c rest
    by_long true is h = subst (λ l. IsRead IsUchar (92 ∷ l ∷ text) c rest) (sym (eqb-true letter 85 is)) (long_sound text c rest h)
    by_long false is h = absurd cc

    by_u : (t : Bool) → eqb letter 117 ≡ t → cond t (four_at text >>= scalar_of) (cond (eqb letter 85) (eight_at text >>= scalar_of) None) ≡ Some (c, rest) → IsRead IsUchar (92 ∷ letter ∷ text) c rest
    by_u true is h = subst (λ l. IsRead IsUchar (92 ∷ l ∷ text) c rest) (sym (eqb-true letter 117 is)) (short_sound text c rest h)
    by_u false is h = by_long (eqb letter 85) refl h

-- the character of a letter, or that of the digits
echar_sound : (o : Option ℕ) (letter : ℕ) (text : List ℕ) (c : ℕ) (rest : List ℕ) → echar_value letter ≡ o → echar_or o letter text ≡ Some (c, rest) → IsRead IsStringEscape (92 ∷ letter ∷ text) c rest
echar_sound (Some d) letter text c rest is e =
    let read : Cut = (d, text) in
    let wanted : Cut = (c, rest) in
    let same = some_is read wanted e in
    (92 ∷ letter ∷ [], ap (λ (p : Cut). 92 ∷ letter ∷ p.1) same, inr (record { letter = letter; spelled = refl; value = is ∙ ap (λ (p : Cut). Some p.0) same }))
echar_sound None letter text c rest is e =
    let u = uchar_sound letter text c rest e in
    (u.0, u.1, inl u.2)

iri_escape_sound : (letter : ℕ) (text : List ℕ) (c : ℕ) (rest : List ℕ) → iri_escape letter text ≡ Some (c, rest) → IsRead IsIriEscape (92 ∷ letter ∷ text) c rest
iri_escape_sound letter text c rest e =
    let a = bind_some (uchar_by letter text) (λ (c : Cut). cond (is_iri c.0) (Some c) None) (c, rest) e in
    let wanted : Cut = (c, rest) in
    let g = guard_some (is_iri a.0.0) a.0 wanted a.2 in
    let u = uchar_sound letter text a.0.0 a.0.1 a.1 in
    let same = ap (λ (p : Cut). p.0) g.1 in
    (u.0, u.1 ∙ ap (λ (p : Cut). u.0 ++ p.1) g.1, record { uchar = subst (IsUchar u.0) same u.2; allowed = ap is_iri (sym same) ∙ g.0 })

behind_sound : (q : Quoted) (letter : ℕ) (text : List ℕ) (c : ℕ) (rest : List ℕ) → escape_by q letter text ≡ Some (c, rest) → IsRead (IsEscapeIn q) (92 ∷ letter ∷ text) c rest
behind_sound quoted.Iri letter text c rest e = iri_escape_sound letter text c rest e
behind_sound quoted.String letter text c rest e = echar_sound (echar_value letter) letter text c rest refl e

-- an escape that is read stands there
pub escape_sound : (q : Quoted) (text : List ℕ) (c : ℕ) (rest : List ℕ) → escape_at q text ≡ Some (c, rest) → IsRead (IsEscapeIn q) text c rest
unfolding escape_at
escape_sound q text c rest e =
    let a = bind_some (expect 92 text) (λ body. head_at body >>= λ letter. escape_by q letter.0 letter.1) (c, rest) e in
    let b = bind_some (head_at a.0) (λ letter. escape_by q letter.0 letter.1) (c, rest) a.2 in
    let whole : text ≡ 92 ∷ b.0.0 ∷ b.0.1 = expect_is 92 text a.0 a.1 ∙ ap (λ t. 92 ∷ t) (head_is a.0 b.0 b.1) in
    subst (λ t. IsRead (IsEscapeIn q) t c rest) (sym whole) (behind_sound q b.0.0 b.0.1 c rest b.2)
  where
    head_is : (text : List ℕ) (read : Cut) → head_at text ≡ Some read → text ≡ read.0 ∷ read.1
    head_is [] read e = absurd cc
    head_is (d ∷ text) read e = let here : Cut = (d, text) in ap (λ (p : Cut). p.0 ∷ p.1) (some_is here read e)

-- ---- escapes that stand there are read

scalar_read : (n : ℕ) (rest : List ℕ) → IsScalar n → scalar_of (n, rest) ≡ Some (n, rest)
scalar_read n rest h = rw (is_scalar_from n h) refl

uchar_complete : (escape : List ℕ) (c : ℕ) (rest : List ℕ) → IsUchar escape c
    → (letter : ℕ) × (text : List ℕ) × (escape ++ rest ≡ 92 ∷ letter ∷ text) × (uchar_by letter text ≡ Some (c, rest)) × (echar_value letter ≡ None)
uchar_complete escape c rest h = elim h.spelled [
  | inl short ↦ (
    117,
    h.digits ++ rest,
    ap (λ e. e ++ rest) short.0,
    rw (four_read h.digits rest short.1 h.are_hex, ← h.value) (scalar_read c rest h.scalar),
    refl,
  )
  | inr long ↦ (
    85,
    h.digits ++ rest,
    ap (λ e. e ++ rest) long.0,
    rw (eight_read h.digits rest long.1 h.are_hex, ← h.value) (scalar_read c rest h.scalar),
    refl,
  )
]

-- reading an escape from its backslash and its letter
escape_step : (q : Quoted) (letter : ℕ) (text : List ℕ) → escape_at q (92 ∷ letter ∷ text) ≡ escape_by q letter text
unfolding escape_at
escape_step q letter text = refl

pub escape_complete : (q : Quoted) (escape : List ℕ) (c : ℕ) (rest : List ℕ) → IsEscapeIn q escape c → escape_at q (escape ++ rest) ≡ Some (c, rest)
escape_complete quoted.Iri escape c rest h =
    let u = uchar_complete escape c rest h.uchar in
    ap (escape_at quoted.Iri) u.2 ∙ escape_step quoted.Iri u.0 u.1 ∙ rw (u.3, h.allowed) refl
escape_complete quoted.String escape c rest (inl uchar) =
    let u = uchar_complete escape c rest uchar in
    ap (escape_at quoted.String) u.2 ∙ escape_step quoted.String u.0 u.1 ∙ rw u.4 u.3
escape_complete quoted.String escape c rest (inr echar) =
    ap (λ e. escape_at quoted.String (e ++ rest)) echar.spelled ∙ escape_step quoted.String echar.letter rest ∙ rw echar.value refl

-- an escape begins with a backslash
pub escape_begins : (q : Quoted) (escape : List ℕ) (c : ℕ) → IsEscapeIn q escape c → (text : List ℕ) × (escape ≡ 92 ∷ text)
escape_begins quoted.Iri escape c h = uchar_begins escape c h.uchar
  where
    uchar_begins : (escape : List ℕ) (c : ℕ) → IsUchar escape c → (text : List ℕ) × (escape ≡ 92 ∷ text)
    uchar_begins escape c h = elim h.spelled [ inl short ↦ (117 ∷ h.digits, short.0) | inr long ↦ (85 ∷ h.digits, long.0) ]
escape_begins quoted.String escape c (inl h) = elim h.spelled [ inl short ↦ (117 ∷ h.digits, short.0) | inr long ↦ (85 ∷ h.digits, long.0) ]
escape_begins quoted.String escape c (inr h) = (h.letter ∷ [], h.spelled)

-- where no backslash stands, no escape begins
pub no_escape : (q : Quoted) (c : ℕ) (text : List ℕ) → eqb c 92 ≡ false → escape_at q (c ∷ text) ≡ None
unfolding escape_at
no_escape q c text e = rw e refl
