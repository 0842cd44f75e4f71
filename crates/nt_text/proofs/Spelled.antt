-- Texts with escapes: how reading goes on behind an escape.
use Rattle.std.proofs.Common.{◌≡◌, ℕ, zero, suc, ◌<◌, ◌≤◌, Bool, true, false, cond, List, [], ◌∷◌, ◌++◌, length, Option, Some, None, eqb, refl, sym, ap, ◌∙◌, arith, append_assoc, length-append}
use Rattle.std.specs.Str.{encode_utf8_all, chars}
use Rattle.std.proofs.Math.Utf8.{encode}
use Rattle.std.proofs.lemmas.Str.{encodes-append, encodes-chars}
use Rattle.std.specs.Str.{IsUtf8}
use Rattle.std.specs.Char.{digit_value}
use Rattle.term_core.specs.Characters.{is_hex, is_iri, front, after, is_scalar}
use Rattle.term_core.specs.Escapes.{echar_value}
use Rattle.nt_text.specs.declared.escapes.Quoted.{Quoted}
use Rattle.nt_text.specs.declared.escapes.Quoted.TheVariants as quoted
use Rattle.nt_text.specs.Reading.{◌>>=◌, head_at, digit_at, four_at, eight_at, scalar_of, uchar_by, echar_or, escape_by, escape_at, plain_in, onto, spelled_on, spelled_in, spelled_at}
use Rattle.nt_text.proofs.Cut.{parts}

-- what was read leaves less of the text
abbrev pub Shortens : {A : Type 0} → ℕ → Option (A × List ℕ) → Type 0
Shortens n None = Unit {0}
Shortens n (Some read) = length read.1 < n

abbrev pub Keeps : {A : Type 0} → ℕ → Option (A × List ℕ) → Type 0
Keeps n None = Unit {0}
Keeps n (Some read) = length read.1 ≤ n

digit_keeps : (text : List ℕ) → Keeps (length text) (digit_at text)
digit_keeps [] = tt
digit_keeps (c ∷ text) = elim (is_hex c) as (λ t. Keeps (length (c ∷ text)) (cond t (Some (digit_value c, text)) None)) [ true ↦ omega arith | false ↦ tt ]

-- a step that keeps, and one that keeps from there
keeps_bind : {A B : Type 0} (n : ℕ) (r : Option (A × List ℕ)) (f : A × List ℕ → Option (B × List ℕ)) → Keeps n r → ((x : A × List ℕ) → length x.1 ≤ n → Keeps n (f x)) → Keeps n (r >>= f)
keeps_bind n None f h more = tt
keeps_bind n (Some x) f h more = more x h

keeps_more : {A : Type 0} (m n : ℕ) (r : Option (A × List ℕ)) → m ≤ n → Keeps m r → Keeps n r
keeps_more m n None le h = tt
keeps_more m n (Some x) le h = omega (arith, le, h)

digit_step : (n : ℕ) (x : ℕ × List ℕ) → length x.1 ≤ n → Keeps n (digit_at x.1)
digit_step n x fits = keeps_more (length x.1) n (digit_at x.1) fits (digit_keeps x.1)

four_keeps : (text : List ℕ) → Keeps (length text) (four_at text)
unfolding four_at
four_keeps text =
    keeps_bind (length text) (digit_at text) _ (digit_keeps text) (λ a fit_a.
    keeps_bind (length text) (digit_at a.1) _ (digit_step (length text) a fit_a) (λ b fit_b.
    keeps_bind (length text) (digit_at b.1) _ (digit_step (length text) b fit_b) (λ c fit_c.
    keeps_bind (length text) (digit_at c.1) _ (digit_step (length text) c fit_c) (λ d fit_d. fit_d))))

eight_keeps : (text : List ℕ) → Keeps (length text) (eight_at text)
unfolding eight_at
eight_keeps text =
    keeps_bind (length text) (four_at text) _ (four_keeps text) (λ high fit_high.
    keeps_bind (length text) (four_at high.1) _ (keeps_more (length high.1) (length text) (four_at high.1) fit_high (four_keeps high.1)) (λ low fit_low. fit_low))

scalar_keeps : (n : ℕ) (x : ℕ × List ℕ) → length x.1 ≤ n → Keeps n (scalar_of x)
scalar_keeps n x fits = elim (is_scalar x.0) as (λ t. Keeps n (cond t (Some x) None)) [ true ↦ fits | false ↦ tt ]

uchar_keeps : (letter : ℕ) (rest : List ℕ) → Keeps (length rest) (uchar_by letter rest)
uchar_keeps letter rest = elim (eqb letter 117) as (λ t. Keeps (length rest) (cond t (four_at rest >>= scalar_of) (cond (eqb letter 85) (eight_at rest >>= scalar_of) None))) [
  | true ↦ keeps_bind (length rest) (four_at rest) scalar_of (four_keeps rest) (scalar_keeps (length rest))
  | false ↦ elim (eqb letter 85) as (λ t. Keeps (length rest) (cond t (eight_at rest >>= scalar_of) None)) [
    | true ↦ keeps_bind (length rest) (eight_at rest) scalar_of (eight_keeps rest) (scalar_keeps (length rest))
    | false ↦ tt
  ]
]

allowed_keeps : (n : ℕ) (x : ℕ × List ℕ) → length x.1 ≤ n → Keeps n (cond (is_iri x.0) (Some x) None)
allowed_keeps n x fits = elim (is_iri x.0) as (λ t. Keeps n (cond t (Some x) None)) [ true ↦ fits | false ↦ tt ]

echar_keeps : (o : Option ℕ) (letter : ℕ) (rest : List ℕ) → Keeps (length rest) (echar_or o letter rest)
echar_keeps (Some c) letter rest = omega arith
echar_keeps None letter rest = uchar_keeps letter rest

behind_keeps : (q : Quoted) (letter : ℕ) (rest : List ℕ) → Keeps (length rest) (escape_by q letter rest)
behind_keeps quoted.Iri letter rest = keeps_bind (length rest) (uchar_by letter rest) _ (uchar_keeps letter rest) (allowed_keeps (length rest))
behind_keeps quoted.String letter rest = echar_keeps (echar_value letter) letter rest

shortens : {A : Type 0} (m n : ℕ) (r : Option (A × List ℕ)) → m < n → Keeps m r → Shortens n r
shortens m n None less h = tt
shortens m n (Some x) less h = omega (arith, less, h)

-- an escape takes two characters or more
escape_shortens : (q : Quoted) (text : List ℕ) → Shortens (length text) (escape_at q text)
unfolding escape_at
escape_shortens q [] = tt
escape_shortens q (c ∷ []) = elim (eqb c 92) as (λ t. Shortens 1 (cond t (Some []) None >>= λ body. head_at body >>= λ letter. escape_by q letter.0 letter.1)) [ true ↦ tt | false ↦ tt ]
escape_shortens q (c ∷ letter ∷ rest) =
    elim (eqb c 92) as (λ t. Shortens (length (c ∷ letter ∷ rest)) (cond t (Some (letter ∷ rest)) None >>= λ body. head_at body >>= λ letter. escape_by q letter.0 letter.1)) [
      | true ↦ shortens (length rest) (length (c ∷ letter ∷ rest)) (escape_by q letter rest) (omega arith) (behind_keeps q letter rest)
      | false ↦ tt
    ]

after_length : (p : ℕ → Bool) (text : List ℕ) → length (after p text) ≤ length text
after_length p text = omega (arith, ap length (parts p text), length-append (front p text) (after p text))

-- room enough is room enough
spelled_same : (n m : ℕ) (q : Quoted) (text : List ℕ) → length text < n → length text < m → spelled_in n q text ≡ spelled_in m q text
unfolding spelled_in
spelled_same zero m q text n_fits m_fits = absurd (omega (arith, n_fits))
spelled_same (suc n) zero q text n_fits m_fits = absurd (omega (arith, m_fits))
spelled_same (suc n) (suc m) q text n_fits m_fits =
    ap (onto (front (plain_in q) text)) (on_same n m q (after (plain_in q) text) (escape_at q (after (plain_in q) text)) (omega (arith, after_length (plain_in q) text, n_fits)) (omega (arith, after_length (plain_in q) text, m_fits)) (escape_shortens q (after (plain_in q) text))
    (λ rest n_more m_more. spelled_same n m q rest n_more m_more))
  where
    on_same : (n m : ℕ) (q : Quoted) (text : List ℕ) (o : Option (ℕ × List ℕ)) → length text ≤ n → length text ≤ m → Shortens (length text) o
        → ((rest : List ℕ) → length rest < n → length rest < m → spelled_in n q rest ≡ spelled_in m q rest)
        → spelled_on (spelled_in n q) text o ≡ spelled_on (spelled_in m q) text o
    on_same n m q text None n_fits m_fits short more = refl
    on_same n m q text (Some c) n_fits m_fits short more = ap (onto (c.0 ∷ [])) (more c.1 (omega (arith, short, n_fits)) (omega (arith, short, m_fits)))

-- what is read from where the text stands for itself no longer
abbrev pub tail_at : Quoted → List ℕ → List ℕ × List ℕ
tail_at q text = spelled_on (spelled_at q) text (escape_at q text)

-- the characters that stand for themselves, and what is read behind them
pub spelled_step : (q : Quoted) (text : List ℕ) → spelled_at q text ≡ onto (front (plain_in q) text) (tail_at q (after (plain_in q) text))
unfolding spelled_in
spelled_step q text = ap (onto (front (plain_in q) text)) (on_room q (after (plain_in q) text) (length text) (escape_at q (after (plain_in q) text)) (after_length (plain_in q) text) (escape_shortens q (after (plain_in q) text)))
  where
    on_room : (q : Quoted) (text : List ℕ) (n : ℕ) (o : Option (ℕ × List ℕ)) → length text ≤ n → Shortens (length text) o → spelled_on (spelled_in n q) text o ≡ spelled_on (spelled_at q) text o
    on_room q text n None fits short = refl
    on_room q text n (Some c) fits short = ap (onto (c.0 ∷ [])) (spelled_same n (suc (length c.1)) q c.1 (omega (arith, short, fits)) (omega arith))

-- behind an escape
pub tail_step : (q : Quoted) (text : List ℕ) (c : ℕ) (rest : List ℕ) → escape_at q text ≡ Some (c, rest)
    → tail_at q text ≡ onto (c ∷ front (plain_in q) rest) (tail_at q (after (plain_in q) rest))
tail_step q text c rest e = ap (spelled_on (spelled_at q) text) e ∙ ap (onto (c ∷ [])) (spelled_step q rest)

-- where no escape begins
pub tail_stop : (q : Quoted) (text : List ℕ) → escape_at q text ≡ None → tail_at q text ≡ ([], text)
tail_stop q text e = ap (spelled_on (spelled_at q) text) e

-- the bytes that the first characters give, with those that are still read
pub begun : (q : Quoted) (text rest bytes held : List ℕ) → IsUtf8 bytes → held ≡ bytes → chars bytes ≡ front (plain_in q) text → rest ≡ after (plain_in q) text
    → (held ++ encode_utf8_all (tail_at q rest).0 ≡ encode_utf8_all (spelled_at q text).0) × ((tail_at q rest).1 ≡ (spelled_at q text).1)
begun q text rest bytes held utf8 same plain behind =
    let step : spelled_at q text ≡ onto (chars bytes) (tail_at q rest) = spelled_step q text ∙ (λ i. onto (sym plain i) (tail_at q (sym behind i))) in
    (ap (λ bs. bs ++ encode_utf8_all (tail_at q rest).0) (same ∙ sym (encodes-chars bytes utf8)) ∙ sym (encodes-append (chars bytes) (tail_at q rest).0) ∙ ap (λ r. encode_utf8_all r.0) (sym step), ap (λ r. r.1) (sym step))

-- the bytes behind an escape, with those before it
pub gone_on : (q : Quoted) (left behind rest whole before mid held bytes : List ℕ) (c : ℕ) → IsUtf8 bytes → escape_at q left ≡ Some (c, behind) → chars bytes ≡ front (plain_in q) behind → rest ≡ after (plain_in q) behind
    → mid ≡ before ++ encode c → held ≡ mid ++ bytes → before ++ encode_utf8_all (tail_at q left).0 ≡ whole → held ++ encode_utf8_all (tail_at q rest).0 ≡ whole
gone_on q left behind rest whole before mid held bytes c utf8 escape plain after_is mid_is held_is so_far =
    let step : tail_at q left ≡ onto (c ∷ front (plain_in q) behind) (tail_at q (after (plain_in q) behind)) = tail_step q left c behind escape in
    let read : encode_utf8_all (tail_at q left).0 ≡ encode c ++ (bytes ++ encode_utf8_all (tail_at q rest).0) =
    ap (λ r. encode_utf8_all r.0) step
    ∙ ap (λ bs. encode c ++ bs) (encodes-append (front (plain_in q) behind) (tail_at q (after (plain_in q) behind)).0
    ∙ (λ i. encode_utf8_all (sym plain i) ++ encode_utf8_all (tail_at q (sym after_is i)).0)
    ∙ ap (λ bs. bs ++ encode_utf8_all (tail_at q rest).0) (encodes-chars bytes utf8)) in
    ap (λ bs. bs ++ encode_utf8_all (tail_at q rest).0) (held_is ∙ ap (λ bs. bs ++ bytes) mid_is)
    ∙ append_assoc (before ++ encode c) bytes (encode_utf8_all (tail_at q rest).0) ∙ append_assoc before (encode c) (bytes ++ encode_utf8_all (tail_at q rest).0)
    ∙ ap (λ bs. before ++ bs) (sym read) ∙ so_far

-- and what is left behind it
pub left_on : (q : Quoted) (left behind rest whole : List ℕ) (c : ℕ) → escape_at q left ≡ Some (c, behind) → rest ≡ after (plain_in q) behind → (tail_at q left).1 ≡ whole → (tail_at q rest).1 ≡ whole
left_on q left behind rest whole c escape after_is so_far = ap (λ t. (tail_at q t).1) after_is ∙ ap (λ r. r.1) (sym (tail_step q left c behind escape)) ∙ so_far
