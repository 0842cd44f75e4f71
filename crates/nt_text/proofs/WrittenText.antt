-- What is written is UTF-8: the characters of each part, and the escapes of a lexical form.
use Rattle.std.proofs.Common.{◌≡◌, ◌<◌, ◌≤◌, ℕ, Bool, true, false, cond, List, [], ◌∷◌, ◌++◌, inl, inr, eqb, nat_le, refl, sym, ap, ◌∙◌, subst, arith}
use Rattle.std.proofs.Math.Utf8.{encode, low_scalar}
use Rattle.std.proofs.lemmas.Bool.{cases_lt, eqb-true, ltb-true}
use Rattle.std.proofs.lemmas.Bool.Decides.{nat_tests}
use Rattle.std.proofs.lemmas.List.{append-nil}
use Rattle.std.proofs.lemmas.List.Concat.{flat_map-append}
use Rattle.std.proofs.lemmas.Str.{encode_ascii, encodes-append, IsUtf8-append}
use Rattle.std.specs.Prelude.{flat_map}
use Rattle.std.specs.Char.{IsScalar}
use Rattle.std.specs.Str.{IsUtf8, all_scalars, encode_utf8_all, bytes_eq}
use Rattle.term_core.specs.Texts.{xsd_string, escaped, kind_text, term_text, triple_text}
use Rattle.term_core.specs.Characters.{is_plain, AreAll, IsTextOf}
use Rattle.term_core.specs.declared.term.Term.TheVariants as terms
use Rattle.term_core.specs.declared.term.Triple.{Triple}
use Rattle.nt_text.proofs.Cut.{wide_bytes}
use Rattle.nt_text.proofs.EscapeLaws.{all_parts}
use Rattle.nt_text.proofs.TagLaws.{is_small, small_encoded}
use Rattle.nt_text.proofs.SpelledTerms.{scalars_parts, scalars_both}

-- ---- texts, part by part

pub text_both : (cs ds xs ys : List ℕ) → IsTextOf cs xs → IsTextOf ds ys → IsTextOf (cs ++ ds) (xs ++ ys)
text_both cs ds xs ys hx hy = record {
  scalars = scalars_both cs ds hx.scalars hy.scalars;
  encoded = encodes-append cs ds ∙ (λ i. hx.encoded i ++ hy.encoded i);
}

small_scalars : (xs : List ℕ) → AreAll is_small xs → all_scalars xs ≡ true
small_scalars [] all = refl
small_scalars (x ∷ xs) all =
    let a = all_parts is_small x xs all in
    let small : x < 128 = ltb-true x 128 a.0 in
    rw (low_scalar x (omega (arith, small))) (small_scalars xs a.1)

-- ASCII is the text of itself
pub text_small : (xs : List ℕ) → AreAll is_small xs → IsTextOf xs xs
text_small xs all = record { scalars = small_scalars xs all; encoded = small_encoded xs all }

-- ---- lexical forms

-- a character that is escaped, or that stands for itself
pub data IsWrittenAs : ℕ → Type 0 where
  backslash : IsWrittenAs 92
  quote : IsWrittenAs 34
  feed : IsWrittenAs 10
  return : IsWrittenAs 13
  itself : {c : ℕ} → escaped c ≡ c ∷ [] → is_plain c ≡ true → IsWrittenAs c

pub written_as : (c : ℕ) → IsWrittenAs c
written_as c =
    by_test 92 c backslash (λ a. by_test 34 c quote (λ b. by_test 10 c feed (λ d. by_test 13 c return (λ e. itself (rw (a, b, d, e) refl) (rw (a, b, d, e) refl)))))
  where
    by_test : (sign c : ℕ) → IsWrittenAs sign → (eqb c sign ≡ false → IsWrittenAs c) → IsWrittenAs c
    by_test sign c here other = elim (eqb c sign) as (λ t. eqb c sign ≡ t → IsWrittenAs c) [
      | true ↦ λ e. subst IsWrittenAs (sym (eqb-true c sign e)) here
      | false ↦ other
    ] refl

abbrev is_large : ℕ → Bool
is_large c = nat_le 128 c

large_escaped : (c : ℕ) → is_large c ≡ true → escaped c ≡ c ∷ []
large_escaped c large = by_case (written_as c) large
  where
    by_case : {c : ℕ} → IsWrittenAs c → is_large c ≡ true → escaped c ≡ c ∷ []
    by_case backslash large = absurd cc
    by_case quote large = absurd cc
    by_case feed large = absurd cc
    by_case return large = absurd cc
    by_case (itself same plain) large = same

-- bytes that are not ASCII are not escaped
large_same : (xs : List ℕ) → AreAll is_large xs → flat_map escaped xs ≡ xs
large_same [] all = refl
large_same (x ∷ xs) all =
    let a = all_parts is_large x xs all in
    (λ i. large_escaped x a.0 i ++ large_same xs a.1 i)

wide_escaped : (c : ℕ) → 128 ≤ c → flat_map escaped (encode c) ≡ encode c
wide_escaped c wide = large_same (encode c) (wide_bytes is_large (λ d large. grind (arith, nat_tests, large)) c wide)

small_escaped : (c : ℕ) → c < 128 → AreAll is_small (escaped c) → IsTextOf (escaped c) (flat_map escaped (encode c))
small_escaped c small all = subst (IsTextOf (escaped c)) (sym (ap (flat_map escaped) (encode_ascii c small) ∙ append-nil (escaped c))) (text_small (escaped c) all)

-- the escape of a character is a text, and the bytes of the character give its bytes
one_escaped : (c : ℕ) → IsScalar c → IsTextOf (escaped c) (flat_map escaped (encode c))
one_escaped c scalar = by_case (written_as c) scalar
  where
    by_width : (c : ℕ) → IsScalar c → escaped c ≡ c ∷ [] → flat_map escaped (encode c) ≡ encode c
    by_width c scalar same = elim (cases_lt c 128) [
      | inl small ↦ ap (flat_map escaped) (encode_ascii c small) ∙ ap (λ t. t ++ []) same ∙ sym (encode_ascii c small)
      | inr wide ↦ wide_escaped c wide
    ]

    alone : (c : ℕ) → IsScalar c → IsTextOf (c ∷ []) (encode c)
    alone c scalar = record { scalars = rw scalar refl; encoded = append-nil (encode c) }

    by_case : {c : ℕ} → IsWrittenAs c → IsScalar c → IsTextOf (escaped c) (flat_map escaped (encode c))
    by_case backslash scalar = small_escaped 92 (omega arith) refl
    by_case quote scalar = small_escaped 34 (omega arith) refl
    by_case feed scalar = small_escaped 10 (omega arith) refl
    by_case return scalar = small_escaped 13 (omega arith) refl
    by_case (itself {c} same plain) scalar = subst (λ t. IsTextOf t (flat_map escaped (encode c))) (sym same) (subst (IsTextOf (c ∷ [])) (sym (by_width c scalar same)) (alone c scalar))

escaped_all : (cs : List ℕ) → all_scalars cs ≡ true → IsTextOf (flat_map escaped cs) (flat_map escaped (encode_utf8_all cs))
escaped_all [] scalars = text_small [] refl
escaped_all (c ∷ cs) scalars =
    let a = scalars_parts c cs scalars in
    subst (IsTextOf (escaped c ++ flat_map escaped cs)) (sym (flat_map-append escaped (encode c) (encode_utf8_all cs)))
    (text_both (escaped c) (flat_map escaped cs) (flat_map escaped (encode c)) (flat_map escaped (encode_utf8_all cs)) (one_escaped c a.0) (escaped_all cs a.1))

-- the escapes of a text are a text
pub text_escaped : (cs xs : List ℕ) → IsTextOf cs xs → IsTextOf (flat_map escaped cs) (flat_map escaped xs)
text_escaped cs xs h = subst (λ t. IsTextOf (flat_map escaped cs) (flat_map escaped t)) h.encoded (escaped_all cs h.scalars)

-- ---- terms and triples are UTF-8

is_utf8_text : (cs xs : List ℕ) → IsTextOf cs xs → IsUtf8 xs
is_utf8_text cs xs h = (cs, (h.scalars, h.encoded))

small_utf8 : (xs : List ℕ) → AreAll is_small xs → IsUtf8 xs
small_utf8 xs all = is_utf8_text xs xs (text_small xs all)

escaped_utf8 : (xs : List ℕ) → IsUtf8 xs → IsUtf8 (flat_map escaped xs)
escaped_utf8 xs (cs, (scalars, encoded)) = is_utf8_text (flat_map escaped cs) (flat_map escaped xs) (text_escaped cs xs (record { scalars = scalars; encoded = encoded }))

-- between two parts that are ASCII
between_utf8 : (front xs behind : List ℕ) → AreAll is_small front → IsUtf8 xs → IsUtf8 behind → IsUtf8 (front ++ (xs ++ behind))
between_utf8 front xs behind all h more = IsUtf8-append front (xs ++ behind) (small_utf8 front all) (IsUtf8-append xs behind h more)

kind_utf8 : (datatype lang : List ℕ) → IsUtf8 datatype → IsUtf8 lang → IsUtf8 (kind_text datatype lang)
kind_utf8 datatype [] hd hl =
    elim (bytes_eq datatype xsd_string) as (λ t. IsUtf8 (cond t [] (94 ∷ 94 ∷ 60 ∷ (datatype ++ 62 ∷ [])))) [
      | true ↦ small_utf8 [] refl
      | false ↦ between_utf8 (94 ∷ 94 ∷ 60 ∷ []) datatype (62 ∷ []) refl hd (small_utf8 (62 ∷ []) refl)
    ]
kind_utf8 datatype (c ∷ tag) hd hl = IsUtf8-append (64 ∷ []) (c ∷ tag) (small_utf8 (64 ∷ []) refl) hl

pub iri_utf8 : (iri : List ℕ) → IsUtf8 iri → IsUtf8 (term_text (terms.Iri iri))
iri_utf8 iri h = between_utf8 (60 ∷ []) iri (62 ∷ []) refl h (small_utf8 (62 ∷ []) refl)

pub blank_utf8 : (label : List ℕ) → IsUtf8 label → IsUtf8 (term_text (terms.Blank label))
blank_utf8 label h = IsUtf8-append (95 ∷ 58 ∷ []) label (small_utf8 (95 ∷ 58 ∷ []) refl) h

pub literal_utf8 : (lexical datatype lang : List ℕ) → IsUtf8 lexical → IsUtf8 datatype → IsUtf8 lang → IsUtf8 (term_text (terms.Literal lexical datatype lang))
literal_utf8 lexical datatype lang hx hd hl =
    between_utf8 (34 ∷ []) (flat_map escaped lexical) (34 ∷ kind_text datatype lang) refl (escaped_utf8 lexical hx)
    (IsUtf8-append (34 ∷ []) (kind_text datatype lang) (small_utf8 (34 ∷ []) refl) (kind_utf8 datatype lang hd hl))

pub triple_utf8 : (t : Triple) → IsUtf8 (term_text t.subject) → IsUtf8 (term_text t.predicate) → IsUtf8 (term_text t.object) → IsUtf8 (triple_text t)
triple_utf8 t hs hp ho =
    let blank = small_utf8 (32 ∷ []) refl in
    let object = IsUtf8-append (term_text t.object) (32 ∷ 46 ∷ 10 ∷ []) ho (small_utf8 (32 ∷ 46 ∷ 10 ∷ []) refl) in
    let predicate = IsUtf8-append (term_text t.predicate) (32 ∷ (term_text t.object ++ 32 ∷ 46 ∷ 10 ∷ [])) hp (IsUtf8-append (32 ∷ []) (term_text t.object ++ 32 ∷ 46 ∷ 10 ∷ []) blank object) in
    IsUtf8-append (term_text t.subject) (32 ∷ (term_text t.predicate ++ 32 ∷ (term_text t.object ++ 32 ∷ 46 ∷ 10 ∷ []))) hs
    (IsUtf8-append (32 ∷ []) (term_text t.predicate ++ 32 ∷ (term_text t.object ++ 32 ∷ 46 ∷ 10 ∷ [])) blank predicate)
