-- A prefix's IRI with a local name behind it is an IRI.
use Rattle.std.proofs.Common.{◌≡◌, inl, inr, ℕ, Bool, true, false, cond, not, List, [], ◌∷◌, ◌++◌, codes, nat_lt, nat_le, refl, sym, ap, ◌∙◌, arith, encode_utf8_all}
use Rattle.std.proofs.lemmas.Bool.Decides.{nat_tests}
use Rattle.std.specs.Prelude.{◌==◌, ◌||◌}
use Rattle.std.specs.List.{list_all}
use Rattle.std.specs.Str.{all_scalars}
use Rattle.term_core.specs.Characters.{is_among, is_between, is_in_ranges, is_hex, is_letter, is_iri, is_pn, is_pn_u, is_pn_base, pn_base_ranges, pn_more_ranges, after, begins, AreAll}
use Rattle.term_core.specs.Names.{has_scheme, is_scheme}
use Rattle.term_core.specs.Spelling.{IsSpelledIri}
use Rattle.term_core.specs.Terminals.{is_local_escape, is_local_part, AreLocalParts, no_part, part, dot, percent, backslash, IsLocal}
use Rattle.sparql_lex.proofs.Bools.{both, either, false_of, among, all-append}
use Rattle.sparql_tree.specs.Symbols.{unescaped}
use Rattle.nt_text.proofs.SpelledTerms.{scalars_parts}
use Rattle.nt_text.proofs.WrittenText.{text_both}

-- ---- the characters of a local name

in_ranges-above : (ranges : List (ℕ × ℕ)) (c : ℕ) → list_all (λ range. nat_lt 32 range.0) ranges ≡ true → is_in_ranges ranges c ≡ true → nat_lt 32 c ≡ true
in_ranges-above [] c all h = absurd (cc)
in_ranges-above (range ∷ ranges) c all h =
    let a = both (nat_lt 32 range.0) _ all in
    elim (either (is_between range.0 range.1 c) (is_in_ranges ranges c) h) [
      | inl here ↦ let ends = both (nat_le range.0 c) (nat_le c range.1) here in let low = ends.0 in let above = a.0 in grind (arith, nat_tests)
      | inr more ↦ in_ranges-above ranges c a.1 more
    ]

equal-above : (c d : ℕ) → nat_lt 32 d ≡ true → (c == d) ≡ true → nat_lt 32 c ≡ true
equal-above c d above same = grind (arith, nat_tests)

pn-above : (c : ℕ) → is_pn c ≡ true → nat_lt 32 c ≡ true
unfolding is_pn is_pn_u is_pn_base
pn-above c h =
    elim (either ((is_in_ranges pn_base_ranges c || (c == 95)) || (c == 45)) (is_in_ranges pn_more_ranges c) h) [
      | inl first ↦ elim (either (is_in_ranges pn_base_ranges c || (c == 95)) (c == 45) first) [
        | inl letter ↦ elim (either (is_in_ranges pn_base_ranges c) (c == 95) letter) [
          | inl base ↦ in_ranges-above pn_base_ranges c refl base
          | inr low ↦ equal-above c 95 refl low
        ]
        | inr hyphen ↦ equal-above c 45 refl hyphen
      ]
      | inr mark ↦ in_ranges-above pn_more_ranges c refl mark
    ]

-- none of the characters that an IRI has not is in a name
pn-apart : (c : ℕ) → is_among (codes "<>\"{}|^`\\") c ≡ true → is_pn c ≡ false
unfolding is_pn is_pn_u is_pn_base
pn-apart c h =
    among (λ v. is_pn v ≡ false) (codes "<>\"{}|^`\\") c (refl, (refl, (refl, (refl, (refl, (refl, (refl, (refl, (refl, tt))))))))) h

iri-of : (c : ℕ) → nat_lt 32 c ≡ true → is_among (codes "<>\"{}|^`\\") c ≡ false → is_iri c ≡ true
iri-of c above apart = rw (above, apart) refl

pn-iri : (c : ℕ) → is_pn c ≡ true → is_iri c ≡ true
pn-iri c h = iri-of c (pn-above c h) (false_of _ (λ e. let no : true ≡ false = sym h ∙ pn-apart c e in absurd (cc)))

same-iri : (c d : ℕ) → is_iri d ≡ true → (c == d) ≡ true → is_iri c ≡ true
same-iri c d h same = let e : c ≡ d = grind (arith, nat_tests) in ap is_iri e ∙ h

part-iri : (c : ℕ) → is_local_part c ≡ true → is_iri c ≡ true
part-iri c h = elim (either (is_pn c) (c == 58) h) [ inl name ↦ pn-iri c name | inr colon ↦ same-iri c 58 refl colon ]

hex-iri : (c : ℕ) → is_hex c ≡ true → is_iri c ≡ true
hex-iri c h = grind (arith, nat_tests)

escape-iri : (c : ℕ) → is_local_escape c ≡ true → is_iri c ≡ true
escape-iri c h =
    among (λ v. is_iri v ≡ true) (codes "_~.-!$&'()*+,;=/?#@%") c
    (refl, (refl, (refl, (refl, (refl, (refl, (refl, (refl, (refl, (refl, (refl, (refl, (refl, (refl, (refl, (refl, (refl, (refl, (refl, (refl, tt)))))))))))))))))))) h

-- a character more, unless it is a backslash
kept : (c : ℕ) (text : List ℕ) → is_iri c ≡ true → AreAll is_iri (unescaped text) → AreAll is_iri (unescaped (c ∷ text))
kept c text h all = elim (not (c == 92)) as (λ t. AreAll is_iri (cond t (c ∷ unescaped text) (unescaped text))) [ true ↦ rw h all | false ↦ all ]

parts-iri : {text : List ℕ} → AreLocalParts text → AreAll is_iri (unescaped text)
parts-iri no_part = refl
parts-iri (part {c} {text} h k) = kept c text (part-iri c h) (parts-iri k)
parts-iri (dot {text} some k) = kept 46 text refl (parts-iri k)
parts-iri (percent {c} {d} {text} h j k) = kept 37 (c ∷ d ∷ text) refl (kept c (d ∷ text) (hex-iri c h) (kept d text (hex-iri d j) (parts-iri k)))
parts-iri (backslash {c} {text} h k) = kept c text (escape-iri c h) (parts-iri k)

pub local-iri : (local : List ℕ) → IsLocal local → AreAll is_iri (unescaped local)
local-iri [] h = refl
local-iri (c ∷ text) h = parts-iri h.1

pub unescaped-scalars : (text : List ℕ) → all_scalars text ≡ true → all_scalars (unescaped text) ≡ true
unescaped-scalars [] h = refl
unescaped-scalars (c ∷ text) h =
    let a = scalars_parts c text h in
    let more = unescaped-scalars text a.1 in
    elim (not (c == 92)) as (λ t. all_scalars (cond t (c ∷ unescaped text) (unescaped text)) ≡ true) [ true ↦ rw a.0 more | false ↦ more ]

-- ---- the scheme in front

abbrev begins_colon : List ℕ → Bool
begins_colon text = begins (λ d. d == 58) text

colon-before : (text more : List ℕ) → begins_colon (after is_scheme text) ≡ true → begins_colon (after is_scheme (text ++ more)) ≡ true
colon-before [] more h = absurd (cc)
colon-before (c ∷ text) more h =
    elim (is_scheme c) as (λ t. begins_colon (cond t (after is_scheme text) (c ∷ text)) ≡ true → begins_colon (cond t (after is_scheme (text ++ more)) (c ∷ (text ++ more))) ≡ true) [
      | true ↦ colon-before text more
      | false ↦ λ k. k
    ] h

scheme-before : (text more : List ℕ) → has_scheme text ≡ true → has_scheme (text ++ more) ≡ true
scheme-before [] more h = absurd (cc)
scheme-before (c ∷ text) more h = let p = both (is_letter c) (begins_colon (after is_scheme text)) h in rw (p.0, colon-before text more p.1) refl

pub joined-iri : (iri local : List ℕ) → IsSpelledIri iri → all_scalars local ≡ true → AreAll is_iri local → IsSpelledIri (iri ++ encode_utf8_all local)
joined-iri iri local h scalars class = record {
  characters = h.characters ++ local;
  is_text = text_both h.characters local iri (encode_utf8_all local) h.is_text (record { scalars = scalars; encoded = refl });
  of_class = all-append is_iri h.characters local h.of_class class;
  scheme = scheme-before h.characters local h.scheme;
}
