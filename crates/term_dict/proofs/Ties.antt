-- The texts of a term are read as the term.
use Rattle.std.proofs.Common.{◌≡◌, ℕ, [], ◌∷◌, List, Some, None, Bool, true, false, sym, subst}
use Rattle.std.specs.Prelude.{if◌then◌else◌, ◌==◌}
use Rattle.std.specs.Str.{IsUtf8}
use Rattle.term_core.specs.declared.term.Term.{Term}
use Rattle.term_core.specs.declared.term.Term.TheVariants.{Iri, Blank, Literal}
use Rattle.term_core.specs.Order.{text_of, datatype_of, lang_of}
use Rattle.term_dict.specs.Records.{◌>>=◌, text_in, number_front, cut_at, literal_in, raw_literal_at, term_in, raw_in}
use Rattle.term_dict.proofs.Fronts.{bind_is, same_some}
use Rattle.term_dict.proofs.Texts.{text_utf8}

-- the three texts of a term are UTF-8
pub record IsEncoded (t : Term) : Type 0 where
  pub text : IsUtf8 (text_of t)
  pub datatype : IsUtf8 (datatype_of t)
  pub lang : IsUtf8 (lang_of t)

literal_of_raw : (bytes : List ℕ) (t : Term) → IsEncoded t → raw_literal_at bytes ≡ Some t → literal_in bytes ≡ Some t
unfolding literal_in raw_literal_at
literal_of_raw bytes t is e =
    let n = bind_is (number_front bytes) _ t e in
    let m = bind_is (number_front n.0.1) _ t n.2 in
    let front = bind_is (cut_at n.0.0 m.0.1) _ t m.2 in
    let middle = bind_is (cut_at m.0.0 front.0.1) _ t front.2 in
    let same : t ≡ Literal middle.0.1 front.0.0 middle.0.0 = sym (same_some _ t middle.2) in
    rw (
      n.1,
      m.1,
      front.1,
      text_utf8 front.0.0 (subst (λ u. IsUtf8 (datatype_of u)) same is.datatype),
      middle.1,
      text_utf8 middle.0.0 (subst (λ u. IsUtf8 (lang_of u)) same is.lang),
      text_utf8 middle.0.1 (subst (λ u. IsUtf8 (text_of u)) same is.text),
    ) middle.2

by_kind : (a b c : Bool) (rest : List ℕ) (t : Term) → IsEncoded t
    → (if a then Some (Blank rest) else if b then Some (Iri rest) else if c then raw_literal_at rest else None) ≡ Some t
    → (if a then (text_in rest >>= λ label. Some (Blank label)) else if b then (text_in rest >>= λ iri. Some (Iri iri)) else if c then literal_in rest else None) ≡ Some t
by_kind true b c rest t is e = let same : t ≡ Blank rest = sym (same_some _ t e) in rw (text_utf8 rest (subst (λ u. IsUtf8 (text_of u)) same is.text)) e
by_kind false true c rest t is e = let same : t ≡ Iri rest = sym (same_some _ t e) in rw (text_utf8 rest (subst (λ u. IsUtf8 (text_of u)) same is.text)) e
by_kind false false true rest t is e = literal_of_raw rest t is e
by_kind false false false rest t is e = cc

pub term_of_raw : (bytes : List ℕ) (t : Term) → IsEncoded t → raw_in bytes ≡ Some t → term_in bytes ≡ Some t
term_of_raw [] t is e = cc
term_of_raw (kind ∷ rest) t is e = by_kind (kind == 0) (kind == 1) (kind == 2) rest t is e
