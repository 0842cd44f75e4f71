-- The symbols of a text have values that can be written.
use Rattle.std.proofs.Common.{◌≡◌, inl, inr, ℕ, Bool, true, false, cond, List, [], ◌∷◌, ◌++◌, map, chars, IsUtf8, encode_utf8_all, codes, Option, Some, None, refl, sym, subst}
use Rattle.std.specs.Char.{to_ascii_lowercase}
use Rattle.std.specs.Str.{all_scalars, bytes_eq}
use Rattle.std.proofs.lemmas.Str.{scalars-chars}
use Rattle.term_core.specs.Names.{has_scheme}
use Rattle.term_core.specs.Spelling.{IsSpelledIri, IsSpelledTag}
use Rattle.term_core.specs.Terminals.{IsIri, IsPrefixedName, IsVariable, IsShortString, IsLongString, IsLongBody, IsLanguage}
use Rattle.term_core.specs.Terminals as long
use Rattle.term_core.specs.declared.token.Kind.{Kind}
use Rattle.term_core.specs.declared.token.Kind.TheVariants as kinds
use Rattle.sparql_tree.specs.declared.symbol.Symbol.{Symbol}
use Rattle.sparql_tree.specs.Prologue.{Declaration, IsPrologue, ended, declared, IsAbsolute, no_prefixes, with_declaration, prefixes_over, prefixes_of}
use Rattle.sparql_tree.specs.Refusals.{AreSymbols}
use Rattle.sparql_tree.specs.Symbols.{Lexeme, Prefixes, iri_symbol, name_symbol, unescaped, word_symbol, IsStringSymbol, IsSymbolOf, AreSymbolsOf}
use Rattle.sparql_tree.specs.Words.{is_word, word_shape, sign_shape}
use Rattle.sparql_symbol.proofs.Frames.{scalars-front, scalars-behind}
use Rattle.sparql_symbol.proofs.Judged.{text-lexemes, rest-lexemes}
use Rattle.sparql_symbol.proofs.Standing.{AreLexemes}
use Rattle.nt_text.proofs.Cut.{scheme_encoded}
use Rattle.nt_text.proofs.SpelledTerms.{scalars_parts, string_escape_scalar, spelled_scalars, spelled_class, lower_tag, lower_twice}
use Rattle.nt_text.proofs.TagLaws.{tag_encoded}
use Rattle.sparql_print.specs.Spelled.{IsSpelledName}
use Rattle.sparql_print.specs.SpelledSymbols.{IsSpelledSymbol, AreSpelledSymbols}
use Rattle.sparql_print.proofs.BareShapes.{bare-spelled, word-bare, sign-bare}
use Rattle.sparql_print.proofs.LocalNames.{local-iri, unescaped-scalars, joined-iri}

-- what stands between two parts of a text
inner-scalars : (text front inner back : List ℕ) → IsUtf8 text → chars text ≡ front ++ (inner ++ back) → all_scalars inner ≡ true
inner-scalars text front inner back utf8 e =
    scalars-front inner back (scalars-behind front (inner ++ back) (subst (λ cs. all_scalars cs ≡ true) e (scalars-chars text utf8)))

-- and at its end
last-scalars : (text front last : List ℕ) → IsUtf8 text → chars text ≡ front ++ last → all_scalars last ≡ true
last-scalars text front last utf8 e = scalars-behind front last (subst (λ cs. all_scalars cs ≡ true) e (scalars-chars text utf8))

-- a choice of symbols
by_test : (t : Bool) (a b : Symbol) → (t ≡ true → IsSpelledSymbol a) → IsSpelledSymbol b → IsSpelledSymbol (cond t a b)
by_test true a b h k = h refl
by_test false a b h k = k

-- ---- IRIs

absolute-iri : (text : List ℕ) → IsUtf8 text → (h : IsIri (chars text)) → has_scheme (encode_utf8_all h.iri) ≡ true → IsSpelledIri (encode_utf8_all h.iri)
absolute-iri text utf8 h scheme = record {
  characters = h.iri;
  is_text = record {
    scalars = spelled_scalars (λ e c is. is.uchar.scalar) (inner-scalars text (60 ∷ []) h.body (62 ∷ []) utf8 h.spelled) h.is_body;
    encoded = refl;
  };
  of_class = spelled_class (λ e c is. is.allowed) h.is_body;
  scheme = subst (λ t. t ≡ true) (scheme_encoded h.iri) scheme;
}

iri-spelled : (text : List ℕ) → IsUtf8 text → (h : IsIri (chars text)) → IsSpelledSymbol (iri_symbol (encode_utf8_all h.iri))
iri-spelled text utf8 h = by_test (has_scheme (encode_utf8_all h.iri)) _ _ (absolute-iri text utf8 h) tt

-- the IRI that a prefix may have
abbrev MayBeIri : Option (List ℕ) → Type 0
MayBeIri None = Unit {0}
MayBeIri (Some iri) = IsSpelledIri iri

abbrev HaveIris : Prefixes → Type 0
HaveIris prefixes = (prefix : List ℕ) → MayBeIri (prefixes prefix)

name-spelled : (text : List ℕ) (o : Option (List ℕ)) → MayBeIri o → IsUtf8 text → (h : IsPrefixedName (chars text)) → IsSpelledSymbol (name_symbol o (encode_utf8_all (unescaped h.local)))
name-spelled text None i utf8 h = tt
name-spelled text (Some iri) i utf8 h =
    let behind : all_scalars (58 ∷ h.local) ≡ true = last-scalars text h.prefix (58 ∷ h.local) utf8 h.spelled in
    joined-iri iri (unescaped h.local) i (unescaped-scalars h.local (scalars_parts 58 h.local behind).1) (local-iri h.local h.is_local)

-- ---- names, strings and tags

variable-spelled : (text : List ℕ) → IsUtf8 text → (h : IsVariable (chars text)) → IsSpelledName (encode_utf8_all (h.first ∷ h.more))
variable-spelled text utf8 h = record {
  first = h.first;
  more = h.more;
  is_text = record { scalars = last-scalars text (h.mark ∷ []) (h.first ∷ h.more) utf8 h.spelled; encoded = refl };
  is_first = h.is_first;
  are_parts = h.are_parts;
}

long-scalars : {quote row : ℕ} {text value : List ℕ} → all_scalars text ≡ true → IsLongBody quote row text value → all_scalars value ≡ true
long-scalars scalars long.nothing = refl
long-scalars {quote} scalars (long.one_quote {text = text} p h) = let a = scalars_parts quote text scalars in rw a.0 (long-scalars a.1 h)
long-scalars scalars (long.character {c = c} {text = text} p h) = let a = scalars_parts c text scalars in rw a.0 (long-scalars a.1 h)
long-scalars scalars (long.escape {c = c} {escape = e} {text = text} p h) = rw (string_escape_scalar e c p) (long-scalars (scalars-behind e text scalars) h)

string-spelled : (text : List ℕ) (symbol : Symbol) → IsUtf8 text → IsStringSymbol (chars text) symbol → IsSpelledSymbol symbol
string-spelled text symbol utf8 (inl (h, e)) =
    subst IsSpelledSymbol (sym e)
    (h.value, (spelled_scalars string_escape_scalar (inner-scalars text (h.quote ∷ []) h.body (h.quote ∷ []) utf8 h.spelled) h.is_body, refl))
string-spelled text symbol utf8 (inr (h, e)) =
    let three = h.quote ∷ h.quote ∷ h.quote ∷ [] in
    subst IsSpelledSymbol (sym e) (h.value, (long-scalars (inner-scalars text three h.body three utf8 h.spelled) h.is_body, refl))

tag-spelled : (text : List ℕ) → (h : IsLanguage text) → IsSpelledTag (map to_ascii_lowercase (encode_utf8_all h.tag))
tag-spelled text h =
    subst (λ bytes. IsSpelledTag (map to_ascii_lowercase bytes)) (sym (tag_encoded h.tag h.is_tag)) (record { is_tag = lower_tag h.tag h.is_tag; lower = lower_twice h.tag })

word-spelled : (text : List ℕ) → IsSpelledSymbol (word_symbol text)
unfolding lib.Utf8.encode
word-spelled text =
    by_test (is_word text (codes "true")) _ _ (λ e. (codes "true", (refl, refl)))
    (by_test (is_word text (codes "false")) _ _ (λ e. (codes "false", (refl, refl))) (bare-spelled (word_shape text) (word-bare text)))

-- ---- symbols

symbol-spelled : (prefixes : Prefixes) (kind : Kind) (text : List ℕ) (symbol : Symbol) → HaveIris prefixes → IsUtf8 text → IsSymbolOf prefixes kind text symbol → IsSpelledSymbol symbol
symbol-spelled prefixes kinds.Iri text symbol i utf8 h = subst IsSpelledSymbol (sym h.1) (iri-spelled text utf8 h.0)
symbol-spelled prefixes kinds.PName text symbol i utf8 h = subst IsSpelledSymbol (sym h.1) (name-spelled text (prefixes (encode_utf8_all h.0.prefix)) (i _) utf8 h.0)
symbol-spelled prefixes kinds.Blank text symbol i utf8 h = subst IsSpelledSymbol (sym h.1) tt
symbol-spelled prefixes kinds.Var text symbol i utf8 h = subst IsSpelledSymbol (sym h.1) (variable-spelled text utf8 h.0)
symbol-spelled prefixes kinds.String text symbol i utf8 h = string-spelled text symbol utf8 h
symbol-spelled prefixes kinds.Lang text symbol i utf8 h = subst IsSpelledSymbol (sym h.1) (tag-spelled (chars text) h.0)
symbol-spelled prefixes kinds.Integer text symbol i utf8 h = subst IsSpelledSymbol (sym h) utf8
symbol-spelled prefixes kinds.Decimal text symbol i utf8 h = subst IsSpelledSymbol (sym h) utf8
symbol-spelled prefixes kinds.Double text symbol i utf8 h = subst IsSpelledSymbol (sym h) tt
symbol-spelled prefixes kinds.Word text symbol i utf8 h = subst IsSpelledSymbol (sym h) (word-spelled text)
symbol-spelled prefixes kinds.Sign text symbol i utf8 h = subst IsSpelledSymbol (sym h) (bare-spelled (sign_shape text) (sign-bare text))

symbols-spelled : (prefixes : Prefixes) (ls : List Lexeme) (ss : List Symbol) → HaveIris prefixes → AreLexemes ls → AreSymbolsOf prefixes ls ss → AreSpelledSymbols ss
symbols-spelled prefixes [] [] i all h = tt
symbols-spelled prefixes [] (symbol ∷ ss) i all h = absurd h
symbols-spelled prefixes (l ∷ ls) [] i all h = absurd h
symbols-spelled prefixes (l ∷ ls) (symbol ∷ ss) i all h = (symbol-spelled prefixes l.kind l.text symbol i all.0.utf8 h.0, symbols-spelled prefixes ls ss i all.1 h.1)

-- ---- declared prefixes

abbrev DeclareIris : List Declaration → Type 0
DeclareIris [] = Unit {0}
DeclareIris (d ∷ ds) = IsSpelledIri d.iri × DeclareIris ds

declared-iri : (l : Lexeme) (iri : List ℕ) → IsUtf8 l.text → IsAbsolute l iri → IsSpelledIri iri
declared-iri l iri utf8 h = subst IsSpelledIri (sym h.spelled) (absolute-iri l.text utf8 h.token (subst (λ bytes. has_scheme bytes ≡ true) h.spelled h.scheme))

declarations-spelled : {ls rest : List Lexeme} {ds : List Declaration} → IsPrologue ls ds rest → AreLexemes ls → DeclareIris ds
declarations-spelled (ended k) all = tt
declarations-spelled (declared {iri = iri} {d = d} k more) all = (declared-iri iri d.iri all.1.1.0.utf8 k.is_iri, declarations-spelled more all.1.1.1)

with-iris : (prefixes : Prefixes) (d : Declaration) → HaveIris prefixes → IsSpelledIri d.iri → HaveIris (with_declaration prefixes d)
with-iris prefixes d i h prefix = elim (bytes_eq d.prefix prefix) as (λ t. MayBeIri (cond t (Some d.iri) (prefixes prefix))) [ true ↦ h | false ↦ i prefix ]

over-iris : (prefixes : Prefixes) (ds : List Declaration) → HaveIris prefixes → DeclareIris ds → HaveIris (prefixes_over prefixes ds)
over-iris prefixes [] i h = i
over-iris prefixes (d ∷ ds) i h = over-iris (with_declaration prefixes d) ds (with-iris prefixes d i h.0) h.1

pub text-spelled : (text : List ℕ) (ss : List Symbol) → AreSymbols text ss → AreSpelledSymbols ss
text-spelled text ss h =
    let all : AreLexemes h.ls = subst AreLexemes (sym h.tokens.spelled) (text-lexemes text h.tokens.ts h.tokens.tokens) in
    symbols-spelled (prefixes_of h.declarations) h.rest ss (over-iris no_prefixes h.declarations (λ prefix. tt) (declarations-spelled h.prologue all)) (rest-lexemes h.prologue all) h.are_symbols
