-- The labels of a text's symbols can be written.
use Rattle.std.proofs.Common.{◌≡◌, inl, inr, ℕ, Bool, true, false, cond, List, [], ◌∷◌, chars, IsUtf8, encode_utf8_all, codes, Option, Some, None, refl, sym, subst}
use Rattle.std.specs.Prelude.{◌||◌}
use Rattle.std.specs.List.{list_all}
use Rattle.std.specs.Str.{all_scalars, bytes_eq}
use Rattle.std.proofs.lemmas.Str.{scalars-chars}
use Rattle.term_core.specs.Names.{has_scheme}
use Rattle.term_core.specs.Terminals.{IsBlank}
use Rattle.term_core.specs.declared.token.Kind.{Kind}
use Rattle.term_core.specs.declared.token.Kind.TheVariants as kinds
use Rattle.sparql_lex.proofs.Bools.{both}
use Rattle.sparql_tree.specs.declared.symbol.Shape.{Shape}
use Rattle.sparql_tree.specs.declared.symbol.Shape.TheVariants as shapes
use Rattle.sparql_tree.specs.declared.symbol.Symbol.{Symbol}
use Rattle.sparql_tree.specs.Refusals.{AreSymbols}
use Rattle.sparql_tree.specs.Prologue.{prefixes_of}
use Rattle.sparql_tree.specs.Symbols.{Lexeme, Prefixes, IsStringSymbol, IsSymbolOf, AreSymbolsOf, symbol, other, iri_symbol, name_symbol}
use Rattle.sparql_tree.specs.Words.{Table, first_row, is_word, word_in, or_shape, clause_words, pattern_words, term_functions, value_functions, other_word, word_shape, marks, operators, sign_shape}
use Rattle.sparql_symbol.proofs.Frames.{scalars-behind}
use Rattle.sparql_symbol.proofs.Judged.{text-lexemes, rest-lexemes}
use Rattle.sparql_symbol.proofs.Standing.{AreLexemes}
use Rattle.part_texts.proofs.Forms.{IsWrittenLabel}
use Rattle.part_texts.proofs.Rest.{IsLabelled, AreLabelled}

-- a symbol whose label can be written, if it is one
abbrev IsFine : Symbol → Type 0
IsFine symbol = IsLabelled symbol.shape symbol.value

by_test : (t : Bool) (a b : Symbol) → IsFine a → IsFine b → IsFine (cond t a b)
by_test true a b h k = h
by_test false a b h k = k

iri-fine : (iri : List ℕ) → IsFine (iri_symbol iri)
iri-fine iri = by_test (has_scheme iri) (symbol shapes.Iri iri) other tt tt

name-fine : (o : Option (List ℕ)) (local : List ℕ) → IsFine (name_symbol o local)
name-fine None local = tt
name-fine (Some iri) local = tt

blank-fine : (text : List ℕ) → IsUtf8 text → (h : IsBlank (chars text)) → IsWrittenLabel (encode_utf8_all h.label)
blank-fine text utf8 h = record {
  characters = h.label;
  is_text = record { scalars = scalars-behind (95 ∷ 58 ∷ []) h.label (subst (λ cs. all_scalars cs ≡ true) h.spelled (scalars-chars text utf8)); encoded = refl };
  is_label = h.is_label;
}

-- ---- words and signs are no labels

abbrev is_no_label : Shape → Bool
is_no_label shapes.Blank = false
is_no_label shape = true

no_label-fine : (shape : Shape) (value : List ℕ) → is_no_label shape ≡ true → IsLabelled shape value
no_label-fine shapes.Blank value e = absurd (cc)
no_label-fine shape value e = tt

abbrev MayBe : Option Shape → Type 0
MayBe None = Unit {0}
MayBe (Some shape) = is_no_label shape ≡ true

row-fine : (test : List ℕ → Bool) (table : Table) → list_all (λ (row : List ℕ × Shape). is_no_label row.1) table ≡ true → MayBe (first_row test table)
row-fine test [] all = tt
row-fine test (row ∷ rows) all =
    let a = both (is_no_label row.1) _ all in elim (test row.0) as (λ t. MayBe (cond t (Some row.1) (first_row test rows))) [ true ↦ a.0 | false ↦ row-fine test rows a.1 ]

or-fine : (o : Option Shape) (shape : Shape) → MayBe o → is_no_label shape ≡ true → is_no_label (or_shape o shape) ≡ true
or-fine None shape h k = k
or-fine (Some first) shape h k = h

other-fine : (text : List ℕ) → MayBe (other_word text)
other-fine text =
    elim (bytes_eq text (codes "a")) as (λ t. MayBe (cond t (Some shapes.IsA) (cond (is_word text (codes "true") || is_word text (codes "false")) (Some shapes.Boolean) None))) [
      | true ↦ refl
      | false ↦ elim (is_word text (codes "true") || is_word text (codes "false")) as (λ t. MayBe (cond t (Some shapes.Boolean) None)) [ true ↦ refl | false ↦ tt ]
    ]

word-fine : (text : List ℕ) → is_no_label (word_shape text) ≡ true
word-fine text =
    or-fine (word_in clause_words text) _ (row-fine (is_word text) clause_words refl)
    (or-fine (word_in pattern_words text) _ (row-fine (is_word text) pattern_words refl)
    (or-fine (word_in term_functions text) _ (row-fine (is_word text) term_functions refl)
    (or-fine (word_in value_functions text) _ (row-fine (is_word text) value_functions refl)
    (or-fine (other_word text) shapes.Other (other-fine text) refl))))

sign-fine : (text : List ℕ) → is_no_label (sign_shape text) ≡ true
sign-fine text =
    or-fine (first_row (bytes_eq text) marks) _ (row-fine (bytes_eq text) marks refl)
    (or-fine (first_row (bytes_eq text) operators) shapes.Other (row-fine (bytes_eq text) operators refl) refl)

-- ---- symbols

string-fine : (characters : List ℕ) (symbol : Symbol) → IsStringSymbol characters symbol → IsFine symbol
string-fine characters symbol (inl (h, e)) = subst IsFine (sym e) tt
string-fine characters symbol (inr (h, e)) = subst IsFine (sym e) tt

symbol-fine : (prefixes : Prefixes) (kind : Kind) (text : List ℕ) (symbol : Symbol) → IsUtf8 text → IsSymbolOf prefixes kind text symbol → IsFine symbol
symbol-fine prefixes kinds.Iri text symbol utf8 h = subst IsFine (sym h.1) (iri-fine (encode_utf8_all h.0.iri))
symbol-fine prefixes kinds.PName text symbol utf8 h = subst IsFine (sym h.1) (name-fine (prefixes _) _)
symbol-fine prefixes kinds.Blank text symbol utf8 h = subst IsFine (sym h.1) (blank-fine text utf8 h.0)
symbol-fine prefixes kinds.Var text symbol utf8 h = subst IsFine (sym h.1) tt
symbol-fine prefixes kinds.String text symbol utf8 h = string-fine (chars text) symbol h
symbol-fine prefixes kinds.Lang text symbol utf8 h = subst IsFine (sym h.1) tt
symbol-fine prefixes kinds.Integer text symbol utf8 h = subst IsFine (sym h) tt
symbol-fine prefixes kinds.Decimal text symbol utf8 h = subst IsFine (sym h) tt
symbol-fine prefixes kinds.Double text symbol utf8 h = subst IsFine (sym h) tt
symbol-fine prefixes kinds.Word text symbol utf8 h =
    subst IsFine (sym h) (by_test (is_word text (codes "true")) _ _ tt (by_test (is_word text (codes "false")) _ _ tt (no_label-fine (word_shape text) [] (word-fine text))))
symbol-fine prefixes kinds.Sign text symbol utf8 h = subst IsFine (sym h) (no_label-fine (sign_shape text) [] (sign-fine text))

symbols-fine : (prefixes : Prefixes) (ls : List Lexeme) (ss : List Symbol) → AreLexemes ls → AreSymbolsOf prefixes ls ss → AreLabelled ss
symbols-fine prefixes [] [] all h = tt
symbols-fine prefixes [] (symbol ∷ ss) all h = absurd h
symbols-fine prefixes (l ∷ ls) [] all h = absurd h
symbols-fine prefixes (l ∷ ls) (symbol ∷ ss) all h = (symbol-fine prefixes l.kind l.text symbol all.0.utf8 h.0, symbols-fine prefixes ls ss all.1 h.1)

pub text-labelled : (text : List ℕ) (ss : List Symbol) → AreSymbols text ss → AreLabelled ss
text-labelled text ss h =
    let all : AreLexemes h.ls = subst AreLexemes (sym h.tokens.spelled) (text-lexemes text h.tokens.ts h.tokens.tokens) in
    symbols-fine (prefixes_of h.declarations) h.rest ss (rest-lexemes h.prologue all) h.are_symbols
