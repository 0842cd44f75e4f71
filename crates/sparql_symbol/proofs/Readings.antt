-- What is read of a token is its symbol, and its only one.
use Rattle.std.proofs.Common.{◌≡◌, ◌∙◌, ℕ, List, [], ◌∷◌, map, inl, inr, chars, IsUtf8, encode_utf8_all, refl, sym, ap}
use Rattle.std.specs.Char.{to_ascii_lowercase}
use Rattle.term_core.specs.Terminals.{IsToken, IsIri, IsShortString, IsLongString}
use Rattle.term_core.specs.declared.token.Kind.{Kind}
use Rattle.term_core.specs.declared.token.Kind.TheVariants as kinds
use Rattle.sparql_tree.specs.declared.symbol.Shape.TheVariants as shapes
use Rattle.sparql_tree.specs.declared.symbol.Symbol.{Symbol}
use Rattle.sparql_symbol.specs.declared.undoing.Place.TheVariants as places
use Rattle.sparql_symbol.specs.Undoing.{undone}
use Rattle.sparql_tree.specs.Symbols.{Prefixes, Lexeme, symbol, iri_symbol, name_symbol, IsStringSymbol, IsSymbolOf, AreSymbolsOf}
use Rattle.sparql_symbol.specs.Reading.{within, spelled, behind_colon, local_at, iri_inside, string_inside, read_symbol, read_symbols}
use Rattle.sparql_symbol.proofs.Escapes.{iri-undone, short-undone, long-undone}
use Rattle.sparql_symbol.proofs.Frames.{iri-framed, blank-framed, variable-framed, language-framed, StringFramed, short-framed, long-framed}
use Rattle.sparql_symbol.proofs.NameParts.{name-read}
use Rattle.sparql_symbol.proofs.Standing.{AreLexemes}

pub iri-read : (text : List ℕ) → IsUtf8 text → (h : IsIri (chars text)) → iri_inside text ≡ encode_utf8_all h.iri
iri-read text utf8 h =
    let f = iri-framed text utf8 h in
    ap (λ cs. encode_utf8_all cs) (ap (undone places.Plain) f.characters ∙ iri-undone h.is_body)

string-framed : (text body value : List ℕ) → StringFramed text body → undone places.Plain body ≡ value → string_inside text ≡ encode_utf8_all value
string-framed text body value f h =
    ap (λ n. spelled (within n n text)) f.is ∙ ap (λ cs. encode_utf8_all cs) (ap (undone places.Plain) f.framed.characters ∙ h)

short-read : (text : List ℕ) → IsUtf8 text → (h : IsShortString (chars text)) → string_inside text ≡ encode_utf8_all h.value
short-read text utf8 h = string-framed text h.body h.value (short-framed text utf8 h) (short-undone h.quote h.quotes h.is_body)

long-read : (text : List ℕ) → IsUtf8 text → (h : IsLongString (chars text)) → string_inside text ≡ encode_utf8_all h.value
long-read text utf8 h = string-framed text h.body h.value (long-framed text utf8 h) (long-undone h.quote h.quotes h.is_body)

string-reading : (text : List ℕ) (s : Symbol) → IsUtf8 text → IsStringSymbol (chars text) s → s ≡ symbol shapes.Quoted (string_inside text)
string-reading text s utf8 (inl h) = h.1 ∙ ap (symbol shapes.Quoted) (sym (short-read text utf8 h.0))
string-reading text s utf8 (inr h) = h.1 ∙ ap (symbol shapes.Quoted) (sym (long-read text utf8 h.0))

-- a symbol of a token is the one that is read
pub reading-of : (prefixes : Prefixes) (kind : Kind) (text : List ℕ) (s : Symbol) → IsUtf8 text → IsSymbolOf prefixes kind text s → s ≡ read_symbol prefixes kind text
reading-of prefixes kinds.Iri text s utf8 h = h.1 ∙ ap iri_symbol (sym (iri-read text utf8 h.0))
reading-of prefixes kinds.PName text s utf8 h =
    let n = name-read text utf8 h.0 in
    h.1 ∙ (ap (λ bs. name_symbol (prefixes (encode_utf8_all h.0.prefix)) bs) (sym n.name) ∙ ap (λ bs. name_symbol (prefixes bs) (local_at (behind_colon text))) (sym n.before))
reading-of prefixes kinds.Blank text s utf8 h = h.1 ∙ ap (symbol shapes.Blank) (sym (blank-framed text utf8 h.0).inner)
reading-of prefixes kinds.Var text s utf8 h = h.1 ∙ ap (symbol shapes.Var) (sym (variable-framed text utf8 h.0).inner)
reading-of prefixes kinds.String text s utf8 h = string-reading text s utf8 h
reading-of prefixes kinds.Lang text s utf8 h = h.1 ∙ ap (λ bs. symbol shapes.Tag (map to_ascii_lowercase bs)) (sym (language-framed text utf8 h.0).inner)
reading-of prefixes kinds.Integer text s utf8 h = h
reading-of prefixes kinds.Decimal text s utf8 h = h
reading-of prefixes kinds.Double text s utf8 h = h
reading-of prefixes kinds.Word text s utf8 h = h
reading-of prefixes kinds.Sign text s utf8 h = h

-- what is read of a token is a symbol of it
pub reading-is : (prefixes : Prefixes) (kind : Kind) (text : List ℕ) → IsUtf8 text → IsToken kind (chars text) → IsSymbolOf prefixes kind text (read_symbol prefixes kind text)
reading-is prefixes kinds.Iri text utf8 h = (h, ap iri_symbol (iri-read text utf8 h))
reading-is prefixes kinds.PName text utf8 h =
    let n = name-read text utf8 h in
    (h, ap (λ bs. name_symbol (prefixes bs) (local_at (behind_colon text))) n.before ∙ ap (λ bs. name_symbol (prefixes (encode_utf8_all h.prefix)) bs) n.name)
reading-is prefixes kinds.Blank text utf8 h = (h, ap (symbol shapes.Blank) (blank-framed text utf8 h).inner)
reading-is prefixes kinds.Var text utf8 h = (h, ap (symbol shapes.Var) (variable-framed text utf8 h).inner)
reading-is prefixes kinds.String text utf8 (inl h) = inl (h, ap (symbol shapes.Quoted) (short-read text utf8 h))
reading-is prefixes kinds.String text utf8 (inr h) = inr (h, ap (symbol shapes.Quoted) (long-read text utf8 h))
reading-is prefixes kinds.Lang text utf8 h = (h, ap (λ bs. symbol shapes.Tag (map to_ascii_lowercase bs)) (language-framed text utf8 h).inner)
reading-is prefixes kinds.Integer text utf8 h = refl
reading-is prefixes kinds.Decimal text utf8 h = refl
reading-is prefixes kinds.Double text utf8 h = refl
reading-is prefixes kinds.Word text utf8 h = refl
reading-is prefixes kinds.Sign text utf8 h = refl

-- the symbols that are read are those of the tokens
pub readings-are : (prefixes : Prefixes) (ls : List Lexeme) → AreLexemes ls → AreSymbolsOf prefixes ls (read_symbols prefixes ls)
readings-are prefixes [] h = tt
readings-are prefixes (l ∷ ls) h = (reading-is prefixes l.kind l.text h.0.utf8 h.0.token, readings-are prefixes ls h.1)

pub readings-of : (prefixes : Prefixes) (ls : List Lexeme) (ss : List Symbol) → AreLexemes ls → AreSymbolsOf prefixes ls ss → ss ≡ read_symbols prefixes ls
readings-of prefixes [] [] h k = refl
readings-of prefixes [] (s ∷ ss) h k = absurd k
readings-of prefixes (l ∷ ls) [] h k = absurd k
readings-of prefixes (l ∷ ls) (s ∷ ss) h k =
    ap (λ t. t ∷ ss) (reading-of prefixes l.kind l.text s h.0.utf8 k.0) ∙ ap (λ ts. read_symbol prefixes l.kind l.text ∷ ts) (readings-of prefixes ls ss h.1 k.1)
