-- Which answer a text has.
use Rattle.std.proofs.Common.{◌≡◌, ◌∙◌, ◌≤◌, ℕ, false, nat_lt, List, [], ◌∷◌, None, length, IfOk, Result, Ok, Err, refl, sym, ap, subst, arith}
use Rattle.std.proofs.lemmas.Bool.Decides.{nat_tests}
use Rattle.term_core.specs.Tokens.{Tokens}
use Rattle.term_core.specs.declared.token.Kind.{Kind}
use Rattle.term_core.specs.declared.token.Kind.TheVariants as kinds
use Rattle.term_core.specs.declared.token.Token.{Token}
use Rattle.sparql_tree.specs.declared.symbol.Symbol.{Symbol}
use Rattle.sparql_tree.specs.Symbols.{Lexeme, Prefixes, name_symbol, lexemes, AreSymbolsOf}
use Rattle.sparql_tree.specs.Prologue.{Declaration, IsPrologue, ended, declared, no_prefixes, prefixes_over, prefixes_of}
use Rattle.sparql_symbol.specs.Reading.{AreOfLexemes, before_colon, behind_colon, local_at, read_symbol, read_symbols, read_prologue}
use Rattle.sparql_tree.specs.Refusals.{AreTokensOf, AreSymbols}
use Rattle.sparql_tree.specs.Unsupported.{first_unsupported, deepest}
use Rattle.sparql_symbol.proofs.Declarations.{prologue-sound}
use Rattle.sparql_symbol.proofs.Prologues.{over-same}
use Rattle.sparql_symbol.proofs.Readings.{readings-are}
use Rattle.sparql_symbol.proofs.Standing.{AreLexemes, tokens-stand, stand-lexemes}

pub tokens-of : (text : List ℕ) (ts : List Token) → length text ≤ 262144 → Tokens text ts → AreTokensOf text (lexemes text ts)
tokens-of text ts small tokens = record { small = small; ts = ts; tokens = tokens; spelled = refl }

pub text-lexemes : (text : List ℕ) (ts : List Token) → Tokens text ts → AreLexemes (lexemes text ts)
text-lexemes text ts h = stand-lexemes text ts h.utf8 (tokens-stand text ts h)

-- what stands behind the prologue
pub rest-lexemes : {ls rest : List Lexeme} {ds : List Declaration} → IsPrologue ls ds rest → AreLexemes ls → AreLexemes rest
rest-lexemes (ended k) h = h
rest-lexemes (declared k more) h = rest-lexemes more h.1.1.1

not-less : (n : ℕ) → nat_lt 256 n ≡ false → n ≤ 256
not-less n h = grind (arith, nat_tests)

-- what is read of a text's tokens are their symbols
pub symbols-spelled : (text : List ℕ) (ts : List Token) (ss : List Symbol) → length text ≤ 262144 → Tokens text ts
    → first_unsupported (lexemes text ts) ≡ None → nat_lt 256 (deepest (lexemes text ts)) ≡ false → AreOfLexemes (lexemes text ts) ss → AreSymbols text ss
symbols-spelled text ts ss small tokens answered shallow h =
    let ls = lexemes text ts in
    let lexemes' = text-lexemes text ts tokens in
    let sound = prologue-sound ls lexemes' in
    record {
      ls = ls;
      tokens = tokens-of text ts small tokens;
      answered = answered;
      shallow = not-less (deepest ls) shallow;
      declarations = (read_prologue ls).0;
      rest = (read_prologue ls).1;
      prologue = sound;
      are_symbols = subst (AreSymbolsOf (prefixes_of (read_prologue ls).0) (read_prologue ls).1) (sym h)
          (readings-are (prefixes_of (read_prologue ls).0) (read_prologue ls).1 (rest-lexemes sound lexemes'));
    }

symbol-same : (f g : Prefixes) → ((q : List ℕ) → f q ≡ g q) → (kind : Kind) (text : List ℕ) → read_symbol f kind text ≡ read_symbol g kind text
symbol-same f g h kinds.PName text = ap (λ iri. name_symbol iri (local_at (behind_colon text))) (h (before_colon text))
symbol-same f g h _ text = refl

symbols-same : (f g : Prefixes) → ((q : List ℕ) → f q ≡ g q) → (ls : List Lexeme) → read_symbols f ls ≡ read_symbols g ls
symbols-same f g h [] = refl
symbols-same f g h (l ∷ ls) =
    ap (λ s. s ∷ read_symbols f ls) (symbol-same f g h l.kind l.text) ∙ ap (λ ss. read_symbol g l.kind l.text ∷ ss) (symbols-same f g h ls)

-- the symbols behind the prologue, by prefixes that are those of its declarations
behind-same : (f g : Prefixes) (ls rest : List Lexeme) → rest ≡ (read_prologue ls).1 → ((q : List ℕ) → f q ≡ prefixes_over g (read_prologue ls).0 q)
    → ((q : List ℕ) → g q ≡ None) → AreOfLexemes ls (read_symbols f rest)
behind-same f g ls rest e declares none =
    let same = λ (q : List ℕ). declares q ∙ over-same g no_prefixes none (read_prologue ls).0 q in
    ap (read_symbols f) e ∙ symbols-same f (prefixes_of (read_prologue ls).0) same (read_prologue ls).1

pub behind-read : {E : Type 0} (r : Result (List Symbol) E) (f g : Prefixes) (ls rest : List Lexeme) → IfOk r (λ ss. ss ≡ read_symbols f rest)
    → rest ≡ (read_prologue ls).1 → ((q : List ℕ) → f q ≡ prefixes_over g (read_prologue ls).0 q) → ((q : List ℕ) → g q ≡ None)
    → IfOk r (AreOfLexemes ls)
behind-read (Ok ss) f g ls rest h e declares none = h ∙ behind-same f g ls rest e declares none
behind-read (Err e) f g ls rest h same declares none = tt
