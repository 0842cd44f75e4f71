-- The tokens of a text behind SELECT, which stands once.
use Rattle.std.proofs.Common.{◌≡◌, ℕ, true, false, List, [], ◌∷◌, ◌++◌, None, refl, sym, subst, ap, ◌∙◌, append-nil, chars, codes}
use Rattle.std.proofs.lemmas.Str.{chars-encodes}
use Rattle.nt_text.proofs.WrittenText.{text_small, text_both}
use Rattle.term_core.specs.Characters.{IsTextOf}
use Rattle.term_core.specs.Tokens.{Tokens, Lexes, stop, space, next, IsLongest, width}
use Rattle.term_core.specs.Tokens as tokens
use Rattle.term_core.specs.declared.token.Kind.TheVariants as kinds
use Rattle.term_core.specs.declared.token.Token.{Token}
use Rattle.sparql_tree.specs.declared.symbol.Shape.TheVariants as s
use Rattle.sparql_tree.specs.declared.symbol.Symbol.{Symbol}
use Rattle.sparql_tree.specs.Prologue.{NoDeclaration}
use Rattle.sparql_tree.specs.Symbols.{Prefixes, Lexeme, lexemes, AreSymbolsOf, bare}
use Rattle.sparql_tree.specs.Unsupported.{first_unsupported}
use Rattle.sparql_tree.specs.Words.{is_word}
use Rattle.sparql_print.specs.ExprText.{spaced}
use Rattle.sparql_print.proofs.Separate.{longest-separate}
use Rattle.sparql_print.proofs.Gives.{Gives, gap, Cut, cut-of, IsShown}

-- a text with these symbols, behind no prologue
pub record IsSelected (text : List ℕ) (ss : List Symbol) : Type 0 where
  pub ts : List Token
  pub tokens : Tokens text ts
  pub answered : first_unsupported (lexemes text ts) ≡ None
  pub symbols : (prefixes : Prefixes) → AreSymbolsOf prefixes (lexemes text ts) ss
  pub no_prologue : NoDeclaration (lexemes text ts)

no_prefix : (ls : List Lexeme) (first : Lexeme) → first.text ≡ codes "SELECT" → NoDeclaration (first ∷ ls)
no_prefix ls first h word name iri rest d e k =
    let same : first ≡ word = cc e in
    let is : is_word (codes "SELECT") (codes "PREFIX") ≡ true = subst (λ t. is_word t (codes "PREFIX") ≡ true) (ap (λ (l : Lexeme). l.text) (sym same) ∙ h) k.is_word.word in absurd (cc)

pub selected : (text : List ℕ) (add : List Symbol → List Symbol) → IsShown text add → IsSelected (spaced (codes "SELECT") text) (bare s.Select ∷ add [])
unfolding lib.Utf8.encode
selected text add h =
    let ss : List Symbol = add [] in
    let front : List ℕ = codes "SELECT" in
    let cs : List ℕ = 32 ∷ h.characters in
    let is : IsTextOf (front ++ cs) (front ++ 32 ∷ text) = text_both front cs front (32 ∷ text) (text_small front refl) (text_both (32 ∷ []) h.characters (32 ∷ []) text (text_small (32 ∷ []) refl) h.is_text) in
    let whole : List ℕ = front ++ 32 ∷ text in
    let gives : Gives cs ss [] [] = subst (λ v. Gives v ss [] []) (ap (λ v. 32 ∷ v) (append-nil h.characters)) (gap (h.gives [] [] tt)) in
    let c : Cut whole 6 cs ss = cut-of gives refl refl whole front 6 (ap (λ v. front ++ v) (sym (text_both (32 ∷ []) h.characters (32 ∷ []) text (text_small (32 ∷ []) refl) h.is_text).encoded)) refl in
    let same : front ++ cs ≡ chars whole = sym (chars-encodes (front ++ cs) is.scalars) ∙ ap chars is.encoded in
    record {
      ts = tokens.token kinds.Word 0 6 ∷ c.ts;
      tokens = record {
        utf8 = (front ++ cs, (is.scalars, is.encoded));
        end = c.end;
        lexed = subst (λ t. Lexes 0 t (tokens.token kinds.Word 0 6 ∷ c.ts) c.end []) same
            (next {kind = kinds.Word} {front = front} {text = cs} (longest-separate kinds.Word front cs (λ e. absurd (cc)) (λ e. absurd (cc)) (refl, refl) refl) c.lexed);
      };
      answered = c.answered true false;
      symbols = λ prefixes. (refl, c.symbols prefixes);
      no_prologue = no_prefix (lexemes whole c.ts) _ refl;
    }
