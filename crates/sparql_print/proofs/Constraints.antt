-- The text of an expression in parentheses spells it as a constraint, and spells no other.
use Rattle.std.proofs.Common.{◌≡◌, ◌≤◌, ℕ, Bool, false, List, [], ◌∷◌, length, Some, sym, subst, ap, ◌∙◌, arith, append-nil}
use Rattle.term_core.specs.Tokens.{Tokens}
use Rattle.term_core.specs.declared.token.Token.{Token}
use Rattle.sparql_lex.proofs.Readings.{one-tokens}
use Rattle.sparql_tree.specs.Exprs.{Expr}
use Rattle.sparql_tree.specs.declared.symbol.Shape.TheVariants as s
use Rattle.sparql_tree.specs.declared.symbol.Symbol.{Symbol}
use Rattle.sparql_tree.specs.Prologue.{NoDeclaration, ended, no_prefixes}
use Rattle.sparql_tree.specs.Refusals.{AreSymbols}
use Rattle.sparql_tree.specs.Symbols.{Lexeme, Prefixes, lexemes, symbol, bare, other, IsSymbolOf, AreSymbolsOf}
use Rattle.sparql_tree.specs.Unsupported.{deepest}
use Rattle.sparql_symbol.proofs.Judged.{tokens-of, text-lexemes}
use Rattle.sparql_symbol.proofs.Readings.{readings-of}
use Rattle.sparql_tree.specs.Heads.{is}
use Rattle.sparql_tree.specs.GroupPatterns.{IsConstraint, constraint}
use Rattle.sparql_grammar.proofs.GroupLaws.{constraint-finds}
use Rattle.sparql_print.specs.ExprText.{expr_text, in_parens}
use Rattle.sparql_print.specs.OfTrees.{IsOfTree}
use Rattle.sparql_print.proofs.ExprSymbols.{expr_symbols}
use Rattle.sparql_print.specs.Spelled.{AreSpelledIn}
use Rattle.sparql_print.specs.Constraints.{SpellsConstraint}
use Rattle.sparql_print.proofs.Gives.{Gives, whole_cut}
use Rattle.sparql_print.proofs.ReadsBack.{reads_back, expr-of}
use Rattle.sparql_print.proofs.Shown.{expr-shown, in_parens-shown}

pub text-spells : (aggregates : Bool) (a : Expr) → IsOfTree aggregates a → AreSpelledIn a → SpellsConstraint aggregates (in_parens (expr_text a)) a
text-spells aggregates a w h =
    let shown = in_parens-shown (expr_text a) (λ ss. expr_symbols a ss) (expr-shown a h) in
    let ss : List Symbol = bare s.Open ∷ expr_symbols a (bare s.Close ∷ []) in
    let gives : Gives shown.characters ss [] [] = subst (λ cs. Gives cs ss [] []) (append-nil shown.characters) (shown.gives [] [] tt) in
    let c = whole_cut shown.characters (in_parens (expr_text a)) ss shown.is_text gives in
    record {
      ts = c.0.ts;
      tokens = c.1;
      answered = c.0.answered;
      symbols = ss;
      are_symbols = c.0.symbols;
      spelled = constraint is (expr-of (reads_back a (bare s.Close ∷ []) w h)) is;
    }

-- ---- one expression

same-parts : {A B : Type 0} (p q : A × B) → Some p ≡ Some q → p.0 ≡ q.0
same-parts p q h = let e : p ≡ q = cc in ap (λ v. v.0) e

one-constraint : (b : Bool) (ts us : List Symbol) (x y : Expr) → ts ≡ us → IsConstraint b ts x [] → IsConstraint b us y [] → x ≡ y
one-constraint b ts us x y e h k =
    let first = (constraint-finds (length ts) h (omega arith)).found in
    let second = (constraint-finds (length ts) (subst (λ v. IsConstraint b v y []) (sym e) k) (omega arith)).found in
    same-parts (x, []) (y, []) (sym first ∙ second)

one-symbols : (text : List ℕ) (ts us : List Token) (a b : List Symbol) → Tokens text ts → ts ≡ us → AreSymbolsOf no_prefixes (lexemes text ts) a → AreSymbolsOf no_prefixes (lexemes text us) b → a ≡ b
one-symbols text ts us a b tokens e h k =
    let all = text-lexemes text ts tokens in
    readings-of no_prefixes (lexemes text ts) a all h
    ∙ sym (readings-of no_prefixes (lexemes text ts) b all (subst (λ vs. AreSymbolsOf no_prefixes (lexemes text vs) b) (sym e) k))

pub spells-one : (aggregates : Bool) (text : List ℕ) (a b : Expr) → SpellsConstraint aggregates text a → SpellsConstraint aggregates text b → a ≡ b
spells-one aggregates text a b h k =
    one-constraint aggregates h.symbols k.symbols a b
    (one-symbols text h.ts k.ts h.symbols k.symbols h.tokens (one-tokens text h.ts k.ts h.tokens k.tokens) (h.are_symbols no_prefixes) (k.are_symbols no_prefixes))
    h.spelled k.spelled

-- ---- within the limits

-- a prefix for each name
abbrev all_prefixes : Prefixes
all_prefixes prefix = Some []

not_both : (t : Symbol) (iri : List ℕ) → t ≡ other → t ≡ symbol s.Iri iri → ⊥
not_both t iri p q = let shapes : s.Other ≡ s.Iri = ap (λ v. v.shape) (sym p ∙ q) in absurd (cc)

-- a prefixed name has another symbol where its prefix is declared
no_name : (ls : List Lexeme) (ss : List Symbol) → ((prefixes : Prefixes) → AreSymbolsOf prefixes ls ss) → NoDeclaration ls
no_name ls ss h word name iri rest d e k =
    go ss (subst (λ v. AreSymbolsOf no_prefixes v ss) e (h no_prefixes)) (subst (λ v. AreSymbolsOf all_prefixes v ss) e (h all_prefixes))
  where
    both : (t : Symbol) → IsSymbolOf no_prefixes name.kind name.text t → IsSymbolOf all_prefixes name.kind name.text t → ⊥
    both t p q =
        let p' = subst (λ v. IsSymbolOf no_prefixes v name.text t) k.is_name.kind p in
        let q' = subst (λ v. IsSymbolOf all_prefixes v name.text t) k.is_name.kind q in
        not_both t _ p'.1 q'.1

    go : (ss : List Symbol) → AreSymbolsOf no_prefixes (word ∷ name ∷ iri ∷ rest) ss → AreSymbolsOf all_prefixes (word ∷ name ∷ iri ∷ rest) ss → ⊥
    go [] p q = p
    go (t ∷ []) p q = p.1
    go (t ∷ u ∷ ss) p q = both u p.1.0 q.1.0

pub within-limits : (aggregates : Bool) (text : List ℕ) (a : Expr) → (h : SpellsConstraint aggregates text a) → length text ≤ 262144
    → deepest (lexemes text h.ts) ≤ 256 → AreSymbols text h.symbols
within-limits aggregates text a h small shallow = record {
  ls = lexemes text h.ts;
  tokens = tokens-of text h.ts small h.tokens;
  answered = h.answered false false;
  shallow = shallow;
  declarations = [];
  rest = lexemes text h.ts;
  prologue = ended (no_name (lexemes text h.ts) h.symbols h.are_symbols);
  are_symbols = h.are_symbols no_prefixes;
}
