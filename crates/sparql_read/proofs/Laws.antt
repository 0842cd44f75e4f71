-- A text has one answer.
use Rattle.std.proofs.Common.{◌≡◌, ◌⊎◌, inl, inr, ◌∙◌, ◌<◌, ◌≤◌, ℕ, Bool, true, false, nat_lt, List, Option, Some, None, length, refl, sym, ap, subst, arith}
use Rattle.std.proofs.lemmas.Bool.Decides.{nat_tests}
use Rattle.std.proofs.lemmas.Bool.{cases_lt}
use Rattle.sparql_lex.proofs.Readings.{one-tokens, one-fault, not-both, always}
use Rattle.sparql_tree.specs.declared.fault.QueryFault.{QueryFault}
use Rattle.sparql_tree.specs.declared.fault.QueryFault.TheVariants as faults
use Rattle.sparql_tree.specs.declared.fault.Size.TheVariants as sizes
use Rattle.term_core.specs.Tokens.{Tokens, FaultAt}
use Rattle.term_core.specs.declared.token.Token.{Token}
use Rattle.sparql_tree.specs.declared.symbol.Symbol.{Symbol}
use Rattle.sparql_tree.specs.Symbols.{Lexeme, lexemes}
use Rattle.sparql_tree.specs.Prologue.{prefixes_of}
use Rattle.sparql_symbol.specs.Reading.{read_symbols, read_prologue}
use Rattle.sparql_tree.specs.Refusals.{AreTokensOf, AreSymbols, HasNoSymbols}
use Rattle.sparql_tree.specs.Unsupported.{first_unsupported, deepest}
use Rattle.sparql_symbol.proofs.Declarations.{prologue-is}
use Rattle.sparql_symbol.proofs.Judged.{text-lexemes, tokens-of, rest-lexemes, symbols-spelled}
use Rattle.sparql_symbol.proofs.Readings.{readings-of}
use Rattle.sparql_symbol.proofs.Standing.{AreLexemes}

-- the tokens of a text are one list
one-list : (text : List ℕ) (a b : List Lexeme) → AreTokensOf text a → AreTokensOf text b → a ≡ b
one-list text a b h k = h.spelled ∙ (ap (lexemes text) (one-tokens text h.ts k.ts h.tokens k.tokens) ∙ sym k.spelled)

all-lexemes : (text : List ℕ) (ls : List Lexeme) → AreTokensOf text ls → AreLexemes ls
all-lexemes text ls h = subst AreLexemes (sym h.spelled) (text-lexemes text h.ts h.tokens)

-- the symbols that are read behind the prologue that is read
abbrev read : List Lexeme → List Symbol
read ls = read_symbols (prefixes_of (read_prologue ls).0) (read_prologue ls).1

are-read : (text : List ℕ) (ss : List Symbol) → (h : AreSymbols text ss) → ss ≡ read h.ls
are-read text ss h =
    let all = all-lexemes text h.ls h.tokens in
    let r = prologue-is all h.prologue in
    readings-of (prefixes_of h.declarations) h.rest ss (rest-lexemes h.prologue all) h.are_symbols
    ∙ (ap (λ ds. read_symbols (prefixes_of ds) h.rest) (sym r.declarations) ∙ ap (read_symbols (prefixes_of (read_prologue h.ls).0)) (sym r.left))

pub one-symbols : (text : List ℕ) (a b : List Symbol) → AreSymbols text a → AreSymbols text b → a ≡ b
one-symbols text a b h k = are-read text a h ∙ (ap read (one-list text h.ls k.ls h.tokens k.tokens) ∙ sym (are-read text b k))

-- ---- refusals

-- a text is too long, has a place where no token begins, or has tokens
pub data Case (text : List ℕ) : Type 0 where
  long : 262144 < length text → Case text
  stuck : (at : ℕ) → length text ≤ 262144 → FaultAt text at → Case text
  cut : (ls : List Lexeme) → AreTokensOf text ls → Case text

abbrev what_is : List ℕ → Option (List ℕ)
what_is what = Some what

-- the cause that a text has in each case
abbrev deep-fault : Bool → Option QueryFault
deep-fault true = Some (faults.TooLarge sizes.Nesting)
deep-fault false = None

abbrev cut-fault : Option (List ℕ) → ℕ → Option QueryFault
cut-fault (Some what) n = Some (faults.Unsupported what)
cut-fault None n = deep-fault (nat_lt 256 n)

abbrev fault-in : List Lexeme → Option QueryFault
fault-in ls = cut-fault (first_unsupported ls) (deepest ls)

abbrev fault-of : (text : List ℕ) → Case text → Option QueryFault
fault-of text (long h) = Some (faults.TooLarge sizes.Text)
fault-of text (stuck at h k) = Some (faults.Lex at)
fault-of text (cut ls h) = fault-in ls

case-of : (text : List ℕ) → Case text
case-of text = elim (cases_lt 262144 (length text)) [
  | inl h ↦ long h
  | inr h ↦ by_tokens (always text) h
]
  where
    by_tokens : ((ts : List Token) × Tokens text ts) ⊎ ((at : ℕ) × FaultAt text at) → length text ≤ 262144 → Case text
    by_tokens (inl t) h = cut (lexemes text t.0) (tokens-of text t.0 h t.1)
    by_tokens (inr f) h = stuck f.0 h f.1

abbrev some_fault : QueryFault → Option QueryFault
some_fault fault = Some fault

too-deep : (n : ℕ) → 256 < n → nat_lt 256 n ≡ true
too-deep n h = grind (arith, nat_tests)

not-deep : (n : ℕ) → n ≤ 256 → nat_lt 256 n ≡ false
not-deep n h = grind (arith, nat_tests)

-- the tokens of two cases
cut-same : (text : List ℕ) (c : Case text) (ls : List Lexeme) → AreTokensOf text ls → fault-of text c ≡ fault-in ls
cut-same text (long h) ls k = absurd (omega (arith, h, k.small))
cut-same text (stuck at h f) ls k = absurd (not-both text k.ts at k.tokens f)
cut-same text (cut ms h) ls k = ap fault-in (one-list text ms ls h k)

-- tokens that have symbols have no cause
spelled-same : (text : List ℕ) (c : Case text) (ss : List Symbol) → AreSymbols text ss → fault-of text c ≡ None
spelled-same text c ss h =
    cut-same text c h.ls h.tokens
    ∙ (ap (λ o. cut-fault o (deepest h.ls)) h.answered
    ∙ ap deep-fault (not-deep (deepest h.ls) h.shallow))

-- a refusal is that of the case
refusal-is : (text : List ℕ) (c : Case text) (fault : QueryFault) → HasNoSymbols text fault → fault-of text c ≡ Some fault
refusal-is text c (faults.TooLarge sizes.Text) h = long-is c
  where
    long-is : (c : Case text) → fault-of text c ≡ Some (faults.TooLarge sizes.Text)
    long-is (long k) = refl
    long-is (stuck at k f) = absurd (omega (arith, h, k))
    long-is (cut ls k) = absurd (omega (arith, h, k.small))
refusal-is text c (faults.TooLarge sizes.Nesting) h =
    cut-same text c h.ls h.tokens
    ∙ (ap (λ o. cut-fault o (deepest h.ls)) h.answered ∙ ap deep-fault (too-deep (deepest h.ls) h.deep))
refusal-is text c (faults.TooLarge _) h = absurd h
refusal-is text c (faults.Lex at) h = stuck-is c
  where
    stuck-is : (c : Case text) → fault-of text c ≡ Some (faults.Lex at)
    stuck-is (long k) = absurd (omega (arith, h.0, k))
    stuck-is (stuck b k f) = ap (λ n. Some (faults.Lex n)) (one-fault text b at f h.1)
    stuck-is (cut ls k) = absurd (not-both text k.ts at k.tokens h.1)
refusal-is text c (faults.Unsupported what) h = cut-same text c h.ls h.tokens ∙ ap (λ o. cut-fault o (deepest h.ls)) h.first
refusal-is text c faults.NotAQuery h = absurd h
refusal-is text c (faults.Scope variable) h = absurd h
refusal-is text c faults.Memory h = absurd h

pub one-refusal : (text : List ℕ) (a b : QueryFault) → HasNoSymbols text a → HasNoSymbols text b → a ≡ b
one-refusal text a b h k =
    let both : some_fault a ≡ some_fault b = sym (refusal-is text (case-of text) a h) ∙ refusal-is text (case-of text) b k in cc

-- symbols are those of a text that has no refusal
pub not-both-answers : (text : List ℕ) (ss : List Symbol) (fault : QueryFault) → AreSymbols text ss → HasNoSymbols text fault → ⊥
not-both-answers text ss fault h k =
    let both : some_fault fault ≡ None = sym (refusal-is text (case-of text) fault k) ∙ spelled-same text (case-of text) ss h in absurd cc

-- one of both
abbrev Answer : List ℕ → Type 0
Answer text = ((ss : List Symbol) × AreSymbols text ss) ⊎ ((fault : QueryFault) × HasNoSymbols text fault)

pub some-answer : (text : List ℕ) → Answer text
some-answer text = by_case (case-of text)
  where
    by_depth : (ls : List Lexeme) → (h : AreTokensOf text ls) → first_unsupported ls ≡ None → (t : Bool) → nat_lt 256 (deepest ls) ≡ t → Answer text
    by_depth ls h answered true deep = inr (faults.TooLarge sizes.Nesting, record { ls = ls; tokens = h; answered = answered; deep = grind (arith, nat_tests) })
    by_depth ls h answered false deep =
        inl (
          read (lexemes text h.ts),
          symbols-spelled text h.ts (read (lexemes text h.ts)) h.small h.tokens (ap first_unsupported (sym h.spelled) ∙ answered) (ap (λ all. nat_lt 256 (deepest all)) (sym h.spelled) ∙ deep) refl,
        )

    by_first : (ls : List Lexeme) → AreTokensOf text ls → (o : Option (List ℕ)) → first_unsupported ls ≡ o → Answer text
    by_first ls h (Some what) e = inr (faults.Unsupported what, record { ls = ls; tokens = h; first = e })
    by_first ls h None e = by_depth ls h e (nat_lt 256 (deepest ls)) refl

    by_case : Case text → Answer text
    by_case (long h) = inr (faults.TooLarge sizes.Text, h)
    by_case (stuck at h k) = inr (faults.Lex at, (h, k))
    by_case (cut ls h) = by_first ls h (first_unsupported ls) refl
