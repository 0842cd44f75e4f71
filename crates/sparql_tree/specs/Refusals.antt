-- Which text has symbols, and which is refused before its grammar is looked at, and why.
use Rattle.std.specs.Prelude.{◌≡◌, ◌<◌, ◌≤◌, ℕ, List, Some, None, length}
use Rattle.sparql_tree.specs.declared.fault.QueryFault.{QueryFault}
use Rattle.sparql_tree.specs.declared.fault.QueryFault.TheVariants as faults
use Rattle.sparql_tree.specs.declared.fault.Size.TheVariants as sizes
use Rattle.term_core.specs.Tokens.{Tokens, FaultAt}
use Rattle.term_core.specs.declared.token.Token.{Token}
use Rattle.sparql_tree.specs.declared.symbol.Symbol.{Symbol}
use Rattle.sparql_tree.specs.Symbols.{Lexeme, lexemes, AreSymbolsOf}
use Rattle.sparql_tree.specs.Prologue.{Declaration, IsPrologue, prefixes_of}
use Rattle.sparql_tree.specs.Unsupported.{first_unsupported, deepest}

-- a text of at most 262,144 bytes with these tokens
pub record AreTokensOf (text : List ℕ) (ls : List Lexeme) : Type 0 where
  pub small : length text ≤ 262144
  pub ts : List Token
  pub tokens : Tokens text ts
  pub spelled : ls ≡ lexemes text ts

-- a token of the text is not answered, and this is the first such
pub record IsUnsupported (text what : List ℕ) : Type 0 where
  pub ls : List Lexeme
  pub tokens : AreTokensOf text ls
  pub first : first_unsupported ls ≡ Some what

-- all tokens are answered, and more than 256 groups are open at one place
pub record IsTooDeep (text : List ℕ) : Type 0 where
  pub ls : List Lexeme
  pub tokens : AreTokensOf text ls
  pub answered : first_unsupported ls ≡ None
  pub deep : 256 < deepest ls

-- all tokens are answered and not nested too deep, and these are their symbols behind the prologue
pub record AreSymbols (text : List ℕ) (symbols : List Symbol) : Type 0 where
  pub ls : List Lexeme
  pub tokens : AreTokensOf text ls
  pub answered : first_unsupported ls ≡ None
  pub shallow : deepest ls ≤ 256
  pub declarations : List Declaration
  pub rest : List Lexeme
  pub prologue : IsPrologue ls declarations rest
  pub are_symbols : AreSymbolsOf (prefixes_of declarations) rest symbols

-- the first cause of a refusal: the text's size, a place where no token begins, a token that is not answered, the nesting
abbrev pub HasNoSymbols : List ℕ → QueryFault → Type 0
HasNoSymbols text (faults.TooLarge sizes.Text) = 262144 < length text
HasNoSymbols text (faults.Lex at) = (length text ≤ 262144) × FaultAt text at
HasNoSymbols text (faults.Unsupported what) = IsUnsupported text what
HasNoSymbols text (faults.TooLarge sizes.Nesting) = IsTooDeep text
HasNoSymbols text _ = ⊥

-- why there are no symbols: want of memory, or a refusal
abbrev pub WhyNoSymbols : List ℕ → QueryFault → Type 0
WhyNoSymbols text faults.Memory = Unit {0}
WhyNoSymbols text fault = HasNoSymbols text fault
