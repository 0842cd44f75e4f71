-- Which text spells a constraint, on its own (SPARQL 1.1, 19.8, Constraint).
use Rattle.std.specs.Prelude.{◌≡◌, ℕ, Bool, List, [], None}
use Rattle.term_core.specs.Tokens.{Tokens}
use Rattle.term_core.specs.declared.token.Token.{Token}
use Rattle.sparql_tree.specs.Exprs.{Expr}
use Rattle.sparql_tree.specs.declared.symbol.Symbol.{Symbol}
use Rattle.sparql_tree.specs.Symbols.{Prefixes, lexemes, AreSymbolsOf}
use Rattle.sparql_tree.specs.Unsupported.{before, first_unsupported_from}
use Rattle.sparql_tree.specs.GroupPatterns.{IsConstraint}
use Rattle.sparql_print.specs.ExprText.{expr_text, in_parens}

-- the text has tokens; whatever came before it, each is answered; whatever prefixes are declared, they have these symbols, which spell the constraint
pub record SpellsConstraint (aggregates : Bool) (text : List ℕ) (a : Expr) : Type 0 where
  pub ts : List Token
  pub tokens : Tokens text ts
  pub answered : (select count : Bool) → first_unsupported_from (before select count) (lexemes text ts) ≡ None
  pub symbols : List Symbol
  pub are_symbols : (prefixes : Prefixes) → AreSymbolsOf prefixes (lexemes text ts) symbols
  pub spelled : IsConstraint aggregates symbols a []

-- the text of an expression, in parentheses, spells that expression
abbrev pub ReadsBack : Bool → Expr → Type 0
ReadsBack aggregates a = SpellsConstraint aggregates (in_parens (expr_text a)) a
