-- Which expressions have names and terms that can be written (SPARQL 1.1, 19.8).
use Rattle.std.specs.Prelude.{◌≡◌, ℕ, true, List, ◌∷◌}
use Rattle.term_core.specs.Characters.{AreAll, IsTextOf}
use Rattle.term_core.specs.Mappings.{Name}
use Rattle.term_core.specs.Spelling.{IsSpelled}
use Rattle.term_core.specs.Terminals.{is_query_label_first, is_variable_part}
use Rattle.sparql_tree.specs.Exprs.{Expr, Var, Const, Or, And, Not, Plus, Minus, Compare, OneOf, Sum, Product, Call, Aggregate, AggregateAll, Exprs, EndOfExprs, ThenExpr, Operands, EndOfOperands, ThenOperand}
use Rattle.term_core.specs.declared.term.Term.{Term}
use Rattle.term_core.specs.declared.term.Term.TheVariants as terms

-- the UTF-8 of a variable's name (SPARQL 1.1 19.8, VARNAME)
pub record IsSpelledName (name : Name) : Type 0 where
  pub first : ℕ
  pub more : List ℕ
  pub is_text : IsTextOf (first ∷ more) name
  pub is_first : is_query_label_first first ≡ true
  pub are_parts : AreAll is_variable_part more

-- an IRI or a literal that can be written; a blank node is no expression (SPARQL 1.1 19.8, PrimaryExpression)
abbrev pub IsConstant : Term → Type 0
IsConstant (terms.Blank label) = ⊥
IsConstant term = IsSpelled term

unfoldable mutual
  -- each name is one of a variable, and each constant a term that can be written
  pub AreSpelledIn : Expr → Type 0
  AreSpelledIn (Var name) = IsSpelledName name
  AreSpelledIn (Const term) = IsConstant term
  AreSpelledIn (Or parts) = AreSpelledInAll parts
  AreSpelledIn (And parts) = AreSpelledInAll parts
  AreSpelledIn (Not value) = AreSpelledIn value
  AreSpelledIn (Plus value) = AreSpelledIn value
  AreSpelledIn (Minus value) = AreSpelledIn value
  AreSpelledIn (Compare op left right) = AreSpelledIn left × AreSpelledIn right
  AreSpelledIn (OneOf left items negated) = AreSpelledIn left × AreSpelledInAll items
  AreSpelledIn (Sum first rest) = AreSpelledIn first × AreSpelledInOperands rest
  AreSpelledIn (Product first rest) = AreSpelledIn first × AreSpelledInOperands rest
  AreSpelledIn (Call function arguments) = AreSpelledInAll arguments
  AreSpelledIn (Aggregate kind distinct argument) = AreSpelledIn argument
  AreSpelledIn (AggregateAll kind distinct) = Unit {0}

  -- of each expression of a list
  pub AreSpelledInAll : Exprs → Type 0
  AreSpelledInAll EndOfExprs = Unit {0}
  AreSpelledInAll (ThenExpr first rest) = AreSpelledIn first × AreSpelledInAll rest

  -- of each operand
  pub AreSpelledInOperands : Operands → Type 0
  AreSpelledInOperands EndOfOperands = Unit {0}
  AreSpelledInOperands (ThenOperand inverse value rest) = AreSpelledIn value × AreSpelledInOperands rest
