-- The symbols of the text of an expression (SPARQL 1.1, 19.8).
use Rattle.std.specs.Prelude.{ℕ, Bool, true, false, List, [], ◌∷◌, if◌then◌else◌}
use Rattle.std.specs.Str.{bytes_eq}
use Rattle.term_core.specs.Texts.{xsd_string}
use Rattle.term_core.specs.declared.term.Term.{Term}
use Rattle.term_core.specs.declared.term.Term.TheVariants as terms
use Rattle.sparql_tree.specs.Exprs.{Expr, Var, Const, Or, And, Not, Plus, Minus, Compare, OneOf, Sum, Product, Call, Aggregate, AggregateAll, Exprs, EndOfExprs, ThenExpr, Operands, EndOfOperands, ThenOperand}
use Rattle.sparql_tree.specs.declared.words.CompareOp.{CompareOp}
use Rattle.sparql_tree.specs.declared.words.CompareOp.TheVariants as ops
use Rattle.sparql_tree.specs.declared.symbol.Shape.{Shape}
use Rattle.sparql_tree.specs.declared.symbol.Shape.TheVariants as s
use Rattle.sparql_tree.specs.declared.symbol.Symbol.{Symbol}
use Rattle.sparql_tree.specs.Symbols.{symbol, bare}

-- what stands behind a string's quotes, before the rest: a tag, or ^^ and a datatype, which the one of plain strings lacks
abbrev pub kind_symbols : List ℕ → List ℕ → List Symbol → List Symbol
kind_symbols datatype [] rest = if bytes_eq datatype xsd_string then rest else bare s.Typed ∷ symbol s.Iri datatype ∷ rest
kind_symbols datatype (b ∷ tag) rest = symbol s.Tag (b ∷ tag) ∷ rest

-- a term's symbols, before the rest
abbrev pub term_symbols : Term → List Symbol → List Symbol
term_symbols (terms.Iri iri) rest = symbol s.Iri iri ∷ rest
term_symbols (terms.Blank label) rest = symbol s.Blank label ∷ rest
term_symbols (terms.Literal lexical datatype lang) rest = symbol s.Quoted lexical ∷ kind_symbols datatype lang rest

-- the sign of a comparison (SPARQL 1.1 19.8, RelationalExpression)
abbrev pub op_shape : CompareOp → Shape
op_shape ops.Eq = s.Equal
op_shape ops.Ne = s.Unequal
op_shape ops.Lt = s.Less
op_shape ops.Gt = s.Greater
op_shape ops.Le = s.AtMost
op_shape ops.Ge = s.AtLeast

-- IN, or NOT and IN (SPARQL 1.1 19.8, RelationalExpression)
abbrev pub in_symbols : Bool → List Symbol → List Symbol
in_symbols true rest = bare s.Not ∷ bare s.In ∷ rest
in_symbols false rest = bare s.In ∷ rest

-- the sign of a further summand (SPARQL 1.1 19.8, AdditiveExpression)
abbrev pub sum_shape : Bool → Shape
sum_shape true = s.Minus
sum_shape false = s.Plus

-- the sign of a further factor (SPARQL 1.1 19.8, MultiplicativeExpression)
abbrev pub product_shape : Bool → Shape
product_shape true = s.Slash
product_shape false = s.Star

-- DISTINCT, or nothing (SPARQL 1.1 19.8, Aggregate)
abbrev pub distinct_symbols : Bool → List Symbol → List Symbol
distinct_symbols true rest = bare s.Distinct ∷ rest
distinct_symbols false rest = rest

unfoldable mutual
  -- an expression's symbols, before the rest
  pub expr_symbols : Expr → List Symbol → List Symbol
  expr_symbols (Var name) rest = symbol s.Var name ∷ rest
  expr_symbols (Const term) rest = term_symbols term rest
  expr_symbols (Or parts) rest = bare s.Open ∷ joined_symbols s.Or parts (bare s.Close ∷ rest)
  expr_symbols (And parts) rest = bare s.Open ∷ joined_symbols s.And parts (bare s.Close ∷ rest)
  expr_symbols (Not value) rest = bare s.Open ∷ bare s.Bang ∷ expr_symbols value (bare s.Close ∷ rest)
  expr_symbols (Plus value) rest = bare s.Open ∷ bare s.Plus ∷ expr_symbols value (bare s.Close ∷ rest)
  expr_symbols (Minus value) rest = bare s.Open ∷ bare s.Minus ∷ expr_symbols value (bare s.Close ∷ rest)
  expr_symbols (Compare op left right) rest =
      bare s.Open ∷ expr_symbols left (bare (op_shape op) ∷ expr_symbols right (bare s.Close ∷ rest))
  expr_symbols (OneOf left items negated) rest =
      bare s.Open ∷ expr_symbols left (in_symbols negated (bare s.Open ∷ joined_symbols s.Comma items (bare s.Close ∷ bare s.Close ∷ rest)))
  expr_symbols (Sum first more) rest = bare s.Open ∷ expr_symbols first (operand_symbols sum_shape more (bare s.Close ∷ rest))
  expr_symbols (Product first more) rest = bare s.Open ∷ expr_symbols first (operand_symbols product_shape more (bare s.Close ∷ rest))
  expr_symbols (Call function arguments) rest =
      bare (s.Function function) ∷ bare s.Open ∷ joined_symbols s.Comma arguments (bare s.Close ∷ rest)
  expr_symbols (Aggregate kind distinct argument) rest =
      bare (s.Aggregate kind) ∷ bare s.Open ∷ distinct_symbols distinct (expr_symbols argument (bare s.Close ∷ rest))
  expr_symbols (AggregateAll kind distinct) rest =
      bare (s.Aggregate kind) ∷ bare s.Open ∷ distinct_symbols distinct (bare s.Star ∷ bare s.Close ∷ rest)

  -- the symbols of a list's expressions with a sign between, before the rest
  pub joined_symbols : Shape → Exprs → List Symbol → List Symbol
  joined_symbols sign EndOfExprs rest = rest
  joined_symbols sign (ThenExpr first more) rest = expr_symbols first (more_symbols sign more rest)

  -- further expressions, each behind a sign, before the rest
  pub more_symbols : Shape → Exprs → List Symbol → List Symbol
  more_symbols sign EndOfExprs rest = rest
  more_symbols sign (ThenExpr first more) rest = bare sign ∷ expr_symbols first (more_symbols sign more rest)

  -- further operands, each behind its sign, before the rest
  pub operand_symbols : (Bool → Shape) → Operands → List Symbol → List Symbol
  operand_symbols sign EndOfOperands rest = rest
  operand_symbols sign (ThenOperand inverse value more) rest = bare (sign inverse) ∷ expr_symbols value (operand_symbols sign more rest)
