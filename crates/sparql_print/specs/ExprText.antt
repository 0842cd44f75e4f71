-- The text of an expression: one space between its pieces, each operation in parentheses (SPARQL 1.1, 19.8, rules 110 to 127).
use Rattle.std.specs.Prelude.{ℕ, Bool, true, false, codes, List, [], ◌∷◌, ◌++◌, flat_map}
use Rattle.term_core.specs.Texts.{term_text}
use Rattle.sparql_tree.specs.Exprs.{Expr, Var, Const, Or, And, Not, Plus, Minus, Compare, OneOf, Sum, Product, Call, Aggregate, AggregateAll, Exprs, EndOfExprs, ThenExpr, Operands, EndOfOperands, ThenOperand}
use Rattle.sparql_tree.specs.declared.words.AggregateKind.{AggregateKind}
use Rattle.sparql_tree.specs.declared.words.AggregateKind.TheVariants as kinds
use Rattle.sparql_tree.specs.declared.words.CompareOp.{CompareOp}
use Rattle.sparql_tree.specs.declared.words.CompareOp.TheVariants as ops
use Rattle.sparql_tree.specs.declared.words.Function.{Function}
use Rattle.sparql_tree.specs.declared.words.Function.TheVariants as functions

-- two texts with a space between
abbrev pub spaced : List ℕ → List ℕ → List ℕ
spaced left right = left ++ 32 ∷ right

-- a text in parentheses
abbrev pub in_parens : List ℕ → List ℕ
in_parens text = spaced (codes "(") (spaced text (codes ")"))

-- a sign and a text behind other texts
abbrev pub put_behind : List ℕ → List ℕ → List ℕ
put_behind sign text = 32 ∷ spaced sign text

-- texts with a sign between
abbrev pub separated : List ℕ → List (List ℕ) → List ℕ
separated sign [] = []
separated sign (first ∷ rest) = first ++ flat_map (put_behind sign) rest

-- texts in parentheses, with commas between (SPARQL 1.1 19.8, ExpressionList)
abbrev pub list_text : List (List ℕ) → List ℕ
list_text [] = spaced (codes "(") (codes ")")
list_text (first ∷ rest) = in_parens (separated (codes ",") (first ∷ rest))

-- the sign of a comparison (SPARQL 1.1 19.8, RelationalExpression)
abbrev pub op_text : CompareOp → List ℕ
op_text ops.Eq = codes "="
op_text ops.Ne = codes "!="
op_text ops.Lt = codes "<"
op_text ops.Gt = codes ">"
op_text ops.Le = codes "<="
op_text ops.Ge = codes ">="

-- the word of a membership (SPARQL 1.1 19.8, RelationalExpression)
abbrev pub in_text : Bool → List ℕ
in_text true = codes "NOT IN"
in_text false = codes "IN"

-- the sign of a further summand (SPARQL 1.1 19.8, AdditiveExpression)
abbrev pub sum_sign : Bool → List ℕ
sum_sign true = codes "-"
sum_sign false = codes "+"

-- the sign of a further factor (SPARQL 1.1 19.8, MultiplicativeExpression)
abbrev pub product_sign : Bool → List ℕ
product_sign true = codes "/"
product_sign false = codes "*"

-- the name of a function (SPARQL 1.1 19.8, BuiltInCall)
abbrev pub function_text : Function → List ℕ
function_text functions.Bound = codes "BOUND"
function_text functions.SameTerm = codes "SAMETERM"
function_text functions.IsIri = codes "ISIRI"
function_text functions.IsBlank = codes "ISBLANK"
function_text functions.IsLiteral = codes "ISLITERAL"
function_text functions.IsNumeric = codes "ISNUMERIC"
function_text functions.If = codes "IF"
function_text functions.Coalesce = codes "COALESCE"
function_text functions.Str = codes "STR"
function_text functions.Lang = codes "LANG"
function_text functions.Datatype = codes "DATATYPE"
function_text functions.StrLen = codes "STRLEN"
function_text functions.StrStarts = codes "STRSTARTS"
function_text functions.StrEnds = codes "STRENDS"
function_text functions.Contains = codes "CONTAINS"
function_text functions.Concat = codes "CONCAT"
function_text functions.Abs = codes "ABS"

-- the name of an aggregate (SPARQL 1.1 19.8, Aggregate)
abbrev pub aggregate_text : AggregateKind → List ℕ
aggregate_text kinds.Count = codes "COUNT"
aggregate_text kinds.Sum = codes "SUM"
aggregate_text kinds.Avg = codes "AVG"
aggregate_text kinds.Min = codes "MIN"
aggregate_text kinds.Max = codes "MAX"

-- what stands before the argument of an aggregate (SPARQL 1.1 19.8, Aggregate)
abbrev pub distinct_text : Bool → List ℕ
distinct_text true = codes "DISTINCT "
distinct_text false = []

unfoldable mutual
  -- the text of an expression
  pub expr_text : Expr → List ℕ
  expr_text (Var name) = 63 ∷ name
  expr_text (Const term) = term_text term
  expr_text (Or parts) = in_parens (separated (codes "||") (expr_texts parts))
  expr_text (And parts) = in_parens (separated (codes "&&") (expr_texts parts))
  expr_text (Not value) = in_parens (spaced (codes "!") (expr_text value))
  expr_text (Plus value) = in_parens (spaced (codes "+") (expr_text value))
  expr_text (Minus value) = in_parens (spaced (codes "-") (expr_text value))
  expr_text (Compare op left right) = in_parens (spaced (expr_text left) (spaced (op_text op) (expr_text right)))
  expr_text (OneOf left items negated) = in_parens (spaced (expr_text left) (spaced (in_text negated) (list_text (expr_texts items))))
  expr_text (Sum first rest) = in_parens (expr_text first ++ operands_text sum_sign rest)
  expr_text (Product first rest) = in_parens (expr_text first ++ operands_text product_sign rest)
  expr_text (Call function arguments) = spaced (function_text function) (list_text (expr_texts arguments))
  expr_text (Aggregate kind distinct argument) = spaced (aggregate_text kind) (in_parens (distinct_text distinct ++ expr_text argument))
  expr_text (AggregateAll kind distinct) = spaced (aggregate_text kind) (in_parens (distinct_text distinct ++ codes "*"))

  -- the texts of a list's expressions
  pub expr_texts : Exprs → List (List ℕ)
  expr_texts EndOfExprs = []
  expr_texts (ThenExpr first rest) = expr_text first ∷ expr_texts rest

  -- further operands, each behind its sign
  pub operands_text : (Bool → List ℕ) → Operands → List ℕ
  operands_text sign EndOfOperands = []
  operands_text sign (ThenOperand inverse value rest) = put_behind (sign inverse) (expr_text value) ++ operands_text sign rest
