-- The symbols of the text of an expression.
use Rattle.std.proofs.Common.{ℕ, Bool, true, false, List, [], ◌∷◌, ◌++◌, refl, sym, subst, append_assoc, codes}
use Rattle.std.specs.Prelude.{flat_map}
use Rattle.sparql_tree.specs.Exprs.{Expr, Var, Const, Or, And, Not, Plus, Minus, Compare, OneOf, Sum, Product, Call, Aggregate, AggregateAll, Exprs, EndOfExprs, ThenExpr, Operands, EndOfOperands, ThenOperand}
use Rattle.sparql_tree.specs.declared.symbol.Shape.{Shape}
use Rattle.sparql_tree.specs.declared.symbol.Shape.TheVariants as s
use Rattle.sparql_tree.specs.declared.symbol.Symbol.{Symbol}
use Rattle.sparql_tree.specs.Symbols.{bare}
use Rattle.nt_text.proofs.WrittenText.{text_small, text_both}
use Rattle.sparql_print.specs.ExprText.{expr_text, expr_texts, operands_text, spaced, in_parens, put_behind, separated, list_text, op_text, in_text, sum_sign, product_sign, function_text, aggregate_text, distinct_text}
use Rattle.sparql_print.proofs.ExprSymbols.{expr_symbols, joined_symbols, more_symbols, operand_symbols, op_shape, in_symbols, sum_shape, product_shape, distinct_symbols}
use Rattle.sparql_print.specs.Spelled.{AreSpelledIn, AreSpelledInAll, AreSpelledInOperands}
use Rattle.sparql_print.proofs.Separate.{Separate}
use Rattle.sparql_print.proofs.Gives.{IsShown, Gives, done, gap, gives-then}
use Rattle.sparql_print.proofs.Pieces.{spaced-shown, open-shown, close-shown, comma-shown, or-shown, and-shown, bang-shown, plus-shown, minus-shown, star-shown, op-shown, sum_sign-shown, product_sign-shown, in-shown, not-shown, distinct-shown, function-shown, aggregate-shown}
use Rattle.sparql_print.proofs.TermPieces.{name-shown}
use Rattle.sparql_print.proofs.LiteralPieces.{constant-shown}

abbrev pub Adds : Type 0
Adds = List Symbol → List Symbol

-- a text and its symbols, which may stand directly behind a piece
pub record IsTail (text : List ℕ) (add : Adds) : Type 0 where
  pub shown : IsShown text add
  pub separate : (rest : List ℕ) → Separate rest → Separate (shown.characters ++ rest)

no_tail : IsTail [] (λ ss. ss)
no_tail = record { shown = record { characters = []; is_text = text_small [] refl; gives = λ rest ss sep. done }; separate = λ rest sep. sep }

-- a space in front
pub tail-of : (a : List ℕ) (f : Adds) → IsShown a f → IsTail (32 ∷ a) f
tail-of a f h = record {
  shown = record {
    characters = 32 ∷ h.characters;
    is_text = text_both (32 ∷ []) h.characters (32 ∷ []) a (text_small (32 ∷ []) refl) h.is_text;
    gives = λ rest ss sep. gap (h.gives rest ss sep);
  };
  separate = λ rest sep. refl;
}

pub then-shown : (a b : List ℕ) (f g : Adds) → IsShown a f → IsTail b g → IsShown (a ++ b) (λ ss. f (g ss))
then-shown a b f g h t = record {
  characters = h.characters ++ t.shown.characters;
  is_text = text_both h.characters t.shown.characters a b h.is_text t.shown.is_text;
  gives = λ rest ss sep.
      subst (λ cs. Gives cs (f (g ss)) rest ss) (sym (append_assoc h.characters t.shown.characters rest))
      (gives-then (h.gives (t.shown.characters ++ rest) (g ss) (t.separate rest sep)) (t.shown.gives rest ss sep));
}

-- a sign and a text, each behind a space, before a tail
tail-more : (sign a b : List ℕ) (shape : Shape) (f g : Adds) → IsShown sign (λ ss. bare shape ∷ ss) → IsShown a f → IsTail b g
    → IsTail (put_behind sign a ++ b) (λ ss. bare shape ∷ f (g ss))
tail-more sign a b shape f g of_sign h t =
    tail-of (spaced sign a ++ b) (λ ss. bare shape ∷ f (g ss)) (then-shown (spaced sign a) b (λ ss. bare shape ∷ f ss) g (spaced-shown of_sign h) t)

pub in_parens-shown : (a : List ℕ) (f : Adds) → IsShown a f → IsShown (in_parens a) (λ ss. bare s.Open ∷ f (bare s.Close ∷ ss))
in_parens-shown a f h = spaced-shown open-shown (spaced-shown h close-shown)

unary-shown : (sign a : List ℕ) (shape : Shape) (f : Adds) → IsShown sign (λ ss. bare shape ∷ ss) → IsShown a f
    → IsShown (in_parens (spaced sign a)) (λ ss. bare s.Open ∷ bare shape ∷ f (bare s.Close ∷ ss))
unary-shown sign a shape f of_sign h = in_parens-shown (spaced sign a) (λ ss. bare shape ∷ f ss) (spaced-shown of_sign h)

binary-shown : (a sign b : List ℕ) (f i g : Adds) → IsShown a f → IsShown sign i → IsShown b g
    → IsShown (in_parens (spaced a (spaced sign b))) (λ ss. bare s.Open ∷ f (i (g (bare s.Close ∷ ss))))
binary-shown a sign b f i g h of_sign k = in_parens-shown (spaced a (spaced sign b)) (λ ss. f (i (g ss))) (spaced-shown h (spaced-shown of_sign k))

-- a text and a tail in parentheses
chain-shown : (a b : List ℕ) (f g : Adds) → IsShown a f → IsTail b g → IsShown (in_parens (a ++ b)) (λ ss. bare s.Open ∷ f (g (bare s.Close ∷ ss)))
chain-shown a b f g h t = in_parens-shown (a ++ b) (λ ss. f (g ss)) (then-shown a b f g h t)

in_text-shown : (negated : Bool) → IsShown (in_text negated) (λ ss. in_symbols negated ss)
in_text-shown true = spaced-shown not-shown in-shown
in_text-shown false = in-shown

-- what stands before an argument
distinct_text-shown : (distinct : Bool) (a : List ℕ) (f : Adds) → IsShown a f → IsShown (distinct_text distinct ++ a) (λ ss. distinct_symbols distinct (f ss))
distinct_text-shown true a f h = spaced-shown distinct-shown h
distinct_text-shown false a f h = h

call-shown : (name a : List ℕ) (shape : Shape) (f : Adds) → IsShown name (λ ss. bare shape ∷ ss) → IsShown a f → IsShown (spaced name a) (λ ss. bare shape ∷ f ss)
call-shown name a shape f of_sign h = spaced-shown of_sign h

aggregate_of-shown : (name a : List ℕ) (shape : Shape) (distinct : Bool) (f : Adds) → IsShown name (λ ss. bare shape ∷ ss) → IsShown a f
    → IsShown (spaced name (in_parens (distinct_text distinct ++ a))) (λ ss. bare shape ∷ bare s.Open ∷ distinct_symbols distinct (f (bare s.Close ∷ ss)))
aggregate_of-shown name a shape distinct f of_sign h =
    call-shown name (in_parens (distinct_text distinct ++ a)) shape (λ ss. bare s.Open ∷ distinct_symbols distinct (f (bare s.Close ∷ ss))) of_sign
    (in_parens-shown (distinct_text distinct ++ a) (λ ss. distinct_symbols distinct (f ss)) (distinct_text-shown distinct a f h))

mutual
  unfolding expr_text expr_symbols AreSpelledIn

  pub expr-shown : (a : Expr) → AreSpelledIn a → IsShown (expr_text a) (λ ss. expr_symbols a ss)
  expr-shown (Var name) h = name-shown name h
  expr-shown (Const term) h = constant-shown term h
  expr-shown (Or parts) h = in_parens-shown (separated (codes "||") (expr_texts parts)) (λ ss. joined_symbols s.Or parts ss) (joined-shown (codes "||") s.Or or-shown parts h)
  expr-shown (And parts) h = in_parens-shown (separated (codes "&&") (expr_texts parts)) (λ ss. joined_symbols s.And parts ss) (joined-shown (codes "&&") s.And and-shown parts h)
  expr-shown (Not value) h = unary-shown (codes "!") (expr_text value) s.Bang (λ ss. expr_symbols value ss) bang-shown (expr-shown value h)
  expr-shown (Plus value) h = unary-shown (codes "+") (expr_text value) s.Plus (λ ss. expr_symbols value ss) plus-shown (expr-shown value h)
  expr-shown (Minus value) h = unary-shown (codes "-") (expr_text value) s.Minus (λ ss. expr_symbols value ss) minus-shown (expr-shown value h)
  expr-shown (Compare op left right) h =
      binary-shown (expr_text left) (op_text op) (expr_text right) (λ ss. expr_symbols left ss) (λ ss. bare (op_shape op) ∷ ss) (λ ss. expr_symbols right ss)
      (expr-shown left h.0) (op-shown op) (expr-shown right h.1)
  expr-shown (OneOf left items negated) h =
      binary-shown (expr_text left) (in_text negated) (list_text (expr_texts items)) (λ ss. expr_symbols left ss) (λ ss. in_symbols negated ss)
      (λ ss. bare s.Open ∷ joined_symbols s.Comma items (bare s.Close ∷ ss)) (expr-shown left h.0) (in_text-shown negated) (list-shown items h.1)
  expr-shown (Sum first rest) h =
      chain-shown (expr_text first) (operands_text sum_sign rest) (λ ss. expr_symbols first ss) (λ ss. operand_symbols sum_shape rest ss)
      (expr-shown first h.0) (operands-shown sum_sign sum_shape sum_sign-shown rest h.1)
  expr-shown (Product first rest) h =
      chain-shown (expr_text first) (operands_text product_sign rest) (λ ss. expr_symbols first ss) (λ ss. operand_symbols product_shape rest ss)
      (expr-shown first h.0) (operands-shown product_sign product_shape product_sign-shown rest h.1)
  expr-shown (Call function arguments) h =
      call-shown (function_text function) (list_text (expr_texts arguments)) (s.Function function) (λ ss. bare s.Open ∷ joined_symbols s.Comma arguments (bare s.Close ∷ ss))
      (function-shown function) (list-shown arguments h)
  expr-shown (Aggregate kind distinct argument) h =
      aggregate_of-shown (aggregate_text kind) (expr_text argument) (s.Aggregate kind) distinct (λ ss. expr_symbols argument ss) (aggregate-shown kind) (expr-shown argument h)
  expr-shown (AggregateAll kind distinct) h =
      aggregate_of-shown (aggregate_text kind) (codes "*") (s.Aggregate kind) distinct (λ ss. bare s.Star ∷ ss) (aggregate-shown kind) star-shown

  list-shown : (items : Exprs) → AreSpelledInAll items → IsShown (list_text (expr_texts items)) (λ ss. bare s.Open ∷ joined_symbols s.Comma items (bare s.Close ∷ ss))
  list-shown EndOfExprs h = spaced-shown open-shown close-shown
  list-shown (ThenExpr first rest) h =
      chain-shown (expr_text first) (flat_map (put_behind (codes ",")) (expr_texts rest)) (λ ss. expr_symbols first ss) (λ ss. more_symbols s.Comma rest ss)
      (expr-shown first h.0) (more-shown (codes ",") s.Comma comma-shown rest h.1)

  joined-shown : (sign : List ℕ) (shape : Shape) → IsShown sign (λ ss. bare shape ∷ ss) → (parts : Exprs) → AreSpelledInAll parts
      → IsShown (separated sign (expr_texts parts)) (λ ss. joined_symbols shape parts ss)
  joined-shown sign shape of_sign EndOfExprs h = no_tail.shown
  joined-shown sign shape of_sign (ThenExpr first rest) h =
      then-shown (expr_text first) (flat_map (put_behind sign) (expr_texts rest)) (λ ss. expr_symbols first ss) (λ ss. more_symbols shape rest ss)
      (expr-shown first h.0) (more-shown sign shape of_sign rest h.1)

  more-shown : (sign : List ℕ) (shape : Shape) → IsShown sign (λ ss. bare shape ∷ ss) → (parts : Exprs) → AreSpelledInAll parts
      → IsTail (flat_map (put_behind sign) (expr_texts parts)) (λ ss. more_symbols shape parts ss)
  more-shown sign shape of_sign EndOfExprs h = no_tail
  more-shown sign shape of_sign (ThenExpr first rest) h =
      tail-more sign (expr_text first) (flat_map (put_behind sign) (expr_texts rest)) shape (λ ss. expr_symbols first ss) (λ ss. more_symbols shape rest ss)
      of_sign (expr-shown first h.0) (more-shown sign shape of_sign rest h.1)

  operands-shown : (text : Bool → List ℕ) (shape : Bool → Shape) → ((inverse : Bool) → IsShown (text inverse) (λ ss. bare (shape inverse) ∷ ss)) → (rest : Operands)
      → AreSpelledInOperands rest → IsTail (operands_text text rest) (λ ss. operand_symbols shape rest ss)
  operands-shown text shape of_sign EndOfOperands h = no_tail
  operands-shown text shape of_sign (ThenOperand inverse value rest) h =
      tail-more (text inverse) (expr_text value) (operands_text text rest) (shape inverse) (λ ss. expr_symbols value ss) (λ ss. operand_symbols shape rest ss)
      (of_sign inverse) (expr-shown value h.0) (operands-shown text shape of_sign rest h.1)
