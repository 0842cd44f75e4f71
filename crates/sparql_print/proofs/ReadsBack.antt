-- The symbols of an expression of a tree are an atom of the grammar with that expression.
use Rattle.std.proofs.Common.{◌≡◌, ◌≢◌, inl, inr, ℕ, Bool, true, false, List, [], ◌∷◌, ◌++◌, length, Some, refl, sym, subst}
use Rattle.std.specs.Str.{bytes_eq}
use Rattle.std.proofs.lemmas.Slice.Eq.{bytes_eq-Decides}
use Rattle.term_core.specs.Texts.{xsd_string}
use Rattle.term_core.specs.Spelling.{lang_string, IsSpelledTag}
use Rattle.term_core.specs.declared.term.Term.{Term}
use Rattle.term_core.specs.declared.term.Term.TheVariants as terms
use Rattle.sparql_tree.specs.Exprs.{Expr, Var, Const, Or, And, Not, Plus, Minus, Compare, OneOf, Sum, Product, Call, Aggregate, AggregateAll, Exprs, EndOfExprs, ThenExpr, Operands, EndOfOperands, ThenOperand}
use Rattle.sparql_tree.specs.declared.words.CompareOp.{CompareOp}
use Rattle.sparql_tree.specs.declared.words.CompareOp.TheVariants as ops
use Rattle.sparql_tree.specs.declared.words.Function.{Function}
use Rattle.sparql_tree.specs.declared.words.Function.TheVariants as functions
use Rattle.sparql_tree.specs.declared.symbol.Shape.TheVariants as s
use Rattle.sparql_tree.specs.declared.symbol.Symbol.{Symbol}
use Rattle.sparql_tree.specs.Symbols as symbols
use Rattle.sparql_tree.specs.Heads.{head}
use Rattle.sparql_tree.specs.Heads.{is, holds}
use Rattle.sparql_tree.specs.Terms as terms_of
use Rattle.sparql_tree.specs.Terms.{IsTerm}
use Rattle.sparql_tree.specs.Expressions.{IsDistinct, distinct, not_distinct, IsExpr, or, OrTail, or_end, or_more, IsAnd, and, AndTail, and_end, and_more, IsRel, rel_one, rel_compare, rel_in, rel_not_in, IsList, list_none, list_some, ListTail, list_end, list_more, IsSum, sum, SumTail, sum_end, sum_plus, sum_minus, IsProduct, product, ProductTail, product_end, product_times, product_over, IsUnary, bare, not, plus, minus, IsAtom, constant, variable, parens, called, aggregated, call, bound, IsAggregate, count_all, aggregate, takes, op_of, begins_number}
use Rattle.sparql_print.specs.OfTrees.{IsOfTree}
use Rattle.sparql_print.proofs.ExprSymbols.{expr_symbols, joined_symbols, more_symbols, operand_symbols, term_symbols, op_shape, in_symbols, sum_shape, product_shape, distinct_symbols}
use Rattle.sparql_print.specs.Spelled.{AreSpelledIn, AreSpelledInAll, AreSpelledInOperands, IsConstant}
use Rattle.sparql_print.proofs.Layers.{listed, listed_operands, exprs_listed, operands_listed, Trees, OperandTrees, Chain, SomeOperands, Arguments, layer_of}

-- ---- from one level of the grammar to those above

product-of : {b : Bool} {ts rest : List Symbol} {a : Expr} → IsAtom b ts a rest → IsProduct b ts a rest
product-of h = product (bare h) product_end

sum-of : {b : Bool} {ts rest : List Symbol} {a : Expr} → IsAtom b ts a rest → IsSum b ts a rest
sum-of h = sum (product-of h) sum_end

rel-of : {b : Bool} {ts rest : List Symbol} {a : Expr} → IsAtom b ts a rest → IsRel b ts a rest
rel-of h = rel_one (sum-of h)

and-of : {b : Bool} {ts rest : List Symbol} {a : Expr} → IsAtom b ts a rest → IsAnd b ts a rest
and-of h = and (rel-of h) and_end

of-rel : {b : Bool} {ts rest : List Symbol} {a : Expr} → IsRel b ts a rest → IsExpr b ts a rest
of-rel h = or (and h and_end) or_end

of-unary : {b : Bool} {ts rest : List Symbol} {a : Expr} → IsUnary b ts a rest → IsExpr b ts a rest
of-unary h = of-rel (rel_one (sum (product h product_end) sum_end))

pub expr-of : {b : Bool} {ts rest : List Symbol} {a : Expr} → IsAtom b ts a rest → IsExpr b ts a rest
expr-of h = of-rel (rel-of h)

-- ---- terms, signs and words

-- a tag is of one letter at least
pub tag_some : IsSpelledTag [] → ⊥
tag_some h = go h.is_tag.primary h.is_tag.subtags h.is_tag.some h.is_tag.spelled
  where
    go : (primary subtags : List ℕ) → primary ≢ [] → [] ≡ primary ++ subtags → ⊥
    go [] subtags some e = some refl
    go (c ∷ primary) subtags some e = absurd (cc)

same_bytes : (a b : List ℕ) → bytes_eq a b ≡ true → a ≡ b
same_bytes a b e = (bytes_eq-Decides a b).0 e

string-kind : (lexical datatype : List ℕ) (rest : List Symbol) → datatype ≢ lang_string → (t : Bool) → bytes_eq datatype xsd_string ≡ t
    → IsTerm (term_symbols (terms.Literal lexical datatype []) rest) (terms.Literal lexical datatype []) rest
string-kind lexical datatype rest other true e =
    subst (λ d. IsTerm (term_symbols (terms.Literal lexical d []) rest) (terms.Literal lexical d []) rest) (sym (same_bytes datatype xsd_string e)) (terms_of.plain holds)
string-kind lexical datatype rest other false e = rw e (terms_of.typed holds is holds other)

pub term-back : (term : Term) (rest : List Symbol) → IsConstant term → IsTerm (term_symbols term rest) term rest
term-back (terms.Iri iri) rest h = terms_of.iri holds
term-back (terms.Blank label) rest h = absurd h
term-back (terms.Literal lexical datatype []) rest (utf8, inl h) = string-kind lexical datatype rest h.2 (bytes_eq datatype xsd_string) refl
term-back (terms.Literal lexical datatype []) rest (utf8, inr h) = absurd (tag_some h.0)
term-back (terms.Literal lexical datatype (b ∷ tag)) rest (utf8, inl h) = absurd (cc)
term-back (terms.Literal lexical datatype (b ∷ tag)) rest (utf8, inr h) =
    subst (λ d. IsTerm (term_symbols (terms.Literal lexical d (b ∷ tag)) rest) (terms.Literal lexical d (b ∷ tag)) rest) (sym h.1) (terms_of.tagged holds holds)

op-back : (op : CompareOp) → op_of (op_shape op) ≡ Some op
op-back ops.Eq = refl
op-back ops.Ne = refl
op-back ops.Lt = refl
op-back ops.Gt = refl
op-back ops.Le = refl
op-back ops.Ge = refl

distinct-back : (d : Bool) (rest : List Symbol) → IsDistinct (distinct_symbols d rest) d rest
distinct-back true rest = distinct is
distinct-back false rest = not_distinct

-- no number stands first: each begins with a quote
no_number : (a : Expr) (rest : List Symbol) → begins_number (head (expr_symbols a rest)) ≡ false
unfolding expr_symbols head
no_number (Const (terms.Iri iri)) rest = refl
no_number (Const (terms.Blank label)) rest = refl
no_number (Const (terms.Literal lexical datatype lang)) rest = refl
no_number _ rest = refl

-- ---- expressions

or-chain : {b : Bool} {ts us rest : List Symbol} (x : Expr) (xs : Exprs) → Chain b (ThenExpr x xs) → IsAtom b ts x us → OrTail b us (listed xs) rest → IsExpr b ts (Or (ThenExpr x xs)) rest
or-chain x EndOfExprs c h k = absurd c
or-chain {b = b} {ts = ts} {rest = rest} x (ThenExpr y ys) c h k = subst (λ zs. IsExpr b ts (Or (ThenExpr x (ThenExpr y zs))) rest) (exprs_listed ys) (or (and-of h) k)

and-chain : {b : Bool} {ts us rest : List Symbol} (x : Expr) (xs : Exprs) → Chain b (ThenExpr x xs) → IsAtom b ts x us → AndTail b us (listed xs) rest → IsExpr b ts (And (ThenExpr x xs)) rest
and-chain x EndOfExprs c h k = absurd c
and-chain {b = b} {ts = ts} {rest = rest} x (ThenExpr y ys) c h k = subst (λ zs. IsExpr b ts (And (ThenExpr x (ThenExpr y zs))) rest) (exprs_listed ys) (or (and (rel-of h) k) or_end)

sum-chain : {b : Bool} {ts us rest : List Symbol} (x : Expr) (xs : Operands) → SomeOperands b xs → IsAtom b ts x us → SumTail b us (listed_operands xs) rest → IsExpr b ts (Sum x xs) rest
sum-chain x EndOfOperands c h k = absurd c
sum-chain {b = b} {ts = ts} {rest = rest} x (ThenOperand i y ys) c h k = subst (λ zs. IsExpr b ts (Sum x (ThenOperand i y zs)) rest) (operands_listed ys) (of-rel (rel_one (sum (product-of h) k)))

product-chain : {b : Bool} {ts us rest : List Symbol} (x : Expr) (xs : Operands) → SomeOperands b xs → IsAtom b ts x us → ProductTail b us (listed_operands xs) rest → IsExpr b ts (Product x xs) rest
product-chain x EndOfOperands c h k = absurd c
product-chain {b = b} {ts = ts} {rest = rest} x (ThenOperand i y ys) c h k = subst (λ zs. IsExpr b ts (Product x (ThenOperand i y zs)) rest) (operands_listed ys) (of-rel (rel_one (sum (product (bare h) k) sum_end)))

chain-trees : {b : Bool} (x : Expr) (xs : Exprs) → Chain b (ThenExpr x xs) → Trees b (ThenExpr x xs)
chain-trees x EndOfExprs c = absurd c
chain-trees x (ThenExpr y ys) c = c

some-trees : (b : Bool) (xs : Operands) → SomeOperands b xs → OperandTrees b xs
some-trees b EndOfOperands c = absurd c
some-trees b (ThenOperand i y ys) c = c

in-back : {b : Bool} {ts us rest : List Symbol} (left : Expr) (items : Exprs) (negated : Bool) → IsSum b ts left (in_symbols negated us) → IsList b us (listed items) rest → IsExpr b ts (OneOf left items negated) rest
in-back {b = b} {ts = ts} {rest = rest} left items true h k = subst (λ xs. IsExpr b ts (OneOf left xs true) rest) (exprs_listed items) (of-rel (rel_not_in h is is k))
in-back {b = b} {ts = ts} {rest = rest} left items false h k = subst (λ xs. IsExpr b ts (OneOf left xs false) rest) (exprs_listed items) (of-rel (rel_in h is k))

call-back : {b : Bool} {ts rest : List Symbol} (function : Function) (arguments : Exprs) → IsList b ts (listed arguments) rest → takes function (length (listed arguments)) ≡ true
    → IsAtom b (symbols.bare (s.Function function) ∷ ts) (Call function arguments) rest
call-back {b = b} {ts = ts} {rest = rest} function arguments h e = subst (λ xs. IsAtom b (symbols.bare (s.Function function) ∷ ts) (Call function xs) rest) (exprs_listed arguments) (called (call is h e))

where-true : {b : Bool} {ts rest : List Symbol} {a : Expr} → b ≡ true → IsAggregate ts a rest → IsAtom b ts a rest
where-true {ts = ts} {rest = rest} {a = a} e h = subst (λ v. IsAtom v ts a rest) (sym e) (aggregated h)

-- an operand more
sum-more : {b : Bool} {us vs rest : List Symbol} {x : Expr} {xs : List (Bool × Expr)} (inverse : Bool) → IsAtom b us x vs → SumTail b vs xs rest
    → SumTail b (symbols.bare (sum_shape inverse) ∷ us) ((inverse, x) ∷ xs) rest
sum-more true h k = sum_minus is (product-of h) k
sum-more false h k = sum_plus is (product-of h) k

product-more : {b : Bool} {us vs rest : List Symbol} {x : Expr} {xs : List (Bool × Expr)} (inverse : Bool) → IsAtom b us x vs → ProductTail b vs xs rest
    → ProductTail b (symbols.bare (product_shape inverse) ∷ us) ((inverse, x) ∷ xs) rest
product-more true h k = product_over is (bare h) k
product-more false h k = product_times is (bare h) k

-- a list as the function takes it, or the variable of BOUND
call-by : {b : Bool} (function : Function) (arguments : Exprs) (rest : List Symbol) → Arguments b function arguments
    → (Trees b arguments → IsList b (symbols.bare s.Open ∷ joined_symbols s.Comma arguments (symbols.bare s.Close ∷ rest)) (listed arguments) rest)
    → IsAtom b (symbols.bare (s.Function function) ∷ symbols.bare s.Open ∷ joined_symbols s.Comma arguments (symbols.bare s.Close ∷ rest)) (Call function arguments) rest
unfolding expr_symbols
call-by function arguments rest (inl p) list = call-back function arguments (list p.0) p.1
call-by {b = b} function arguments rest (inr (name, f, e)) list =
    subst (λ g. IsAtom b (symbols.bare (s.Function g) ∷ symbols.bare s.Open ∷ joined_symbols s.Comma arguments (symbols.bare s.Close ∷ rest)) (Call g arguments) rest) (sym f)
    (subst (λ xs. IsAtom b (symbols.bare (s.Function functions.Bound) ∷ symbols.bare s.Open ∷ joined_symbols s.Comma xs (symbols.bare s.Close ∷ rest)) (Call functions.Bound xs) rest) (sym e)
    (called (bound is is holds is)))

mutual
  unfolding expr_symbols AreSpelledIn

  pub reads_back : {b : Bool} (a : Expr) (rest : List Symbol) → IsOfTree b a → AreSpelledIn a → IsAtom b (expr_symbols a rest) a rest
  reads_back (Var name) rest w h = variable holds
  reads_back (Const term) rest w h = constant (term-back term rest h)
  reads_back (Or parts) rest w h = parens is (or-back parts (symbols.bare s.Close ∷ rest) (layer_of w) h) is
  reads_back (And parts) rest w h = parens is (and-back parts (symbols.bare s.Close ∷ rest) (layer_of w) h) is
  reads_back (Not value) rest w h = parens is (of-unary (not is (reads_back value (symbols.bare s.Close ∷ rest) (layer_of w) h))) is
  reads_back (Plus value) rest w h = parens is (of-unary (plus is (no_number value _) (reads_back value (symbols.bare s.Close ∷ rest) (layer_of w) h))) is
  reads_back (Minus value) rest w h = parens is (of-unary (minus is (no_number value _) (reads_back value (symbols.bare s.Close ∷ rest) (layer_of w) h))) is
  reads_back (Compare op left right) rest w h =
      let p = layer_of w in
      parens is (of-rel (rel_compare (sum-of (reads_back left _ p.0 h.0)) is (op-back op) (sum-of (reads_back right (symbols.bare s.Close ∷ rest) p.1 h.1)))) is
  reads_back (OneOf left items negated) rest w h =
      let p = layer_of w in
      parens is (in-back left items negated (sum-of (reads_back left _ p.0 h.0)) (list-back items (symbols.bare s.Close ∷ rest) p.1 h.1)) is
  reads_back (Sum first more) rest w h =
      let p = layer_of w in
      parens is (sum-chain first more p.1 (reads_back first _ p.0 h.0) (sum-back more (symbols.bare s.Close ∷ rest) (some-trees _ more p.1) h.1)) is
  reads_back (Product first more) rest w h =
      let p = layer_of w in
      parens is (product-chain first more p.1 (reads_back first _ p.0 h.0) (product-back more (symbols.bare s.Close ∷ rest) (some-trees _ more p.1) h.1)) is
  reads_back (Call function arguments) rest w h = call-by function arguments rest (layer_of w) (λ v. list-back arguments rest v h)
  reads_back (Aggregate kind d argument) rest w h =
      let p = layer_of w in
      where-true p.0 (aggregate is is (distinct-back d _) (expr-of (reads_back argument (symbols.bare s.Close ∷ rest) p.1 h)) is)
  reads_back (AggregateAll kind d) rest w h =
      let p = layer_of w in
      where-true p.0 (subst (λ k. IsAggregate (symbols.bare (s.Aggregate k) ∷ symbols.bare s.Open ∷ distinct_symbols d (symbols.bare s.Star ∷ symbols.bare s.Close ∷ rest)) (AggregateAll k d) rest) (sym p.1) (count_all is is (distinct-back d _) is is))

  or-back : {b : Bool} (parts : Exprs) (rest : List Symbol) → Chain b parts → AreSpelledInAll parts → IsExpr b (joined_symbols s.Or parts rest) (Or parts) rest
  or-back EndOfExprs rest c h = absurd c
  or-back (ThenExpr x xs) rest c h = let w = chain-trees x xs c in or-chain x xs c (reads_back x _ w.0 h.0) (or_tail-back xs rest w.1 h.1)

  or_tail-back : {b : Bool} (xs : Exprs) (rest : List Symbol) → Trees b xs → AreSpelledInAll xs → OrTail b (more_symbols s.Or xs rest) (listed xs) rest
  or_tail-back EndOfExprs rest w h = or_end
  or_tail-back (ThenExpr x xs) rest w h = or_more is (and-of (reads_back x _ w.0 h.0)) (or_tail-back xs rest w.1 h.1)

  and-back : {b : Bool} (parts : Exprs) (rest : List Symbol) → Chain b parts → AreSpelledInAll parts → IsExpr b (joined_symbols s.And parts rest) (And parts) rest
  and-back EndOfExprs rest c h = absurd c
  and-back (ThenExpr x xs) rest c h = let w = chain-trees x xs c in and-chain x xs c (reads_back x _ w.0 h.0) (and_tail-back xs rest w.1 h.1)

  and_tail-back : {b : Bool} (xs : Exprs) (rest : List Symbol) → Trees b xs → AreSpelledInAll xs → AndTail b (more_symbols s.And xs rest) (listed xs) rest
  and_tail-back EndOfExprs rest w h = and_end
  and_tail-back (ThenExpr x xs) rest w h = and_more is (rel-of (reads_back x _ w.0 h.0)) (and_tail-back xs rest w.1 h.1)

  list-back : {b : Bool} (items : Exprs) (rest : List Symbol) → Trees b items → AreSpelledInAll items → IsList b (symbols.bare s.Open ∷ joined_symbols s.Comma items (symbols.bare s.Close ∷ rest)) (listed items) rest
  list-back EndOfExprs rest w h = list_none is is
  list-back (ThenExpr x xs) rest w h = list_some is (expr-of (reads_back x _ w.0 h.0)) (list_tail-back xs (symbols.bare s.Close ∷ rest) w.1 h.1) is

  list_tail-back : {b : Bool} (xs : Exprs) (rest : List Symbol) → Trees b xs → AreSpelledInAll xs → ListTail b (more_symbols s.Comma xs rest) (listed xs) rest
  list_tail-back EndOfExprs rest w h = list_end
  list_tail-back (ThenExpr x xs) rest w h = list_more is (expr-of (reads_back x _ w.0 h.0)) (list_tail-back xs rest w.1 h.1)

  sum-back : {b : Bool} (xs : Operands) (rest : List Symbol) → OperandTrees b xs → AreSpelledInOperands xs → SumTail b (operand_symbols sum_shape xs rest) (listed_operands xs) rest
  sum-back EndOfOperands rest w h = sum_end
  sum-back (ThenOperand inverse x xs) rest w h = sum-more inverse (reads_back x _ w.0 h.0) (sum-back xs rest w.1 h.1)

  product-back : {b : Bool} (xs : Operands) (rest : List Symbol) → OperandTrees b xs → AreSpelledInOperands xs → ProductTail b (operand_symbols product_shape xs rest) (listed_operands xs) rest
  product-back EndOfOperands rest w h = product_end
  product-back (ThenOperand inverse x xs) rest w h = product-more inverse (reads_back x _ w.0 h.0) (product-back xs rest w.1 h.1)
