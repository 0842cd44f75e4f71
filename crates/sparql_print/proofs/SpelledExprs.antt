-- An expression that is read of symbols whose values can be written has names and terms that can be written.
use Rattle.std.proofs.Common.{◌≢◌, inl, inr, ℕ, Bool, List, [], ◌++◌, length, codes, IsUtf8, refl, ap, arith}
use Rattle.term_core.specs.Characters.{IsTextOf}
use Rattle.term_core.specs.Numbers.{xsd_integer, xsd_decimal}
use Rattle.term_core.specs.Spelling.{lang_string, IsSpelledIri}
use Rattle.term_core.specs.declared.term.Term.{Term}
use Rattle.sparql_tree.specs.Exprs.{Expr, exprs, operands}
use Rattle.sparql_tree.specs.declared.symbol.Shape.{Shape}
use Rattle.sparql_tree.specs.declared.symbol.Symbol.{Symbol}
use Rattle.sparql_tree.specs.Heads.{Is, is, IsHead, holds}
use Rattle.term_core.specs.Texts.{xsd_boolean}
use Rattle.sparql_tree.specs.Terms.{IsNumber, integer, decimal, IsTerm}
use Rattle.sparql_tree.specs.Terms as terms_of
use Rattle.sparql_tree.specs.Expressions.{IsDistinct, distinct, not_distinct, IsExpr, or, OrTail, or_end, or_more, IsAnd, and, AndTail, and_end, and_more, IsRel, rel_one, rel_compare, rel_in, rel_not_in, IsList, list_none, list_some, ListTail, list_end, list_more, IsSum, sum, SumTail, sum_end, sum_plus, sum_minus, IsProduct, product, ProductTail, product_end, product_times, product_over, IsUnary, bare, not, plus, minus, IsAtom, constant, variable, parens, called, aggregated, IsCall, call, bound, IsAggregate, count_all, aggregate}
use Rattle.nt_text.proofs.SpelledTerms.{string_is_iri, string_is_plain}
use Rattle.nt_text.proofs.WrittenText.{text_small, text_both}
use Rattle.sparql_print.specs.Spelled.{AreSpelledIn, AreSpelledInAll, AreSpelledInOperands, IsConstant}
use Rattle.sparql_print.specs.SpelledSymbols.{IsSpelledValue, AreSpelledSymbols}

-- ---- terms

pub is-rest : {shape : Shape} {ts rest : List Symbol} → Is shape ts rest → AreSpelledSymbols ts → AreSpelledSymbols rest
is-rest is k = k.1

pub holds-value : {shape : Shape} {value : List ℕ} {ts rest : List Symbol} → IsHead shape value ts rest → AreSpelledSymbols ts → IsSpelledValue shape value × AreSpelledSymbols rest
holds-value holds k = k

utf8-both : (sign digits : List ℕ) → IsTextOf sign sign → IsUtf8 digits → IsUtf8 (sign ++ digits)
utf8-both sign digits h k =
    let both = text_both sign k.0 sign digits h (record { scalars = k.1.0; encoded = k.1.1 }) in (sign ++ k.0, (both.scalars, both.encoded))

integer_is_iri : IsSpelledIri xsd_integer
integer_is_iri = record { characters = xsd_integer; is_text = text_small xsd_integer refl; of_class = refl; scheme = refl }

decimal_is_iri : IsSpelledIri xsd_decimal
decimal_is_iri = record { characters = xsd_decimal; is_text = text_small xsd_decimal refl; of_class = refl; scheme = refl }

boolean_is_iri : IsSpelledIri xsd_boolean
boolean_is_iri = record { characters = xsd_boolean; is_text = text_small xsd_boolean refl; of_class = refl; scheme = refl }

integer_is_plain : xsd_integer ≢ lang_string
integer_is_plain = λ e. absurd (omega (arith, ap length e))

decimal_is_plain : xsd_decimal ≢ lang_string
decimal_is_plain = λ e. absurd (omega (arith, ap length e))

boolean_is_plain : xsd_boolean ≢ lang_string
boolean_is_plain = λ e. absurd (omega (arith, ap length e))

number-spelled : {sign : List ℕ} {ts rest : List Symbol} {term : Term} → IsTextOf sign sign → IsNumber sign ts term rest → AreSpelledSymbols ts → IsConstant term × AreSpelledSymbols rest
number-spelled {sign} h (integer {digits = digits} i) k = let v = holds-value i k in ((utf8-both sign digits h v.0, inl (refl, integer_is_iri, integer_is_plain)), v.1)
number-spelled {sign} h (decimal {digits = digits} i) k = let v = holds-value i k in ((utf8-both sign digits h v.0, inl (refl, decimal_is_iri, decimal_is_plain)), v.1)

pub term-spelled : {ts rest : List Symbol} {term : Term} → IsTerm ts term rest → AreSpelledSymbols ts → IsConstant term × AreSpelledSymbols rest
term-spelled (terms_of.iri i) k = holds-value i k
term-spelled (terms_of.plain i) k = let v = holds-value i k in ((v.0, inl (refl, string_is_iri, string_is_plain)), v.1)
term-spelled (terms_of.tagged i j) k = let v = holds-value i k in let w = holds-value j v.1 in ((v.0, inr (w.0, refl)), w.1)
term-spelled (terms_of.typed i j m other) k = let v = holds-value i k in let w = holds-value m (is-rest j v.1) in ((v.0, inl (refl, w.0, other)), w.1)
term-spelled (terms_of.number h) k = number-spelled (text_small [] refl) h k
term-spelled (terms_of.plus i h) k = number-spelled (text_small (codes "+") refl) h (is-rest i k)
term-spelled (terms_of.minus i h) k = number-spelled (text_small (codes "-") refl) h (is-rest i k)
term-spelled (terms_of.boolean i) k = let v = holds-value i k in ((v.0, inl (refl, boolean_is_iri, boolean_is_plain)), v.1)

-- ---- expressions

distinct-rest : {d : Bool} {ts rest : List Symbol} → IsDistinct ts d rest → AreSpelledSymbols ts → AreSpelledSymbols rest
distinct-rest (distinct i) k = is-rest i k
distinct-rest not_distinct k = k

mutual
  unfolding AreSpelledIn

  pub expr-spelled : {b : Bool} {ts rest : List Symbol} {a : Expr} → IsExpr b ts a rest → AreSpelledSymbols ts → AreSpelledIn a × AreSpelledSymbols rest
  expr-spelled (or h or_end) k = and-spelled h k
  expr-spelled (or h (or_more i j m)) k = let v = and-spelled h k in let w = and-spelled j (is-rest i v.1) in let t = or_tail-spelled m w.1 in ((v.0, (w.0, t.0)), t.1)

  or_tail-spelled : {b : Bool} {ts rest : List Symbol} {xs : List Expr} → OrTail b ts xs rest → AreSpelledSymbols ts → AreSpelledInAll (exprs xs) × AreSpelledSymbols rest
  or_tail-spelled or_end k = (tt, k)
  or_tail-spelled (or_more i j m) k = let w = and-spelled j (is-rest i k) in let t = or_tail-spelled m w.1 in ((w.0, t.0), t.1)

  and-spelled : {b : Bool} {ts rest : List Symbol} {a : Expr} → IsAnd b ts a rest → AreSpelledSymbols ts → AreSpelledIn a × AreSpelledSymbols rest
  and-spelled (and h and_end) k = rel-spelled h k
  and-spelled (and h (and_more i j m)) k = let v = rel-spelled h k in let w = rel-spelled j (is-rest i v.1) in let t = and_tail-spelled m w.1 in ((v.0, (w.0, t.0)), t.1)

  and_tail-spelled : {b : Bool} {ts rest : List Symbol} {xs : List Expr} → AndTail b ts xs rest → AreSpelledSymbols ts → AreSpelledInAll (exprs xs) × AreSpelledSymbols rest
  and_tail-spelled and_end k = (tt, k)
  and_tail-spelled (and_more i j m) k = let w = rel-spelled j (is-rest i k) in let t = and_tail-spelled m w.1 in ((w.0, t.0), t.1)

  rel-spelled : {b : Bool} {ts rest : List Symbol} {a : Expr} → IsRel b ts a rest → AreSpelledSymbols ts → AreSpelledIn a × AreSpelledSymbols rest
  rel-spelled (rel_one h) k = sum-spelled h k
  rel-spelled (rel_compare h i e j) k = let v = sum-spelled h k in let w = sum-spelled j (is-rest i v.1) in ((v.0, w.0), w.1)
  rel-spelled (rel_in h i j) k = let v = sum-spelled h k in let w = list-spelled j (is-rest i v.1) in ((v.0, w.0), w.1)
  rel-spelled (rel_not_in h i l j) k = let v = sum-spelled h k in let w = list-spelled j (is-rest l (is-rest i v.1)) in ((v.0, w.0), w.1)

  list-spelled : {b : Bool} {ts rest : List Symbol} {xs : List Expr} → IsList b ts xs rest → AreSpelledSymbols ts → AreSpelledInAll (exprs xs) × AreSpelledSymbols rest
  list-spelled (list_none i j) k = (tt, is-rest j (is-rest i k))
  list-spelled (list_some i h m j) k = let v = expr-spelled h (is-rest i k) in let t = list_tail-spelled m v.1 in ((v.0, t.0), is-rest j t.1)

  list_tail-spelled : {b : Bool} {ts rest : List Symbol} {xs : List Expr} → ListTail b ts xs rest → AreSpelledSymbols ts → AreSpelledInAll (exprs xs) × AreSpelledSymbols rest
  list_tail-spelled list_end k = (tt, k)
  list_tail-spelled (list_more i j m) k = let w = expr-spelled j (is-rest i k) in let t = list_tail-spelled m w.1 in ((w.0, t.0), t.1)

  sum-spelled : {b : Bool} {ts rest : List Symbol} {a : Expr} → IsSum b ts a rest → AreSpelledSymbols ts → AreSpelledIn a × AreSpelledSymbols rest
  sum-spelled (sum h sum_end) k = product-spelled h k
  sum-spelled (sum h (sum_plus i j m)) k = let v = product-spelled h k in let w = product-spelled j (is-rest i v.1) in let t = sum_tail-spelled m w.1 in ((v.0, (w.0, t.0)), t.1)
  sum-spelled (sum h (sum_minus i j m)) k = let v = product-spelled h k in let w = product-spelled j (is-rest i v.1) in let t = sum_tail-spelled m w.1 in ((v.0, (w.0, t.0)), t.1)

  sum_tail-spelled : {b : Bool} {ts rest : List Symbol} {xs : List (Bool × Expr)} → SumTail b ts xs rest → AreSpelledSymbols ts → AreSpelledInOperands (operands xs) × AreSpelledSymbols rest
  sum_tail-spelled sum_end k = (tt, k)
  sum_tail-spelled (sum_plus i j m) k = let w = product-spelled j (is-rest i k) in let t = sum_tail-spelled m w.1 in ((w.0, t.0), t.1)
  sum_tail-spelled (sum_minus i j m) k = let w = product-spelled j (is-rest i k) in let t = sum_tail-spelled m w.1 in ((w.0, t.0), t.1)

  product-spelled : {b : Bool} {ts rest : List Symbol} {a : Expr} → IsProduct b ts a rest → AreSpelledSymbols ts → AreSpelledIn a × AreSpelledSymbols rest
  product-spelled (product h product_end) k = unary-spelled h k
  product-spelled (product h (product_times i j m)) k = let v = unary-spelled h k in let w = unary-spelled j (is-rest i v.1) in let t = product_tail-spelled m w.1 in ((v.0, (w.0, t.0)), t.1)
  product-spelled (product h (product_over i j m)) k = let v = unary-spelled h k in let w = unary-spelled j (is-rest i v.1) in let t = product_tail-spelled m w.1 in ((v.0, (w.0, t.0)), t.1)

  product_tail-spelled : {b : Bool} {ts rest : List Symbol} {xs : List (Bool × Expr)} → ProductTail b ts xs rest → AreSpelledSymbols ts → AreSpelledInOperands (operands xs) × AreSpelledSymbols rest
  product_tail-spelled product_end k = (tt, k)
  product_tail-spelled (product_times i j m) k = let w = unary-spelled j (is-rest i k) in let t = product_tail-spelled m w.1 in ((w.0, t.0), t.1)
  product_tail-spelled (product_over i j m) k = let w = unary-spelled j (is-rest i k) in let t = product_tail-spelled m w.1 in ((w.0, t.0), t.1)

  unary-spelled : {b : Bool} {ts rest : List Symbol} {a : Expr} → IsUnary b ts a rest → AreSpelledSymbols ts → AreSpelledIn a × AreSpelledSymbols rest
  unary-spelled (bare h) k = atom-spelled h k
  unary-spelled (not i h) k = atom-spelled h (is-rest i k)
  unary-spelled (plus i e h) k = atom-spelled h (is-rest i k)
  unary-spelled (minus i e h) k = atom-spelled h (is-rest i k)

  atom-spelled : {b : Bool} {ts rest : List Symbol} {a : Expr} → IsAtom b ts a rest → AreSpelledSymbols ts → AreSpelledIn a × AreSpelledSymbols rest
  atom-spelled (constant h) k = term-spelled h k
  atom-spelled (variable i) k = holds-value i k
  atom-spelled (parens i h j) k = let v = expr-spelled h (is-rest i k) in (v.0, is-rest j v.1)
  atom-spelled (called h) k = call-spelled h k
  atom-spelled (aggregated h) k = aggregate-spelled h k

  pub call-spelled : {b : Bool} {ts rest : List Symbol} {a : Expr} → IsCall b ts a rest → AreSpelledSymbols ts → AreSpelledIn a × AreSpelledSymbols rest
  call-spelled (call i h e) k = list-spelled h (is-rest i k)
  call-spelled (bound i j h m) k = let v = holds-value h (is-rest j (is-rest i k)) in ((v.0, tt), is-rest m v.1)

  pub aggregate-spelled : {ts rest : List Symbol} {a : Expr} → IsAggregate ts a rest → AreSpelledSymbols ts → AreSpelledIn a × AreSpelledSymbols rest
  aggregate-spelled (count_all i j d l m) k = (tt, is-rest m (is-rest l (distinct-rest d (is-rest j (is-rest i k)))))
  aggregate-spelled (aggregate i j d h m) k = let v = expr-spelled h (distinct-rest d (is-rest j (is-rest i k))) in (v.0, is-rest m v.1)
