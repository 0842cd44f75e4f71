-- What the reader says of the grammar, for all of the symbols.
use Rattle.std.proofs.Common.{◌≡◌, ℕ, suc, ◌+◌, Bool, List, [], ◌∷◌, length, Some, None, refl, sym, subst, ap, ◌∙◌, arith}
use Rattle.sparql_tree.specs.Exprs.{Expr}
use Rattle.sparql_tree.specs.Groups.{Query}
use Rattle.sparql_tree.specs.declared.symbol.Symbol.{Symbol}
use Rattle.sparql_tree.specs.Heads.{head}
use Rattle.sparql_tree.specs.Expressions.{IsExpr}
use Rattle.sparql_tree.specs.Queries.{IsSelect, IsQuery, without_repeats}
use Rattle.sparql_grammar.specs.QueryReading.{query}
use Rattle.sparql_grammar.proofs.Steps.{Good}
use Rattle.sparql_grammar.proofs.ExprComplete.{expr-finds}
use Rattle.sparql_grammar.proofs.ExprEnds.{Stops, StopsAt}
use Rattle.sparql_grammar.proofs.QueryLaws.{query-sound}
use Rattle.sparql_grammar.proofs.QueryComplete.{query-finds}

none-left : (rest : List Symbol) → head rest ≡ None → rest ≡ []
unfolding head
none-left [] h = refl
none-left (x ∷ rest) h = absurd cc

some-left : (rest : List Symbol) (x : _) → head rest ≡ Some x → rest ≡ [] → ⊥
unfolding head
some-left [] x h e = cc
some-left (y ∷ rest) x h e = cc

same-parts : {A B : Type 0} (p q : A × B) → Some p ≡ Some q → (p.0 ≡ q.0) × (p.1 ≡ q.1)
same-parts p q h = let e : p ≡ q = cc in (ap (λ v. v.0) e, ap (λ v. v.1) e)

-- what was read with nothing behind it is spelled
pub query-spelled : (n : ℕ) (start ts : List Symbol) (q : Query) (rest : List Symbol) → start ≡ ts → query n start ≡ Some (q, rest) → head rest ≡ None → IsSelect ts q
query-spelled n start ts q rest e h none =
    let k = subst (Good (λ a us. us ≡ [] → IsSelect start a)) h (query-sound n start) in
    subst (λ v. IsSelect v q) e (k (none-left rest none))

-- what is spelled is read
pub spelled-read : (start ts : List Symbol) (q : Query) → start ≡ ts → IsSelect ts q → query (length ts + 1) start ≡ Some (q, [])
spelled-read start ts q e h = ap (query (length ts + 1)) e ∙ (query-finds (length ts + 1) h (omega arith)).found

-- nothing is spelled where nothing is read
pub none-spelled : (start ts : List Symbol) → start ≡ ts → query (length ts + 1) start ≡ None → (q : Query) → IsQuery ts q → ⊥
none-spelled start ts e h q k = let read = spelled-read start ts k.written e k.spelled in cc

-- nor where something is left
pub more-left : (start ts : List Symbol) (p : Query) (rest : List Symbol) (x : _) → start ≡ ts → query (length ts + 1) start ≡ Some (p, rest) → head rest ≡ Some x → (q : Query) → IsQuery ts q → ⊥
more-left start ts p rest x e h more q k =
    some-left rest x more (sym (same-parts (k.written, []) (p, rest) (sym (spelled-read start ts k.written e k.spelled) ∙ h)).1)

pub one_query : (ts : List Symbol) (a b : Query) → IsQuery ts a → IsQuery ts b → a ≡ b
one_query ts a b h k =
    let same = same-parts (h.written, []) (k.written, []) (sym (spelled-read ts ts h.written refl h.spelled) ∙ spelled-read ts ts k.written refl k.spelled) in
    h.kept_once ∙ ap without_repeats same.0 ∙ sym k.kept_once

no_symbol : head [] ≡ None
unfolding head
no_symbol = refl

pub one_expression : (b : Bool) (ts : List Symbol) (x y : Expr) → IsExpr b ts x [] → IsExpr b ts y [] → x ≡ y
one_expression b ts x y h k =
    let first = (expr-finds (suc (length ts)) h (omega arith) ends).found in
    let second = (expr-finds (suc (length ts)) k (omega arith) ends).found in
    (same-parts (x, []) (y, []) (sym first ∙ second)).0
  where
    ends : Stops 1 []
    ends = subst (StopsAt 1) (sym no_symbol) tt
