-- The texts of a list, one behind another.
use Rattle.std.proofs.Common.{◌≡◌, ℕ, List, [], ◌∷◌, ◌++◌, length, map, refl, sym, ap, ◌∙◌, append_assoc, append-nil, codes, arith, ◌<◌, ◌≤◌, take}
use Rattle.std.proofs.lemmas.List.{take_all}
use Rattle.std.specs.Prelude.{Result, Ok, Err, OnOk}
use Rattle.term_core.specs.declared.text.Memory.{Memory}
use Rattle.std.specs.Prelude.{flat_map}
use Rattle.sparql_tree.specs.Exprs as tree
use Rattle.sparql_tree.specs.ExprTrees.{tree_of, trees_of, signs_of, factors_of}
use Rattle.sparql_tree.specs.declared.expr.Expr.{Expr}
use Rattle.sparql_tree.specs.declared.expr.Signed.{Signed}
use Rattle.sparql_tree.specs.declared.expr.Factor.{Factor}
use Rattle.sparql_print.specs.ExprText.{expr_text, expr_texts, operands_text, separated, put_behind, list_text, in_parens, spaced, sum_sign, product_sign}
use Rattle.sparql_print.specs.Pieces.{between}

-- the text of a part
abbrev pub part_text : Expr → List ℕ
part_text part = expr_text (tree_of part)

-- a summand and a factor behind their signs
abbrev pub signed_text : Signed → List ℕ
signed_text signed = put_behind (sum_sign signed.minus) (expr_text (tree_of signed.value))

abbrev pub factor_text : Factor → List ℕ
factor_text factor = put_behind (product_sign factor.divide) (expr_text (tree_of factor.value))

pub texts_are : (parts : List Expr) → expr_texts (tree.exprs (trees_of parts)) ≡ map part_text parts
unfolding expr_texts
texts_are [] = refl
texts_are (part ∷ parts) = ap (λ ts. part_text part ∷ ts) (texts_are parts)

pub signed_are : (rest : List Signed) → operands_text sum_sign (tree.operands (signs_of rest)) ≡ flat_map signed_text rest
unfolding operands_text
signed_are [] = refl
signed_are (first ∷ rest) = ap (λ t. signed_text first ++ t) (signed_are rest)

pub factors_are : (rest : List Factor) → operands_text product_sign (tree.operands (factors_of rest)) ≡ flat_map factor_text rest
unfolding operands_text
factors_are [] = refl
factors_are (first ∷ rest) = ap (λ t. factor_text first ++ t) (factors_are rest)

-- what stands so far
abbrev pub so_far : List ℕ → List Expr → List ℕ
so_far sign parts = separated sign (map part_text parts)

behind_all : (sign : List ℕ) (xs : List (List ℕ)) (x : List ℕ) → flat_map (put_behind sign) (xs ++ x ∷ []) ≡ flat_map (put_behind sign) xs ++ ((32 ∷ (sign ++ 32 ∷ [])) ++ x)
behind_all sign [] x = append-nil (put_behind sign x) ∙ ap (λ t. 32 ∷ t) (sym (append_assoc sign (32 ∷ []) x))
behind_all sign (y ∷ xs) x = ap (λ t. put_behind sign y ++ t) (behind_all sign xs x) ∙ sym (append_assoc (put_behind sign y) (flat_map (put_behind sign) xs) ((32 ∷ (sign ++ 32 ∷ [])) ++ x))

-- one part more
pub joined_more : (sign : List ℕ) (xs : List (List ℕ)) (x : List ℕ) → separated sign (xs ++ x ∷ []) ≡ separated sign xs ++ (between (length xs) sign ++ x)
joined_more sign [] x = append-nil x
joined_more sign (y ∷ xs) x = ap (λ t. y ++ t) (behind_all sign xs x) ∙ sym (append_assoc y (flat_map (put_behind sign) xs) ((32 ∷ (sign ++ 32 ∷ [])) ++ x))

-- a list without parts, and one with some
pub list_empty : (items : List Expr) → length items ≡ 0 → list_text (expr_texts (tree.exprs (trees_of items))) ≡ codes "( )"
unfolding expr_texts
list_empty [] none = refl
list_empty (item ∷ items) none = absurd (omega arith)

pub list_some : (items : List Expr) → 0 < length items → list_text (expr_texts (tree.exprs (trees_of items))) ≡ in_parens (separated (codes ",") (expr_texts (tree.exprs (trees_of items))))
unfolding expr_texts
list_some [] some = absurd (omega arith)
list_some (item ∷ items) some = refl

pub ruleset list_cases = (list_empty, list_some)

-- what opens, and what closes behind it
pub opened_closed : (o0 o1 o2 a b : List ℕ) → o1 ≡ o0 ++ spaced (codes "(") a → o2 ≡ o1 ++ spaced b (codes ")") → o2 ≡ o0 ++ in_parens (a ++ b)
opened_closed o0 o1 o2 a b opened closed =
    closed ∙ ap (λ o. o ++ spaced b (codes ")")) opened ∙ append_assoc o0 (spaced (codes "(") a) (spaced b (codes ")"))
    ∙ ap (λ t. o0 ++ 40 ∷ 32 ∷ t) (sym (append_assoc a b (32 ∷ 41 ∷ [])))

pub opened_right : (o0 o1 o2 a sign b : List ℕ) → o1 ≡ o0 ++ spaced (codes "(") a → o2 ≡ o1 ++ 32 ∷ spaced sign (spaced b (codes ")")) → o2 ≡ o0 ++ in_parens (spaced a (spaced sign b))
opened_right o0 o1 o2 a sign b opened closed =
    opened_closed o0 o1 o2 a (32 ∷ spaced sign b) opened (closed ∙ ap (λ t. o1 ++ 32 ∷ t) (sym (append_assoc sign (32 ∷ b) (32 ∷ 41 ∷ []))))

-- all operands, and what closes behind them
closed_all : (o0 o1 o2 t u : List ℕ) → o1 ≡ o0 ++ t → t ≡ u → o2 ≡ o1 ++ codes " )" → o2 ≡ o0 ++ spaced u (codes ")")
closed_all o0 o1 o2 t u so is closed = closed ∙ ap (λ o. o ++ codes " )") (so ∙ ap (λ v. o0 ++ v) is) ∙ append_assoc o0 u (codes " )")

pub signed_closed : (o0 o1 o2 : List ℕ) (i : ℕ) (rest : List Signed) → length rest ≤ i → o1 ≡ o0 ++ flat_map signed_text (take i rest) → o2 ≡ o1 ++ codes " )"
    → o2 ≡ o0 ++ spaced (operands_text sum_sign (tree.operands (signs_of rest))) (codes ")")
signed_closed o0 o1 o2 i rest all so closed = closed_all o0 o1 o2 _ _ so (ap (flat_map signed_text) (take_all i rest all) ∙ sym (signed_are rest)) closed

pub factors_closed : (o0 o1 o2 : List ℕ) (i : ℕ) (rest : List Factor) → length rest ≤ i → o1 ≡ o0 ++ flat_map factor_text (take i rest) → o2 ≡ o1 ++ codes " )"
    → o2 ≡ o0 ++ spaced (operands_text product_sign (tree.operands (factors_of rest))) (codes ")")
factors_closed o0 o1 o2 i rest all so closed = closed_all o0 o1 o2 _ _ so (ap (flat_map factor_text) (take_all i rest all) ∙ sym (factors_are rest)) closed

-- where there is a value, what follows from a fact of it
pub on_ok : (r : Result (Unit {0}) Memory) (o x y : List ℕ) → (o ≡ x → o ≡ y) → OnOk r (o ≡ x) → OnOk r (o ≡ y)
on_ok (Ok u) o x y f h = f h
on_ok (Err m) o x y f h = tt
