use Rattle.std.proofs.Common.{◌≡◌, ◌++◌, ◌∷◌, ◌∙◌, ap, sym, map, arith, codes, string_bytes}
use Rattle.std.proofs.lemmas.List.{take_all}
use Rattle.sparql_tree.specs.Exprs.{exprs, operands}
use Rattle.sparql_tree.specs.ExprTrees.{tree_of, trees_of, signs_of, factors_of}
use Rattle.sparql_tree.proofs.ExprViews.{compare_view, one_of_view, sum_view, product_view}
use Rattle.sparql_print.specs.ExprText.{expr_text, expr_texts, operands_text, spaced, in_parens, separated, list_text, sum_sign, product_sign}
use Rattle.sparql_print.proofs.Texts.{opened_closed, opened_right, part_text, texts_are, signed_closed, factors_closed, on_ok}
use Rattle.sparql_print.proofs.printing.+print.Goals as goal

pub push_expr-returns-in_ok-push_opened-in-Compare : goal.push_expr-returns-in_ok-push_opened-in-Compare
unfolding expr_text
push_expr-returns-in_ok-push_opened-in-Compare t c =
    let first = expr_text (tree_of c.deref-in-Compare.result.now) in
    let second = expr_text (tree_of c.deref-in-Compare-2.result.now) in
    let is : expr_text (tree_of c.args.e.now) ≡ in_parens (spaced first (spaced c.op_text.result.now second)) =
    ap expr_text (ap tree_of c.in-Compare.is ∙ compare_view _ _ _)
    ∙ (λ i. in_parens (spaced (expr_text (tree_of (sym c.deref-in-Compare.ensures i))) (spaced (sym c.op_text.ensures i) (expr_text (tree_of (sym c.deref-in-Compare-2.ensures i)))))) in
    on_ok c.push_right.result (string_bytes c.push_right.new.out) (string_bytes c.push_opened.new.out ++ 32 ∷ spaced c.op_text.result.now (spaced second (codes ")"))) (string_bytes c.args.out.now ++ expr_text (tree_of c.args.e.now))
    (λ e. opened_right (string_bytes c.args.out.now) (string_bytes c.push_opened.new.out) (string_bytes c.push_right.new.out) first c.op_text.result.now second c.in_ok-push_opened-in-Compare.ensures e
    ∙ ap (λ a. string_bytes c.args.out.now ++ a) (sym is)) c.push_right.ensures

pub push_expr-returns-in_ok-push_opened-in-OneOf : goal.push_expr-returns-in_ok-push_opened-in-OneOf
unfolding expr_text
push_expr-returns-in_ok-push_opened-in-OneOf t c =
    let first = expr_text (tree_of c.deref-in-OneOf.result.now) in
    let second = list_text (expr_texts (exprs (trees_of c.deref-in-OneOf-2.result.now))) in
    let is : expr_text (tree_of c.args.e.now) ≡ in_parens (spaced first (spaced c.in_text.result.now second)) =
    ap expr_text (ap tree_of c.in-OneOf.is ∙ one_of_view _ _ _)
    ∙ (λ i. in_parens (spaced (expr_text (tree_of (sym c.deref-in-OneOf.ensures i))) (spaced (sym c.in_text.ensures i) (list_text (expr_texts (exprs (trees_of (sym c.deref-in-OneOf-2.ensures.value i)))))))) in
    on_ok c.push_items.result (string_bytes c.push_items.new.out) (string_bytes c.push_opened-in-OneOf.new.out ++ 32 ∷ spaced c.in_text.result.now (spaced second (codes ")"))) (string_bytes c.args.out.now ++ expr_text (tree_of c.args.e.now))
    (λ e. opened_right (string_bytes c.args.out.now) (string_bytes c.push_opened-in-OneOf.new.out) (string_bytes c.push_items.new.out) first c.in_text.result.now second c.in_ok-push_opened-in-OneOf.ensures e
    ∙ ap (λ a. string_bytes c.args.out.now ++ a) (sym is)) c.push_items.ensures

pub push_expr-returns-in_ok-push_opened-in-Sum : goal.push_expr-returns-in_ok-push_opened-in-Sum
unfolding expr_text
push_expr-returns-in_ok-push_opened-in-Sum t c =
    let first = expr_text (tree_of c.deref-in-Sum.result.now) in
    let more = operands_text sum_sign (operands (signs_of c.deref-in-Sum-2.result.now)) in
    let is : expr_text (tree_of c.args.e.now) ≡ in_parens (first ++ more) =
    ap expr_text (ap tree_of c.in-Sum.is ∙ sum_view _ _)
    ∙ (λ i. in_parens (expr_text (tree_of (sym c.deref-in-Sum.ensures i)) ++ operands_text sum_sign (operands (signs_of (sym c.deref-in-Sum-2.ensures.value i))))) in
    on_ok c.push_signed.result (string_bytes c.push_signed.new.out) (string_bytes c.push_opened-in-Sum.new.out ++ spaced more (codes ")")) (string_bytes c.args.out.now ++ expr_text (tree_of c.args.e.now))
    (λ e. opened_closed (string_bytes c.args.out.now) (string_bytes c.push_opened-in-Sum.new.out) (string_bytes c.push_signed.new.out) first more c.in_ok-push_opened-in-Sum.ensures e
    ∙ ap (λ a. string_bytes c.args.out.now ++ a) (sym is)) c.push_signed.ensures

pub push_expr-returns-in_ok-push_opened-in-Product : goal.push_expr-returns-in_ok-push_opened-in-Product
unfolding expr_text
push_expr-returns-in_ok-push_opened-in-Product t c =
    let first = expr_text (tree_of c.deref-in-Product.result.now) in
    let more = operands_text product_sign (operands (factors_of c.deref-in-Product-2.result.now)) in
    let is : expr_text (tree_of c.args.e.now) ≡ in_parens (first ++ more) =
    ap expr_text (ap tree_of c.in-Product.is ∙ product_view _ _)
    ∙ (λ i. in_parens (expr_text (tree_of (sym c.deref-in-Product.ensures i)) ++ operands_text product_sign (operands (factors_of (sym c.deref-in-Product-2.ensures.value i))))) in
    on_ok c.push_factors.result (string_bytes c.push_factors.new.out) (string_bytes c.push_opened-in-Product.new.out ++ spaced more (codes ")")) (string_bytes c.args.out.now ++ expr_text (tree_of c.args.e.now))
    (λ e. opened_closed (string_bytes c.args.out.now) (string_bytes c.push_opened-in-Product.new.out) (string_bytes c.push_factors.new.out) first more c.in_ok-push_opened-in-Product.ensures e
    ∙ ap (λ a. string_bytes c.args.out.now ++ a) (sym is)) c.push_factors.ensures

pub push_joined-returns : goal.push_joined-returns
push_joined-returns t c =
    c.loop-i.invariant ∙ ap (λ ts. string_bytes c.args.out.now ++ separated c.args.sign.now ts) (ap (map part_text) (take_all c.loop-i.i c.args.parts.now (omega (arith, c.loop-i-test.false))) ∙ sym (texts_are c.args.parts.now))

pub push_signed-returns : goal.push_signed-returns
push_signed-returns t c =
    on_ok c.push.result (string_bytes c.push.new.out) (string_bytes c.loop-signed.out ++ codes " )") (string_bytes c.args.out.now ++ spaced (operands_text sum_sign (operands (signs_of c.args.rest.now))) (codes ")"))
    (λ e. signed_closed (string_bytes c.args.out.now) (string_bytes c.loop-signed.out) (string_bytes c.push.new.out) c.loop-signed.signed-index c.args.rest.now (omega (arith, c.loop-signed-test.false)) c.loop-signed.invariant e) c.push.ensures

pub push_factors-returns : goal.push_factors-returns
push_factors-returns t c =
    on_ok c.push.result (string_bytes c.push.new.out) (string_bytes c.loop-factor.out ++ codes " )") (string_bytes c.args.out.now ++ spaced (operands_text product_sign (operands (factors_of c.args.rest.now))) (codes ")"))
    (λ e. factors_closed (string_bytes c.args.out.now) (string_bytes c.loop-factor.out) (string_bytes c.push.new.out) c.loop-factor.factor-index c.args.rest.now (omega (arith, c.loop-factor-test.false)) c.loop-factor.invariant e) c.push.ensures
