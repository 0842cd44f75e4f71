use Rattle.std.proofs.Common.{◌≡◌, IfOk, sym, ap, ◌∙◌, subst}
use Rattle.term_core.specs.Patterns.{position_of, label_name}
use Rattle.term_core.specs.Mappings.{value}
use Rattle.plan_tree.specs.Trace.{put as put_name, bind_at}
use Rattle.store_image.specs.Table.{term_numbered}
use Rattle.pattern_page.proofs.page.bind.Goals as goal

pub returns-in_ok-copy-in-Var-clause-found : goal.returns-in_ok-copy-in-Var-clause-found
returns-in_ok-copy-in-Var-clause-found g c = λ terms ids s.
    let t = term_numbered terms c.args.id in
    subst (λ x. IfOk c.bind_name.result (λ r. r ≡ x))
    (ap (λ n. put_name c.in-Some.row n t (value c.in-Some.row n)) c.in_ok-copy-in-Var.ensures ∙ sym (λ i. bind_at (position_of (c.in-Var.is i)) t (c.in-Some.is i)))
    (c.bind_name.ensures.found terms ids s)

pub returns-in_ok-name_of_label-in-Blank-clause-found : goal.returns-in_ok-name_of_label-in-Blank-clause-found
returns-in_ok-name_of_label-in-Blank-clause-found g c = λ terms ids s.
    let t = term_numbered terms c.args.id in
    subst (λ x. IfOk c.bind_name-in-Blank.result (λ r. r ≡ x))
    (ap (λ n. put_name c.in-Some.row n t (value c.in-Some.row n)) c.in_ok-name_of_label-in-Blank.ensures ∙ sym (λ i. bind_at (position_of (c.in-Blank.is i)) t (c.in-Some.is i)))
    (c.bind_name-in-Blank.ensures.found terms ids s)
