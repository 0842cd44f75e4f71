use Rattle.std.proofs.Common.{Err, [], sym, ap, ◌∙◌}
use Rattle.std.proofs.lemmas.Option.{get_or_from_slice_get}
use Rattle.term_core.specs.declared.term.Term.TheVariants.{Iri}
use Rattle.term_core.specs.Mappings.{value}
use Rattle.plan_tree.specs.Trace.{put as put_name}
use Rattle.pattern_page.proofs.Refusals.{refused_store}
use Rattle.pattern_page.proofs.page.bind_name.Goals as goal

pub returns-in_err-term-clause-refused : goal.returns-in_err-term-clause-refused
returns-in_err-term-clause-refused g c =
    refused_store c.from_residual.result c.in_err-term.field-0.0 c.args.store.now c.term.new.self c.from_residual.ensures
    (λ e. c.term.ensures.failed (c.in_err-term.was ∙ ap Err e)) (λ terms ids block s e. c.term.ensures.whole terms ids block s (c.in_err-term.was ∙ ap Err e))

pub returns-clause-found : goal.returns-clause-found
returns-clause-found g c = λ terms ids s.
    c.in_ok-put.ensures ∙ ap (λ t. put_name c.args.row c.args.name t (value c.args.row c.args.name))
    (sym (get_or_from_slice_get terms c.args.id c.in_ok-term.term (Iri []) (c.in_ok-term.ensures.found terms ids s)))
