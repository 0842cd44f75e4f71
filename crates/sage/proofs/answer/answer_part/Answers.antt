use Rattle.std.proofs.Common.{◌∙◌, ◌++◌, ap}
use Rattle.std.specs.Prelude.{flat_map}
use Rattle.plan_tree.specs.Pages.{rows_in}
use Rattle.pattern_page.specs.Results.{header, line}
use Rattle.sage.proofs.Answering.{answers_over, counted_pages}
use Rattle.sage.proofs.Opened.{counts_refused}
use Rattle.sage.proofs.answer.answer_part.Goals as goal

pub returns-in_err-counts-clause-answered : goal.returns-in_err-counts-clause-answered
returns-in_err-counts-clause-answered g c = λ triples pattern is_part.
    counts_refused triples pattern c.args.quanta.now c.args.names.now c.push_header.new.out.items c.follow_pages.new.out.items c.in_err-counts.field-0.0 c.from_residual-in_err-counts.result c.from_residual-in_err-counts.ensures
    (c.in_err-counts.ensures.pages triples pattern is_part)

pub returns-clause-answered : goal.returns-clause-answered
returns-clause-answered g c = λ triples pattern is_part.
    let followed = c.in_ok-counts.ensures.pages triples pattern is_part in
    answers_over triples c.args.names.now pattern c.args.quanta.now _ _ followed.pages c.requires.some c.requires.variables followed.run
    (followed.are.lines_are ∙ ap (λ text. text ++ flat_map (line c.args.names.now) (rows_in followed.pages)) (c.in_ok-push_header.ensures ∙ ap (λ text. text ++ header c.args.names.now) c.new-text.ensures.items))
    (c.in_ok-counts-2.ensures ∙ counted_pages _ _ _ followed.pages followed.are.pages_are followed.are.steps_are followed.are.longest_are)
