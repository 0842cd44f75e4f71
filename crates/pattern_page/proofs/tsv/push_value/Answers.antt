use Rattle.std.proofs.Common.{◌∙◌, sym}
use Rattle.term_core.specs.Texts.{term_text}
use Rattle.pattern_page.proofs.TsvLines.{untabbed}
use Rattle.pattern_page.proofs.tsv.push_value.Goals as goal

pub returns-else-contains : goal.returns-else-contains
returns-else-contains c =
    sym c.deref.ensures.value
    ∙ untabbed c.args.out.now.items (term_text c.args.term.now) c.deref.result.now c.len-start.result (c.len-start.ensures ∙ c.args.out.now.ok.0) (c.deref.ensures.value ∙ c.in_ok-push_term.ensures.ok) (sym c.if-contains.false ∙ c.contains.ensures.value)
