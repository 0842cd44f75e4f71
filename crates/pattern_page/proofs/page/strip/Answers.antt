use Rattle.std.proofs.Common.{length, take, ap, ◌∙◌}
use Rattle.std.specs.Cmp.Lexicographic.{other_text}
use Rattle.std.proofs.Math.Seq.{take-append_seam}
use Rattle.pattern_page.proofs.page.strip.Goals as goal

pub returns-else-eq : goal.returns-else-eq
returns-else-eq c = λ rest e.
    other_text c.split_at.result.0.now c.args.front.now c.if-eq.ensures
    (c.split_at.ensures.front ∙ ap (take (length c.args.front.now)) e ∙ take-append_seam c.args.front.now rest)
