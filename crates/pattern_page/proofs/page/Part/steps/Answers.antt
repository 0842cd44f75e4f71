use Rattle.std.proofs.Common.{arith}
use Rattle.pattern_page.specs.PagesOf.{part_seen}
use Rattle.pattern_page.proofs.PageLinks.{steps_are}
use Rattle.pattern_page.proofs.page.Part.steps.Goals as goal

pub returns : goal.returns
returns c = λ D pattern store h. omega (arith, steps_are D pattern (part_seen c.args.self.now h.terms h.ids) h.is_of, h.counted)
