use Rattle.std.proofs.Common.{◌≡◌, ◌++◌, length}
use Rattle.std.specs.Prelude.{flat_map}
use Rattle.term_core.specs.Texts.{escaped}
use Rattle.nt_text.specs.Growth.{IsGrown}
use Rattle.nt_text.proofs.writing.push_lexical.Given as goal

abbrev pub invariant-runs : goal.invariant-runs
invariant-runs l = (l.out.items ++ flat_map escaped l.left ≡ l.initial.out.items ++ flat_map escaped l.fn.lexical) × IsGrown l.initial.out.items l.out.items

abbrev pub decreases-runs : goal.decreases-runs
decreases-runs l = length l.left
