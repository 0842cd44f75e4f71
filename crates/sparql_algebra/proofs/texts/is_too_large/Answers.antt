use Rattle.std.proofs.Common.{◌≡◌, subst, sym}
use Rattle.std.specs.Prelude.{IfOk}
use Rattle.sparql_tree.specs.Refusals.{WhyNoSymbols}
use Rattle.sparql_algebra.specs.Prepared.{IsTooLarge, TellsLarge}
use Rattle.sparql_algebra.proofs.PartTexts.{symbols_fit, size_told}
use Rattle.sparql_algebra.proofs.texts.is_too_large.Goals as goal

pub returns-in-Ok : goal.returns-in-Ok
returns-in-Ok c = subst (λ text. IsTooLarge text → ⊥) c.bytes.ensures.same (symbols_fit c.bytes.result.now _ c.in-Ok.ensures.found)

pub returns : goal.returns
returns c = size_told c.args.text.now c.in-Err.fault c.is_of_size.result (subst (λ text. WhyNoSymbols text c.in-Err.fault) c.bytes.ensures.same c.in-Err.ensures.why) c.is_of_size.ensures
