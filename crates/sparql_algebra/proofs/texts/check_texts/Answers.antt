use Rattle.std.proofs.Common.{◌≡◌, ◌<◌, ◌+◌, ◌++◌, ◌∷◌, [], true, false, map, length, take, drop, subst, sym, ap, ◌∙◌, rules, arith}
use Rattle.std.proofs.lemmas.Grind.{common_steps}
use Rattle.std.proofs.lemmas.List.{take-append-drop}
use Rattle.sparql_algebra.specs.Prepared.{TellsLarge}
use Rattle.sparql_algebra.specs.SplitTrees.{pure_part}
use Rattle.sparql_algebra.proofs.PartTexts.{large_there, fit_more}
use Rattle.sparql_algebra.proofs.texts.check_texts.Goals as goal

pub returns-then-branch-clause-why : goal.returns-then-branch-clause-why
returns-then-branch-clause-why c =
    let i = c.loop-part.part-index in
    let parts = c.args.parts.now in
    let small : i < length parts = grind (arith, common_steps) in
    let next : take i parts ++ c.part-item.result ∷ [] ≡ take (i + 1) parts = first_of (search rules, grind (arith, common_steps)) in
    let whole : take (i + 1) parts ++ drop (i + 1) parts ≡ parts = take-append-drop (i + 1) parts in
    large_there pure_part parts i c.part-item.result small next whole (subst (TellsLarge c.part-item.result.text) c.if-branch.true c.in_ok-is_too_large.ensures)

pub loop-part-preserved : goal.loop-part-preserved
loop-part-preserved c =
    let i = c.loop-part.part-index in
    let parts = c.args.parts.now in
    let next : take i parts ++ c.part-item.result ∷ [] ≡ take (i + 1) parts = first_of (search rules, grind (arith, common_steps)) in
    fit_more pure_part parts i c.part-item.result next c.loop-part.invariant (subst (TellsLarge c.part-item.result.text) c.if-branch.false c.in_ok-is_too_large.ensures)
