use Rattle.std.proofs.Common.{◌≡◌, ◌≤◌, ◌+◌, drop, true, Some, length, sym, ap, ◌∙◌, arith}
use Rattle.std.specs.BTreeMap.{get_by_text}
use Rattle.std.proofs.lemmas.Grind.{common_steps}
use Rattle.sparql_scope.specs.Numbers.{is_other}
use Rattle.sparql_tree.specs.declared.mark.Mark.TheVariants as marks
use Rattle.sparql_scope.proofs.Judged.{judged_is, at_mark, at_other, at_end}
use Rattle.sparql_scope.proofs.judge.first_mark.Goals as goal

pub returns-in-Again : goal.returns-in-Again
returns-in-Again c =
    ap Some c.in_ok-marked-in-Again.ensures
    ∙ (sym (at_mark (get_by_text c.loop-mark.numbers) c.loop-mark.current c.args.marks.now c.loop-mark.mark-index (marks.Again c.in-Again.name) _ c.loop-mark-test.true (sym c.in-Again.is ∙ c.mark-item.is))
    ∙ (c.loop-mark.invariant.same ∙ judged_is c.args.marks.now))

pub returns-then-branch : goal.returns-then-branch
returns-then-branch c =
    let other : is_other c.loop-mark.current (get_by_text c.loop-mark.numbers c.in-Label.label) ≡ true = sym c.in_ok-number_label-in-Label.ensures.other ∙ c.if-branch.true in
    ap Some c.in_ok-labelled-in-Label.ensures
    ∙ (sym (at_other (get_by_text c.loop-mark.numbers) c.loop-mark.current c.in-Label.label (drop (c.loop-mark.mark-index + 1) c.args.marks.now) other)
    ∙ (sym (at_mark (get_by_text c.loop-mark.numbers) c.loop-mark.current c.args.marks.now c.loop-mark.mark-index (marks.Label c.in-Label.label) _ c.loop-mark-test.true (sym c.in-Label.is ∙ c.mark-item.is))
    ∙ (c.loop-mark.invariant.same ∙ judged_is c.args.marks.now)))

pub returns : goal.returns
returns c =
    let large : length c.args.marks.now ≤ c.loop-mark.mark-index = grind (arith, common_steps) in
    sym (at_end (get_by_text c.loop-mark.numbers) c.loop-mark.current c.args.marks.now c.loop-mark.mark-index large)
    ∙ (c.loop-mark.invariant.same ∙ judged_is c.args.marks.now)
