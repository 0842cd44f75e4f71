use Rattle.std.proofs.Common.{◌≡◌, ◌≤◌, None, drop}
use Rattle.std.specs.BTreeMap.{get_by_text}
use Rattle.sparql_scope.proofs.Judged.{judged}
use Rattle.sparql_scope.proofs.judge.first_mark.Given as goal

-- what is left decides; no more patterns have ended than marks were read
abbrev pub invariant-loop-mark : goal.invariant-loop-mark
invariant-loop-mark l = record {
  same : judged (get_by_text l.numbers) l.current (drop l.mark-index l.marks) ≡ judged (λ name. None) 0 l.marks;
  few : l.current ≤ l.mark-index;
}
