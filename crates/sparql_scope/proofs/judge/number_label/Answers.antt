use Rattle.std.proofs.Common.{◌≡◌, Some, None, arith}
use Rattle.std.proofs.lemmas.Grind.{common_steps}
use Rattle.std.proofs.lemmas.Map.Text.{btree_map_updates_text}
use Rattle.std.specs.BTreeMap.{get_by_text}
use Rattle.sparql_scope.proofs.Numbered.{number_stays, number_gets}
use Rattle.sparql_scope.proofs.judge.number_label.Goals as goal

pub returns-in-Some-clause-numbers : goal.returns-in-Some-clause-numbers
returns-in-Some-clause-numbers c name =
    let got : get_by_text c.args.numbers.now c.args.label.now ≡ Some c.in-Some.number.now = grind (arith, common_steps) in
    number_stays (get_by_text c.args.numbers.now) c.args.label.now name c.args.current c.in-Some.number.now got

pub returns-clause-numbers : goal.returns-clause-numbers
returns-clause-numbers c name =
    let key = c.in_ok-from_str.field-0.bytes.items in
    let same : key ≡ c.args.label.now = grind (arith, common_steps) in
    let none : get_by_text c.args.numbers.now c.args.label.now ≡ None = grind (arith, common_steps) in
    number_gets (get_by_text c.args.numbers.now) key c.args.label.now name c.args.current _ same none
    (btree_map_updates_text key c.args.numbers.now c.insert.new.self _ c.in_ok-insert.ensures.updates name)
