use Rattle.std.proofs.Common.{◌≡◌, ◌++◌, ◌∷◌, [], refl, arith}
use Rattle.std.proofs.lemmas.Grind.{common_steps}
use Rattle.std.proofs.lemmas.Map.Text.{btree_set_updates_text}
use Rattle.sparql_tree.proofs.NameSets.{seen_push}
use Rattle.sparql_tree.proofs.names.add_new.Goals as goal

pub returns-in_ok-push-clause-seen : goal.returns-in_ok-push-clause-seen
returns-in_ok-push-clause-seen c before has text =
    let key = c.in_ok-from_str.field-0.bytes.items in
    let same : key ≡ c.args.name.now = grind (arith, common_steps) in
    let updated = btree_set_updates_text key c.args.seen.now c.insert.new.self _ c.in_ok-insert.ensures.updates text in
    seen_push _ _ key before (before ++ c.args.name.now ∷ []) c.args.name.now text same refl (has text) updated

pub returns-else-branch-clause-seen : goal.returns-else-branch-clause-seen
returns-else-branch-clause-seen c before has text =
    let key = c.in_ok-from_str.field-0.bytes.items in
    let same : key ≡ c.args.name.now = grind (arith, common_steps) in
    let updated = btree_set_updates_text key c.args.seen.now c.insert.new.self _ c.in_ok-insert.ensures.updates text in
    seen_push _ _ key before (before ++ c.args.name.now ∷ []) c.args.name.now text same refl (has text) updated
