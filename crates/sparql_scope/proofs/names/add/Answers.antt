use Rattle.std.proofs.Common.{◌≡◌, ◌++◌, ◌∷◌, [], true, refl, arith}
use Rattle.std.proofs.lemmas.Grind.{common_steps}
use Rattle.std.proofs.lemmas.Map.Text.{btree_set_updates_text}
use Rattle.sparql_tree.proofs.NameSets.{seen_push}
use Rattle.sparql_scope.proofs.names.add.Goals as goal

pub returns : goal.returns
returns c names has text =
    let key = c.in_ok-from_str.field-0.bytes.items in
    let same : key ≡ c.args.name.now = grind (arith, common_steps) in
    let updated = btree_set_updates_text key c.args.seen.now c.insert.new.self true c.in_ok-insert.ensures.updates text in
    seen_push _ _ key names (names ++ c.args.name.now ∷ []) c.args.name.now text same refl (has text) updated
