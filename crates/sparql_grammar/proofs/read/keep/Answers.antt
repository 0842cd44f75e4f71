use Rattle.std.proofs.Common.{◌≡◌, ◌++◌, ◌∷◌, [], true, arith}
use Rattle.std.specs.Prelude.{map}
use Rattle.std.proofs.lemmas.Grind.{common_steps}
use Rattle.std.proofs.lemmas.Map.Text.{btree_set_updates_text}
use Rattle.sparql_tree.specs.GroupTrees.{item_of}
use Rattle.sparql_tree.specs.Queries.{variables}
use Rattle.sparql_tree.proofs.NameSets.{seen_push}
use Rattle.sparql_grammar.proofs.read.keep.Goals as goal

pub returns-in_ok-push-clause-seen : goal.returns-in_ok-push-clause-seen
returns-in_ok-push-clause-seen c text =
    let key = c.in_ok-from_str.field-0.bytes.items in
    let same : key ≡ c.args.item.variable = grind (arith, common_steps) in
    let pushed : variables (map item_of c.push.new.self) ≡ variables (map item_of c.args.found.now) ++ c.args.item.variable ∷ [] = grind (arith, common_steps) in
    let updated = btree_set_updates_text key c.args.seen.now c.insert.new.self true c.in_ok-is_new.ensures.updates text in
    seen_push _ _ key (variables (map item_of c.args.found.now)) (variables (map item_of c.push.new.self)) c.args.item.variable text same pushed (c.requires text) updated
