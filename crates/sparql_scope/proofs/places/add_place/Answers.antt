use Rattle.std.proofs.Common.{◌≡◌, ◌++◌, ◌∷◌, [], arith, rules}
use Rattle.std.proofs.lemmas.Grind.{common_steps}
use Rattle.std.proofs.lemmas.Map.Text.{btree_map_updates_text}
use Rattle.sparql_scope.specs.Places.{AreLast}
use Rattle.sparql_scope.proofs.Placed.{updated}
use Rattle.sparql_scope.proofs.places.add_place.Goals as goal

pub returns-clause-last : goal.returns-clause-last
returns-clause-last c =
    let key = c.in_ok-key.key.bytes.items in
    let same : key ≡ c.args.name.now = grind (arith, common_steps) in
    let last : AreLast c.insert.new.self (c.args.places.now.names ++ c.args.name.now ∷ []) = λ text. updated _ key c.args.name.now text c.args.places.now.names _ _ same c.len.ensures (c.requires.last) (btree_map_updates_text key c.args.places.now.last c.insert.new.self _ c.in_ok-insert.ensures.updates text) in
    search rules
