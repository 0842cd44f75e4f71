use Rattle.std.proofs.lemmas.Map.Text.{btree_map_updates_str}
use Rattle.sparql_symbol.proofs.prefixes.declare.Goals as goal

pub returns-in-Ok : goal.returns-in-Ok
returns-in-Ok c = λ q. btree_map_updates_str c.args.prefix.now c.args.prefixes.now c.insert.new.self _ c.in-Ok.ensures.updates q
