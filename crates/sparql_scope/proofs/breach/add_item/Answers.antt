use Rattle.std.proofs.Common.{subst}
use Rattle.sparql_tree.specs.NameSets.{HasNames}
use Rattle.sparql_tree.specs.Breaches.{key_names}
use Rattle.sparql_scope.proofs.Named.{on_ok, allowed_more, variables_more}
use Rattle.sparql_scope.proofs.breach.add_item.Goals as goal

pub returns : goal.returns
returns c = on_ok c.add.result
    (λ more q before h. record {
      allowed = subst (HasNames c.add_named.new.allowed) (allowed_more (key_names q.keys) before _) (c.in_ok-add_named.ensures _ h.allowed);
      keys = h.keys;
      items = subst (HasNames c.add.new.seen) (variables_more before _) (more _ h.items);
    })
    c.add.ensures
