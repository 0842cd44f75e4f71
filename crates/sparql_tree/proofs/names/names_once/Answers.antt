use Rattle.std.proofs.Common.{◌≡◌, ◌+◌, ◌++◌, ◌∷◌, [], take, sym, subst, ap, ◌∙◌, rules, arith}
use Rattle.std.proofs.lemmas.Grind.{common_steps}
use Rattle.term_core.specs.Bags.{distinct}
use Rattle.term_core.specs.Mappings.{same_name}
use Rattle.sparql_tree.specs.NameSets.{HasNames, with_new}
use Rattle.sparql_tree.proofs.NameSets.{once_more}
use Rattle.sparql_tree.proofs.names.names_once.Goals as goal

pub loop-name-preserved : goal.loop-name-preserved
loop-name-preserved c =
    let i = c.loop-name.name-index in
    let names = c.args.names.now in
    let next : take i names ++ c.name-item.result ∷ [] ≡ take (i + 1) names = first_of (search rules, grind (arith, common_steps)) in
    record {
      added = c.in_ok-add_new.ensures.added (take i names) c.loop-name.invariant.seen
          ∙ ap (with_new (take i names) c.name-item.result) c.loop-name.invariant.added
          ∙ sym (once_more (take i names) c.name-item.result)
          ∙ ap (distinct same_name) next;
      seen = subst (HasNames c.add_new.new.seen) next (c.in_ok-add_new.ensures.seen (take i names) c.loop-name.invariant.seen);
    }
