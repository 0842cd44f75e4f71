use Rattle.std.proofs.Common.{◌≡◌, ◌∙◌, IfOk, subst, arith}
use Rattle.std.specs.Prelude.{flat_map}
use Rattle.std.proofs.lemmas.Grind.{common_steps}
use Rattle.term_core.specs.Mappings.{has_name}
use Rattle.sparql_tree.specs.GroupTrees.{query_of}
use Rattle.sparql_tree.specs.Breaches as spec
use Rattle.sparql_tree.specs.Breaches.{first_name}
use Rattle.sparql_tree.specs.Scopes.{outside}
use Rattle.sparql_scope.proofs.Named.{loose_named}
use Rattle.sparql_scope.proofs.breach.first_in_having.Goals as goal

pub returns : goal.returns
returns c =
    let listed : c.as_slice-2.result.now ≡ spec.key_names (query_of c.args.query.now).keys = grind (arith, common_steps) in
    let names : c.as_slice-4.result.now ≡ flat_map outside (query_of c.args.query.now).having = grind (arith, common_steps) in
    let allowed = loose_named c.args.grouped c.in_ok-allowed.allowed c.as_slice-2.result.now c.as_slice-4.result.now c.in_ok-allowed.ensures in
    subst (λ all. IfOk c.first_loose.result (λ found. found ≡ first_name all))
    (allowed ∙ (λ i. spec.loose c.args.grouped (has_name (listed i)) (names i))) c.first_loose.ensures
