use Rattle.std.proofs.Common.{◌≡◌, drop, fold}
use Rattle.term_core.specs.Mappings.{value}
use Rattle.sparql_value.specs.Solutions.{with_value}
use Rattle.row_bag.proofs.lists.set_values.Given as goal

abbrev pub invariant-loop-name : goal.invariant-loop-name
invariant-loop-name l = fold (λ done name. with_value name (value l.row name) done) l.builder (drop l.name-index l.names) ≡ fold (λ done name. with_value name (value l.row name) done) l.initial.builder l.names
