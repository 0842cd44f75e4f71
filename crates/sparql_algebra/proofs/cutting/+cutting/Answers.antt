use Rattle.std.proofs.Common.{◌≡◌, ◌++◌, length, map, IfOk, OnOk, sym, ap, subst, ◌∙◌}
use Rattle.sparql_tree.specs.AlgebraTrees.{algebra_of}
use Rattle.sparql_translation.specs.Splits.{parts_of, tree_from}
use Rattle.sparql_algebra.specs.Cuts.{part_of}
use Rattle.sparql_algebra.specs.SplitTrees.{pure_part, pure_tree}
use Rattle.sparql_algebra.proofs.ServerParts.{one_part, part_alone}
use Rattle.sparql_algebra.proofs.cutting.+cutting.Goals as goal

pub cut-returns-then-is_server-clause-tree : goal.cut-returns-then-is_server-clause-tree
cut-returns-then-is_server-clause-tree t c =
    let server = sym c.is_server.ensures ∙ c.if-is_server.true in
    subst (λ tree. IfOk c.push_part.result (λ found. pure_tree found ≡ tree)) (sym (part_alone (length c.args.parts.now) (algebra_of c.args.a) server)) c.push_part.ensures.tree

pub cut-returns-then-is_server-clause-parts : goal.cut-returns-then-is_server-clause-parts
cut-returns-then-is_server-clause-parts t c =
    let server = sym c.is_server.ensures ∙ c.if-is_server.true in
    subst (λ parts. OnOk c.push_part.result (map pure_part c.push_part.new.parts ≡ map pure_part c.args.parts.now ++ map part_of parts)) (sym (one_part (algebra_of c.args.a) server)) c.push_part.ensures.parts
