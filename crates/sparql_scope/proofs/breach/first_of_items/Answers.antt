use Rattle.std.proofs.Common.{◌≡◌, ◌+◌, ◌++◌, ◌∷◌, [], map, take, drop, sym, subst, ap, ◌∙◌, arith}
use Rattle.std.proofs.lemmas.Grind.{common_steps}
use Rattle.std.proofs.lemmas.List.{map-append}
use Rattle.sparql_tree.specs.GroupTrees.{item_of, query_of}
use Rattle.sparql_tree.specs.Breaches as spec
use Rattle.sparql_tree.specs.Breaches.{first_name}
use Rattle.sparql_scope.specs.Named.{AreNamed}
use Rattle.sparql_scope.proofs.Named.{breach_there, breach_behind, left_is, read_is}
use Rattle.sparql_scope.proofs.breach.first_of_items.Goals as goal

pub returns-in-Some : goal.returns-in-Some
returns-in-Some c =
    let q = query_of c.args.query.now in
    let xs = c.args.query.now.items in
    let i = c.loop-item.item-index in
    let same : c.as_slice-item-items.result.now ≡ xs = grind (arith, common_steps) in
    let left : map item_of (drop i xs) ≡ item_of c.item-item.result ∷ map item_of (drop (i + 1) xs) =
    ap (map item_of) (left_is c.as_slice-item-items.result.now xs i c.item-item.result _ same c.loop-item-test.true c.item-item.is) in
    sym (sym c.loop-item.invariant.same
    ∙ (ap (λ ys. first_name (spec.item_breaches q (map item_of (take i xs)) ys)) left
    ∙ breach_there q (map item_of (take i xs)) (map item_of (drop (i + 1) xs)) (item_of c.item-item.result) c.loop-item.named c.args.scope.now.names c.args.grouped _ c.in-Some.name
    c.loop-item.invariant.named c.requires.names c.requires.grouped c.in_ok-name.ensures c.in-Some.is))

pub loop-item-preserved : goal.loop-item-preserved
loop-item-preserved c =
    let q = query_of c.args.query.now in
    let xs = c.args.query.now.items in
    let i = c.loop-item.item-index in
    let same : c.as_slice-item-items.result.now ≡ xs = grind (arith, common_steps) in
    let left : map item_of (drop i xs) ≡ item_of c.item-item.result ∷ map item_of (drop (i + 1) xs) =
    ap (map item_of) (left_is c.as_slice-item-items.result.now xs i c.item-item.result _ same c.loop-item-test.true c.item-item.is) in
    let front : map item_of (take i xs) ++ item_of c.item-item.result ∷ [] ≡ map item_of (take (i + 1) xs) =
    sym (map-append item_of (take i xs) (c.item-item.result ∷ [])) ∙ ap (map item_of) (read_is c.as_slice-item-items.result.now xs i c.item-item.result _ same c.loop-item-test.true c.item-item.is) in
    record {
      same = sym (ap (λ ys. first_name (spec.item_breaches q ys (map item_of (drop (i + 1) xs)))) front)
          ∙ (sym (breach_behind q (map item_of (take i xs)) (map item_of (drop (i + 1) xs)) (item_of c.item-item.result) c.loop-item.named c.args.scope.now.names c.args.grouped _
          c.loop-item.invariant.named c.requires.names c.requires.grouped c.in_ok-name.ensures c.in_default.is)
          ∙ (sym (ap (λ ys. first_name (spec.item_breaches q (map item_of (take i xs)) ys)) left) ∙ c.loop-item.invariant.same));
      named = subst (AreNamed c.add_item.new.named q) front (c.in_ok-add_item.ensures q (map item_of (take i xs)) c.loop-item.invariant.named);
    }
