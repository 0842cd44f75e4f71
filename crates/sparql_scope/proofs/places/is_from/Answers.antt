use Rattle.std.proofs.Common.{◌≡◌, Some, None, sym, ap, ◌∙◌, arith}
use Rattle.std.proofs.lemmas.Grind.{common_steps}
use Rattle.std.specs.BTreeMap.{get_by_text}
use Rattle.sparql_scope.proofs.Placed.{is_within, is_from_on}
use Rattle.sparql_scope.proofs.places.is_from.Goals as goal

pub returns-in-Some : goal.returns-in-Some
returns-in-Some c =
    let got : get_by_text c.args.places.now.last c.args.name.now ≡ Some c.in-Some.at.now = grind (arith, common_steps) in
    ap (is_within c.args.start) (sym got ∙ c.requires.last c.args.name.now) ∙ is_from_on c.args.start c.args.places.now.names c.args.name.now c.requires.start

pub returns-in-None : goal.returns-in-None
returns-in-None c =
    let got : get_by_text c.args.places.now.last c.args.name.now ≡ None = grind (arith, common_steps) in
    ap (is_within c.args.start) (sym got ∙ c.requires.last c.args.name.now) ∙ is_from_on c.args.start c.args.places.now.names c.args.name.now c.requires.start
