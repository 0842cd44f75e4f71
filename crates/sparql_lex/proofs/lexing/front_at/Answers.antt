use Rattle.std.proofs.Common.{drop, length-drop, sym, ◌∙◌, arith}
use Rattle.sparql_lex.proofs.Cuts.{front-next}
use Rattle.sparql_lex.proofs.Places.{Begun, at-space, at-comment, at-nothing}
use Rattle.sparql_lex.proofs.lexing.front_at.Goals as goal

pub returns-then-is_space-clause-found : goal.returns-then-is_space-clause-found
returns-then-is_space-clause-found c =
    let begun : Begun (drop c.args.index c.args.text.now) c.split_at.result.1.now c.index-rest-0.result =
    record { same = c.split_at.ensures.back; some = omega (arith, length-drop c.args.index c.args.text.now); first = c.index-rest-0.is } in
    at-space begun (sym c.is_space.ensures ∙ c.if-is_space.true)

pub returns-then-first-eq35-clause-found : goal.returns-then-first-eq35-clause-found
returns-then-first-eq35-clause-found c =
    let begun : Begun (drop c.args.index c.args.text.now) c.split_at.result.1.now c.index-rest-0.result =
    record { same = c.split_at.ensures.back; some = omega (arith, length-drop c.args.index c.args.text.now); first = c.index-rest-0.is } in
    at-comment c.line_run.result begun c.if-first-eq35.true c.line_run.ensures.value

pub returns-in-Some-clause-found : goal.returns-in-Some-clause-found
returns-in-Some-clause-found c = front-next (drop c.args.index c.args.text.now) c.in-Some.kind c.in-Some.n (sym c.in-Some.ensures.found)

pub returns-in-None-clause-found : goal.returns-in-None-clause-found
returns-in-None-clause-found c =
    let begun : Begun (drop c.args.index c.args.text.now) c.split_at.result.1.now c.index-rest-0.result =
    record { same = c.split_at.ensures.back; some = omega (arith, length-drop c.args.index c.args.text.now); first = c.index-rest-0.is } in
    at-nothing begun (sym c.is_space.ensures ∙ c.if-is_space.false) c.if-first-eq35.false (sym c.in-None.ensures.found)
