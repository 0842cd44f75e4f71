use Rattle.std.proofs.Common.{arith, drop, length-drop}
use Rattle.sparql_symbol.proofs.Prologues.{stop-rest, stop-declared, go-rest, go-declared, end-rest, end-declared}
use Rattle.sparql_symbol.proofs.prologue.read_prologue.Goals as goal

pub returns-then-not-branch-clause-rest : goal.returns-then-not-branch-clause-rest
returns-then-not-branch-clause-rest c =
    stop-rest c.args.text.now c.args.tokens.now c.declarations.at _ c.in_ok-declare_by.field-0 _ _ _ (omega arith) c.in_ok-declare_by.ensures c.if-not-branch.true c.declarations.invariant.rest

pub returns-then-not-branch-clause-declared : goal.returns-then-not-branch-clause-declared
returns-then-not-branch-clause-declared c =
    stop-declared c.args.text.now c.args.tokens.now c.declarations.at _ c.in_ok-declare_by.field-0 _ _ _ (omega arith) c.in_ok-declare_by.ensures c.if-not-branch.true c.declarations.invariant.declared

pub declarations-preserved : goal.declarations-preserved
declarations-preserved c = record {
  within = omega arith;
  rest = go-rest c.args.text.now c.args.tokens.now c.declarations.at _ c.in_ok-declare_by.field-0 _ _ _ (omega arith) c.in_ok-declare_by.ensures c.if-not-branch.false c.declarations.invariant.rest;
  declared = go-declared c.args.text.now c.args.tokens.now c.declarations.at _ c.in_ok-declare_by.field-0 _ _ _ (omega arith) c.in_ok-declare_by.ensures c.if-not-branch.false c.declarations.invariant.declared;
}

pub returns-clause-rest : goal.returns-clause-rest
returns-clause-rest c = end-rest c.args.text.now (drop c.declarations.at c.args.tokens.now) _ (omega (arith, length-drop c.declarations.at c.args.tokens.now)) c.declarations.invariant.rest

pub returns-clause-declared : goal.returns-clause-declared
returns-clause-declared c = end-declared c.args.text.now (drop c.declarations.at c.args.tokens.now) _ _ (omega (arith, length-drop c.declarations.at c.args.tokens.now)) c.declarations.invariant.declared
