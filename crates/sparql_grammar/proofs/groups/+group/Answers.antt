use Rattle.std.proofs.Common.{◌≡◌, ◌-◌, suc, ap, arith, rules}
use Rattle.std.proofs.lemmas.Grind.{common_steps}
use Rattle.sparql_grammar.specs.Parser.{more, all_more, repeat, all_steps}
use Rattle.sparql_grammar.proofs.Turns.{turn_left, no_turn_left}
use Rattle.sparql_tree.specs.GroupTrees.{elements_of, groups_of}
use Rattle.sparql_grammar.specs.ExprReading.{expr}
use Rattle.sparql_grammar.specs.GroupReading as spec
use Rattle.sparql_grammar.specs.GroupReading.{group, body, union_from}
use Rattle.sparql_grammar.proofs.groups.+group.Goals as goal

pub group-returns-then-room-eq0 : goal.group-returns-then-room-eq0
unfolding group
group-returns-then-room-eq0 t c = let none : c.args.room ≡ 0 = omega arith in ap (λ n. group n c.args.cursor.now) none

pub group-returns : goal.group-returns
unfolding group
group-returns t c =
    let e : c.args.room ≡ suc (c.args.room - 1) = omega arith in
    rw (ap (λ n. group n c.args.cursor.now) e) c.braced.ensures

pub body-loop-turn-init : goal.body-loop-turn-init
unfolding body all_steps
body-loop-turn-init t c = first_of (search rules, grind (arith, common_steps))

pub body-returns-in-Some-CloseBrace : goal.body-returns-in-Some-CloseBrace
unfolding repeat
body-returns-in-Some-CloseBrace t c =
    let e = turn_left (λ n. repeat (spec.body_turn (expr c.args.room) (spec.group c.args.room)) n (elements_of c.loop-turn.found.items) c.loop-turn.cursor) _ c.loop-turn._turn c.loop-turn-test.true c.loop-turn.invariant in
    first_of (search rules, grind (arith, common_steps))

pub body-returns-in_err-step-in_default : goal.body-returns-in_err-step-in_default
unfolding repeat
body-returns-in_err-step-in_default t c =
    let e = turn_left (λ n. repeat (spec.body_turn (expr c.args.room) (spec.group c.args.room)) n (elements_of c.loop-turn.found.items) c.loop-turn.cursor) _ c.loop-turn._turn c.loop-turn-test.true c.loop-turn.invariant in
    first_of (search rules, grind (arith, common_steps))

pub body-loop-turn-preserved : goal.body-loop-turn-preserved
unfolding repeat
body-loop-turn-preserved t c =
    let e = turn_left (λ n. repeat (spec.body_turn (expr c.args.room) (spec.group c.args.room)) n (elements_of c.loop-turn.found.items) c.loop-turn.cursor) _ c.loop-turn._turn c.loop-turn-test.true c.loop-turn.invariant in
    first_of (search rules, grind (arith, common_steps))

pub body-returns : goal.body-returns
unfolding repeat
body-returns t c =
    let e = no_turn_left (λ n. repeat (spec.body_turn (expr c.args.room) (spec.group c.args.room)) n (elements_of c.loop-turn.found.items) c.loop-turn.cursor) _ c.loop-turn._turn c.loop-turn-test.false c.loop-turn.invariant in
    first_of (search rules, grind (arith, common_steps))

pub union_from-loop-turn-init : goal.union_from-loop-turn-init
unfolding union_from all_more
union_from-loop-turn-init t c = first_of (search rules, grind (arith, common_steps))

pub union_from-returns-in_err-group-in-Some-Union : goal.union_from-returns-in_err-group-in-Some-Union
unfolding more
union_from-returns-in_err-group-in-Some-Union t c =
    let e = turn_left (λ n. more (spec.union_turn (expr c.args.room) (spec.group c.args.room)) n (groups_of c.loop-turn.found.items) c.loop-turn.cursor) _ c.loop-turn._turn c.loop-turn-test.true c.loop-turn.invariant in
    first_of (search rules, grind (arith, common_steps))

pub union_from-returns-in_default : goal.union_from-returns-in_default
unfolding more
union_from-returns-in_default t c =
    let e = turn_left (λ n. more (spec.union_turn (expr c.args.room) (spec.group c.args.room)) n (groups_of c.loop-turn.found.items) c.loop-turn.cursor) _ c.loop-turn._turn c.loop-turn-test.true c.loop-turn.invariant in
    first_of (search rules, grind (arith, common_steps))

pub union_from-loop-turn-preserved : goal.union_from-loop-turn-preserved
unfolding more
union_from-loop-turn-preserved t c =
    let e = turn_left (λ n. more (spec.union_turn (expr c.args.room) (spec.group c.args.room)) n (groups_of c.loop-turn.found.items) c.loop-turn.cursor) _ c.loop-turn._turn c.loop-turn-test.true c.loop-turn.invariant in
    first_of (search rules, grind (arith, common_steps))

pub union_from-returns : goal.union_from-returns
unfolding more
union_from-returns t c =
    let e = no_turn_left (λ n. more (spec.union_turn (expr c.args.room) (spec.group c.args.room)) n (groups_of c.loop-turn.found.items) c.loop-turn.cursor) _ c.loop-turn._turn c.loop-turn-test.false c.loop-turn.invariant in
    first_of (search rules, grind (arith, common_steps))
