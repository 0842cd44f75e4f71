use Rattle.std.proofs.Common.{◌≤◌, length, refl, subst, arith}
use Rattle.std.proofs.lemmas.Grind.{common_steps}
use Rattle.httparse.specs.Grammar.{HasNoRequest}
use Rattle.http_core.specs.Heads.{head_limit}
use Rattle.http_core.proofs.Fronts.{none_when_full}
use Rattle.http_core.proofs.taking.take_head.Goals as goal

pub returns-then-len-ge-HEAD_LIMIT-clause-none : goal.returns-then-len-ge-HEAD_LIMIT-clause-none
returns-then-len-ge-HEAD_LIMIT-clause-none g c = λ is coming told.
    let full : head_limit ≤ length c.pieces.buf.items = grind (arith, common_steps) in
    none_when_full _ c.pieces.buf.items _ c.pieces.invariant.0 (subst HasNoRequest c.deref.ensures.value (c.in-Part.ensures.part refl)) full coming told
