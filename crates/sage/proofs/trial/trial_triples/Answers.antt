use Rattle.std.proofs.Common.{◌≡◌, ◌+◌, ◌++◌, ◌∷◌, [], suc, sym, ap, ◌∙◌, arith}
use Rattle.sage.specs.Trial.{trial_front, next_triple, value_triple}
use Rattle.sage.proofs.trial.trial_triples.Goals as goal

pub loop-i-preserved : goal.loop-i-preserved
loop-i-preserved c =
    let n = c.args.n in
    let i = c.loop-i.i in
    let next : i + 1 ≡ suc i = omega arith in
    c.in_ok-push_number.ensures ∙ ap (λ ts. ts ++ next_triple n i ∷ value_triple i ∷ []) c.loop-i.invariant ∙ sym (ap (trial_front n) next)
