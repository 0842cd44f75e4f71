use Rattle.std.proofs.Common.{◌∙◌, ◌++◌, sym, ap, append-nil, string_bytes}
use Rattle.std.proofs.lemmas.Str.{IsUtf8-past_char}
use Rattle.sparql_symbol.proofs.Undoings.{undone-end, undone-step}
use Rattle.sparql_symbol.proofs.undoing.undo.Goals as goal

pub loop-c-preserved : goal.loop-c-preserved
loop-c-preserved c =
    let held = c.loop-c.invariant in
    let parts = c.in-Some.ensures.steps.0 in (
      IsUtf8-past_char _ _ c.in-Some.c held.0 parts,
      undone-step c.loop-c.place _ _ c.in-Some.c c.step-step.result _ _ _ held.0 parts c.step-step.ensures c.in_ok-push_some.ensures held.1,
    )

pub returns : goal.returns
returns c =
    let held = c.loop-c.invariant in
    sym (append-nil _) ∙ (ap (λ bs. string_bytes c.loop-c.spelled ++ bs) (sym (undone-end c.loop-c.place _ c.in-None.ensures.steps.0.0)) ∙ held.1)
