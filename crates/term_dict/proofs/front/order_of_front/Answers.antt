use Rattle.std.proofs.Common.{Less, Greater, ◌∙◌, sym, ap, take, length, nat_cmp}
use Rattle.std.specs.Ordering.{ordering_then}
use Rattle.std.specs.Cmp.Lexicographic.{slice_cmp}
use Rattle.term_dict.proofs.Fronts.{decided}
use Rattle.term_dict.proofs.front.order_of_front.Goals as goal

pub returns-in-Less : goal.returns-in-Less
returns-in-Less c = λ rest.
    let b = c.in-Ok.beginning.now in
    decided c.args.front.now rest c.args.t.now c.in-Ok.kind b Less c.in-Ok.ensures
    (sym c.in-Less.is ∙ c.then.ensures ∙ ap (λ o. ordering_then o c.cmp.result) (c.cmp-first.ensures ∙ ap (nat_cmp c.in-Ok.kind) c.parts_of-kind_of_term.ensures.kind)
    ∙ ap (ordering_then _) (c.cmp.ensures ∙ ap (slice_cmp nat_cmp b) (c.at_most.ensures ∙ ap (take (length b)) c.parts_of-kind_of_term.ensures.text)))
    (λ e. cc)

pub returns-in-Greater : goal.returns-in-Greater
returns-in-Greater c = λ rest.
    let b = c.in-Ok.beginning.now in
    decided c.args.front.now rest c.args.t.now c.in-Ok.kind b Greater c.in-Ok.ensures
    (sym c.in-Greater.is ∙ c.then.ensures ∙ ap (λ o. ordering_then o c.cmp.result) (c.cmp-first.ensures ∙ ap (nat_cmp c.in-Ok.kind) c.parts_of-kind_of_term.ensures.kind)
    ∙ ap (ordering_then _) (c.cmp.ensures ∙ ap (slice_cmp nat_cmp b) (c.at_most.ensures ∙ ap (take (length b)) c.parts_of-kind_of_term.ensures.text)))
    (λ e. cc)
