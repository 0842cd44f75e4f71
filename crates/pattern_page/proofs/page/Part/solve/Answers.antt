use Rattle.std.proofs.Common.{◌≡◌, Some, IfOk, sym, ap, ◌∙◌, subst}
use Rattle.term_core.specs.Patterns.{position_of}
use Rattle.plan_tree.specs.Trace.{bind_at}
use Rattle.store_image.specs.Table.{term_numbered}
use Rattle.pattern_page.proofs.Refusals.{refused_later, all_later, kept_twice, still_shown}
use Rattle.pattern_page.proofs.page.Part.solve.Goals as goal

pub returns-in_err-row-2-clause-refused : goal.returns-in_err-row-2-clause-refused
returns-in_err-row-2-clause-refused g c =
    refused_later c.from_residual-in_err-row-2.result c.in_err-row-2.field-0.0 c.args.store.now c.bind.new.store c.bind-2.new.store c.from_residual-in_err-row-2.ensures
    c.bind.ensures.kept c.in_err-row-2.ensures.refused

pub returns-clause-refused : goal.returns-clause-refused
returns-clause-refused g c =
    all_later c.bind-3.result c.args.store.now c.bind-2.new.store c.bind-3.new.store
    (kept_twice c.args.store.now c.bind.new.store c.bind-2.new.store c.bind.ensures.kept c.bind-2.ensures.kept) c.bind-3.ensures.refused

pub returns-clause-found : goal.returns-clause-found
returns-clause-found g c = λ terms ids s.
    let p = c.args.self.now.pattern.now in
    let t = c.args.triple in
    let kept = kept_twice c.args.store.now c.bind.new.store c.bind-2.new.store c.bind.ensures.kept c.bind-2.ensures.kept in
    let first = c.in_ok-row.ensures.found terms ids s.shown in
    let second = c.in_ok-row-2.ensures.found terms ids (still_shown c.args.store.now c.bind.new.store terms ids c.bind.ensures.kept s.shown) in
    subst (λ row. IfOk c.bind-3.result (λ r. r ≡ bind_at (position_of p.object) (term_numbered terms t.o) row))
    (second ∙ ap (λ row. bind_at (position_of p.predicate) (term_numbered terms t.p) row) (first ∙ ap (λ row. bind_at (position_of p.subject) (term_numbered terms t.s) (Some row)) c.empty.ensures))
    (c.bind-3.ensures.found terms ids (still_shown c.args.store.now c.bind-2.new.store terms ids kept s.shown))
