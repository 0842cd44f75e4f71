use Rattle.std.proofs.Common.{◌≡◌, ◌∙◌, ap, subst, IfOk}
use Rattle.std.specs.FinMap as finmap
use Rattle.term_core.specs.Mappings.{with_entries, merge}
use Rattle.row_bag.proofs.Puts.{whole}
use Rattle.row_bag.proofs.pairs.merged.Goals as goal

pub returns : goal.returns
returns c =
    let first : c.put_over.new.builder ≡ c.args.b.now =
    c.in_ok-put_over.ensures ∙ ap (λ w. with_entries w c.new-builder.result) c.entries.ensures
    ∙ ap (λ w. with_entries (finmap.entries c.args.b.now) w) c.new-builder.ensures ∙ whole c.args.b.now in
    let second : c.put_over-2.new.builder ≡ merge c.args.a.now c.args.b.now =
    c.in_ok-put_over-2.ensures ∙ ap (λ w. with_entries w c.put_over.new.builder) c.entries-2.ensures ∙ ap (merge c.args.a.now) first in
    subst (λ w. IfOk c.build.result (λ row. row ≡ w)) second c.build.ensures
