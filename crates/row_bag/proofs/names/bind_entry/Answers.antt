use Rattle.std.proofs.Common.{◌∙◌, sym, ap, is_some}
use Rattle.std.specs.Prelude.{◌||◌}
use Rattle.term_core.specs.Mappings.{value, same_name}
use Rattle.row_bag.proofs.Bound.{set_binds, bound_binds}
use Rattle.row_bag.proofs.names.bind_entry.Goals as goal

pub returns : goal.returns
returns c q =
    ap (λ w. is_some (value w q)) c.in_ok-set.ensures.ok ∙ set_binds c.args.bound.now c.in_ok-name.name c.in_ok-term.term q
    ∙ ap (λ n. is_some (value c.args.bound.now q) || same_name q n) c.in_ok-name.ensures

pub returns-then-is_there : goal.returns-then-is_there
returns-then-is_there c =
    bound_binds c.args.bound.now c.args.name.now
    (ap (λ n. is_some (value c.args.bound.now n)) (sym c.bytes.ensures.same) ∙ sym c.is_there.ensures ∙ c.if-is_there.true)
