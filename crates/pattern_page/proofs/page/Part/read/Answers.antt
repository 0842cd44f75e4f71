use Rattle.std.proofs.Common.{arith}
use Rattle.pattern_page.proofs.PageCursor.{read_all}
use Rattle.pattern_page.proofs.page.Part.read.Goals as goal

pub returns : goal.returns
returns c =
    read_all c.args.self.now c.args.bytes.now c.in_ok-strip_names.field-0.now c.parse_state.result (λ i. omega (arith, c.type_inv.bytes i))
    c.in_ok-strip_names.ensures c.parse_state.ensures
