use Rattle.std.proofs.Common.{Bor, List, ℕ}
use Rattle.std.specs.Prelude.{option_map}
use Rattle.pattern_page.proofs.PageCursor.{named_behind}
use Rattle.pattern_page.proofs.page.Part.strip_names.Goals as goal

pub returns : goal.returns
returns c =
    named_behind c.args.self.now.data_name c.args.self.now.text_name c.args.bytes.now c.in_ok-rest.rest.now c.in_ok-rest-2.rest.now
    (option_map (λ (b : Bor (List ℕ)). b.now) c.strip-3.result) c.in_ok-rest.ensures c.in_ok-rest-2.ensures c.strip-3.ensures
