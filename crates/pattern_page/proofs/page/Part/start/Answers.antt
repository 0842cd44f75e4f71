use Rattle.std.proofs.Common.{Bor, List, ℕ, Option, IfOk, sym, subst}
use Rattle.std.specs.Prelude.{option_map}
use Rattle.pattern_page.specs.PagesOf.{part_seen, Starts}
use Rattle.pattern_page.proofs.page.Part.start.Goals as goal

pub returns-in-Some-clause-found : goal.returns-in-Some-clause-found
returns-in-Some-clause-found g c = λ terms ids s.
    subst (λ (next : Option (Bor (List ℕ))). IfOk c.load.result (Starts (part_seen c.args.self.now terms ids) (option_map (λ (b : Bor (List ℕ)). b.now) next))) (sym c.in-Some.is)
    (c.load.ensures.found terms ids s)
