use Rattle.std.proofs.Common.{◌++◌}
use Rattle.std.specs.Prelude.{flat_map}
use Rattle.term_core.specs.Texts.{escaped}
use Rattle.nt_text.proofs.Runs.{run_on}
use Rattle.nt_text.proofs.writing.push_run.Goals as goal

pub returns-clause-written : goal.returns-clause-written
returns-clause-written c =
    run_on c.push_first.result (λ rest. c.push_first.new.out.items ++ flat_map escaped rest.now)
    c.args.out.now.items c.extend_from_slice.new.self.items c.args.left.now c.split_at.result.0.now c.split_at.result.1.now c.width.result
    c.in_ok-extend_from_slice.ensures.items c.split_at.ensures.front c.split_at.ensures.back c.width.ensures.front c.push_first.ensures.written
