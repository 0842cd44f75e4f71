use Rattle.sage.proofs.Runs.{runs, run_must}
use Rattle.sage.proofs.top.run.Goals as goal

pub returns-clause-runs : goal.returns-clause-runs
returns-clause-runs g c = runs c.args.words.now _ _ _ _ _ _ c.run_words-ended.ensures c.end.ensures

pub returns-clause-must : goal.returns-clause-must
returns-clause-must g c = run_must c.args.words.now _ _ _ _ _ _ c.run_words-ended.ensures c.end.ensures
