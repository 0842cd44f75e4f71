use Rattle.plan_bytes.proofs.Saved as lemma
use Rattle.plan_bytes.proofs.law.saved_are_read.Goals as goal

pub returns : goal.returns
returns c = lemma.saved_are_read
