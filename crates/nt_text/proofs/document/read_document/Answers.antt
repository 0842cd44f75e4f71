use Rattle.nt_text.proofs.Judged.{found, limited, why}
use Rattle.nt_text.proofs.SpelledTerms.{allowed, spelled}
use Rattle.nt_text.proofs.document.read_document.Goals as goal

pub returns-clause-found : goal.returns-clause-found
returns-clause-found c = found c.args.bytes.now c.read_within.result c.read_within.ensures

pub returns-clause-limits : goal.returns-clause-limits
returns-clause-limits c = limited c.args.bytes.now c.read_within.result c.read_within.ensures

pub returns-clause-allowed : goal.returns-clause-allowed
returns-clause-allowed c = allowed c.args.bytes.now c.read_within.result c.read_within.ensures

pub returns-clause-spelled : goal.returns-clause-spelled
returns-clause-spelled c = spelled c.args.bytes.now c.read_within.result c.read_within.ensures

pub returns-clause-why : goal.returns-clause-why
returns-clause-why c = why c.args.bytes.now c.read_within.result c.read_within.ensures
