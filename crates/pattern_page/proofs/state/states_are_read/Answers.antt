use Rattle.pattern_page.proofs.StateBytes.{are_read}
use Rattle.pattern_page.proofs.state.states_are_read.Goals as goal

pub returns : goal.returns
returns c = are_read
