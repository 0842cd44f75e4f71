use Rattle.term_dict.proofs.Layouts.{laid_out_holds, longest_is}
use Rattle.term_dict.proofs.law.laid_out_images_hold.Goals as goal

pub returns-clause-holds : goal.returns-clause-holds
returns-clause-holds c = laid_out_holds

pub returns-clause-longest : goal.returns-clause-longest
returns-clause-longest c = longest_is
