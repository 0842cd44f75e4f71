use Rattle.term_core.proofs.data_law.listing_is.Goals as goal
use Rattle.term_core.proofs.Ranges.{listing_is}

pub returns : goal.returns
returns c = record { listing = listing_is }
