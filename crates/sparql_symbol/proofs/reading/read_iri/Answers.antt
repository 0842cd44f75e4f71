use Rattle.sparql_symbol.proofs.Frames.{iri-framed}
use Rattle.sparql_symbol.proofs.reading.read_iri.Goals as goal

pub within-body-requires : goal.within-body-requires
within-body-requires c = (iri-framed c.args.text.now c.utf8.text c.requires).frame
