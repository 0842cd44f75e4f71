use Rattle.sparql_symbol.proofs.Frames.{language-framed}
use Rattle.sparql_symbol.proofs.reading.tag_symbol.Goals as goal

pub within-tag-requires : goal.within-tag-requires
within-tag-requires c = (language-framed c.args.text.now c.utf8.text c.requires).frame
