use Rattle.sage.proofs.StoreFiles.{same_lines}
use Rattle.sage.proofs.build.make.Goals as goal

pub returns : goal.returns
returns c = record {
  is_image = c.in_ok-image.ensures.is;
  holds = c.in_ok-image.ensures.holds;
  tell = same_lines c.args.triples c.deref.result.now c.in_ok-image.image.items c.in_ok-lines.lines.items c.deref.ensures.value c.in_ok-lines.ensures c.in_ok-image.ensures.holds;
}
