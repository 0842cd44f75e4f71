use Rattle.store_image.proofs.Headers.{header_alone}
use Rattle.store_image.proofs.law.headers_are_alone.Goals as goal

pub returns : goal.returns
returns c = λ block count. header_alone block count count
