use Rattle.std.proofs.Common.{subst, sym, ◌∙◌, ap}
use Rattle.sparql_symbol.specs.Reading.{IsFramed, quotes_of}
use Rattle.sparql_symbol.proofs.Frames.{string-frame}
use Rattle.sparql_symbol.proofs.reading.string_symbol.Goals as goal

pub within-body-requires : goal.within-body-requires
within-body-requires c =
    subst (λ n. IsFramed c.args.text.now n n) (sym (c.quotes_of-quotes.ensures ∙ ap quotes_of c.as_bytes.ensures.value)) (string-frame c.args.text.now c.utf8.text c.requires)
