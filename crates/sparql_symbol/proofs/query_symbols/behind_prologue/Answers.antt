use Rattle.std.proofs.Common.{◌∙◌, ap, refl}
use Rattle.sparql_symbol.specs.Names.{iri_of}
use Rattle.sparql_tree.specs.Symbols.{lexemes}
use Rattle.sparql_symbol.proofs.Judged.{behind-read}
use Rattle.sparql_symbol.proofs.query_symbols.behind_prologue.Goals as goal

pub returns : goal.returns
returns c =
    behind-read c.read_symbols.result (iri_of c.read_prologue.new.prefixes) (iri_of c.new-prefixes.result) (lexemes c.args.text.now c.args.tokens.now) _
    c.read_symbols.ensures (ap (lexemes c.args.text.now) c.split_at.ensures.back ∙ c.in_ok-at.ensures.rest) c.in_ok-at.ensures.declared
    (λ q. rw c.new-prefixes.ensures.empty refl)
