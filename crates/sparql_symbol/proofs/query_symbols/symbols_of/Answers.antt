use Rattle.std.proofs.Common.{◌∙◌, sym}
use Rattle.sparql_symbol.proofs.Judged.{symbols-spelled}
use Rattle.sparql_symbol.proofs.Standing.{tokens-stand}
use Rattle.sparql_symbol.proofs.query_symbols.symbols_of.Goals as goal

pub first_unsupported-requires : goal.first_unsupported-requires
first_unsupported-requires c = tokens-stand c.args.text.now c.args.tokens.now c.requires.tokens

pub is_too_deep-requires : goal.is_too_deep-requires
is_too_deep-requires c = tokens-stand c.args.text.now c.args.tokens.now c.requires.tokens

pub behind_prologue-requires : goal.behind_prologue-requires
behind_prologue-requires c = tokens-stand c.args.text.now c.args.tokens.now c.requires.tokens

pub returns-clause-found : goal.returns-clause-found
returns-clause-found c =
    symbols-spelled c.args.text.now c.args.tokens.now c.in_ok-behind_prologue.field-0 c.requires.small c.requires.tokens (sym c.in_default.ensures)
    (sym c.is_too_deep.ensures ∙ c.if-is_too_deep.false) c.in_ok-behind_prologue.ensures
