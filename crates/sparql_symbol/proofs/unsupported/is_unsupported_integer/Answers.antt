use Rattle.std.proofs.Common.{◌∙◌, ap}
use Rattle.term_core.specs.Numbers as numbers
use Rattle.sparql_tree.specs.Unsupported.{is_unsupported_number}
use Rattle.sparql_symbol.proofs.unsupported.is_unsupported_integer.Goals as goal

pub returns : goal.returns
returns c =
    c.is_unsupported_number.ensures
    ∙ ap (is_unsupported_number c.args.count) (c.read-number.ensures.exact ∙ ap (λ datatype. numbers.read c.args.text.now datatype) c.as_slice.ensures)
