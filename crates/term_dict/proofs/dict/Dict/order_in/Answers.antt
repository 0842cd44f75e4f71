use Rattle.std.proofs.Common.{◌∙◌, Some, Err, sym, ap}
use Rattle.sage_outside.specs.Areas.{block_of}
use Rattle.term_dict.proofs.Behind.{compares_raw, compares_none}
use Rattle.term_dict.proofs.dict.Dict.order_in.Goals as goal

pub returns-in-Some-clause-found : goal.returns-in-Some-clause-found
returns-in-Some-clause-found c =
    compares_raw _ c.args.bytes.now c.args.t.now c.in-Some.order (sym c.in-Some.is ∙ c.order_of_record.ensures.order) (λ tie. c.order_of_record.ensures.tie (c.in-Some.is ∙ ap Some tie))

pub returns-in-None-clause-found : goal.returns-in-None-clause-found
returns-in-None-clause-found c =
    compares_none _ c.args.bytes.now c.args.t.now (sym c.in-None.is ∙ c.order_of_record.ensures.order) ∙ ap Err (sym (c.block_of.ensures ∙ ap (λ area. block_of area c.args.from) c.record_area.ensures))
