use Rattle.std.proofs.Common.{◌∙◌, Some, sym, ap}
use Rattle.term_core.specs.OrderLaws.{same_terms}
use Rattle.term_dict.specs.Records.{raw_in}
use Rattle.term_dict.proofs.Behind.{ordered}
use Rattle.term_dict.proofs.Ties.{IsEncoded, term_of_raw}
use Rattle.term_dict.proofs.comparison.order_of_record.Goals as goal

pub returns-clause-tie : goal.returns-clause-tie
returns-clause-tie c = λ e.
    let t = c.args.t.now in
    let u = ordered t (raw_in c.args.bytes.now) _ (sym e ∙ c.order_of_bytes.ensures) in
    let is : IsEncoded t = record { text = c.parts_of.ensures.utf8; datatype = c.literal_parts_of.ensures.datatype_utf8; lang = c.literal_parts_of.ensures.lang_utf8 } in
    term_of_raw c.args.bytes.now t is (u.1 ∙ ap Some (same_terms u.0 t u.2))
