use Rattle.std.proofs.Common.{◌≡◌, ◌+◌, ◌++◌, length, arith, refl, ap, ◌∙◌, length-append, [], ◌∷◌, max, Some}
use Rattle.std.specs.List.{slice_get}
use Rattle.std.proofs.lemmas.Option.{slice_get_read}
use Rattle.std.proofs.lemmas.Grind.{common_steps}
use Rattle.term_dict.specs.Records.{record_of}
use Rattle.term_dict.specs.Built.{IsText}
use Rattle.sage_outside.proofs.Answered.{on_ok}
use Rattle.term_dict.proofs.Ranks.{inside}
use Rattle.term_dict.proofs.Steps.{record_short, records_more, places_more, longest_more, before_more}
use Rattle.term_dict.proofs.dict_image.image_of.Goals as goal

pub loop-t-preserved : goal.loop-t-preserved
loop-t-preserved c =
    let t = c.t-item.result in
    let new = on_ok c.push_record.result _ (c.push_record.new.out.items ≡ c.loop-t.records.items ++ record_of t) c.in_ok-push_record.was c.push_record.ensures.put in
    let text = on_ok c.push_record.result _ (IsText t) c.in_ok-push_record.was c.push_record.ensures.text in
    let from : c.len-from.result ≡ length c.loop-t.records.items = grind (arith, common_steps, c.len-from.ensures) in
    let put = on_ok c.push.result _ (c.push.new.self ≡ c.loop-t.places ++ c.len-from.result ∷ []) c.in_ok-push.was c.push.ensures.ok in
    let more : length c.push_record.new.out.items ≡ length c.loop-t.records.items + length (record_of t) = ap length new ∙ length-append c.loop-t.records.items (record_of t) in
    let at : slice_get c.args.terms.now c.loop-t.t-index ≡ Some t = slice_get_read c.args.terms.now _ c.loop-t.t-index t refl c.loop-t-test.true c.t-item.is in
    let short = record_short t (c.requires.short c.loop-t.t-index t at) in
    let max_is : c.max-longest.result ≡ max c.loop-t.longest (length (record_of t)) = grind (arith, common_steps, c.len.ensures, from, more, c.max-longest.ensures) in
    record {
      records = records_more c.args.terms.now c.loop-t.t-index t c.loop-t-test.true c.t-item.is _ _ _ new c.loop-t.invariant.records;
      places = places_more c.args.terms.now c.loop-t.t-index t c.loop-t-test.true c.t-item.is _ _ _ _ _ (put ∙ ap (λ n. c.loop-t.places ++ n ∷ []) from) more c.loop-t.invariant.places;
      longest = longest_more c.args.terms.now c.loop-t.t-index t c.loop-t-test.true c.t-item.is c.loop-t.longest _ _ max_is c.loop-t.invariant.longest;
      small = omega arith;
      texts = before_more IsText c.args.terms.now c.loop-t.t-index t at text c.loop-t.invariant.texts;
    }

pub returns-clause-texts : goal.returns-clause-texts
returns-clause-texts c = λ k t at. c.loop-t.invariant.texts k t (omega (arith, inside c.args.terms.now k t at)) at
