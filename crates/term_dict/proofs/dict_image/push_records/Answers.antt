use Rattle.std.proofs.Common.{◌≡◌, ◌++◌, map, arith, Some}
use Rattle.std.specs.List.{slice_get}
use Rattle.std.proofs.lemmas.List.{length-map}
use Rattle.term_dict.specs.Records.{record_of}
use Rattle.term_dict.specs.Built.{IsText}
use Rattle.sage_outside.proofs.Answered.{on_ok}
use Rattle.term_dict.proofs.Ranks.{inside}
use Rattle.term_dict.proofs.Steps.{mapped_within, mapped_read, mapped_at, records_more, before_more}
use Rattle.term_dict.proofs.dict_image.push_records.Goals as goal

pub push_record-requires : goal.push_record-requires
push_record-requires c =
    c.requires.short c.loop-t.t-index c.t-item.result.now (mapped_at (λ t. t.now) c.args.terms.now c.loop-t.t-index c.t-item.result c.loop-t-test.true c.t-item.is)

pub loop-t-preserved : goal.loop-t-preserved
loop-t-preserved c =
    let i = c.loop-t.t-index in
    let t = c.t-item.result.now in
    let ts = map (λ t. t.now) c.args.terms.now in
    let new = on_ok c.push_record.result _ (c.push_record.new.out.items ≡ c.loop-t.out.items ++ record_of t) c.in_ok-push_record.was c.push_record.ensures.put in
    let text = on_ok c.push_record.result _ (IsText t) c.in_ok-push_record.was c.push_record.ensures.text in
    let within = mapped_within (λ t. t.now) c.args.terms.now i c.t-item.result c.loop-t-test.true c.t-item.is in
    let read = mapped_read (λ t. t.now) c.args.terms.now i c.t-item.result c.loop-t-test.true c.t-item.is in
    let at : slice_get ts i ≡ Some t = mapped_at (λ t. t.now) c.args.terms.now i c.t-item.result c.loop-t-test.true c.t-item.is in
    record {
      records = records_more ts i t within read _ _ _ new c.loop-t.invariant.records;
      texts = before_more IsText ts i t at text c.loop-t.invariant.texts;
    }

pub returns-clause-texts : goal.returns-clause-texts
returns-clause-texts c = λ k t at. c.loop-t.invariant.texts k t (omega (arith, inside (map (λ t. t.now) c.args.terms.now) k t at, length-map c.args.terms.now (λ t. t.now))) at
