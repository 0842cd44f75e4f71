use Rattle.std.proofs.Common.{◌≡◌, ◌++◌, IsUtf8, sym, subst, ap, ◌∙◌}
use Rattle.json.specs.Lex.{tokens}
use Rattle.json.specs.Print.{print}
use Rattle.json.specs.Tree.{json_tokens}
use Rattle.serde_json.specs.Written.{outline}
use Rattle.serde_json.proofs.Texts.{print-outline}
use Rattle.page_json.specs.Replies.{reply_json}
use Rattle.page_json.proofs.Forms.{reply_plain, reply_depth}
use Rattle.page_json.proofs.ReadsBack.{reads_back}
use Rattle.page_json.proofs.reply_writing.write_reply.Goals as goal

pub returns-clause-form : goal.returns-clause-form
returns-clause-form c =
    let ts = c.write_value.new.out.tokens in
    let text : c.into_inner.result.items ≡ print ts =
    c.into_inner.ensures.items ∙ ap (λ b. b ++ print ts) (c.write_value.ensures.before ∙ c.new-out.ensures.before ∙ c.new.ensures.items) in
    let same : ts ≡ json_tokens (outline (reply_json c.args.reply.now)) =
    c.in_ok-write_value.ensures.ok ∙ ap (λ us. us ++ json_tokens (outline (reply_json c.args.reply.now))) c.new-out.ensures.tokens in
    text ∙ ap print same ∙ print-outline _

pub returns-clause-reads_back : goal.returns-clause-reads_back
returns-clause-reads_back c = λ tagged.
    let ts = c.write_value.new.out.tokens in
    let text : c.into_inner.result.items ≡ print ts =
    c.into_inner.ensures.items ∙ ap (λ b. b ++ print ts) (c.write_value.ensures.before ∙ c.new-out.ensures.before ∙ c.new.ensures.items) in
    let same : ts ≡ json_tokens (outline (reply_json c.args.reply.now)) =
    c.in_ok-write_value.ensures.ok ∙ ap (λ us. us ++ json_tokens (outline (reply_json c.args.reply.now))) c.new-out.ensures.tokens in
    record {
      utf8 = subst IsUtf8 (sym text) c.into_inner.ensures.utf8;
      value = reads_back _ _ (reply_plain c.args.reply.now c.in_ok-write_value.ensures.range) (reply_depth c.args.reply.now)
          (ap tokens text ∙ c.into_inner.ensures.reads_back ∙ same);
      range = c.in_ok-write_value.ensures.range;
      tagged = tagged;
    }
