use Rattle.std.proofs.Common.{◌≡◌, ◌++◌, IsUtf8, option_and_then, sym, subst, ap, ◌∙◌}
use Rattle.json.specs.Lex.{tokens}
use Rattle.json.specs.Print.{print}
use Rattle.json.specs.Tree.{json_tokens}
use Rattle.serde_json.specs.Written.{outline}
use Rattle.serde_json.proofs.Texts.{print-outline}
use Rattle.page_json.specs.Requests.{request_json, asked_by}
use Rattle.page_json.proofs.Forms.{request_plain, request_depth}
use Rattle.page_json.proofs.ReadsBack.{reads_back}
use Rattle.page_json.proofs.Asked.{next_asked}
use Rattle.page_json.proofs.request_writing.write_request.Goals as goal

pub returns-clause-form : goal.returns-clause-form
returns-clause-form c =
    let ts = c.write_value.new.out.tokens in
    let text : c.into_inner.result.items ≡ print ts =
    c.into_inner.ensures.items ∙ ap (λ b. b ++ print ts) (c.write_value.ensures.before ∙ c.new-out.ensures.before ∙ c.new.ensures.items) in
    let same : ts ≡ json_tokens (outline (request_json c.args.request.now)) =
    c.in_ok-write_value.ensures.ok ∙ ap (λ us. us ++ json_tokens (outline (request_json c.args.request.now))) c.new-out.ensures.tokens in
    text ∙ ap print same ∙ print-outline (request_json c.args.request.now)

pub returns-clause-reads_back : goal.returns-clause-reads_back
returns-clause-reads_back c =
    let ts = c.write_value.new.out.tokens in
    let text : c.into_inner.result.items ≡ print ts =
    c.into_inner.ensures.items ∙ ap (λ b. b ++ print ts) (c.write_value.ensures.before ∙ c.new-out.ensures.before ∙ c.new.ensures.items) in
    let same : ts ≡ json_tokens (outline (request_json c.args.request.now)) =
    c.in_ok-write_value.ensures.ok ∙ ap (λ us. us ++ json_tokens (outline (request_json c.args.request.now))) c.new-out.ensures.tokens in
    let request = c.args.request.now in
    let back = ap tokens text ∙ c.into_inner.ensures.reads_back ∙ same in
    let read = reads_back c.into_inner.result.items (request_json request) (request_plain request) (request_depth request) back in
    let next = next_asked request.query request.next c.in_ok-write_value.ensures.plan in (
      next.0,
      record { utf8 = subst IsUtf8 (sym text) c.into_inner.ensures.utf8; value = ap (option_and_then asked_by) read ∙ next.1 },
      next.2,
    )
