use Rattle.std.proofs.Common.{◌≡◌, ◌++◌, drop}
use Rattle.json.specs.Tree.{json_tokens, items_tokens}
use Rattle.serde_json.specs.Data.{array}
use Rattle.serde_json.specs.Written.{outline, items_outline}
use Rattle.page_json.specs.Replies.{text_items}
use Rattle.page_json.proofs.reply_writing.write_texts.Given as goal

-- the tokens so far, and those that the rest gives
abbrev pub invariant-loop-text : goal.invariant-loop-text
invariant-loop-text l =
    (l.out.tokens ++ items_tokens (items_outline (text_items (drop l.text-index l.texts)))
    ≡ l.fn.out.tokens ++ json_tokens (outline (array (text_items l.fn.texts))))
    × (l.out.before ≡ l.fn.out.before)
