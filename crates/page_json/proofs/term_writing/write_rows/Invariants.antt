use Rattle.std.proofs.Common.{◌≡◌, ◌++◌, drop}
use Rattle.json.specs.Tree.{json_tokens, items_tokens}
use Rattle.serde_json.specs.Data.{array}
use Rattle.serde_json.specs.Written.{outline, items_outline}
use Rattle.page_json.specs.Terms.{row_items}
use Rattle.page_json.proofs.term_writing.write_rows.Given as goal

-- the tokens so far, and those that the rest gives
abbrev pub invariant-loop-row : goal.invariant-loop-row
invariant-loop-row l =
    (l.out.tokens ++ items_tokens (items_outline (row_items (drop l.row-index l.rows)))
    ≡ l.fn.out.tokens ++ json_tokens (outline (array (row_items l.fn.rows))))
    × (l.out.before ≡ l.fn.out.before)
