use Rattle.std.proofs.Common.{◌≡◌, ◌++◌, drop}
use Rattle.json.specs.Tree.{json_tokens, members_tokens}
use Rattle.serde_json.specs.Data.{object}
use Rattle.serde_json.specs.Written.{outline, members_outline}
use Rattle.std.specs.FinMap.{entries}
use Rattle.page_json.specs.Terms.{row_members}
use Rattle.page_json.proofs.term_writing.write_row.Given as goal

-- the tokens so far, and those that the rest gives
abbrev pub invariant-loop-entry : goal.invariant-loop-entry
invariant-loop-entry l =
    (l.out.tokens ++ members_tokens (members_outline (row_members (drop l.entry-index l.entry-items)))
    ≡ l.fn.out.tokens ++ json_tokens (outline (object (row_members (entries l.fn.row)))))
    × (l.out.before ≡ l.fn.out.before)
