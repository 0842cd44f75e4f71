use Rattle.std.proofs.Common.{◌∙◌, ap}
use Rattle.std.specs.Prelude.{nat_eq}
use Rattle.std.specs.HashMap.{get}
use Rattle.std.specs.Option.{option_copied}
use Rattle.row_bag.specs.Hashes.{rows_at, whole_hash}
use Rattle.row_bag.proofs.Firsts.{added, not_added}
use Rattle.row_bag.proofs.distinct_rows.keep_first.Goals as goal

pub returns-in_ok-push_copy-clause-rows : goal.returns-in_ok-push_copy-clause-rows
returns-in_ok-push_copy-clause-rows c =
    added c.args.out.now (rows_at (option_copied c.get.result)) c.push_copy.new.out c.args.row.now c.is_new_at.result
    (ap rows_at c.get.ensures.value ∙ ap (λ k. rows_at (get nat_eq c.args.index.now k)) c.hash_row-code.ensures ∙ c.requires (whole_hash c.args.row.now))
    c.is_new_at.ensures c.if-is_new_at.true c.in_ok-push_copy.ensures

pub returns-else-is_new_at-clause-rows : goal.returns-else-is_new_at-clause-rows
returns-else-is_new_at-clause-rows c =
    not_added c.args.out.now (rows_at (option_copied c.get.result)) c.args.row.now c.is_new_at.result
    (ap rows_at c.get.ensures.value ∙ ap (λ k. rows_at (get nat_eq c.args.index.now k)) c.hash_row-code.ensures ∙ c.requires (whole_hash c.args.row.now))
    c.is_new_at.ensures c.if-is_new_at.false
