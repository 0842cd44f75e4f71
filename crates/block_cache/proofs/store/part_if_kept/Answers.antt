use Rattle.std.proofs.Common.{nat_eq, ap, ◌∙◌, sym}
use Rattle.std.specs.Option.{option_copied}
use Rattle.block_cache.proofs.Entries.{kept_after, kept_here, part_here}
use Rattle.block_cache.proofs.store.part_if_kept.Goals as goal

pub returns-in_err-found-clause-kept : goal.returns-in_err-found-clause-kept
returns-in_err-found-clause-kept c = λ image are. rw c.get.follows.holds-at-none (kept_after image (nat_eq c.args.n) c.args.kept.now.entries are)

pub returns-clause-kept : goal.returns-clause-kept
returns-clause-kept c = λ image are. rw c.get.follows.holds-at-none (kept_after image (nat_eq c.args.n) c.args.kept.now.entries are)

pub returns-clause-part : goal.returns-clause-part
returns-clause-part c = λ image are.
    let found = sym c.get.ensures.value ∙ ap option_copied c.in_ok-found.was in
    let is = kept_here image c.args.n c.args.kept.now.entries c.in_ok-found.found.now are found in
    part_here c.args.payload c.args.n c.args.from _ image c.in_ok-found.found.now _ c.part_of_kept.result is (c.part_of_kept.ensures.part is.agreed)
