use Rattle.std.proofs.Common.{nat_eq, ap, ◌∙◌, sym}
use Rattle.std.specs.Option.{option_copied}
use Rattle.block_cache.proofs.Entries.{kept_after, kept_here}
use Rattle.block_cache.proofs.store.copy_if_kept.Goals as goal

pub returns-in-Some-clause-kept : goal.returns-in-Some-clause-kept
returns-in-Some-clause-kept c = λ image are. rw c.get.follows.holds-at-none (kept_after image (nat_eq c.args.n) c.args.kept.now.entries are)

pub returns-in-None-clause-kept : goal.returns-in-None-clause-kept
returns-in-None-clause-kept c = λ image are. rw c.get.follows.holds-at-none (kept_after image (nat_eq c.args.n) c.args.kept.now.entries are)

pub returns-in-Some-clause-found : goal.returns-in-Some-clause-found
returns-in-Some-clause-found c = λ image are hit.
    let found = sym c.get.ensures.value ∙ ap option_copied c.in-Some.is in
    let is = kept_here image c.args.n c.args.kept.now.entries c.in-Some.found.now are found in
    c.deref.ensures ∙ is.block
