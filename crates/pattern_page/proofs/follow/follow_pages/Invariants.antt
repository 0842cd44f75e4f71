use Rattle.std.proofs.Common.{List}
use Rattle.term_core.specs.declared.term.Triple.{Triple}
use Rattle.term_core.specs.declared.pattern.Pattern.{Pattern}
use Rattle.triple_store.specs.Stores.{IsKept}
use Rattle.pattern_page.specs.PagesOf.{IsPart}
use Rattle.pattern_page.specs.Followed.{IsWalked}
use Rattle.pattern_page.proofs.follow.follow_pages.Given as goal

abbrev pub invariant-pages : goal.invariant-pages
invariant-pages g l = IsKept l.initial.store l.store
    × ((D : List Triple) (pattern : Pattern) → IsPart D pattern l.initial.store l.part → IsWalked D pattern l.quanta l.names l.page l.walk l.initial.out.items l.out.items)
