use Rattle.std.proofs.Common.{◌≡◌, ◌<◌, [], List, length, get_or, sym, subst}
use Rattle.term_core.specs.declared.term.Term.{Term}
use Rattle.term_core.specs.Mappings.{Name}
use Rattle.std.specs.FinMap as finmap
use Rattle.plan_course.specs.declared.course.Placed.{Placed}
use Rattle.plan_course.specs.Meanings.{AreEntries, no_entries}
use Rattle.plan_course.proofs.Grows.{grown_itself, grown_twice}
use Rattle.plan_course.proofs.Loops.{entries_next}
use Rattle.plan_course.proofs.table.number_row.Goals as goal

pub loop-entry-init : goal.loop-entry-init
loop-entry-init c = record {
  grown = grown_itself c.requires.tells;
  entries = subst (λ (w : List Placed). AreEntries c.args.numbering.now w []) (sym c.new-placed.ensures) no_entries;
}

pub loop-entry-preserved : goal.loop-entry-preserved
loop-entry-preserved c =
    let same = c.entries-entry-items.ensures in
    record {
      grown = grown_twice c.loop-entry.invariant.grown c.in_ok-number_entry.ensures.grown;
      entries = entries_next (finmap.entries c.args.row.now) c.loop-entry.entry-index c.entry-item.result c.loop-entry.placed c.push.new.self c.in_ok-number_entry.field-0
          (subst (λ (w : List (Name × Term)). c.loop-entry.entry-index < length w) same c.loop-entry-test.true) (subst (λ (w : List (Name × Term)). c.entry-item.result ≡ get_or w c.loop-entry.entry-index c.entry-item.result) same c.entry-item.is)
          c.in_ok-push.ensures.ok c.in_ok-number_entry.ensures.grown c.loop-entry.invariant.entries c.in_ok-number_entry.ensures.slot c.in_ok-number_entry.ensures.term;
    }
