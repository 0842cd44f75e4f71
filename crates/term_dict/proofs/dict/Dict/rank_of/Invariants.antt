use Rattle.std.proofs.Common.{◌≡◌, ◌≤◌, ◌<◌, Ok, Less, Greater, ◌-◌, ◌+◌, ◌*◌, ◌/◌, ◌^◌, ℕ, List}
use Rattle.sage_outside.specs.Blocks.{Tells}
use Rattle.term_core.specs.declared.term.Term.{Term}
use Rattle.term_core.specs.Order.{term_cmp}
use Rattle.term_dict.specs.Layout.{longest_record, raw_at}
use Rattle.term_dict.specs.Ranks.{HoldsTerms}
use Rattle.term_dict.proofs.Halves.{IsBetween}
use Rattle.term_dict.proofs.dict.Dict.rank_of.Given as goal

abbrev pub invariant-loop-step : goal.invariant-loop-step
invariant-loop-step g l = record {
  image : (g.B.Blocks.device l.blocks).image ≡ (g.B.Blocks.device l.initial.blocks).image;
  count : (g.B.Blocks.device l.blocks).count ≡ (g.B.Blocks.device l.initial.blocks).count;
  later : (g.B.Blocks.device l.initial.blocks).faults ≤ (g.B.Blocks.device l.blocks).faults;
  risen : (g.B.Blocks.device l.initial.blocks).reads ≤ (g.B.Blocks.device l.blocks).reads;
  cost : (g.B.Blocks.device l.blocks).reads ≤ (g.B.Blocks.device l.initial.blocks).reads + l.step * (4 + l.self.bytes / 4080);
  few_reads : (image : List ℕ) → Tells (g.B.Blocks.device l.initial.blocks).image image
      → (g.B.Blocks.device l.blocks).reads ≤ (g.B.Blocks.device l.initial.blocks).reads + l.step * (4 + longest_record l.self image / 4080);
  few_steps : l.self.terms ≤ 12582909 → l.step ≤ 24;
  ordered : l.low ≤ l.high;
  lower : (image : List ℕ) → Tells (g.B.Blocks.device l.initial.blocks).image image
      → (k : ℕ) → k + 1 ≡ l.low → (u : Term) × (raw_at l.self k image ≡ Ok u) × (term_cmp u l.t ≡ Less);
  upper : (image : List ℕ) → Tells (g.B.Blocks.device l.initial.blocks).image image
      → l.high < l.self.terms → (u : Term) × (raw_at l.self l.high image ≡ Ok u) × (term_cmp u l.t ≡ Greater);
  high : l.high ≤ l.self.terms;
  small : (l.high - l.low) * 2 ^ l.step ≤ l.self.terms;
  between : (ts : List Term) (image : List ℕ) → Tells (g.B.Blocks.device l.initial.blocks).image image → HoldsTerms l.self ts image → IsBetween ts l.t l.low l.high;
}
