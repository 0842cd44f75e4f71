-- The lines of triples are read as exactly those triples.
use Rattle.std.proofs.Common.{◌≡◌, ◌≢◌, ◌≤◌, ◌⊎◌, ℕ, List, [], ◌∷◌, ◌++◌, inl, inr, length, Result, Ok, Err, IfOk, IfErr, refl, sym, ap, ◌∙◌, subst}
use Rattle.std.proofs.lemmas.List.Elements.{All-head, All-tail}
use Rattle.std.specs.Prelude.{flat_map}
use Rattle.std.specs.List.{All}
use Rattle.term_core.specs.declared.term.Triple.{Triple}
use Rattle.term_core.specs.Order.{IsAllowed}
use Rattle.term_core.specs.Spelling.{AreSpelled}
use Rattle.term_core.specs.Texts.{triple_text}
use Rattle.nt_text.specs.declared.fault.DataFault.{DataFault}
use Rattle.nt_text.specs.declared.fault.DataFault.TheVariants as faults
use Rattle.nt_text.specs.Grammar.{IsDocument}
use Rattle.nt_text.specs.Limits.{AreWithinLimits, IsWithinLimits}
use Rattle.nt_text.specs.Faults.{WhyRefused}
use Rattle.nt_text.proofs.Judged.{one_list, no_both}
use Rattle.nt_text.proofs.Written.{nothing_written, line_before}

-- the lines of triples are a document with them
pub lines_written : (ts : List Triple) → All IsAllowed ts → All AreSpelled ts → IsDocument (flat_map triple_text ts) ts
lines_written [] allowed spelled = nothing_written
lines_written (t ∷ ts) allowed spelled =
    line_before t (flat_map triple_text ts) ts (All-head IsAllowed t ts allowed) (All-head AreSpelled t ts spelled)
    (lines_written ts (All-tail IsAllowed t ts allowed) (All-tail AreSpelled t ts spelled))

pub read_back : (ts : List Triple) → All IsAllowed ts → All AreSpelled ts → AreWithinLimits ts → length (flat_map triple_text ts) ≤ 268435456
    → (answer : Result (List Triple) DataFault) → IfOk answer (λ found. IsDocument (flat_map triple_text ts) found)
    → IfErr answer (λ fault. WhyRefused (flat_map triple_text ts) fault) → (answer ≡ Ok ts) ⊎ (answer ≡ Err faults.Memory)
read_back ts allowed spelled within fits (Ok found) is why = inl (ap Ok (one_list (flat_map triple_text ts) found ts is (lines_written ts allowed spelled)))
read_back ts allowed spelled within fits (Err fault) is why = by_fault fault why
  where
    refused : (fault : DataFault) → fault ≢ faults.Memory → WhyRefused (flat_map triple_text ts) fault → ⊥
    refused fault some why = no_both (flat_map triple_text ts) ts fault some (lines_written ts allowed spelled) (record { bytes_fit = fits; triples_fit = within }) why

    by_fault : (fault : DataFault) → WhyRefused (flat_map triple_text ts) fault → (let r : Result (List Triple) DataFault = Err fault in (r ≡ Ok ts) ⊎ (r ≡ Err faults.Memory))
    by_fault faults.TooLong why = absurd (refused faults.TooLong (λ e. absurd cc) why)
    by_fault (faults.NotUtf8 at) why = absurd (refused (faults.NotUtf8 at) (λ e. absurd cc) why)
    by_fault (faults.BadLine n) why = absurd (refused (faults.BadLine n) (λ e. absurd cc) why)
    by_fault (faults.TermTooLong n) why = absurd (refused (faults.TermTooLong n) (λ e. absurd cc) why)
    by_fault (faults.TooMany n) why = absurd (refused (faults.TooMany n) (λ e. absurd cc) why)
    by_fault faults.Memory why = inr refl
