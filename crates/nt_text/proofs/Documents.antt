-- Documents: one line after the other.
use Rattle.std.proofs.Common.{◌≡◌, ℕ, ◌<◌, ◌≤◌, ◌+◌, Bool, true, false, List, [], length, Option, Some, None, Result, Ok, Err, IfSome, option_map, Bor, refl, sym, ap, ◌∙◌, subst, arith, nat_lt}
use Rattle.std.specs.Str.{chars, IsUtf8, is_utf8}
use Rattle.std.specs.Str.Lossy.{utf8_valid_len}
use Rattle.std.proofs.lemmas.Str.{IsUtf8-from_is_utf8, is_utf8-from_IsUtf8}
use Rattle.std.proofs.lemmas.Bool.Decides.{nat_tests}
use Rattle.term_core.specs.declared.term.Triple.{Triple}
use Rattle.term_core.specs.Characters.{front, after}
use Rattle.nt_text.specs.declared.fault.DataFault.{DataFault}
use Rattle.nt_text.specs.declared.fault.DataFault.TheVariants as faults
use Rattle.nt_text.specs.Characters.{is_line}
use Rattle.nt_text.specs.Reading.{line_at, lines_of, lines_left, behind_end, with_line, unless_refused, judged, document_of, IsOutcome, Becomes}
use Rattle.nt_text.proofs.Cuts.{lines_cut}

abbrev Outcome : Type 0
Outcome = Result (List Triple) DataFault

-- the first line of a text, and then the others
judged_cut : (number : ℕ) (old : List Triple) (text : List ℕ)
    → judged number old (lines_of text) ≡ unless_refused (with_line number old (line_at (front is_line text))) (λ all. judged (number + 1) all (lines_left (behind_end (after is_line text))))
unfolding judged
judged_cut number old text = ap (judged number old) (lines_cut text)

-- a line more is read
pub next_line : (number : ℕ) (old new : List Triple) (text line : List ℕ) (behind : Option (List ℕ)) (total : Outcome) → line ≡ front is_line text → behind ≡ behind_end (after is_line text)
    → with_line number old (line_at line) ≡ Ok new → judged number old (lines_of text) ≡ total → judged (number + 1) new (lines_left behind) ≡ total
next_line number old new text line behind total line_is behind_is read so_far =
    let here : with_line number old (line_at (front is_line text)) ≡ Ok new = ap (λ l. with_line number old (line_at l)) (sym line_is) ∙ read in
    let step : judged number old (lines_of text) ≡ judged (number + 1) new (lines_left (behind_end (after is_line text))) =
    judged_cut number old text ∙ ap (λ r. unless_refused r (λ all. judged (number + 1) all (lines_left (behind_end (after is_line text))))) here in
    ap (λ b. judged (number + 1) new (lines_left b)) behind_is ∙ sym step ∙ so_far

-- or a line is refused, and all with it
line_refused : (number : ℕ) (old : List Triple) (text line : List ℕ) (fault : DataFault) (total : Outcome) → line ≡ front is_line text → with_line number old (line_at line) ≡ Err fault → judged number old (lines_of text) ≡ total → total ≡ Err fault
line_refused number old text line fault total line_is read so_far =
    let here : with_line number old (line_at (front is_line text)) ≡ Err fault = ap (λ l. with_line number old (line_at l)) (sym line_is) ∙ read in
    sym so_far ∙ judged_cut number old text ∙ ap (λ r. unless_refused r (λ all. judged (number + 1) all (lines_left (behind_end (after is_line text))))) here

pub fault_passes : (fault : DataFault) (number : ℕ) (old new : List Triple) (text line : List ℕ) (total : Outcome) → line ≡ front is_line text
    → Becomes (Err fault) new (with_line number old (line_at line)) → judged number old (lines_of text) ≡ total → IsOutcome (Err fault) total
fault_passes faults.Memory number old new text line total line_is read so_far = tt
fault_passes faults.TooLong number old new text line total line_is read so_far = line_refused number old text line _ total line_is read so_far
fault_passes (faults.NotUtf8 at) number old new text line total line_is read so_far = line_refused number old text line _ total line_is read so_far
fault_passes (faults.BadLine n) number old new text line total line_is read so_far = line_refused number old text line _ total line_is read so_far
fault_passes (faults.TermTooLong n) number old new text line total line_is read so_far = line_refused number old text line _ total line_is read so_far
fault_passes (faults.TooMany n) number old new text line total line_is read so_far = line_refused number old text line _ total line_is read so_far

-- no line is left
pub all_read : (number : ℕ) (triples : List Triple) (total : Outcome) → judged number triples [] ≡ total → total ≡ Ok triples
unfolding judged
all_read number triples total so_far = sym so_far

-- how much is left
abbrev pub left_size : Option (List ℕ) → ℕ
left_size None = 0
left_size (Some rest) = length rest + 1

-- a line more is counted, and less is left
pub fewer : (number : ℕ) (rest : List ℕ) (behind : Option (Bor (List ℕ))) (text : List ℕ) → IfSome behind (λ more. length more.now < length rest) → number + (length rest + 1) ≤ length text + 2
    → number + 1 + left_size (option_map (λ more. more.now) behind) ≤ length text + 2
fewer number rest None text shorter few = omega (arith, few)
fewer number rest (Some more) text shorter few = omega (arith, few, shorter)

-- ---- the whole

-- an outcome, by another name
same_outcome : (r total other : Outcome) → IsOutcome r total → other ≡ total → IsOutcome r other
same_outcome r total other h e = subst (IsOutcome r) (sym e) h

-- bytes that fit and are UTF-8 are judged by their lines
of_lines : (bytes : List ℕ) → length bytes ≤ 268435456 → is_utf8 bytes ≡ true → document_of bytes ≡ judged 1 [] (lines_of (chars bytes))
unfolding document_of
of_lines bytes fits utf8 =
    let small : nat_lt 268435456 (length bytes) ≡ false = grind (arith, nat_tests) in
    rw (small, utf8) refl

pub document_from_lines : (bytes text : List ℕ) (r : Outcome) → length bytes ≤ 268435456 → IsUtf8 bytes → text ≡ bytes → IsOutcome r (judged 1 [] (lines_of (chars text))) → IsOutcome r (document_of bytes)
document_from_lines bytes text r fits utf8 same h =
    same_outcome r (judged 1 [] (lines_of (chars text))) (document_of bytes) h (of_lines bytes fits (is_utf8-from_IsUtf8 bytes utf8) ∙ ap (λ bs. judged 1 [] (lines_of (chars bs))) (sym same))

-- a test that cannot be true is false
false_of : (b : Bool) → (b ≡ true → ⊥) → b ≡ false
false_of true h = absurd (h refl)
false_of false h = refl

-- bytes that fit and are no UTF-8
pub not_utf8 : (bytes : List ℕ) (place : ℕ) → length bytes ≤ 268435456 → (IsUtf8 bytes → ⊥) → place ≡ utf8_valid_len bytes → document_of bytes ≡ Err (faults.NotUtf8 place)
unfolding document_of
not_utf8 bytes place fits other at_is =
    let small : nat_lt 268435456 (length bytes) ≡ false = grind (arith, nat_tests) in
    let no : is_utf8 bytes ≡ false = false_of (is_utf8 bytes) (λ e. other (IsUtf8-from_is_utf8 bytes e)) in
    rw (small, no, at_is) refl
