-- Lists of quanta, cut at their commas.
use Rattle.std.proofs.Common.{◌≡◌, ◌≢◌, ℕ, ◌<◌, ◌≤◌, Bool, true, false, cond, List, [], ◌∷◌, ◌++◌, ◌&&◌, length, get_or, Option, Some, None, eqb, refl, arith}
use Rattle.std.specs.Prelude.{All, is_some, nat_le}
use Rattle.std.specs.List.{list_all, filter_map, cons_option}
use Rattle.std.proofs.lemmas.Bool.{and_parts}
use Rattle.std.proofs.lemmas.Bool.Decides.{nat_tests}
use Rattle.std.proofs.lemmas.List.Elements.{All-nil, All-cons, All-from_get_or}
use Rattle.std.proofs.lemmas.List.Splits.{slice_split_none, slice_split_at, length-slice_split}
use Rattle.sage.specs.Words.{up_to_limit, value_on, quantum_of, pieces_of, is_quantum, are_quanta, AreAllowedQuanta}

-- ---- commas

-- no byte is a comma
abbrev HasNoComma : List ℕ → Type 0
HasNoComma text = (i : ℕ) → i < length text → get_or text i 0 ≢ 44

none_passes : (text : List ℕ) → HasNoComma text → All (λ b. eqb b 44 ≡ false) text
none_passes text none = All-from_get_or (λ b. eqb b 44 ≡ false) text 0 (λ i within. let other = none i within in grind (arith, nat_tests))

-- a text without a comma is one piece
pub one_piece : (text : List ℕ) → HasNoComma text → pieces_of text ≡ text ∷ []
one_piece text none = slice_split_none (λ b. eqb b 44) text (none_passes text none)

-- the first comma ends the first piece
pub first_piece : (piece rest : List ℕ) → HasNoComma piece → pieces_of (piece ++ 44 ∷ rest) ≡ piece ∷ pieces_of rest
first_piece piece rest none = slice_split_at (λ b. eqb b 44) piece 44 rest (none_passes piece none) refl

-- ---- limits

guard : (b : Bool) (m n : ℕ) → cond b (Some m) None ≡ Some n → (b ≡ true) × (m ≡ n)
guard true m n e = (refl, cc)
guard false m n e = absurd cc

abbrev IsQuantum : ℕ → Type 0
IsQuantum n = (1 ≤ n) × (n ≤ 10000)

within_limit : (r : Option ℕ) (n : ℕ) → up_to_limit r ≡ Some n → IsQuantum n
within_limit None n e = absurd cc
within_limit (Some m) n e =
    let g = guard (◌&&◌ (nat_le 1 m) (nat_le m 10000)) m n e in
    let h = and_parts (nat_le 1 m) (nat_le m 10000) g.0 in
    let same = g.1 in
    (grind (arith, nat_tests, h.0), grind (arith, nat_tests, h.1))

quantum_within : (piece : List ℕ) (n : ℕ) → quantum_of piece ≡ Some n → IsQuantum n
quantum_within [] n e = absurd cc
quantum_within (b ∷ bs) n e =
    elim (eqb b 48) as (λ t. cond t None (up_to_limit (value_on 0 (b ∷ bs))) ≡ Some n → IsQuantum n) [
      | true ↦ λ h. absurd cc
      | false ↦ λ h. within_limit (value_on 0 (b ∷ bs)) n h
    ] e

each_within : (pieces : List (List ℕ)) → All IsQuantum (filter_map quantum_of pieces)
each_within [] = All-nil IsQuantum
each_within (piece ∷ pieces) =
    elim (quantum_of piece) as (λ r. quantum_of piece ≡ r → All IsQuantum (cons_option r (filter_map quantum_of pieces))) [
      | None ↦ λ e. each_within pieces
      | Some n ↦ λ e. All-cons IsQuantum n (filter_map quantum_of pieces) (quantum_within piece n e) (each_within pieces)
    ] refl

each_counts : (pieces : List (List ℕ)) → list_all is_quantum pieces ≡ true → length (filter_map quantum_of pieces) ≡ length pieces
each_counts [] h = refl
each_counts (piece ∷ pieces) h =
    let parts = and_parts (is_quantum piece) (list_all is_quantum pieces) h in
    elim (quantum_of piece) as (λ r. is_some r ≡ true → length (cons_option r (filter_map quantum_of pieces)) ≡ length (piece ∷ pieces)) [
      | None ↦ λ e. absurd cc
      | Some n ↦ λ e. omega (arith, each_counts pieces parts.1)
    ] parts.0

-- a list of quanta is within its limits
pub quanta_within : (word : List ℕ) → are_quanta word ≡ true → AreAllowedQuanta (filter_map quantum_of (pieces_of word))
quanta_within word h =
    let pieces = pieces_of word in
    let parts = and_parts (list_all is_quantum pieces) (nat_le (length pieces) 64) h in
    let count = each_counts pieces parts.0 in
    let each = each_within pieces in
    record {
      are = record {
        some = omega (arith, count, length-slice_split (λ b. eqb b 44) word);
        each = λ k d within. (each k d within).0;
      };
      few = grind (arith, nat_tests, count, parts.1);
      short = λ k d within. (each k d within).1;
    }
