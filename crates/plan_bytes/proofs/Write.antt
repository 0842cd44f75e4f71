-- Bytes that are written one part behind the other.
use Rattle.std.proofs.Common.{◌≡◌, ℕ, suc, ◌+◌, ◌≤◌, List, [], ◌∷◌, ◌++◌, length, refl, sym, ap, ◌∙◌, arith, append_assoc, length-append}
use Rattle.std.specs.Prelude.{take, drop}
use Rattle.std.proofs.Common.{◌-◌}
use Rattle.std.proofs.Math.ListN.{set}
use Rattle.std.proofs.Math.Seq.{take-append_seam, drop-append_seam, take-length}
use Rattle.std.proofs.lemmas.List.{drop-drop, drop_all}
use borrow.Rule.Slice.PartMut.{put_mid}

append_none : (xs : List ℕ) → xs ++ [] ≡ xs
append_none [] = refl
append_none (x ∷ xs) = ap (λ w. x ∷ w) (append_none xs)

-- writing a join
put_past : (n k : ℕ) (xs ys : List ℕ) → n ≡ length xs → drop (n + k) (xs ++ ys) ≡ drop k ys
put_past n k xs ys e = rw e (sym (drop-drop k (length xs) (xs ++ ys)) ∙ ap (drop k) (drop-append_seam xs ys))

module _ (x : ℕ) (xs first last written : List ℕ) where
  abbrev marked : List ℕ
  marked = set (x ∷ xs) 0 2

  abbrev half : List ℕ
  half = put_mid 1 (length marked - 1) marked written

  half_is : written ≡ first ++ drop (length first) (take (length marked - 1) (drop 1 marked)) → half ≡ 2 ∷ (first ++ drop (length first) xs)
  half_is w =
      let k : length marked - 1 ≡ length xs = omega arith in
      let written_is : written ≡ first ++ drop (length first) xs = w ∙ ap (λ (n : ℕ). first ++ drop (length first) (take n xs)) k ∙ ap (λ l. first ++ drop (length first) l) (take-length xs) in
      let post : drop (length marked - 1) xs ≡ [] = drop_all (length marked - 1) xs (omega arith) in
      ap (λ l. 2 ∷ l) (ap (λ l. written ++ l) post ∙ append_none written ∙ written_is)

  two_parts : (used : ℕ) → used ≡ length first → half ≡ 2 ∷ (first ++ drop (length first) xs) → take (1 + used) half ++ (last ++ drop (1 + used + length last) half) ≡ 2 ∷ ((first ++ last) ++ drop (length (first ++ last)) xs)
  two_parts used u whole =
      let n1 : 1 + used ≡ suc (length first) = omega (arith, u) in
      let n2 : 1 + used + length last ≡ suc (length first + length last) = omega (arith, u) in
      let t1 : take (1 + used) half ≡ 2 ∷ first = ap (λ (n : ℕ). take n half) n1 ∙ ap (take (suc (length first))) whole ∙ ap (λ l. 2 ∷ l) (take-append_seam first (drop (length first) xs)) in
      let d1 : drop (1 + used + length last) half ≡ drop (length (first ++ last)) xs =
      ap (λ (n : ℕ). drop n half) n2 ∙ ap (drop (suc (length first + length last))) whole ∙ put_past (length first) (length last) first (drop (length first) xs) refl
      ∙ drop-drop (length last) (length first) xs ∙ ap (λ (n : ℕ). drop n xs) (sym (length-append first last)) in
      ap (λ a. a ++ (last ++ drop (1 + used + length last) half)) t1 ∙ ap (λ b. 2 ∷ (first ++ (last ++ b))) d1 ∙ ap (λ l. 2 ∷ l) (sym (append_assoc first last (drop (length (first ++ last)) xs)))

pub join_put : (out first last written result : List ℕ) (used : ℕ) → suc (length (first ++ last)) ≤ length out → used ≡ length first → written ≡ first ++ drop (length first) (take (length (set out 0 2) - 1) (drop 1 (set out 0 2))) → result ≡ take (1 + used) (put_mid 1 (length (set out 0 2) - 1) (set out 0 2) written) ++ (last ++ drop (1 + used + length last) (put_mid 1 (length (set out 0 2) - 1) (set out 0 2) written)) → result ≡ 2 ∷ (first ++ last) ++ drop (suc (length (first ++ last))) out
join_put [] first last written result used h u w r = absurd (omega arith)
join_put (x ∷ xs) first last written result used h u w r = r ∙ two_parts x xs first last written used u (half_is x xs first last written w)

-- writing one part before another
pub part_put : (out a b x y rest : List ℕ) → x ≡ a → rest ≡ drop (length a) out → y ≡ b ++ drop (length b) rest → x ++ y ≡ (a ++ b) ++ drop (length (a ++ b)) out
part_put out a b x y rest e r f =
    ap (λ w. w ++ y) e ∙ ap (λ w. a ++ w) (f ∙ ap (λ w. b ++ w) (ap (drop (length b)) r ∙ drop-drop (length b) (length a) out ∙ ap (λ (n : ℕ). drop n out) (sym (length-append a b))))
    ∙ sym (append_assoc a b (drop (length (a ++ b)) out))
