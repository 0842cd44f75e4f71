-- What is taken of bytes piece by piece.
use Rattle.std.proofs.Common.{◌≡◌, ℕ, ◌+◌, ◌-◌, ◌≤◌, List, ◌++◌, take, drop, ◌∙◌, ap, sym, arith}
use Rattle.std.proofs.Math.Seq.{take-add}
use Rattle.std.proofs.lemmas.List.{take-take, drop-take}

-- a piece of the rest is what is taken behind the front
pub taken_more : (n p : ℕ) (bytes rest buf : List ℕ) → rest ≡ drop p bytes → take n buf ≡ take n rest
    → take (p + n) bytes ≡ take p bytes ++ take n buf
taken_more n p bytes rest buf e filled =
    take-add p n bytes ∙ ap (λ more. take p bytes ++ more) (sym (filled ∙ ap (take n) e))

-- a part of a front of a list is a part of the list
pub front_behind : (k o m : ℕ) (xs : List ℕ) → o + k ≤ m → take k (drop o (take m xs)) ≡ take k (drop o xs)
front_behind k o m xs h =
    let e : m ≡ o + (m - o) = omega arith in
    rw e (rw drop-take (take-take k (m - o) (drop o xs) (omega arith)))
