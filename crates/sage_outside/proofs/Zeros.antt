-- A block of bytes in memory.
use Rattle.std.proofs.Common.{◌≡◌, ℕ, ◌*◌, ◌+◌, ◌-◌, ◌<◌, ◌≤◌, ◌++◌, List, length, take, drop, replicate, arith, ◌∙◌, length-take, length-append, length-drop}
use Rattle.std.proofs.lemmas.List.{same_lists, places, drop-take, take-take, length-replicate}
use Rattle.sage_outside.specs.Blocks.{block_at, block_count, image_of}

padded : (a n k : ℕ) (bytes : List ℕ) → a + k ≤ n → take k (drop a (bytes ++ replicate n 0)) ≡ take k (drop a bytes) ++ replicate (k - length (take k (drop a bytes))) 0
padded a n k bytes h = same_lists _ _ (omega (arith, length-take {A = ℕ}, length-drop {A = ℕ}, length-append {A = ℕ}, length-replicate {A = ℕ})) (λ i d h. grind (arith, places))

cut : (a n : ℕ) (bytes : List ℕ) → a + 4096 ≤ n → take 4096 (drop a (take n bytes)) ≡ take 4096 (drop a bytes)
cut a n bytes h =
    let e : n ≡ a + (n - a) = omega arith in
    rw e (rw drop-take (take-take 4096 (n - a) (drop a bytes) (omega arith)))

-- it holds what stands there of the bytes, and zeros behind
pub block_in_image : (n : ℕ) (bytes : List ℕ) → n < block_count (length bytes)
    → block_at n (image_of bytes) ≡ take 4096 (drop (4096 * n) bytes) ++ replicate (4096 - length (take 4096 (drop (4096 * n) bytes))) 0
block_in_image n bytes h =
    let count = block_count (length bytes) in
    cut (4096 * n) (4096 * count) (bytes ++ replicate (4096 * count) 0) (omega arith) ∙ padded (4096 * n) (4096 * count) 4096 bytes (omega arith)
