-- How long an image is, and how many blocks there are.
use Rattle.std.proofs.Common.{◌≡◌, ℕ, ◌*◌, ◌^◌, ◌<◌, List, length, None, Some, length-take, length-append, arith, sym, ap, ◌∙◌}
use Rattle.std.proofs.lemmas.List.{length-replicate}
use Rattle.sage_outside.specs.Blocks.{Tells, block_count, whole_blocks, image_of}

pub length_whole : (n : ℕ) (bytes : List ℕ) → length (whole_blocks n bytes) ≡ 4096 * n
length_whole n bytes = omega (arith, length-take {A = ℕ}, length-append {A = ℕ}, length-replicate {A = ℕ})

same_some : (a b : List ℕ) → Some a ≡ Some b → a ≡ b
same_some a b e = cc

-- told bytes fill whole blocks
pub whole_image : (held bytes : List ℕ) → Tells (Some (image_of held)) bytes
    → length bytes ≡ 4096 * block_count (length held)
whole_image held bytes tells =
    ap length (sym (same_some _ _ tells.told)) ∙ length_whole (block_count (length held)) held

-- what tells nothing tells no bytes
pub untold : (bytes : List ℕ) (n : ℕ) → Tells None bytes → length bytes ≡ 4096 * n
untold bytes n tells = absurd (let e : None ≡ Some bytes = tells.told in cc)

-- a number of 32 bits counts the blocks
pub few_blocks : (size : ℕ) → block_count size < 2 ^ 32
few_blocks size = omega arith
