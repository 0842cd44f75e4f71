-- The entries of a piece of a block are those of the block.
use Rattle.std.proofs.Common.{◌≡◌, ℕ, ◌*◌, ◌<◌, ◌∙◌, Bool, true, false, List, length, take, drop, arith, refl, sym, ap, Ok, Err}
use Rattle.std.specs.Prelude.{if◌then◌else◌}
use Rattle.sage_outside.specs.Blocks.{block_at}
use Rattle.sage_outside.specs.Parts.{is_sound, piece_at}
use Rattle.term_core.specs.declared.pattern.IdTriple.{IdTriple}
use Rattle.std.proofs.Math.Seq.{take-length}
use Rattle.sage_outside.proofs.Pieces.{front_behind}
use Rattle.btree_scan.specs.Levels.{key_in}
use Rattle.btree_scan.specs.Entries.{entry_in, entry_of, IsEdgeOf}

ok_piece : (t : Bool) (n : ℕ) (xs ys : List ℕ) → (if t then Ok xs else Err n) ≡ Ok ys → (t ≡ true) × (xs ≡ ys)
ok_piece true n xs ys e = (refl, cc)
ok_piece false n xs ys e = cc

module _ (p n count m : ℕ) (image piece : List ℕ) (test : IdTriple → Bool) (long : m ≡ 12 * count) (read : piece_at p n 0 m image ≡ Ok piece) where
  is : (is_sound p n (block_at n image) ≡ true) × (take m (drop 0 (block_at n image)) ≡ piece)
  is = ok_piece (is_sound p n (block_at n image)) n _ piece read

  same : (k : ℕ) → k < count → entry_of piece k ≡ entry_of (block_at n image) k
  same k lt = ap (λ xs. entry_of xs k) (sym is.1) ∙ ap entry_in (front_behind 12 (12 * k) m (block_at n image) (omega arith))

  pub edge_of_piece : (place : ℕ) → IsEdgeOf (λ k. test (entry_of piece k)) 0 count place
      → (is_sound p n (block_at n image) ≡ true) × IsEdgeOf (λ k. test (entry_of (block_at n image) k)) 0 count place
  edge_of_piece place edge = (
    is.0,
    record {
      from = edge.from;
      within = edge.within;
      below = λ k ge e. ap test (sym (same k (omega (arith, edge.within)))) ∙ edge.below k ge e;
      above = λ lt. ap test (sym (same place lt)) ∙ edge.above lt;
    },
  )

key_of_ok : (t : Bool) (n : ℕ) (xs ys : List ℕ) → (if t then Ok xs else Err n) ≡ Ok ys → (if t then Ok (entry_in xs) else Err n) ≡ Ok (entry_in ys)
key_of_ok true n xs ys e = let f : xs ≡ ys = cc in ap (λ l. Ok (entry_in l)) f
key_of_ok false n xs ys e = cc

key_of_err : (t : Bool) (n d : ℕ) (xs : List ℕ) → (if t then Ok xs else Err n) ≡ Err d → (if t then Ok (entry_in xs) else Err n) ≡ Err d
key_of_err true n d xs e = cc
key_of_err false n d xs e = let f : n ≡ d = cc in ap (λ m. Err m) f

pub piece_key : (p n j k : ℕ) (image piece : List ℕ) → k ≡ 12 → piece_at p n (12 * j) k image ≡ Ok piece → key_in p n j image ≡ Ok (entry_in piece)
piece_key p n j k image piece is e = key_of_ok (is_sound p n (block_at n image)) n _ piece (ap (λ m. piece_at p n (12 * j) m image) (sym is) ∙ e)

pub broken_key : (p n j k d : ℕ) (image : List ℕ) → k ≡ 12 → piece_at p n (12 * j) k image ≡ Err d → key_in p n j image ≡ Err d
broken_key p n j k d image is e = key_of_err (is_sound p n (block_at n image)) n d _ (ap (λ m. piece_at p n (12 * j) m image) (sym is) ∙ e)

-- twelve bytes are their front of twelve
pub twelve : (bytes : List ℕ) → length bytes ≡ 12 → entry_in bytes ≡ entry_of bytes 0
twelve bytes e = ap entry_in (sym (take-length bytes) ∙ ap (λ n. take n bytes) e)
