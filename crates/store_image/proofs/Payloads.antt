-- Payloads in blocks, and tags behind them.
use Rattle.std.proofs.Common.{◌≡◌, ℕ, zero, suc, ◌+◌, ◌-◌, ◌*◌, ◌<◌, ◌≤◌, inl, inr, ◌++◌, List, [], ◌∷◌, length, take, drop, replicate, Bool, true, false, refl, sym, ap, ◌∙◌, arith, append_assoc, append-nil, length-append, length-take, length-drop}
use Rattle.std.specs.Prelude.{◌==◌, if◌then◌else◌}
use Rattle.std.specs.Int.{w32, to_be_bytes}
use Rattle.std.specs.Str.{bytes_eq}
use Rattle.std.proofs.lemmas.List.{take_at, drop_at, drop-drop, take-take, take-append-drop, take-append-le, drop-append-le, length-replicate}
use Rattle.std.proofs.lemmas.Slice.Eq.{bytes_eq-Decides}
use Rattle.sha2.proofs.Facts256.{length-sha256}
use Rattle.sage_outside.specs.Blocks.{block_at}
use Rattle.sage_outside.specs.Parts.{IsPayload, agrees, tag_of, is_sound}
use Rattle.store_image.specs.Format.{spread, tagged, all_tagged}
use Rattle.store_image.proofs.Padding.{payload_small, payload_some}

pub all_of : (n : ℕ) (xs : List ℕ) → length xs ≤ n → take n xs ≡ xs
all_of zero [] le = refl
all_of (suc n) [] le = refl
all_of zero (x ∷ xs) le = absurd (omega arith)
all_of (suc n) (x ∷ xs) le = ap (λ l. x ∷ l) (all_of n xs (omega arith))

-- the blocks behind a first one
pub block_behind : (b : ℕ) (first rest : List ℕ) → length first ≡ 4096 → block_at (suc b) (first ++ rest) ≡ block_at b rest
block_behind b first rest long =
    let s : 4096 * suc b ≡ 4096 + 4096 * b = omega arith in
    ap (λ n. take 4096 (drop n (first ++ rest))) s
    ∙ ap (take 4096) (sym (drop-drop (4096 * b) 4096 (first ++ rest)) ∙ ap (drop (4096 * b)) (drop_at first rest 4096 long))

-- the blocks behind whole blocks
pub block_after : (n b : ℕ) (front rest : List ℕ) → length front ≡ 4096 * n → block_at (n + b) (front ++ rest) ≡ block_at b rest
block_after n b front rest long =
    let s : 4096 * (n + b) ≡ 4096 * n + 4096 * b = omega arith in
    ap (λ k. take 4096 (drop k (front ++ rest))) s
    ∙ ap (take 4096) (sym (drop-drop (4096 * b) (4096 * n) (front ++ rest)) ∙ ap (drop (4096 * b)) (drop_at front rest (4096 * n) long))

-- the blocks of bytes are not changed by what stands behind them
pub block_within : (m b : ℕ) (bytes rest : List ℕ) → length bytes ≡ 4096 * m → b < m → block_at b (bytes ++ rest) ≡ block_at b bytes
block_within zero b bytes rest long lt = absurd (omega arith)
block_within (suc m) zero bytes rest long lt =
    take-append-le 4096 bytes rest (omega arith)
block_within (suc m) (suc b) bytes rest long lt =
    let front = take 4096 bytes in
    let back = drop 4096 bytes in
    let one : length front ≡ 4096 = omega (arith, length-take 4096 bytes) in
    let parts : front ++ back ≡ bytes = take-append-drop 4096 bytes in
    ap (λ l. block_at (suc b) (l ++ rest)) (sym parts) ∙ ap (block_at (suc b)) (append_assoc front back rest) ∙ block_behind b front (back ++ rest) one
    ∙ block_within m b back rest (omega (arith, length-drop 4096 bytes)) (omega arith)
    ∙ sym (block_behind b front back one) ∙ ap (block_at (suc b)) parts

module _ (p : ℕ) (payload : IsPayload p) where
  times_more : (n : ℕ) → p * suc n ≡ p + p * n
  times_more n = grind arith

  length_block : (bytes : List ℕ) → p ≤ length bytes → length (take p bytes ++ replicate (4096 - p) 0) ≡ 4096
  length_block bytes le =
      omega (arith, payload_small p payload, length-append (take p bytes) (replicate (4096 - p) 0), length-take p bytes, length-replicate {A = ℕ} (4096 - p) 0)

  pub length_spread : (n : ℕ) (bytes : List ℕ) → p * n ≤ length bytes → length (spread p n bytes) ≡ 4096 * n
  length_spread zero bytes le = refl
  length_spread (suc n) bytes le =
      omega (
        arith,
        times_more n,
        length-append (take p bytes ++ replicate (4096 - p) 0) (spread p n (drop p bytes)),
        length_block bytes (omega (arith, times_more n)),
        length_spread n (drop p bytes) (omega (arith, times_more n, length-drop p bytes)),
      )

  -- block b has the payload b
  pub block_spread : (n b : ℕ) (bytes rest : List ℕ) → p * n ≤ length bytes → b < n → take p (block_at b (spread p n bytes ++ rest)) ≡ take p (drop (p * b) bytes)
  block_spread zero b bytes rest le lt = absurd (omega arith)
  block_spread (suc n) zero bytes rest le lt =
      let block = take p bytes ++ replicate (4096 - p) 0 in
      let tail = spread p n (drop p bytes) in
      let enough : p ≤ length bytes = omega (arith, times_more n) in
      let z : p * 0 ≡ 0 = grind arith in
      ap (λ l. take p (take 4096 l)) (append_assoc block tail rest) ∙ ap (take p) (take_at block (tail ++ rest) 4096 (length_block bytes enough))
      ∙ take_at (take p bytes) (replicate (4096 - p) 0) p (omega (arith, length-take p bytes))
      ∙ ap (λ n. take p (drop n bytes)) (sym z)
  block_spread (suc n) (suc b) bytes rest le lt =
      let block = take p bytes ++ replicate (4096 - p) 0 in
      let tail = spread p n (drop p bytes) in
      let enough : p ≤ length bytes = omega (arith, times_more n) in
      ap (λ l. take p (block_at (suc b) l)) (append_assoc block tail rest) ∙ ap (take p) (block_behind b block (tail ++ rest) (length_block bytes enough))
      ∙ block_spread n b (drop p bytes) rest (omega (arith, times_more n, length-drop p bytes)) (omega arith)
      ∙ ap (take p) (drop-drop (p * b) p bytes ∙ ap (λ n. drop n bytes) (sym (times_more b)))

-- where blocks are payload all over, they are the bytes
pub whole_spread : (n : ℕ) (bytes : List ℕ) → length bytes ≡ 4096 * n → spread 4096 n bytes ≡ bytes
whole_spread zero [] long = refl
whole_spread zero (x ∷ bytes) long = absurd (omega arith)
whole_spread (suc n) bytes long =
    ap (λ l. l ++ spread 4096 n (drop 4096 bytes)) (append-nil (take 4096 bytes))
    ∙ ap (λ l. take 4096 bytes ++ l) (whole_spread n (drop 4096 bytes) (omega (arith, length-drop 4096 bytes))) ∙ take-append-drop 4096 bytes

-- blocks keep no bytes behind their payloads
pub spread_front : (n : ℕ) (bytes rest : List ℕ) → 4080 * n ≤ length bytes → spread 4080 n (bytes ++ rest) ≡ spread 4080 n bytes
spread_front zero bytes rest le = refl
spread_front (suc n) bytes rest le =
    let block = take 4080 bytes ++ replicate 16 0 in
    ap (λ l. (l ++ replicate 16 0) ++ spread 4080 n (drop 4080 (bytes ++ rest))) (take-append-le 4080 bytes rest (omega arith))
    ∙ ap (λ l. block ++ spread 4080 n l) (drop-append-le 4080 bytes rest (omega arith))
    ∙ ap (λ l. block ++ l) (spread_front n (drop 4080 bytes) rest (omega (arith, length-drop 4080 bytes)))

length_tag : (n : ℕ) (bytes : List ℕ) → length (tag_of n bytes) ≡ 16
unfolding tag_of
length_tag n bytes = omega (arith, length-take {A = ℕ}, length-sha256 (to_be_bytes w32 n ++ bytes))

pub length_tagged : (p n : ℕ) (block : List ℕ) → length block ≡ 4096 → length (tagged p n block) ≡ 4096
unfolding tagged
length_tagged p n block long = either (p == 4096)
  where
    either : (b : Bool) → length (if b then block else take 4080 block ++ tag_of n (take 4080 block)) ≡ 4096
    either true = long
    either false = omega (arith, length-append (take 4080 block) (tag_of n (take 4080 block)), length-take 4080 block, length_tag n (take 4080 block))

-- a block with its tag
module _ (n : ℕ) (block : List ℕ) (long : length block ≡ 4096) where
  abbrev with_tag : List ℕ
  with_tag = take 4080 block ++ tag_of n (take 4080 block)

  front_long : length (take 4080 block) ≡ 4080
  front_long = omega (arith, length-take 4080 block)

  front_back : take 4080 with_tag ≡ take 4080 block
  front_back = take_at (take 4080 block) (tag_of n (take 4080 block)) 4080 front_long

  tag_back : take 16 (drop 4080 with_tag) ≡ tag_of n (take 4080 block)
  tag_back = ap (take 16) (drop_at (take 4080 block) (tag_of n (take 4080 block)) 4080 front_long) ∙ all_of 16 (tag_of n (take 4080 block)) (omega (arith, length_tag n (take 4080 block)))

  same_bytes : (xs : List ℕ) → bytes_eq xs xs ≡ true
  same_bytes xs = (bytes_eq-Decides xs xs).1 refl

  pub tag_agrees : agrees n with_tag ≡ true
  unfolding agrees
  tag_agrees = ap (λ l. bytes_eq l (tag_of n (take 4080 with_tag))) tag_back ∙ ap (λ l. bytes_eq (tag_of n (take 4080 block)) (tag_of n l)) front_back ∙ same_bytes (tag_of n (take 4080 block))

  -- it is sound, and has the payload that it had
  pub sound_tagged : (p : ℕ) → IsPayload p → is_sound p n (tagged p n block) ≡ true
  unfolding tagged
  sound_tagged p payload = elim payload.one [ inl e ↦ rw e refl | inr e ↦ rw e tag_agrees ]

  pub payload_tagged : (p : ℕ) → IsPayload p → take p (tagged p n block) ≡ take p block
  unfolding tagged
  payload_tagged p payload = elim payload.one [ inl e ↦ rw e refl | inr e ↦ rw e front_back ]

-- so many blocks, of bytes that have as many
pub length_front_tagged : (p n k : ℕ) (bytes : List ℕ) → 4096 * k ≤ length bytes → length (all_tagged p n k bytes) ≡ 4096 * k
length_front_tagged p n zero bytes long = refl
length_front_tagged p n (suc k) bytes long =
    omega (
      arith,
      length-append (tagged p n (take 4096 bytes)) (all_tagged p (suc n) k (drop 4096 bytes)),
      length_tagged p n (take 4096 bytes) (omega (arith, length-take 4096 bytes)),
      length_front_tagged p (suc n) k (drop 4096 bytes) (omega (arith, length-drop 4096 bytes)),
    )

pub length_all_tagged : (p n k : ℕ) (bytes : List ℕ) → length bytes ≡ 4096 * k → length (all_tagged p n k bytes) ≡ 4096 * k
length_all_tagged p n k bytes long = length_front_tagged p n k bytes (omega (arith, long))

-- block b is the one that was there, with its tag
pub block_tagged : (p n k b : ℕ) (bytes : List ℕ) → length bytes ≡ 4096 * k → b < k → block_at b (all_tagged p n k bytes) ≡ tagged p (n + b) (block_at b bytes)
block_tagged p n zero b bytes long lt = absurd (omega arith)
block_tagged p n (suc k) zero bytes long lt =
    let first = tagged p n (take 4096 bytes) in
    let z : n ≡ n + 0 = omega arith in
    take_at first (all_tagged p (suc n) k (drop 4096 bytes)) 4096 (length_tagged p n (take 4096 bytes) (omega (arith, length-take 4096 bytes)))
    ∙ ap (λ m. tagged p m (take 4096 bytes)) z
block_tagged p n (suc k) (suc b) bytes long lt =
    let first = tagged p n (take 4096 bytes) in
    let one : length (take 4096 bytes) ≡ 4096 = omega (arith, length-take 4096 bytes) in
    let s : suc n + b ≡ n + suc b = omega arith in
    block_behind b first (all_tagged p (suc n) k (drop 4096 bytes)) (length_tagged p n (take 4096 bytes) one)
    ∙ block_tagged p (suc n) k b (drop 4096 bytes) (omega (arith, length-drop 4096 bytes)) (omega arith)
    ∙ ap (λ m. tagged p m (block_at b (drop 4096 bytes))) s
    ∙ ap (tagged p (n + suc b)) (sym (block_behind b (take 4096 bytes) (drop 4096 bytes) one) ∙ ap (block_at (suc b)) (take-append-drop 4096 bytes))

-- format 1 has no tags
pub none_tagged : (n k : ℕ) (bytes : List ℕ) → length bytes ≡ 4096 * k → all_tagged 4096 n k bytes ≡ bytes
unfolding tagged
none_tagged n zero [] long = refl
none_tagged n zero (x ∷ bytes) long = absurd (omega arith)
none_tagged n (suc k) bytes long =
    ap (λ l. take 4096 bytes ++ l) (none_tagged (suc n) k (drop 4096 bytes) (omega (arith, length-drop 4096 bytes))) ∙ take-append-drop 4096 bytes
