-- Parts of an area: one that stands in one block, one behind another, and how many reads they take.
use Rattle.std.proofs.Common.{◌≡◌, ℕ, zero, suc, ◌+◌, ◌-◌, ◌*◌, ◌/◌, ◌%◌, ◌<◌, ◌≤◌, ◌⊎◌, inl, inr, ◌++◌, ◌∙◌, List, length, take, drop, arith, refl, sym, ap, subst, length-drop, Bool, true, false, Option, Some, None, Ok, Err}
use Rattle.std.specs.Prelude.{if◌then◌else◌}
use Rattle.std.proofs.lemmas.List.{take-take, take-append-le, drop-append-le, drop-drop, drop_at, length-take-le}
use Rattle.std.proofs.lemmas.Slice.{take-put_mid}
use Rattle.std.proofs.Math.Seq.{take-add}
use Rattle.sage_outside.proofs.Pieces.{front_behind}
use Rattle.sage_outside.specs.declared.area.Area.{Area}
use Rattle.sage_outside.specs.Areas.{payloads, area_bytes, part_of, Fits, first_broken, or_block, part_at, block_of, touched}
use Rattle.sage_outside.specs.Blocks.{block_at}
use Rattle.sage_outside.specs.Parts.{is_sound, piece_at}
use borrow.Rule.Slice.PartMut.{put_mid}

-- a part of the first payload is a part of the first block
in_first_block : (p o k : ℕ) (bytes rest : List ℕ) → p ≤ 4096 → p ≤ length bytes → o + k ≤ p → take k (drop o (take p bytes ++ rest)) ≡ take k (drop o (take 4096 bytes))
in_first_block p o k bytes rest h l i =
    let long : length (take p bytes) ≡ p = length-take-le p bytes l in
    let here : drop o (take p bytes ++ rest) ≡ drop o (take p bytes) ++ rest = drop-append-le o (take p bytes) rest (omega arith) in
    let short : take k (drop o (take p bytes) ++ rest) ≡ take k (drop o (take p bytes)) = take-append-le k (drop o (take p bytes)) rest (omega (arith, length-drop {A = ℕ})) in
    ap (take k) here ∙ short ∙ front_behind k o p bytes i ∙ sym (front_behind k o 4096 bytes (omega arith))

-- a part of payload b is a part of block b
in_block : (p n b o k : ℕ) (bytes : List ℕ) → p ≤ 4096 → 4096 * n ≤ length bytes → b < n → o + k ≤ p
    → take k (drop (b * p + o) (payloads p n bytes)) ≡ take k (drop o (take 4096 (drop (4096 * b) bytes)))
in_block p zero b o k bytes h l lt i = absurd (omega arith)
in_block p (suc n) zero o k bytes h l lt i = rw (let e : zero * p + o ≡ o = grind arith in e) (in_first_block p o k bytes (payloads p n (drop 4096 bytes)) h (omega arith) i)
in_block p (suc n) (suc b) o k bytes h l lt i =
    let long : length (take p bytes) ≡ p = length-take-le p bytes (omega arith) in
    let place : suc b * p + o ≡ p + (b * p + o) = grind arith in
    let rest = payloads p n (drop 4096 bytes) in
    let skip : drop (suc b * p + o) (take p bytes ++ rest) ≡ drop (b * p + o) rest =
    ap (λ m. drop m (take p bytes ++ rest)) place ∙ sym (drop-drop (b * p + o) p (take p bytes ++ rest)) ∙ ap (drop (b * p + o)) (drop_at (take p bytes) rest p long) in
    let behind : drop (4096 * b) (drop 4096 bytes) ≡ drop (4096 * suc b) bytes = drop-drop (4096 * b) 4096 bytes ∙ ap (λ m. drop m bytes) (omega arith) in
    ap (take k) skip ∙ in_block p n b o k (drop 4096 bytes) h (omega (arith, length-drop {A = ℕ})) (omega arith) i
    ∙ ap (λ xs. take k (drop o (take 4096 xs))) behind

behind_of : (p f a n c : ℕ) → (p ≡ 4096) ⊎ (p ≡ 4080) → f * p + a + n ≤ c * p → 0 < n → f + a / p < c
behind_of p f a n c (inl e) h s = let i = rw e at h in rw e (omega arith)
behind_of p f a n c (inr e) h s = let i = rw e at h in rw e (omega arith)

module _ (area : Area) (at n count : ℕ) (image : List ℕ) (fits : Fits area at n count) (within : at % area.payload + n ≤ area.payload) (some : 0 < n) (whole : length image ≡ 4096 * count) where
  split_place : (p : ℕ) → 0 < p → (at / p) * p + at % p ≡ at
  split_place p h = omega arith

  small : area.payload ≤ 4096
  small = omega (arith, fits.payload.one)

  behind : area.first + at / area.payload < count
  behind = behind_of area.payload area.first at n count fits.payload.one fits.within some

  -- a part that does not go past a payload is read from its block
  part_in_block : take n (drop (at % area.payload) (take 4096 (drop (4096 * (area.first + at / area.payload)) image))) ≡ part_of area at n image
  part_in_block =
      let p = area.payload in
      let m = length image / 4096 - area.first in
      let here = in_block p m (at / p) (at % p) n (drop (4096 * area.first) image) small (omega (arith, length-drop {A = ℕ}, behind)) (omega (arith, behind, whole)) within in
      let start : drop (4096 * (at / p)) (drop (4096 * area.first) image) ≡ drop (4096 * (area.first + at / p)) image =
      drop-drop (4096 * (at / p)) (4096 * area.first) image ∙ ap (λ k. drop k image) (omega arith) in
      let place : (at / p) * p + at % p ≡ at = split_place p (omega (arith, some, within)) in
      ap (λ xs. take n (drop (at % p) (take 4096 xs))) (sym start) ∙ sym here ∙ ap (λ k. take n (drop k (area_bytes area image))) place

  pub part_in_block_as : (k : ℕ) → k ≡ n → take k (drop (at % area.payload) (take 4096 (drop (4096 * (area.first + at / area.payload)) image))) ≡ part_of area at k image
  part_in_block_as k e = rw e part_in_block

-- a piece behind what was read
pub front_more : (area : Area) (at done k j : ℕ) (buf piece image : List ℕ) → take done buf ≡ part_of area at done image → piece ≡ part_of area (at + done) (length piece) image → length piece ≡ k → done ≤ length buf
    → take (done + k) (put_mid done j buf piece) ≡ part_of area at (done + k) image
front_more area at done k j buf piece image front new long within =
    let all = drop at (area_bytes area image) in
    let here : piece ≡ take k (drop done all) = new ∙ ap (λ m. part_of area (at + done) m image) long ∙ ap (take k) (sym (drop-drop done at (area_bytes area image))) in
    take-put_mid done j buf piece (done + k) (omega arith) within ∙ ap (λ l. l ++ piece) front ∙ ap (λ l. take done all ++ l) here ∙ sym (take-add done k all)

-- a front of a part, and what stands behind it
pub part_front : (area : Area) (at k n : ℕ) (image : List ℕ) → k ≤ n → take k (part_of area at n image) ≡ part_of area at k image
part_front area at k n image le = take-take k n (drop at (area_bytes area image)) le

pub part_behind : (area : Area) (at o k n : ℕ) (image : List ℕ) → o + k ≤ n → take k (drop o (part_of area at n image)) ≡ part_of area (at + o) k image
part_behind area at o k n image le =
    front_behind k o n (drop at (area_bytes area image)) le ∙ ap (take k) (drop-drop o at (area_bytes area image))

-- a piece of one block, with its tag, is a part of the area
one_block : (p b : ℕ) (image xs : List ℕ) → or_block (first_broken p b 1 image) xs ≡ (if is_sound p b (block_at b image) then Ok xs else Err b)
unfolding first_broken
one_block p b image xs = chosen (is_sound p b (block_at b image)) b xs
  where
    chosen : (t : Bool) (b : ℕ) (xs : List ℕ) → or_block (if t then None else Some b) xs ≡ (if t then Ok xs else Err b)
    chosen true b xs = refl
    chosen false b xs = refl

one_touched : (p at n : ℕ) → (p ≡ 4096) ⊎ (p ≡ 4080) → at % p + n ≤ p → 0 < n → touched p at n ≡ 1
one_touched p at zero e h s = absurd (omega arith)
one_touched p at (suc n) (inl e) h s = let i = rw e at h in rw e (omega arith)
one_touched p at (suc n) (inr e) h s = let i = rw e at h in rw e (omega arith)

pub piece_is_part : (area : Area) (at n count k : ℕ) (image : List ℕ) → Fits area at n count → at % area.payload + n ≤ area.payload → 0 < n → length image ≡ 4096 * count → k ≡ n
    → piece_at area.payload (block_of area at) (at % area.payload) k image ≡ part_at area at k image
unfolding part_at
piece_is_part area at n count k image fits within some whole e =
    let b = block_of area at in
    let here = part_in_block_as area at n count image fits within some whole k e in
    let one : touched area.payload at k ≡ 1 = rw e (one_touched area.payload at n fits.payload.one within some) in
    rw one (ap (λ xs. if is_sound area.payload b (block_at b image) then Ok xs else Err b) here ∙ sym (one_block area.payload b image (part_of area at k image)))

if_none : (t : Bool) (b : ℕ) (o : Option ℕ) → (if t then o else Some b) ≡ None → (t ≡ true) × (o ≡ None)
if_none true b o e = (refl, e)
if_none false b o e = cc

-- blocks one behind the other
module _ (p : ℕ) (image : List ℕ) where
  abbrev pub Sound : ℕ → Type 0
  Sound b = is_sound p b (block_at b image) ≡ true

  pub skip_sound : (b k : ℕ) → Sound b → first_broken p b (suc k) image ≡ first_broken p (suc b) k image
  unfolding first_broken
  skip_sound b k is = rw is refl

  pub head_sound : (b k : ℕ) → first_broken p b (suc k) image ≡ None → Sound b × (first_broken p (suc b) k image ≡ None)
  unfolding first_broken
  head_sound b k e = if_none (is_sound p b (block_at b image)) b (first_broken p (suc b) k image) e

  pub none_broken : (b : ℕ) → first_broken p b 0 image ≡ None
  unfolding first_broken
  none_broken b = refl

  pub stop_broken : (b k : ℕ) → is_sound p b (block_at b image) ≡ false → first_broken p b (suc k) image ≡ Some b
  unfolding first_broken
  stop_broken b k is = rw is refl

  -- one more block whose tag agrees
  pub sound_more : (b k : ℕ) → first_broken p b k image ≡ None → Sound (b + k) → first_broken p b (k + 1) image ≡ None
  sound_more b zero h is = let e : b + 0 ≡ b = omega arith in skip_sound b 0 (subst Sound e is) ∙ none_broken (suc b)
  sound_more b (suc k) h is =
      let e : b + suc k ≡ suc b + k = omega arith in
      let head = head_sound b k h in
      ap (λ j. first_broken p b j image) (let f : suc k + 1 ≡ suc (k + 1) = omega arith in f)
      ∙ skip_sound b (k + 1) head.0 ∙ sound_more (suc b) k head.1 (subst Sound e is)

  -- the first whose tag does not agree
  pub broken_here : (b q k : ℕ) → first_broken p b q image ≡ None → is_sound p (b + q) (block_at (b + q) image) ≡ false → q < k → first_broken p b k image ≡ Some (b + q)
  broken_here b q zero h is lt = absurd (omega (arith, lt))
  broken_here b zero (suc k) h is lt = let e : b + 0 ≡ b = omega arith in let i = rw e at is in rw e (stop_broken b k i)
  broken_here b (suc q) (suc k) h is lt =
      let e : b + suc q ≡ suc b + q = omega arith in
      let head = head_sound b q h in
      let i = rw e at is in
      rw e (skip_sound b k head.0 ∙ broken_here (suc b) q k head.1 i (omega arith))
