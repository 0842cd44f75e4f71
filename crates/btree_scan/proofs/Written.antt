-- The keys of written levels.
use Rattle.std.proofs.Common.{◌≡◌, ℕ, zero, suc, ◌+◌, ◌-◌, ◌*◌, ◌/◌, ◌%◌, ◌<◌, ◌≤◌, inl, inr, ◌++◌, List, [], ◌∷◌, length, take, drop, replicate, Some, Ok, Err, Bool, true, false, refl, sym, ap, ◌∙◌, arith, length-append, length-take, length-drop}
use Rattle.std.specs.Prelude.{if◌then◌else◌}
use Rattle.std.specs.List.{slice_get}
use Rattle.std.proofs.lemmas.Nat.{from_be_bytes-to_be_bytes_4}
use Rattle.std.proofs.lemmas.List.{take_at, drop_at, drop-drop}
use Rattle.std.proofs.lemmas.Option.{slice_get_within}
use Rattle.sage_outside.specs.Blocks.{block_at}
use Rattle.sage_outside.proofs.Pieces.{front_behind}
use Rattle.sage_outside.specs.Parts.{IsPayload, is_sound}
use Rattle.term_core.specs.declared.pattern.IdTriple.{IdTriple}
use Rattle.btree_build.specs.Trees.{entry_bytes, list_bytes, block_bytes, firsts, above}
use Rattle.btree_scan.specs.declared.tree.Tree.{Tree}
use Rattle.btree_scan.specs.Entries.{entry_in, entry_of}
use Rattle.btree_build.specs.Trees.{blocks_for}
use Rattle.btree_scan.specs.Levels.{key_at, per_block, size_at, first_at, IsLevel, Lists}
use Rattle.btree_scan.specs.Written.{AreIds, level_list, IsWritten}

length_entry : (e : IdTriple) → length (entry_bytes e) ≡ 12
unfolding entry_bytes
length_entry e = refl

pub length_list : (es : List IdTriple) → length (list_bytes es) ≡ 12 * length es
length_list [] = refl
length_list (e ∷ es) = length-append (entry_bytes e) (list_bytes es) ∙ omega (arith, length_entry e, length_list es)

-- an entry is read from its bytes
entry_back : (e : IdTriple) → AreIds e → entry_in (entry_bytes e) ≡ e
unfolding entry_bytes entry_in
entry_back e ids =
    let s = from_be_bytes-to_be_bytes_4 e.s ids.s in
    let p = from_be_bytes-to_be_bytes_4 e.p ids.p in
    let o = from_be_bytes-to_be_bytes_4 e.o ids.o in
    λ i. record { s = s i; p = p i; o = o i }

-- entry k stands behind k others
entry_there : (es : List IdTriple) (k : ℕ) (e : IdTriple) → slice_get es k ≡ Some e → take 12 (drop (12 * k) (list_bytes es)) ≡ entry_bytes e
entry_there [] k e at = cc
entry_there (x ∷ es) zero e at =
    let same : x ≡ e = cc in
    take_at (entry_bytes x) (list_bytes es) 12 (length_entry x) ∙ ap entry_bytes same
entry_there (x ∷ es) (suc k) e at =
    let all = entry_bytes x ++ list_bytes es in
    let place : 12 * suc k ≡ 12 + 12 * k = omega arith in
    ap (λ n. take 12 (drop n all)) place ∙ ap (take 12) (sym (drop-drop (12 * k) 12 all) ∙ ap (drop (12 * k)) (drop_at (entry_bytes x) (list_bytes es) 12 (length_entry x)))
    ∙ entry_there es k e at

-- entry j of a block that is like that of some entries
entry_in_block : (p : ℕ) (es : List IdTriple) (xs : List ℕ) (j : ℕ) (e : IdTriple) → slice_get es j ≡ Some e → AreIds e → 12 * length es ≤ p → take p xs ≡ take p (block_bytes es) → entry_of xs j ≡ e
unfolding block_bytes
entry_in_block p es xs j e at ids few is =
    let lt = slice_get_within es j e at in
    let bytes = list_bytes es in
    let zeros = replicate (4096 - 12 * length es) 0 in
    let long = length_list es in
    let front : take (12 * length es) (bytes ++ zeros) ≡ bytes = take_at bytes zeros (12 * length es) long in
    let one : take 12 (drop (12 * j) xs) ≡ take 12 (drop (12 * j) (bytes ++ zeros)) =
    sym (front_behind 12 (12 * j) p xs (omega arith)) ∙ ap (λ l. take 12 (drop (12 * j) l)) is ∙ front_behind 12 (12 * j) p (bytes ++ zeros) (omega arith) in
    let two : take 12 (drop (12 * j) (bytes ++ zeros)) ≡ take 12 (drop (12 * j) bytes) =
    sym (front_behind 12 (12 * j) (12 * length es) (bytes ++ zeros) (omega arith)) ∙ ap (λ l. take 12 (drop (12 * j) l)) front in
    ap entry_in (one ∙ two ∙ entry_there es j e at) ∙ entry_back e ids

-- places in parts of a list
module _ {X : Type 0} where
  pub get_drop : (n j : ℕ) (xs : List X) → slice_get (drop n xs) j ≡ slice_get xs (n + j)
  get_drop zero j xs = ap (slice_get xs) (let e : j ≡ 0 + j = omega arith in e)
  get_drop (suc n) j [] = ap (slice_get []) (let e : j ≡ j = refl in e) ∙ nothing j (suc n + j)
    where
      nothing : (a b : ℕ) → slice_get {X = X} [] a ≡ slice_get [] b
      nothing zero zero = refl
      nothing zero (suc b) = refl
      nothing (suc a) zero = refl
      nothing (suc a) (suc b) = refl
  get_drop (suc n) j (x ∷ xs) = get_drop n j xs ∙ ap (slice_get (x ∷ xs)) (let e : suc (n + j) ≡ suc n + j = omega arith in e)

  pub get_take : (n j : ℕ) (xs : List X) → j < n → slice_get (take n xs) j ≡ slice_get xs j
  get_take zero j xs lt = absurd (omega arith)
  get_take (suc n) j [] lt = refl
  get_take (suc n) zero (x ∷ xs) lt = refl
  get_take (suc n) (suc j) (x ∷ xs) lt = get_take n j xs (omega arith)

  pub get_within : (xs : List X) (k : ℕ) → k < length xs → (e : X) × (slice_get xs k ≡ Some e)
  get_within [] k lt = absurd (omega arith)
  get_within (x ∷ xs) zero lt = (x, refl)
  get_within (x ∷ xs) (suc k) lt = get_within xs k (omega arith)

  -- the first entries of blocks
  pub get_firsts : (per m k : ℕ) (xs : List X) → k < m → (m - 1) * per < length xs → slice_get (firsts per m xs) k ≡ slice_get xs (k * per)
  get_firsts per zero k xs lt long = absurd (omega arith)
  get_firsts per (suc m) k [] lt long = absurd (omega arith)
  get_firsts per (suc m) zero (x ∷ xs) lt long = let z : 0 * per ≡ 0 = grind arith in rw z refl
  get_firsts per (suc zero) (suc k) (x ∷ xs) lt long = absurd (omega arith)
  get_firsts per (suc (suc m)) (suc k) (x ∷ xs) lt long =
      let all = x ∷ xs in
      let a : (suc (suc m) - 1) * per ≡ per + m * per = let s : suc (suc m) - 1 ≡ suc m = omega arith in rw s (let g : suc m * per ≡ per + m * per = grind arith in g) in
      let b : suc k * per ≡ per + k * per = grind arith in
      let c : (suc m - 1) * per ≡ m * per = let s : suc m - 1 ≡ m = omega arith in rw s refl in
      get_firsts per (suc m) k (drop per all) (omega arith) (omega (arith, long, a, c, length-drop per all)) ∙ get_drop per (k * per) all ∙ ap (slice_get all) (sym b)

  pub length_firsts : (per m : ℕ) (xs : List X) → (0 < m → (m - 1) * per < length xs) → length (firsts per m xs) ≡ m
  length_firsts per zero xs long = refl
  length_firsts per (suc m) [] long = absurd (omega (arith, long (omega arith)))
  length_firsts per (suc zero) (x ∷ xs) long = refl
  length_firsts per (suc (suc m)) (x ∷ xs) long =
      let all = x ∷ xs in
      let a : (suc (suc m) - 1) * per ≡ per + m * per = let s : suc (suc m) - 1 ≡ suc m = omega arith in rw s (let g : suc m * per ≡ per + m * per = grind arith in g) in
      let c : (suc m - 1) * per ≡ m * per = let s : suc m - 1 ≡ m = omega arith in rw s refl in
      ap suc (length_firsts per (suc m) (drop per all) (λ h. omega (arith, long (omega arith), a, c, length-drop per all)))

last_block : (p n : ℕ) → IsPayload p → 0 < blocks_for (p / 12) n → (blocks_for (p / 12) n - 1) * (p / 12) < n
unfolding blocks_for
last_block p n payload some = elim payload.one [ inl e ↦ let i = rw e at some in rw e (omega (arith, i)) | inr e ↦ let i = rw e at some in rw e (omega (arith, i)) ]

pub entry_block : (p n place : ℕ) → IsPayload p → place < n → place / (p / 12) < blocks_for (p / 12) n
unfolding blocks_for
entry_block p n place payload lt = elim payload.one [ inl e ↦ rw e (omega (arith, lt)) | inr e ↦ rw e (omega (arith, lt)) ]

pub more_below : (p n : ℕ) → IsPayload p → 1 < blocks_for (p / 12) n → 1 < n
unfolding blocks_for
more_below p n payload lt = elim payload.one [ inl e ↦ let i = rw e at lt in omega (arith, i) | inr e ↦ let i = rw e at lt in omega (arith, i) ]

split_place : (p k : ℕ) → IsPayload p → ((k / (p / 12)) * (p / 12) + k % (p / 12) ≡ k) × (k % (p / 12) < p / 12)
split_place p k payload = elim payload.one [ inl e ↦ rw e (omega arith, omega arith) | inr e ↦ rw e (omega arith, omega arith) ]

twelve : (p n : ℕ) → IsPayload p → n ≤ p / 12 → 12 * n ≤ p
twelve p n payload le = elim payload.one [ inl e ↦ let i = rw e at le in rw e (omega (arith, i)) | inr e ↦ let i = rw e at le in rw e (omega (arith, i)) ]

if_sound : (t : Bool) (e : IdTriple) (n : ℕ) → t ≡ true → (if t then Ok e else Err n) ≡ Ok e
if_sound true e n is = refl
if_sound false e n is = cc

pub length_above : (p : ℕ) (es : List IdTriple) → IsPayload p → length (above (p / 12) es) ≡ blocks_for (p / 12) (length es)
length_above p es payload =
    let per = p / 12 in
    let n = length es in
    length_firsts per (blocks_for per n) es (λ h. last_block p n payload (omega (arith, h)))

module _ (tree : Tree) (es : List IdTriple) (image : List ℕ) (written : IsWritten tree es image) where
  abbrev pub per : ℕ
  per = per_block tree

  abbrev pub level : ℕ → List IdTriple
  level l = level_list per l es

  long : (l : ℕ) → length (level l) ≡ size_at tree l
  long zero = sym written.entries
  long (suc l) = length_above tree.payload (level l) written.payload ∙ ap (blocks_for per) (long l)

  -- an entry of a level is the first of its block below
  first_below : (l k : ℕ) → k < size_at tree (suc l) → slice_get (level (suc l)) k ≡ slice_get (level l) (k * per)
  first_below l k lt =
      let n = length (level l) in
      let s : blocks_for per n ≡ size_at tree (suc l) = ap (blocks_for per) (long l) in
      get_firsts per (blocks_for per n) k (level l) (omega (arith, lt, s)) (last_block tree.payload n written.payload (omega (arith, lt, s)))

  ids : (l k : ℕ) (e : IdTriple) → slice_get (level l) k ≡ Some e → AreIds e
  ids zero k e at = written.ids k e at
  ids (suc l) k e at = ids l (k * per) e (sym (first_below l k (omega (arith, slice_get_within (level (suc l)) k e at, long (suc l)))) ∙ at)

  below : (l : ℕ) → IsLevel tree (suc l) → IsLevel tree l
  below zero h = tt
  below (suc l) h = more_below tree.payload (size_at tree (suc l)) written.payload h

  key_is : (l k : ℕ) (e : IdTriple) → IsLevel tree l → slice_get (level l) k ≡ Some e → key_at tree l k image ≡ Ok e
  unfolding key_at
  key_is l k e there at =
      let b = k / per in
      let j = k % per in
      let split = split_place tree.payload k written.payload in
      let lt : k < size_at tree l = omega (arith, slice_get_within (level l) k e at, long l) in
      let block = written.blocks l b there (entry_block tree.payload (size_at tree l) k written.payload lt) in
      let chunk = take per (drop (b * per) (level l)) in
      let here : slice_get chunk j ≡ Some e = get_take per j (drop (b * per) (level l)) split.1 ∙ get_drop (b * per) j (level l) ∙ ap (slice_get (level l)) split.0 ∙ at in
      let few : length chunk ≤ per = omega (arith, length-take per (drop (b * per) (level l))) in
      let n = first_at tree l + b in
      let is = entry_in_block tree.payload chunk (block_at n image) j e here (ids l k e at) (twelve tree.payload (length chunk) written.payload few) block.bytes in
      if_sound (is_sound tree.payload n (block_at n image)) (entry_of (block_at n image) j) n block.sound ∙ ap Ok is

  pub lists_from_written : Lists tree es image
  lists_from_written = record {
    sorted = written.sorted;
    entries = written.entries;
    each = λ k e at. key_is 0 k e tt at;
    levels = record {
      agree = λ l k there lt.
          let got = get_within (level (suc l)) k (omega (arith, lt, long (suc l))) in
          key_is (suc l) k got.0 there got.1 ∙ sym (key_is l (k * per) got.0 (below l there) (sym (first_below l k lt) ∙ got.1));
    };
  }
