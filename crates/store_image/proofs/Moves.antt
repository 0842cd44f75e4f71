-- Blocks that are put into bytes where they stand.
use Rattle.std.proofs.Common.{◌≡◌, ℕ, zero, suc, ◌+◌, ◌-◌, ◌*◌, ◌<◌, ◌≤◌, ◌++◌, List, [], length, take, drop, replicate, refl, sym, ap, subst, ◌∙◌, arith, append_assoc, append-nil, take-add, length-append, length-take, length-drop}
use Rattle.std.proofs.lemmas.List.{take_at, drop_at, drop-drop, take-take, drop-take, length-replicate}
use borrow.Rule.Slice.PartMut.{put_mid}
use Rattle.sage_outside.specs.Blocks.{block_at}
use Rattle.sage_outside.specs.Parts.{tag_of}
use Rattle.store_image.specs.Format.{spread, tagged, all_tagged}
use Rattle.store_image.proofs.Payloads.{all_of}

-- a vector whose slice was lent
pub lent_back : (lent items : List ℕ) (n : ℕ) → n ≡ length lent → take n (lent ++ drop (length lent) items) ≡ lent
lent_back lent items n e = take_at lent (drop (length lent) items) n (sym e)

-- one block, where another stood
pub put_block : (n : ℕ) (bytes ys zs : List ℕ) → ys ≡ zs → put_mid (4096 * n) (4096 * n + 4096 - 4096 * n) bytes ys ≡ take (4096 * n) bytes ++ (zs ++ drop (4096 * (n + 1)) bytes)
put_block n bytes ys zs same =
    let k = 4096 * n + 4096 - 4096 * n in
    let e : 4096 * n + k ≡ 4096 * (n + 1) = omega arith in
    ap (λ l. take (4096 * n) bytes ++ l) (ap (λ l. l ++ drop k (drop (4096 * n) bytes)) same ∙ ap (λ l. zs ++ l) (drop-drop k (4096 * n) bytes ∙ ap (λ m. drop m bytes) e))

-- a tag, behind its payload
pub put_behind : (n : ℕ) (bytes tag : List ℕ) → tag ≡ tag_of n (take 4080 (drop (4096 * n) bytes))
    → put_mid (4096 * n + 4080) (4096 * n + 4096 - (4096 * n + 4080)) bytes tag ≡ take (4096 * n) bytes ++ (tagged 4080 n (block_at n bytes) ++ drop (4096 * (n + 1)) bytes)
unfolding tagged
put_behind n bytes tag same =
    let at = 4096 * n in
    let k = 4096 * n + 4096 - (4096 * n + 4080) in
    let e : 4096 * n + 4080 + k ≡ 4096 * (n + 1) = omega arith in
    let rest = drop (4096 * (n + 1)) bytes in
    let payload = take 4080 (drop at bytes) in
    let short : take 4080 (block_at n bytes) ≡ payload = take-take 4080 4096 (drop at bytes) (omega arith) in
    ap (λ l. take (at + 4080) bytes ++ (tag ++ l)) (drop-drop k (at + 4080) bytes ∙ ap (λ m. drop m bytes) e)
    ∙ ap (λ l. l ++ (tag ++ rest)) (take-add at 4080 bytes)
    ∙ append_assoc (take at bytes) payload (tag ++ rest)
    ∙ ap (λ l. take at bytes ++ l) (sym (append_assoc payload tag rest) ∙ ap (λ l. (payload ++ l) ++ rest) same ∙ ap (λ l. (l ++ tag_of n l) ++ rest) (sym short))

-- the front of bytes of which a later part was changed
pub front_kept : (m n : ℕ) (bytes block rest new : List ℕ) → m ≤ n → n ≤ length bytes → new ≡ take n bytes ++ (block ++ rest) → take m new ≡ take m bytes
front_kept m n bytes block rest new le within is =
    ap (take m) is ∙ sym (take-take m n (take n bytes ++ (block ++ rest)) le) ∙ ap (take m) (take_at (take n bytes) (block ++ rest) n (omega (arith, length-take n bytes))) ∙ take-take m n bytes le

-- the block that was put, and what stands behind it
pub back_kept : (n : ℕ) (bytes block rest new : List ℕ) → n ≤ length bytes → new ≡ take n bytes ++ (block ++ rest) → drop n new ≡ block ++ rest
back_kept n bytes block rest new within is = ap (drop n) is ∙ drop_at (take n bytes) (block ++ rest) n (omega (arith, length-take n bytes))

-- one more payload was moved to its block
moved_one : (left count : ℕ) (bytes new old : List ℕ) → left < count → length bytes ≡ 4096 * count → 4080 * count ≤ length old
    → take (4080 * suc left) bytes ≡ take (4080 * suc left) old
    → drop (4096 * suc left) bytes ≡ spread 4080 (count - suc left) (drop (4080 * suc left) old)
    → new ≡ take (4096 * left) bytes ++ ((take 4080 (drop (4080 * left) bytes) ++ replicate 16 0) ++ drop (4096 * (left + 1)) bytes)
    → drop (4096 * left) new ≡ spread 4080 (count - left) (drop (4080 * left) old)
moved_one left count bytes new old lt long enough front moved is =
    let here = drop (4080 * left) old in
    let e : count - left ≡ suc (count - suc left) = omega arith in
    let s : 4096 * (left + 1) ≡ 4096 * suc left = omega arith in
    let t : 4080 * suc left ≡ 4080 * left + 4080 = omega arith in
    let payload : take 4080 (drop (4080 * left) bytes) ≡ take 4080 here =
    part_of_front (4080 * left) 4080 bytes ∙ ap (drop (4080 * left)) (ap (λ m. take m bytes) (sym t) ∙ front ∙ ap (λ m. take m old) t) ∙ sym (part_of_front (4080 * left) 4080 old) in
    let rest : drop (4096 * (left + 1)) bytes ≡ spread 4080 (count - suc left) (drop 4080 here) =
    ap (λ m. drop m bytes) s ∙ moved ∙ ap (spread 4080 (count - suc left)) (ap (λ m. drop m old) (let u : 4080 * suc left ≡ 4080 * left + 4080 = omega arith in u) ∙ sym (drop-drop 4080 (4080 * left) old)) in
    back_kept (4096 * left) bytes (take 4080 (drop (4080 * left) bytes) ++ replicate 16 0) (drop (4096 * (left + 1)) bytes) new (omega arith) is
    ∙ ap (λ l. (l ++ replicate 16 0) ++ drop (4096 * (left + 1)) bytes) payload
    ∙ ap (λ l. (take 4080 here ++ replicate 16 0) ++ l) rest
    ∙ sym (ap (λ n. spread 4080 n here) e)
  where
    part_of_front : (a k : ℕ) (xs : List ℕ) → take k (drop a xs) ≡ drop a (take (a + k) xs)
    part_of_front a k xs = sym (drop-take a k xs)

pub moved_more : (left next count : ℕ) (bytes new old : List ℕ) → left ≡ suc next → left ≤ count → length bytes ≡ 4096 * count → 4080 * count ≤ length old
    → take (4080 * left) bytes ≡ take (4080 * left) old
    → drop (4096 * left) bytes ≡ spread 4080 (count - left) (drop (4080 * left) old)
    → new ≡ take (4096 * next) bytes ++ ((take 4080 (drop (4080 * next) bytes) ++ replicate 16 0) ++ drop (4096 * (next + 1)) bytes)
    → drop (4096 * next) new ≡ spread 4080 (count - next) (drop (4080 * next) old)
moved_more left next count bytes new old e le long enough front moved is =
    moved_one next count bytes new old (omega arith) long enough
    (subst (λ k. take (4080 * k) bytes ≡ take (4080 * k) old) e front)
    (subst (λ k. drop (4096 * k) bytes ≡ spread 4080 (count - k) (drop (4080 * k) old)) e moved) is

-- the payloads in front of one that was moved
pub front_more : (left next count : ℕ) (bytes new old block rest : List ℕ) → left ≡ suc next → left ≤ count → length bytes ≡ 4096 * count
    → take (4080 * left) bytes ≡ take (4080 * left) old → new ≡ take (4096 * next) bytes ++ (block ++ rest) → take (4080 * next) new ≡ take (4080 * next) old
front_more left next count bytes new old block rest e le long front is =
    front_kept (4080 * next) (4096 * next) bytes block rest new (omega arith) (omega arith) is
    ∙ sym (take-take (4080 * next) (4080 * left) bytes (omega arith)) ∙ ap (take (4080 * next)) front ∙ take-take (4080 * next) (4080 * left) old (omega arith)

-- bytes keep their number
pub long_more : (next count : ℕ) (bytes new block : List ℕ) → next < count → length bytes ≡ 4096 * count → length block ≡ 4096
    → new ≡ take (4096 * next) bytes ++ (block ++ drop (4096 * (next + 1)) bytes) → length new ≡ 4096 * count
long_more next count bytes new block lt long one is =
    ap length is ∙ omega (
      arith,
      length-append (take (4096 * next) bytes) (block ++ drop (4096 * (next + 1)) bytes),
      length-append block (drop (4096 * (next + 1)) bytes),
      length-take (4096 * next) bytes,
      length-drop (4096 * (next + 1)) bytes,
    )

-- one more tag was put
pub tagged_more : (n k : ℕ) (old bytes new : List ℕ) → n < k → length old ≡ 4096 * k → bytes ≡ all_tagged 4080 0 n old ++ drop (4096 * n) old → length (all_tagged 4080 0 n old) ≡ 4096 * n
    → new ≡ take (4096 * n) bytes ++ (tagged 4080 n (block_at n bytes) ++ drop (4096 * (n + 1)) bytes)
    → new ≡ all_tagged 4080 0 (n + 1) old ++ drop (4096 * (n + 1)) old
tagged_more n k old bytes new lt long is size put =
    let done = all_tagged 4080 0 n old in
    let rest = drop (4096 * n) old in
    let front : take (4096 * n) bytes ≡ done = ap (take (4096 * n)) is ∙ take_at done rest (4096 * n) size in
    let back : drop (4096 * n) bytes ≡ rest = ap (drop (4096 * n)) is ∙ drop_at done rest (4096 * n) size in
    let s : 4096 * (n + 1) ≡ 4096 * n + 4096 = omega arith in
    let behind : drop (4096 * (n + 1)) bytes ≡ drop (4096 * (n + 1)) old =
    ap (λ m. drop m bytes) s ∙ drop_sum 4096 (4096 * n) bytes ∙ ap (drop 4096) back ∙ sym (drop_sum 4096 (4096 * n) old) ∙ ap (λ m. drop m old) (sym s) in
    put ∙ ap (λ l. l ++ (tagged 4080 n (block_at n bytes) ++ drop (4096 * (n + 1)) bytes)) front
    ∙ ap (λ l. done ++ (tagged 4080 n (take 4096 l) ++ drop (4096 * (n + 1)) bytes)) back
    ∙ ap (λ l. done ++ (tagged 4080 n (block_at n old) ++ l)) behind
    ∙ sym (append_assoc done (tagged 4080 n (block_at n old)) (drop (4096 * (n + 1)) old))
    ∙ ap (λ m. (done ++ tagged 4080 m (block_at n old)) ++ drop (4096 * (n + 1)) old) (let z : n ≡ 0 + n = omega arith in z)
    ∙ ap (λ l. l ++ drop (4096 * (n + 1)) old) (sym (one_more 4080 0 n old))
  where
    drop_sum : (k a : ℕ) (xs : List ℕ) → drop (a + k) xs ≡ drop k (drop a xs)
    drop_sum k a xs = sym (drop-drop k a xs)

    one_more : (p m n : ℕ) (xs : List ℕ) → all_tagged p m (n + 1) xs ≡ all_tagged p m n xs ++ tagged p (m + n) (block_at n xs)
    one_more p m zero xs = let z : m ≡ m + 0 = omega arith in append-nil (tagged p m (take 4096 xs)) ∙ ap (λ k. tagged p k (take 4096 xs)) z
    one_more p m (suc n) xs =
        let s : suc m + n ≡ m + suc n = omega arith in
        let t : 4096 * suc n ≡ 4096 + 4096 * n = omega arith in
        let u : suc n + 1 ≡ suc (n + 1) = omega arith in
        ap (λ k. all_tagged p m k xs) u
        ∙ ap (λ l. tagged p m (take 4096 xs) ++ l) (one_more p (suc m) n (drop 4096 xs))
        ∙ sym (append_assoc (tagged p m (take 4096 xs)) (all_tagged p (suc m) n (drop 4096 xs)) (tagged p (suc m + n) (block_at n (drop 4096 xs))))
        ∙ ap (λ k. (tagged p m (take 4096 xs) ++ all_tagged p (suc m) n (drop 4096 xs)) ++ tagged p k (block_at n (drop 4096 xs))) s
        ∙ ap (λ l. (tagged p m (take 4096 xs) ++ all_tagged p (suc m) n (drop 4096 xs)) ++ tagged p (m + suc n) (take 4096 l)) (drop-drop (4096 * n) 4096 xs ∙ ap (λ k. drop k xs) (sym t))
