-- An area of a file: where its bytes stand among the payloads, and its blocks among the blocks.
use Rattle.std.proofs.Common.{◌≡◌, ℕ, zero, suc, ◌+◌, ◌-◌, ◌*◌, ◌/◌, ◌<◌, ◌≤◌, inl, inr, ◌++◌, List, [], length, take, drop, refl, sym, ap, ◌∙◌, arith, append_assoc, append-nil, take-add, length-append, length-take, length-drop}
use Rattle.std.proofs.lemmas.List.{take_at, drop_at, drop-drop, take-take}
use Rattle.sage_outside.specs.Blocks.{block_at}
use Rattle.sage_outside.specs.Parts.{IsPayload}
use Rattle.sage_outside.specs.Areas.{payloads}
use Rattle.btree_build.specs.Trees.{blocks_for}
use Rattle.store_image.specs.Format.{padded}
use Rattle.store_image.proofs.Padding.{payload_small, room_for, length_padded, take_padded}
use Rattle.store_image.proofs.Payloads.{block_after, block_within}

module _ (p : ℕ) (payload : IsPayload p) where
  times_le : (a b : ℕ) → p * a ≤ p * b → a ≤ b
  times_le a b h = elim payload.one [ inl e ↦ let i = rw e at h in omega (arith, i) | inr e ↦ let i = rw e at h in omega (arith, i) ]

  times_plus : (a b : ℕ) → p * (a + b) ≡ p * a + p * b
  times_plus a b = grind arith

  times_more : (n : ℕ) → p * suc n ≡ p + p * n
  times_more n = grind arith

  -- the bytes begin with that payload, and have it to the end of their last payload
  pub record Begins (first : ℕ) (bytes all : List ℕ) : Type 0 where
    pub before : List ℕ
    pub behind : List ℕ
    pub is : all ≡ before ++ (padded p bytes ++ behind)
    pub long : length before ≡ p * first

  pub at_first : (bytes behind : List ℕ) → Begins 0 bytes (padded p bytes ++ behind)
  at_first bytes behind = record { before = []; behind = behind; is = refl; long = grind arith }

  pub at_end : (bytes : List ℕ) → Begins 0 bytes (padded p bytes)
  at_end bytes = record { before = []; behind = []; is = sym (append-nil (padded p bytes)); long = grind arith }

  pub behind_other : (first : ℕ) (bytes other all : List ℕ) → Begins first bytes all → Begins (blocks_for p (length other) + first) bytes (padded p other ++ all)
  behind_other first bytes other all b = record {
    before = padded p other ++ b.before;
    behind = b.behind;
    is = ap (λ l. padded p other ++ l) b.is ∙ sym (append_assoc (padded p other) b.before (padded p bytes ++ b.behind));
    long = omega (arith, length-append (padded p other) b.before, length_padded p payload other, b.long, times_plus (blocks_for p (length other)) first);
  }

  -- blocks with the payloads of some bytes have these bytes
  payload_front : (j m : ℕ) (xs bytes : List ℕ) → j ≤ m → 4096 * j ≤ length xs → p * j ≤ length bytes
      → ((b : ℕ) → b < j → take p (block_at b xs) ≡ take p (drop (p * b) bytes)) → take (p * j) (payloads p m xs) ≡ take (p * j) bytes
  payload_front zero m xs bytes le long enough same =
      let z : p * 0 ≡ 0 = grind arith in
      ap (λ n. take n (payloads p m xs)) z ∙ sym (ap (λ n. take n bytes) z)
  payload_front (suc j) zero xs bytes le long enough same = absurd (omega arith)
  payload_front (suc j) (suc m) xs bytes le long enough same =
      let back = payloads p m (drop 4096 xs) in
      let front = take p xs in
      let one : length front ≡ p = omega (arith, length-take p xs, payload_small p payload) in
      let z : p * 0 ≡ 0 = grind arith in
      let here : front ≡ take p bytes = sym (take-take p 4096 xs (payload_small p payload)) ∙ same 0 (omega arith) ∙ ap (λ n. take p (drop n bytes)) z in
      let next : (b : ℕ) → b < j → take p (block_at b (drop 4096 xs)) ≡ take p (drop (p * b) (drop p bytes)) =
      λ b lt. ap (take p) (ap (take 4096) (drop-drop (4096 * b) 4096 xs ∙ ap (λ n. drop n xs) (omega arith)))
      ∙ same (suc b) (omega arith) ∙ ap (take p) (ap (λ n. drop n bytes) (times_more b) ∙ sym (drop-drop (p * b) p bytes)) in
      let rest = payload_front j m (drop 4096 xs) (drop p bytes) (omega arith) (omega (arith, length-drop 4096 xs)) (omega (arith, times_more j, length-drop p bytes)) next in
      ap (λ n. take n (front ++ back)) (times_more j) ∙ take-add p (p * j) (front ++ back)
      ∙ ap (λ l. l ++ take (p * j) (drop p (front ++ back))) (take_at front back p one) ∙ ap (λ l. front ++ take (p * j) l) (drop_at front back p one)
      ∙ ap (λ l. front ++ l) rest ∙ ap (λ l. l ++ take (p * j) (drop p bytes)) here ∙ sym (take-add p (p * j) bytes) ∙ ap (λ n. take n bytes) (sym (times_more j))

  -- so many bytes that begin with payload `first` are read in the area that begins with that block
  pub area_begins : (first k : ℕ) (bytes all image : List ℕ) → Begins first bytes all → length all ≡ p * k → 4096 * k ≤ length image
      → ((b : ℕ) → b < k → take p (block_at b image) ≡ take p (drop (p * b) all))
      → take (length bytes) (payloads p (length image / 4096 - first) (drop (4096 * first) image)) ≡ bytes
  area_begins first k bytes all image begins long whole same =
      let j = blocks_for p (length bytes) in
      let m = length image / 4096 - first in
      let rest = padded p bytes ++ begins.behind in
      let xs = drop (4096 * first) image in
      let from : drop (p * first) all ≡ rest = ap (drop (p * first)) begins.is ∙ drop_at begins.before rest (p * first) begins.long in
      let length_rest : length rest ≡ p * j + length begins.behind = omega (arith, length-append (padded p bytes) begins.behind, length_padded p payload bytes) in
      let within : first + j ≤ k = times_le (first + j) k (omega (arith, times_plus first j, long, ap length begins.is, length-append begins.before rest, begins.long, length_rest)) in
      let here : (b : ℕ) → b < j → take p (block_at b xs) ≡ take p (drop (p * b) rest) =
      λ b lt. ap (take p) (ap (take 4096) (drop-drop (4096 * b) (4096 * first) image ∙ ap (λ n. drop n image) (omega arith)))
      ∙ same (first + b) (omega arith)
      ∙ ap (take p) (ap (λ n. drop n all) (times_plus first b) ∙ sym (drop-drop (p * b) (p * first) all) ∙ ap (drop (p * b)) from) in
      let front = payload_front j m xs rest (omega arith) (omega (arith, length-drop (4096 * first) image)) (omega (arith, length_rest)) here in
      let short : length bytes ≤ p * j = room_for p payload (length bytes) in
      sym (take-take (length bytes) (p * j) (payloads p m xs) short) ∙ ap (take (length bytes)) front ∙ take-take (length bytes) (p * j) rest short ∙ take_padded p payload bytes begins.behind

-- block b of whole blocks that stand between others
pub block_between : (n m b : ℕ) (front blocks behind : List ℕ) → length front ≡ 4096 * n → length blocks ≡ 4096 * m → b < m → block_at (n + b) (front ++ (blocks ++ behind)) ≡ block_at b blocks
block_between n m b front blocks behind long whole lt = block_after n b front (blocks ++ behind) long ∙ block_within m b blocks behind whole lt

-- two pieces behind a list
then_put : (old mid new a b : List ℕ) → mid ≡ old ++ a → new ≡ mid ++ b → new ≡ old ++ (a ++ b)
then_put old mid new a b first second = second ∙ ap (λ l. l ++ b) first ∙ append_assoc old a b

-- three pieces, one behind the other
pub three_put : (o0 o1 o2 o3 a0 a1 a2 : List ℕ) → o1 ≡ o0 ++ a0 → o2 ≡ o1 ++ a1 → o3 ≡ o2 ++ a2 → o3 ≡ o0 ++ (a0 ++ (a1 ++ a2))
three_put o0 o1 o2 o3 a0 a1 a2 e0 e1 e2 = then_put o0 o1 o3 a0 (a1 ++ a2) e0 (then_put o1 o2 o3 a1 a2 e1 e2)

-- six pieces
pub six_put : (o0 o1 o2 o3 o4 o5 o6 a0 a1 a2 a3 a4 a5 : List ℕ) → o1 ≡ o0 ++ a0 → o2 ≡ o1 ++ a1 → o3 ≡ o2 ++ a2 → o4 ≡ o3 ++ a3 → o5 ≡ o4 ++ a4 → o6 ≡ o5 ++ a5
    → o6 ≡ o0 ++ (a0 ++ (a1 ++ (a2 ++ (a3 ++ (a4 ++ a5)))))
six_put o0 o1 o2 o3 o4 o5 o6 a0 a1 a2 a3 a4 a5 e0 e1 e2 e3 e4 e5 =
    three_put o0 o1 o2 o6 a0 a1 (a2 ++ (a3 ++ (a4 ++ a5))) e0 e1 (then_put o2 o3 o6 a2 (a3 ++ (a4 ++ a5)) e2 (three_put o3 o4 o5 o6 a3 a4 a5 e3 e4 e5))
