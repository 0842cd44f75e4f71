-- How many bytes the parts of an image take, and how many terms and triples there are.
use Rattle.std.proofs.Common.{◌≡◌, ℕ, zero, suc, ◌+◌, ◌-◌, ◌*◌, ◌/◌, ◌<◌, ◌≤◌, ◌++◌, List, [], ◌∷◌, length, map, take, drop, replicate, get_or, refl, sym, ap, ◌∙◌, subst, ⊎_elim, inl, inr, Bool, true, false, arith, length-append, length-take}
use Rattle.std.specs.Prelude.{flat_map, nat_lt, if◌then◌else◌}
use Rattle.std.specs.Int.{w64, to_be_bytes}
use Rattle.term_core.specs.declared.term.Term.{Term}
use Rattle.term_core.specs.declared.term.Triple.{Triple}
use Rattle.term_core.specs.declared.pattern.IdTriple.{IdTriple}
use Rattle.term_core.specs.Order.{term_cmp, size_of}
use Rattle.term_core.specs.OrderLaws.{terms_total}
use Rattle.term_core.specs.Bags.{In}
use Rattle.std.proofs.lemmas.List.{take_more, flat_map_more, length-replicate}
use Rattle.term_core.proofs.Bags.{In-append_cases, In-flat_map, from_In-flat_map}
use Rattle.term_core.specs.Data.{parts}
use Rattle.term_core.specs.Index.{by_subject, triple_cmp, in_order}
use Rattle.term_core.proofs.Orders.{AreDistinct-ordered}
use Rattle.term_core.proofs.Ranges.{index_total, listing_is}
use Rattle.term_dict.specs.Records.{record_of}
use Rattle.term_dict.specs.Built.{records_of, places_from, longest_of, AreShort}
use Rattle.term_core.proofs.Ranked.{In-slice_get, slice_get-In}
use Rattle.term_dict.proofs.Steps.{record_short}
use Rattle.sage_outside.specs.Parts.{IsPayload}
use Rattle.btree_build.specs.Trees.{blocks_for, entry_bytes, list_bytes, block_bytes, level_bytes, level_of, above, tree_bytes}
use Rattle.btree_scan.proofs.Written.{length_above}
use Rattle.store_image.specs.Header.{tree_blocks}
use Rattle.store_image.proofs.Padding.{level_few}
use Rattle.store_image.specs.Table.{decode, IsTable}
use Rattle.store_image.proofs.TableLists.{length-mapped, In-get_or}
use Rattle.store_image.proofs.TableSlots.{length-parts}
use Rattle.store_image.proofs.Keys.{distinct_fewer}

length_entry : (e : IdTriple) → length (entry_bytes e) ≡ 12
unfolding entry_bytes
length_entry e = refl

length_list : (es : List IdTriple) → length (list_bytes es) ≡ 12 * length es
length_list [] = refl
length_list (e ∷ es) = length-append (entry_bytes e) (list_bytes es) ∙ omega (arith, length_entry e, length_list es)

length_block : (es : List IdTriple) → 12 * length es ≤ 4096 → length (block_bytes es) ≡ 4096
unfolding block_bytes
length_block es few = length-append (list_bytes es) (replicate (4096 - 12 * length es) 0) ∙ omega (arith, length_list es, length-replicate {A = ℕ} (4096 - 12 * length es) 0)

length_level : (per m : ℕ) (es : List IdTriple) → 12 * per ≤ 4096 → length (level_bytes per m es) ≡ 4096 * m
length_level per zero es narrow = refl
length_level per (suc m) es narrow =
    length-append (block_bytes (take per es)) (level_bytes per m (drop per es))
    ∙ omega (arith, length_block (take per es) (omega (arith, length-take per es)), length_level per m (drop per es) narrow)

-- the bytes of a tree are those of its blocks
pub length_tree : (p levels : ℕ) (es : List IdTriple) → IsPayload p → length (tree_bytes (p / 12) levels es) ≡ 4096 * tree_blocks (p / 12) levels (length es)
unfolding tree_blocks
length_tree p zero es payload = refl
length_tree p (suc levels) es payload =
    let per = p / 12 in
    let n = blocks_for per (length es) in
    let ups = above per es in
    let narrow : 12 * per ≤ 4096 = elim payload.one [ inl e ↦ rw e (omega arith) | inr e ↦ rw e (omega arith) ] in
    let size : length ups ≡ n = length_above p es payload in
    let rest = tree_bytes per levels ups in
    let more : length rest ≡ 4096 * tree_blocks per levels n = length_tree p levels ups payload ∙ ap (λ m. 4096 * tree_blocks per levels m) size in
    let upper : length (if nat_lt 1 (length ups) then rest else []) ≡ 4096 * (if nat_lt 1 n then tree_blocks per levels n else 0) =
    ap (λ m. length (if nat_lt 1 m then rest else [])) size ∙ either (nat_lt 1 n) rest (tree_blocks per levels n) more in
    length-append (level_of per es) (if nat_lt 1 (length ups) then rest else []) ∙ omega (arith, length_level per n es narrow, upper)
  where
    either : (b : Bool) (xs : List ℕ) (n : ℕ) → length xs ≡ 4096 * n → length (if b then xs else []) ≡ 4096 * (if b then n else 0)
    either true xs n e = e
    either false xs n e = refl

-- a tree of three levels has few blocks
pub tree_few : (p n : ℕ) → IsPayload p → tree_blocks (p / 12) 3 n ≤ 3 * n
unfolding tree_blocks
tree_few p n payload =
    let per = p / 12 in
    let one = blocks_for per n in
    let two = blocks_for per one in
    let three = blocks_for per two in
    let top : (if nat_lt 1 three then 0 else 0) ≤ 0 = at_most (nat_lt 1 three) 0 0 (omega arith) in
    let middle : (if nat_lt 1 two then tree_blocks per 1 two else 0) ≤ n = at_most (nat_lt 1 two) (tree_blocks per 1 two) n (omega (arith, top, level_few p n payload, level_few p one payload, level_few p two payload)) in
    let low : (if nat_lt 1 one then tree_blocks per 2 one else 0) ≤ 2 * n = at_most (nat_lt 1 one) (tree_blocks per 2 one) (2 * n) (omega (arith, middle, level_few p n payload, level_few p one payload)) in
    omega (arith, low, level_few p n payload)
  where
    at_most : (b : Bool) (n m : ℕ) → n ≤ m → (if b then n else 0) ≤ m
    at_most true n m le = le
    at_most false n m le = omega arith

pub length_places : (n : ℕ) (ts : List Term) → length (flat_map (to_be_bytes w64) (places_from n ts)) ≡ 8 * (length ts + 1)
length_places n [] = refl
length_places n (t ∷ ts) =
    let rest = flat_map (to_be_bytes w64) (places_from (n + length (record_of t)) ts) in
    let eight : length (to_be_bytes w64 n) ≡ 8 = refl in
    length-append (to_be_bytes w64 n) rest ∙ omega (arith, eight, length_places (n + length (record_of t)) ts)

-- terms within their limit have short records
pub records_short : (ts : List Term) → ((t : Term) → In ts t → size_of t ≤ 262144) → length (records_of ts) ≤ length ts * 262153
records_short [] short = omega arith
records_short (t ∷ ts) short =
    omega (arith, length-append (record_of t) (records_of ts), record_short t (short t (inl refl)), records_short ts (λ u i. short u (inr i)))

pub longest_short : (ts : List Term) → ((t : Term) → In ts t → size_of t ≤ 262144) → longest_of ts ≤ 262153
longest_short [] short = omega arith
longest_short (t ∷ ts) short = omega (arith, record_short t (short t (inl refl)), longest_short ts (λ u i. short u (inr i)))

-- the limit of each, by membership and by place
pub short_members : (ts : List Term) → AreShort ts → (t : Term) → In ts t → size_of t ≤ 262144
short_members ts short t i = let at = slice_get-In ts t i in short at.0 t at.1

pub short_places : (ts : List Term) → ((t : Term) → In ts t → size_of t ≤ 262144) → AreShort ts
short_places ts short k t at = short t (In-slice_get ts k t at)

-- a number of 64 bits counts the bytes of all records
pub extent_small : (ts us : List Term) (n : ℕ) → ts ≡ us → AreShort us → length us ≤ 12582909 → n ≡ length (records_of ts) → n ≤ 12582909 * 262153
extent_small ts us n same short few is = omega (arith, ap (λ l. length (records_of l)) same, records_short us (short_members us short))

module _ (L : List Triple) (terms : List Term) (ids : List IdTriple) (table : IsTable L terms ids) where
  listed : length ids ≡ length (in_order (triple_cmp by_subject) L)
  listed = sym (length-mapped (decode terms) ids) ∙ ap length table.listing

  -- there are no more triples than the list has
  pub no_more : length ids ≤ length L
  no_more =
      let own = (listing_is by_subject L).is in
      omega (arith, listed, distinct_fewer (in_order (triple_cmp by_subject) L) L (AreDistinct-ordered (triple_cmp by_subject) (index_total by_subject) (in_order (triple_cmp by_subject) L) own.ordered) own.same.to)

  -- each triple names three terms at most
  pub three_each : length terms ≤ 3 * length ids
  three_each =
      let all = map (decode terms) ids in
      omega (
        arith,
        length-mapped (decode terms) ids,
        length-parts all,
        distinct_fewer terms (flat_map parts all) (AreDistinct-ordered term_cmp terms_total terms table.rising)
            (λ t i. let r = from_In-flat_map parts L t (table.to t i) in
            In-flat_map parts all r.0 t (subst (λ l. In l r.0) (sym table.listing) ((listing_is by_subject L).is.same.from r.0 r.1)) r.2),
      )

-- terms within the limit, with those of one more triple
pub terms_more : (P : Term → Type 0) (L : List Triple) (i : ℕ) (x : Triple) → i < length L → x ≡ get_or L i x → ((t : Term) → In (parts x) t → P t)
    → ((t : Term) → In (flat_map parts (take i L)) t → P t) → (t : Term) → In (flat_map parts (take (i + 1) L)) t → P t
terms_more P L i x lt is here before t m =
    let more : take (i + 1) L ≡ take i L ++ x ∷ [] = take_more L i x lt ∙ ap (λ y. take i L ++ y ∷ []) (sym is) in
    let all : flat_map parts (take (i + 1) L) ≡ flat_map parts (take i L) ++ parts x = ap (flat_map parts) more ∙ sym (flat_map_more parts [] (take i L) x) in
    ⊎_elim (before t) (here t) (In-append_cases (flat_map parts (take i L)) (parts x) t (subst (λ l. In l t) all m))

-- the terms of a triple are among those of the list
pub terms_of_one : (L : List Triple) (i : ℕ) (x : Triple) → i < length L → x ≡ get_or L i x → (t : Term) → In (parts x) t → In (flat_map parts L) t
terms_of_one L i x lt is t m = In-flat_map parts L x t (subst (In L) (sym is) (In-get_or L i x lt)) m
