-- The image of the data holds the data.
use Rattle.std.proofs.Common.{◌≡◌, ℕ, zero, suc, ◌+◌, ◌-◌, ◌*◌, ◌/◌, ◌%◌, ◌^◌, ◌<◌, ◌≤◌, ◌++◌, List, [], length, take, drop, true, refl, sym, ap, ◌∙◌, subst, inl, inr, arith, append_assoc, append-nil, length-append, length-take, length-drop}
use Rattle.std.specs.Prelude.{flat_map, All}
use Rattle.std.proofs.lemmas.List.{take_at, take-take}
use Rattle.sha2.proofs.Facts256.{length-sha256}
use Rattle.term_core.specs.declared.term.Term.{Term}
use Rattle.term_core.specs.declared.term.Triple.{Triple}
use Rattle.term_core.specs.declared.pattern.IdTriple.{IdTriple}
use Rattle.term_core.specs.Order.{size_of, IsAllowed}
use Rattle.term_core.specs.Spelling.{AreSpelled}
use Rattle.term_core.specs.Bags.{In}
use Rattle.term_core.specs.Data.{parts, data_id}
use Rattle.term_core.specs.Index.{Index, by_subject, by_predicate, by_object}
use Rattle.term_core.proofs.Ranked.{In-slice_get}
use Rattle.sage_outside.specs.Blocks.{block_at}
use Rattle.sage_outside.specs.Parts.{IsPayload, is_sound}
use Rattle.term_dict.specs.Built.{records_of, AreTexts, IsLaidOut}
use Rattle.term_dict.proofs.Layouts.{laid_out_holds, longest_is}
use Rattle.btree_build.specs.Trees.{blocks_for, tree_bytes}
use Rattle.btree_scan.specs.declared.tree.Tree.{Tree}
use Rattle.btree_scan.specs.Levels.{Lists}
use Rattle.btree_scan.specs.Written.{AreIds, AreBlocksOf, IsTreeIn}
use Rattle.btree_scan.proofs.Written.{lists_from_written}
use Rattle.btree_scan.proofs.Bytes.{written_from_tree}
use Rattle.sage_outside.specs.Areas.{payloads}
use Rattle.store_image.specs.Format.{IsFormat, payload_of, padded, spread, tagged, all_tagged}
use Rattle.store_image.specs.Table.{IsBelow, IsTable}
use Rattle.store_image.specs.Keys.{index_numbered, ids_of_key, keys_by}
use Rattle.store_image.specs.declared.header.Header.{Header}
use Rattle.store_image.specs.Header.{place_blocks, tree_blocks, fixed_blocks, dict_of, tree_of, IsHeader, AreWithinFile, header_bytes}
use Rattle.store_image.specs.Image.{place_bytes, header_of, front_bytes, tree_in, areas, store_bytes}
use Rattle.store_image.specs.Holds.{Holds}
use Rattle.store_image.proofs.Keys.{sorted-keys_by, from_In-keys_by, length-keys_by}
use Rattle.store_image.proofs.Padding.{payload_is, payload_small, length_padded, take_padded, room_for, times_over, times_small, blocks_few}
use Rattle.store_image.proofs.Payloads.{length_spread, block_spread, block_within, block_tagged, length_all_tagged, sound_tagged, payload_tagged}
use Rattle.store_image.proofs.Areas.{Begins, at_first, at_end, behind_other, area_begins, block_between}
use Rattle.store_image.proofs.Sizes.{length_places, length_tree, tree_few, records_short, longest_short, no_more, three_each}
use Rattle.store_image.proofs.Headers.{length_header, header_back}

-- the numbers of a key are those of its triple
key_small : (x : Index) (n : ℕ) (key : IdTriple) → n < 2 ^ 32 → IsBelow n (ids_of_key x key) → AreIds key
key_small by_subject n key few b = record { s = omega (arith, b.s); p = omega (arith, b.p); o = omega (arith, b.o) }
key_small by_predicate n key few b = record { s = omega (arith, b.p); p = omega (arith, b.o); o = omega (arith, b.s) }
key_small by_object n key few b = record { s = omega (arith, b.o); p = omega (arith, b.s); o = omega (arith, b.p) }

-- the header's bytes begin one payload
header_block : (p : ℕ) → IsPayload p → blocks_for p 56 ≡ 1
unfolding blocks_for
header_block p payload = elim payload.one [ inl e ↦ rw e refl | inr e ↦ rw e refl ]

times_three : (p a b c : ℕ) → p * a + (p * b + p * c) ≡ p * (a + (b + c))
times_three p a b c = grind arith

long_at : (n m : ℕ) (xs : List ℕ) → length xs ≡ 4096 * m → n < m → length (block_at n xs) ≡ 4096
long_at n m xs long lt = omega (arith, length-take 4096 (drop (4096 * n) xs), length-drop (4096 * n) xs)

-- a file of whole blocks with their tags
module _ (format blocks : ℕ) (all : List ℕ) (whole : length all ≡ 4096 * blocks) where
  abbrev file : List ℕ
  file = all_tagged (payload_of format) 0 blocks all

  block_is_sound : (n : ℕ) → n < blocks → is_sound (payload_of format) n (block_at n file) ≡ true
  block_is_sound n lt =
      ap (is_sound (payload_of format) n) (block_tagged (payload_of format) 0 blocks n all whole lt ∙ ap (λ m. all_of_number m) zero_more)
      ∙ sound_tagged n (block_at n all) (long_at n blocks all whole lt) (payload_of format) (payload_is format)
    where
      all_of_number : ℕ → List ℕ
      all_of_number m = tagged (payload_of format) m (block_at n all)

      zero_more : 0 + n ≡ n
      zero_more = omega arith

  block_payload : (n : ℕ) → n < blocks → take (payload_of format) (block_at n file) ≡ take (payload_of format) (block_at n all)
  block_payload n lt =
      ap (take (payload_of format)) (block_tagged (payload_of format) 0 blocks n all whole lt)
      ∙ payload_tagged (0 + n) (block_at n all) (long_at n blocks all whole lt) (payload_of format) (payload_is format)

module _ (L : List Triple) (format : ℕ) (of_format : IsFormat format) (terms : List Term) (ids : List IdTriple) (table : IsTable L terms ids) (few : length L ≤ 4194303)
    (allowed : All IsAllowed L) (spelled : All AreSpelled L)
    (short : (t : Term) → In (flat_map parts L) t → size_of t ≤ 262144) where
  abbrev h : Header
  h = header_of format terms ids (data_id L)

  abbrev p : ℕ
  p = payload_of format

  payload : IsPayload p
  payload = payload_is format

  abbrev keys : Index → List IdTriple
  keys x = keys_by x ids

  abbrev tree : Index → List ℕ
  tree x = tree_in p (keys x)

  -- the payloads of the first three areas, and their number
  abbrev front : List ℕ
  front = front_bytes h terms

  abbrev k : ℕ
  k = 1 + (place_blocks p (length terms) + blocks_for p (length (records_of terms)))

  -- the blocks of a tree
  abbrev m : ℕ
  m = tree_blocks (p / 12) 3 (length ids)

  abbrev all : List ℕ
  all = areas h terms ids

  abbrev image : List ℕ
  image = store_bytes format terms ids (data_id L)

  named : length h.data_id ≡ 32
  named = length-sha256 _

  term_short : (t : Term) → In terms t → size_of t ≤ 262144
  term_short t i = short t (table.to t i)

  few_ids : length ids ≤ 4194303
  few_ids = omega (arith, no_more L terms ids table)

  pub few_blocks : h.blocks < 2 ^ 32
  few_blocks = omega (
    arith,
    few_ids,
    table.few,
    records_short terms term_short,
    blocks_few p (length (records_of terms)) payload,
    blocks_few p (8 * (length terms + 1)) payload,
    tree_few p (length ids) payload,
  )

  long_places : length (place_bytes terms) ≡ 8 * (length terms + 1)
  long_places = length_places 0 terms

  -- how many payloads each area has
  header_one : blocks_for p (length (header_bytes h)) ≡ 1
  header_one = ap (blocks_for p) (length_header h named) ∙ header_block p payload

  places_many : blocks_for p (length (place_bytes terms)) ≡ place_blocks p (length terms)
  places_many = ap (blocks_for p) long_places

  long_front : length front ≡ p * k
  long_front =
      let head = padded p (header_bytes h) in
      let places = padded p (place_bytes terms) in
      let records = padded p (records_of terms) in
      length-append head (places ++ records)
      ∙ ap (λ n. n + length (places ++ records)) (length_padded p payload (header_bytes h) ∙ ap (λ n. p * n) header_one)
      ∙ ap (λ n. p * 1 + n) (length-append places records
      ∙ ap (λ n. n + length records) (length_padded p payload (place_bytes terms) ∙ ap (λ n. p * n) places_many)
      ∙ ap (λ n. p * place_blocks p (length terms) + n) (length_padded p payload (records_of terms)))
      ∙ times_three p 1 (place_blocks p (length terms)) (blocks_for p (length (records_of terms)))

  front_count : length front / p ≡ k
  front_count = ap (λ n. n / p) long_front ∙ times_over p payload k

  -- where the areas begin
  places_begin : Begins p payload 1 (place_bytes terms) front
  places_begin = subst (λ n. Begins p payload n (place_bytes terms) front) (omega (arith, header_one))
      (behind_other p payload 0 (place_bytes terms) (header_bytes h) _ (at_first p payload (place_bytes terms) _))

  records_begin : Begins p payload (1 + place_blocks p (length terms)) (records_of terms) front
  records_begin = subst (λ n. Begins p payload n (records_of terms) front) (omega (arith, header_one, places_many))
      (behind_other p payload _ (records_of terms) (header_bytes h) _ (behind_other p payload 0 (records_of terms) (place_bytes terms) _ (at_end p payload (records_of terms))))

  -- the blocks of the first three areas
  abbrev front_blocks : List ℕ
  front_blocks = spread p (length front / p) front

  long_front_blocks : length front_blocks ≡ 4096 * k
  long_front_blocks = length_spread p payload (length front / p) front (omega (arith, long_front, ap (λ n. p * n) front_count)) ∙ ap (λ n. 4096 * n) front_count

  long_tree : (x : Index) → length (tree x) ≡ 4096 * m
  unfolding tree_in
  long_tree x = length_tree p 3 (keys x) payload ∙ ap (λ n. 4096 * tree_blocks (p / 12) 3 n) (length-keys_by x ids table.ordered)

  blocks_are : h.blocks ≡ k + 3 * m
  blocks_are = omega arith

  pub whole : length all ≡ 4096 * h.blocks
  whole = omega (
    arith,
    length-append front_blocks (tree by_subject ++ (tree by_predicate ++ tree by_object)),
    length-append (tree by_subject) (tree by_predicate ++ tree by_object),
    length-append (tree by_predicate) (tree by_object),
    long_front_blocks,
    long_tree by_subject,
    long_tree by_predicate,
    long_tree by_object,
  )

  image_long : length image ≡ 4096 * h.blocks
  image_long = length_all_tagged p 0 h.blocks all whole

  sound : (n : ℕ) → n < h.blocks → is_sound p n (block_at n image) ≡ true
  sound n lt = block_is_sound format h.blocks all whole n lt

  -- block b has payload b
  front_payload : (b : ℕ) → b < k → take p (block_at b image) ≡ take p (drop (p * b) front)
  front_payload b lt =
      block_payload format h.blocks all whole b (omega arith)
      ∙ block_spread p payload (length front / p) b front _ (omega (arith, long_front, ap (λ n. p * n) front_count)) (omega (arith, front_count))

  limits : AreWithinFile h h.blocks
  limits = record {
    counted = refl;
    few = few_ids;
    named = three_each L terms ids table;
    short = longest_short terms term_short;
    room = omega arith;
  }

  first_front : take 56 (block_at 0 image) ≡ header_bytes h
  first_front =
      let z : p * 0 ≡ 0 = grind arith in
      let le : 56 ≤ p = elim payload.one [ inl e ↦ rw e (omega arith) | inr e ↦ rw e (omega arith) ] in
      sym (take-take 56 p (block_at 0 image) le) ∙ ap (take 56) (front_payload 0 (omega arith) ∙ ap (λ n. take p (drop n front)) z) ∙ take-take 56 p front le
      ∙ ap (λ n. take n front) (sym (length_header h named)) ∙ take_padded p payload (header_bytes h) _

  is_header : IsHeader (block_at 0 image) h.blocks h
  is_header = header_back h named (block_at 0 image) first_front of_format (sound 0 (omega arith)) few_blocks limits

  module _ (texts : AreTexts terms) where
    laid_out : IsLaidOut (dict_of h) terms image
    laid_out = record {
      sorted = table.rising;
      terms = refl;
      bytes = room_for_records;
      fits = fits;
      payload = payload;
      sound = λ n lt. sound n (omega (arith, image_long, lt));
      places = ap (λ n. take n (payloads p (length image / 4096 - 1) (drop (4096 * 1) image))) (sym long_places)
          ∙ area_begins p payload 1 k (place_bytes terms) front image places_begin long_front (omega (arith, image_long)) front_payload;
      records = area_begins p payload (1 + place_blocks p (length terms)) k (records_of terms) front image records_begin long_front (omega (arith, image_long)) front_payload;
      each = texts;
    }
      where
        spare : h.blocks - fixed_blocks p (length terms) (length ids) ≡ blocks_for p (length (records_of terms))
        spare = omega arith

        room_for_records : length (records_of terms) ≤ p * (h.blocks - fixed_blocks p (length terms) (length ids))
        room_for_records = subst (λ n. length (records_of terms) ≤ p * n) (sym spare) (room_for p payload (length (records_of terms)))

        fits : p * (h.blocks - fixed_blocks p (length terms) (length ids)) < 2 ^ 64
        fits = times_small p (h.blocks - fixed_blocks p (length terms) (length ids)) payload (omega (arith, few_blocks))

    -- a tree whose blocks stand there is read as the keys
    listed : (x : Index) (t : Tree) (before behind : List ℕ) → t.payload ≡ p → t.entries ≡ length ids → length before ≡ 4096 * t.first → all ≡ before ++ (tree x ++ behind)
        → t.first + m ≤ h.blocks → Lists t (keys x) image
    unfolding tree_in
    listed x t before behind of_payload entries long is within =
        lists_from_written t (keys x) image (written_from_tree t (keys x) image record {
          payload = subst IsPayload (sym of_payload) payload;
          few = omega (arith, few_ids, length-keys_by x ids table.ordered);
          entries = entries ∙ sym (length-keys_by x ids table.ordered);
          sorted = sorted-keys_by x ids;
          ids = λ k e at. key_small x (length terms) e (omega (arith, table.few)) (table.below (ids_of_key x e) (from_In-keys_by x ids e (In-slice_get (keys x) k e at)));
          blocks = subst (λ q. AreBlocksOf (record t { payload = q }) (tree_bytes (q / 12) 3 (keys x)) image) (sym of_payload) blocks_there;
        })
      where
        there : (b : ℕ) → b < m → take p (block_at (t.first + b) image) ≡ take p (block_at b (tree x))
        there b lt =
            block_payload format h.blocks all whole (t.first + b) (omega arith)
            ∙ ap (take p) (ap (block_at (t.first + b)) is ∙ block_between t.first m b before (tree x) behind long (long_tree x) lt)

        blocks_there : AreBlocksOf (record t { payload = p }) (tree x) image
        blocks_there = record { each = λ b lt. let inside : b < m = omega (arith, lt, long_tree x) in (sound (t.first + b) (omega arith), there b inside) }

    lists : (order : ℕ) → order ≤ 2 → Lists (tree_of h order) (keys_by (index_numbered order) ids) image
    lists zero le = listed by_subject (tree_of h 0) front_blocks (tree by_predicate ++ tree by_object) refl refl (omega (arith, long_front_blocks, blocks_are)) refl (omega (arith, blocks_are))
    lists (suc zero) le = listed by_predicate (tree_of h 1) (front_blocks ++ tree by_subject) (tree by_object) refl refl
        (length-append front_blocks (tree by_subject) ∙ omega (arith, long_front_blocks, long_tree by_subject, blocks_are))
        (sym (append_assoc front_blocks (tree by_subject) (tree by_predicate ++ tree by_object))) (omega (arith, blocks_are))
    lists (suc (suc zero)) le = listed by_object (tree_of h 2) ((front_blocks ++ tree by_subject) ++ tree by_predicate) [] refl refl
        (length-append (front_blocks ++ tree by_subject) (tree by_predicate)
        ∙ omega (arith, length-append front_blocks (tree by_subject), long_front_blocks, long_tree by_subject, long_tree by_predicate, blocks_are))
        (sym (append_assoc front_blocks (tree by_subject) (tree by_predicate ++ tree by_object))
        ∙ sym (append_assoc (front_blocks ++ tree by_subject) (tree by_predicate) (tree by_object))
        ∙ ap (λ l. ((front_blocks ++ tree by_subject) ++ tree by_predicate) ++ l) (sym (append-nil (tree by_object)))) (omega (arith, blocks_are))
    lists (suc (suc (suc n))) le = absurd (omega arith)

    pub image_holds : Holds L format image
    image_holds = record {
      header = h;
      terms = terms;
      ids = ids;
      allowed = allowed;
      spelled = spelled;
      short = short;
      table = table;
      few = few_blocks;
      whole = image_long;
      is_header = is_header;
      of_format = refl;
      term_count = refl;
      triple_count = refl;
      longest = refl;
      data_name = refl;
      shows = record {
        dictionary = laid_out_holds (dict_of h) terms image laid_out;
        below = table.below;
        lists = lists;
        longest = longest_is (dict_of h) terms image laid_out;
        sound = sound;
      };
    }
