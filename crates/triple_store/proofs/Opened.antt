-- Where the areas of an opened store stand, and what its lists hold.
use Rattle.std.proofs.Common.{◌*◌, ◌+◌, ◌-◌, ◌/◌, ◌^◌, ◌≡◌, ◌⊎◌, ℕ, zero, suc, ◌<◌, ◌≤◌, List, [], length, take, drop, length-take, length-drop, refl, sym, ap, subst, ◌∙◌, arith, get_or, map, inl, inr, Ok, Err, Some, None, Option, Bool, true, false}
use Rattle.std.specs.Prelude.{slice_get, Result, IfOk, IfErr, MatchResult, nat_le, nat_lt, if◌then◌else◌}
use Rattle.std.specs.List.Sorted.{IsStrictlySortedBy}
use Rattle.std.proofs.lemmas.Bool.Decides.{nat_tests}
use Rattle.std.proofs.lemmas.Option.{slice_get-get_or}
use Rattle.sage_outside.specs.Blocks.{Tells, HasBlock, block_at}
use Rattle.sage_outside.specs.Parts.{IsPayload, Reads, is_sound}
use Rattle.sage_outside.specs.declared.fault.ReadFault.{ReadFault}
use Rattle.sage_outside.specs.declared.fault.ReadFault.TheVariants as faults
use Rattle.sage_outside.specs.declared.fault.StoreFault.{StoreFault}
use Rattle.sage_outside.specs.declared.fault.StoreFault.TheVariants as store_faults
use Rattle.std.specs.Result.{IsErr, IsErrAnd}
use Rattle.term_core.specs.declared.term.Term.{Term}
use Rattle.term_core.specs.declared.term.Term.TheVariants.{Iri}
use Rattle.term_core.specs.declared.term.Triple.{Triple}
use Rattle.term_core.specs.declared.pattern.IdTriple.{IdTriple}
use Rattle.term_core.specs.Bags.{In}
use Rattle.term_core.proofs.Bags.{from_In-map}
use Rattle.term_core.specs.Ids.{id_cmp}
use Rattle.term_core.proofs.IdOrder.{ids_total}
use Rattle.term_core.specs.Index.{Index, by_subject, by_predicate, by_object}
use Rattle.term_core.proofs.Orders.{from_In-in_order}
use Rattle.term_dict.specs.declared.dict.Dict.{Dict}
use Rattle.term_dict.specs.Layout as dict
use Rattle.btree_scan.specs.declared.tree.Tree.{Tree}
use Rattle.btree_build.specs.Trees.{blocks_for}
use Rattle.btree_scan.specs.Levels.{Lies, Lists, key_at, size_at}
use Rattle.btree_scan.proofs.Three.{lies_from}
use Rattle.btree_scan.proofs.Written.{more_below, entry_block}
use Rattle.store_image.specs.Table.{IsBelow, AreBelow}
use Rattle.store_image.specs.Keys.{index_numbered, key_in, ids_of_key, keys_by}
use Rattle.store_image.proofs.Keys.{undone, redone}
use Rattle.store_image.proofs.TableLists.{In-get_or}
use Rattle.store_image.specs.declared.header.Header.{Header}
use Rattle.store_image.specs.Format.{payload_of}
use Rattle.store_image.specs.Header.{IsHeader, IsBroken, tree_blocks, place_blocks, fixed_blocks, dict_of, tree_of}
use Rattle.store_image.specs.Holds.{Shows, Holds}
use Rattle.store_image.proofs.Padding.{payload_is, room_for}
use Rattle.store_image.proofs.Headers.{header_alone, sound_from, length_mark}
use Rattle.triple_store.specs.declared.store.OpenFault.{OpenFault}
use Rattle.triple_store.specs.declared.store.OpenFault.TheVariants as open_faults
use Rattle.triple_store.specs.Stores.{View, IsOpened, IsKept, IsShown, IsStoreOf, IsNoStore, IsCause, IsOutside}
use Rattle.triple_store.specs.Entries.{leaf_of, named_key, named_from, stored_triple, HasWrongTag, HasBadRecord, HasBadEntry, IsDamaged}

not_le : (a b : ℕ) → b < a → nat_le a b ≡ false
not_le a b lt = grind (arith, nat_tests)

-- the blocks of the levels of a tree
pub record HasLevels (p entries all : ℕ) : Type 0 where
  pub low : blocks_for (p / 12) entries ≤ all
  pub middle : 1 < blocks_for (p / 12) entries → blocks_for (p / 12) entries + blocks_for (p / 12) (blocks_for (p / 12) entries) ≤ all
  pub top : 1 < blocks_for (p / 12) (blocks_for (p / 12) entries)
      → blocks_for (p / 12) entries + blocks_for (p / 12) (blocks_for (p / 12) entries) + blocks_for (p / 12) (blocks_for (p / 12) (blocks_for (p / 12) entries)) ≤ all

with_more : (n a b : ℕ) → 1 < n → (if nat_lt 1 n then a else b) ≡ a
with_more n a b lt = either (nat_lt 1 n) (let e : nat_lt 1 n ≡ true = grind (arith, nat_tests) in e)
  where
    either : (t : Bool) → t ≡ true → (if t then a else b) ≡ a
    either true e = refl
    either false e = cc

has_levels : (p entries : ℕ) → IsPayload p → HasLevels p entries (tree_blocks (p / 12) 3 entries)
unfolding tree_blocks
has_levels p entries payload =
    let per = p / 12 in
    let one = blocks_for per entries in
    let two = blocks_for per one in
    let three = blocks_for per two in
    let third = three + (if nat_lt 1 three then 0 else 0) in
    let second = two + (if nat_lt 1 two then third else 0) in
    let more : 1 < one → (if nat_lt 1 one then second else 0) ≡ second = λ lt. with_more one second 0 lt in
    let still_more : 1 < two → (if nat_lt 1 two then third else 0) ≡ third = λ lt. with_more two third 0 lt in
    record {
      low = omega arith;
      middle = λ lt. omega (arith, more lt);
      top = λ lt. omega (arith, more (more_below p one payload lt), still_more lt);
    }

-- a tree that ends within the blocks lies there
tree_lies : (h : Header) (count order : ℕ) → IsOpened h count → (tree_of h order).first + tree_blocks (payload_of h.format / 12) 3 h.triples ≤ count → Lies (tree_of h order) count
tree_lies h count order opened within =
    let tree = tree_of h order in
    let p = payload_of h.format in
    let payload = payload_is h.format in
    let levels = has_levels p h.triples payload in
    lies_from tree count (size_at tree 1) (size_at tree 2) (size_at tree 3) payload opened.within.few opened.fits refl refl refl
    (omega (arith, within, levels.low))
    (λ lt. omega (arith, within, levels.middle lt))
    (λ lt. omega (arith, within, levels.top lt))

-- each tree is within the blocks
pub list_lies : (h : Header) (count order : ℕ) → IsOpened h count → order ≤ 2 → Lies (tree_of h order) count
list_lies h count zero opened le = tree_lies h count 0 opened (omega (arith, opened.within.room, opened.within.counted))
list_lies h count (suc zero) opened le = tree_lies h count 1 opened (omega (arith, opened.within.room, opened.within.counted))
list_lies h count (suc (suc zero)) opened le = tree_lies h count 2 opened (omega (arith, opened.within.room, opened.within.counted))
list_lies h count (suc (suc (suc n))) opened le = absurd (omega arith)

places_lie : (p bytes blocks count : ℕ) → IsPayload p → bytes ≤ p * blocks → 1 + blocks ≤ count → 1 * p + bytes ≤ count * p
places_lie p bytes blocks count payload le within = elim payload.one [ inl e ↦ let i = rw e at le in rw e (omega (arith, i, within)) | inr e ↦ let i = rw e at le in rw e (omega (arith, i, within)) ]

records_lie : (p first spare count : ℕ) → IsPayload p → first + spare ≤ count → first * p + p * spare ≤ count * p
records_lie p first spare count payload within = elim payload.one [ inl e ↦ rw e (omega (arith, within)) | inr e ↦ rw e (omega (arith, within)) ]

-- the dictionary is within the blocks
pub dict_lies : (h : Header) (count : ℕ) → IsOpened h count → dict.DictLies (dict_of h) count
dict_lies h count opened =
    let p = payload_of h.format in
    let payload = payload_is h.format in
    record {
      payload = payload;
      places = places_lie p (8 * (h.terms + 1)) (place_blocks p h.terms) count payload (room_for p payload (8 * (h.terms + 1))) (omega (arith, opened.within.room, opened.within.counted));
      records = records_lie p (1 + place_blocks p h.terms) (h.blocks - fixed_blocks p h.terms h.triples) count payload (omega (arith, opened.within.room, opened.within.counted));
    }

-- the block of an entry is one of the file's
pub leaf_lies : (h : Header) (count order place : ℕ) → IsOpened h count → order ≤ 2 → place < h.triples → leaf_of (tree_of h order) place < 2 ^ 32
leaf_lies h count order place opened le lt =
    let tree = tree_of h order in
    let lies = list_lies h count order opened le in
    omega (arith, lies.within 0 tt, lies.counted, entry_block (payload_of h.format) h.triples place (payload_is h.format) lt)

-- the blocks of a store as they are seen tell what they tell
pub told_here : (store seen : View) (terms : List Term) (ids : List IdTriple) (shown : IsShown store terms ids) → seen ≡ store → Tells seen.device.image shown.image
told_here store seen terms ids shown e = subst (λ v. Tells v.device.image shown.image) (sym e) shown.told

-- a list of a store that shows triples has their keys
pub lists_here : (store seen : View) (terms : List Term) (ids : List IdTriple) (order : ℕ) (tree : Tree) (shown : IsShown store terms ids) → seen ≡ store → order ≤ 2
    → tree ≡ tree_of seen.header order → Lists tree (keys_by (index_numbered order) ids) shown.image
lists_here store seen terms ids order tree shown e le is =
    subst (λ t. Lists t (keys_by (index_numbered order) ids) shown.image) (ap (λ v. tree_of v.header order) (sym e) ∙ sym is) (shown.shows.lists order le)

-- the key of a triple whose ids are terms' is named
key_named : (order terms : ℕ) (tree : Tree) (place : ℕ) (key : IdTriple) → key.s < terms → key.p < terms → key.o < terms
    → named_key order terms tree place key ≡ Ok (ids_of_key (index_numbered order) key)
unfolding named_key
key_named order terms tree place key s p o = rw (not_le terms key.s s, not_le terms key.p p, not_le terms key.o o) refl

-- the keys of triples of terms are of terms
key_below : (x : Index) (count : ℕ) (ids : List IdTriple) (key : IdTriple) → AreBelow count ids → In (keys_by x ids) key → IsBelow count (ids_of_key x key)
unfolding keys_by
key_below x count ids key below i =
    let w = from_In-map (key_in x) ids key (from_In-in_order id_cmp ids_total (map (key_in x) ids) key i) in
    subst (IsBelow count) (sym (undone x w.0) ∙ ap (ids_of_key x) w.2) (below w.0 w.1)

parts_below : (x : Index) (count : ℕ) (key : IdTriple) → IsBelow count (ids_of_key x key) → (key.s < count) × (key.p < count) × (key.o < count)
parts_below by_subject count key b = (b.s, b.p, b.o)
parts_below by_predicate count key b = (b.p, b.o, b.s)
parts_below by_object count key b = (b.o, b.s, b.p)

-- at a place of a store that shows triples, a triple is read that has the key of the place
pub record IsRead (h : Header) (ids : List IdTriple) (order place : ℕ) (image : List ℕ) : Type 0 where
  pub triple : IdTriple
  pub read : stored_triple h order place image ≡ Ok triple
  pub at : slice_get (keys_by (index_numbered order) ids) place ≡ Some (key_in (index_numbered order) triple)

pub read_here : (h : Header) (terms : List Term) (ids : List IdTriple) (image : List ℕ) (order place : ℕ) → Shows h terms ids image → order ≤ 2 → place < h.triples
    → IsRead h ids order place image
read_here h terms ids image order place shows le lt =
    let x = index_numbered order in
    let es = keys_by x ids in
    let lists = shows.lists order le in
    let within : place < length es = omega (arith, lists.entries) in
    let key = get_or es place record { s = 0; p = 0; o = 0 } in
    let at : slice_get es place ≡ Some key = slice_get-get_or es place _ within in
    let is : key_at (tree_of h order) 0 place image ≡ Ok key = lists.each place key at in
    let below = parts_below x h.terms key (subst (λ n. IsBelow n (ids_of_key x key)) (sym shows.dictionary.terms) (key_below x (length terms) ids key shows.below (In-get_or es place _ within))) in
    record {
      triple = ids_of_key x key;
      read = ap (named_from order h.terms (tree_of h order) place) is ∙ key_named order h.terms (tree_of h order) place key below.0 below.1 below.2;
      at = at ∙ ap Some (sym (redone x key));
    }

same_read : (read : Result IdTriple ℕ) (a b : IdTriple) → read ≡ Ok a → read ≡ Ok b → a ≡ b
same_read read a b e f = cc

-- a call that reads such a place gives its triple
pub entry_found : (r : Result IdTriple ReadFault) (h : Header) (ids : List IdTriple) (order place : ℕ) (image : List ℕ) → IsRead h ids order place image
    → Reads (λ t. t) r (stored_triple h order place image) → IfOk r (λ t. slice_get (keys_by (index_numbered order) ids) place ≡ Some (key_in (index_numbered order) t))
entry_found (Ok t) h ids order place image is reads =
    is.at ∙ ap (λ u. Some (key_in (index_numbered order) u)) (same_read _ is.triple t is.read reads)
entry_found (Err fault) h ids order place image is reads = tt

-- and no damage
pub entry_whole : (r : Result IdTriple ReadFault) (h : Header) (ids : List IdTriple) (order place : ℕ) (image : List ℕ) (block : ℕ) → IsRead h ids order place image
    → Reads (λ t. t) r (stored_triple h order place image) → r ≡ Err (faults.Damaged block) → ⊥
entry_whole r h ids order place image block is reads e =
    let f : stored_triple h order place image ≡ Err block = subst (λ q. Reads (λ t. t) q (stored_triple h order place image)) e reads in
    let g = is.read in
    cc

-- what blocks tell they tell as they are seen
pub tells_here : (store seen : View) (image : List ℕ) → seen ≡ store → Tells store.device.image image → Tells seen.device.image image
tells_here store seen image e told = subst (λ v. Tells v.device.image image) (sym e) told

-- the dictionary as it is seen
pub dict_here : (store seen : View) (d : Dict) → seen ≡ store → d ≡ dict_of seen.header → d ≡ dict_of store.header
dict_here store seen d e is = is ∙ ap (λ v. dict_of v.header) e

-- the block that was read
pub block_read : {E : Type 0} (before : Option (List ℕ)) (image block : List ℕ) (r : Result (Unit {0}) E) (x : Unit {0}) → Tells before image → HasBlock before 0 block r → r ≡ Ok x → block ≡ block_at 0 image
block_read None image block r x told has e = let f = told.told in cc
block_read (Some bytes) image block (Ok y) x told has e = let f : Some bytes ≡ Some image = told.told in let g : bytes ≡ image = cc in has ∙ ap (block_at 0) g
block_read (Some bytes) image block (Err fault) x told has e = cc

-- what is shown stays shown
pub shown_kept : (before now : View) (terms : List Term) (ids : List IdTriple) → IsKept before now → IsShown before terms ids → IsShown now terms ids
shown_kept before now terms ids kept shown = record {
  image = shown.image;
  told = record { told = kept.image ∙ shown.told.told };
  shows = subst (λ h. Shows h terms ids shown.image) (sym kept.header) shown.shows;
}

-- the keys of an order are as many as the header tells, and in order
pub key_count : (store now seen : View) (terms : List Term) (ids : List IdTriple) (order : ℕ) → IsShown store terms ids → order ≤ 2 → IsKept store now → seen ≡ now
    → seen.header.triples ≡ length (keys_by (index_numbered order) ids)
key_count store now seen terms ids order shown le kept e = ap (λ v. v.header.triples) e ∙ ap (λ h. h.triples) kept.header ∙ (shown.shows.lists order le).entries

pub keys_rise : (store : View) (terms : List Term) (ids : List IdTriple) (order : ℕ) → IsShown store terms ids → order ≤ 2 → IsStrictlySortedBy id_cmp (keys_by (index_numbered order) ids)
keys_rise store terms ids order shown le = (shown.shows.lists order le).sorted

same_key : (read : Result IdTriple ℕ) (a b : IdTriple) → read ≡ Ok a → read ≡ Ok b → a ≡ b
same_key read a b e f = cc

-- an entry that was read is the key of its place
pub key_there : (r : Result IdTriple ReadFault) (tree : Tree) (es : List IdTriple) (place : ℕ) (image : List ℕ) → Lists tree es image → place < length es
    → Reads (λ key. key) r (key_at tree 0 place image) → IfOk r (λ key. slice_get es place ≡ Some key)
key_there (Ok e) tree es place image lists lt is =
    let at : slice_get es place ≡ Some (get_or es place record { s = 0; p = 0; o = 0 }) = slice_get-get_or es place _ lt in
    at ∙ ap Some (same_key (key_at tree 0 place image) _ e (lists.each place _ at) is)
key_there (Err fault) tree es place image lists lt is = tt

pub same_fault : {T : Type 0} (a b : StoreFault) → (let x : Result T StoreFault = Err a in x ≡ Err b) → a ≡ b
same_fault a b e = cc

-- what `?` hands on
pub handed_on : {T : Type 0} (r : Result T StoreFault) (fault : StoreFault) (block : ℕ) → IsErr r × IsErrAnd r (λ y. y ≡ fault) → r ≡ Err (store_faults.Damaged block) → fault ≡ store_faults.Damaged block
handed_on (Ok x) fault block h e = cc
handed_on (Err y) fault block h e = let f : y ≡ fault = h.1 in cc

pub kept_on : (a b c : View) → IsKept a b → IsKept b c → IsKept a c
kept_on a b c f g = record {
  header = g.header ∙ f.header;
  image = g.image ∙ f.image;
  count = g.count ∙ f.count;
  later = omega (arith, f.later, g.later);
  risen = omega (arith, f.risen, g.risen);
}

pub told_kept : (before now : View) (image : List ℕ) → IsKept before now → Tells before.device.image image → Tells now.device.image image
told_kept before now image kept told = record { told = kept.image ∙ told.told }

pub broken_before : (before now : View) (image : List ℕ) (block : ℕ) → IsKept before now → IsDamaged now.header image block → IsDamaged before.header image block
broken_before before now image block kept broken = subst (λ h. IsDamaged h image block) kept.header broken

-- so many blocks as the header tells
block_count : (L : List Triple) (format : ℕ) (image : List ℕ) (count : ℕ) (holds : Holds L format image) → length image ≡ 4096 * count → holds.header.blocks ≡ count
block_count L format image count holds long = omega (arith, long, holds.whole)

pub has_header : (L : List Triple) (format : ℕ) (image : List ℕ) (count : ℕ) (holds : Holds L format image) → length image ≡ 4096 * count → IsHeader (block_at 0 image) count holds.header
has_header L format image count holds long = subst (λ n. IsHeader (block_at 0 image) n holds.header) (block_count L format image count holds long) holds.is_header

-- an image that holds data is seen as a store of them
pub store_of : (L : List Triple) (format : ℕ) (image : List ℕ) (count : ℕ) (store : View) (holds : Holds L format image) → Tells store.device.image image → IsHeader (block_at 0 image) count store.header → IsStoreOf store L
store_of L format image count store holds told is =
    let same : holds.header ≡ store.header = header_alone (block_at 0 image) holds.header.blocks count holds.header store.header holds.is_header is in
    record {
      terms = holds.terms;
      ids = holds.ids;
      table = holds.table;
      shown = record { image = image; told = told; shows = subst (λ h. Shows h holds.terms holds.ids image) same holds.shows };
      term_count = sym (ap (λ h. h.terms) same) ∙ holds.term_count;
      triple_count = sym (ap (λ h. h.triples) same) ∙ holds.triple_count;
      longest = sym (ap (λ h. h.longest) same) ∙ holds.longest;
      data_name = sym (ap (λ h. h.data_id) same) ∙ holds.data_name;
    }

pub told_after : (before now : Option (List ℕ)) (image : List ℕ) → now ≡ before → Tells before image → Tells now image
told_after before now image kept told = record { told = kept ∙ told.told }

pub store_kept : (L : List Triple) (before now : View) → IsKept before now → IsStoreOf before L → IsStoreOf now L
store_kept L before now kept store = record {
  terms = store.terms;
  ids = store.ids;
  table = store.table;
  shown = shown_kept before now store.terms store.ids kept store.shown;
  term_count = ap (λ h. h.terms) kept.header ∙ store.term_count;
  triple_count = ap (λ h. h.triples) kept.header ∙ store.triple_count;
  longest = ap (λ h. h.longest) kept.header ∙ store.longest;
  data_name = ap (λ h. h.data_id) kept.header ∙ store.data_name;
}

-- blocks that hold data are refused for nothing that they tell
pub outside : (L : List Triple) (format : ℕ) (image : List ℕ) (count : ℕ) (fault : OpenFault) (holds : Holds L format image) → length image ≡ 4096 * count
    → IsCause (block_at 0 image) count fault → IsOutside fault
outside L format image count open_faults.NotAStore holds long cause = absurd (cause.none holds.header (has_header L format image count holds long))
outside L format image count (open_faults.Damaged n) holds long cause =
    absurd (sound_from holds.header.format (block_at 0 image) holds.is_header.format holds.is_header.mark holds.is_header.sound cause.1)
outside L format image count open_faults.Blocks holds long cause = record { is = inl refl }
outside L format image count open_faults.Memory holds long cause = record { is = inr refl }

-- a block whose tag does not agree
pub wrong_tag : (h : Header) (count order block : ℕ) (tree : Tree) (image : List ℕ) → IsOpened h count → tree ≡ tree_of h order → block < count
    → is_sound tree.payload block (block_at block image) ≡ false → IsDamaged h image block
wrong_tag h count order block tree image opened e lt tag = record {
  is = inl record {
    within = omega (arith, lt, opened.within.counted);
    tag = subst (λ t. is_sound t.payload block (block_at block image) ≡ false) e tag;
  };
}

pub bad_record : (h : Header) (id block : ℕ) (image : List ℕ) → id < h.terms → dict.stored_term (dict_of h) id image ≡ Err block → IsDamaged h image block
bad_record h id block image lt read = record { is = inr (inl record { id = id; within = lt; read = read }) }

pub bad_entry : (h : Header) (order place block : ℕ) (image : List ℕ) → order ≤ 2 → place < h.triples → stored_triple h order place image ≡ Err block → IsDamaged h image block
bad_entry h order place block image le lt read = record { is = inr (inr record { order = order; few = le; place = place; within = lt; read = read }) }

-- the block that a call names
pub named_block : (r : Result IdTriple ReadFault) (read : Result IdTriple ℕ) (block : ℕ) → Reads (λ t. t) r read → r ≡ Err (faults.Damaged block) → read ≡ Err block
named_block r read block reads e = subst (λ q. Reads (λ t. t) q read) e reads

pub named_record : (r : Result Term StoreFault) (read : Result Term ℕ) (block : ℕ) → dict.ReadsImage (λ t. t) r read → r ≡ Err (store_faults.Damaged block) → read ≡ Err block
named_record r read block reads e = subst (λ q. dict.ReadsImage (λ t. t) q read) e reads

-- an image that shows data has no damaged block
pub undamaged : (h : Header) (terms : List Term) (ids : List IdTriple) (image : List ℕ) (block : ℕ) → Shows h terms ids image → IsDamaged h image block → ⊥
undamaged h terms ids image block shows damaged = told damaged.is
  where
    told : HasWrongTag h image block ⊎ (HasBadRecord h image block ⊎ HasBadEntry h image block) → ⊥
    told (inl w) = let e = shows.sound block w.within in let f = w.tag in cc
    told (inr (inl b)) =
        let within : b.id < length terms = omega (arith, b.within, shows.dictionary.terms) in
        let at = slice_get-get_or terms b.id (Iri []) within in
        let e = shows.dictionary.each b.id _ at in
        let f = b.read in
        cc
    told (inr (inr b)) =
        let is = read_here h terms ids image b.order b.place shows b.few b.within in
        let e = is.read in
        let f = b.read in
        cc

-- so a call over blocks that show data names none
pub none_named : (store : View) (terms : List Term) (ids : List IdTriple) (block : ℕ) (A : Type 0) → IsShown store terms ids
    → ((image : List ℕ) → Tells store.device.image image → A → IsDamaged store.header image block) → A → ⊥
none_named store terms ids block A shown damaged a = undamaged store.header terms ids shown.image block shown.shows (damaged shown.image shown.told a)

-- a tree and a dictionary as a call has them
pub tree_there : (h : Header) (count order : ℕ) (tree : Tree) → IsOpened h count → order ≤ 2 → tree ≡ tree_of h order → Lies tree count
tree_there h count order tree opened le e = subst (λ t. Lies t count) (sym e) (list_lies h count order opened le)

pub dict_there : (h : Header) (count : ℕ) (d : Dict) → IsOpened h count → d ≡ dict_of h → dict.DictLies d count
dict_there h count d opened e = subst (λ t. dict.DictLies t count) (sym e) (dict_lies h count opened)

pub leaf_there : (h : Header) (count order place : ℕ) (tree : Tree) (store seen : View) → IsOpened h count → order ≤ 2 → seen ≡ store → h ≡ seen.header → place < store.header.triples → tree ≡ tree_of h order
    → leaf_of tree place < 2 ^ 32
leaf_there h count order place tree store seen opened le e same lt is =
    subst (λ t. leaf_of t place < 2 ^ 32) (sym is) (leaf_lies h count order place opened le (subst (λ k. place < k.triples) (sym (same ∙ ap (λ v. v.header) e)) lt))

-- the header as it is seen
pub opened_here : (store seen : View) (count : ℕ) → seen ≡ store → IsOpened seen.header count → IsOpened store.header count
opened_here store seen count e opened = subst (λ v. IsOpened v.header count) e opened

-- the tree as it is seen
pub tree_here : (store seen : View) (order : ℕ) (tree : Tree) → seen ≡ store → tree ≡ tree_of seen.header order → tree ≡ tree_of store.header order
tree_here store seen order tree e is = is ∙ ap (λ v. tree_of v.header order) e

-- what `?` hands on of a fault that takes no memory
pub handed_read : {T : Type 0} (r : Result T ReadFault) (fault : ReadFault) (block : ℕ) → IsErr r × IsErrAnd r (λ y. y ≡ fault) → r ≡ Err (faults.Damaged block) → fault ≡ faults.Damaged block
handed_read (Ok x) fault block h e = cc
handed_read (Err y) fault block h e = let f : y ≡ fault = h.1 in cc

-- where there is no block there is no store
pub no_blocks : (image : List ℕ) → length image ≡ 0 → IsNoStore (block_at 0 image) 0
no_blocks image none =
    let short : length (take 8 (block_at 0 image)) ≤ 0 = omega (arith, length-take 8 (block_at 0 image), length-take 4096 (drop (4096 * 0) image), length-drop (4096 * 0) image) in
    record {
      whole = λ b. absurd (omega (arith, short, ap length b.mark, length_mark 2));
      none = λ h is. absurd (omega (arith, short, ap length is.mark, length_mark h.format));
    }

-- the cause that a block tells, by what is seen of the blocks
pub cause_read : (image block : List ℕ) (m n : ℕ) (fault : OpenFault) → block ≡ block_at 0 image → m ≡ n → IsCause block m fault → IsCause (block_at 0 image) n fault
cause_read image block m n fault e f cause = subst (λ k. IsCause (block_at 0 image) k fault) f (subst (λ b. IsCause b m fault) e cause)

-- a store that was made, or not for want of memory
pub made_of : {U : Type 0} (L : List Triple) (view : View) (fault_of : U → OpenFault) (r : Result View U) → IfOk r (λ s. s ≡ view) → IfErr r (λ u. fault_of u ≡ open_faults.Memory)
    → IsStoreOf view L → MatchResult r (λ s. IsStoreOf s L) (λ u. IsOutside (fault_of u))
made_of L view fault_of (Ok s) made memory is = subst (λ v. IsStoreOf v L) (sym made) is
made_of L view fault_of (Err u) made memory is = record { is = inr memory }
