-- Store files on a shelf: made, written in pieces, and their headers told.
use Rattle.std.proofs.Common.{◌≡◌, ◌≤◌, ◌⊎◌, ℕ, ◌+◌, ◌-◌, ◌*◌, List, ◌++◌, length, take, drop, Bool, true, false, cond, Option, Some, None, Ok, Err, IfSome, refl, sym, ap, ◌∙◌, subst, inl, inr, arith}
use Rattle.std.specs.Prelude.{IsSomeAnd}
use Rattle.std.specs.Str.{bytes_eq}
use Rattle.std.specs.FinMap.{get, insert, get-insert, same_map, slice_cmp-IsAntisymmetric, nat_cmp-IsAntisymmetric}
use Rattle.std.proofs.lemmas.Cmp.{nat_list_cmp_total}
use Rattle.std.proofs.lemmas.Map.Text.{is_eq-slice_cmp}
use Rattle.std.proofs.lemmas.Slice.Eq.{bytes_eq-Decides}
use Rattle.std.proofs.lemmas.List.{take-take, length-take}
use Rattle.term_core.specs.declared.term.Triple.{Triple}
use Rattle.sage_outside.specs.declared.shelf.ShelfFault.{ShelfFault}
use Rattle.sage_outside.specs.Causes.{Rose}
use Rattle.sage_outside.specs.Shelf.{Files, Lacks, Started, Grown}
use Rattle.sage_outside.specs.Blocks.{Device, Tells as TellsBytes, block_at, block_count, image_of}
use Rattle.sage_outside.specs.BlockLaws.{length_whole}
use Rattle.store_image.specs.declared.header.Header.{Header}
use Rattle.store_image.specs.Header.{IsHeader, IsBroken}
use Rattle.triple_store.specs.Stores.{IsNoStore}
use Rattle.store_image.specs.Holds.{Holds}
use Rattle.sage.specs.declared.info_lines.HeaderFault.{HeaderFault}
use Rattle.sage.specs.declared.info_lines.HeaderFault.TheVariants as faults
use Rattle.sage.specs.World.{SinkState}
use Rattle.sage.specs.Ending.{HasGot, HasGotPrefix}
use Rattle.sage.specs.Data.{IsData}
use Rattle.sage.specs.InfoLines.{header_lines}
use Rattle.sage.specs.StoreFiles.{IsWritten, IsWrittenInPart, IsMade, TellHeader, IsToldOf, IsToldInPart}
use Rattle.triple_store.specs.declared.store.OpenFault.TheVariants as open_faults
use Rattle.sage_outside.specs.Held.{device_of}
use Rattle.sage.proofs.Prefixes.{take_add}
use Rattle.sage.proofs.Limits.{data_back}
use Rattle.sage.proofs.Opened.{one_header, not_refused, no_store_outside, damaged_outside}

-- ---- maps of files

get_after : (m : Files) (k v q : List ℕ) → get (insert m k v) q ≡ cond (bytes_eq q k) (Some v) (get m q)
get_after m k v q = get-insert nat_list_cmp_total m k v q ∙ ap (λ b. cond b (Some v) (get m q)) (is_eq-slice_cmp q k)

-- what was inserted last at a name is there
there_after : (m : Files) (k v : List ℕ) → get (insert m k v) k ≡ Some v
there_after m k v = get_after m k v k ∙ ap (λ b. cond b (Some v) (get m k)) ((bytes_eq-Decides k k).1 refl)

last_counts : {A : Type 0} (b : Bool) (x y z : A) → cond b x (cond b y z) ≡ cond b x z
last_counts true x y z = refl
last_counts false x y z = refl

twice_after : (m : Files) (k v w : List ℕ) → insert (insert m k v) k w ≡ insert m k w
twice_after m k v w = same_map nat_list_cmp_total (slice_cmp-IsAntisymmetric nat_cmp-IsAntisymmetric) _ _
    (λ q. get_after (insert m k v) k w q ∙ ap (λ r. cond (bytes_eq q k) (Some w) r) (get_after m k v q)
    ∙ last_counts (bytes_eq q k) (Some w) (Some v) (get m q) ∙ sym (get_after m k w q))

-- ---- pieces that are written

-- a piece behind what was written
pub grown_ok : (T : Type 0) (base files new : Option Files) (name before piece : List ℕ) (x : T) → IsWritten base files name before → Grown files new name piece (Ok x)
    → IsWritten base new name (before ++ piece)
grown_ok T None files new name before piece x written grown = subst (λ fs. Grown fs new name piece (Ok x)) written grown
grown_ok T (Some m) files new name before piece x written grown =
    let has : IfSome (get (insert m name before) name) (λ bytes. new ≡ Some (insert (insert m name before) name (bytes ++ piece))) =
    subst (λ fs. Grown fs new name piece (Ok x)) written grown in
    let behind : new ≡ Some (insert (insert m name before) name (before ++ piece)) =
    subst (λ o. IfSome o (λ bytes. new ≡ Some (insert (insert m name before) name (bytes ++ piece)))) (there_after m name before) has in
    behind ∙ ap Some (twice_after m name before (before ++ piece))

-- up to the end of a piece
pub piece_written : (T : Type 0) (base files new : Option Files) (name bytes : List ℕ) (done end : ℕ) (x : T) → done ≤ end → IsWritten base files name (take done bytes)
    → Grown files new name (take (end - done) (drop done bytes)) (Ok x) → IsWritten base new name (take end bytes)
piece_written T base files new name bytes done end x le written grown =
    let whole : done + (end - done) ≡ end = omega (arith, le) in
    subst (IsWritten base new name) (take_add done (end - done) bytes ∙ ap (λ k. take k bytes) whole)
    (grown_ok T base files new name (take done bytes) (take (end - done) (drop done bytes)) x written grown)

prefix_of_piece : (bytes : List ℕ) (done k n : ℕ) → n ≤ length (take k (drop done bytes)) → take done bytes ++ take n (take k (drop done bytes)) ≡ take (done + n) bytes
prefix_of_piece bytes done k n le =
    let short : n ≤ k = omega (arith, le, length-take k (drop done bytes)) in
    ap (λ t. take done bytes ++ t) (take-take n k (drop done bytes) short) ∙ take_add done n bytes

-- or a prefix of the bytes, where the call failed
pub piece_in_part : (T : Type 0) (base files new : Option Files) (name bytes : List ℕ) (done k : ℕ) (e : ShelfFault) → IsWritten base files name (take done bytes)
    → Grown {T = T} files new name (take k (drop done bytes)) (Err e) → IsWrittenInPart base new name bytes
piece_in_part T None files new name bytes done k e written grown = inl (subst (λ fs. Grown {T = T} fs new name (take k (drop done bytes)) (Err e)) written grown)
piece_in_part T (Some m) files new name bytes done k e written grown =
    let piece = take k (drop done bytes) in
    let F = insert m name (take done bytes) in
    let has : (new ≡ Some F) ⊎ ((n : ℕ) × (n ≤ length piece) × IsSomeAnd (get F name) (λ old. new ≡ Some (insert F name (old ++ take n piece)))) =
    subst (λ fs. Grown {T = T} fs new name piece (Err e)) written grown in
    (elim has [
      | inl same ↦ inr (done, same)
      | inr some ↦ inr (
        done + some.0,
        subst (λ o. IsSomeAnd o (λ old. new ≡ Some (insert F name (old ++ take some.0 piece)))) (there_after m name (take done bytes)) some.2
            ∙ ap Some (twice_after m name (take done bytes) (take done bytes ++ take some.0 piece) ∙ ap (insert m name) (prefix_of_piece bytes done k some.0 some.1)),
      )
    ])

-- a file that was written is there, so that a call on it fails only where a fault is counted
pub append_rose : (base files : Option Files) (name bytes : List ℕ) (before now : ℕ) → IsWritten base files name bytes → Lacks files name ⊎ Rose before now → Rose before now
append_rose base files name bytes before now written (inr rose) = rose
append_rose None files name bytes before now written (inl lacks) = absurd (subst (λ fs. Lacks fs name) written lacks)
append_rose (Some m) files name bytes before now written (inl lacks) =
    let none : get (insert m name bytes) name ≡ None = subst (λ fs. Lacks fs name) written lacks in
    let some = there_after m name bytes in
    absurd cc

-- after `start` the file has no bytes
pub started : (T : Type 0) (base after : Option Files) (name bytes : List ℕ) (x : T) → Started base after name (Ok x) → IsWritten base after name (take 0 bytes)
started T None after name bytes x is = is
started T (Some files) after name bytes x is = is

pub rose_before : (P : Type 0) (a b c : ℕ) → a ≤ b → Rose b c × P → Rose a c × P
rose_before P a b c le h = let rose : Rose b c = h.0 in (omega (arith, le, rose), h.1)

-- ---- what is made of a document

-- the lines of bytes that are equal
pub same_lines : (triples : List Triple) (a b lines : List ℕ) → a ≡ b → ((L : List Triple) (holds : Holds L 2 a) → lines ≡ header_lines holds.header) → (holds : Holds triples 2 b) → lines ≡ header_lines holds.header
same_lines triples a b lines is tell holds = subst (λ x. (L : List Triple) (holds : Holds L 2 x) → lines ≡ header_lines holds.header) is tell triples holds

-- the lines that tell the header of an image's first block are those of the image
pub lines_held : (triples : List Triple) (image lines : List ℕ) (count : ℕ) → TellHeader (block_at 0 image) count lines → (holds : Holds triples 2 image) → lines ≡ header_lines holds.header
lines_held triples image lines count told holds = told.tell ∙ ap header_lines (one_header (block_at 0 image) count holds.header.blocks told.header holds.header told.is_header holds.is_header)

-- what was made of the bytes that were read was made of the file
pub made_back : (file read image lines : List ℕ) → read ≡ take 268435457 file → IsMade read image lines → IsMade file image lines
made_back file read image lines is made = record {
  triples = made.triples;
  is_data = data_back file made.triples (subst (λ bytes. IsData bytes made.triples) is made.is_data);
  store = made.store;
}

-- ---- what is told of a file

-- the lines were put out
pub told_of : (file lines : List ℕ) (before after : SinkState) → TellHeader (block_at 0 (image_of file)) (block_count (length file)) lines → HasGot before after lines → IsToldOf file before after
told_of file lines before after told got = record {
  header = told.header;
  is_header = told.is_header;
  of_data = λ triples format holds. one_header (block_at 0 (image_of file)) (block_count (length file)) holds.header.blocks told.header holds.header told.is_header holds.is_header;
  got = subst (λ text. HasGot before after text) told.tell got;
}

-- or a prefix of them
pub told_in_part : (file lines : List ℕ) (before after : SinkState) → TellHeader (block_at 0 (image_of file)) (block_count (length file)) lines → HasGotPrefix before after lines → IsToldInPart file before after
told_in_part file lines before after told prefix = record {
  header = told.header;
  is_header = told.is_header;
  prefix = subst (λ text. HasGotPrefix before after text) told.tell prefix;
}

-- an opened file has as many blocks as the file fills
pub count_of_file : (file : List ℕ) (count : ℕ) → length (image_of file) ≡ 4096 * count → count ≡ block_count (length file)
count_of_file file count is = omega (arith, is, length_whole (block_count (length file)) file)

-- over a store file in memory that holds data, memory alone runs out
pub only_memory : (L : List Triple) (format : ℕ) (bytes held : List ℕ) (fault : HeaderFault) (device now : Device) → Holds L format bytes → device.image ≡ Some (image_of bytes)
    → device ≡ device_of held 0 device.reads → now.faults ≡ 0
    → ((image : List ℕ) → TellsBytes device.image image → fault ≡ faults.NotAStore → IsNoStore (block_at 0 image) device.count)
    → ((image : List ℕ) → TellsBytes device.image image → fault ≡ faults.Damaged → IsBroken (block_at 0 image))
    → (fault ≡ faults.Unread → Rose device.faults now.faults) → fault ≡ faults.Memory
only_memory L format bytes held faults.Memory device now holds e d none refused broken failed = refl
only_memory L format bytes held faults.NotAStore device now holds e d none refused broken failed =
    absurd (no_store_outside (not_refused L format bytes held open_faults.NotAStore device holds e d (λ image told. refused image told refl)))
only_memory L format bytes held faults.Damaged device now holds e d none refused broken failed =
    absurd (damaged_outside 0 (not_refused L format bytes held (open_faults.Damaged 0) device holds e d (λ image told. (refl, broken image told refl))))
only_memory L format bytes held faults.Unread device now holds e d none refused broken failed =
    let rose : Rose device.faults now.faults = failed refl in
    let zero : device.faults ≡ 0 = ap (λ (x : Device). x.faults) d in
    absurd (omega (arith, rose, none, zero))

pub tells_bytes : (image : Option (List ℕ)) (bytes : List ℕ) → image ≡ Some bytes → TellsBytes image bytes
tells_bytes image bytes is = record { told = is }
