-- The blocks of the levels within the bytes of a tree.
use Rattle.std.proofs.Common.{◌≡◌, ℕ, zero, suc, ◌+◌, ◌-◌, ◌*◌, ◌/◌, ◌<◌, ◌≤◌, inl, inr, ◌++◌, List, [], length, take, drop, replicate, Bool, true, false, refl, sym, ap, subst, ◌∙◌, arith, append_assoc, length-append, length-take}
use Rattle.std.specs.Prelude.{if◌then◌else◌, nat_lt}
use Rattle.std.proofs.lemmas.List.{take_at, drop_at, drop-drop, length-replicate}
use Rattle.sage_outside.specs.Blocks.{block_at}
use Rattle.sage_outside.specs.Parts.{IsPayload}
use Rattle.term_core.specs.declared.pattern.IdTriple.{IdTriple}
use Rattle.btree_build.specs.Trees.{list_bytes, block_bytes, level_bytes, level_of, above, tree_bytes}
use Rattle.btree_scan.specs.declared.tree.Tree.{Tree}
use Rattle.btree_build.specs.Trees.{blocks_for}
use Rattle.btree_scan.specs.Levels.{per_block, size_at, first_at, IsLevel}
use Rattle.btree_scan.specs.Written.{level_list, IsBlockWith, IsWritten, IsTreeIn}
use Rattle.btree_scan.proofs.Written.{length_list, length_above, more_below}

length_block : (es : List IdTriple) → 12 * length es ≤ 4096 → length (block_bytes es) ≡ 4096
unfolding block_bytes
length_block es few = length-append (list_bytes es) (replicate (4096 - 12 * length es) 0) ∙ omega (arith, length_list es, length-replicate {A = ℕ} (4096 - 12 * length es) 0)

module _ (per : ℕ) (narrow : 12 * per ≤ 4096) where
  length_chunk : (es : List IdTriple) → length (block_bytes (take per es)) ≡ 4096
  length_chunk es = length_block (take per es) (omega (arith, length-take per es))

  length_level : (m : ℕ) (es : List IdTriple) → length (level_bytes per m es) ≡ 4096 * m
  length_level zero es = refl
  length_level (suc m) es = length-append (block_bytes (take per es)) (level_bytes per m (drop per es)) ∙ omega (arith, length_chunk es, length_level m (drop per es))

  -- block b of a level, with anything behind it
  pub level_block : (m b : ℕ) (es : List IdTriple) (rest : List ℕ) → b < m → block_at b (level_bytes per m es ++ rest) ≡ block_bytes (take per (drop (b * per) es))
  level_block zero b es rest lt = absurd (omega arith)
  level_block (suc m) zero es rest lt =
      let chunk = block_bytes (take per es) in
      let z : 0 * per ≡ 0 = grind arith in
      ap (take 4096) (append_assoc chunk (level_bytes per m (drop per es)) rest) ∙ take_at chunk (level_bytes per m (drop per es) ++ rest) 4096 (length_chunk es)
      ∙ ap (λ n. block_bytes (take per (drop n es))) (sym z)
  level_block (suc m) (suc b) es rest lt =
      let chunk = block_bytes (take per es) in
      let tail = level_bytes per m (drop per es) ++ rest in
      let s : 4096 * suc b ≡ 4096 + 4096 * b = omega arith in
      let t : per + b * per ≡ suc b * per = grind arith in
      ap (λ l. take 4096 (drop (4096 * suc b) l)) (append_assoc chunk (level_bytes per m (drop per es)) rest)
      ∙ ap (λ n. take 4096 (drop n (chunk ++ tail))) s
      ∙ ap (take 4096) (sym (drop-drop (4096 * b) 4096 (chunk ++ tail)) ∙ ap (drop (4096 * b)) (drop_at chunk tail 4096 (length_chunk es)))
      ∙ level_block m b (drop per es) rest (omega arith)
      ∙ ap (λ l. block_bytes (take per l)) (drop-drop (b * per) per es ∙ ap (λ n. drop n es) (omega (arith, t)))

  -- what stands behind a level
  pub behind_level : (m b : ℕ) (es : List IdTriple) (rest : List ℕ) → block_at (m + b) (level_bytes per m es ++ rest) ≡ block_at b rest
  behind_level m b es rest =
      let bytes = level_bytes per m es in
      let s : 4096 * (m + b) ≡ 4096 * m + 4096 * b = omega arith in
      ap (λ n. take 4096 (drop n (bytes ++ rest))) s
      ∙ ap (take 4096) (sym (drop-drop (4096 * b) (4096 * m) (bytes ++ rest)) ∙ ap (drop (4096 * b)) (drop_at bytes rest (4096 * m) (length_level m es)))

then_some : (b : Bool) (xs : List ℕ) → b ≡ true → (if b then xs else []) ≡ xs
then_some true xs e = refl
then_some false xs e = cc

more_than_one : (n : ℕ) → 1 < n → nat_lt 1 n ≡ true
more_than_one n h = grind (arith)

module _ (p : ℕ) (payload : IsPayload p) where
  abbrev pub per : ℕ
  per = p / 12

  narrow : 12 * per ≤ 4096
  narrow = elim payload.one [ inl e ↦ rw e (omega arith) | inr e ↦ rw e (omega arith) ]

  -- the bytes of a level of more than one block, and of those above
  pub tree_split : (f : ℕ) (es : List IdTriple) → 1 < blocks_for per (length es) → tree_bytes per (suc f) es ≡ level_of per es ++ tree_bytes per f (above per es)
  tree_split f es more =
      ap (λ l. level_of per es ++ l) (then_some (nat_lt 1 (length (above per es))) (tree_bytes per f (above per es)) (more_than_one _ (omega (arith, more, length_above p es payload))))

  -- the first level
  pub tree_first : (f b : ℕ) (es : List IdTriple) → b < blocks_for per (length es) → block_at b (tree_bytes per (suc f) es) ≡ block_bytes (take per (drop (b * per) es))
  tree_first f b es lt = level_block per narrow (blocks_for per (length es)) b es _ (lt)

  -- the levels above it
  pub tree_next : (f b : ℕ) (es : List IdTriple) → 1 < blocks_for per (length es) → block_at (blocks_for per (length es) + b) (tree_bytes per (suc f) es) ≡ block_at b (tree_bytes per f (above per es))
  tree_next f b es more =
      let m = blocks_for per (length es) in
      ap (λ l. block_at (blocks_for per (length es) + b) l) (tree_split f es more) ∙ behind_level per narrow m b es (tree_bytes per f (above per es))

  pub first_long : (f b : ℕ) (es : List IdTriple) → b < blocks_for per (length es) → 4096 * b < length (tree_bytes per (suc f) es)
  first_long f b es lt =
      let m = blocks_for per (length es) in
      omega (arith, lt, length-append (level_of per es) (if nat_lt 1 (length (above per es)) then tree_bytes per f (above per es) else []), length_level per narrow m es)

  pub next_long : (f b : ℕ) (es : List IdTriple) → 1 < blocks_for per (length es) → 4096 * b < length (tree_bytes per f (above per es)) → 4096 * (blocks_for per (length es) + b) < length (tree_bytes per (suc f) es)
  next_long f b es more lt =
      let m = blocks_for per (length es) in
      omega (arith, lt, ap length (tree_split f es more), length-append (level_of per es) (tree_bytes per f (above per es)), length_level per narrow m es)

  few_blocks : (n : ℕ) → n ≤ 4194303 → blocks_for per (blocks_for per (blocks_for per n)) ≤ 1
  unfolding blocks_for
  few_blocks n few = elim payload.one [ inl e ↦ rw e (omega (arith, few)) | inr e ↦ rw e (omega (arith, few)) ]

  few_more : (n : ℕ) → n ≤ 1 → blocks_for per n ≤ 1
  unfolding blocks_for
  few_more n few = elim payload.one [ inl e ↦ rw e (omega (arith, few)) | inr e ↦ rw e (omega (arith, few)) ]

module _ (tree : Tree) (es : List IdTriple) (image : List ℕ) (there : IsTreeIn tree es image) where
  abbrev pub q : ℕ
  q = per_block tree

  one : size_at tree 1 ≡ blocks_for q (length es)
  one = ap (blocks_for q) there.entries

  two : size_at tree 2 ≡ blocks_for q (length (above q es))
  two = ap (blocks_for q) (one ∙ sym (length_above tree.payload es there.payload))

  three : size_at tree 3 ≡ blocks_for q (length (above q (above q es)))
  three = ap (blocks_for q) (two ∙ sym (length_above tree.payload (above q es) there.payload))

  above_three : (l : ℕ) → size_at tree (suc (suc (suc l))) ≤ 1
  above_three zero = few_blocks tree.payload there.payload tree.entries (omega (arith, there.few, there.entries))
  above_three (suc l) = few_more tree.payload there.payload (size_at tree (suc (suc (suc l)))) (above_three l)

  block_with : (n place : ℕ) (chunk : List IdTriple) → n ≡ tree.first + place → 4096 * place < length (tree_bytes q 3 es) → block_at place (tree_bytes q 3 es) ≡ block_bytes chunk → IsBlockWith tree.payload n chunk image
  block_with n place chunk e lt is =
      let got = there.blocks.each place lt in
      subst (λ m. IsBlockWith tree.payload m chunk image) (sym e) record { sound = got.0; bytes = got.1 ∙ ap (take tree.payload) is }

  blocks : (l b : ℕ) → IsLevel tree l → b < size_at tree (suc l) → IsBlockWith tree.payload (first_at tree l + b) (take q (drop (b * q) (level_list q l es))) image
  blocks zero b level lt =
      let i : b < blocks_for q (length es) = omega (arith, lt, one) in
      block_with (first_at tree 0 + b) b _ refl (first_long tree.payload there.payload 2 b es i) (tree_first tree.payload there.payload 2 b es i)
  blocks (suc zero) b level lt =
      let more : 1 < blocks_for q (length es) = omega (arith, level, one) in
      let i : b < blocks_for q (length (above q es)) = omega (arith, lt, two) in
      let n = blocks_for q (length es) in
      block_with (first_at tree 1 + b) (n + b) _ (omega (arith, one))
      (next_long tree.payload there.payload 2 b es more (first_long tree.payload there.payload 1 b (above q es) i))
      (tree_next tree.payload there.payload 2 b es more ∙ tree_first tree.payload there.payload 1 b (above q es) i)
  blocks (suc (suc zero)) b level lt =
      let more_two : 1 < blocks_for q (length (above q es)) = omega (arith, level, two) in
      let more : 1 < blocks_for q (length es) = omega (arith, one, more_below tree.payload (size_at tree 1) there.payload level) in
      let i : b < blocks_for q (length (above q (above q es))) = omega (arith, lt, three) in
      let n = blocks_for q (length es) in
      let m = blocks_for q (length (above q es)) in
      block_with (first_at tree 2 + b) (n + (m + b)) _ (omega (arith, one, two))
      (next_long tree.payload there.payload 2 (m + b) es more (next_long tree.payload there.payload 1 b (above q es) more_two (first_long tree.payload there.payload 0 b (above q (above q es)) i)))
      (tree_next tree.payload there.payload 2 (m + b) es more ∙ tree_next tree.payload there.payload 1 b (above q es) more_two ∙ tree_first tree.payload there.payload 0 b (above q (above q es)) i)
  blocks (suc (suc (suc l))) b level lt = absurd (omega (arith, level, above_three l))

  pub written_from_tree : IsWritten tree es image
  written_from_tree = record { payload = there.payload; entries = there.entries; sorted = there.sorted; ids = there.ids; blocks = blocks }
