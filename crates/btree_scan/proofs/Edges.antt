-- Edges of levels.
use Rattle.std.proofs.Common.{◌≡◌, ℕ, zero, suc, ◌+◌, ◌-◌, ◌*◌, ◌/◌, ◌%◌, ◌<◌, ◌≤◌, inl, inr, min, ◌∙◌, Bool, true, false, List, arith, refl, sym, ap, subst, Result, Ok, Err, Option, Some, None}
use Rattle.std.specs.Prelude.{if◌then◌else◌, IfOk, IfSome}
use Rattle.sage_outside.specs.Blocks.{block_at}
use Rattle.sage_outside.specs.Parts.{is_sound, IsPayload}
use Rattle.sage_outside.specs.declared.fault.ReadFault.{ReadFault}
use Rattle.term_core.specs.declared.pattern.IdTriple.{IdTriple}
use Rattle.btree_scan.specs.declared.tree.Tree.{Tree}
use Rattle.btree_scan.specs.Entries.{entry_of, IsEdgeOf, Searched}
use Rattle.btree_build.specs.Trees.{blocks_for}
use Rattle.btree_scan.specs.Levels.{key_in, key_from, key_at, passes, size_at, first_at, IsLevel, AreLevels, IsEdgeAt, IsBlock, Leads, place_of}

pub searched_ok : (p n count : ℕ) (test : IdTriple → Bool) (image : List ℕ) (r : Result ℕ ReadFault) (x : ℕ) → r ≡ Ok x → Searched p n test count image r → Searched p n test count image (Ok x)
searched_ok p n count test image r x e h = subst (Searched p n test count image) e h

pub place_in : (p block j : ℕ) → IsPayload p → j < p / 12 → ((block * (p / 12) + j) / (p / 12) ≡ block) × ((block * (p / 12) + j) % (p / 12) ≡ j)
place_in p block j payload lt = elim payload.one [
  | inl e ↦ let i = rw e at lt in rw e (omega arith, omega arith)
  | inr e ↦ let i = rw e at lt in rw e (omega arith, omega arith)
]

if_sound : (t : Bool) (e : IdTriple) (n : ℕ) (test : IdTriple → Bool) → t ≡ true → passes test (if t then Ok e else Err n) ≡ test e
if_sound true e n test is = refl
if_sound false e n test is = cc

module _ (p first block count : ℕ) (image : List ℕ) (test : IdTriple → Bool) (payload : IsPayload p) (few : count ≤ p / 12) (sound : is_sound p (first + block) (block_at (first + block) image) ≡ true) where
  here : (j : ℕ) → j < count → passes test (key_from p first (block * (p / 12) + j) image) ≡ test (entry_of (block_at (first + block) image) j)
  here j lt =
      let at = place_in p block j payload (omega arith) in
      ap (λ b. passes test (key_in p (first + b) ((block * (p / 12) + j) % (p / 12)) image)) at.0
      ∙ ap (λ i. passes test (key_in p (first + block) i image)) at.1
      ∙ if_sound (is_sound p (first + block) (block_at (first + block) image)) _ (first + block) test sound

  pub edge_in_level : (place : ℕ) → IsEdgeOf (λ k. test (entry_of (block_at (first + block) image) k)) 0 count place
      → IsEdgeOf (λ k. passes test (key_from p first k image)) (block * (p / 12)) (block * (p / 12) + count) (block * (p / 12) + place)
  edge_in_level place edge = record {
    from = omega arith;
    within = omega (arith, edge.within);
    below = λ k ge e.
        let j = k - block * (p / 12) in
        let is : k ≡ block * (p / 12) + j = omega arith in
        ap (λ m. passes test (key_from p first m image)) is ∙ here j (omega (arith, edge.within)) ∙ edge.below j (omega arith) (omega arith);
    above = λ lt. let i : place < count = omega arith in here place i ∙ edge.above i;
  }

pub edge_to : (test : ℕ → Bool) (low high other place : ℕ) → high ≡ other → IsEdgeOf test low high place → IsEdgeOf test low other place
edge_to test low high other place e edge = subst (λ h. IsEdgeOf test low h place) e edge

pub more_min : (b per count size : ℕ) → count ≡ min per (size - b * per) → b * per < size → b * per + count ≡ min ((b + 1) * per) size
more_min b per count size e lt = let f : (b + 1) * per ≡ b * per + per = grind arith in rw f (omega arith)

-- numbers of blocks, for both payloads
pub some_blocks : (p n : ℕ) → IsPayload p → 0 < n → 0 < blocks_for (p / 12) n
unfolding blocks_for
some_blocks p n payload some = elim payload.one [ inl e ↦ rw e (omega (arith, some)) | inr e ↦ rw e (omega (arith, some)) ]

pub one_block : (p n : ℕ) → IsPayload p → blocks_for (p / 12) n ≤ 1 → n ≤ p / 12
unfolding blocks_for
one_block p n payload few = elim payload.one [ inl e ↦ let i = rw e at few in rw e (omega (arith, i)) | inr e ↦ let i = rw e at few in rw e (omega (arith, i)) ]

pub top_fits : (p n : ℕ) → IsPayload p → n ≤ 4194303 → blocks_for (p / 12) (blocks_for (p / 12) n) ≤ p / 12
unfolding blocks_for
top_fits p n payload few = elim payload.one [ inl e ↦ rw e (omega (arith, few)) | inr e ↦ rw e (omega (arith, few)) ]

pub behind_in : (p n b : ℕ) → IsPayload p → (b + 1) * (p / 12) < n → b + 1 < blocks_for (p / 12) n
unfolding blocks_for
behind_in p n b payload lt = elim payload.one [ inl e ↦ let i = rw e at lt in rw e (omega (arith, i)) | inr e ↦ let i = rw e at lt in rw e (omega (arith, i)) ]

pub block_starts : (p n b : ℕ) → IsPayload p → b < blocks_for (p / 12) n → b * (p / 12) < n
unfolding blocks_for
block_starts p n b payload lt = elim payload.one [ inl e ↦ let i = rw e at lt in rw e (omega (arith, i)) | inr e ↦ let i = rw e at lt in rw e (omega (arith, i)) ]

both : (b : Bool) → b ≡ true → b ≡ false → ⊥
both b e f = cc

side : (C : Type 0) (k m : ℕ) → (k < m → C) → (m ≤ k → C) → C
side C k zero below above = above (omega arith)
side C zero (suc m) below above = below (omega arith)
side C (suc k) (suc m) below above = side C k m (λ lt. below (omega arith)) (λ le. above (omega arith))

-- the edge of the block in which the edge is
pub edge_of_block : (test : ℕ → Bool) (per size b n : ℕ) → IsBlock test per size b → b * per < size → 0 < per → IsEdgeOf test (b * per) (min ((b + 1) * per) size) n → IsEdgeOf test 0 size n
edge_of_block test per size b n block some wide edge =
    let next : (b + 1) * per ≡ b * per + per = grind arith in
    record {
      from = omega arith;
      within = omega (arith, edge.within);
      below = λ k ge e. side (test k ≡ true) k (b * per)
          (λ lt.
          let here : n ≡ b * per = omega (arith, edge.from) in
          let some_b : 0 < b = side (0 < b) 0 b (λ h. h) (λ h. let z : b ≡ 0 = omega arith in let i = rw z at lt in absurd (omega (arith, i))) in
          let fails : test (b * per) ≡ false = ap test (sym here) ∙ edge.above (omega (arith, next)) in
          absurd (both (test (b * per)) (block.first some_b) fails))
          (λ ge. edge.below k ge e);
      above = λ lt. side (test n ≡ false) n (min ((b + 1) * per) size)
          (λ inside. edge.above inside)
          (λ end. let here : n ≡ (b + 1) * per = omega (arith, edge.within) in ap test here ∙ block.next (omega arith));
    }

only_block : (test : ℕ → Bool) (per size : ℕ) → size ≤ per → IsBlock test per size 0
only_block test per size few = record { first = λ h. absurd (omega (arith, h)); next = λ h. absurd (let e : (0 + 1) * per ≡ per = grind arith in omega (arith, e, h)) }

module _ (tree : Tree) (test : IdTriple → Bool) (image : List ℕ) (payload : IsPayload tree.payload) where
  abbrev pub Test : ℕ → ℕ → Bool
  Test l k = passes test (key_at tree l k image)

  -- a level of one block
  pub leads_alone : (l : ℕ) → size_at tree (suc l) ≤ 1 → Leads (Test l) (tree.payload / 12) (size_at tree l) (Ok (Some 0))
  leads_alone l few = only_block (Test l) (tree.payload / 12) (size_at tree l) (one_block tree.payload (size_at tree l) payload few)

  module _ (levels : AreLevels tree image) (l : ℕ) (level : IsLevel tree (suc l)) where
    down : (k : ℕ) (b : Bool) → k < size_at tree (suc l) → Test (suc l) k ≡ b → Test l (k * (tree.payload / 12)) ≡ b
    down k b lt e = ap (passes test) (sym (levels.agree l k level lt)) ∙ e

    -- the edge of a level leads to the block of the level below
    pub leads : (o : Option ℕ) → IsEdgeOf (Test (suc l)) 0 (size_at tree (suc l)) (place_of o) → Leads (Test l) (tree.payload / 12) (size_at tree l) (Ok o)
    leads None edge = let z : 0 * (tree.payload / 12) ≡ 0 = grind arith in ap (Test l) (sym z) ∙ down 0 false (omega (arith, level)) (edge.above (omega (arith, level)))
    leads (Some b) edge = record {
      first = λ some. down b true (omega (arith, edge.within)) (edge.below b (omega arith) refl);
      next = λ lt. let i : b + 1 < size_at tree (suc l) = behind_in tree.payload (size_at tree l) b payload lt in down (b + 1) false i (edge.above i);
    }

pub leads_ok : (test : ℕ → Bool) (per size : ℕ) (r : Result (Option ℕ) ReadFault) (o : Option ℕ) → r ≡ Ok o → Leads test per size r → Leads test per size (Ok o)
leads_ok test per size r o e h = subst (Leads test per size) e h

-- an answer that leads, where each that was found does
pub leads_if : (test : ℕ → Bool) (per size : ℕ) (r : Result (Option ℕ) ReadFault) (P : Option ℕ → Type 0) → ((o : Option ℕ) → P o → Leads test per size (Ok o)) → IfOk r P → Leads test per size r
leads_if test per size (Ok o) P f h = f o h
leads_if test per size (Err fault) P f h = tt

pub if_ok_then : {T E : Type 0} (r : Result T E) (P Q : T → Type 0) → ((x : T) → P x → Q x) → IfOk r P → IfOk r Q
if_ok_then (Ok x) P Q f h = f x h
if_ok_then (Err e) P Q f h = tt

-- a level that stands from its first block on, all in one block
pub edge_top : (tree : Tree) (test : IdTriple → Bool) (image : List ℕ) (payload : IsPayload tree.payload) (l first size n : ℕ) → first ≡ first_at tree l → size ≡ size_at tree l → size_at tree l ≤ tree.payload / 12
    → IsEdgeOf (λ k. passes test (key_from tree.payload first k image)) (0 * (tree.payload / 12)) (min ((0 + 1) * (tree.payload / 12)) size) n
    → IsEdgeAt tree l test image n
unfolding key_at
edge_top tree test image payload l first size n e f few edge =
    let low : 0 * (tree.payload / 12) ≡ 0 = grind arith in
    let high : min ((0 + 1) * (tree.payload / 12)) size ≡ size_at tree l = let g : (0 + 1) * (tree.payload / 12) ≡ tree.payload / 12 = grind arith in rw g (omega (arith, few, f)) in
    subst (λ h. IsEdgeOf (λ k. passes test (key_from tree.payload (first_at tree l) k image)) 0 h n) high
    (subst (λ b. IsEdgeOf (λ k. passes test (key_from tree.payload (first_at tree l) k image)) b (min ((0 + 1) * (tree.payload / 12)) size) n) low
    (subst (λ a. IsEdgeOf (λ k. passes test (key_from tree.payload a k image)) (0 * (tree.payload / 12)) (min ((0 + 1) * (tree.payload / 12)) size) n) e edge))

pub some_within : (r : Result (Option ℕ) ReadFault) (o : Option ℕ) (b n : ℕ) → r ≡ Ok o → o ≡ Some b → IfOk r (λ o. IfSome o (λ b. b < n)) → b < n
some_within r o b n e f h =
    let P : Result (Option ℕ) ReadFault → Type 0 = λ s. IfOk s (λ o. IfSome o (λ b. b < n)) in
    let Q : Option ℕ → Type 0 = λ o. IfSome o (λ b. b < n) in subst Q f (subst P e h)

pub leads_some : (test : ℕ → Bool) (per size : ℕ) (r : Result (Option ℕ) ReadFault) (o : Option ℕ) (b : ℕ) → r ≡ Ok o → o ≡ Some b → Leads test per size r → IsBlock test per size b
leads_some test per size r o b e f h = subst (λ p. Leads test per size (Ok p)) f (subst (Leads test per size) e h)

wide : (p : ℕ) → IsPayload p → 0 < p / 12
wide p payload = elim payload.one [ inl e ↦ rw e (omega arith) | inr e ↦ rw e (omega arith) ]

-- an edge in the block of a level in which the edge is
pub edge_at : (tree : Tree) (test : IdTriple → Bool) (image : List ℕ) (payload : IsPayload tree.payload) (l b first size n : ℕ) → first ≡ first_at tree l → size ≡ size_at tree l
    → IsBlock (λ k. passes test (key_at tree l k image)) (tree.payload / 12) (size_at tree l) b → b < size_at tree (suc l)
    → IsEdgeOf (λ k. passes test (key_from tree.payload first k image)) (b * (tree.payload / 12)) (min ((b + 1) * (tree.payload / 12)) size) n
    → IsEdgeAt tree l test image n
unfolding key_at
edge_at tree test image payload l b first size n e f block inside edge =
    let per = tree.payload / 12 in
    let Test : ℕ → Bool = λ k. passes test (key_from tree.payload (first_at tree l) k image) in
    edge_of_block Test per (size_at tree l) b n block (block_starts tree.payload (size_at tree l) b payload inside) (wide tree.payload payload)
    (subst (λ s. IsEdgeOf Test (b * per) (min ((b + 1) * per) s) n) f
    (subst (λ a. IsEdgeOf (λ k. passes test (key_from tree.payload a k image)) (b * per) (min ((b + 1) * per) size) n) e edge))

pub entry_block : (p n place : ℕ) → IsPayload p → place < n → place / (p / 12) < blocks_for (p / 12) n
unfolding blocks_for
entry_block p n place payload lt = elim payload.one [ inl e ↦ rw e (omega (arith, lt)) | inr e ↦ rw e (omega (arith, lt)) ]
