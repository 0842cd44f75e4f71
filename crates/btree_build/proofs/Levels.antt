-- One more block of a level.
use Rattle.std.proofs.Common.{◌≡◌, ℕ, zero, suc, ◌-◌, ◌<◌, ◌≤◌, inl, inr, ◌++◌, min, List, [], ◌∷◌, length, take, drop, get_or, sym, ap, ◌∙◌, arith, append_assoc, length-drop, refl, append-nil}
use Rattle.btree_build.specs.Trees.{block_bytes, level_bytes, firsts, blocks_for, level_of, above, IsPer}
use Rattle.term_core.specs.declared.pattern.IdTriple.{IdTriple}

module _ {X : Type 0} where
  pub take_min : (p : ℕ) (xs : List X) → take (min p (length xs)) xs ≡ take p xs
  take_min zero xs = let e : min zero (length xs) ≡ 0 = omega arith in ap (λ n. take n xs) e
  take_min (suc p) [] = let e : min (suc p) 0 ≡ 0 = omega arith in ap (λ n. take {A = X} n []) e
  take_min (suc p) (x ∷ xs) = ap (λ n. take n (x ∷ xs)) (let e : min (suc p) (length (x ∷ xs)) ≡ suc (min p (length xs)) = omega arith in e) ∙ ap (λ l. x ∷ l) (take_min p xs)

  pub drop_min : (p : ℕ) (xs : List X) → drop (min p (length xs)) xs ≡ drop p xs
  drop_min zero xs = let e : min zero (length xs) ≡ 0 = omega arith in ap (λ n. drop n xs) e
  drop_min (suc p) [] = let e : min (suc p) 0 ≡ 0 = omega arith in ap (λ n. drop {A = X} n []) e
  drop_min (suc p) (x ∷ xs) = ap (λ n. drop n (x ∷ xs)) (let e : min (suc p) (length (x ∷ xs)) ≡ suc (min p (length xs)) = omega arith in e) ∙ drop_min p xs

one_block : (per n : ℕ) → IsPer per → 0 < n → blocks_for per n ≡ suc (blocks_for per (n - per))
unfolding blocks_for
one_block per n is some = elim is.one [ inl e ↦ rw e (omega (arith, some)) | inr e ↦ rw e (omega (arith, some)) ]

module _ (per : ℕ) (rest : List IdTriple) (is : IsPer per) (some : 0 < length rest) where
  m : ℕ
  m = blocks_for per (length rest - per)

  count_left : (next : List IdTriple) → next ≡ drop per rest → blocks_for per (length next) ≡ m
  unfolding m
  count_left next left = ap (blocks_for per) (ap length left ∙ length-drop per rest)

  level_is : (next : List IdTriple) → next ≡ drop per rest → level_of per rest ≡ block_bytes (take per rest) ++ level_of per next
  unfolding m
  level_is next left =
      ap (λ k. level_bytes per k rest) (one_block per (length rest) is some)
      ∙ ap (λ k. block_bytes (take per rest) ++ level_bytes per k (drop per rest)) (sym (count_left next left))
      ∙ ap (λ l. block_bytes (take per rest) ++ level_bytes per (blocks_for per (length next)) l) (sym left)

  above_is : (next : List IdTriple) → next ≡ drop per rest → above per rest ≡ take 1 rest ++ above per next
  unfolding m
  above_is next left =
      ap (λ k. firsts per k rest) (one_block per (length rest) is some)
      ∙ ap (λ k. take 1 rest ++ firsts per k (drop per rest)) (sym (count_left next left))
      ∙ ap (λ l. take 1 rest ++ firsts per (blocks_for per (length next)) l) (sym left)

  pub level_more : (count : ℕ) (old new all : List ℕ) (front next : List IdTriple) → count ≡ min per (length rest) → front ≡ take count rest → next ≡ drop count rest
      → new ≡ old ++ block_bytes front → old ++ level_of per rest ≡ all → new ++ level_of per next ≡ all
  level_more count old new all front next e f n put h =
      let left : next ≡ drop per rest = n ∙ ap (λ k. drop k rest) e ∙ drop_min per rest in
      let piece : front ≡ take per rest = f ∙ ap (λ k. take k rest) e ∙ take_min per rest in
      ap (λ l. l ++ level_of per next) (put ∙ ap (λ l. old ++ block_bytes l) piece) ∙ append_assoc old (block_bytes (take per rest)) (level_of per next)
      ∙ (sym (ap (λ l. old ++ l) (level_is next left)) ∙ h)

  pub above_more : (count : ℕ) (first : IdTriple) (old new all next : List IdTriple) → count ≡ min per (length rest) → first ∷ [] ≡ take 1 rest → next ≡ drop count rest
      → new ≡ old ++ first ∷ [] → old ++ above per rest ≡ all → new ++ above per next ≡ all
  above_more count first old new all next e f n put h =
      let left : next ≡ drop per rest = n ∙ ap (λ k. drop k rest) e ∙ drop_min per rest in
      ap (λ l. l ++ above per next) (put ∙ ap (λ l. old ++ l) f) ∙ append_assoc old (take 1 rest) (above per next)
      ∙ (sym (ap (λ l. old ++ l) (above_is next left)) ∙ h)

pub first_taken : (n : ℕ) (xs : List IdTriple) (d : IdTriple) → 0 < n → 0 < length xs → get_or (take n xs) 0 d ∷ [] ≡ take 1 xs
first_taken zero xs d h i = absurd (omega arith)
first_taken (suc n) [] d h i = absurd (omega arith)
first_taken (suc n) (x ∷ xs) d h i = refl

pub wide : (per : ℕ) → IsPer per → 0 < per
wide per is = elim is.one [ inl e ↦ rw e (omega arith) | inr e ↦ rw e (omega arith) ]

no_blocks : (per : ℕ) → IsPer per → blocks_for per 0 ≡ 0
unfolding blocks_for
no_blocks per is = elim is.one [ inl e ↦ rw e (omega arith) | inr e ↦ rw e (omega arith) ]

pub level_ended : (per : ℕ) (rest : List IdTriple) (out all : List ℕ) → IsPer per → length rest ≤ 0 → out ++ level_of per rest ≡ all → out ≡ all
level_ended per [] out all is e h = sym (append-nil out) ∙ ap (λ k. out ++ level_bytes per k []) (sym (no_blocks per is)) ∙ h
level_ended per (x ∷ rest) out all is e h = absurd (omega arith)

pub above_ended : (per : ℕ) (rest out all : List IdTriple) → IsPer per → length rest ≤ 0 → out ++ above per rest ≡ all → out ≡ all
above_ended per [] out all is e h = sym (append-nil out) ∙ ap (λ k. out ++ firsts per k []) (sym (no_blocks per is)) ∙ h
above_ended per (x ∷ rest) out all is e h = absurd (omega arith)
