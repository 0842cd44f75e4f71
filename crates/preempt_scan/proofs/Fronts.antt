-- The keys with a front stand side by side in a list of keys in order.
use Rattle.std.proofs.Common.{◌≡◌, ℕ, zero, suc, ◌+◌, ◌≤◌, List, [], ◌∷◌, ◌++◌, length, take, drop, refl, ap, ◌∙◌, inl, inr, arith, Some, count_by, Bool, true, false, cond, Less, Equal, Greater}
use Rattle.std.specs.List.Sorted.{IsStrictlySortedBy}
use Rattle.std.specs.declared.cmp.Ordering.{Ordering}
use Rattle.std.specs.Ordering.{is_lt, is_le, is_eq}
use Rattle.std.proofs.lemmas.List.{length-append}
use Rattle.std.proofs.lemmas.List.Sums.{sum_by-cons, sum_by-append}
use Rattle.std.proofs.Math.Seq.{drop-append_seam, take-append_seam}
use Rattle.term_core.specs.declared.pattern.IdTriple.{IdTriple}
use Rattle.term_core.specs.Bags.{In}
use Rattle.term_core.specs.Ids.{id_cmp}
use Rattle.term_core.proofs.Bags.{from_In-filter}
use Rattle.term_core.proofs.Stretches.{AtMost, Parts, parts}
use Rattle.btree_scan.specs.declared.prefix.Prefix.{Prefix}
use Rattle.btree_scan.specs.Cuts.{prefix_cmp, stands_before}
use Rattle.btree_scan.proofs.Keys.{front_before}
use Rattle.preempt_scan.specs.Scans.{keys_with, keys_before}

at_most : (a b : Ordering) → (is_lt b ≡ true → is_lt a ≡ true) → (is_le b ≡ true → is_le a ≡ true) → AtMost a b
at_most Less b lt le = tt
at_most Equal Less lt le = let e : false ≡ true = lt refl in cc
at_most Equal Equal lt le = tt
at_most Equal Greater lt le = tt
at_most Greater Less lt le = let e : false ≡ true = lt refl in cc
at_most Greater Equal lt le = let e : false ≡ true = le refl in cc
at_most Greater Greater lt le = tt

-- a key's front stands to a prefix no later than that of a greater key
rises : (prefix : Prefix) (a b : IdTriple) → id_cmp a b ≡ Less → AtMost (prefix_cmp prefix a) (prefix_cmp prefix b)
unfolding IsStrictlySortedBy
rises prefix a b e =
    let two : IsStrictlySortedBy id_cmp (a ∷ b ∷ []) = ((e, tt), (tt, tt)) in
    let lt : suc zero ≤ 1 = omega arith in
    at_most (prefix_cmp prefix a) (prefix_cmp prefix b)
    (front_before false prefix (a ∷ b ∷ []) two 0 1 a b refl refl (omega arith))
    (front_before true prefix (a ∷ b ∷ []) two 0 1 a b refl refl (omega arith))

-- a list of keys of which all pass, and one of which none does
count_all : (p : IdTriple → Bool) (xs : List IdTriple) → ((x : IdTriple) → In xs x → p x ≡ true) → count_by p xs ≡ length xs
count_all p [] h = refl
count_all p (x ∷ xs) h =
    let step : count_by p (x ∷ xs) ≡ cond {A = ℕ} (p x) 1 0 + count_by p xs = sum_by-cons (λ y. cond {A = ℕ} (p y) 1 0) x xs in
    let here : cond {A = ℕ} (p x) 1 0 ≡ 1 = ap (λ b. cond {A = ℕ} b 1 0) (h x (inl refl)) in
    let rest = count_all p xs (λ y i. h y (inr i)) in
    omega arith

count_none : (p : IdTriple → Bool) (xs : List IdTriple) → ((x : IdTriple) → In xs x → p x ≡ false) → count_by p xs ≡ 0
count_none p [] h = refl
count_none p (x ∷ xs) h =
    let step : count_by p (x ∷ xs) ≡ cond {A = ℕ} (p x) 1 0 + count_by p xs = sum_by-cons (λ y. cond {A = ℕ} (p y) 1 0) x xs in
    let here : cond {A = ℕ} (p x) 1 0 ≡ 0 = ap (λ b. cond {A = ℕ} b 1 0) (h x (inl refl)) in
    let rest = count_none p xs (λ y i. h y (inr i)) in
    omega arith

not_less : (r : Ordering) → is_eq r ≡ true → is_lt r ≡ false
not_less Less e = cc
not_less Equal e = refl
not_less Greater e = refl

module _ (prefix : Prefix) (es : List IdTriple) (sorted : IsStrictlySortedBy id_cmp es) where
  abbrev run : List IdTriple
  run = keys_with (Some prefix) es

  cut : Parts id_cmp (prefix_cmp prefix) (rises prefix) es
  cut = parts id_cmp (prefix_cmp prefix) (rises prefix) es sorted

  -- so many keys stand before those with the front
  before_is : keys_before (Some prefix) es ≡ length cut.front
  before_is =
      let p = stands_before false prefix in
      let all = count_all p cut.front (λ x i. ap is_lt (cut.before x i)) in
      let none = count_none p run (λ x i. not_less (prefix_cmp prefix x) (from_In-filter (λ key. is_eq (prefix_cmp prefix key)) es x i).1) in
      let back = count_none p cut.back (λ x i. ap is_lt (cut.after x i)) in
      let whole : count_by p es ≡ count_by p (cut.front ++ (run ++ cut.back)) = ap (count_by p) cut.is in
      let two : count_by p (cut.front ++ (run ++ cut.back)) ≡ count_by p cut.front + count_by p (run ++ cut.back) = sum_by-append (λ y. cond {A = ℕ} (p y) 1 0) cut.front (run ++ cut.back) in
      let three : count_by p (run ++ cut.back) ≡ count_by p run + count_by p cut.back = sum_by-append (λ y. cond {A = ℕ} (p y) 1 0) run cut.back in
      omega arith

  -- the keys with the front, as a stretch of the list
  pub run_is : take (length run) (drop (keys_before (Some prefix) es) es) ≡ run
  run_is =
      ap (λ n. take (length run) (drop n es)) before_is
      ∙ ap (λ w. take (length run) (drop (length cut.front) w)) cut.is
      ∙ ap (take (length run)) (drop-append_seam cut.front (run ++ cut.back))
      ∙ take-append_seam run cut.back

  -- they end within the list
  pub run_ends : keys_before (Some prefix) es + length run ≤ length es
  run_ends = omega (arith, before_is, ap length cut.is, length-append cut.front (run ++ cut.back), length-append run cut.back)
