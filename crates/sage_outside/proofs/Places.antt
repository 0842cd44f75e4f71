-- What the map of a list of files has at a name, and what it becomes where a file is replaced.
use Rattle.std.proofs.Common.{◌≡◌, ℕ, zero, suc, ◌<◌, List, [], ◌∷◌, Bool, true, false, cond, Option, Some, None, get_or, set, length, string_bytes, refl, sym, ap, ◌∙◌, arith, ◌≤◌, IsSome, IfNone, IfSome, Ok, Err, subst}
use Rattle.std.specs.Ordering.{nat_cmp}
use Rattle.std.specs.Cmp.Lexicographic.{slice_cmp}
use Rattle.std.specs.Str.{bytes_eq}
use Rattle.std.specs.List.{position, position_or_len}
use Rattle.std.proofs.lemmas.Bool.{ltb-false}
use Rattle.std.proofs.lemmas.Option.{none-some, get_or_from_slice_get}
use Rattle.std.proofs.lemmas.List.Quantifiers.{position-Some}
use Rattle.std.proofs.lemmas.List.Sums.{fails_before_first}
use Rattle.std.specs.FinMap.{get, insert, get-insert, get-empty, same_map, slice_cmp-IsAntisymmetric, nat_cmp-IsAntisymmetric}
use Rattle.std.proofs.lemmas.Cmp.{nat_list_cmp_total}
use Rattle.std.proofs.lemmas.Map.Text.{is_eq-slice_cmp}
use Rattle.std.proofs.lemmas.Slice.Eq.{bytes_eq-Decides}
use Rattle.sage_outside.specs.declared.memory.MemFile.{MemFile}
use Rattle.sage_outside.specs.declared.shelf.ShelfFault.TheVariants.{Failed}
use Rattle.sage_outside.specs.Shelf.{Files, Finds}
use Rattle.sage_outside.specs.Memory.{files_of, is_named, IsPlace}

-- what a map has after an insertion, by the test of the names' bytes
get_after : (m : Files) (k v q : List ℕ) → get (insert m k v) q ≡ cond (bytes_eq q k) (Some v) (get m q)
get_after m k v q = get-insert nat_list_cmp_total m k v q ∙ ap (λ b. cond b (Some v) (get m q)) (is_eq-slice_cmp q k)

-- two maps of files that have the same at each name are one
same_files : (m n : Files) → ((q : List ℕ) → get m q ≡ get n q) → m ≡ n
same_files m n is = same_map nat_list_cmp_total (slice_cmp-IsAntisymmetric nat_cmp-IsAntisymmetric) m n is

twice : {A : Type 0} (b : Bool) (x y z : A) → cond b x z ≡ cond b x (cond b y z)
twice true x y z = refl
twice false x y z = refl

either_first : {A : Type 0} (b c : Bool) (x y z : A) → (b ≡ true → c ≡ true → ⊥) → cond b x (cond c y z) ≡ cond c y (cond b x z)
either_first true true x y z apart = absurd (apart refl refl)
either_first true false x y z apart = refl
either_first false c x y z apart = refl

false_is_true : false ≡ true → ⊥
false_is_true e = cc

module _ (name : List ℕ) where
  -- no file before this place has the name
  abbrev pub NoneBefore : List MemFile → ℕ → MemFile → Type 0
  NoneBefore fs i d = (k : ℕ) → k < i → is_named name (get_or fs k d) ≡ false

  pub get_first : (fs : List MemFile) (i : ℕ) (d : MemFile) → i < length fs → NoneBefore fs i d → is_named name (get_or fs i d) ≡ true → get (files_of fs) name ≡ Some (get_or fs i d).bytes.items
  get_first [] i d within before is = absurd (omega (arith, within))
  get_first (f ∷ fs) zero d within before is =
      get_after (files_of fs) (string_bytes f.name) f.bytes.items name ∙ ap (λ b. cond b (Some f.bytes.items) (get (files_of fs) name)) is
  get_first (f ∷ fs) (suc i) d within before is =
      get_after (files_of fs) (string_bytes f.name) f.bytes.items name
      ∙ ap (λ b. cond b (Some f.bytes.items) (get (files_of fs) name)) (before 0 (omega arith))
      ∙ get_first fs i d (omega (arith, within)) (λ k lt. before (suc k) (omega (arith, lt))) is

  pub get_nowhere : (fs : List MemFile) (d : MemFile) → NoneBefore fs (length fs) d → get (files_of fs) name ≡ None
  get_nowhere [] d before = get-empty (slice_cmp nat_cmp) name
  get_nowhere (f ∷ fs) d before =
      get_after (files_of fs) (string_bytes f.name) f.bytes.items name
      ∙ ap (λ b. cond b (Some f.bytes.items) (get (files_of fs) name)) (before 0 (omega arith))
      ∙ get_nowhere fs d (λ k lt. before (suc k) (omega (arith, lt)))

  -- a file of the name in the place of the first one counts at that name alone
  pub get_replaced : (fs : List MemFile) (i : ℕ) (d g : MemFile) (q : List ℕ) → i < length fs → NoneBefore fs i d → is_named name (get_or fs i d) ≡ true → string_bytes g.name ≡ name
      → get (files_of (set fs i g)) q ≡ cond (bytes_eq q name) (Some g.bytes.items) (get (files_of fs) q)
  get_replaced [] i d g q within before is named = absurd (omega (arith, within))
  get_replaced (f ∷ fs) zero d g q within before is named =
      let tie : name ≡ string_bytes f.name = (bytes_eq-Decides name (string_bytes f.name)).0 is in
      let rest : Option (List ℕ) = get (files_of fs) q in
      get_after (files_of fs) (string_bytes g.name) g.bytes.items q
      ∙ ap (λ n. cond (bytes_eq q n) (Some g.bytes.items) rest) named
      ∙ twice (bytes_eq q name) (Some g.bytes.items) (Some f.bytes.items) rest
      ∙ ap (λ r. cond (bytes_eq q name) (Some g.bytes.items) r)
      (ap (λ n. cond (bytes_eq q n) (Some f.bytes.items) rest) tie ∙ sym (get_after (files_of fs) (string_bytes f.name) f.bytes.items q))
  get_replaced (f ∷ fs) (suc i) d g q within before is named =
      let rest : Option (List ℕ) = get (files_of fs) q in
      let apart : name ≡ string_bytes f.name → ⊥ = λ tie. false_is_true (sym (before 0 (omega arith)) ∙ (bytes_eq-Decides name (string_bytes f.name)).1 tie) in
      get_after (files_of (set fs i g)) (string_bytes f.name) f.bytes.items q
      ∙ ap (λ r. cond (bytes_eq q (string_bytes f.name)) (Some f.bytes.items) r)
      (get_replaced fs i d g q (omega (arith, within)) (λ k lt. before (suc k) (omega (arith, lt))) is named)
      ∙ either_first (bytes_eq q (string_bytes f.name)) (bytes_eq q name) (Some f.bytes.items) (Some g.bytes.items) rest
      (λ this that. apart (sym ((bytes_eq-Decides q name).0 that) ∙ (bytes_eq-Decides q (string_bytes f.name)).0 this))
      ∙ ap (λ r. cond (bytes_eq q name) (Some g.bytes.items) r) (sym (get_after (files_of fs) (string_bytes f.name) f.bytes.items q))

  -- where a name has these bytes already, an insertion of them changes nothing
  unchanged_at : (m : Files) (bytes : List ℕ) (q : List ℕ) (b : Bool) → get m name ≡ Some bytes → (b ≡ true → q ≡ name) → cond b (Some bytes) (get m q) ≡ get m q
  unchanged_at m bytes q true has tie = sym has ∙ ap (λ n. get m n) (sym (tie refl))
  unchanged_at m bytes q false has tie = refl

  there_where : {o : Option (List ℕ)} {bytes : List ℕ} → o ≡ Some bytes → IsSome o
  there_where e = let P : Option (List ℕ) → Type 0 = λ o. IsSome o in subst P (sym e) refl

  -- the place that the search gives is that of the first file of the name
  module _ (fs : List MemFile) (i : ℕ) (d : MemFile) (within : i < length fs) (before : NoneBefore fs i d) (is : is_named name (get_or fs i d) ≡ true) where
    first_of_name : IsPlace fs name i
    first_of_name = record {
      within = within;
      there = there_where (get_first fs i d within before is);
      found = λ file at.
          let here : get_or fs i d ≡ file = get_or_from_slice_get fs i file d at in (
            ap (λ f. string_bytes f.name) (sym here) ∙ sym ((bytes_eq-Decides name (string_bytes (get_or fs i d).name)).0 is),
            get_first fs i d within before is ∙ ap (λ f. Some f.bytes.items) here,
          );
      replaced = λ g named. same_files (files_of (set fs i g)) (insert (files_of fs) name g.bytes.items)
          (λ q. get_replaced fs i d g q within before is named ∙ sym (get_after (files_of fs) name g.bytes.items q));
      kept = λ g named has. same_files (files_of (set fs i g)) (files_of fs)
          (λ q. get_replaced fs i d g q within before is named ∙ unchanged_at (files_of fs) g.bytes.items q (bytes_eq q name) has (bytes_eq-Decides q name).0);
    }

  pub is_place : (fs : List MemFile) (i : ℕ) → position (is_named name) fs ≡ Some i → IsPlace fs name i
  is_place [] i e = absurd (none-some i e)
  is_place (f ∷ fs) i e =
      let at : (i < length (f ∷ fs)) × (is_named name (get_or (f ∷ fs) i f) ≡ true) × NoneBefore (f ∷ fs) i f = position-Some (is_named name) (f ∷ fs) i f e in
      first_of_name (f ∷ fs) i f at.0 at.2 at.1

  past : (b : Bool) (n : ℕ) → cond b (Some n) None ≡ None → b ≡ false
  past true n e = absurd (none-some n (sym e))
  past false n e = refl

  pub no_place : (fs : List MemFile) → position (is_named name) fs ≡ None → get (files_of fs) name ≡ None
  no_place [] e = get-empty (slice_cmp nat_cmp) name
  no_place (f ∷ fs) e =
      let n : ℕ = position_or_len (is_named name) (f ∷ fs) in
      let all : length (f ∷ fs) ≤ n = ltb-false n (length (f ∷ fs)) (past _ n e) in
      get_nowhere (f ∷ fs) f (λ k lt. fails_before_first (is_named name) (f ∷ fs) k f (omega (arith, lt, all)))

-- what the search for a name answers, as the map of the files has it
pub nowhere_or_place : (name : List ℕ) (fs : List MemFile) (r : Option ℕ) → r ≡ position (is_named name) fs → IfNone r (get (files_of fs) name ≡ None) × IfSome r (λ i. IsPlace fs name i)
nowhere_or_place name fs None e = (no_place name fs (sym e), tt)
nowhere_or_place name fs (Some i) e = (tt, is_place name fs i (sym e))

-- a call on a file that is there may answer `Failed`, and may be done where no value is asked
pub fails_there : (o : Option (List ℕ)) → IsSome o → Finds {T = Unit {0}} (λ _ _. Unit {0}) o (Err Failed)
fails_there None there = absurd (false_is_true there)
fails_there (Some bytes) there = tt

pub done_there : (o : Option (List ℕ)) → IsSome o → Finds (λ _ _. Unit {0}) o (Ok (tt {0}))
done_there None there = absurd (false_is_true there)
done_there (Some bytes) there = tt
