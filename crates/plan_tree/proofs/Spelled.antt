-- The bytes of states.
use Rattle.std.proofs.Common.{◌≡◌, ℕ, zero, suc, ◌+◌, ◌*◌, ◌^◌, ◌<◌, ◌≤◌, List, [], ◌∷◌, ◌++◌, length, take, drop, Option, Some, None, refl, sym, ap, ◌∙◌, subst, ⊎_elim, arith, length-append, append_assoc}
use Rattle.std.specs.Prelude.{slice_get, Bool, not}
use Rattle.std.specs.Int.{w32, from_be_bytes}
use Rattle.std.specs.Ordering.{is_lt}
use Rattle.std.proofs.Math.Seq.{take-append_seam, drop-append_seam}
use Rattle.std.proofs.lemmas.Nat.{from_be_bytes-to_be_bytes_4}
use Rattle.std.proofs.lemmas.List.{drop-drop}
use Rattle.std.proofs.lemmas.List.Filters.{length-filter_both}
use Rattle.sha2.specs.Sha256.{sha256}
use Rattle.sha2.proofs.Facts256.{length-sha256}
use Rattle.term_core.specs.declared.term.Term.{Term}
use Rattle.term_core.specs.declared.term.Triple.{Triple}
use Rattle.term_core.specs.declared.pattern.IdTriple.{IdTriple}
use Rattle.term_core.specs.Order.{term_cmp}
use Rattle.term_core.proofs.Merges.{Some_same}
use Rattle.term_core.specs.Patterns.{Pattern}
use Rattle.term_core.specs.Data.{terms_of, rank, data_id}
use Rattle.plan_tree.specs.Trace.{Plan, rows_plan, join_plan, union_plan, filter_plan, bind_plan, project_plan, Entries, trace}
use Rattle.plan_tree.specs.States.{Inner, idle, opened, at_triple, State, done, table_state, join_state, union_state, InnerAt, Stands}
use Rattle.term_core.specs.Ids.{number_bytes, ids_bytes}
use Rattle.plan_tree.specs.Spelling.{inner_bytes, state_bytes, plan_bytes, nodes}
use Rattle.plan_tree.specs.StateLaws.{HasFewRows, IsCountable, HasParts, NameAlike}
use Rattle.plan_tree.specs.Pages.{IsNext}
use Rattle.plan_tree.specs.Reached.{can_end_in_row, CanFollow, IsShape, IsWholeShape}
use Rattle.plan_tree.proofs.Apart.{other_places}

-- lengths
inner_bound : (inner : Inner) → length (inner_bytes inner) ≤ 13
inner_bound idle = omega arith
inner_bound opened = omega arith
inner_bound (at_triple ids) = omega arith

pub state_bound : (D : List Triple) (plan : Plan) (state : State) (n : ℕ) → Stands D plan state n → length (state_bytes state) ≤ 14 * nodes plan
state_bound D (rows_plan variables rows) (table_state place) n h = omega arith
state_bound D (join_plan left p) (join_state below inner) n (m, h, at) =
    omega (arith, length-append (state_bytes below) (inner_bytes inner), inner_bound inner, state_bound D left below m h)
state_bound D (union_plan first second) (union_state zero state) n h = omega (arith, state_bound D first state n h)
state_bound D (union_plan first second) (union_state (suc zero) state) n (k, h, e) = omega (arith, state_bound D second state k h)
state_bound D (filter_plan inner condition) state n h = omega (arith, state_bound D inner state n h)
state_bound D (bind_plan inner variable e) state n h = omega (arith, state_bound D inner state n h)
state_bound D (project_plan inner names) state n h = omega (arith, state_bound D inner state n h)
state_bound D plan state n h = absurd h

spelled_bound : (D : List Triple) (text : List ℕ) (state : State) (most : ℕ) → length (state_bytes state) ≤ most → length (plan_bytes D text state) ≤ 65 + most
spelled_bound D text state most h =
    omega (
      arith,
      length-append (data_id D) (sha256 text ++ state_bytes state),
      length-append (sha256 text) (state_bytes state),
      length-sha256 text,
      named D,
      h,
    )
  where
    named : (E : List Triple) → length (data_id E) ≡ 32
    named E = length-sha256 _

pub bounded : (D : List Triple) (plan : Plan) (text : List ℕ) (state : State) (n : ℕ) → Stands D plan state n → length (plan_bytes D text state) ≤ 65 + 14 * nodes plan
bounded D plan text state n h = spelled_bound D text state (14 * nodes plan) (state_bound D plan state n h)

-- the same of states of the plan's shape
shape_bound : (plan : Plan) (state : State) → IsShape plan state → length (state_bytes state) ≤ 14 * nodes plan
shape_bound (rows_plan variables rows) (table_state place) h = omega arith
shape_bound (join_plan left p) (join_state below inner) h =
    omega (arith, length-append (state_bytes below) (inner_bytes inner), inner_bound inner, shape_bound left below h.0)
shape_bound (union_plan first second) (union_state zero state) h = omega (arith, shape_bound first state h)
shape_bound (union_plan first second) (union_state (suc zero) state) h = omega (arith, shape_bound second state h)
shape_bound (filter_plan inner condition) state h = omega (arith, shape_bound inner state h)
shape_bound (bind_plan inner variable e) state h = omega (arith, shape_bound inner state h)
shape_bound (project_plan inner names) state h = omega (arith, shape_bound inner state h)
shape_bound plan state h = absurd assumption

some_nodes : (plan : Plan) → 1 ≤ nodes plan
some_nodes (rows_plan variables rows) = omega arith
some_nodes (join_plan left p) = omega arith
some_nodes (union_plan first second) = omega arith
some_nodes (filter_plan inner condition) = omega arith
some_nodes (bind_plan inner variable e) = omega arith
some_nodes (project_plan inner names) = omega arith

whole_bound : (plan : Plan) (state : State) → IsWholeShape plan state → length (state_bytes state) ≤ 14 * nodes plan
whole_bound plan state h = ⊎_elim
    (λ e. subst (λ s. length (state_bytes s) ≤ 14 * nodes plan) (sym e) (omega (arith, some_nodes plan)))
    (λ l. shape_bound plan state l)
    h

pub shapes_short : (D : List Triple) (plan : Plan) (text : List ℕ) (state : State) → IsWholeShape plan state → length (plan_bytes D text state) ≤ 65 + 14 * nodes plan
shapes_short D plan text state h = spelled_bound D text state (14 * nodes plan) (whole_bound plan state h)

-- what stands where
three_parts : (a b c : List ℕ) → length a ≡ 32 → length b ≡ 32 → (take 32 (a ++ (b ++ c)) ≡ a) × (take 32 (drop 32 (a ++ (b ++ c))) ≡ b) × (drop 64 (a ++ (b ++ c)) ≡ c)
three_parts a b c p q =
    let past : drop 32 (a ++ (b ++ c)) ≡ b ++ c = subst (λ n. drop n (a ++ (b ++ c)) ≡ b ++ c) p (drop-append_seam a (b ++ c)) in (
      subst (λ n. take n (a ++ (b ++ c)) ≡ a) p (take-append_seam a (b ++ c)),
      ap (take 32) past ∙ subst (λ n. take n (b ++ c) ≡ b) q (take-append_seam b c),
      sym (drop-drop 32 32 (a ++ (b ++ c))) ∙ ap (drop 32) past ∙ subst (λ n. drop n (b ++ c) ≡ c) q (drop-append_seam b c),
    )

pub parts_are : (D : List Triple) (text : List ℕ) (state : State) → HasParts D text state (plan_bytes D text state)
parts_are D text state =
    let r = three_parts (data_id D) (sha256 text) (state_bytes state) (length-sha256 _) (length-sha256 text) in
    record { version = refl; data_name = r.0; text_name = r.1; state_is = r.2 }

-- states whose numbers fit into four bytes
abbrev IsSmallInner : Inner → Type 0
IsSmallInner idle = Unit {0}
IsSmallInner opened = Unit {0}
IsSmallInner (at_triple ids) = (ids.s < 2 ^ 32) × (ids.p < 2 ^ 32) × (ids.o < 2 ^ 32)

abbrev IsSmall : State → Type 0
IsSmall done = Unit {0}
IsSmall (table_state place) = place < 2 ^ 32
IsSmall (join_state left inner) = IsSmall left × IsSmallInner inner
IsSmall (union_state side active) = IsSmall active

pub rank_bound : (D : List Triple) (t : Term) → length (terms_of D) < 2 ^ 32 → rank D t < 2 ^ 32
rank_bound D t h =
    let below : Term → Bool = λ u. is_lt (term_cmp u t) in
    omega (arith, h, length-filter_both below (λ u. not (below u)) (λ u. refl) (terms_of D))

small_inner : (D : List Triple) (p : Pattern) (entries : Entries) (m : ℕ) (inner : Inner) (n : ℕ) → length (terms_of D) < 2 ^ 32 → InnerAt D p entries m inner n → IsSmallInner inner
small_inner D p entries m idle n h at = tt
small_inner D p entries m opened n h at = tt
small_inner D p entries zero (at_triple ids) n h at = absurd at
small_inner D p entries (suc m) (at_triple ids) n h (row, k, t, is, found, ranks, sum) =
    subst (λ i. IsSmallInner (at_triple i)) (sym ranks) (rank_bound D t.subject h, rank_bound D t.predicate h, rank_bound D t.object h)

small_state : (D : List Triple) (plan : Plan) (state : State) (n : ℕ) → HasFewRows plan → length (terms_of D) < 2 ^ 32 → Stands D plan state n → IsSmall state
small_state D (rows_plan variables rows) (table_state place) n few h at = omega (arith, few, at.0)
small_state D (join_plan left p) (join_state below inner) n few h (m, at, part) =
    (small_state D left below m few h at, small_inner D p (trace D left) m inner n h part)
small_state D (union_plan first second) (union_state zero state) n few h at = small_state D first state n few.0 h at
small_state D (union_plan first second) (union_state (suc zero) state) n few h (k, at, e) = small_state D second state k few.1 h at
small_state D (filter_plan inner condition) state n few h at = small_state D inner state n few h at
small_state D (bind_plan inner variable e) state n few h at = small_state D inner state n few h at
small_state D (project_plan inner names) state n few h at = small_state D inner state n few h at
small_state D plan state n few h at = absurd at

-- no spelling begins another
number_same : (m n : ℕ) (x y : List ℕ) → m < 2 ^ 32 → n < 2 ^ 32 → number_bytes m ++ x ≡ number_bytes n ++ y → (m ≡ n) × (x ≡ y)
number_same m n x y h g e = (
  sym (from_be_bytes-to_be_bytes_4 m h) ∙ ap (λ bytes. from_be_bytes w32 (take 4 bytes)) e ∙ from_be_bytes-to_be_bytes_4 n g,
  ap (drop 4) e,
)

tails_same : (a b : ℕ) (x y : List ℕ) → a ∷ x ≡ b ∷ y → x ≡ y
tails_same a b x y e = ap (drop 1) e

heads_apart : (a b : ℕ) (x y : List ℕ) → (a ≡ b → ⊥) → a ∷ x ≡ b ∷ y → ⊥
heads_apart a b x y h e = h (Some_same a b (ap (λ l. slice_get l 0) e))

ids_same : (a b : IdTriple) (x y : List ℕ) → IsSmallInner (at_triple a) → IsSmallInner (at_triple b) → ids_bytes a ++ x ≡ ids_bytes b ++ y → (a ≡ b) × (x ≡ y)
ids_same a b x y h g e =
    let s = number_same a.s b.s (number_bytes a.p ++ (number_bytes a.o ++ x)) (number_bytes b.p ++ (number_bytes b.o ++ y)) h.0 g.0 e in
    let p = number_same a.p b.p (number_bytes a.o ++ x) (number_bytes b.o ++ y) h.1 g.1 s.1 in
    let o = number_same a.o b.o x y h.2 g.2 p.1 in
    let same : a ≡ b = λ i. record { s = s.0 i; p = p.0 i; o = o.0 i } in
    (same, o.1)

inner_same : (a b : Inner) (x y : List ℕ) → IsSmallInner a → IsSmallInner b → inner_bytes a ++ x ≡ inner_bytes b ++ y → (a ≡ b) × (x ≡ y)
inner_same idle idle x y h g e = (refl, tails_same 0 0 _ _ e)
inner_same idle opened x y h g e = absurd (heads_apart 0 1 _ _ (λ n. omega (arith, n)) e)
inner_same idle (at_triple ids) x y h g e = absurd (heads_apart 0 2 _ _ (λ n. omega (arith, n)) e)
inner_same opened idle x y h g e = absurd (heads_apart 1 0 _ _ (λ n. omega (arith, n)) e)
inner_same opened opened x y h g e = (refl, tails_same 1 1 _ _ e)
inner_same opened (at_triple ids) x y h g e = absurd (heads_apart 1 2 _ _ (λ n. omega (arith, n)) e)
inner_same (at_triple ids) idle x y h g e = absurd (heads_apart 2 0 _ _ (λ n. omega (arith, n)) e)
inner_same (at_triple ids) opened x y h g e = absurd (heads_apart 2 1 _ _ (λ n. omega (arith, n)) e)
inner_same (at_triple ids) (at_triple others) x y h g e =
    let r = ids_same ids others x y h g (tails_same 2 2 _ _ e) in (ap at_triple r.0, r.1)

pub state_same : (a b : State) (x y : List ℕ) → IsSmall a → IsSmall b → state_bytes a ++ x ≡ state_bytes b ++ y → (a ≡ b) × (x ≡ y)
state_same done done x y h g e = (refl, tails_same 0 0 _ _ e)
state_same done (table_state j) x y h g e = absurd (heads_apart 0 1 _ _ (λ n. omega (arith, n)) e)
state_same done (join_state b j) x y h g e = absurd (heads_apart 0 2 _ _ (λ n. omega (arith, n)) e)
state_same done (union_state t b) x y h g e = absurd (heads_apart 0 3 _ _ (λ n. omega (arith, n)) e)
state_same (table_state i) done x y h g e = absurd (heads_apart 1 0 _ _ (λ n. omega (arith, n)) e)
state_same (table_state i) (table_state j) x y h g e =
    let r = number_same i j x y h g (tails_same 1 1 _ _ e) in (ap table_state r.0, r.1)
state_same (table_state i) (join_state b j) x y h g e = absurd (heads_apart 1 2 _ _ (λ n. omega (arith, n)) e)
state_same (table_state i) (union_state t b) x y h g e = absurd (heads_apart 1 3 _ _ (λ n. omega (arith, n)) e)
state_same (join_state a i) done x y h g e = absurd (heads_apart 2 0 _ _ (λ n. omega (arith, n)) e)
state_same (join_state a i) (table_state j) x y h g e = absurd (heads_apart 2 1 _ _ (λ n. omega (arith, n)) e)
state_same (join_state a i) (union_state t b) x y h g e = absurd (heads_apart 2 3 _ _ (λ n. omega (arith, n)) e)
state_same (join_state a i) (join_state b j) x y h g e =
    let r = state_same a b (inner_bytes i ++ x) (inner_bytes j ++ y) h.0 g.0
    (sym (append_assoc (state_bytes a) (inner_bytes i) x) ∙ tails_same 2 2 _ _ e ∙ append_assoc (state_bytes b) (inner_bytes j) y) in
    let s = inner_same i j x y h.1 g.1 r.1 in
    ((λ l. join_state (r.0 l) (s.0 l)), s.1)
state_same (union_state s a) done x y h g e = absurd (heads_apart 3 0 _ _ (λ n. omega (arith, n)) e)
state_same (union_state s a) (table_state j) x y h g e = absurd (heads_apart 3 1 _ _ (λ n. omega (arith, n)) e)
state_same (union_state s a) (join_state b j) x y h g e = absurd (heads_apart 3 2 _ _ (λ n. omega (arith, n)) e)
state_same (union_state s a) (union_state t b) x y h g e =
    let sides : s ≡ t = Some_same s t (ap (λ l. slice_get l 1) e) in
    let r = state_same a b x y h g (tails_same s t _ _ (tails_same 3 3 _ _ e)) in
    ((λ l. union_state (sides l) (r.0 l)), r.1)

-- the numbers in states of a plan's shape fit into four bytes
followed_small : (can : Bool) (inner : Inner) → CanFollow can inner → IsSmallInner inner
followed_small can idle h = tt
followed_small can opened h = tt
followed_small can (at_triple ids) h = h.1

shape_small : (plan : Plan) (state : State) → HasFewRows plan → IsShape plan state → IsSmall state
shape_small (rows_plan variables rows) (table_state place) few h = omega (arith, few, h)
shape_small (join_plan left p) (join_state below inner) few h =
    (shape_small left below few h.0, followed_small (can_end_in_row below) inner h.1)
shape_small (union_plan first second) (union_state zero state) few h = shape_small first state few.0 h
shape_small (union_plan first second) (union_state (suc zero) state) few h = shape_small second state few.1 h
shape_small (filter_plan inner condition) state few h = shape_small inner state few h
shape_small (bind_plan inner variable e) state few h = shape_small inner state few h
shape_small (project_plan inner names) state few h = shape_small inner state few h
shape_small plan state few h = absurd assumption

whole_small : (plan : Plan) (state : State) → HasFewRows plan → IsWholeShape plan state → IsSmall state
whole_small plan state few h = ⊎_elim (λ e. subst IsSmall (sym e) tt) (λ s. shape_small plan state few s) h

pub one_shape : (plan : Plan) (a b : State) → HasFewRows plan → IsWholeShape plan a → IsWholeShape plan b → state_bytes a ≡ state_bytes b → a ≡ b
one_shape plan a b few x y e = (state_same a b [] [] (whole_small plan a few x) (whole_small plan b few y) (ap (λ w. w ++ []) e)).0

pub names_told : (D E : List Triple) (text other : List ℕ) (a b : State) → plan_bytes D text a ≡ plan_bytes E other b → NameAlike D E text other a b
names_told D E text other a b e =
    let x = parts_are D text a in let y = parts_are E other b in
    record {
      same_data = sym x.data_name ∙ ap (λ bytes. take 32 (drop 1 bytes)) e ∙ y.data_name;
      same_text = sym x.text_name ∙ ap (λ bytes. take 32 (drop 33 bytes)) e ∙ y.text_name;
      same_state = sym x.state_is ∙ ap (drop 65) e ∙ y.state_is;
    }

pub one_spelling : (D : List Triple) (plan : Plan) (text : List ℕ) (a b : State) (m n : ℕ) → IsCountable D plan → Stands D plan a m → Stands D plan b n → plan_bytes D text a ≡ plan_bytes D text b → a ≡ b
one_spelling D plan text a b m n h x y e =
    (state_same a b [] [] (small_state D plan a m h.rows h.terms x) (small_state D plan b n h.rows h.terms y)
    (ap (λ w. w ++ []) (names_told D D text text a b e).same_state)).0

pub next_placed : (D : List Triple) (plan : Plan) (text : List ℕ) (next : Option (List ℕ)) (m n : ℕ) → IsCountable D plan → IsNext D plan text m next → IsNext D plan text n next → m ≡ n
next_placed D plan text None m n h x y = x ∙ sym y
next_placed D plan text (Some bytes) m n h (a, x, d) (b, y, e) =
    let same : a ≡ b = one_spelling D plan text a b m n h x y (sym d ∙ e) in
    other_places D plan b m n (subst (λ w. Stands D plan w m) same x) y
