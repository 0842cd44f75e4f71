-- States are read from their bytes, and from no others.
use Rattle.std.proofs.Common.{◌≡◌, ℕ, zero, suc, ◌^◌, ◌<◌, ◌≤◌, Bool, true, false, List, [], ◌∷◌, ◌++◌, length, Some, None, refl, sym, ap, ◌∙◌, arith, get_or, subst, ⊎_elim, inl, inr, append_assoc}
use Rattle.std.specs.Prelude.{nat_le, slice_index, take, drop, Ok}
use Rattle.std.proofs.lemmas.List.{drop-drop, take-append-drop}
use Rattle.std.specs.Int.{w32, from_be_bytes}
use Rattle.std.proofs.lemmas.Nat.{from_be_bytes-to_be_bytes_4, be_bytes_4}
use Rattle.std.proofs.lemmas.Bool.{leb-true, le-leb}
use Rattle.term_core.specs.declared.pattern.IdTriple.{IdTriple}
use Rattle.term_core.specs.Ids.{number_bytes, ids_bytes}
use Rattle.term_core.specs.Patterns.{Pattern}
use Rattle.plan_tree.specs.Trace.{Plan, rows_plan, join_plan, union_plan, filter_plan, bind_plan, project_plan}
use Rattle.plan_tree.specs.States.{Inner, idle, opened, at_triple, State, done, table_state, join_state, union_state}
use Rattle.plan_tree.specs.Spelling.{inner_bytes, state_bytes}
use Rattle.plan_tree.specs.Reached.{can_end_in_row, AreSmall, CanFollow, IsShape, IsWholeShape}
use Rattle.plan_tree.specs.StateLaws.{HasFewRows}
use Rattle.plan_bytes.specs.Spelled.{spelled}
use Rattle.plan_bytes.specs.Refusals.{HeadIs}
use Rattle.plan_bytes.specs.Reading.{Read, number_at, placed, third, second, first, triple_at, inner_at, joined, join_at, union_at, state_at, alone, whole_at}

pub Some_same : {X : Type 0} (x y : X) → Some x ≡ Some y → x ≡ y
Some_same x y e = cc

-- written and read again
number_again : (n : ℕ) (rest : List ℕ) → n < 2 ^ 32 → number_at (number_bytes n ++ rest) ≡ Some (n, rest)
number_again n rest h = λ i. Some (from_be_bytes-to_be_bytes_4 n h i, rest)

triple_again : (ids : IdTriple) (rest : List ℕ) → AreSmall ids → triple_at (ids_bytes ids ++ rest) ≡ Some (at_triple ids, rest)
triple_again ids rest (s, p, o) =
    ap first (number_again ids.s (number_bytes ids.p ++ (number_bytes ids.o ++ rest)) s)
    ∙ ap (second ids.s) (number_again ids.p (number_bytes ids.o ++ rest) p)
    ∙ ap (third ids.s ids.p) (number_again ids.o rest o)

inner_again : (can : Bool) (inner : Inner) (rest : List ℕ) → CanFollow can inner → inner_at can (inner_bytes inner ++ rest) ≡ Some (inner, rest)
inner_again can idle rest h = refl
inner_again true opened rest h = refl
inner_again false opened rest h = cc
inner_again true (at_triple ids) rest h = triple_again ids rest h.1
inner_again false (at_triple ids) rest h = cc (h.0)

pub state_again : (plan : Plan) (state : State) (rest : List ℕ) → HasFewRows plan → IsShape plan state → state_at plan (state_bytes state ++ rest) ≡ Some (state, rest)
state_again (rows_plan variables rows) (table_state place) rest few h =
    ap (placed (length rows)) (number_again place rest (omega (arith, few, h))) ∙ rw (le-leb place (length rows) h) refl
state_again (join_plan left p) (join_state below inner) rest few h =
    ap (λ b. join_at (state_at left b)) (append_assoc (state_bytes below) (inner_bytes inner) rest)
    ∙ ap join_at (state_again left below (inner_bytes inner ++ rest) few h.0)
    ∙ ap (joined below) (inner_again (can_end_in_row below) inner rest h.1)
state_again (union_plan a b) (union_state zero active) rest few h = ap (union_at 0) (state_again a active rest few.0 h)
state_again (union_plan a b) (union_state (suc zero) active) rest few h = ap (union_at 1) (state_again b active rest few.1 h)
state_again (filter_plan inner condition) state rest few h = state_again inner state rest few h
state_again (bind_plan inner variable e) state rest few h = state_again inner state rest few h
state_again (project_plan inner names) state rest few h = state_again inner state rest few h
state_again plan state rest few h = absurd assumption

-- each number is one of a byte
abbrev pub AreBytes : List ℕ → Type 0
AreBytes bytes = (i : ℕ) → slice_index bytes i < 256

-- read and written again
four_bytes : (a b c d : ℕ) (rest : List ℕ) → AreBytes (a ∷ b ∷ c ∷ d ∷ rest) → (i : ℕ) → get_or (a ∷ b ∷ c ∷ d ∷ []) i 0 < 256
four_bytes a b c d rest h zero = h 0
four_bytes a b c d rest h (suc zero) = h 1
four_bytes a b c d rest h (suc (suc zero)) = h 2
four_bytes a b c d rest h (suc (suc (suc zero))) = h 3
four_bytes a b c d rest h (suc (suc (suc (suc i)))) = omega arith

record IsNumber (bytes : List ℕ) (n : ℕ) (rest : List ℕ) : Type 0 where
  is : bytes ≡ number_bytes n ++ rest
  small : n < 2 ^ 32
  more : AreBytes rest

number_only : (bytes : List ℕ) (n : ℕ) (rest : List ℕ) → AreBytes bytes → number_at bytes ≡ Some (n, rest) → IsNumber bytes n rest
number_only [] n rest h e = cc
number_only (a ∷ []) n rest h e = cc
number_only (a ∷ b ∷ []) n rest h e = cc
number_only (a ∷ b ∷ c ∷ []) n rest h e = cc
number_only (a ∷ b ∷ c ∷ d ∷ others) n rest h e =
    let bytes : List ℕ = a ∷ b ∷ c ∷ d ∷ [] in
    let both : (from_be_bytes w32 bytes, others) ≡ (n, rest) = Some_same (from_be_bytes w32 bytes, others) (n, rest) e in
    let number : n ≡ from_be_bytes w32 bytes = sym (ap (λ (w : ℕ × List ℕ). w.0) both) in
    let same : others ≡ rest = ap (λ (w : ℕ × List ℕ). w.1) both in
    let x0 : a < 256 = h 0 in let x1 : b < 256 = h 1 in let x2 : c < 256 = h 2 in let x3 : d < 256 = h 3 in
    let spelled_so : number_bytes n ≡ bytes = be_bytes_4 bytes n refl (four_bytes a b c d others h) number in
    record {
      is = ap (λ w. w ++ others) (sym spelled_so) ∙ ap (λ w. number_bytes n ++ w) same;
      small = omega (arith, number);
      more = subst (λ w. AreBytes w) same (λ i. h (suc (suc (suc (suc i)))));
    }

record IsTriple (bytes : List ℕ) (inner : Inner) (rest : List ℕ) : Type 0 where
  ids : IdTriple
  at : inner ≡ at_triple ids
  small : AreSmall ids
  is : bytes ≡ ids_bytes ids ++ rest
  more : AreBytes rest

from_third : (bytes : List ℕ) (s p : ℕ) (found : Read ℕ) (inner : Inner) (rest : List ℕ) → AreBytes bytes → number_at bytes ≡ found → third s p found ≡ Some (inner, rest) → (o : ℕ) × (inner ≡ at_triple (record { s = s; p = p; o = o })) × IsNumber bytes o rest
from_third bytes s p None inner rest h f e = cc
from_third bytes s p (Some (o, others)) inner rest h f e =
    let both : (at_triple (record { s = s; p = p; o = o }), others) ≡ (inner, rest) = Some_same (at_triple (record { s = s; p = p; o = o }), others) (inner, rest) e in
    let same : others ≡ rest = ap (λ (w : Inner × List ℕ). w.1) both in
    (o, sym (ap (λ (w : Inner × List ℕ). w.0) both), number_only bytes o rest h (f ∙ ap (λ w. Some (o, w)) same))

from_second : (bytes : List ℕ) (s : ℕ) (found : Read ℕ) (inner : Inner) (rest : List ℕ) → AreBytes bytes → number_at bytes ≡ found → second s found ≡ Some (inner, rest) → (p o : ℕ) × (inner ≡ at_triple (record { s = s; p = p; o = o })) × (p < 2 ^ 32) × (o < 2 ^ 32) × (bytes ≡ number_bytes p ++ (number_bytes o ++ rest)) × AreBytes rest
from_second bytes s None inner rest h f e = cc
from_second bytes s (Some (p, others)) inner rest h f e =
    let r = number_only bytes p others h f in
    let t = from_third others s p (number_at others) inner rest r.more refl e in
    (p, t.0, t.1, r.small, t.2.small, r.is ∙ ap (λ w. number_bytes p ++ w) t.2.is, t.2.more)

triple_only : (bytes : List ℕ) (found : Read ℕ) (inner : Inner) (rest : List ℕ) → AreBytes bytes → number_at bytes ≡ found → first found ≡ Some (inner, rest) → IsTriple bytes inner rest
triple_only bytes None inner rest h f e = cc
triple_only bytes (Some (s, others)) inner rest h f e =
    let r = number_only bytes s others h f in
    let t = from_second others s (number_at others) inner rest r.more refl e in
    record { ids = record { s = s; p = t.0; o = t.1 }; at = t.2; small = (r.small, t.3, t.4); is = r.is ∙ ap (λ w. number_bytes s ++ w) t.5; more = t.6 }

record IsInner (can : Bool) (bytes : List ℕ) (inner : Inner) (rest : List ℕ) : Type 0 where
  follows : CanFollow can inner
  is : bytes ≡ inner_bytes inner ++ rest
  more : AreBytes rest

tail_bytes : (x : ℕ) (bytes : List ℕ) → AreBytes (x ∷ bytes) → AreBytes bytes
tail_bytes x bytes h = λ i. h (suc i)

inner_only : (can : Bool) (bytes : List ℕ) (inner : Inner) (rest : List ℕ) → AreBytes bytes → inner_at can bytes ≡ Some (inner, rest) → IsInner can bytes inner rest
inner_only can [] inner rest h e = cc
inner_only can (zero ∷ bytes) inner rest h e =
    let both : (idle, bytes) ≡ (inner, rest) = Some_same (idle, bytes) (inner, rest) e in
    let i : idle ≡ inner = ap (λ (w : Inner × List ℕ). w.0) both in
    let r : bytes ≡ rest = ap (λ (w : Inner × List ℕ). w.1) both in
    record { follows = subst (CanFollow can) i tt; is = ap (λ w. 0 ∷ w) r ∙ ap (λ w. inner_bytes w ++ rest) i; more = subst AreBytes r (tail_bytes 0 bytes h) }
inner_only true (suc zero ∷ bytes) inner rest h e =
    let both : (opened, bytes) ≡ (inner, rest) = Some_same (opened, bytes) (inner, rest) e in
    let i : opened ≡ inner = ap (λ (w : Inner × List ℕ). w.0) both in
    let r : bytes ≡ rest = ap (λ (w : Inner × List ℕ). w.1) both in
    record { follows = subst (CanFollow true) i refl; is = ap (λ w. 1 ∷ w) r ∙ ap (λ w. inner_bytes w ++ rest) i; more = subst AreBytes r (tail_bytes 1 bytes h) }
inner_only true (suc (suc zero) ∷ bytes) inner rest h e =
    let a = triple_only bytes (number_at bytes) inner rest (tail_bytes 2 bytes h) refl e in
    let f : CanFollow true (at_triple a.ids) = (refl, a.small) in
    record { follows = subst (CanFollow true) (sym a.at) f; is = ap (λ w. 2 ∷ w) a.is ∙ ap (λ w. inner_bytes w ++ rest) (sym a.at); more = a.more }
inner_only true (suc (suc (suc x)) ∷ bytes) inner rest h e = cc
inner_only false (suc x ∷ bytes) inner rest h e = cc

pub record IsTaken (plan : Plan) (bytes : List ℕ) (state : State) (rest : List ℕ) : Type 0 where
  pub shape : IsShape plan state
  pub is : bytes ≡ state_bytes state ++ rest
  pub more : AreBytes rest

row_taken : (plan : Plan) (rows : ℕ) (bytes : List ℕ) (found : Read ℕ) (state : State) (rest : List ℕ) → ((n : ℕ) → n ≤ rows → IsShape plan (table_state n)) → AreBytes bytes → number_at bytes ≡ found → placed rows found ≡ Some (state, rest) → IsTaken plan (1 ∷ bytes) state rest
row_taken plan rows bytes None state rest up h f e = cc
row_taken plan rows bytes (Some (n, others)) state rest up h f e = by_test (nat_le n rows) refl
  where
    by_test : (b : Bool) → nat_le n rows ≡ b → IsTaken plan (1 ∷ bytes) state rest
    by_test false t = absurd cc
    by_test true t =
        let e2 : Some (table_state n, others) ≡ Some (state, rest) = rw t at e in
        let both : (table_state n, others) ≡ (state, rest) = Some_same (table_state n, others) (state, rest) e2 in
        let same : table_state n ≡ state = ap (λ (w : State × List ℕ). w.0) both in
        let others_same : others ≡ rest = ap (λ (w : State × List ℕ). w.1) both in
        let r = number_only bytes n others h f in
        record { shape = subst (IsShape plan) same (up n (leb-true n rows t)); is = ap (λ w. 1 ∷ w) r.is ∙ ap (λ w. state_bytes (table_state n) ++ w) others_same ∙ ap (λ w. state_bytes w ++ rest) same; more = subst AreBytes others_same r.more }

join_taken : (left : Plan) (q : Pattern) (bytes : List ℕ) (state : State) (rest : List ℕ) (found : Read State) → ((s : State) (r : List ℕ) → found ≡ Some (s, r) → IsTaken left bytes s r) → join_at found ≡ Some (state, rest) → IsTaken (join_plan left q) (2 ∷ bytes) state rest
join_taken left q bytes state rest None below e = cc
join_taken left q bytes state rest (Some (s, mid)) below e = last (inner_at (can_end_in_row s) mid) refl e
  where
    t : IsTaken left bytes s mid
    t = below s mid refl

    last : (found : Read Inner) → inner_at (can_end_in_row s) mid ≡ found → joined s found ≡ Some (state, rest) → IsTaken (join_plan left q) (2 ∷ bytes) state rest
    last None f e = cc
    last (Some (inner, others)) f e =
        let both : (join_state s inner, others) ≡ (state, rest) = Some_same (join_state s inner, others) (state, rest) e in
        let same : join_state s inner ≡ state = ap (λ (w : State × List ℕ). w.0) both in
        let others_same : others ≡ rest = ap (λ (w : State × List ℕ). w.1) both in
        let i = inner_only (can_end_in_row s) mid inner others t.more f in
        let shape : IsShape (join_plan left q) (join_state s inner) = (t.shape, i.follows) in
        record {
          shape = subst (IsShape (join_plan left q)) same shape;
          is = ap (λ w. 2 ∷ w) (t.is ∙ ap (λ w. state_bytes s ++ w) i.is ∙ sym (append_assoc (state_bytes s) (inner_bytes inner) others)) ∙ ap (λ w. state_bytes (join_state s inner) ++ w) others_same ∙ ap (λ w. state_bytes w ++ rest) same;
          more = subst AreBytes others_same i.more;
        }

side_taken : (side : ℕ) (active plan : Plan) (bytes : List ℕ) (state : State) (rest : List ℕ) (found : Read State) → ((s : State) → IsShape active s → IsShape plan (union_state side s)) → ((s : State) (r : List ℕ) → found ≡ Some (s, r) → IsTaken active bytes s r) → union_at side found ≡ Some (state, rest) → IsTaken plan (3 ∷ side ∷ bytes) state rest
side_taken side active plan bytes state rest None up below e = cc
side_taken side active plan bytes state rest (Some (s, others)) up below e =
    let both : (union_state side s, others) ≡ (state, rest) = Some_same (union_state side s, others) (state, rest) e in
    let same : union_state side s ≡ state = ap (λ (w : State × List ℕ). w.0) both in
    let others_same : others ≡ rest = ap (λ (w : State × List ℕ). w.1) both in
    let t = below s others refl in
    record { shape = subst (IsShape plan) same (up s t.shape); is = ap (λ w. 3 ∷ side ∷ w) t.is ∙ ap (λ w. state_bytes (union_state side s) ++ w) others_same ∙ ap (λ w. state_bytes w ++ rest) same; more = subst AreBytes others_same t.more }

pub state_takes : (plan : Plan) (bytes : List ℕ) (state : State) (rest : List ℕ) → AreBytes bytes → state_at plan bytes ≡ Some (state, rest) → IsTaken plan bytes state rest
state_takes (rows_plan variables rows) (suc zero ∷ bytes) state rest h e = row_taken (rows_plan variables rows) (length rows) bytes (number_at bytes) state rest (λ n l. l) (tail_bytes 1 bytes h) refl e
state_takes (rows_plan variables rows) bytes state rest h e = cc
state_takes (join_plan left p) (suc (suc zero) ∷ bytes) state rest h e = join_taken left p bytes state rest (state_at left bytes) (λ s r f. state_takes left bytes s r (tail_bytes 2 bytes h) f) e
state_takes (join_plan left p) bytes state rest h e = cc
state_takes (union_plan a b) (suc (suc (suc zero)) ∷ zero ∷ bytes) state rest h e =
    side_taken 0 a (union_plan a b) bytes state rest (state_at a bytes) (λ s i. i) (λ s r f. state_takes a bytes s r (λ i. h (suc (suc i))) f) e
state_takes (union_plan a b) (suc (suc (suc zero)) ∷ suc zero ∷ bytes) state rest h e =
    side_taken 1 b (union_plan a b) bytes state rest (state_at b bytes) (λ s i. i) (λ s r f. state_takes b bytes s r (λ i. h (suc (suc i))) f) e
state_takes (union_plan a b) bytes state rest h e = cc
state_takes (filter_plan inner condition) bytes state rest h e =
    let t = state_takes inner bytes state rest h e in record { shape = t.shape; is = t.is; more = t.more }
state_takes (bind_plan inner variable v) bytes state rest h e =
    let t = state_takes inner bytes state rest h e in record { shape = t.shape; is = t.is; more = t.more }
state_takes (project_plan inner names) bytes state rest h e =
    let t = state_takes inner bytes state rest h e in record { shape = t.shape; is = t.is; more = t.more }

-- whole states
append_none : (xs : List ℕ) → xs ++ [] ≡ xs
append_none [] = refl
append_none (x ∷ xs) = ap (λ w. x ∷ w) (append_none xs)

no_zero : (plan : Plan) (bytes : List ℕ) → state_at plan (0 ∷ bytes) ≡ None
no_zero (rows_plan variables rows) bytes = refl
no_zero (join_plan left p) bytes = refl
no_zero (union_plan a b) bytes = refl
no_zero (filter_plan inner condition) bytes = no_zero inner bytes
no_zero (bind_plan inner variable e) bytes = no_zero inner bytes
no_zero (project_plan inner names) bytes = no_zero inner bytes

alone_at : (plan : Plan) (bytes : List ℕ) (state : State) → state_at plan bytes ≡ Some (state, []) → whole_at plan bytes ≡ Some state
alone_at plan [] state e = ap alone e
alone_at plan (zero ∷ []) state e = cc (sym (no_zero plan []) ∙ e)
alone_at plan (zero ∷ x ∷ bytes) state e = ap alone e
alone_at plan (suc n ∷ bytes) state e = ap alone e

pub whole_again : (plan : Plan) (state : State) → HasFewRows plan → IsWholeShape plan state → whole_at plan (state_bytes state) ≡ Some state
whole_again plan state few h =
    ⊎_elim
    (λ e. subst (λ w. whole_at plan (state_bytes w) ≡ Some w) (sym e) refl)
    (λ s. alone_at plan (state_bytes state) state (ap (state_at plan) (sym (append_none (state_bytes state))) ∙ state_again plan state [] few s))
    h

from_alone : (plan : Plan) (bytes : List ℕ) (state : State) (found : Read State) → AreBytes bytes → state_at plan bytes ≡ found → alone found ≡ Some state → IsWholeShape plan state × (bytes ≡ state_bytes state)
from_alone plan bytes state None h f e = cc
from_alone plan bytes state (Some (s, x ∷ rest)) h f e = cc
from_alone plan bytes state (Some (s, [])) h f e =
    let same = Some_same s state e in
    let t = state_takes plan bytes s [] h f in
    (inr (subst (IsShape plan) same t.shape), t.is ∙ append_none (state_bytes s) ∙ ap state_bytes same)

pub whole_only : (plan : Plan) (bytes : List ℕ) (state : State) → AreBytes bytes → whole_at plan bytes ≡ Some state → IsWholeShape plan state × (bytes ≡ state_bytes state)
whole_only plan (zero ∷ []) state h e = let same = Some_same done state e in (inl (sym same), ap state_bytes same)
whole_only plan bytes state h e = from_alone plan bytes state (state_at plan bytes) h refl e

-- parsing
pub three_parts : (bytes data_name text_name rest : List ℕ) → 66 ≤ length bytes → slice_index bytes 0 ≡ 2 → take 32 (drop 1 bytes) ≡ data_name → take 32 (drop 33 bytes) ≡ text_name → drop 65 bytes ≡ rest → bytes ≡ 2 ∷ (data_name ++ (text_name ++ rest))
three_parts [] data_name text_name rest h v d t r = absurd (omega arith)
three_parts (x ∷ bytes) data_name text_name rest h v d t r =
    let tail : drop 32 bytes ≡ text_name ++ rest = sym (take-append-drop 32 (drop 32 bytes)) ∙ ap (λ w. w ++ drop 32 (drop 32 bytes)) t ∙ ap (λ w. text_name ++ w) (drop-drop 32 32 bytes ∙ r) in
    let whole : bytes ≡ data_name ++ (text_name ++ rest) = sym (take-append-drop 32 bytes) ∙ ap (λ w. w ++ drop 32 bytes) d ∙ ap (λ w. data_name ++ w) tail in
    ap (λ w. w ∷ bytes) v ∙ ap (λ w. 2 ∷ w) whole

pub bytes_after : (n : ℕ) (bytes : List ℕ) → AreBytes bytes → AreBytes (drop n bytes)
bytes_after zero bytes h = h
bytes_after (suc n) [] h = h
bytes_after (suc n) (x ∷ bytes) h = bytes_after n bytes (λ i. h (suc i))

-- what is read behind the names is what the whole spells
pub spells : (bytes data_name text_name : List ℕ) (plan : Plan) (state : State) → AreBytes bytes → HeadIs bytes data_name text_name (Ok tt) → whole_at plan (drop 65 bytes) ≡ Some state → IsWholeShape plan state × (bytes ≡ spelled data_name text_name state)
spells bytes data_name text_name plan state h (long, version, d, t) e =
    let r = whole_only plan (drop 65 bytes) state (bytes_after 65 bytes h) e in
    (r.0, three_parts bytes data_name text_name (state_bytes state) long version d t r.1)

-- where nothing is read, nothing is spelled
pub spells_none : (plan : Plan) (bytes : List ℕ) (state : State) → HasFewRows plan → whole_at plan bytes ≡ None → IsWholeShape plan state → bytes ≡ state_bytes state → ⊥
spells_none plan bytes state few n w e = cc (sym n ∙ ap (whole_at plan) e ∙ whole_again plan state few w)
