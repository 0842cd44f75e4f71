-- What the front of a record tells of it.
use Rattle.std.proofs.Common.{◌≡◌, ℕ, ◌≤◌, ◌++◌, [], ◌∷◌, List, Option, Some, None, Bool, true, false, length, take, drop, refl, sym, ap, ◌∙◌, arith, Less, Equal, Greater, length-append}
use Rattle.std.proofs.lemmas.List.{take-append-le, drop-append-le}
use Rattle.std.specs.Prelude.{if◌then◌else◌, ◌==◌, nat_lt}
use Rattle.std.specs.declared.cmp.Ordering.{Ordering}
use Rattle.std.specs.Ordering.{nat_cmp, ordering_then}
use Rattle.std.specs.Cmp.Lexicographic.{slice_cmp}
use Rattle.term_core.specs.declared.term.Term.{Term}
use Rattle.term_core.specs.declared.term.Term.TheVariants.{Iri, Blank, Literal}
use Rattle.term_core.specs.Order.{rank_of, text_of, datatype_of, lang_of, bytes_cmp}
use Rattle.term_dict.specs.Records.{◌>>=◌, number_front, cut_at, raw_literal_at, raw_in}
use Rattle.term_dict.specs.Fronts.{lexical_at, front_at, IsDecided}

by_first : (o p q order : Ordering) → (p ≡ order → q ≡ order) → ordering_then o p ≡ order → ordering_then o q ≡ order
by_first Less p q order more e = e
by_first Greater p q order more e = e
by_first Equal p q order more e = more e

-- an order that a front decides is that of the whole
pub prefix_decides : (p rest b : List ℕ) (order : Ordering) → slice_cmp nat_cmp p (take (length p) b) ≡ order → (order ≡ Equal → ⊥) → slice_cmp nat_cmp (p ++ rest) b ≡ order
prefix_decides [] rest b order is apart = absurd (apart (sym is))
prefix_decides (x ∷ p) rest [] order is apart = is
prefix_decides (x ∷ p) rest (y ∷ b) order is apart =
    by_first (nat_cmp x y) (slice_cmp nat_cmp p (take (length p) b)) (slice_cmp nat_cmp (p ++ rest) b) order (λ e. prefix_decides p rest b order e apart) is

pub same_some : {A : Type 0} (a b : A) → Some a ≡ Some b → a ≡ b
same_some a b e = cc

pub bind_is : {A B : Type 0} (o : Option A) (f : A → Option B) (y : B) → (o >>= f) ≡ Some y → (x : A) × (o ≡ Some x) × (f x ≡ Some y)
bind_is None f y e = cc
bind_is (Some x) f y e = (x, refl, e)

-- what is read of a front is read with more behind it
number_more : (xs rest : List ℕ) (x : ℕ × List ℕ) → number_front xs ≡ Some x → number_front (xs ++ rest) ≡ Some (x.0, x.1 ++ rest)
unfolding number_front
number_more [] rest x e = cc
number_more (a ∷ []) rest x e = cc
number_more (a ∷ b ∷ []) rest x e = cc
number_more (a ∷ b ∷ c ∷ []) rest x e = cc
number_more (a ∷ b ∷ c ∷ d ∷ xs) rest x e = ap (λ y. Some (y.0, y.1 ++ rest)) (same_some _ x e)

not_lt : (a b : ℕ) → b ≤ a → nat_lt a b ≡ false
not_lt a b h = grind arith

not_short : (a b : ℕ) → nat_lt a b ≡ false → b ≤ a
not_short a b h = grind arith

module _ (n : ℕ) (xs rest : List ℕ) (x : List ℕ × List ℕ) where
  cut_by : (b : Bool) → nat_lt (length xs) n ≡ b → (if b then None else Some (take n xs, drop n xs)) ≡ Some x → cut_at n (xs ++ rest) ≡ Some (x.0, x.1 ++ rest)
  unfolding cut_at
  cut_by true is e = cc
  cut_by false is e =
      let le : n ≤ length xs = not_short _ _ is in
      let long : nat_lt (length (xs ++ rest)) n ≡ false = not_lt _ _ (omega (arith, length-append xs rest)) in
      rw (long, take-append-le n xs rest le, drop-append-le n xs rest le) (ap (λ y. Some (y.0, y.1 ++ rest)) (same_some _ x e))

  cut_more : cut_at n xs ≡ Some x → cut_at n (xs ++ rest) ≡ Some (x.0, x.1 ++ rest)
  unfolding cut_at
  cut_more e = cut_by (nat_lt (length xs) n) refl e

lexical_more : (bytes rest lexical : List ℕ) → lexical_at bytes ≡ Some lexical
    → (datatype : List ℕ) × (lang : List ℕ) × (raw_literal_at (bytes ++ rest) ≡ Some (Literal (lexical ++ rest) datatype lang))
unfolding lexical_at raw_literal_at
lexical_more bytes rest lexical e =
    let n = bind_is (number_front bytes) _ lexical e in
    let m = bind_is (number_front n.0.1) _ lexical n.2 in
    let front = bind_is (cut_at n.0.0 m.0.1) _ lexical m.2 in
    let middle = bind_is (cut_at m.0.0 front.0.1) _ lexical front.2 in (
      front.0.0,
      middle.0.0,
      rw (number_more bytes rest n.0 n.1, number_more n.0.1 rest m.0 m.1, cut_more n.0.0 m.0.1 rest front.0 front.1, cut_more m.0.0 front.0.1 rest middle.0 middle.1)
          (ap (λ xs. Some (Literal (xs ++ rest) front.0.0 middle.0.0)) (same_some _ lexical middle.2)),
    )

kind_texts : (a b c : Bool) (xs rest : List ℕ) (x : ℕ × List ℕ)
    → (if a then Some (0, xs) else if b then Some (1, xs) else if c then (lexical_at xs >>= λ lexical. Some (2, lexical)) else None) ≡ Some x
    → (u : Term) × ((if a then Some (Blank (xs ++ rest)) else if b then Some (Iri (xs ++ rest)) else if c then raw_literal_at (xs ++ rest) else None) ≡ Some u)
    × (rank_of u ≡ x.0) × (text_of u ≡ x.1 ++ rest)
kind_texts true b c xs rest x e = let same : (0, xs) ≡ x = same_some _ x e in (Blank (xs ++ rest), refl, ap (λ y. y.0) same, ap (λ y. y.1 ++ rest) same)
kind_texts false true c xs rest x e = let same : (1, xs) ≡ x = same_some _ x e in (Iri (xs ++ rest), refl, ap (λ y. y.0) same, ap (λ y. y.1 ++ rest) same)
kind_texts false false true xs rest x e =
    let lexical = bind_is (lexical_at xs) _ x e in
    let same : (2, lexical.0) ≡ x = same_some _ x lexical.2 in
    let more = lexical_more xs rest lexical.0 lexical.1 in
    (Literal (lexical.0 ++ rest) more.0 more.1, more.2, ap (λ y. y.0) same, ap (λ y. y.1 ++ rest) same)
kind_texts false false false xs rest x e = cc

front_texts : (front rest : List ℕ) (x : ℕ × List ℕ) → front_at front ≡ Some x → (u : Term) × (raw_in (front ++ rest) ≡ Some u) × (rank_of u ≡ x.0) × (text_of u ≡ x.1 ++ rest)
front_texts [] rest x e = cc
front_texts (kind ∷ xs) rest x e = kind_texts (kind == 0) (kind == 1) (kind == 2) xs rest x e

then_apart : (o p : Ordering) → (o ≡ Equal → ⊥) → ordering_then o p ≡ o
then_apart Less p apart = refl
then_apart Equal p apart = absurd (apart refl)
then_apart Greater p apart = refl

by_rank : (o p order : Ordering) (b rest text : List ℕ) → order ≡ ordering_then o (slice_cmp nat_cmp b (take (length b) text)) → (order ≡ Equal → ⊥)
    → ordering_then o (ordering_then (slice_cmp nat_cmp (b ++ rest) text) p) ≡ order
by_rank Less p order b rest text e apart = sym e
by_rank Greater p order b rest text e apart = sym e
by_rank Equal p order b rest text e apart =
    ap (λ o. ordering_then o p) (prefix_decides b rest text order (sym e) apart) ∙ then_apart order p apart

-- kind and beginning decide, where they do not tie
pub decided : (front rest : List ℕ) (t : Term) (kind : ℕ) (b : List ℕ) (order : Ordering) → front_at front ≡ Some (kind, b)
    → order ≡ ordering_then (nat_cmp kind (rank_of t)) (slice_cmp nat_cmp b (take (length b) (text_of t))) → (order ≡ Equal → ⊥) → IsDecided front rest t order
decided front rest t kind b order e is apart =
    let u = front_texts front rest (kind, b) e in
    let p = ordering_then (bytes_cmp (datatype_of u.0) (datatype_of t)) (bytes_cmp (lang_of u.0) (lang_of t)) in
    record {
      texts = (
        u.0,
        u.1,
        ap (λ k. ordering_then (nat_cmp k (rank_of t)) (ordering_then (bytes_cmp (text_of u.0) (text_of t)) p)) u.2
            ∙ ap (λ xs. ordering_then (nat_cmp kind (rank_of t)) (ordering_then (bytes_cmp xs (text_of t)) p)) u.3
            ∙ by_rank (nat_cmp kind (rank_of t)) p order b rest (text_of t) is apart,
      );
      apart = apart;
    }
