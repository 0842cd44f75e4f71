-- Lists as bags.
use Rattle.std.proofs.Common.{◌≡◌, ℕ, ◌+◌, Bool, true, false, cond, List, [], ◌∷◌, ◌++◌, map, Option, Some, None, refl, sym, ap, ◌∙◌, subst, ⊎_elim, inl, inr, arith}
use Rattle.std.specs.Prelude.{flat_map, filter, ◌⊎◌}
use Rattle.std.specs.List.{filter_map, cons_option}
use Rattle.term_core.specs.Bags.{total, SameBag, In, AreDistinct}

-- the weight of two lists in a row
pub total-append : {X : Type 0} (f : X → ℕ) (xs ys : List X) → total f (xs ++ ys) ≡ total f xs + total f ys
total-append f [] ys = omega arith
total-append f (x ∷ xs) ys = omega (arith, total-append f xs ys)

-- weights that agree on the elements weigh the same
pub total_same : {X : Type 0} (f g : X → ℕ) (xs : List X) → ((x : X) → In xs x → f x ≡ g x) → total f xs ≡ total g xs
total_same f g [] h = refl
total_same f g (x ∷ xs) h = omega (arith, h x (inl refl), total_same f g xs (λ y i. h y (inr i)))

-- the weight of what is mapped
pub total-map : {X Y : Type 0} (f : Y → ℕ) (g : X → Y) (xs : List X) → total f (map g xs) ≡ total (λ x. f (g x)) xs
total-map f g [] = refl
total-map f g (x ∷ xs) = omega (arith, total-map f g xs)

-- the weight of lists joined in a row
pub total-flat_map : {X Y : Type 0} (f : Y → ℕ) (g : X → List Y) (xs : List X) → total f (flat_map g xs) ≡ total (λ x. total f (g x)) xs
total-flat_map f g [] = refl
total-flat_map f g (x ∷ xs) = omega (arith, total-append f (g x) (flat_map g xs), total-flat_map f g xs)

-- the weight of what passes a test
pub total-filter : {X : Type 0} (f : X → ℕ) (p : X → Bool) (xs : List X) → total f (filter p xs) ≡ total (λ x. cond (p x) (f x) 0) xs
total-filter f p [] = refl
total-filter f p (x ∷ xs) =
    elim (p x) as (λ b. total f (cond b (x ∷ filter p xs) (filter p xs)) ≡ cond b (f x) 0 + total (λ y. cond (p y) (f y) 0) xs) [
      | true ↦ omega (arith, total-filter f p xs)
      | false ↦ omega (arith, total-filter f p xs)
    ]

-- what an optional value weighs
abbrev pub weigh : {X : Type 0} → (X → ℕ) → Option X → ℕ
weigh f None = 0
weigh f (Some x) = f x

-- the weight of the values that are there
pub total-filter_map : {X Y : Type 0} (f : Y → ℕ) (h : X → Option Y) (xs : List X) → total f (filter_map h xs) ≡ total (λ x. weigh f (h x)) xs
total-filter_map f h [] = refl
total-filter_map f h (x ∷ xs) =
    elim (h x) as (λ o. total f (cons_option o (filter_map h xs)) ≡ weigh f o + total (λ y. weigh f (h y)) xs) [
      | None ↦ omega (arith, total-filter_map f h xs)
      | Some y ↦ omega (arith, total-filter_map f h xs)
    ]

-- the weights of a sum
pub total_plus : {X : Type 0} (f g : X → ℕ) (xs : List X) → total (λ x. f x + g x) xs ≡ total f xs + total g xs
total_plus f g [] = refl
total_plus f g (x ∷ xs) = omega (arith, total_plus f g xs)

-- nothing weighs nothing
pub total_none : {X : Type 0} (xs : List X) → total (λ (x : X). 0) xs ≡ 0
total_none [] = refl
total_none (x ∷ xs) = omega (arith, total_none xs)

-- sums over two lists may be taken in either order
pub total_turned : {X Y : Type 0} (f : X → Y → ℕ) (xs : List X) (ys : List Y) → total (λ x. total (f x) ys) xs ≡ total (λ y. total (λ x. f x y) xs) ys
total_turned f [] ys = sym (total_none ys)
total_turned f (x ∷ xs) ys = omega (arith, total_turned f xs ys, total_plus (f x) (λ y. total (λ z. f z y) xs) ys)

-- a test is true or false
pub bool_cases : (b : Bool) → (b ≡ true) ⊎ (b ≡ false)
bool_cases true = inl refl
bool_cases false = inr refl

-- membership in two lists in a row
pub In-append_left : {X : Type 0} (xs ys : List X) (x : X) → In xs x → In (xs ++ ys) x
In-append_left [] ys x i = absurd i
In-append_left (y ∷ xs) ys x i = ⊎_elim (λ e. inl e) (λ j. inr (In-append_left xs ys x j)) i

pub In-append_right : {X : Type 0} (xs ys : List X) (x : X) → In ys x → In (xs ++ ys) x
In-append_right [] ys x i = i
In-append_right (y ∷ xs) ys x i = inr (In-append_right xs ys x i)

pub In-append_cases : {X : Type 0} (xs ys : List X) (x : X) → In (xs ++ ys) x → In xs x ⊎ In ys x
In-append_cases [] ys x i = inr i
In-append_cases (y ∷ xs) ys x i = ⊎_elim (λ e. inl (inl e)) (λ j. ⊎_elim (λ l. inl (inr l)) (λ r. inr r) (In-append_cases xs ys x j)) i

-- a list with the element x in its middle
pub record Split {X : Type 0} (xs : List X) (x : X) : Type 0 where
  pub front : List X
  pub back : List X
  pub is : xs ≡ front ++ x ∷ back

-- a list is split at each of its elements
pub split : {X : Type 0} (xs : List X) (x : X) → In xs x → Split xs x
split [] x i = absurd i
split (y ∷ xs) x i =
    ⊎_elim
    (λ e. record { front = []; back = xs; is = ap (λ z. z ∷ xs) e })
    (λ j. let s = split xs x j in record { front = y ∷ s.front; back = s.back; is = ap (λ z. y ∷ z) s.is })
    i

-- membership in what is mapped
pub In-map : {X Y : Type 0} (g : X → Y) (xs : List X) (x : X) → In xs x → In (map g xs) (g x)
In-map g [] x i = absurd i
In-map g (y ∷ xs) x i = ⊎_elim (λ e. inl (ap g e)) (λ j. inr (In-map g xs x j)) i

pub from_In-map : {X Y : Type 0} (g : X → Y) (xs : List X) (y : Y) → In (map g xs) y → (x : X) × In xs x × (g x ≡ y)
from_In-map g [] y i = absurd i
from_In-map g (z ∷ xs) y i =
    ⊎_elim (λ e. (z, inl refl, e)) (λ j. let r = from_In-map g xs y j in (r.0, inr r.1, r.2)) i

-- membership in lists joined in a row
pub In-flat_map : {X Y : Type 0} (g : X → List Y) (xs : List X) (x : X) (y : Y) → In xs x → In (g x) y → In (flat_map g xs) y
In-flat_map g [] x y i j = absurd i
In-flat_map g (z ∷ xs) x y i j =
    ⊎_elim
    (λ e. In-append_left (g z) (flat_map g xs) y (subst (λ w. In (g w) y) (sym e) j))
    (λ k. In-append_right (g z) (flat_map g xs) y (In-flat_map g xs x y k j)) i

pub from_In-flat_map : {X Y : Type 0} (g : X → List Y) (xs : List X) (y : Y) → In (flat_map g xs) y → (x : X) × In xs x × In (g x) y
from_In-flat_map g [] y i = absurd i
from_In-flat_map g (z ∷ xs) y i =
    ⊎_elim
    (λ j. (z, inl refl, j))
    (λ j. let r = from_In-flat_map g xs y j in (r.0, inr r.1, r.2))
    (In-append_cases (g z) (flat_map g xs) y i)

-- membership in what passes a test
pub In-filter : {X : Type 0} (p : X → Bool) (xs : List X) (x : X) → In xs x → p x ≡ true → In (filter p xs) x
In-filter p [] x i e = absurd i
In-filter p (y ∷ xs) x i e =
    ⊎_elim
    (λ s. subst (λ b. In (cond b (y ∷ filter p xs) (filter p xs)) x) (sym (ap p s ∙ e)) (inl s))
    (λ j. elim (p y) as (λ b. In (cond b (y ∷ filter p xs) (filter p xs)) x) [ true ↦ inr (In-filter p xs x j e) | false ↦ In-filter p xs x j e ])
    i

pub from_In-filter : {X : Type 0} (p : X → Bool) (xs : List X) (x : X) → In (filter p xs) x → In xs x × (p x ≡ true)
from_In-filter p [] x i = absurd i
from_In-filter p (y ∷ xs) x i =
    elim (p y) as (λ b. p y ≡ b → In (cond b (y ∷ filter p xs) (filter p xs)) x → In (y ∷ xs) x × (p x ≡ true)) [
      | true ↦ λ e j. ⊎_elim (λ s. (inl s, sym (ap p s) ∙ e)) (λ k. let r = from_In-filter p xs x k in (inr r.0, r.1)) j
      | false ↦ λ e j. let r = from_In-filter p xs x j in (inr r.0, r.1)
    ] refl i

-- membership in the values that are there
pub In-filter_map : {X Y : Type 0} (h : X → Option Y) (xs : List X) (x : X) (y : Y) → In xs x → h x ≡ Some y → In (filter_map h xs) y
In-filter_map h [] x y i e = absurd i
In-filter_map h (z ∷ xs) x y i e =
    ⊎_elim
    (λ s. subst (λ o. In (cons_option o (filter_map h xs)) y) (sym (ap h s ∙ e)) (inl refl))
    (λ j. elim (h z) as (λ o. In (cons_option o (filter_map h xs)) y) [ None ↦ In-filter_map h xs x y j e | Some w ↦ inr (In-filter_map h xs x y j e) ])
    i

pub from_In-filter_map : {X Y : Type 0} (h : X → Option Y) (xs : List X) (y : Y) → In (filter_map h xs) y → (x : X) × In xs x × (h x ≡ Some y)
from_In-filter_map h [] y i = absurd i
from_In-filter_map {X} {Y} h (z ∷ xs) y i =
    elim (h z) as (λ o. h z ≡ o → In (cons_option o (filter_map h xs)) y → (x : X) × In (z ∷ xs) x × (h x ≡ Some y)) [
      | None ↦ λ e j. let r = from_In-filter_map h xs y j in (r.0, inr r.1, r.2)
      | Some w ↦ λ e j. ⊎_elim (λ s. (z, inl refl, e ∙ ap Some s)) (λ k. let r = from_In-filter_map h xs y k in (r.0, inr r.1, r.2)) j
    ] refl i

-- distinct lists
pub AreDistinct-append : {X : Type 0} (xs ys : List X) → AreDistinct xs → AreDistinct ys → ((x : X) → In xs x → In ys x → ⊥) → AreDistinct (xs ++ ys)
AreDistinct-append [] ys p q h = q
AreDistinct-append (x ∷ xs) ys p q h =
    ((λ i. ⊎_elim (λ j. p.0 j) (λ j. h x (inl refl) j) (In-append_cases xs ys x i)), AreDistinct-append xs ys p.1 q (λ y i j. h y (inr i) j))

pub AreDistinct-filter : {X : Type 0} (p : X → Bool) (xs : List X) → AreDistinct xs → AreDistinct (filter p xs)
AreDistinct-filter p [] d = tt
AreDistinct-filter p (x ∷ xs) d =
    elim (p x) as (λ b. AreDistinct (cond b (x ∷ filter p xs) (filter p xs))) [
      | true ↦ ((λ i. d.0 (from_In-filter p xs x i).0), AreDistinct-filter p xs d.1)
      | false ↦ AreDistinct-filter p xs d.1
    ]

pub AreDistinct-map : {X Y : Type 0} (g : X → Y) (xs : List X) → AreDistinct xs → ((a b : X) → In xs a → In xs b → g a ≡ g b → a ≡ b) → AreDistinct (map g xs)
AreDistinct-map g [] d h = tt
AreDistinct-map {X} g (x ∷ xs) d h =
    ((λ i. let r = from_In-map g xs (g x) i in d.0 (subst (λ w. In xs w) (h r.0 x (inr r.1) (inl refl) r.2) r.1)), AreDistinct-map g xs d.1 (λ a b i j e. h a b (inr i) (inr j) e))

pub AreDistinct-filter_map : {X Y : Type 0} (g : X → Option Y) (xs : List X) → AreDistinct xs → ((a b : X) (y : Y) → In xs a → In xs b → g a ≡ Some y → g b ≡ Some y → a ≡ b) → AreDistinct (filter_map g xs)
AreDistinct-filter_map g [] d h = tt
AreDistinct-filter_map g (x ∷ xs) d h =
    let rest = AreDistinct-filter_map g xs d.1 (λ a b y i j p q. h a b y (inr i) (inr j) p q) in
    elim (g x) as (λ o. g x ≡ o → AreDistinct (cons_option o (filter_map g xs))) [
      | None ↦ λ e. rest
      | Some y ↦ λ e. ((λ i. let r = from_In-filter_map g xs y i in d.0 (subst (λ w. In xs w) (h r.0 x y (inr r.1) (inl refl) r.2 e) r.1)), rest)
    ] refl

pub AreDistinct-flat_map : {X Y : Type 0} (g : X → List Y) (xs : List X) → AreDistinct xs → ((x : X) → In xs x → AreDistinct (g x)) → ((a b : X) (y : Y) → In xs a → In xs b → In (g a) y → In (g b) y → a ≡ b) → AreDistinct (flat_map g xs)
AreDistinct-flat_map g [] d e h = tt
AreDistinct-flat_map g (x ∷ xs) d e h =
    AreDistinct-append (g x) (flat_map g xs) (e x (inl refl)) (AreDistinct-flat_map g xs d.1 (λ y i. e y (inr i)) (λ a b y i j p q. h a b y (inr i) (inr j) p q))
    (λ y i j. let r = from_In-flat_map g xs y j in d.0 (subst (λ w. In xs w) (h r.0 x y (inr r.1) (inl refl) r.2 i) r.1))

-- without one element of the middle
pub In-middle : {X : Type 0} (us vs : List X) (x y : X) → In (us ++ x ∷ vs) y → (x ≡ y) ⊎ In (us ++ vs) y
In-middle [] vs x y i = i
In-middle (u ∷ us) vs x y i = ⊎_elim (λ e. inr (inl e)) (λ j. ⊎_elim (λ e. inl e) (λ k. inr (inr k)) (In-middle us vs x y j)) i

pub In-around : {X : Type 0} (us vs : List X) (x y : X) → In (us ++ vs) y → In (us ++ x ∷ vs) y
In-around [] vs x y i = inr i
In-around (u ∷ us) vs x y i = ⊎_elim (λ e. inl e) (λ j. inr (In-around us vs x y j)) i

-- the element of the middle is there
pub In-at : {X : Type 0} (us vs : List X) (x : X) → In (us ++ x ∷ vs) x
In-at [] vs x = inl refl
In-at (u ∷ us) vs x = inr (In-at us vs x)

-- what is left without one element has no repeats
pub AreDistinct-around : {X : Type 0} (us vs : List X) (x : X) → AreDistinct (us ++ x ∷ vs) → AreDistinct (us ++ vs)
AreDistinct-around [] vs x d = d.1
AreDistinct-around (u ∷ us) vs x d = ((λ i. d.0 (In-around us vs x u i)), AreDistinct-around us vs x d.1)

-- in a list without repeats the element of the middle stands nowhere else
pub apart_from : {X : Type 0} (us vs : List X) (x : X) → AreDistinct (us ++ x ∷ vs) → In (us ++ vs) x → ⊥
apart_from [] vs x d i = d.0 i
apart_from (u ∷ us) vs x d i = ⊎_elim (λ e. d.0 (subst (λ w. In (us ++ x ∷ vs) w) (sym e) (In-at us vs x))) (λ j. apart_from us vs x d.1 j) i

-- the weight with an element in the middle
pub total-middle : {X : Type 0} (f : X → ℕ) (us vs : List X) (x : X) → total f (us ++ x ∷ vs) ≡ f x + total f (us ++ vs)
total-middle f [] vs x = refl
total-middle f (u ∷ us) vs x = omega (arith, total-middle f us vs x)

-- a list without elements is empty
pub no_members : {X : Type 0} (xs : List X) → ((x : X) → In xs x → ⊥) → xs ≡ []
no_members [] h = refl
no_members (x ∷ xs) h = absurd (h x (inl refl))

-- two distinct lists with the same members are the same bag
pub same_members : {X : Type 0} (xs ys : List X) → AreDistinct xs → AreDistinct ys → ((x : X) → In xs x → In ys x) → ((x : X) → In ys x → In xs x) → SameBag xs ys
same_members [] ys d e to from = record { by = λ f. ap (total f) (sym (no_members ys from)) }
same_members (x ∷ xs) ys d e to from =
    let s : Split ys x = split ys x (to x (inl refl)) in
    let e2 : AreDistinct (s.front ++ x ∷ s.back) = subst AreDistinct s.is e in
    let rest : SameBag xs (s.front ++ s.back) = same_members xs (s.front ++ s.back) d.1 (AreDistinct-around s.front s.back x e2)
    (λ y i. ⊎_elim (λ q. absurd (d.0 (subst (λ w. In xs w) (sym q) i))) (λ j. j) (In-middle s.front s.back x y (subst (λ w. In w y) s.is (to y (inr i)))))
    (λ y i. ⊎_elim (λ q. absurd (apart_from s.front s.back x e2 (subst (λ w. In (s.front ++ s.back) w) (sym q) i))) (λ j. j) (from y (subst (λ w. In w y) (sym s.is) (In-around s.front s.back x y i)))) in
    record { by = λ f. ap (λ n. f x + n) (rest.by f) ∙ sym (ap (total f) s.is ∙ total-middle f s.front s.back x) }
