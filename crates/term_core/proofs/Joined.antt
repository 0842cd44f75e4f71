-- Laws of joins of lists of rows.
use Rattle.std.proofs.Common.{◌≡◌, ℕ, Bool, cond, List, [], ◌∷◌, ◌++◌, map, Option, Some, None, refl, sym, ap, ◌∙◌, ⊎_elim, inl, inr, arith}
use Rattle.std.specs.Prelude.{flat_map, filter}
use Rattle.std.specs.List.{filter_map, cons_option}
use Rattle.std.specs.FinMap as finmap
use Rattle.term_core.specs.Order.{bytes_cmp}
use Rattle.term_core.specs.Bags.{total, SameBag}
use Rattle.term_core.specs.Mappings.{Row, merge, joined, joins, IsJoin}
use Rattle.term_core.proofs.Bags.{total-append, total_same, total-map, total-flat_map, total-filter, total-filter_map, total_turned, total_none, weigh}
use Rattle.term_core.proofs.Merges.{Below, Some_same, not_some, compatible_from, joined_to, joined_from}

-- bags
pub bag_same : {X : Type 0} (xs : List X) → SameBag xs xs
bag_same xs = record { by = λ f. refl }

pub bag_is : {X : Type 0} (xs ys : List X) → xs ≡ ys → SameBag xs ys
bag_is xs ys e = record { by = λ f. ap (total f) e }

pub bag_back : {X : Type 0} {xs ys : List X} → SameBag xs ys → SameBag ys xs
bag_back h = record { by = λ f. sym (h.by f) }

pub bag_then : {X : Type 0} {xs ys zs : List X} → SameBag xs ys → SameBag ys zs → SameBag xs zs
bag_then h g = record { by = λ f. h.by f ∙ g.by f }

pub bag_append : {X : Type 0} (us vs xs ys : List X) → SameBag us xs → SameBag vs ys → SameBag (us ++ vs) (xs ++ ys)
bag_append us vs xs ys h g = record { by = λ f. omega (arith, total-append f us vs, total-append f xs ys, h.by f, g.by f) }

pub bag_map : {X Y : Type 0} (g : X → Y) (xs ys : List X) → SameBag xs ys → SameBag (map g xs) (map g ys)
bag_map g xs ys h = record { by = λ f. total-map f g xs ∙ h.by (λ x. f (g x)) ∙ sym (total-map f g ys) }

pub bag_filter : {X : Type 0} (p : X → Bool) (xs ys : List X) → SameBag xs ys → SameBag (filter p xs) (filter p ys)
bag_filter p xs ys h = record { by = λ f. total-filter f p xs ∙ h.by (λ x. cond (p x) (f x) 0) ∙ sym (total-filter f p ys) }

pub bag_filter_map : {X Y : Type 0} (g : X → Option Y) (xs ys : List X) → SameBag xs ys → SameBag (filter_map g xs) (filter_map g ys)
bag_filter_map g xs ys h = record { by = λ f. total-filter_map f g xs ∙ h.by (λ x. weigh f (g x)) ∙ sym (total-filter_map f g ys) }

pub bag_flat_map : {X Y : Type 0} (g : X → List Y) (xs ys : List X) → SameBag xs ys → SameBag (flat_map g xs) (flat_map g ys)
bag_flat_map g xs ys h = record { by = λ f. total-flat_map f g xs ∙ h.by (λ x. total f (g x)) ∙ sym (total-flat_map f g ys) }

pub bag_each : {X Y : Type 0} (g h : X → List Y) (xs : List X) → ((x : X) → SameBag (g x) (h x)) → SameBag (flat_map g xs) (flat_map h xs)
bag_each g h xs e = record { by = λ f. total-flat_map f g xs ∙ total_same (λ x. total f (g x)) (λ x. total f (h x)) xs (λ x _. (e x).by f) ∙ sym (total-flat_map f h xs) }

-- the weight of a join is a sum over pairs
pub total-joins : (f : Row → ℕ) (xs ys : List Row) → total f (joins xs ys) ≡ total (λ a. total (λ b. weigh f (joined a b)) ys) xs
total-joins f xs ys = total-flat_map f (λ a. filter_map (joined a) ys) xs ∙ total_same _ _ xs (λ a _. total-filter_map f (joined a) ys)

-- joins of the same bags are the same bag
pub joins_same : (us vs xs ys : List Row) → SameBag us xs → SameBag vs ys → SameBag (joins us vs) (joins xs ys)
joins_same us vs xs ys h g =
    bag_then (bag_each (λ a. filter_map (joined a) vs) (λ a. filter_map (joined a) ys) us (λ a. bag_filter_map (joined a) vs ys g))
    (bag_flat_map (λ a. filter_map (joined a) ys) us xs h)

-- a union may be taken in either order
pub turned : (a b k : Row) → IsJoin a b k → IsJoin b a k
turned a b k j = record { left = j.right; right = j.left; only = λ n t e. ⊎_elim (λ l. inr l) (λ r. inl r) (j.only n t e) }

-- optional rows with the same rows are equal
pub same_options : (x y : Option Row) → ((k : Row) → x ≡ Some k → y ≡ Some k) → ((k : Row) → y ≡ Some k → x ≡ Some k) → x ≡ y
same_options None None h g = refl
same_options None (Some k) h g = g k refl
same_options (Some k) y h g = sym (h k refl)

pub joined_turned : (a b : Row) → joined a b ≡ joined b a
joined_turned a b = same_options (joined a b) (joined b a) (λ k e. joined_from b a k (turned a b k (joined_to a b k e))) (λ k e. joined_from a b k (turned b a k (joined_to b a k e)))

-- joins commute as bags
pub joins_turned : (xs ys : List Row) → SameBag (joins xs ys) (joins ys xs)
joins_turned xs ys = record {
  by = λ f.
      total-joins f xs ys ∙ total_turned (λ a b. weigh f (joined a b)) xs ys
      ∙ total_same _ _ ys (λ b _. total_same _ _ xs (λ a _. ap (weigh f) (joined_turned a b)))
      ∙ sym (total-joins f ys xs);
}

-- a row joined to an optional one, from either side
abbrev pub then_joined : Option Row → Row → Option Row
then_joined None c = None
then_joined (Some k) c = joined k c

abbrev pub joined_then : Row → Option Row → Option Row
joined_then a None = None
joined_then a (Some l) = joined a l

-- what such joins are
pub then_to : (o : Option Row) (c m : Row) → then_joined o c ≡ Some m → (k : Row) × (o ≡ Some k) × IsJoin k c m
then_to None c m e = absurd (not_some m (sym e))
then_to (Some k) c m e = (k, refl, joined_to k c m e)

pub to_then : (a : Row) (o : Option Row) (m : Row) → joined_then a o ≡ Some m → (l : Row) × (o ≡ Some l) × IsJoin a l m
to_then a None m e = absurd (not_some m (sym e))
to_then a (Some l) m e = (l, refl, joined_to a l m e)

-- two rows below one row have a merge
pub both_below : (b c m : Row) → Below b m → Below c m → (l : Row) × (joined b c ≡ Some l) × IsJoin b c l
both_below b c m h g =
    let e : joined b c ≡ Some (merge b c) = ap (λ x. cond x (Some (merge b c)) None) (compatible_from b c (λ n s t p q. Some_same s t (sym (h n s p) ∙ g n t q))) in
    (merge b c, e, joined_to b c (merge b c) e)

-- unions may be bracketed either way
pub to_right : (a b c k l m : Row) → IsJoin a b k → IsJoin k c m → IsJoin b c l → IsJoin a l m
to_right a b c k l m x y z = record {
  left = λ n t e. y.left n t (x.left n t e);
  right = λ n t e. ⊎_elim (λ p. y.left n t (x.right n t p)) (λ p. y.right n t p) (z.only n t e);
  only = λ n t e. ⊎_elim (λ p. ⊎_elim (λ q. inl q) (λ q. inr (z.left n t q)) (x.only n t p)) (λ p. inr (z.right n t p)) (y.only n t e);
}

pub to_left : (a b c k l m : Row) → IsJoin b c l → IsJoin a l m → IsJoin a b k → IsJoin k c m
to_left a b c k l m z y x = record {
  left = λ n t e. ⊎_elim (λ p. y.left n t p) (λ p. y.right n t (z.left n t p)) (x.only n t e);
  right = λ n t e. y.right n t (z.right n t e);
  only = λ n t e. ⊎_elim (λ p. inl (x.left n t p)) (λ p. ⊎_elim (λ q. inl (x.right n t q)) (λ q. inr q) (z.only n t p)) (y.only n t e);
}

-- joins of three rows may be bracketed either way
pub joined_moved : (a b c : Row) → then_joined (joined a b) c ≡ joined_then a (joined b c)
joined_moved a b c = same_options _ _
    (λ m e.
    let r = then_to (joined a b) c m e in
    let x : IsJoin a b r.0 = joined_to a b r.0 r.1 in
    let y : IsJoin r.0 c m = r.2 in
    let l = both_below b c m (λ n t h. y.left n t (x.right n t h)) y.right in
    ap (joined_then a) l.1 ∙ joined_from a l.0 m (to_right a b c r.0 l.0 m x y l.2))
    (λ m e.
    let r = to_then a (joined b c) m e in
    let z : IsJoin b c r.0 = joined_to b c r.0 r.1 in
    let y : IsJoin a r.0 m = r.2 in
    let k = both_below a b m y.left (λ n t h. y.right n t (z.left n t h)) in
    ap (λ o. then_joined o c) k.1 ∙ joined_from k.0 c m (to_left a b c k.0 r.0 m z y k.2))

-- what such joins weigh
pub weigh_then : (f : Row → ℕ) (o : Option Row) (zs : List Row) → weigh (λ k. total (λ c. weigh f (joined k c)) zs) o ≡ total (λ c. weigh f (then_joined o c)) zs
weigh_then f None zs = sym (total_none zs)
weigh_then f (Some k) zs = refl

pub weigh_joined : (f : Row → ℕ) (a : Row) (o : Option Row) → weigh (λ l. weigh f (joined a l)) o ≡ weigh f (joined_then a o)
weigh_joined f a None = refl
weigh_joined f a (Some l) = refl

-- joins associate as bags
pub joins_moved : (xs ys zs : List Row) → SameBag (joins (joins xs ys) zs) (joins xs (joins ys zs))
joins_moved xs ys zs = record {
  by = λ f.
      total-joins f (joins xs ys) zs
      ∙ total-joins (λ k. total (λ c. weigh f (joined k c)) zs) xs ys
      ∙ total_same _ _ xs (λ a _.
      total_same _ _ ys (λ b _. weigh_then f (joined a b) zs ∙ total_same _ _ zs (λ c _. ap (weigh f) (joined_moved a b c) ∙ sym (weigh_joined f a (joined b c))))
      ∙ sym (total-joins (λ l. weigh f (joined a l)) ys zs))
      ∙ sym (total-joins f xs (joins ys zs));
}

-- the empty row joins with nothing new
pub joined_empty : (a : Row) → joined a finmap.empty ≡ Some a
joined_empty a = joined_from a finmap.empty a (record {
  left = λ n t e. e;
  right = λ n t e. absurd (not_some t (sym e ∙ finmap.get-empty bytes_cmp n));
  only = λ n t e. inl e;
})

-- the row without names is the unit of joins
pub joins_unit : (xs : List Row) → joins xs (finmap.empty ∷ []) ≡ xs
joins_unit [] = refl
joins_unit (x ∷ xs) = ap (λ o. cons_option o [] ++ joins xs (finmap.empty ∷ [])) (joined_empty x) ∙ ap (λ w. x ∷ w) (joins_unit xs)
