-- Merges of rows.
use Rattle.std.proofs.Common.{◌≡◌, Bool, true, false, cond, List, [], ◌∷◌, Option, Some, None, refl, sym, ap, ◌∙◌, subst, ⊎_elim, inl, inr, Less, Equal, Greater}
use Rattle.std.specs.Prelude.{◌⊎◌, ◌||◌, ◌&&◌, is_some}
use Rattle.std.specs.List.{filter_map, list_any, list_all}
use Rattle.std.specs.declared.cmp.Ordering.{Ordering}
use Rattle.std.specs.Ordering.{is_eq}
use Rattle.std.specs.Cmp.{eq_by_cmp_equiv}
use Rattle.std.specs.FinMap as finmap
use Rattle.std.proofs.lemmas.Cmp.{nat_list_cmp_total}
use Rattle.term_core.specs.declared.term.Term.{Term}
use Rattle.term_core.specs.Order.{bytes_cmp}
use Rattle.term_core.specs.OrderLaws.{terms_total, same_terms, same_bytes}
use Rattle.term_core.specs.Bags.{In}
use Rattle.term_core.specs.Mappings.{Name, Row, value, same_name, same_term, has_name, do_agree, are_compatible, with_entries, merge, joined, joins, restricted, IsJoin, IsAmongJoins}
use Rattle.term_core.proofs.Bags.{bool_cases, In-flat_map, from_In-flat_map, In-filter_map, from_In-filter_map}

-- orders that count as equal are Equal
pub tie : (o : Ordering) → is_eq o ≡ true → o ≡ Equal
tie Less e = cc
tie Equal e = refl
tie Greater e = cc

-- the tests of equality are exact
pub names_same : (a b : Name) → same_name a b ≡ true → a ≡ b
names_same a b e = same_bytes a b (tie _ e)

pub name_itself : (a : Name) → same_name a a ≡ true
name_itself a = (eq_by_cmp_equiv nat_list_cmp_total).refl a

pub terms_same : (a b : Term) → same_term a b ≡ true → a ≡ b
terms_same a b e = same_terms a b (tie _ e)

pub term_itself : (a : Term) → same_term a a ≡ true
term_itself a = (eq_by_cmp_equiv terms_total).refl a

-- no test is both true and false
pub not_both : (b : Bool) → b ≡ true → b ≡ false → ⊥
not_both b e d = cc

-- an optional value has one value
pub Some_same : {X : Type 0} (x y : X) → Some x ≡ Some y → x ≡ y
Some_same x y e = cc

-- a value that is there is there
pub not_some : {X : Type 0} (x : X) → Some x ≡ None → ⊥
not_some x e = cc

-- tests over lists
pub list_all-from : {X : Type 0} (p : X → Bool) (xs : List X) → ((x : X) → In xs x → p x ≡ true) → list_all p xs ≡ true
list_all-from p [] h = refl
list_all-from p (x ∷ xs) h = ap (λ b. b && list_all p xs) (h x (inl refl)) ∙ list_all-from p xs (λ y i. h y (inr i))

-- both parts of a true conjunction are true
pub both_true : (a b : Bool) → a && b ≡ true → (a ≡ true) × (b ≡ true)
both_true true b e = (refl, e)
both_true false b e = cc

pub and_true : (a b : Bool) → a ≡ true → b ≡ true → a && b ≡ true
and_true a b p q = ap (λ x. x && b) p ∙ q

pub list_all-at : {X : Type 0} (p : X → Bool) (xs : List X) (x : X) → list_all p xs ≡ true → In xs x → p x ≡ true
list_all-at p [] x e i = absurd i
list_all-at p (y ∷ xs) x e i =
    ⊎_elim (λ s. sym (ap p s) ∙ (both_true _ _ e).0) (λ j. list_all-at p xs x ((both_true (p y) _ e).1) j) i

pub list_any-to : {X : Type 0} (p : X → Bool) (xs : List X) → list_any p xs ≡ true → (x : X) × In xs x × (p x ≡ true)
list_any-to p [] e = cc
list_any-to {X} p (x ∷ xs) e =
    elim (p x) as (λ b. p x ≡ b → b || list_any p xs ≡ true → (y : X) × In (x ∷ xs) y × (p y ≡ true)) [
      | true ↦ λ d _. (x, inl refl, d)
      | false ↦ λ d f. let r = list_any-to p xs f in (r.0, inr r.1, r.2)
    ] refl e

pub list_any-from : {X : Type 0} (p : X → Bool) (xs : List X) (x : X) → In xs x → p x ≡ true → list_any p xs ≡ true
list_any-from p [] x i e = absurd i
list_any-from p (y ∷ xs) x i e =
    ⊎_elim
    (λ s. ap (λ b. b || list_any p xs) (ap p s ∙ e))
    (λ j. elim (p y) as (λ b. b || list_any p xs ≡ true) [ true ↦ refl | false ↦ list_any-from p xs x j e ])
    i

-- a name is found among some exactly where it is one of them
pub has_name-to : (names : List Name) (name : Name) → has_name names name ≡ true → In names name
has_name-to names name e = let r = list_any-to (same_name name) names e in subst (λ w. In names w) (sym (names_same name r.0 r.2)) r.1

pub has_name-from : (names : List Name) (name : Name) → In names name → has_name names name ≡ true
has_name-from names name i = list_any-from (same_name name) names name i (name_itself name)

-- rows by their values
pub same_row : (a b : Row) → ((name : Name) → value a name ≡ value b name) → a ≡ b
same_row a b h = finmap.same_map nat_list_cmp_total same_bytes a b h

-- one row has all that another has
abbrev pub Below : Row → Row → Type 0
Below a k = (name : Name) (t : Term) → value a name ≡ Some t → value k name ≡ Some t

-- the first value, or else the second
abbrev pub either : Option Term → Option Term → Option Term
either None other = other
either (Some term) other = Some term

-- the value in a row that entries were put over
pub value-with_entries : (es : List (Name × Term)) (row : Row) (name : Name) → value (with_entries es row) name ≡ either (finmap.find bytes_cmp name es) (value row name)
value-with_entries [] row name = refl
value-with_entries (e ∷ es) row name =
    finmap.get-insert nat_list_cmp_total (with_entries es row) e.0 e.1 name
    ∙ elim (same_name name e.0) as (λ b. cond b (Some e.1) (value (with_entries es row) name) ≡ either (cond b (Some e.1) (finmap.find bytes_cmp name es)) (value row name)) [
      | true ↦ refl
      | false ↦ value-with_entries es row name
    ]

-- a name's value in a merge
pub value-merge : (a b : Row) (name : Name) → value (merge a b) name ≡ either (value a name) (value b name)
value-merge a b name = value-with_entries (finmap.entries a) b name ∙ ap (λ o. either o (value b name)) (sym (finmap.get-entries a name))

-- a name's value in a restricted row
pub value-restricted : (names : List Name) (row : Row) (name : Name) → value (restricted names row) name ≡ cond (has_name names name) (value row name) None
value-restricted names row name =
    finmap.get-retain_keys row (has_name names) name (λ x t. ap (has_name names) (sym (same_bytes name x t)))

-- optional values agree exactly where they are one where both are there
pub agree_from : (a b : Option Term) → ((s t : Term) → a ≡ Some s → b ≡ Some t → s ≡ t) → do_agree a b ≡ true
agree_from None b h = refl
agree_from (Some s) None h = refl
agree_from (Some s) (Some t) h = ap (same_term s) (sym (h s t refl refl)) ∙ term_itself s

pub agree_to : (a b : Option Term) (s t : Term) → do_agree a b ≡ true → a ≡ Some s → b ≡ Some t → s ≡ t
agree_to None b s t e p q = cc
agree_to (Some x) None s t e p q = cc
agree_to (Some x) (Some y) s t e p q = sym (Some_same x s p) ∙ terms_same x y e ∙ Some_same y t q

-- rows are compatible exactly where they agree on the names that both bind
pub compatible_from : (a b : Row) → ((name : Name) (s t : Term) → value a name ≡ Some s → value b name ≡ Some t → s ≡ t) → are_compatible a b ≡ true
compatible_from a b h = list_all-from _ (finmap.keys a) (λ name i. agree_from _ _ (h name))

-- a bound name is a key
pub in_keys : (a : Row) (name : Name) (s : Term) → value a name ≡ Some s → In (finmap.keys a) name
in_keys a name s e = has_name-to (finmap.keys a) name (sym (finmap.contains_key-keys a name) ∙ ap is_some e)

pub compatible_to : (a b : Row) (name : Name) (s t : Term) → are_compatible a b ≡ true → value a name ≡ Some s → value b name ≡ Some t → s ≡ t
compatible_to a b name s t e p q = agree_to _ _ s t (list_all-at (λ n. do_agree (value a n) (value b n)) (finmap.keys a) name e (in_keys a name s p)) p q

-- the parts of a merge's value
pub right_value : (a b : Option Term) (t : Term) → ((s : Term) → a ≡ Some s → s ≡ t) → b ≡ Some t → either a b ≡ Some t
right_value None b t h e = e
right_value (Some s) b t h e = ap Some (h s refl)

pub only_value : (a b : Option Term) (t : Term) → either a b ≡ Some t → (a ≡ Some t) ⊎ (b ≡ Some t)
only_value None b t e = inr e
only_value (Some s) b t e = inl e

-- a value under a test
pub cond_some : {X : Type 0} (b : Bool) (x y : X) → cond b (Some x) None ≡ Some y → (b ≡ true) × (x ≡ y)
cond_some true x y e = (refl, Some_same x y e)
cond_some false x y e = cc

-- a join is the union of two rows that agree
pub joined_to : (a b k : Row) → joined a b ≡ Some k → IsJoin a b k
joined_to a b k e =
    let r = cond_some (are_compatible a b) (merge a b) k e in
    let at : (name : Name) → value k name ≡ either (value a name) (value b name) = λ name. ap (λ m. value m name) (sym r.1) ∙ value-merge a b name in
    record {
      left = λ name t h. at name ∙ ap (λ o. either o (value b name)) h;
      right = λ name t h. at name ∙ right_value _ _ t (λ s p. compatible_to a b name s t r.0 p h) h;
      only = λ name t h. only_value _ _ t (sym (at name) ∙ h);
    }

-- a value that is either row's is the merge's
pub joined_value : (a b k : Option Term) → ((t : Term) → a ≡ Some t → k ≡ Some t) → ((t : Term) → b ≡ Some t → k ≡ Some t) → ((t : Term) → k ≡ Some t → (a ≡ Some t) ⊎ (b ≡ Some t)) → either a b ≡ k
joined_value (Some s) b k l r o = sym (l s refl)
joined_value None (Some t) k l r o = sym (r t refl)
joined_value None None None l r o = refl
joined_value None None (Some u) l r o = absurd (⊎_elim (λ e. not_some u (sym e)) (λ e. not_some u (sym e)) (o u refl))

pub joined_from : (a b k : Row) → IsJoin a b k → joined a b ≡ Some k
joined_from a b k j =
    ap (λ c. cond c (Some (merge a b)) None) (compatible_from a b (λ name s t p q. Some_same s t (sym (j.left name s p) ∙ j.right name t q)))
    ∙ ap Some (same_row (merge a b) k (λ name. value-merge a b name ∙ joined_value _ _ _ (j.left name) (j.right name) (j.only name)))

-- the members of a list of joins
pub from_In-joins : (xs ys : List Row) (k : Row) → In (joins xs ys) k → IsAmongJoins xs ys k
from_In-joins xs ys k i =
    let p = from_In-flat_map (λ a. filter_map (joined a) ys) xs k i in
    let q = from_In-filter_map (joined p.0) ys k p.2 in
    record { a = p.0; b = q.0; left = p.1; right = q.1; join = joined_to p.0 q.0 k q.2 }

pub In-joins : (xs ys : List Row) (k a b : Row) → In xs a → In ys b → IsJoin a b k → In (joins xs ys) k
In-joins xs ys k a b i j h = In-flat_map (λ x. filter_map (joined x) ys) xs a k i (In-filter_map (joined a) ys b k j (joined_from a b k h))

-- a kept name keeps its value
pub value-kept : (names : List Name) (row : Row) (name : Name) → In names name → value (restricted names row) name ≡ value row name
value-kept names row name i = value-restricted names row name ∙ ap (λ b. cond b (value row name) None) (has_name-from names name i)

-- whether a name that is not among some is found there
pub not_named : (names : List Name) (name : Name) → (In names name → ⊥) → has_name names name ≡ false
not_named names name out = ⊎_elim (λ e. absurd (out (has_name-to names name e))) (λ e. e) (bool_cases (has_name names name))

-- a name that is not kept is unbound
pub value-dropped : (names : List Name) (row : Row) (name : Name) → (In names name → ⊥) → value (restricted names row) name ≡ None
value-dropped names row name out = value-restricted names row name ∙ ap (λ b. cond b (value row name) None) (not_named names name out)
