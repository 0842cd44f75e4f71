-- The names of patterns, and the functions from names to terms.
use Rattle.std.proofs.Common.{◌≡◌, true, false, cond, List, [], ◌∷◌, map, Option, Some, None, refl, sym, ap, ◌∙◌, subst, ⊎_elim, inl}
use Rattle.std.specs.Prelude.{flat_map, ◌||◌, is_some}
use Rattle.std.specs.FinMap as finmap
use Rattle.std.proofs.lemmas.Cmp.{nat_list_cmp_total}
use Rattle.term_core.specs.declared.term.Term.{Term}
use Rattle.term_core.specs.Order.{bytes_cmp}
use Rattle.term_core.specs.Bags.{In, AreDistinct}
use Rattle.term_core.specs.Mappings.{Name, Row, value, same_name, has_name}
use Rattle.term_core.proofs.Bags.{In-map, from_In-map, In-flat_map, from_In-flat_map, AreDistinct-map, AreDistinct-flat_map}
use Rattle.term_core.proofs.Merges.{names_same, name_itself, Some_same, not_some, has_name-from, same_row, not_named}
use Rattle.term_core.proofs.Distinct.{from_In-distinct, In-distinct, AreDistinct-distinct}
use Rattle.term_core.specs.Patterns.{Pattern, names_in}
use Rattle.sparql_tree.specs.Bgp.{names_of, assignments, Names}

-- the names of patterns stand once each, and are those that stand in a pattern
pub names_of_distinct : (ps : List Pattern) → AreDistinct (names_of ps)
names_of_distinct ps = AreDistinct-distinct same_name names_same name_itself (flat_map names_in ps)

pub names_of-to : (ps : List Pattern) (name : Name) → In (names_of ps) name → Names ps name
names_of-to ps name i = from_In-flat_map names_in ps name (from_In-distinct same_name names_same name_itself (flat_map names_in ps) name i)

pub names_of-from : (ps : List Pattern) (name : Name) → Names ps name → In (names_of ps) name
names_of-from ps name n = In-distinct same_name names_same name_itself (flat_map names_in ps) name (In-flat_map names_in ps n.0 name n.1 n.2)

-- what an assignment is
pub record IsAssignment (names : List Name) (terms : List Term) (row : Row) : Type 0 where
  pub exact : (name : Name) → is_some (value row name) ≡ has_name names name
  pub among : (name : Name) (t : Term) → value row name ≡ Some t → In terms t

-- what an option holds, by the test
none_from : {X : Type 0} (o : Option X) → is_some o ≡ false → o ≡ None
none_from None e = refl
none_from (Some x) e = cc

some_from : {X : Type 0} (o : Option X) → is_some o ≡ true → (x : X) × (o ≡ Some x)
some_from None e = cc
some_from (Some x) e = (x, refl)

-- what a row has after a name is bound
pub value-insert : (row : Row) (name other : Name) (t : Term) → value (finmap.insert row name t) other ≡ cond (same_name other name) (Some t) (value row other)
value-insert row name other t = finmap.get-insert nat_list_cmp_total row name t other

inserted_exact : (names : List Name) (row : Row) (name other : Name) (t : Term) → is_some (value row other) ≡ has_name names other → is_some (value (finmap.insert row name t) other) ≡ has_name (name ∷ names) other
inserted_exact names row name other t h =
    ap is_some (value-insert row name other t)
    ∙ elim (same_name other name) as (λ b. is_some (cond b (Some t) (value row other)) ≡ b || has_name names other) [ true ↦ refl | false ↦ h ]

inserted_among : (terms : List Term) (row : Row) (name other : Name) (t u : Term) → In terms t → ((v : Term) → value row other ≡ Some v → In terms v) → value (finmap.insert row name t) other ≡ Some u → In terms u
inserted_among terms row name other t u i h e =
    elim (same_name other name) as (λ b. cond b (Some t) (value row other) ≡ Some u → In terms u) [
      | true ↦ λ s. subst (λ w. In terms w) (Some_same t u s) i
      | false ↦ λ s. h u s
    ] (sym (value-insert row name other t) ∙ e)

-- the list of assignments has assignments alone
pub assignment_to : (names : List Name) (terms : List Term) (row : Row) → In (assignments names terms) row → IsAssignment names terms row
assignment_to [] terms row i =
    let e : finmap.empty ≡ row = ⊎_elim (λ s. s) (λ j. absurd j) i in
    record {
      exact = λ name. ap (λ r. is_some (value r name)) (sym e) ∙ ap is_some (finmap.get-empty bytes_cmp name);
      among = λ name t h. absurd (not_some t (sym h ∙ ap (λ r. value r name) (sym e) ∙ finmap.get-empty bytes_cmp name));
    }
assignment_to (name ∷ names) terms row i =
    let p = from_In-flat_map (λ r. map (finmap.insert r name) terms) (assignments names terms) row i in
    let q = from_In-map (finmap.insert p.0 name) terms row p.2 in
    let below : IsAssignment names terms p.0 = assignment_to names terms p.0 p.1 in
    subst (IsAssignment (name ∷ names) terms) q.2 (record {
      exact = λ other. inserted_exact names p.0 name other q.0 (below.exact other);
      among = λ other u e. inserted_among terms p.0 name other q.0 u q.1 (below.among other) e;
    })

-- what a row has after a name is taken out
value-remove : (row : Row) (name other : Name) → value (finmap.remove row name) other ≡ cond (same_name other name) None (value row other)
value-remove row name other = finmap.get-remove nat_list_cmp_total row name other

-- a name that is taken out and bound again
put_back : (row : Row) (name : Name) (t : Term) → value row name ≡ Some t → finmap.insert (finmap.remove row name) name t ≡ row
put_back row name t e = same_row _ _ (λ other.
    value-insert (finmap.remove row name) name other t ∙
    elim (same_name other name) as (λ b. same_name other name ≡ b → cond b (Some t) (value (finmap.remove row name) other) ≡ value row other) [
      | true ↦ λ s. sym (ap (value row) (names_same other name s) ∙ e)
      | false ↦ λ s. value-remove row name other ∙ ap (λ b. cond b None (value row other)) s
    ] refl)

-- an assignment without its first name is one of the other names
removed_exact : (names : List Name) (row : Row) (name other : Name) → (In names name → ⊥) → is_some (value row other) ≡ has_name (name ∷ names) other → is_some (value (finmap.remove row name) other) ≡ has_name names other
removed_exact names row name other apart h =
    ap is_some (value-remove row name other) ∙
    elim (same_name other name) as (λ b. same_name other name ≡ b → is_some (value row other) ≡ b || has_name names other → is_some (cond b None (value row other)) ≡ has_name names other) [
      | true ↦ λ s _. sym (not_named names other (λ i. apart (subst (λ w. In names w) (names_same other name s) i)))
      | false ↦ λ s g. g
    ] refl h

removed_value : (row : Row) (name other : Name) (t : Term) → value (finmap.remove row name) other ≡ Some t → value row other ≡ Some t
removed_value row name other t e =
    elim (same_name other name) as (λ b. cond b None (value row other) ≡ Some t → value row other ≡ Some t) [
      | true ↦ λ s. absurd (not_some t (sym s))
      | false ↦ λ s. s
    ] (sym (value-remove row name other) ∙ e)

-- the list of assignments has them all
pub assignment_from : (names : List Name) (terms : List Term) (row : Row) → AreDistinct names → IsAssignment names terms row → In (assignments names terms) row
assignment_from [] terms row d a = inl (same_row _ _ (λ name. finmap.get-empty bytes_cmp name ∙ sym (none_from _ (a.exact name))))
assignment_from (name ∷ names) terms row d a =
    let s = some_from (value row name) (a.exact name ∙ has_name-from (name ∷ names) name (inl refl)) in
    let below : In (assignments names terms) (finmap.remove row name) = assignment_from names terms (finmap.remove row name) d.1 (record {
      exact = λ other. removed_exact names row name other d.0 (a.exact other);
      among = λ other t e. a.among other t (removed_value row name other t e);
    }) in
    In-flat_map (λ r. map (finmap.insert r name) terms) (assignments names terms) (finmap.remove row name) row below
    (subst (λ r. In (map (finmap.insert (finmap.remove row name) name) terms) r) (put_back row name s.0 s.1) (In-map (finmap.insert (finmap.remove row name) name) terms s.0 (a.among name s.0 s.1)))

-- a name that is bound has its term
pub inserted_at : (row : Row) (name : Name) (t : Term) → value (finmap.insert row name t) name ≡ Some t
inserted_at row name t = value-insert row name name t ∙ ap (λ b. cond b (Some t) (value row name)) (name_itself name)

-- what is inserted over tells what was below, where the name was not there
same_below : (a b : Row) (name : Name) (t u : Term) → value a name ≡ None → value b name ≡ None → finmap.insert a name t ≡ finmap.insert b name u → a ≡ b
same_below a b name t u p q e = same_row a b (λ other.
    elim (same_name other name) as (λ c. same_name other name ≡ c → cond c (Some t) (value a other) ≡ cond c (Some u) (value b other) → value a other ≡ value b other) [
      | true ↦ λ s _. ap (value a) (names_same other name s) ∙ p ∙ sym (ap (value b) (names_same other name s) ∙ q)
      | false ↦ λ s g. g
    ] refl (sym (value-insert a name other t) ∙ ap (λ r. value r other) e ∙ value-insert b name other u))

-- the list of assignments has each once
pub assignments_distinct : (names : List Name) (terms : List Term) → AreDistinct names → AreDistinct terms → AreDistinct (assignments names terms)
assignments_distinct [] terms d e = ((λ i. i), tt)
assignments_distinct (name ∷ names) terms d e =
    let lacks : (r : Row) → In (assignments names terms) r → value r name ≡ None =
    λ r i. none_from _ ((assignment_to names terms r i).exact name ∙ not_named names name d.0) in
    AreDistinct-flat_map (λ r. map (finmap.insert r name) terms) (assignments names terms) (assignments_distinct names terms d.1 e)
    (λ r i. AreDistinct-map (finmap.insert r name) terms e (λ t u _ _ s. Some_same t u (sym (inserted_at r name t) ∙ ap (λ w. value w name) s ∙ inserted_at r name u)))
    (λ a b y i j p q.
    let x = from_In-map (finmap.insert a name) terms y p in
    let z = from_In-map (finmap.insert b name) terms y q in
    same_below a b name x.0 z.0 (lacks a i) (lacks b j) (x.2 ∙ sym z.2))
