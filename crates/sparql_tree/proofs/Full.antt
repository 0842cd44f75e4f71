-- The full solutions of patterns.
use Rattle.std.proofs.Common.{◌≡◌, true, false, cond, List, [], ◌∷◌, ◌++◌, Option, Some, None, refl, sym, ap, ◌∙◌, subst, ⊎_elim, inl, inr}
use Rattle.std.specs.Prelude.{flat_map, is_some}
use Rattle.std.specs.List.{filter_map, list_any}
use Rattle.term_core.specs.declared.term.Term.{Term}
use Rattle.term_core.specs.declared.term.Triple.{Triple}
use Rattle.term_core.specs.Bags.{In, AreDistinct, SameBag, HaveSame}
use Rattle.term_core.specs.Mappings.{Name, Row, value, same_term, has_name, joined, joins, restricted, IsJoin, IsAmongJoins}
use Rattle.term_core.proofs.Bags.{In-append_left, In-append_right, In-append_cases, In-flat_map, In-filter, from_In-filter, from_In-filter_map, AreDistinct-filter, AreDistinct-flat_map, AreDistinct-filter_map, same_members}
use Rattle.term_core.proofs.Merges.{terms_same, term_itself, Some_same, not_some, list_all-from, list_all-at, list_any-to, list_any-from, has_name-to, has_name-from, same_row, value-restricted, both_true, and_true, not_named, joined_to, from_In-joins, In-joins}
use Rattle.term_core.proofs.Distinct.{In-distinct, AreDistinct-distinct}
use Rattle.term_core.specs.Patterns.{Position, Known, Named, Pattern, names_at, names_in, filled}
use Rattle.sparql_tree.specs.Bgp.{names_of, assignments, is_term, becomes, solves, full_solutions, Names, IsFull}
use Rattle.term_core.specs.Data.{parts, terms_of}
use Rattle.sparql_tree.specs.Laws.{AreExact}
use Rattle.sparql_tree.proofs.Assignments.{names_of_distinct, names_of-to, names_of-from, IsAssignment, assignment_to, assignment_from, assignments_distinct}

-- what it is for a pattern to become a triple
pub record Becomes (row : Row) (p : Pattern) (t : Triple) : Type 0 where
  pub subject : filled row p.subject ≡ Some t.subject
  pub predicate : filled row p.predicate ≡ Some t.predicate
  pub object : filled row p.object ≡ Some t.object

-- the test of a value, both ways
is_term_to : (o : Option Term) (t : Term) → is_term o t ≡ true → o ≡ Some t
is_term_to None t e = cc
is_term_to (Some s) t e = ap Some (terms_same s t e)

is_term_from : (o : Option Term) (t : Term) → o ≡ Some t → is_term o t ≡ true
is_term_from o t e = ap (λ w. is_term w t) e ∙ term_itself t

-- the test of a pattern, both ways
pub becomes_to : (row : Row) (p : Pattern) (t : Triple) → becomes row p t ≡ true → Becomes row p t
becomes_to row p t e =
    let a = both_true _ _ e in
    let b = both_true _ _ a.1 in
    record { subject = is_term_to _ _ a.0; predicate = is_term_to _ _ b.0; object = is_term_to _ _ b.1 }

pub becomes_from : (row : Row) (p : Pattern) (t : Triple) → Becomes row p t → becomes row p t ≡ true
becomes_from row p t b =
    and_true _ _ (is_term_from _ _ b.subject) (and_true _ _ (is_term_from _ _ b.predicate) (is_term_from _ _ b.object))

-- one pattern under one row becomes one triple
pub one_triple : (row : Row) (p : Pattern) (s t : Triple) → Becomes row p s → Becomes row p t → s ≡ t
one_triple row p s t a b =
    let x = Some_same _ _ (sym a.subject ∙ b.subject) in
    let y = Some_same _ _ (sym a.predicate ∙ b.predicate) in
    let z = Some_same _ _ (sym a.object ∙ b.object) in
    λ i. record { subject = x i; predicate = y i; object = z i }

-- a position that is filled stays so in a row that has more
pub filled_more : (a k : Row) (at : Position) (t : Term) → ((name : Name) (s : Term) → In (names_at at) name → value a name ≡ Some s → value k name ≡ Some s) → filled a at ≡ Some t → filled k at ≡ Some t
filled_more a k (Known term) t h e = e
filled_more a k (Named name) t h e = h name t (inl refl) e

-- a row that has all that another has of the names of a pattern
pub becomes_more : (a k : Row) (p : Pattern) (t : Triple) → ((name : Name) (s : Term) → In (names_in p) name → value a name ≡ Some s → value k name ≡ Some s) → Becomes a p t → Becomes k p t
becomes_more a k p t h b = record {
  subject = filled_more a k p.subject t.subject (λ n s i e. h n s (In-append_left _ _ n i) e) b.subject;
  predicate = filled_more a k p.predicate t.predicate (λ n s i e. h n s (In-append_right _ _ n (In-append_left _ _ n i)) e) b.predicate;
  object = filled_more a k p.object t.object (λ n s i e. h n s (In-append_right (names_at p.subject) _ n (In-append_right (names_at p.predicate) _ n i)) e) b.object;
}

-- a position that is filled tells the value of its name
filled_bound : (row : Row) (at : Position) (t : Term) (name : Name) → filled row at ≡ Some t → In (names_at at) name → value row name ≡ Some t
filled_bound row (Known term) t name e i = absurd i
filled_bound row (Named other) t name e i = ⊎_elim (λ s. sym (ap (value row) s) ∙ e) (λ j. absurd j) i

-- each name of a pattern has a value, which is a part of the triple
pub part_of : (row : Row) (p : Pattern) (t : Triple) (name : Name) → Becomes row p t → In (names_in p) name → (s : Term) × (value row name ≡ Some s) × In (parts t) s
part_of row p t name b i =
    ⊎_elim
    (λ j. (t.subject, filled_bound row p.subject t.subject name b.subject j, inl refl))
    (λ j. ⊎_elim
    (λ k. (t.predicate, filled_bound row p.predicate t.predicate name b.predicate k, inr (inl refl)))
    (λ k. (t.object, filled_bound row p.object t.object name b.object k, inr (inr (inl refl))))
    (In-append_cases (names_at p.predicate) (names_at p.object) name j))
    (In-append_cases (names_at p.subject) (names_at p.predicate ++ names_at p.object) name i)

-- each name of the patterns has a value in a full solution, and it is a term of the data
pub full_value : (D : List Triple) (ps : List Pattern) (row : Row) (name : Name) → IsFull D ps row → Names ps name → (s : Term) × (value row name ≡ Some s) × In (terms_of D) s
full_value D ps row name f n =
    let m = f.made n.0 n.1 in
    let r = part_of row n.0 m.0 name (becomes_to row n.0 m.0 m.2) n.2 in
    (r.0, r.1, In-distinct same_term terms_same term_itself _ r.0 (In-flat_map parts D m.0 r.0 m.1 r.2))

-- the list of full solutions has full solutions alone
pub full_to : (D : List Triple) (ps : List Pattern) (row : Row) → In (full_solutions D ps) row → IsFull D ps row
full_to D ps row i =
    let f = from_In-filter (solves D ps) (assignments (names_of ps) (terms_of D)) row i in
    let a : IsAssignment (names_of ps) (terms_of D) row = assignment_to (names_of ps) (terms_of D) row f.0 in
    record {
      within = λ name t e. names_of-to ps name (has_name-to (names_of ps) name (sym (a.exact name) ∙ ap is_some e));
      made = λ p j. list_any-to (becomes row p) D (list_all-at (λ q. list_any (becomes row q) D) ps p f.1 j);
    }

-- a full solution has a value exactly at the names of the patterns
full_exact : (D : List Triple) (ps : List Pattern) (row : Row) (name : Name) → IsFull D ps row → (o : Option Term) → value row name ≡ o → is_some o ≡ has_name (names_of ps) name
full_exact D ps row name f (Some t) e = sym (has_name-from (names_of ps) name (names_of-from ps name (f.within name t e)))
full_exact D ps row name f None e = sym (not_named (names_of ps) name (λ i. let r = full_value D ps row name f (names_of-to ps name i) in not_some r.0 (sym r.1 ∙ e)))

-- the list of full solutions has them all
pub full_from : (D : List Triple) (ps : List Pattern) (row : Row) → IsFull D ps row → In (full_solutions D ps) row
full_from D ps row f =
    In-filter (solves D ps) (assignments (names_of ps) (terms_of D)) row
    (assignment_from (names_of ps) (terms_of D) row (names_of_distinct ps) (record {
      exact = λ name. full_exact D ps row name f (value row name) refl;
      among = λ name t e. let r = full_value D ps row name f (f.within name t e) in subst (λ w. In (terms_of D) w) (Some_same r.0 t (sym r.1 ∙ e)) r.2;
    }))
    (list_all-from (λ q. list_any (becomes row q) D) ps (λ p i. let m = f.made p i in list_any-from (becomes row p) D m.0 m.1 m.2))

-- the list of full solutions has each once
pub full_distinct : (D : List Triple) (ps : List Pattern) → AreDistinct (full_solutions D ps)
full_distinct D ps =
    AreDistinct-filter (solves D ps) (assignments (names_of ps) (terms_of D))
    (assignments_distinct (names_of ps) (terms_of D) (names_of_distinct ps) (AreDistinct-distinct same_term terms_same term_itself (flat_map parts D)))

-- the law of full solutions
pub exact : (D : List Triple) (ps : List Pattern) → AreExact D ps
exact D ps = record { sound = λ row i. full_to D ps row i; complete = λ row f. full_from D ps row f; once = full_distinct D ps }

-- two full solutions with the same part of one row
pub same_part : (D : List Triple) (ps : List Pattern) (a b k : Row) → IsFull D ps a → IsFull D ps b
    → ((name : Name) (t : Term) → value a name ≡ Some t → value k name ≡ Some t) → ((name : Name) (t : Term) → value b name ≡ Some t → value k name ≡ Some t) → a ≡ b
same_part D ps a b k f g h j = same_row a b (λ name. at name (value a name) (value b name) refl refl)
  where
    at : (name : Name) (x y : Option Term) → value a name ≡ x → value b name ≡ y → value a name ≡ value b name
    at name None None p q = p ∙ sym q
    at name (Some s) None p q = let r = full_value D ps b name g (f.within name s p) in absurd (not_some r.0 (sym r.1 ∙ q))
    at name None (Some t) p q = let r = full_value D ps a name f (g.within name t q) in absurd (not_some r.0 (sym r.1 ∙ p))
    at name (Some s) (Some t) p q = p ∙ sym (h name s p) ∙ j name t q ∙ sym q

-- the order of the patterns does not matter, nor how often one stands
full_moved : (D : List Triple) (ps qs : List Pattern) (row : Row) → ((p : Pattern) → In ps p → In qs p) → ((p : Pattern) → In qs p → In ps p) → IsFull D ps row → IsFull D qs row
full_moved D ps qs row to from f = record {
  within = λ name t e. let n = f.within name t e in (n.0, to n.0 n.1, n.2);
  made = λ p i. f.made p (from p i);
}

-- the same patterns in another order, or more than once each, have the same solutions
pub any_order : (D : List Triple) (ps qs : List Pattern) → HaveSame ps qs → SameBag (full_solutions D ps) (full_solutions D qs)
any_order D ps qs h =
    same_members _ _ (full_distinct D ps) (full_distinct D qs)
    (λ row i. full_from D qs row (full_moved D ps qs row h.to h.from (full_to D ps row i)))
    (λ row i. full_from D ps row (full_moved D qs ps row h.from h.to (full_to D qs row i)))

-- a full solution restricted to the names of some patterns
pub part_value : (ps : List Pattern) (row : Row) (name : Name) (t : Term) → Names ps name → value row name ≡ Some t → value (restricted (names_of ps) row) name ≡ Some t
part_value ps row name t n e = value-restricted (names_of ps) row name ∙ ap (λ b. cond b (value row name) None) (has_name-from (names_of ps) name (names_of-from ps name n)) ∙ e

pub part_within : (ps : List Pattern) (row : Row) (name : Name) (t : Term) → value (restricted (names_of ps) row) name ≡ Some t → Names ps name × (value row name ≡ Some t)
part_within ps row name t e =
    elim (has_name (names_of ps) name) as (λ b. has_name (names_of ps) name ≡ b → cond b (value row name) None ≡ Some t → Names ps name × (value row name ≡ Some t)) [
      | true ↦ λ h s. (names_of-to ps name (has_name-to (names_of ps) name h), s)
      | false ↦ λ h s. absurd (not_some t (sym s))
    ] refl (sym (value-restricted (names_of ps) row name) ∙ e)

-- a full solution of patterns has a part that is one of some of them
pub full_part : (D : List Triple) (ps qs : List Pattern) (row : Row) → ((p : Pattern) → In qs p → In ps p) → IsFull D ps row → IsFull D qs (restricted (names_of qs) row)
full_part D ps qs row sub f = record {
  within = λ name t e. (part_within qs row name t e).0;
  made = λ p i. let m = f.made p (sub p i) in
      (m.0, m.1, becomes_from _ p m.0 (becomes_more row _ p m.0 (λ name s j e. part_value qs row name s (p, i, j) e) (becomes_to row p m.0 m.2)));
}

-- the merge of full solutions is one of all patterns
joined_full : (D : List Triple) (ps : List Pattern) (p : Pattern) (a b k : Row) → IsFull D ps a → IsFull D (p ∷ []) b → IsJoin a b k → IsFull D (p ∷ ps) k
joined_full D ps p a b k f g j = record {
  within = λ name t e. ⊎_elim
      (λ l. let n = f.within name t l in (n.0, inr n.1, n.2))
      (λ r. let n = g.within name t r in (n.0, ⊎_elim (λ s. inl s) (λ i. absurd i) n.1, n.2))
      (j.only name t e);
  made = λ q i. ⊎_elim
      (λ s. let m = g.made q (inl s) in (m.0, m.1, becomes_from k q m.0 (becomes_more b k q m.0 (λ name t _ e. j.right name t e) (becomes_to b q m.0 m.2))))
      (λ l. let m = f.made q l in (m.0, m.1, becomes_from k q m.0 (becomes_more a k q m.0 (λ name t _ e. j.left name t e) (becomes_to a q m.0 m.2))))
      i;
}

-- the join of two lists of full solutions has each row once
joins_distinct : (D : List Triple) (ps qs : List Pattern) → AreDistinct (joins (full_solutions D ps) (full_solutions D qs))
joins_distinct D ps qs =
    AreDistinct-flat_map (λ a. filter_map (joined a) (full_solutions D qs)) (full_solutions D ps) (full_distinct D ps)
    (λ a i. AreDistinct-filter_map (joined a) (full_solutions D qs) (full_distinct D qs)
    (λ b c k x y p q. let m : IsJoin a b k = joined_to a b k p in let n : IsJoin a c k = joined_to a c k q in same_part D qs b c k (full_to D qs b x) (full_to D qs c y) m.right n.right))
    (λ a b k x y p q.
    let r = from_In-filter_map (joined a) (full_solutions D qs) k p in
    let s = from_In-filter_map (joined b) (full_solutions D qs) k q in
    let m : IsJoin a r.0 k = joined_to a r.0 k r.2 in let n : IsJoin b s.0 k = joined_to b s.0 k s.2 in
    same_part D ps a b k (full_to D ps a x) (full_to D ps b y) m.left n.left)

-- one pattern more joins its solutions
pub one_more : (D : List Triple) (ps : List Pattern) (p : Pattern) → SameBag (full_solutions D (p ∷ ps)) (joins (full_solutions D ps) (full_solutions D (p ∷ [])))
one_more D ps p =
    same_members _ _ (full_distinct D (p ∷ ps)) (joins_distinct D ps (p ∷ []))
    (λ row i.
    let f : IsFull D (p ∷ ps) row = full_to D (p ∷ ps) row i in
    let a : Row = restricted (names_of ps) row in
    let b : Row = restricted (names_of (p ∷ [])) row in
    In-joins _ _ row a b
    (full_from D ps a (full_part D (p ∷ ps) ps row (λ q j. inr j) f))
    (full_from D (p ∷ []) b (full_part D (p ∷ ps) (p ∷ []) row (λ q j. ⊎_elim (λ s. inl s) (λ k. absurd k) j) f))
    (record {
      left = λ name t e. (part_within ps row name t e).1;
      right = λ name t e. (part_within (p ∷ []) row name t e).1;
      only = λ name t e. let n = f.within name t e in ⊎_elim
          (λ s. inr (part_value (p ∷ []) row name t (n.0, inl s, n.2) e))
          (λ j. inl (part_value ps row name t (n.0, j, n.2) e)) n.1;
    }))
    (λ row i.
    let j : IsAmongJoins (full_solutions D ps) (full_solutions D (p ∷ [])) row = from_In-joins _ _ row i in
    full_from D (p ∷ ps) row (joined_full D ps p j.a j.b row (full_to D ps j.a j.left) (full_to D (p ∷ []) j.b j.right) j.join))
