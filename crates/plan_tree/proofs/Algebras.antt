-- The rows of a plan are those of its algebra.
use Rattle.std.proofs.Common.{◌≡◌, true, List, [], ◌∷◌, ◌++◌, map, drop, Some, refl, sym, ap, ◌∙◌, subst, ⊎_elim, inl, inr}
use Rattle.std.specs.Prelude.{flat_map, filter, ◌⊎◌}
use Rattle.std.specs.FinMap as finmap
use Rattle.std.proofs.lemmas.List.{map-append}
use Rattle.term_core.specs.declared.term.Term.{Term}
use Rattle.term_core.specs.declared.term.Triple.{Triple}
use Rattle.term_core.specs.declared.pattern.Place.{Place}
use Rattle.term_core.specs.declared.pattern.Place.TheVariants as places
use Rattle.term_core.specs.declared.pattern.Pattern as code
use Rattle.term_core.specs.Order.{bytes_cmp}
use Rattle.term_core.specs.Bags.{total, SameBag, In, HaveSame}
use Rattle.term_core.specs.Mappings.{Name, Row, value, joins, restricted}
use Rattle.term_core.specs.Patterns.{Pattern, names_at, names_in, label_name, position_of, pattern_of}
use Rattle.term_core.specs.Index.{range}
use Rattle.term_core.proofs.Bags.{total_same, total-map, In-append_left, In-append_right, In-append_cases, In-flat_map, from_In-map, from_In-flat_map, from_In-filter, from_In-filter_map}
use Rattle.term_core.proofs.Merges.{not_some}
use Rattle.term_core.proofs.Joined.{bag_same, bag_is, bag_back, bag_then, bag_append, bag_map, bag_filter, joins_same, joins_turned, joins_unit}
use Rattle.term_core.proofs.Permuted.{rows_permuted}
use Rattle.term_core.proofs.Ranges.{from_In-range}
use Rattle.term_core.proofs.Sets.{same_back}
use Rattle.sparql_tree.specs.Algebra.{Algebra, Bgp, Join, LeftJoin, Minus, Union, Filter, Extend, Table}
use Rattle.sparql_tree.specs.Answer.{IsAnswer}
use Rattle.sparql_tree.specs.Bgp.{full_solutions, is_variable, visible, Names, IsFull}
use Rattle.sparql_tree.specs.Scopes.{variable_in, label_in, variables_in, labels_in}
use Rattle.sparql_tree.proofs.Full.{full_to, any_order}
use Rattle.sparql_value.specs.Evaluation.{value_under, is_true_under}
use Rattle.sparql_value.specs.Solutions.{eval}
use Rattle.plan_tree.specs.Trace.{Plan, rows_plan, join_plan, union_plan, filter_plan, bind_plan, project_plan, extended, made_of, extended_by, trace, rows_of}
use Rattle.plan_tree.specs.Plans.{joined_onto, one_row, IsOnto, IsPlan}
use Rattle.plan_tree.specs.Laws.{IsExtended, AreVariables, labels_of, IsProper}
use Rattle.plan_tree.proofs.Made.{extended_to}
use Rattle.plan_tree.proofs.Traces.{rows_in, rows_of-append, rows_of-table, rows_of-join, rows_of-kept, rows_of-changed, trace_same}
use Rattle.plan_tree.proofs.Solutions.{onto_bag, projected}
use Rattle.plan_tree.proofs.Visible.{visible_joins, filter_visible, extended_visible, map_visible, with_uses, all_visible}

-- a name that some row of a plan binds
record Had (D : List Triple) (plan : Plan) (name : Name) (t : Term) : Type 0 where
  row : Row
  among : In (rows_in D plan) row
  has : value row name ≡ Some t

had_in : (D : List Triple) (plan : Plan) (xs : List Row) (n : Name) (t : Term) → rows_in D plan ≡ xs → Had D plan n t → (r : Row) × In xs r × (value r n ≡ Some t)
had_in D plan xs n t e h = (h.row, subst (λ w. In w h.row) e h.among, h.has)

onto_uses : (D : List Triple) (plan : Plan) (ps : List Pattern) (name : Name) (t : Term) → Had D (joined_onto plan ps) name t → Had D plan name t ⊎ Names ps name
onto_uses D plan [] name t h = inl h
onto_uses D plan (p ∷ ps) name t h =
    ⊎_elim
    (λ (g : Had D (join_plan plan p) name t).
    let m = from_In-flat_map (made_of D p) (rows_in D plan) g.row (subst (λ w. In w g.row) (rows_of-join D p (trace D plan)) g.among) in
    let r = from_In-filter_map (extended p m.0) (range D p m.0) g.row m.2 in
    let x : IsExtended p m.0 r.0 g.row = extended_to p m.0 r.0 g.row (from_In-range D p m.0 r.0 r.1).1 r.2 in
    ⊎_elim (λ e. inl (record { row = m.0; among = m.1; has = e })) (λ i. inr (p, inl refl, i)) (x.only name t g.has))
    (λ n. inr (n.0, inr n.1, n.2))
    (onto_uses D (join_plan plan p) ps name t h)

-- the names that rows of an algebra may bind
abbrev Uses : Algebra → Name → Type 0
Uses (Bgp patterns) name = Names (map pattern_of patterns) name
Uses (Join a b) name = Uses a name ⊎ Uses b name
Uses (LeftJoin a b condition) name = Uses a name ⊎ Uses b name
Uses (Minus a b) name = Uses a name ⊎ Uses b name
Uses (Union a b) name = Uses a name ⊎ Uses b name
Uses (Filter condition a) name = Uses a name
Uses (Extend a variable e) name = Uses a name ⊎ (variable ≡ name)
Uses (Table variables rows) name = (row : Row) × (t : Term) × In rows row × (value row name ≡ Some t)

-- the name of a blank node whose label is among these
abbrev IsLabelled : List Name → Name → Type 0
IsLabelled labels name = (label : Name) × In labels label × (name ≡ label_name label)

-- each name is a variable or that of a label
place_named : (at : Place) (name : Name) → In (names_at (position_of at)) name → In (variable_in at) name ⊎ IsLabelled (label_in at) name
place_named (places.Var other) name i = inl i
place_named (places.Blank label) name i = inr (label, inl refl, ⊎_elim (λ e. sym e) (λ j. absurd j) i)
place_named (places.Term term) name i = absurd i

more_labelled : (labels others : List Name) (name : Name) → ((label : Name) → In labels label → In others label) → IsLabelled labels name → IsLabelled others name
more_labelled labels others name more (label, i, e) = (label, more label i, e)

pattern_named : (p : code.Pattern) (name : Name) → In (names_in (pattern_of p)) name → In (variables_in p) name ⊎ IsLabelled (labels_in p) name
pattern_named p name i = ⊎_elim
    (λ s. ⊎_elim
    (λ v. inl (In-append_left _ _ name v))
    (λ l. inr (more_labelled (label_in p.subject) (labels_in p) name (λ x j. In-append_left _ _ x j) l))
    (place_named p.subject name s))
    (λ rest. ⊎_elim
    (λ q. ⊎_elim
    (λ v. inl (In-append_right (variable_in p.subject) _ name (In-append_left _ _ name v)))
    (λ l. inr (more_labelled (label_in p.predicate) (labels_in p) name (λ x j. In-append_right (label_in p.subject) _ x (In-append_left _ _ x j)) l))
    (place_named p.predicate name q))
    (λ o. ⊎_elim
    (λ v. inl (In-append_right (variable_in p.subject) _ name (In-append_right (variable_in p.predicate) _ name v)))
    (λ l. inr (more_labelled (label_in p.object) (labels_in p) name (λ x j. In-append_right (label_in p.subject) _ x (In-append_right (label_in p.predicate) _ x j)) l))
    (place_named p.object name o))
    (In-append_cases (names_at (position_of p.predicate)) _ name rest))
    (In-append_cases (names_at (position_of p.subject)) _ name i)

-- each name that rows of a proper algebra bind is a variable or that of a label
named : (a : Algebra) (name : Name) → IsProper a → Uses a name → (is_variable name ≡ true) ⊎ IsLabelled (labels_of a) name
named (Bgp patterns) name h (p, among, i) =
    let q = from_In-map pattern_of patterns p among in
    ⊎_elim
    (λ v. inl (h name (In-flat_map variables_in patterns q.0 name q.1 v)))
    (λ l. inr (more_labelled (labels_in q.0) (flat_map labels_in patterns) name (λ x j. In-flat_map labels_in patterns q.0 x q.1 j) l))
    (pattern_named q.0 name (subst (λ w. In (names_in w) name) (sym q.2) i))
named (Join a b) name h u = ⊎_elim
    (λ l. ⊎_elim (λ v. inl v) (λ x. inr (more_labelled (labels_of a) (labels_of a ++ labels_of b) name (λ n j. In-append_left _ _ n j) x)) (named a name h.0 l))
    (λ r. ⊎_elim (λ v. inl v) (λ x. inr (more_labelled (labels_of b) (labels_of a ++ labels_of b) name (λ n j. In-append_right (labels_of a) _ n j) x)) (named b name h.1 r))
    u
named (LeftJoin a b condition) name h u = ⊎_elim
    (λ l. ⊎_elim (λ v. inl v) (λ x. inr (more_labelled (labels_of a) (labels_of a ++ labels_of b) name (λ n j. In-append_left _ _ n j) x)) (named a name h.0 l))
    (λ r. ⊎_elim (λ v. inl v) (λ x. inr (more_labelled (labels_of b) (labels_of a ++ labels_of b) name (λ n j. In-append_right (labels_of a) _ n j) x)) (named b name h.1 r))
    u
named (Minus a b) name h u = ⊎_elim
    (λ l. ⊎_elim (λ v. inl v) (λ x. inr (more_labelled (labels_of a) (labels_of a ++ labels_of b) name (λ n j. In-append_left _ _ n j) x)) (named a name h.0 l))
    (λ r. ⊎_elim (λ v. inl v) (λ x. inr (more_labelled (labels_of b) (labels_of a ++ labels_of b) name (λ n j. In-append_right (labels_of a) _ n j) x)) (named b name h.1 r))
    u
named (Union a b) name h u = ⊎_elim
    (λ l. ⊎_elim (λ v. inl v) (λ x. inr (more_labelled (labels_of a) (labels_of a ++ labels_of b) name (λ n j. In-append_left _ _ n j) x)) (named a name h.0 l))
    (λ r. ⊎_elim (λ v. inl v) (λ x. inr (more_labelled (labels_of b) (labels_of a ++ labels_of b) name (λ n j. In-append_right (labels_of a) _ n j) x)) (named b name h.1 r))
    u
named (Filter condition a) name h u = named a name h.1 u
named (Extend a variable e) name h u = ⊎_elim (λ l. named a name h.0 l) (λ s. inl (subst (λ w. is_variable w ≡ true) s h.1)) u
named (Table variables rows) name h (row, t, i, e) = inl (h row name t i e)

-- so a name that rows of both sides of a join bind is a variable
both_named : (a b : Algebra) (name : Name) → IsProper (Join a b) → Uses a name → Uses b name → is_variable name ≡ true
both_named a b name h u v = ⊎_elim
    (λ x. x)
    (λ x. ⊎_elim
    (λ y. y)
    (λ y. absurd (h.2 x.0 x.1 (subst (λ w. In (labels_of b) w) (ap (drop 2) (sym y.2 ∙ x.2)) y.1)))
    (named b name h.1 v))
    (named a name h.0 u)

-- what is kept of an algebra by a plan
record Keeps (D : List Triple) (a : Algebra) (plan : Plan) : Type 0 where
  bag : SameBag (map visible (rows_in D plan)) (eval D a)
  uses : (name : Name) (t : Term) → Had D plan name t → Uses a name

moved_names : (ps qs : List Pattern) (name : Name) → HaveSame ps qs → Names qs name → Names ps name
moved_names ps qs name s n = (n.0, s.from n.0 n.1, n.2)

any_onto : (D : List Triple) (below : Plan) (ps qs : List Pattern) → HaveSame ps qs → SameBag (rows_in D (joined_onto below qs)) (joins (rows_in D below) (full_solutions D ps))
any_onto D below ps qs s =
    bag_then (onto_bag D below qs)
    (joins_same (rows_in D below) (full_solutions D qs) (rows_in D below) (full_solutions D ps) (bag_same (rows_in D below)) (any_order D qs ps (same_back s)))

with_bgp : (D : List Triple) (a : Algebra) (below : Plan) (ps qs : List Pattern) → Keeps D a below → HaveSame ps qs → ((name : Name) → Uses a name → Names ps name → is_variable name ≡ true)
    → SameBag (map visible (rows_in D (joined_onto below qs))) (joins (eval D a) (map visible (full_solutions D ps)))
with_bgp D a below ps qs k s v =
    bag_then (bag_map visible (rows_in D (joined_onto below qs)) (joins (rows_in D below) (full_solutions D ps)) (any_onto D below ps qs s))
    (bag_then (visible_joins (rows_in D below) (full_solutions D ps) (λ x y i j n t u p q.
    let f : IsFull D ps y = full_to D ps y j in v n (k.uses n t (record { row = x; among = i; has = p })) (f.within n u q)))
    (joins_same (map visible (rows_in D below)) (map visible (full_solutions D ps)) (eval D a) (map visible (full_solutions D ps)) k.bag (bag_same (map visible (full_solutions D ps)))))

bgp_alone : (D : List Triple) (patterns : List code.Pattern) (qs : List Pattern) → HaveSame (map pattern_of patterns) qs → Keeps D (Bgp patterns) (joined_onto one_row qs)
bgp_alone D patterns qs s =
    let ps = map pattern_of patterns in
    record {
      bag = bag_map visible (rows_in D (joined_onto one_row qs)) (full_solutions D ps)
          (bag_then (any_onto D one_row ps qs s)
          (bag_then (joins_turned (finmap.empty ∷ []) (full_solutions D ps)) (bag_is _ _ (joins_unit (full_solutions D ps)))));
      uses = λ n t h. ⊎_elim
          (λ (g : Had D one_row n t). absurd (not_some t (sym g.has ∙ ⊎_elim (λ e. ap (λ r. value r n) (sym e)) (λ i. absurd i) g.among ∙ finmap.get-empty bytes_cmp n)))
          (λ m. moved_names ps qs n s m) (onto_uses D one_row qs n t h);
    }

-- a basic graph pattern on the right of a join, and on the left
right_bgp : (D : List Triple) (a : Algebra) (patterns : List code.Pattern) (plan : Plan) → ((below : Plan) → IsPlan a below → Keeps D a below) → IsProper (Join a (Bgp patterns)) → IsOnto (map pattern_of patterns) (λ below. IsPlan a below) plan → Keeps D (Join a (Bgp patterns)) plan
right_bgp D a patterns plan keep h (below, qs, is, s, e) =
    let ps = map pattern_of patterns in
    let k : Keeps D a below = keep below is in
    subst (Keeps D (Join a (Bgp patterns))) (sym e) (record {
      bag = with_bgp D a below ps qs k s (λ n u m. both_named a (Bgp patterns) n h u m);
      uses = λ n t g. ⊎_elim (λ l. inl (k.uses n t l)) (λ m. inr (moved_names ps qs n s m)) (onto_uses D below qs n t g);
    })

left_bgp : (D : List Triple) (patterns : List code.Pattern) (b : Algebra) (plan : Plan) → ((below : Plan) → IsPlan b below → Keeps D b below) → IsProper (Join (Bgp patterns) b) → IsOnto (map pattern_of patterns) (λ below. IsPlan b below) plan → Keeps D (Join (Bgp patterns) b) plan
left_bgp D patterns b plan keep h (below, qs, is, s, e) =
    let ps = map pattern_of patterns in
    let k : Keeps D b below = keep below is in
    subst (Keeps D (Join (Bgp patterns) b)) (sym e) (record {
      bag = bag_then (with_bgp D b below ps qs k s (λ n u m. both_named (Bgp patterns) b n h m u)) (joins_turned (eval D b) (map visible (full_solutions D ps)));
      uses = λ n t g. ⊎_elim (λ l. inr (k.uses n t l)) (λ m. inl (moved_names ps qs n s m)) (onto_uses D below qs n t g);
    })

keeps : (D : List Triple) (a : Algebra) (plan : Plan) → IsProper a → IsPlan a plan → Keeps D a plan
keeps D (Bgp patterns) plan s h = subst (Keeps D (Bgp patterns)) (sym h.2) (bgp_alone D patterns h.0 h.1)
keeps D (Join a (Bgp patterns)) plan s h = right_bgp D a patterns plan (λ below is. keeps D a below s.0 is) s h
keeps D (Join (Bgp patterns) (Join x y)) plan s h = left_bgp D patterns (Join x y) plan (λ below is. keeps D (Join x y) below s.1 is) s h
keeps D (Join (Bgp patterns) (Union x y)) plan s h = left_bgp D patterns (Union x y) plan (λ below is. keeps D (Union x y) below s.1 is) s h
keeps D (Join (Bgp patterns) (Filter e x)) plan s h = left_bgp D patterns (Filter e x) plan (λ below is. keeps D (Filter e x) below s.1 is) s h
keeps D (Join (Bgp patterns) (Extend x v e)) plan s h = left_bgp D patterns (Extend x v e) plan (λ below is. keeps D (Extend x v e) below s.1 is) s h
keeps D (Join (Bgp patterns) (Table vs rows)) plan s h = left_bgp D patterns (Table vs rows) plan (λ below is. keeps D (Table vs rows) below s.1 is) s h
keeps D (Join (Bgp patterns) (LeftJoin x y e)) plan s h = absurd h.2
keeps D (Join (Bgp patterns) (Minus x y)) plan s h = absurd h.2
keeps D (Join a b) plan s h = absurd assumption
keeps D (LeftJoin a b condition) plan s h = absurd h
keeps D (Minus a b) plan s h = absurd h
keeps D (Union a b) plan s h =
    let x : Keeps D a h.0 = keeps D a h.0 s.0 h.2 in
    let y : Keeps D b h.1 = keeps D b h.1 s.1 h.3 in
    let e : rows_in D (union_plan h.0 h.1) ≡ rows_in D h.0 ++ rows_in D h.1 = rows_of-append (trace D h.0) (trace D h.1) in
    subst (Keeps D (Union a b)) (sym h.4) (record {
      bag = bag_then (bag_is _ _ (ap (map visible) e ∙ map-append visible (rows_in D h.0) (rows_in D h.1)))
          (bag_append (map visible (rows_in D h.0)) (map visible (rows_in D h.1)) (eval D a) (eval D b) x.bag y.bag);
      uses = λ n t g. let r = had_in D (union_plan h.0 h.1) _ n t e g in
          ⊎_elim (λ i. inl (x.uses n t (record { row = r.0; among = i; has = r.2 }))) (λ i. inr (y.uses n t (record { row = r.0; among = i; has = r.2 }))) (In-append_cases (rows_in D h.0) (rows_in D h.1) r.0 r.1);
    })
keeps D (Filter f a) plan s h =
    let x : Keeps D a h.0 = keeps D a h.0 s.1 h.1 in
    let e : rows_in D (filter_plan h.0 f) ≡ filter (is_true_under f) (rows_in D h.0) = rows_of-kept f (trace D h.0) in
    subst (Keeps D (Filter f a)) (sym h.2) (record {
      bag = bag_then (bag_is _ _ (ap (map visible) e)) (bag_then (filter_visible f (rows_in D h.0) s.0) (bag_filter (is_true_under f) (map visible (rows_in D h.0)) (eval D a) x.bag));
      uses = λ n t g. let r = had_in D (filter_plan h.0 f) _ n t e g in x.uses n t (record { row = r.0; among = (from_In-filter (is_true_under f) (rows_in D h.0) r.0 r.1).0; has = r.2 });
    })
keeps D (Extend a v f) plan s h =
    let x : Keeps D a h.0 = keeps D a h.0 s.0 h.1 in
    let e : rows_in D (bind_plan h.0 v f) ≡ map (extended_by v f) (rows_in D h.0) = rows_of-changed (extended_by v f) (trace D h.0) in
    subst (Keeps D (Extend a v f)) (sym h.2) (record {
      bag = bag_then (bag_is _ _ (ap (map visible) e))
          (bag_then (map_visible (extended_by v f) (rows_in D h.0) (λ row. extended_visible row v f s.1 s.2)) (bag_map (extended_by v f) (map visible (rows_in D h.0)) (eval D a) x.bag));
      uses = λ n t g.
          let r = had_in D (bind_plan h.0 v f) _ n t e g in
          let q = from_In-map (extended_by v f) (rows_in D h.0) r.0 r.1 in
          ⊎_elim (λ w. inl (x.uses n t (record { row = q.0; among = q.1; has = w }))) (λ w. inr w)
          (with_uses q.0 v n (value_under f q.0) t (ap (λ row. value row n) q.2 ∙ r.2));
    })
keeps D (Table vs rows) plan s h =
    subst (Keeps D (Table vs rows)) (sym h) (record {
      bag = record {
        by = λ f. ap (λ w. total f (map visible w)) (rows_of-table rows) ∙ total-map f visible rows
            ∙ total_same _ _ rows (λ row i. ap f (all_visible row (λ n t e. s row n t i e)));
      };
      uses = λ n t g. let r = had_in D (rows_plan vs rows) rows n t (rows_of-table rows) g in (r.0, t, r.1, r.2);
    })

-- the plan's rows over one list of triples are those over another list of the same
moved_rows : (L D : List Triple) (plan : Plan) → HaveSame L D → rows_in D plan ≡ rows_in L plan
moved_rows L D plan s = ap rows_of (trace_same D L plan (same_back s))

-- the law of the bag
pub bag_kept : (L D : List Triple) (a : Algebra) (plan : Plan) (names : List Name) → HaveSame L D → IsProper a → IsPlan a plan → AreVariables names
    → SameBag (rows_in D (project_plan plan names)) (map (restricted names) (eval L a))
bag_kept L D a plan names s p h v =
    let k : Keeps L a plan = keeps L a plan p h in
    bag_then (bag_is _ _ (moved_rows L D (project_plan plan names) s ∙ projected L plan names v))
    (bag_map (restricted names) (map visible (rows_in L plan)) (eval L a) k.bag)

-- the law of the answer
pub rows_answer : (L D : List Triple) (a : Algebra) (plan : Plan) (names : List Name) → HaveSame L D → IsProper a → IsPlan a plan → AreVariables names
    → IsAnswer (eval L a) names (rows_in D (project_plan plan names))
rows_answer L D a plan names s p h v =
    let k : Keeps L a plan = keeps L a plan p h in
    record {
      order = map visible (rows_in L plan);
      rearranged = rows_permuted _ _ (bag_back k.bag);
      projected = moved_rows L D (project_plan plan names) s ∙ projected L plan names v;
    }
