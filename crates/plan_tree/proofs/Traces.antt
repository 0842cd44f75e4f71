-- The entries of plans.
use Rattle.std.proofs.Common.{sym, ◌≡◌, ◌<◌, length, subst, arith, List, [], ◌∷◌, ◌++◌, map, Option, Some, None, true, false, cond, refl, ap, ◌∙◌, append_assoc}
use Rattle.std.specs.Prelude.{flat_map, filter}
use Rattle.std.specs.List.{filter_map, cons_option}
use Rattle.std.specs.FinMap as finmap
use Rattle.term_core.specs.declared.term.Triple.{Triple}
use Rattle.term_core.specs.Mappings.{Name, Row, restricted}
use Rattle.term_core.specs.Patterns.{Pattern}
use Rattle.term_core.specs.Bags.{HaveSame}
use Rattle.sparql_tree.specs.Exprs.{Expr}
use Rattle.sparql_value.specs.Evaluation.{is_true_under}
use Rattle.plan_tree.specs.Trace.{Plan, rows_plan, join_plan, union_plan, filter_plan, bind_plan, project_plan, extended, made_of, Entries, triple_entries, join_entries, changed, kept, extended_by, trace, steps, rows_of}
use Rattle.term_core.specs.Index.{range}
use Rattle.term_core.proofs.Ranges.{range_same}

-- the rows of two lists of entries, of a table, of triples, of a join and of changed entries
pub rows_of-append : (es fs : Entries) → rows_of (es ++ fs) ≡ rows_of es ++ rows_of fs
rows_of-append [] fs = refl
rows_of-append (None ∷ es) fs = rows_of-append es fs
rows_of-append (Some row ∷ es) fs = ap (λ w. row ∷ w) (rows_of-append es fs)

pub rows_of-table : (rows : List Row) → rows_of (map Some rows ++ None ∷ []) ≡ rows
rows_of-table [] = refl
rows_of-table (row ∷ rows) = ap (λ w. row ∷ w) (rows_of-table rows)

rows_of-made : {X : Type 0} (f : X → Option Row) (ts : List X) → rows_of (map f ts ++ None ∷ []) ≡ filter_map f ts
rows_of-made f [] = refl
rows_of-made f (t ∷ ts) =
    elim (f t) as (λ o. rows_of (o ∷ (map f ts ++ None ∷ [])) ≡ cons_option o (filter_map f ts)) [
      | None ↦ rows_of-made f ts
      | Some row ↦ ap (λ w. row ∷ w) (rows_of-made f ts)
    ]

pub rows_of-join : (D : List Triple) (p : Pattern) (es : Entries) → rows_of (flat_map (join_entries D p) es) ≡ flat_map (made_of D p) (rows_of es)
rows_of-join D p [] = refl
rows_of-join D p (None ∷ es) = rows_of-join D p es
rows_of-join D p (Some row ∷ es) =
    rows_of-append (triple_entries p row (range D p row)) (flat_map (join_entries D p) es)
    ∙ ap (λ w. w ++ rows_of (flat_map (join_entries D p) es)) (rows_of-made (extended p row) (range D p row))
    ∙ ap (λ w. made_of D p row ++ w) (rows_of-join D p es)

pub rows_of-changed : (f : Row → Row) (es : Entries) → rows_of (map (changed f) es) ≡ map f (rows_of es)
rows_of-changed f [] = refl
rows_of-changed f (None ∷ es) = rows_of-changed f es
rows_of-changed f (Some row ∷ es) = ap (λ w. f row ∷ w) (rows_of-changed f es)

pub rows_of-kept : (condition : Expr) (es : Entries) → rows_of (map (kept condition) es) ≡ filter (is_true_under condition) (rows_of es)
rows_of-kept condition [] = refl
rows_of-kept condition (None ∷ es) = rows_of-kept condition es
rows_of-kept condition (Some row ∷ es) =
    elim (is_true_under condition row) as (λ b. rows_of (cond b (Some row) None ∷ map (kept condition) es) ≡ cond b (row ∷ filter (is_true_under condition) (rows_of es)) (filter (is_true_under condition) (rows_of es))) [
      | true ↦ ap (λ w. row ∷ w) (rows_of-kept condition es)
      | false ↦ rows_of-kept condition es
    ]

-- the rows of a plan
abbrev pub rows_in : List Triple → Plan → List Row
rows_in D plan = rows_of (trace D plan)

-- what ends with an entry without a row still does after a join and after a change
join_end : (D : List Triple) (p : Pattern) (es : Entries) → flat_map (join_entries D p) (es ++ None ∷ []) ≡ flat_map (join_entries D p) es ++ None ∷ []
join_end D p [] = refl
join_end D p (e ∷ es) = ap (λ w. join_entries D p e ++ w) (join_end D p es) ∙ append_moved (join_entries D p e) (flat_map (join_entries D p) es)
  where
    append_moved : (fs gs : Entries) → fs ++ (gs ++ None ∷ []) ≡ (fs ++ gs) ++ None ∷ []
    append_moved [] gs = refl
    append_moved (f ∷ fs) gs = ap (λ w. f ∷ w) (append_moved fs gs)

-- the same after a change of each entry that leaves those without a row
abbrev pub EndsEmpty : Entries → Type 0
EndsEmpty es = (front : Entries) × (es ≡ front ++ None ∷ [])

change_end : (g : Option Row → Option Row) (es : Entries) → g None ≡ None → map g (es ++ None ∷ []) ≡ map g es ++ None ∷ []
change_end g [] nothing = ap (λ e. e ∷ []) nothing
change_end g (e ∷ es) nothing = ap (λ w. g e ∷ w) (change_end g es nothing)

each_end : (g : Option Row → Option Row) (es : Entries) → g None ≡ None → EndsEmpty es → EndsEmpty (map g es)
each_end g es nothing r = (map g r.0, ap (map g) r.1 ∙ change_end g r.0 nothing)

-- the law of ends
pub traces_end : (D : List Triple) (plan : Plan) → EndsEmpty (trace D plan)
traces_end D (rows_plan variables rows) = (map Some rows, refl)
traces_end D (join_plan left p) =
    let r = traces_end D left in (flat_map (join_entries D p) r.0, ap (flat_map (join_entries D p)) r.1 ∙ join_end D p r.0)
traces_end D (union_plan first second) =
    let r = traces_end D second in
    (trace D first ++ r.0, ap (λ es. trace D first ++ es) r.1 ∙ sym (append_assoc (trace D first) r.0 (None ∷ [])))
traces_end D (filter_plan inner condition) = each_end (kept condition) (trace D inner) refl (traces_end D inner)
traces_end D (bind_plan inner variable e) = each_end (changed (extended_by variable e)) (trace D inner) refl (traces_end D inner)
traces_end D (project_plan inner names) = each_end (changed (restricted names)) (trace D inner) refl (traces_end D inner)

-- the law of steps
pub some_steps : (D : List Triple) (plan : Plan) → 0 < steps D plan
some_steps D plan = let r = traces_end D plan in subst (λ es. 0 < length es) (sym r.1) (has_last r.0)
  where
    has_last : (es : Entries) → 0 < length (es ++ None ∷ [])
    has_last [] = omega arith
    has_last (e ∷ es) = omega arith

-- nothing appended changes nothing
append_none : (rows : List Row) → rows ++ [] ≡ rows
append_none [] = refl
append_none (row ∷ rows) = ap (λ w. row ∷ w) (append_none rows)

-- the rows of one pattern's plan
pub rows_of-pattern : (D : List Triple) (p : Pattern) (names : List Name) → rows_of (trace D (project_plan (join_plan (rows_plan [] (finmap.empty ∷ [])) p) names)) ≡ map (restricted names) (made_of D p finmap.empty)
rows_of-pattern D p names =
    rows_of-changed (restricted names) (trace D (join_plan (rows_plan [] (finmap.empty ∷ [])) p))
    ∙ ap (map (restricted names)) (rows_of-join D p (Some finmap.empty ∷ None ∷ []) ∙ append_none (made_of D p finmap.empty))

-- the trace depends on the data's members alone
join_same : (D E : List Triple) (p : Pattern) (e : Option Row) → HaveSame D E → join_entries D p e ≡ join_entries E p e
join_same D E p None h = refl
join_same D E p (Some row) h = ap (λ ts. None ∷ triple_entries p row ts) (range_same D E p row h)

joins_entries_same : (D E : List Triple) (p : Pattern) (es : Entries) → HaveSame D E → flat_map (join_entries D p) es ≡ flat_map (join_entries E p) es
joins_entries_same D E p [] h = refl
joins_entries_same D E p (e ∷ es) h = λ i. join_same D E p e h i ++ joins_entries_same D E p es h i

-- the law of data as a set
pub trace_same : (D E : List Triple) (plan : Plan) → HaveSame D E → trace D plan ≡ trace E plan
trace_same D E (rows_plan variables rows) h = refl
trace_same D E (join_plan left p) h = ap (flat_map (join_entries D p)) (trace_same D E left h) ∙ joins_entries_same D E p (trace E left) h
trace_same D E (union_plan first second) h = λ i. trace_same D E first h i ++ trace_same D E second h i
trace_same D E (filter_plan inner condition) h = ap (map (kept condition)) (trace_same D E inner h)
trace_same D E (bind_plan inner variable e) h = ap (map (changed (extended_by variable e))) (trace_same D E inner h)
trace_same D E (project_plan inner names) h = ap (map (changed (restricted names))) (trace_same D E inner h)
