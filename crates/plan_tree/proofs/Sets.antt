-- States and pages depend on the data's members alone.
use Rattle.std.proofs.Common.{◌≡◌, ℕ, zero, suc, ◌+◌, ◌-◌, ◌<◌, min, List, [], ◌∷◌, ◌++◌, length, take, drop, Option, Some, None, refl, sym, ap, ◌∙◌, subst}
use Rattle.std.specs.Prelude.{slice_get}
use Rattle.sha2.specs.Sha256.{sha256}
use Rattle.term_core.specs.declared.term.Triple.{Triple}
use Rattle.term_core.specs.Bags.{HaveSame}
use Rattle.term_core.specs.Mappings.{Row}
use Rattle.term_core.specs.Patterns.{Pattern}
use Rattle.term_core.proofs.Sets.{data_id_same, rank_same, ids_same}
use Rattle.plan_tree.specs.Trace.{Plan, rows_plan, join_plan, union_plan, filter_plan, bind_plan, project_plan, Entries, join_entries, triple_entries, trace, steps, rows_of}
use Rattle.plan_tree.specs.States.{Inner, idle, opened, at_triple, State, table_state, join_state, union_state, pieces_before, made_before, InnerAt, Stands}
use Rattle.plan_tree.specs.Spelling.{state_bytes, plan_bytes}
use Rattle.plan_tree.specs.Pages.{Page, IsNext, page_end, IsPage, IsRun}
use Rattle.plan_tree.specs.StateLaws.{AreAlike}
use Rattle.term_core.proofs.Ranges.{range_same}
use Rattle.plan_tree.proofs.Traces.{trace_same}

pub plan_bytes_same : (D E : List Triple) → HaveSame D E → (text : List ℕ) (state : State) → plan_bytes D text state ≡ plan_bytes E text state
plan_bytes_same D E same text state = ap (λ name. 2 ∷ (name ++ (sha256 text ++ state_bytes state))) (data_id_same D E same)

join_same : (D E : List Triple) (p : Pattern) (entry : Option Row) → HaveSame D E → join_entries D p entry ≡ join_entries E p entry
join_same D E p None same = refl
join_same D E p (Some row) same = ap (λ ts. None ∷ triple_entries p row ts) (range_same D E p row same)

made_same : (D E : List Triple) (p : Pattern) (entries : Entries) (m : ℕ) → HaveSame D E → made_before D p entries m ≡ made_before E p entries m
made_same D E p entries m same = ap (λ f. pieces_before f entries m) (λ i entry. join_same D E p entry same i)

inner_same : (D E : List Triple) (p : Pattern) (entries : Entries) (m : ℕ) (inner : Inner) (n : ℕ) → HaveSame D E → InnerAt D p entries m inner n → InnerAt E p entries m inner n
inner_same D E p entries m idle n same at = at ∙ made_same D E p entries m same
inner_same D E p entries zero opened n same at = absurd at
inner_same D E p entries (suc m) opened n same (row, is, sum) = (row, is, sum ∙ ap (λ w. w + 1) (made_same D E p entries m same))
inner_same D E p entries zero (at_triple ids) n same at = absurd at
inner_same D E p entries (suc m) (at_triple ids) n same (row, k, t, is, found, ranks, sum) = (
  row,
  k,
  t,
  is,
  ap (λ ts. slice_get ts k) (sym (range_same D E p row same)) ∙ found,
  ranks ∙ ids_same D E same t,
  sum ∙ ap (λ w. w + 2 + k) (made_same D E p entries m same),
)

pub stands_same : (D E : List Triple) (plan : Plan) (state : State) (n : ℕ) → HaveSame D E → Stands D plan state n → Stands E plan state n
stands_same D E (rows_plan variables rows) (table_state place) n same h = h
stands_same D E (join_plan left p) (join_state below inner) n same (m, h, at) = (
  m,
  stands_same D E left below m same h,
  inner_same D E p (trace E left) m inner n same (subst (λ es. InnerAt D p es m inner n) (trace_same D E left same) at),
)
stands_same D E (union_plan first second) (union_state zero state) n same h = stands_same D E first state n same h
stands_same D E (union_plan first second) (union_state (suc zero) state) n same (k, h, e) =
    (k, stands_same D E second state k same h, e ∙ ap (λ es. length es + k) (trace_same D E first same))
stands_same D E (filter_plan inner condition) state n same h = stands_same D E inner state n same h
stands_same D E (bind_plan inner variable e) state n same h = stands_same D E inner state n same h
stands_same D E (project_plan inner names) state n same h = stands_same D E inner state n same h
stands_same D E plan state n same h = absurd h

-- pages
steps_same : (D E : List Triple) (plan : Plan) → HaveSame D E → steps D plan ≡ steps E plan
steps_same D E plan same = ap (λ es. length es) (trace_same D E plan same)

next_moves : (D E : List Triple) (plan : Plan) (text : List ℕ) (n : ℕ) (next : Option (List ℕ)) → HaveSame D E → IsNext D plan text n next → IsNext E plan text n next
next_moves D E plan text n None same h = h ∙ steps_same D E plan same
next_moves D E plan text n (Some bytes) same (state, h, is) = (state, stands_same D E plan state n same h, is ∙ plan_bytes_same D E same text state)

pub page_moves : (D E : List Triple) (plan : Plan) (text : List ℕ) (n quantum : ℕ) (page : Page) → HaveSame D E → IsPage D plan text n quantum page → IsPage E plan text n quantum page
page_moves D E plan text n quantum page same is =
    let ends : page_end D plan n quantum ≡ page_end E plan n quantum = ap (λ w. min (n + quantum) w) (steps_same D E plan same) in
    record {
      steps_are = is.steps_are ∙ ap (λ w. w - n) ends;
      rows_are = is.rows_are ∙ ap (λ es. rows_of (take page.steps (drop n es))) (trace_same D E plan same);
      next_is = subst (λ w. IsNext E plan text w page.next) ends (next_moves D E plan text (page_end D plan n quantum) page.next same is.next_is);
    }

pub run_moves : (D E : List Triple) (plan : Plan) (text : List ℕ) (quanta : ℕ → ℕ) (k n : ℕ) (pages : List Page) → HaveSame D E → IsRun D plan text quanta k n pages → IsRun E plan text quanta k n pages
run_moves D E plan text quanta k n [] same h = h ∙ steps_same D E plan same
run_moves D E plan text quanta k n (page ∷ pages) same (h, is, rest) = (
  subst (λ w. n < w) (steps_same D E plan same) h,
  page_moves D E plan text n (quanta k) page same is,
  run_moves D E plan text quanta (k + 1) (n + page.steps) pages same rest,
)

pub states_of_sets : (D E : List Triple) → HaveSame D E → AreAlike D E
states_of_sets D E same = record {
  ranks = rank_same D E same;
  names = data_id_same D E same;
  states = λ plan state n. stands_same D E plan state n same;
  pages = λ plan text n quantum page. page_moves D E plan text n quantum page same;
  runs = λ plan text quanta pages. run_moves D E plan text quanta 0 0 pages same;
}
