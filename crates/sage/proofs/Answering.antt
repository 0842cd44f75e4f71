-- What the pages give is the answer.
use Rattle.std.proofs.Common.{◌≡◌, ℕ, List, Err, [], ◌∷◌, ◌++◌, length, map, refl, sym, ap, ◌∙◌, subst, inl, inr}
use Rattle.std.specs.Prelude.{flat_map}
use Rattle.term_core.specs.declared.term.Triple.{Triple}
use Rattle.term_core.specs.declared.pattern.Pattern.{Pattern}
use Rattle.term_core.specs.Bags.{In}
use Rattle.term_core.specs.Mappings.{Name, Row, value, restricted}
use Rattle.term_core.proofs.Merges.{value-kept}
use Rattle.term_core.specs.Patterns.{pattern_of, names_in}
use Rattle.sparql_tree.specs.Bgp.{solutions}
use Rattle.sparql_tree.specs.Answer.{IsAnswer}
use Rattle.plan_tree.specs.Laws.{AreVariables}
use Rattle.plan_tree.specs.Pages.{Page, IsRun, AreQuanta, walked, rows_in, steps_in, longest_plan_in}
use Rattle.plan_tree.proofs.Runs.{pages_join, goes_round}
use Rattle.plan_tree.proofs.Single.{pattern_rows, selected_answer}
use Rattle.pattern_page.specs.Part.{select_all_text, part_plan}
use Rattle.pattern_page.specs.Results.{tsv_cell, tabbed, header, line, counts_line, counts_text}
use Rattle.sage.specs.declared.refusal.Refusal.{Refusal}
use Rattle.sage.specs.declared.refusal.Refusal.TheVariants as refusals
use Rattle.sage.specs.Data.{IsData}
use Rattle.sage.specs.Answers.{AnswersOver, Answered, ReadsQuery}

-- what is shown of names that are among the selected is the same of a row that is restricted to them
cells_kept : (selected names : List Name) (row : Row) → ((name : Name) → In names name → In selected name) →
    flat_map (λ other. 9 ∷ tsv_cell (value (restricted selected row) other)) names ≡ flat_map (λ other. 9 ∷ tsv_cell (value row other)) names
cells_kept selected [] row among = refl
cells_kept selected (name ∷ names) row among = λ i. 9 ∷ (tsv_cell (value-kept selected row name (among name (inl refl)) i) ++ cells_kept selected names row (λ other is. among other (inr is)) i)

line_within : (selected names : List Name) (row : Row) → ((name : Name) → In names name → In selected name) →
    tabbed (λ name. tsv_cell (value (restricted selected row) name)) names ≡ tabbed (λ name. tsv_cell (value row name)) names
line_within selected [] row among = refl
line_within selected (name ∷ names) row among =
    λ i. tsv_cell (value-kept selected row name (among name (inl refl)) i) ++ cells_kept selected names row (λ other is. among other (inr is)) i

line_kept : (names : List Name) (row : Row) → line names (restricted names row) ≡ line names row
line_kept names row = ap (λ text. text ++ 10 ∷ []) (line_within names names row (λ name is. is))

lines_kept : (names : List Name) (rows : List Row) → flat_map (line names) (map (restricted names) rows) ≡ flat_map (line names) rows
lines_kept names [] = refl
lines_kept names (row ∷ rows) = λ i. line_kept names row i ++ lines_kept names rows i

pub answers_over : (triples : List Triple) (names : List Name) (pattern : Pattern) (quanta : List ℕ) (out err : List ℕ) (pages : List Page) → AreQuanta quanta → AreVariables names →
    IsRun triples (part_plan pattern) (select_all_text pattern) (walked quanta) 0 0 pages → out ≡ header names ++ flat_map (line names) (rows_in pages) → err ≡ counts_text pages →
    AnswersOver triples names pattern quanta out err
answers_over triples names pattern quanta out err pages some variables run out_is err_is =
    let whole = pages_join triples (part_plan pattern) (select_all_text pattern) (walked quanta) (goes_round quanta some).some pages run in
    let kept = (pattern_rows triples (pattern_of pattern) (names_in (pattern_of pattern))).whole (λ name is. is) in
    let answered = selected_answer triples (pattern_of pattern) names variables in
    record {
      pages = pages;
      is_run = run;
      rows = map (restricted names) (rows_in pages);
      rows_are = refl;
      is_answer = subst (λ rows. IsAnswer (solutions triples (pattern_of pattern ∷ [])) names (map (restricted names) rows)) (sym (whole.rows ∙ kept)) answered;
      out_is = out_is ∙ ap (λ text. header names ++ text) (sym (lines_kept names (rows_in pages)));
      err_is = err_is;
    }

pub counted_pages : (count steps longest : ℕ) (pages : List Page) → count ≡ length pages → steps ≡ steps_in pages → longest ≡ longest_plan_in pages → counts_line count steps longest ≡ counts_text pages
counted_pages count steps longest pages c s l = λ i. counts_line (c i) (s i) (l i)

-- why a query over triples was not read
pub not_selected : (e : Refusal) (document query quanta : List ℕ) (triples : List Triple) → IsData document triples → ReadsQuery (Err e) query → Answered (Err e) document query quanta
not_selected refusals.Memory document query quanta triples is_data h = tt
not_selected (refusals.Query cause) document query quanta triples is_data h = ((triples, is_data), h)
not_selected refusals.Words document query quanta triples is_data h = absurd h
not_selected (refusals.Data fault) document query quanta triples is_data h = absurd h
not_selected (refusals.File name) document query quanta triples is_data h = absurd h
not_selected refusals.NotAStore document query quanta triples is_data h = absurd h
not_selected (refusals.DamagedStore block) document query quanta triples is_data h = absurd h
not_selected refusals.Output document query quanta triples is_data h = absurd h
