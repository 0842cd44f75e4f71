-- The answer of a query over a document, and what the layers under a command give.
use Rattle.std.specs.Prelude.{◌≡◌, ◌≢◌, ℕ, List, [], ◌∷◌, map, string_bytes, Option, Some, None, true, Result, Ok, Err}
use Rattle.term_core.specs.declared.term.Triple.{Triple}
use Rattle.term_core.specs.declared.pattern.Pattern.{Pattern}
use Rattle.term_core.specs.Mappings.{Name, Row, restricted}
use Rattle.term_core.specs.Patterns.{pattern_of}
use Rattle.sparql_tree.specs.Bgp.{solutions}
use Rattle.sparql_tree.specs.Answer.{IsAnswer}
use Rattle.plan_tree.specs.Laws.{AreVariables}
use Rattle.plan_tree.specs.Pages.{Page, IsRun, walked, rows_in}
use Rattle.sparql_tree.specs.Algebra.{Algebra, Bgp}
use Rattle.sparql_tree.specs.declared.fault.QueryFault.TheVariants as query_faults
use Rattle.sparql_algebra.specs.Cuts.{PartOf, Split}
use Rattle.sparql_algebra.specs.Prepared.{Accepted, IsNotPrepared}
use Rattle.sparql_translation.specs.Modifiers.{is_plain}
use Rattle.pattern_page.specs.Part.{select_all_text, part_plan}
use Rattle.pattern_page.specs.Results.{tsv_of, counts_text}
use Rattle.pattern_page.specs.declared.page.PageFault.{PageFault}
use Rattle.pattern_page.specs.declared.page.PageFault.TheVariants as page_faults
use Rattle.sage_outside.specs.declared.fault.StoreFault.TheVariants as store_faults
use Rattle.sage.specs.declared.refusal.Refusal.{Refusal}
use Rattle.sage.specs.declared.refusal.Refusal.TheVariants as refusals
use Rattle.sage.specs.declared.refusal.QueryRefusal.{QueryRefusal}
use Rattle.sage.specs.declared.refusal.QueryRefusal.TheVariants as query_refusals
use Rattle.sage.specs.declared.answer.Answer.{Answer}
use Rattle.sage.specs.declared.select.Select.{Select}
use Rattle.sage.specs.Data.{IsData, IsRefusedDocument}

-- The answer over triples, in pages under quanta that are walked round: what is written to the output and to standard error.
pub record AnswersOver (triples : List Triple) (names : List Name) (pattern : Pattern) (quanta : List ℕ) (out err : List ℕ) : Type 0 where
  -- the pages are those of the plan, followed from none to none
  pub pages : List Page
  pub is_run : IsRun triples (part_plan pattern) (select_all_text pattern) (walked quanta) 0 0 pages
  -- the rows are the pages' rows, restricted to what is selected, and answer the query
  pub rows : List Row
  pub rows_are : rows ≡ map (restricted names) (rows_in pages)
  pub is_answer : IsAnswer (solutions triples (pattern_of pattern ∷ [])) names rows
  pub out_is : out ≡ tsv_of names rows
  pub err_is : err ≡ counts_text pages

-- the triple pattern of operators that are one alone
abbrev pub pattern_alone : Algebra → Option Pattern
pattern_alone (Bgp (pattern ∷ [])) = Some pattern
pattern_alone a = None

-- the triple pattern of parts that are one of one alone
abbrev pub only_pattern : List PartOf → Option Pattern
only_pattern (part ∷ []) = pattern_alone part.operators
only_pattern parts = None

-- The queries that are answered: the text is accepted, its one part is one triple pattern, and no modifier stands behind its group or
-- before it: neither a value among the items nor DISTINCT, groups, order or a slice.
pub record AsksPattern (text : List ℕ) (names : List Name) (pattern : Pattern) : Type 0 where
  pub split : Split
  pub accepted : Accepted text split
  pub plain : is_plain split.query ≡ true
  pub alone : only_pattern split.parts ≡ Some pattern
  pub names_are : names ≡ split.answer

-- The answer of a query over a document, from the bytes of both.
pub record Answers (document query quanta out err : List ℕ) : Type 0 where
  pub triples : List Triple
  pub is_data : IsData document triples
  pub names : List Name
  pub pattern : Pattern
  pub is_query : AsksPattern query names pattern
  pub over : AnswersOver triples names pattern quanta out err

-- the bytes are no query that is answered
abbrev pub NoQuery : List ℕ → Type 0
NoQuery query = (names : List Name) (pattern : Pattern) → AsksPattern query names pattern → ⊥

-- the bytes are accepted, and ask for more than is answered
pub record AsksMore (query : List ℕ) : Type 0 where
  pub split : Split
  pub accepted : Accepted query split
  pub none : NoQuery query

-- why a query is not answered: the first cause that its text is refused, or that it asks for more than is answered
abbrev pub WhyNoQuery : QueryRefusal → List ℕ → Type 0
WhyNoQuery (query_refusals.Fault fault) query = (fault ≢ query_faults.Memory) × IsNotPrepared query fault
WhyNoQuery query_refusals.Form query = AsksMore query

-- a query as it is read
pub record Selects (query : List ℕ) (select : Select) : Type 0 where
  pub is_query : AsksPattern query select.names select.pattern
  pub variables : AreVariables select.names

-- what the bytes of a query give: the query, or that it is none
abbrev pub ReadsQuery : Result Select Refusal → List ℕ → Type 0
ReadsQuery (Ok select) query = Selects query select
ReadsQuery (Err refusals.Memory) query = Unit {0}
ReadsQuery (Err (refusals.Query cause)) query = WhyNoQuery cause query
ReadsQuery (Err refusal) query = ⊥

-- what a split gives: its names and its pattern, or that it asks for more
abbrev pub SelectsOf : Result Select Refusal → Split → Type 0
SelectsOf (Ok select) split = (is_plain split.query ≡ true) × (only_pattern split.parts ≡ Some select.pattern) × (select.names ≡ split.answer)
SelectsOf (Err refusals.Memory) split = Unit {0}
SelectsOf (Err (refusals.Query cause)) split =
    (cause ≡ query_refusals.Form) × ((pattern : Pattern) → is_plain split.query ≡ true → only_pattern split.parts ≡ Some pattern → ⊥)
SelectsOf (Err refusal) split = ⊥

-- what the bytes of both files give: an answer, or the first of them that is refused
abbrev pub Answered : Result Answer Refusal → List ℕ → List ℕ → List ℕ → Type 0
Answered (Ok answer) document query quanta = Answers document query quanta answer.text.items (string_bytes answer.counts)
Answered (Err refusals.Memory) document query quanta = Unit {0}
Answered (Err (refusals.Data fault)) document query quanta = IsRefusedDocument document fault
Answered (Err (refusals.Query cause)) document query quanta = ((triples : List Triple) × IsData document triples) × WhyNoQuery cause query
Answered (Err refusal) document query quanta = ⊥

-- the answer over the data, or a refusal that is none of a suspended plan's bytes
abbrev pub AnswersOr : List Triple → List Name → Pattern → List ℕ → Result Answer PageFault → Type 0
AnswersOr triples names pattern quanta (Ok answer) = AnswersOver triples names pattern quanta answer.text.items (string_bytes answer.counts)
AnswersOr triples names pattern quanta (Err page_faults.Plan) = ⊥
AnswersOr triples names pattern quanta (Err (page_faults.Store fault)) = Unit {0}
AnswersOr triples names pattern quanta (Err page_faults.Memory) = Unit {0}

-- memory ran out, wherever it was
abbrev pub IsMemory : PageFault → Type 0
IsMemory page_faults.Memory = Unit {0}
IsMemory (page_faults.Store store_faults.Memory) = Unit {0}
IsMemory (page_faults.Store store_faults.Blocks) = ⊥
IsMemory (page_faults.Store (store_faults.Damaged block)) = ⊥
IsMemory page_faults.Plan = ⊥
