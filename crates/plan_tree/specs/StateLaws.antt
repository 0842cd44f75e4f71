-- What is proved of states, of their bytes and of pages.
use Rattle.std.specs.Prelude.{◌≡◌, ℕ, ◌+◌, ◌*◌, ◌^◌, ◌≤◌, ◌<◌, List, [], ◌∷◌, length, slice_index_or, take, drop, flat_map, slice_get, Option, Some}
use Rattle.sha2.specs.Sha256.{sha256}
use Rattle.term_core.specs.declared.term.Term.{Term}
use Rattle.term_core.specs.declared.term.Triple.{Triple}
use Rattle.term_core.specs.Bags.{HaveSame}
use Rattle.term_core.specs.Data.{terms_of, rank, data_id}
use Rattle.plan_tree.specs.Trace.{Plan, rows_plan, join_plan, union_plan, filter_plan, bind_plan, project_plan, trace, steps, rows_of}
use Rattle.plan_tree.specs.States.{State, Stands, StandsAt}
use Rattle.plan_tree.specs.Spelling.{state_bytes, plan_bytes, nodes}
use Rattle.plan_tree.specs.Reached.{Reaches, IsShape, IsWholeShape}
use Rattle.plan_tree.specs.Pages.{Page, IsNext, page_end, IsPage, IsRun, Part, IsRunOf, AreQuanta, walked, rows_in, steps_in, longest_plan_in}

-- pages that, one after the other, have the rows and the steps of the whole plan; each suspended plan among them is short
pub record AreWhole (D : List Triple) (plan : Plan) (pages : List Page) : Type 0 where
  pub rows : rows_in pages ≡ rows_of (trace D plan)
  pub count : length pages ≤ steps D plan
  pub steps_all : steps_in pages ≡ steps D plan
  pub short : longest_plan_in pages ≤ 65 + 14 * nodes plan

-- pages of at least one step, followed to the end, are the whole
abbrev pub PagesJoin : Type 0
PagesJoin = (D : List Triple) (plan : Plan) (text : List ℕ) (quanta : ℕ → ℕ) (pages : List Page) →
    ((k : ℕ) → 1 ≤ quanta k) → IsRun D plan text quanta 0 0 pages → AreWhole D plan pages

-- one value and no other has the property
pub record HasOne {X : Type 0} (P : X → Type 0) : Type 0 where
  pub found : X
  pub has : P found
  pub alone : (other : X) → P other → other ≡ found

-- for quanta of at least one step there is one run
abbrev pub OneRun : Type 0
OneRun = (D : List Triple) (plan : Plan) (text : List ℕ) (quanta : ℕ → ℕ) → ((k : ℕ) → 1 ≤ quanta k) → HasOne (λ pages. IsRun D plan text quanta 0 0 pages)

-- the steps of all parts, added up
abbrev pub steps_of : List Triple → List Part → ℕ
steps_of D [] = 0
steps_of D (part ∷ parts) = steps D part.plan + steps_of D parts

-- pages that, one after the other, have the rows of all parts in their order
pub record AreAllOf (D : List Triple) (parts : List Part) (pages : List Page) : Type 0 where
  pub rows : rows_in pages ≡ flat_map (λ part. rows_of (trace D part.plan)) parts
  pub steps_all : steps_in pages ≡ steps_of D parts

-- for quanta of at least one step there is one run of several parts
abbrev pub OneRunOf : Type 0
OneRunOf = (D : List Triple) (parts : List Part) (quanta : ℕ → ℕ) → ((k : ℕ) → 1 ≤ quanta k) → HasOne (λ pages. IsRunOf D parts quanta 0 pages)

-- and it has the rows and the steps of each
abbrev pub PartsJoin : Type 0
PartsJoin = (D : List Triple) (parts : List Part) (quanta : ℕ → ℕ) (pages : List Page) → ((k : ℕ) → 1 ≤ quanta k) → IsRunOf D parts quanta 0 pages → AreAllOf D parts pages

-- there is one page for each place and quantum
abbrev pub OnePage : Type 0
OnePage = (D : List Triple) (plan : Plan) (text : List ℕ) (n quantum : ℕ) → HasOne (λ page. IsPage D plan text n quantum page)

-- a page takes at least one step and at most its quantum, up to the end of the plan
pub record TakesSteps (D : List Triple) (plan : Plan) (n quantum : ℕ) (page : Page) : Type 0 where
  pub some : 1 ≤ page.steps
  pub most : page.steps ≤ quantum
  pub end : n + page.steps ≡ page_end D plan n quantum

-- so does each page of at least one step that begins before the end
abbrev pub PagesTakeSteps : Type 0
PagesTakeSteps = (D : List Triple) (plan : Plan) (text : List ℕ) (n quantum : ℕ) (page : Page) → n < steps D plan → 1 ≤ quantum →
    IsPage D plan text n quantum page → TakesSteps D plan n quantum page

-- the list's own quanta in their order, then the same again, and each lets a page take a step
pub record GoesRound (quanta : List ℕ) : Type 0 where
  pub first : (k : ℕ) → k < length quanta → walked quanta k ≡ slice_index_or quanta k 0
  pub again : (k : ℕ) → walked quanta (k + length quanta) ≡ walked quanta k
  pub some : (k : ℕ) → 1 ≤ walked quanta k

-- so goes each list of quanta
abbrev pub QuantaGoRound : Type 0
QuantaGoRound = (quanta : List ℕ) → AreQuanta quanta → GoesRound quanta

-- wherever entries are still to come one state stands
abbrev pub OneState : Type 0
OneState = (D : List Triple) (plan : Plan) (n : ℕ) → n < steps D plan → HasOne (λ state. Stands D plan state n)

-- and one state, the last one among them, wherever a plan can be
abbrev pub OneStateAt : Type 0
OneStateAt = (D : List Triple) (plan : Plan) (n : ℕ) → n ≤ steps D plan → HasOne (λ state. StandsAt D plan state n)

-- a state stands only where entries are still to come
abbrev pub StatesAreBelow : Type 0
StatesAreBelow = (D : List Triple) (plan : Plan) (state : State) (n : ℕ) → Stands D plan state n → n < steps D plan

-- no state stands at two places
abbrev pub OtherPlaces : Type 0
OtherPlaces = (D : List Triple) (plan : Plan) (state : State) (m n : ℕ) → StandsAt D plan state m → StandsAt D plan state n → m ≡ n

-- a suspended plan has at most 65 bytes, and 14 more for each part of the plan
abbrev pub Bounded : Type 0
Bounded = (D : List Triple) (plan : Plan) (text : List ℕ) (state : State) (n : ℕ) → Stands D plan state n → length (plan_bytes D text state) ≤ 65 + 14 * nodes plan

-- each table of the plan has fewer rows than four bytes count
abbrev pub HasFewRows : Plan → Type 0
HasFewRows (rows_plan variables rows) = length rows < 2 ^ 32
HasFewRows (join_plan left p) = HasFewRows left
HasFewRows (union_plan first second) = HasFewRows first × HasFewRows second
HasFewRows (filter_plan inner condition) = HasFewRows inner
HasFewRows (bind_plan inner variable e) = HasFewRows inner
HasFewRows (project_plan inner names) = HasFewRows inner

-- the numbers in states fit into four bytes
pub record IsCountable (D : List Triple) (plan : Plan) : Type 0 where
  pub rows : HasFewRows plan
  pub terms : length (terms_of D) < 2 ^ 32

-- no two states have the same bytes
abbrev pub OneSpelling : Type 0
OneSpelling = (D : List Triple) (plan : Plan) (text : List ℕ) (a b : State) (m n : ℕ) → IsCountable D plan →
    Stands D plan a m → Stands D plan b n → plan_bytes D text a ≡ plan_bytes D text b → a ≡ b

-- bytes spell at most one state of a plan's shape, whatever the data
abbrev pub OneShape : Type 0
OneShape = (plan : Plan) (a b : State) → HasFewRows plan → IsWholeShape plan a → IsWholeShape plan b → state_bytes a ≡ state_bytes b → a ≡ b

-- a state that is reached has the plan's shape
abbrev pub ReachedAreShaped : Type 0
ReachedAreShaped = (D : List Triple) (plan : Plan) (state : State) → length (terms_of D) < 2 ^ 32 → Reaches D plan state → IsShape plan state

-- the length bound holds for states of the plan's shape, and for the end
abbrev pub ShapesAreShort : Type 0
ShapesAreShort = (D : List Triple) (plan : Plan) (text : List ℕ) (state : State) → IsWholeShape plan state → length (plan_bytes D text state) ≤ 65 + 14 * nodes plan

-- what follows a page says how many entries came before
abbrev pub NextsArePlaced : Type 0
NextsArePlaced = (D : List Triple) (plan : Plan) (text : List ℕ) (next : Option (List ℕ)) (m n : ℕ) → IsCountable D plan →
    IsNext D plan text m next → IsNext D plan text n next → m ≡ n

-- byte 2, 32 bytes that name the data, 32 bytes that name the text, and the state
pub record HasParts (D : List Triple) (text : List ℕ) (state : State) (bytes : List ℕ) : Type 0 where
  pub version : slice_get bytes 0 ≡ Some 2
  pub data_name : take 32 (drop 1 bytes) ≡ data_id D
  pub text_name : take 32 (drop 33 bytes) ≡ sha256 text
  pub state_is : drop 65 bytes ≡ state_bytes state

-- so has every suspended plan
abbrev pub PartsAreFixed : Type 0
PartsAreFixed = (D : List Triple) (text : List ℕ) (state : State) → HasParts D text state (plan_bytes D text state)

-- bytes of other data or of another text differ, unless the digests are equal
pub record NameAlike (D E : List Triple) (text other : List ℕ) (a b : State) : Type 0 where
  pub same_data : data_id D ≡ data_id E
  pub same_text : sha256 text ≡ sha256 other
  pub same_state : state_bytes a ≡ state_bytes b

-- whatever the states
abbrev pub NamesAreTold : Type 0
NamesAreTold = (D E : List Triple) (text other : List ℕ) (a b : State) → plan_bytes D text a ≡ plan_bytes E other b → NameAlike D E text other a b

-- what holds of states and pages over one list of triples holds over the other
pub record AreAlike (D E : List Triple) : Type 0 where
  pub ranks : (t : Term) → rank D t ≡ rank E t
  pub names : data_id D ≡ data_id E
  pub states : (plan : Plan) (state : State) (n : ℕ) → Stands D plan state n → Stands E plan state n
  pub pages : (plan : Plan) (text : List ℕ) (n quantum : ℕ) (page : Page) → IsPage D plan text n quantum page → IsPage E plan text n quantum page
  pub runs : (plan : Plan) (text : List ℕ) (quanta : ℕ → ℕ) (pages : List Page) → IsRun D plan text quanta 0 0 pages → IsRun E plan text quanta 0 0 pages

-- only which triples there are counts, not their order or repeats
abbrev pub StatesOfSets : Type 0
StatesOfSets = (D E : List Triple) → HaveSame D E → AreAlike D E
