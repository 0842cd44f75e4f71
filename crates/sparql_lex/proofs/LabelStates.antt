-- What the states of labels of blank nodes and of variables read.
use Rattle.std.proofs.Common.{◌≡◌, ◌≢◌, ◌⊎◌, inl, inr, ℕ, true, List, [], ◌∷◌, Some, refl, sym, subst, ap, ◌∙◌}
use Rattle.std.specs.Prelude.{◌==◌, codes}
use Rattle.term_core.specs.declared.token.Kind.{Kind}
use Rattle.term_core.specs.declared.token.Kind.TheVariants as kinds
use Rattle.sparql_lex.specs.declared.state.State.TheVariants as states
use Rattle.term_core.specs.Characters.{is_pn, is_pn_base, is_among, AreAll}
use Rattle.term_core.specs.Names.{IsDotted, IsName}
use Rattle.term_core.specs.Terminals.{IsBlank, IsVariable, is_query_label_first, is_variable_part}
use Rattle.sparql_lex.specs.declared.state.Label.{Label}
use Rattle.sparql_lex.specs.declared.state.Label.TheVariants as labels
use Rattle.sparql_lex.specs.declared.state.Variable.{Variable}
use Rattle.sparql_lex.specs.declared.state.Variable.TheVariants as variables
use Rattle.sparql_lex.specs.Steps.{step, label_rows, variable_rows}
use Rattle.sparql_lex.proofs.Bools.{either, same, among, all-first, all-one, pn-dot}
use Rattle.sparql_lex.proofs.NameStates.{some_kind, dotted-part, dotted-dot, not-empty}
use Rattle.sparql_lex.proofs.Reading.{reads, read-cases}

-- what may follow in each state, up to a token of the kind
abbrev pub LabelTail : Label → Kind → List ℕ → Type 0
LabelTail labels.Underscore kind text = (kind ≡ kinds.Blank) × IsBlank (95 ∷ text)
LabelTail labels.Colon kind text = (kind ≡ kinds.Blank) × IsName is_query_label_first is_pn text
LabelTail labels.Part kind text = (kind ≡ kinds.Blank) × IsDotted is_pn text
LabelTail labels.Dot kind text = (kind ≡ kinds.Blank) × (text ≢ []) × IsDotted is_pn text

blank : (c : ℕ) (label : List ℕ) → (c == 58) ≡ true → IsName is_query_label_first is_pn label → IsBlank (95 ∷ c ∷ label)
blank c label h n = record { label = label; is_label = n; spelled = ap (λ v. 95 ∷ v ∷ label) (same c 58 h) }

pub label-sound : (text : List ℕ) (label : Label) (kind : Kind) → reads text (states.Label label) ≡ Some kind → LabelTail label kind text
unfolding step
label-sound [] labels.Underscore kind h = absurd (cc)
label-sound [] labels.Colon kind h = absurd (cc)
label-sound [] labels.Part kind h = (some_kind kinds.Blank kind h, tt)
label-sound [] labels.Dot kind h = absurd (cc)
label-sound (c ∷ text) labels.Underscore kind h =
    read-cases (label_rows labels.Underscore c) text kind (LabelTail labels.Underscore kind (c ∷ text))
    (λ t r. let l = label-sound text labels.Colon kind r in (l.0, blank c text t l.1), tt) h
label-sound (c ∷ text) labels.Colon kind h =
    read-cases (label_rows labels.Colon c) text kind (LabelTail labels.Colon kind (c ∷ text))
    (λ t r. let l = label-sound text labels.Part kind r in (l.0, (t, l.1)), tt) h
label-sound (c ∷ text) labels.Part kind h =
    read-cases (label_rows labels.Part c) text kind (LabelTail labels.Part kind (c ∷ text)) (
      λ t r. let l = label-sound text labels.Part kind r in (l.0, dotted-part c text t l.1),
      (λ t r. let l = label-sound text labels.Dot kind r in (l.0, dotted-dot c text t l.1 l.2), tt),
    ) h
label-sound (c ∷ text) labels.Dot kind h =
    read-cases (label_rows labels.Dot c) text kind (LabelTail labels.Dot kind (c ∷ text)) (
      λ t r. let l = label-sound text labels.Part kind r in (l.0, not-empty c text, dotted-part c text t l.1),
      (λ t r. let l = label-sound text labels.Dot kind r in (l.0, not-empty c text, dotted-dot c text t l.1 l.2), tt),
    ) h

-- behind a dot a label goes on as elsewhere
dot-same : (text : List ℕ) → text ≢ [] → reads text (states.Label labels.Dot) ≡ reads text (states.Label labels.Part)
unfolding step
dot-same [] some = absurd (some refl)
dot-same (c ∷ text) some = refl

dotted-read : (text : List ℕ) → IsDotted is_pn text → reads text (states.Label labels.Part) ≡ Some kinds.Blank
unfolding step
dotted-read [] h = refl
dotted-read (c ∷ []) h = rw h refl
dotted-read (c ∷ d ∷ text) h =
    let more = dotted-read (d ∷ text) h.1 in
    elim (either (is_pn c) (c == 46) h.0) as (λ _. reads (c ∷ d ∷ text) (states.Label labels.Part) ≡ Some kinds.Blank) [
      | inl p ↦ rw p more
      | inr p ↦ subst (λ v. reads (v ∷ d ∷ text) (states.Label labels.Part) ≡ Some kinds.Blank) (sym (same c 46 p))
          (rw pn-dot (dot-same (d ∷ text) (not-empty d text) ∙ more))
    ]

label-first : (c : ℕ) (label : List ℕ) → is_query_label_first c ≡ true → reads label (states.Label labels.Part) ≡ Some kinds.Blank
    → reads (c ∷ label) (states.Label labels.Colon) ≡ Some kinds.Blank
unfolding step
label-first c label h r = rw h r

label-read : (label : List ℕ) → IsName is_query_label_first is_pn label → reads (95 ∷ 58 ∷ label) states.Start ≡ Some kinds.Blank
unfolding step is_pn_base
label-read [] h = elim h [ ]
label-read (c ∷ label) h = label-first c label h.0 (dotted-read label h.1)

pub blank-read : (text : List ℕ) → IsBlank text → reads text states.Start ≡ Some kinds.Blank
blank-read text h = subst (λ v. reads v states.Start ≡ Some kinds.Blank) (sym h.spelled) (label-read h.label h.is_label)

-- behind the mark of a variable: its name
pub record NameBehind (text : List ℕ) : Type 0 where
  pub first : ℕ
  pub more : List ℕ
  pub is_first : is_query_label_first first ≡ true
  pub are_parts : AreAll is_variable_part more
  pub spelled : text ≡ first ∷ more

abbrev pub VariableTail : Variable → Kind → List ℕ → Type 0
VariableTail variables.Question kind text = ((kind ≡ kinds.Sign) × (text ≡ [])) ⊎ ((kind ≡ kinds.Var) × NameBehind text)
VariableTail variables.Dollar kind text = (kind ≡ kinds.Var) × NameBehind text
VariableTail variables.Part kind text = (kind ≡ kinds.Var) × AreAll is_variable_part text

named : (c : ℕ) (text : List ℕ) → is_query_label_first c ≡ true → AreAll is_variable_part text → NameBehind (c ∷ text)
named c text h k = record { first = c; more = text; is_first = h; are_parts = k; spelled = refl }

pub variable-sound : (text : List ℕ) (variable : Variable) (kind : Kind) → reads text (states.Variable variable) ≡ Some kind → VariableTail variable kind text
unfolding step
variable-sound [] variables.Question kind h = inl (some_kind kinds.Sign kind h, refl)
variable-sound [] variables.Dollar kind h = absurd (cc)
variable-sound [] variables.Part kind h = (some_kind kinds.Var kind h, refl)
variable-sound (c ∷ text) variables.Question kind h =
    read-cases (variable_rows variables.Question c) text kind (VariableTail variables.Question kind (c ∷ text))
    (λ t r. let v = variable-sound text variables.Part kind r in inr (v.0, named c text t v.1), tt) h
variable-sound (c ∷ text) variables.Dollar kind h =
    read-cases (variable_rows variables.Dollar c) text kind (VariableTail variables.Dollar kind (c ∷ text))
    (λ t r. let v = variable-sound text variables.Part kind r in (v.0, named c text t v.1), tt) h
variable-sound (c ∷ text) variables.Part kind h =
    read-cases (variable_rows variables.Part c) text kind (VariableTail variables.Part kind (c ∷ text))
    (λ t r. let v = variable-sound text variables.Part kind r in (v.0, all-one is_variable_part c text t v.1), tt) h

part-read : (c : ℕ) (text : List ℕ) → is_variable_part c ≡ true → reads text (states.Variable variables.Part) ≡ Some kinds.Var
    → reads (c ∷ text) (states.Variable variables.Part) ≡ Some kinds.Var
unfolding step
part-read c text h r = rw h r

first-read : (c : ℕ) (text : List ℕ) → is_query_label_first c ≡ true → reads text (states.Variable variables.Part) ≡ Some kinds.Var
    → reads (c ∷ text) (states.Variable variables.Question) ≡ Some kinds.Var
unfolding step
first-read c text h r = rw h r

dollar-read : (c : ℕ) (text : List ℕ) → is_query_label_first c ≡ true → reads text (states.Variable variables.Part) ≡ Some kinds.Var
    → reads (c ∷ text) (states.Variable variables.Dollar) ≡ Some kinds.Var
unfolding step
dollar-read c text h r = rw h r

parts-read : (text : List ℕ) → AreAll is_variable_part text → reads text (states.Variable variables.Part) ≡ Some kinds.Var
unfolding step
parts-read [] h = refl
parts-read (c ∷ text) h = let f = all-first is_variable_part c text h in part-read c text f.0 (parts-read text f.1)

marked-read : (mark : ℕ) (first : ℕ) (more : List ℕ) → is_among (codes "?$") mark ≡ true → is_query_label_first first ≡ true → AreAll is_variable_part more
    → reads (mark ∷ first ∷ more) states.Start ≡ Some kinds.Var
unfolding step is_pn_base
marked-read mark first more m f h =
    among (λ v. reads (v ∷ first ∷ more) states.Start ≡ Some kinds.Var) (codes "?$") mark
    (first-read first more f (parts-read more h), (dollar-read first more f (parts-read more h), tt)) m

pub variable-read : (text : List ℕ) → IsVariable text → reads text states.Start ≡ Some kinds.Var
variable-read text h = subst (λ v. reads v states.Start ≡ Some kinds.Var) (sym h.spelled) (marked-read h.mark h.first h.more h.is_mark h.is_first h.are_parts)

pub variable-token : (mark : ℕ) (text : List ℕ) → is_among (codes "?$") mark ≡ true → NameBehind text → IsVariable (mark ∷ text)
variable-token mark text m h = record { mark = mark; first = h.first; more = h.more; is_mark = m; is_first = h.is_first; are_parts = h.are_parts; spelled = ap (λ v. mark ∷ v) h.spelled }
