-- What a text that is accepted, or refused, says of the query that is answered.
use Rattle.std.proofs.Common.{◌≡◌, ◌⊎◌, ℕ, List, Some, Ok, Err, Result, Bool, true, false, sym, subst, ap, inl, inr}
use Rattle.std.specs.Prelude.{if◌then◌else◌}
use Rattle.term_core.specs.declared.pattern.Pattern.{Pattern}
use Rattle.term_core.specs.Bags.{In, distinct}
use Rattle.term_core.specs.Mappings.{Name, same_name}
use Rattle.term_core.proofs.Distinct.{from_In-distinct}
use Rattle.term_core.proofs.Merges.{names_same, name_itself}
use Rattle.sparql_tree.specs.Queries.{variables as item_names}
use Rattle.sparql_tree.specs.Translation.{translation}
use Rattle.sparql_tree.specs.Variables.{in_scope}
use Rattle.sparql_print.proofs.ReadQueries.{item-names, scope-names}
use Rattle.sparql_print.proofs.TranslatedScopes.{group-scope}
use Rattle.sparql_print.proofs.VariableNames.{spelled-variable}
use Rattle.sparql_algebra.proofs.Accepting.{one_split}
use Rattle.plan_tree.specs.Laws.{AreVariables}
use Rattle.sparql_algebra.specs.Cuts.{Split, answered}
use Rattle.sparql_algebra.specs.Prepared.{Accepted}
use Rattle.sparql_translation.specs.Modifiers.{is_plain}
use Rattle.sage.specs.declared.refusal.Refusal.{Refusal}
use Rattle.sage.specs.declared.refusal.Refusal.TheVariants as refusals
use Rattle.sage.specs.declared.select.Select.{Select}
use Rattle.sage.specs.Answers.{AsksPattern, WhyNoQuery, ReadsQuery, SelectsOf, only_pattern}

-- the names of an answer are among those of the items, or those in scope of the group
among_these : (b : Bool) (xs ys : List Name) (name : Name) → In (if b then distinct same_name xs else distinct same_name ys) name → In xs name ⊎ In ys name
among_these true xs ys name i = inl (from_In-distinct same_name names_same name_itself xs name i)
among_these false xs ys name i = inr (from_In-distinct same_name names_same name_itself ys name i)

module _ (text : List ℕ) (split : Split) (accepted : Accepted text split) where
  -- each name of the answer is a variable's
  answer_variables : AreVariables split.answer
  answer_variables name among =
      let q = split.query in
      let tree = accepted.accepted.tree in
      let here : In (answered q) name = subst (λ names. In names name) (ap (λ (s : Split). s.answer) accepted.cut.is_split) among in
      elim (among_these q.star (in_scope (translation q)) (item_names q.items) name here) [
        | inl scope ↦ spelled-variable name (scope-names text q tree name (subst (λ names. In names name) (group-scope q.body) scope))
        | inr item ↦ spelled-variable name (item-names text q tree name item)
      ]

  -- what else would be accepted is the same
  none_else : ((pattern : Pattern) → is_plain split.query ≡ true → only_pattern split.parts ≡ Some pattern → ⊥) → (names : List Name) (pattern : Pattern) → AsksPattern text names pattern → ⊥
  none_else none names pattern asks =
      let same : asks.split ≡ split = one_split text asks.split split asks.accepted accepted in
      none pattern (subst (λ (s : Split). is_plain s.query ≡ true) same asks.plain) (subst (λ (s : Split). only_pattern s.parts ≡ Some pattern) same asks.alone)

  -- from what the split gives to what the text gives
  pub read_of : (result : Result Select Refusal) → SelectsOf result split → ReadsQuery result text
  read_of (Ok select) h = record {
    is_query = record { split = split; accepted = accepted; plain = h.0; alone = h.1; names_are = h.2 };
    variables = subst AreVariables (sym h.2) answer_variables;
  }
  read_of (Err refusals.Memory) h = tt
  read_of (Err (refusals.Query cause)) h =
      subst (λ c. WhyNoQuery c text) (sym h.0) (record { split = split; accepted = accepted; none = none_else h.1 })
  read_of (Err refusals.Words) h = absurd h
  read_of (Err (refusals.File name)) h = absurd h
  read_of (Err (refusals.Data fault)) h = absurd h
  read_of (Err refusals.NotAStore) h = absurd h
  read_of (Err (refusals.DamagedStore block)) h = absurd h
  read_of (Err refusals.Output) h = absurd h
