-- A part inherits from its query what it takes to be read back, and its sizes are no greater.
use Rattle.std.proofs.Common.{◌≡◌, ◌⊎◌, inl, inr, ◌≤◌, Bool, true, false, cond, List, [], ◌∷◌, ◌++◌, refl, subst, arith}
use Rattle.term_core.specs.Bags.{In}
use Rattle.term_core.specs.Mappings.{Name}
use Rattle.term_core.proofs.Bags.{In-append_cases}
use Rattle.sparql_tree.specs.Algebra as algebra
use Rattle.sparql_tree.specs.Algebra.{Algebra, is_server}
use Rattle.sparql_tree.specs.Sizes.{depth, deepest_expr, weight}
use Rattle.sparql_translation.specs.Splits.{parts_of}
use Rattle.part_texts.specs.Rules.{labels_of, KeepsRules}
use Rattle.part_texts.proofs.Forms.{IsWritten}

-- what a part inherits
pub record Inherits (a part : Algebra) : Type 0 where
  pub server : is_server part ≡ true
  pub written : IsWritten part
  pub before : List Name
  pub keeps : KeepsRules before part
  pub depth : depth part ≤ depth a
  pub deepest : deepest_expr part ≤ deepest_expr a
  pub weight : weight part ≤ weight a

itself : (a part : Algebra) (before : List Name) → a ≡ part → is_server a ≡ true → IsWritten a → KeepsRules before a → Inherits a part
itself a part before e h w k = subst (Inherits a) e (record { server = h; written = w; before = before; keeps = k; depth = omega arith; deepest = omega arith; weight = omega arith })

below : (a inner part : Algebra) → depth inner ≤ depth a → deepest_expr inner ≤ deepest_expr a → weight inner ≤ weight a → Inherits inner part → Inherits a part
below a inner part d e w h = record {
  server = h.server;
  written = h.written;
  before = h.before;
  keeps = h.keeps;
  depth = omega (arith, d, h.depth);
  deepest = omega (arith, e, h.deepest);
  weight = omega (arith, w, h.weight);
}

among : (t : Bool) (a part : Algebra) (parts : List Algebra) → In (cond t (a ∷ []) parts) part → ((t ≡ true) × (a ≡ part)) ⊎ In parts part
among true a part parts (inl e) = inl (refl, e)
among true a part parts (inr i) = absurd i
among false a part parts i = inr i

pub inherits : (a part : Algebra) (before : List Name) → In (parts_of a) part → IsWritten a → KeepsRules before a → Inherits a part
inherits (algebra.Bgp patterns) part before (inl e) w k = itself (algebra.Bgp patterns) part before e refl w k
inherits (algebra.Bgp patterns) part before (inr i) w k = absurd i
inherits (algebra.Table variables rows) part before (inl e) w k = itself (algebra.Table variables rows) part before e refl w k
inherits (algebra.Table variables rows) part before (inr i) w k = absurd i
inherits (algebra.Join left right) part before i w k = elim (among (is_server (algebra.Join left right)) (algebra.Join left right) part (parts_of left ++ parts_of right) i) [
  | inl h ↦ itself (algebra.Join left right) part before h.1 h.0 w k
  | inr h ↦ elim (In-append_cases (parts_of left) (parts_of right) part h) [
    | inl l ↦ below (algebra.Join left right) left part (omega arith) (omega arith) (omega arith) (inherits left part before l w.0 k.0)
    | inr r ↦ below (algebra.Join left right) right part (omega arith) (omega arith) (omega arith) (inherits right part (before ++ labels_of left) r w.1 k.1)
  ]
]
inherits (algebra.Union left right) part before i w k = elim (among (is_server (algebra.Union left right)) (algebra.Union left right) part (parts_of left ++ parts_of right) i) [
  | inl h ↦ itself (algebra.Union left right) part before h.1 h.0 w k
  | inr h ↦ elim (In-append_cases (parts_of left) (parts_of right) part h) [
    | inl l ↦ below (algebra.Union left right) left part (omega arith) (omega arith) (omega arith) (inherits left part before l w.0 k.0)
    | inr r ↦ below (algebra.Union left right) right part (omega arith) (omega arith) (omega arith) (inherits right part (before ++ labels_of left) r w.1 k.1)
  ]
]
inherits (algebra.Filter condition inner) part before i w k = elim (among (is_server inner) (algebra.Filter condition inner) part (parts_of inner) i) [
  | inl h ↦ itself (algebra.Filter condition inner) part before h.1 h.0 w k
  | inr h ↦ below (algebra.Filter condition inner) inner part (omega arith) (omega arith) (omega arith) (inherits inner part before h w.0 k)
]
inherits (algebra.Extend inner variable value) part before i w k = elim (among (is_server inner) (algebra.Extend inner variable value) part (parts_of inner) i) [
  | inl h ↦ itself (algebra.Extend inner variable value) part before h.1 h.0 w k
  | inr h ↦ below (algebra.Extend inner variable value) inner part (omega arith) (omega arith) (omega arith) (inherits inner part before h w.0 k.0)
]
inherits (algebra.LeftJoin left right condition) part before i w k = elim (In-append_cases (parts_of left) (parts_of right) part i) [
  | inl l ↦ below (algebra.LeftJoin left right condition) left part (omega arith) (omega arith) (omega arith) (inherits left part before l w.0 k.0)
  | inr r ↦ below (algebra.LeftJoin left right condition) right part (omega arith) (omega arith) (omega arith) (inherits right part (before ++ labels_of left) r w.1 k.1)
]
inherits (algebra.Minus left right) part before i w k = elim (In-append_cases (parts_of left) (parts_of right) part i) [
  | inl l ↦ below (algebra.Minus left right) left part (omega arith) (omega arith) (omega arith) (inherits left part before l w.0 k.0)
  | inr r ↦ below (algebra.Minus left right) right part (omega arith) (omega arith) (omega arith) (inherits right part (before ++ labels_of left) r w.1 k.1)
]
