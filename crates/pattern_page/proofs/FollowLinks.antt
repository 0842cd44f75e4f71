-- Pages one after the other.
use Rattle.std.proofs.Common.{◌≡◌, ℕ, ◌+◌, ◌<◌, ◌≤◌, List, [], ◌∷◌, length, Bool, Option, Some, None, Result, Ok, Err, refl, sym, subst, arith}
use Rattle.std.specs.Result.{IsErr, IsErrAnd}
use Rattle.term_core.specs.declared.term.Triple.{Triple}
use Rattle.term_core.specs.declared.pattern.Pattern.{Pattern}
use Rattle.term_core.specs.Order.{term_cmp}
use Rattle.term_core.specs.OrderLaws.{terms_total}
use Rattle.term_core.specs.Bags.{total, SameBag}
use Rattle.term_core.proofs.Bags.{same_members}
use Rattle.term_core.specs.Data.{terms_of}
use Rattle.plan_tree.specs.Trace.{steps}
use Rattle.plan_tree.specs.Pages.{Page, IsPage}
use Rattle.plan_tree.specs.StateLaws.{IsCountable}
use Rattle.term_core.proofs.Orders.{AreDistinct-ordered}
use Rattle.term_core.proofs.Ranked.{terms_distinct}
use Rattle.plan_tree.proofs.Standing.{stands_below}
use Rattle.plan_tree.proofs.Spelled.{next_placed}
use Rattle.pattern_page.specs.declared.page.Page as code_page
use Rattle.pattern_page.specs.Part.{select_all_text, part_plan}
use Rattle.pattern_page.specs.PagesOf.{Seen, IsOf, page_of, AnswersPage}
use Rattle.pattern_page.specs.declared.follow.Walk.{Walk}
use Rattle.pattern_page.specs.declared.page.PageFault.{PageFault}
use Rattle.pattern_page.specs.declared.page.PageFault.TheVariants as faults
use Rattle.term_core.specs.Mappings.{Name}
use Rattle.pattern_page.specs.declared.follow.Counts.{Counts}
use Rattle.pattern_page.specs.Followed.{Begins, IsTurned, IsGiven, AreFollowed}
use Rattle.pattern_page.proofs.PageLinks.{terms_alike, steps_are}

total_ones : {X : Type 0} (xs : List X) → total (λ _. 1) xs ≡ length xs
total_ones [] = refl
total_ones (x ∷ xs) = omega (arith, total_ones xs)

module _ (D : List Triple) (pattern : Pattern) (part : Seen) (h : IsOf D pattern part) where
  few_terms : length (terms_of D) ≤ 12582909
  few_terms =
      let ts = part.terms in
      let same = terms_alike D pattern part h in
      let bags : SameBag (terms_of D) ts = same_members (terms_of D) ts (terms_distinct D) (AreDistinct-ordered term_cmp terms_total ts h.table_is.rising) same.from same.to in
      omega (arith, bags.by (λ _. 1), total_ones (terms_of D), total_ones ts, h.table_is.few)

  countable : IsCountable D (part_plan pattern)
  countable = record { rows = omega arith; terms = omega (arith, few_terms) }

  -- where a page begins entries are still to come
  pub begins_below : (n : ℕ) (next : Option (List ℕ)) → Begins D pattern n next → n < steps D (part_plan pattern)
  begins_below n None b = omega (arith, b, steps_are D pattern part h)
  begins_below n (Some bytes) b = stands_below D (part_plan pattern) b.0 n b.1

  -- the page of the bytes is the page of the place
  pub turned : (n quantum : ℕ) (next : Option (List ℕ)) (page : code_page.Page) → Begins D pattern n next → AnswersPage D pattern next quantum (Ok page)
      → IsPage D (part_plan pattern) (select_all_text pattern) n quantum (page_of page)
  turned n quantum None page b a = subst (λ m. IsPage D (part_plan pattern) (select_all_text pattern) m quantum (page_of page)) (sym b) a
  turned n quantum (Some bytes) page b a =
      let same : a.entry ≡ n = next_placed D (part_plan pattern) (select_all_text pattern) (Some bytes) a.entry n countable (a.state, a.stands, a.bytes_are) b in
      subst (λ m. IsPage D (part_plan pattern) (select_all_text pattern) m quantum (page_of page)) same a.page_is

  -- the counts fit
  pub pages_fit : (n pages : ℕ) (next : Option (List ℕ)) → Begins D pattern n next → pages ≤ n → pages < 18446744073709551615
  pages_fit n pages next b l = omega (arith, begins_below n next b, steps_are D pattern part h, h.few, l)

  pub steps_fit : (n quantum : ℕ) (next : Option (List ℕ)) (page : Page) → Begins D pattern n next → IsPage D (part_plan pattern) (select_all_text pattern) n quantum page → n + page.steps < 18446744073709551616
  steps_fit n quantum next page b is = omega (arith, begins_below n next b, is.steps_are, steps_are D pattern part h, h.few)

  -- the page of the place, or a refusal that is none of its bytes
  pub turned_all : (n quantum : ℕ) (next : Option (List ℕ)) (r : Result code_page.Page PageFault) → Begins D pattern n next → AnswersPage D pattern next quantum r
      → IsTurned D pattern n quantum r
  turned_all n quantum next (Ok page) b a = turned n quantum next page b a
  turned_all n quantum None (Err faults.Plan) b a = a
  turned_all n quantum (Some bytes) (Err faults.Plan) b a = a b.0 n b.1 b.2
  turned_all n quantum next (Err (faults.Store fault)) b a = tt
  turned_all n quantum next (Err faults.Memory) b a = tt

given_err : (D : List Triple) (pattern : Pattern) (n quantum : ℕ) (names : List Name) (old new : Walk) (before after : List ℕ) (e : PageFault)
    → IsTurned D pattern n quantum (Err e) → IsGiven D pattern quantum names old new before after (Err e)
given_err D pattern n quantum names old new before after faults.Plan t = t
given_err D pattern n quantum names old new before after (faults.Store fault) t = tt
given_err D pattern n quantum names old new before after faults.Memory t = tt

-- a refusal that `?` passes on
pub given_passed : (D : List Triple) (pattern : Pattern) (n quantum : ℕ) (names : List Name) (old new : Walk) (before after : List ℕ) (r : Result Bool PageFault) (e : PageFault)
    → IsErr r × IsErrAnd r (λ x. x ≡ e) → IsTurned D pattern n quantum (Err e) → IsGiven D pattern quantum names old new before after r
given_passed D pattern n quantum names old new before after (Ok more) e h t = cc
given_passed D pattern n quantum names old new before after (Err x) e h t =
    given_err D pattern n quantum names old new before after x (subst (λ y. IsTurned D pattern n quantum (Err y)) (sym h.1) t)

followed_err : (D : List Triple) (pattern : Pattern) (quantum : ℕ) (quanta : List ℕ) (names : List Name) (old new : Walk) (first before after : List ℕ) (e : PageFault)
    → IsGiven D pattern quantum names old new before after (Err e) → AreFollowed D pattern quanta names first after (Err e)
followed_err D pattern quantum quanta names old new first before after faults.Plan t = t
followed_err D pattern quantum quanta names old new first before after (faults.Store fault) t = tt
followed_err D pattern quantum quanta names old new first before after faults.Memory t = tt

pub followed_passed : (D : List Triple) (pattern : Pattern) (quantum : ℕ) (quanta : List ℕ) (names : List Name) (old new : Walk) (first before after : List ℕ) (r : Result Counts PageFault)
    (e : PageFault) → IsErr r × IsErrAnd r (λ x. x ≡ e) → IsGiven D pattern quantum names old new before after (Err e) → AreFollowed D pattern quanta names first after r
followed_passed D pattern quantum quanta names old new first before after (Ok counts) e h t = cc
followed_passed D pattern quantum quanta names old new first before after (Err x) e h t =
    followed_err D pattern quantum quanta names old new first before after x (subst (λ y. IsGiven D pattern quantum names old new before after (Err y)) (sym h.1) t)
