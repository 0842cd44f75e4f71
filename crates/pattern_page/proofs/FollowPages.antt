-- Pages given one after the other, up to the last.
use Rattle.std.proofs.Common.{◌≡◌, ℕ, ◌+◌, ◌<◌, ◌≤◌, List, [], ◌∷◌, ◌++◌, length, Bool, true, false, Option, Some, None, refl, sym, ap, ◌∙◌, subst, arith, length-append, append_assoc}
use Rattle.std.specs.Prelude.{flat_map, max, is_some}
use Rattle.std.proofs.lemmas.Grind.{flat_map-append}
use Rattle.term_core.specs.declared.term.Triple.{Triple}
use Rattle.term_core.specs.declared.pattern.Pattern.{Pattern}
use Rattle.term_core.specs.Mappings.{Name, Row}
use Rattle.plan_tree.specs.Trace.{Plan, steps}
use Rattle.plan_tree.specs.Pages.{Page, IsNext, page_end, IsPage, IsRun, AreQuanta, walked, rows_in, steps_in, next_length, longest_plan_in}
use Rattle.plan_tree.specs.StateLaws.{TakesSteps}
use Rattle.plan_tree.proofs.Runs.{takes_steps, goes_round}
use Rattle.pattern_page.specs.declared.follow.Counts.{Counts}
use Rattle.pattern_page.specs.declared.follow.Walk.{Walk}
use Rattle.pattern_page.specs.Part.{select_all_text, part_plan}
use Rattle.pattern_page.specs.Results.{line}
use Rattle.pattern_page.specs.PagesOf.{Seen, IsOf}
use Rattle.pattern_page.specs.Followed.{next_in, Begins, IsPaged, IsFront, AreGiven, IsWalked, IsFollowed}
use Rattle.pattern_page.proofs.FollowLinks.{begins_below}

-- lists of pages with one more
steps_more : (pages : List Page) (page : Page) → steps_in (pages ++ page ∷ []) ≡ steps_in pages + page.steps
steps_more [] page = omega arith
steps_more (p ∷ pages) page = omega (arith, steps_more pages page)

longest_more : (pages : List Page) (page : Page) → longest_plan_in (pages ++ page ∷ []) ≡ max (longest_plan_in pages) (next_length page.next)
longest_more [] page = omega arith
longest_more (p ∷ pages) page = omega (arith, longest_more pages page)

rows_more : (pages : List Page) (page : Page) → rows_in (pages ++ page ∷ []) ≡ rows_in pages ++ page.rows
rows_more [] page = append_nil page.rows
  where
    append_nil : (rows : List Row) → rows ++ [] ≡ rows
    append_nil [] = refl
    append_nil (row ∷ rows) = ap (λ w. row ∷ w) (append_nil rows)
rows_more (p ∷ pages) page = ap (λ w. p.rows ++ w) (rows_more pages page) ∙ sym (append_assoc p.rows (rows_in pages) page.rows)

lines_more : (names : List Name) (pages : List Page) (page : Page) (before middle after : List ℕ) → middle ≡ before ++ flat_map (line names) (rows_in pages) → after ≡ middle ++ flat_map (line names) page.rows
    → after ≡ before ++ flat_map (line names) (rows_in (pages ++ page ∷ []))
lines_more names pages page before middle after e f =
    let shown : List Row → List ℕ = λ rows. flat_map (line names) rows in
    f ∙ ap (λ w. w ++ shown page.rows) e ∙ append_assoc before (shown (rows_in pages)) (shown page.rows)
    ∙ ap (λ w. before ++ w) (sym (flat_map-append (line names) (rows_in pages) page.rows) ∙ ap shown (sym (rows_more pages page)))

module _ (D : List Triple) (plan : Plan) (text : List ℕ) (quanta : ℕ → ℕ) where
  front_more : (k m n place : ℕ) (pages : List Page) (page : Page) → IsFront D plan text quanta k m pages n → n < steps D plan → place ≡ k + length pages
      → IsPage D plan text n (quanta place) page → IsFront D plan text quanta k m (pages ++ page ∷ []) (n + page.steps)
  front_more k m n place [] page f l e is =
      let same : n ≡ m = sym f in
      let first : place ≡ k = omega (arith, e) in
      (subst (λ w. w < steps D plan) same l, subst (λ w. IsPage D plan text w (quanta k) page) same (subst (λ w. IsPage D plan text n (quanta w) page) first is), ap (λ w. w + page.steps) f)
  front_more k m n place (p ∷ pages) page (l, is, rest) g e page_is =
      (l, is, front_more (k + 1) (m + p.steps) n place pages page rest g (omega (arith, e)) page_is)

  front_run : (k m n : ℕ) (pages : List Page) → IsFront D plan text quanta k m pages n → n ≡ steps D plan → IsRun D plan text quanta k m pages
  front_run k m n [] f e = f ∙ e
  front_run k m n (p ∷ pages) (l, is, rest) e = (l, is, front_run (k + 1) (m + p.steps) n pages rest e)

module _ (D : List Triple) (pattern : Pattern) (part : Seen) (h : IsOf D pattern part) (quanta : List ℕ) (are : AreQuanta quanta) (names : List Name) where
  taken : (k n : ℕ) (next : Option (List ℕ)) (page : Page) → Begins D pattern n next → IsPage D (part_plan pattern) (select_all_text pattern) n (walked quanta k) page → TakesSteps D (part_plan pattern) n (walked quanta k) page
  taken k n next page b is = takes_steps D (part_plan pattern) (select_all_text pattern) n (walked quanta k) page (begins_below D pattern part h n next b) ((goes_round quanta are).some k) is

  given_more : (count : ℕ) (old new : Walk) (before middle after : List ℕ) (more : Bool) → IsWalked D pattern quanta names count old before middle → IsPaged D pattern (walked quanta count) names old new middle after more
      → AreGiven D pattern quanta names (count + 1) new before after
  given_more count old new before middle after more w p =
      let g = w.given in
      let a = g.are in
      let t = taken count old.counts.steps (next_in old) p.page w.begins p.page_is in
      record {
        pages = g.pages ++ p.page ∷ [];
        front = subst (λ n. IsFront D (part_plan pattern) (select_all_text pattern) (walked quanta) 0 0 (g.pages ++ p.page ∷ []) n) (sym p.counts_are.steps_are)
            (front_more D (part_plan pattern) (select_all_text pattern) (walked quanta) 0 0 old.counts.steps count g.pages p.page g.front (begins_below D pattern part h old.counts.steps (next_in old) w.begins) (omega (arith, g.count_is)) p.page_is);
        count_is = omega (arith, length-append g.pages (p.page ∷ []), g.count_is);
        few = omega (arith, g.few, t.some, p.counts_are.steps_are);
        are = record {
          pages_are = omega (arith, p.counts_are.pages_are, a.pages_are, length-append g.pages (p.page ∷ []));
          steps_are = omega (arith, p.counts_are.steps_are, a.steps_are, steps_more g.pages p.page);
          longest_are = p.counts_are.longest_are ∙ ap (λ n. max n (next_length p.page.next)) a.longest_are ∙ sym (longest_more g.pages p.page);
          lines_are = lines_more names g.pages p.page before middle after a.lines_are p.lines_are;
        };
      }

  -- where the page ends
  ends : (count : ℕ) (old new : Walk) (before middle after : List ℕ) (more : Bool) → IsWalked D pattern quanta names count old before middle → IsPaged D pattern (walked quanta count) names old new middle after more
      → (next : Option (List ℕ)) × (next_in new ≡ next) × (more ≡ is_some next) × IsNext D (part_plan pattern) (select_all_text pattern) new.counts.steps next
  ends count old new before middle after more w p =
      let t = taken count old.counts.steps (next_in old) p.page w.begins p.page_is in
      let end : page_end D (part_plan pattern) old.counts.steps (walked quanta count) ≡ new.counts.steps = sym t.end ∙ sym p.counts_are.steps_are in
      (p.page.next, p.next_is, p.more_is, subst (λ n. IsNext D (part_plan pattern) (select_all_text pattern) n p.page.next) end p.page_is.next_is)

  begins_after : (n : ℕ) (found next : Option (List ℕ)) → found ≡ next → true ≡ is_some next → IsNext D (part_plan pattern) (select_all_text pattern) n next → Begins D pattern n found
  begins_after n found None e m is = cc
  begins_after n found (Some bytes) e m is = subst (Begins D pattern n) (sym e) is

  ends_after : (n : ℕ) (next : Option (List ℕ)) → false ≡ is_some next → IsNext D (part_plan pattern) (select_all_text pattern) n next → n ≡ steps D (part_plan pattern)
  ends_after n None m is = is
  ends_after n (Some bytes) m is = cc

  -- the quantum of the page is that of the list
  pub paged_at : (count quantum : ℕ) (old new : Walk) (middle after : List ℕ) (more : Bool) → quantum ≡ walked quanta count → IsPaged D pattern quantum names old new middle after more → IsPaged D pattern (walked quanta count) names old new middle after more
  paged_at count quantum old new middle after more is p = subst (λ q. IsPaged D pattern q names old new middle after more) is p

  -- one page more, and others to come
  pub walked_more : (count : ℕ) (old new : Walk) (before middle after : List ℕ) (more : Bool) → IsWalked D pattern quanta names count old before middle → IsPaged D pattern (walked quanta count) names old new middle after more
      → more ≡ true → IsWalked D pattern quanta names (count + 1) new before after
  walked_more count old new before middle after more w p e =
      let x = ends count old new before middle after more w p in
      record {
        given = given_more count old new before middle after more w p;
        begins = begins_after new.counts.steps (next_in new) x.0 x.1 (sym e ∙ x.2) x.3;
      }

  -- one page more, the last
  pub walked_through : (count : ℕ) (old new : Walk) (before middle after : List ℕ) (more : Bool) → IsWalked D pattern quanta names count old before middle → IsPaged D pattern (walked quanta count) names old new middle after more
      → more ≡ false → IsFollowed D pattern quanta names new.counts before after
  walked_through count old new before middle after more w p e =
      let x = ends count old new before middle after more w p in
      let g = given_more count old new before middle after more w p in
      record {
        pages = g.pages;
        run = front_run D (part_plan pattern) (select_all_text pattern) (walked quanta) 0 0 new.counts.steps g.pages g.front (ends_after new.counts.steps x.0 (sym e ∙ x.2) x.3);
        are = g.are;
      }

  -- there are no more pages than steps
  pub not_walked : (count : ℕ) (walk : Walk) (before after : List ℕ) → steps D (part_plan pattern) ≤ count → IsWalked D pattern quanta names count walk before after → ⊥
  not_walked count walk before after l w =
      omega (arith, l, w.given.few, begins_below D pattern part h walk.counts.steps (next_in walk) w.begins)

  pub counted_few : (count : ℕ) (walk : Walk) (before after : List ℕ) → IsWalked D pattern quanta names count walk before after → walk.counts.pages ≤ walk.counts.steps
  counted_few count walk before after w = omega (arith, w.given.few, w.given.count_is, w.given.are.pages_are)

-- no page was given
pub walked_none : (D : List Triple) (pattern : Pattern) (quanta : List ℕ) (names : List Name) (walk : Walk) (before : List ℕ) → walk.counts ≡ record { pages = 0; steps = 0; longest = 0 } → next_in walk ≡ None
    → IsWalked D pattern quanta names 0 walk before before
walked_none D pattern quanta names walk before e f =
    let zero_steps : walk.counts.steps ≡ 0 = ap (λ (c : Counts). c.steps) e in
    record {
      given = record {
        pages = [];
        front = sym zero_steps;
        count_is = refl;
        few = omega arith;
        are = record { pages_are = ap (λ (c : Counts). c.pages) e; steps_are = zero_steps; longest_are = ap (λ (c : Counts). c.longest) e; lines_are = nothing_more before };
      };
      begins = subst (Begins D pattern walk.counts.steps) (sym f) zero_steps;
    }
  where
    nothing_more : (bytes : List ℕ) → bytes ≡ bytes ++ []
    nothing_more [] = refl
    nothing_more (b ∷ bytes) = ap (λ w. b ∷ w) (nothing_more bytes)
