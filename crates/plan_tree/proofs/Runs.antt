-- Pages followed to the end.
use Rattle.std.proofs.Common.{◌≡◌, ℕ, zero, suc, ◌+◌, ◌-◌, ◌*◌, ◌%◌, ◌<◌, ◌≤◌, List, [], ◌∷◌, ◌++◌, length, get_or, take, drop, Option, Some, None, refl, sym, ap, ◌∙◌, subst, ⊎_elim, arith}
use Rattle.std.proofs.Math.Nat.{mod-lt, mod-eq_of_lt, add-mod_right}
use Rattle.std.proofs.lemmas.Bool.{cases_lt}
use Rattle.std.proofs.lemmas.Grind.{flat_map-append}
use Rattle.std.proofs.lemmas.List.{drop-drop, drop_all, take-append-drop}
use Rattle.term_core.specs.declared.term.Triple.{Triple}
use Rattle.plan_tree.specs.Trace.{Plan, trace, steps, rows_of}
use Rattle.plan_tree.specs.Spelling.{plan_bytes, nodes}
use Rattle.plan_tree.specs.Pages.{Page, IsNext, page_end, IsPage, IsRun, Part, IsRunOf, AreQuanta, rows_in, steps_in, next_length, longest_plan_in}
use Rattle.plan_tree.specs.StateLaws.{AreWhole, HasOne, TakesSteps, GoesRound, AreAllOf}
use Rattle.plan_tree.proofs.Traces.{rows_of-append}
use Rattle.plan_tree.proofs.Spelled.{bounded}
use Rattle.plan_tree.proofs.Standing.{some_state, same_state, stands_below}

-- a page that begins before the end takes a step, and as many as its quantum unless the plan ends first
pub takes_steps : (D : List Triple) (plan : Plan) (text : List ℕ) (n quantum : ℕ) (page : Page) → n < steps D plan → 1 ≤ quantum → IsPage D plan text n quantum page → TakesSteps D plan n quantum page
takes_steps D plan text n quantum page h some is = ⊎_elim
    (λ l. record { some = omega (arith, some, h, l, is.steps_are); most = omega (arith, l, is.steps_are); end = omega (arith, h, l, is.steps_are) })
    (λ l. record { some = omega (arith, some, h, l, is.steps_are); most = omega (arith, l, is.steps_are); end = omega (arith, h, l, is.steps_are) })
    (cases_lt (n + quantum) (steps D plan))

module _ (D : List Triple) (plan : Plan) (text : List ℕ) (quanta : ℕ → ℕ) (some : (k : ℕ) → 1 ≤ quanta k) where
  pub followed_rows : (k n : ℕ) (pages : List Page) → IsRun D plan text quanta k n pages → rows_in pages ≡ rows_of (drop n (trace D plan))
  followed_rows k n [] e = sym (ap rows_of (drop_all n (trace D plan) (omega (arith, e))))
  followed_rows k n (page ∷ pages) (h, is, rest) =
      let s = page.steps in let es = drop n (trace D plan) in
      ap (λ rows. rows ++ rows_in pages) is.rows_are
      ∙ ap (λ rows. rows_of (take s es) ++ rows) (followed_rows (k + 1) (n + s) pages rest ∙ ap rows_of (sym (drop-drop s n (trace D plan))))
      ∙ sym (rows_of-append (take s es) (drop s es))
      ∙ ap rows_of (take-append-drop s es)

  pub followed_count : (k n : ℕ) (pages : List Page) → IsRun D plan text quanta k n pages → n + length pages ≤ steps D plan
  followed_count k n [] e = omega (arith, e)
  followed_count k n (page ∷ pages) (h, is, rest) =
      let m = takes_steps D plan text n (quanta k) page h (some k) is in
      omega (arith, followed_count (k + 1) (n + page.steps) pages rest, m.some)

  pub followed_steps : (k n : ℕ) (pages : List Page) → IsRun D plan text quanta k n pages → n + steps_in pages ≡ steps D plan
  followed_steps k n [] e = omega (arith, e)
  followed_steps k n (page ∷ pages) (h, is, rest) = omega (arith, followed_steps (k + 1) (n + page.steps) pages rest)

  next_short : (n : ℕ) (next : Option (List ℕ)) → IsNext D plan text n next → next_length next ≤ 65 + 14 * nodes plan
  next_short n None h = omega arith
  next_short n (Some bytes) h = omega (arith, ap (λ w. length w) h.2, bounded D plan text h.0 n h.1)

  pub followed_short : (k n : ℕ) (pages : List Page) → IsRun D plan text quanta k n pages → longest_plan_in pages ≤ 65 + 14 * nodes plan
  followed_short k n [] e = omega arith
  followed_short k n (page ∷ pages) (h, is, rest) =
      omega (arith, next_short (page_end D plan n (quanta k)) page.next is.next_is, followed_short (k + 1) (n + page.steps) pages rest)

  pub pages_join : (pages : List Page) → IsRun D plan text quanta 0 0 pages → AreWhole D plan pages
  pages_join pages run = record {
    rows = followed_rows 0 0 pages run;
    count = omega (arith, followed_count 0 0 pages run);
    steps_all = omega (arith, followed_steps 0 0 pages run);
    short = followed_short 0 0 pages run;
  }

-- what follows a page is settled by where it ends
module _ (D : List Triple) (plan : Plan) (text : List ℕ) where
  next_at : (n : ℕ) → n ≤ steps D plan → (next : Option (List ℕ)) × IsNext D plan text n next
  next_at n h = ⊎_elim
      (λ l. let s = some_state D plan n l in (Some (plan_bytes D text s.0), (s.0, s.1, refl)))
      (λ l. (None, omega (arith, l, h)))
      (cases_lt n (steps D plan))

  pub next_same : (n : ℕ) (a b : Option (List ℕ)) → IsNext D plan text n a → IsNext D plan text n b → a ≡ b
  next_same n None None x y = refl
  next_same n None (Some b) x y = absurd (omega (arith, x, stands_below D plan y.0 n y.1))
  next_same n (Some a) None x y = absurd (omega (arith, y, stands_below D plan x.0 n x.1))
  next_same n (Some a) (Some b) x y = ap Some (x.2 ∙ ap (plan_bytes D text) (same_state D plan x.0 y.0 n x.1 y.1) ∙ sym y.2)

  page_at : (n quantum : ℕ) → (page : Page) × IsPage D plan text n quantum page
  page_at n quantum =
      let s = page_end D plan n quantum - n in
      let next = next_at (page_end D plan n quantum) (omega arith) in (
        record { rows = rows_of (take s (drop n (trace D plan))); steps = s; next = next.0 },
        record { steps_are = refl; rows_are = refl; next_is = next.1 },
      )

  pub page_same : (n quantum : ℕ) (a b : Page) → IsPage D plan text n quantum a → IsPage D plan text n quantum b → a ≡ b
  page_same n quantum a b x y =
      let s : a.steps ≡ b.steps = x.steps_are ∙ sym y.steps_are in
      let r : a.rows ≡ b.rows = x.rows_are ∙ ap (λ w. rows_of (take w (drop n (trace D plan)))) s ∙ sym y.rows_are in
      let e : a.next ≡ b.next = next_same (page_end D plan n quantum) a.next b.next x.next_is y.next_is in
      λ i. record { rows = r i; steps = s i; next = e i }

  module _ (quanta : ℕ → ℕ) where
    pub run_same : (k n : ℕ) (pages others : List Page) → IsRun D plan text quanta k n pages → IsRun D plan text quanta k n others → pages ≡ others
    run_same k n [] [] x y = refl
    run_same k n [] (b ∷ others) x y = absurd (omega (arith, x, y.0))
    run_same k n (a ∷ pages) [] x y = absurd (omega (arith, x.0, y))
    run_same k n (a ∷ pages) (b ∷ others) x y =
        let first : a ≡ b = page_same n (quanta k) a b x.1 y.1 in
        let rest : pages ≡ others = run_same (k + 1) (n + a.steps) pages others x.2 (subst (λ (w : Page). IsRun D plan text quanta (k + 1) (n + w.steps) others) (sym first) y.2) in
        λ i. first i ∷ rest i

    pub run_from : ((k : ℕ) → 1 ≤ quanta k) → (fuel k n : ℕ) → n ≤ steps D plan → steps D plan ≤ n + fuel → (pages : List Page) × IsRun D plan text quanta k n pages
    run_from some zero k n h f = ([], omega (arith, h, f))
    run_from some (suc fuel) k n h f = ⊎_elim
        (λ l.
        let page = page_at n (quanta k) in
        let m = takes_steps D plan text n (quanta k) page.0 l (some k) page.1 in
        let rest = run_from some fuel (k + 1) (n + page.0.steps) (omega (arith, m.end)) (omega (arith, m.some, f)) in
        (page.0 ∷ rest.0, (l, page.1, rest.1)))
        (λ l. ([], omega (arith, l, h)))
        (cases_lt n (steps D plan))

pub one_page : (D : List Triple) (plan : Plan) (text : List ℕ) (n quantum : ℕ) → HasOne (λ page. IsPage D plan text n quantum page)
one_page D plan text n quantum =
    let page = page_at D plan text n quantum in
    record { found = page.0; has = page.1; alone = λ other h. page_same D plan text n quantum other page.0 h page.1 }

pub one_run : (D : List Triple) (plan : Plan) (text : List ℕ) (quanta : ℕ → ℕ) → ((k : ℕ) → 1 ≤ quanta k) → HasOne (λ pages. IsRun D plan text quanta 0 0 pages)
one_run D plan text quanta some =
    let run = run_from D plan text quanta some (steps D plan) 0 0 (omega arith) (omega arith) in
    record { found = run.0; has = run.1; alone = λ others h. run_same D plan text quanta 0 0 others run.0 h run.1 }

-- the pages of several parts
rows_in-append : (pages others : List Page) → rows_in (pages ++ others) ≡ rows_in pages ++ rows_in others
rows_in-append pages others = flat_map-append (λ (page : Page). page.rows) pages others

steps_in-append : (pages others : List Page) → steps_in (pages ++ others) ≡ steps_in pages + steps_in others
steps_in-append [] others = omega arith
steps_in-append (page ∷ pages) others = omega (arith, steps_in-append pages others)

module _ (D : List Triple) (quanta : ℕ → ℕ) (some : (k : ℕ) → 1 ≤ quanta k) where
  run_of_from : (parts : List Part) (k : ℕ) → (pages : List Page) × IsRunOf D parts quanta k pages
  run_of_from [] k = ([], refl)
  run_of_from (part ∷ parts) k =
      let own = run_from D part.plan part.text quanta some (steps D part.plan) k 0 (omega arith) (omega arith) in
      let rest = run_of_from parts (k + length own.0) in
      (own.0 ++ rest.0, (own.0, rest.0, refl, own.1, rest.1))

  run_of_same : (parts : List Part) (k : ℕ) (pages others : List Page) → IsRunOf D parts quanta k pages → IsRunOf D parts quanta k others → pages ≡ others
  run_of_same [] k pages others x y = x ∙ sym y
  run_of_same (part ∷ parts) k pages others (own, rest, is, run, go) (own2, rest2, is2, run2, go2) =
      let first : own ≡ own2 = run_same D part.plan part.text quanta k 0 own own2 run run2 in
      let more : rest ≡ rest2 = run_of_same parts (k + length own) rest rest2 go (subst (λ (w : List Page). IsRunOf D parts quanta (k + length w) rest2) (sym first) go2) in
      is ∙ (λ i. first i ++ more i) ∙ sym is2

  run_of_rows : (parts : List Part) (k : ℕ) (pages : List Page) → IsRunOf D parts quanta k pages → AreAllOf D parts pages
  run_of_rows [] k pages is = record { rows = ap rows_in is; steps_all = ap steps_in is }
  run_of_rows (part ∷ parts) k pages (own, rest, is, run, go) =
      let r : AreAllOf D parts rest = run_of_rows parts (k + length own) rest go in
      let mine : rows_in own ≡ rows_of (trace D part.plan) = followed_rows D part.plan part.text quanta some k 0 own run in
      let own_steps : 0 + steps_in own ≡ steps D part.plan = followed_steps D part.plan part.text quanta some k 0 own run in
      let all_steps : steps_in pages ≡ steps_in own + steps_in rest = ap steps_in is ∙ steps_in-append own rest in
      record {
        rows = ap rows_in is ∙ rows_in-append own rest ∙ (λ i. mine i ++ r.rows i);
        steps_all = omega (arith, all_steps, own_steps, r.steps_all);
      }

pub one_run_of : (D : List Triple) (parts : List Part) (quanta : ℕ → ℕ) → ((k : ℕ) → 1 ≤ quanta k) → HasOne (λ pages. IsRunOf D parts quanta 0 pages)
one_run_of D parts quanta some =
    let run = run_of_from D quanta some parts 0 in
    record { found = run.0; has = run.1; alone = λ others h. run_of_same D quanta some parts 0 others run.0 h run.1 }

pub parts_join : (D : List Triple) (parts : List Part) (quanta : ℕ → ℕ) (pages : List Page) → ((k : ℕ) → 1 ≤ quanta k) → IsRunOf D parts quanta 0 pages → AreAllOf D parts pages
parts_join D parts quanta pages some run = run_of_rows D quanta some parts 0 pages run

-- the quanta of a list that is walked round
pub goes_round : (quanta : List ℕ) → AreQuanta quanta → GoesRound quanta
goes_round quanta are = record {
  first = λ k below. ap (λ place. get_or quanta place 0) (mod-eq_of_lt below);
  again = λ k. ap (λ place. get_or quanta place 0) (add-mod_right k (length quanta));
  some = λ k. are.each (k % length quanta) 0 (mod-lt k are.some);
}
