use Rattle.std.proofs.Common.{◌≡◌, ◌+◌, drop, length-drop, [], ◌∷◌, refl, sym, subst, ap, arith}
use Rattle.std.proofs.lemmas.List.{append-nil}
use Rattle.term_core.specs.Tokens.{Lexes, stop, token}
use Rattle.sparql_lex.proofs.Places.{width-on, goes-on}
use Rattle.sparql_lex.proofs.Widths.{width-parts}
use Rattle.sparql_lex.proofs.lexing.lex.Goals as goal

pub fronts-init : goal.fronts-init
fronts-init c =
    let e : [] ≡ c.new-found.result = cc in
    record { within = omega arith; place = refl; cut = subst (λ v. Lexes 0 c.args.text.now v 0 c.args.text.now) e stop; known = λ i low high. absurd (omega arith) }

pub overflow_add-at : goal.overflow_add-at
overflow_add-at c =
    omega (arith, c.width_at-at.ensures, c.fronts.invariant.place, width-parts c.fronts.index c.args.text.now, width-parts c.in-Skip.n (drop c.fronts.index c.args.text.now))

pub fronts-preserved-in-Skip : goal.fronts-preserved-in-Skip
fronts-preserved-in-Skip c =
    let h = c.in-Skip.ensures.found in
    let text = c.args.text.now in
    let rest = drop c.fronts.index text in
    let bytes = ap (λ v. c.fronts.at + v) (sym c.width_at-at.ensures) in
    let step = subst (λ v. Lexes c.fronts.at rest [] v (drop c.in-Skip.n rest)) bytes (h.2 c.fronts.at) in
    record {
      within = omega (arith, h.1, length-drop c.fronts.index text);
      place = omega (arith, c.width_at-at.ensures, c.fronts.invariant.place, width-on c.fronts.index c.in-Skip.n text);
      cut = goes-on text c.fronts.found [] c.fronts.found c.fronts.at c.fronts.index c.in-Skip.n c.width_at-at.result c.fronts.invariant.cut step (sym (append-nil c.fronts.found));
      known = λ i low high. c.in-Skip.ensures.sound i (omega (arith, low)) high;
    }

pub overflow_add-to : goal.overflow_add-to
overflow_add-to c =
    omega (arith, c.width_at.ensures, c.fronts.invariant.place, width-parts c.fronts.index c.args.text.now, width-parts c.in-Next.n (drop c.fronts.index c.args.text.now))

pub fronts-preserved : goal.fronts-preserved
fronts-preserved c =
    let h = c.in-Next.ensures.found in
    let text = c.args.text.now in
    let rest = drop c.fronts.index text in
    let bytes = ap (λ v. c.fronts.at + v) (sym c.width_at.ensures) in
    let step = subst (λ v. Lexes c.fronts.at rest (token c.in-Next.kind c.fronts.at v ∷ []) v (drop c.in-Next.n rest)) bytes (h.2 c.fronts.at) in
    record {
      within = omega (arith, h.1, length-drop c.fronts.index text);
      place = omega (arith, c.width_at.ensures, c.fronts.invariant.place, width-on c.fronts.index c.in-Next.n text);
      cut = goes-on text c.fronts.found _ c.push.new.self c.fronts.at c.fronts.index c.in-Next.n c.width_at.result c.fronts.invariant.cut step c.in_ok-push-in-Next.ensures.ok;
      known = λ i low high. c.in-Next.ensures.sound i (omega (arith, low)) high;
    }
