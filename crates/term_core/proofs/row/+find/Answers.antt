use Rattle.std.proofs.Common.{◌≡◌, ◌∙◌, ◌++◌, ◌∷◌, [], ap, sym, subst, arith, ◌<◌, length}
use Rattle.std.specs.FinMap as map
use Rattle.term_core.specs.Order.{bytes_cmp}
use Rattle.term_core.specs.Rows.{AreSorted}
use Rattle.term_core.proofs.Halves.{sorted_front, sorted_back, found_front, found_here, found_back}
use Rattle.term_core.proofs.row.+find.Goals as goal

pub find-requires : goal.find-requires
find-requires t c =
    let shorter : length c.split_at.result.0.now < t = omega (arith, c.decreases, c.split_at.ensures.front_len, c.split_at.ensures.back_len, c.in-Some.ensures.cases.1) in
    (shorter, sorted_front c.split_at.result.0.now c.split_at.result.1.now (subst AreSorted c.split_at.ensures.by_index.0 c.requires))

pub find-requires-in-Greater : goal.find-requires-in-Greater
find-requires-in-Greater t c =
    let shorter : length c.in-Some.after.now < t = omega (arith, c.decreases, c.split_at.ensures.back_len, c.in-Some.ensures.cases.1) in
    let back = sorted_back c.split_at.result.0.now c.split_at.result.1.now (subst AreSorted c.split_at.ensures.by_index.0 c.requires) in
    (shorter, sorted_back (c.in-Some.entry.now ∷ []) c.in-Some.after.now (subst AreSorted c.in-Some.ensures.cases.0 back))

pub returns-in-Equal : goal.returns-in-Equal
returns-in-Equal t c =
    let is : c.args.entries.now ≡ c.split_at.result.0.now ++ c.in-Some.entry.now ∷ c.in-Some.after.now =
    c.split_at.ensures.by_index.0 ∙ ap (λ es. c.split_at.result.0.now ++ es) c.in-Some.ensures.cases.0 in
    let tied = ap (bytes_cmp c.args.name.now) (sym c.bytes.ensures.same) ∙ sym c.cmp.ensures ∙ c.in-Equal.is in
    sym (ap (map.find bytes_cmp c.args.name.now) is
    ∙ found_here c.args.name.now c.split_at.result.0.now c.in-Some.after.now c.in-Some.entry.now (subst AreSorted is c.requires) tied)

pub returns-in-Less : goal.returns-in-Less
returns-in-Less t c =
    let is : c.args.entries.now ≡ c.split_at.result.0.now ++ c.in-Some.entry.now ∷ c.in-Some.after.now =
    c.split_at.ensures.by_index.0 ∙ ap (λ es. c.split_at.result.0.now ++ es) c.in-Some.ensures.cases.0 in
    let below = ap (bytes_cmp c.args.name.now) (sym c.bytes.ensures.same) ∙ sym c.cmp.ensures ∙ c.in-Less.is in
    c.find.ensures ∙ sym (ap (map.find bytes_cmp c.args.name.now) is
    ∙ found_front c.args.name.now c.split_at.result.0.now c.in-Some.after.now c.in-Some.entry.now (subst AreSorted is c.requires) below)

pub returns-in-Greater : goal.returns-in-Greater
returns-in-Greater t c =
    let is : c.args.entries.now ≡ c.split_at.result.0.now ++ c.in-Some.entry.now ∷ c.in-Some.after.now =
    c.split_at.ensures.by_index.0 ∙ ap (λ es. c.split_at.result.0.now ++ es) c.in-Some.ensures.cases.0 in
    let above = ap (bytes_cmp c.args.name.now) (sym c.bytes.ensures.same) ∙ sym c.cmp.ensures ∙ c.in-Greater.is in
    c.find-in-Greater.ensures ∙ sym (ap (map.find bytes_cmp c.args.name.now) is
    ∙ found_back c.args.name.now c.split_at.result.0.now c.in-Some.after.now c.in-Some.entry.now (subst AreSorted is c.requires) above)
