use Rattle.std.proofs.Common.{◌≡◌, ◌∷◌, [], ◌++◌, List, Some, arith, sym, ap, ◌∙◌, subst}
use Rattle.std.specs.Prelude.{slice_get}
use Rattle.std.specs.BTreeMap.{get_by_text}
use Rattle.std.proofs.lemmas.Grind.{common_steps}
use Rattle.std.proofs.lemmas.Map.Text.{btree_map_updates_text}
use Rattle.term_core.specs.Mappings.{Name}
use Rattle.plan_course.proofs.Places.{push_left, push_last, named_more, told_more}
use Rattle.plan_course.proofs.numbering.Numbering.add_name.Goals as goal

pub returns-clause-grown : goal.returns-clause-grown
returns-clause-grown c =
    let names = c.args.self.now.names in
    let get = get_by_text c.args.self.now.slots in
    let key = c.in_ok-key.key.bytes.items in
    let same : key ≡ c.args.name.now = grind (arith, common_steps) in
    let pushed : c.push.new.self ≡ names ++ c.args.name.now ∷ [] = c.in_ok-push.ensures.ok ∙ ap (λ (w : Name). names ++ w ∷ []) c.in_ok-copy.ensures in
    let updates = btree_map_updates_text key c.args.self.now.slots c.insert.new.self _ c.in_ok-insert.ensures.updates in
    record {
      tells = record {
        named = λ name k e.
            subst (λ (w : List Name). slice_get w k ≡ Some name) (sym pushed)
            (named_more names get key c.args.name.now c.len-slot.result same c.len-slot.ensures c.requires.tells.named name k (sym (updates name) ∙ e));
        told = λ name k e.
            updates name
            ∙ told_more names get key c.args.name.now c.len-slot.result same c.len-slot.ensures c.requires.missing c.requires.tells.told name k
            (subst (λ (w : List Name). slice_get w k ≡ Some name) pushed e);
      };
      names = λ k name e. subst (λ (w : List Name). slice_get w k ≡ Some name) (sym pushed) (push_left names (c.args.name.now ∷ []) k name e);
      given = λ k term e. e;
      made = omega arith;
    }

pub returns-clause-slot : goal.returns-clause-slot
returns-clause-slot c =
    let names = c.args.self.now.names in
    let pushed : c.push.new.self ≡ names ++ c.args.name.now ∷ [] = c.in_ok-push.ensures.ok ∙ ap (λ (w : Name). names ++ w ∷ []) c.in_ok-copy.ensures in
    ap (λ (w : List Name). slice_get w c.len-slot.result) pushed ∙ ap (slice_get (names ++ c.args.name.now ∷ [])) c.len-slot.ensures ∙ push_last names c.args.name.now
