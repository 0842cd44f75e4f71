use Rattle.std.proofs.Common.{◌≡◌, ◌<◌, ◌≤◌, length, true, false, refl, sym, ap, ◌∙◌, subst}
use Rattle.store_image.specs.declared.header.Header.{Header}
use Rattle.plan_course.specs.Courses.{course_of, join_course, filter_course, bind_course, project_course, union_course, makes, AreRead, IsWide, IsNumbered, Covers, AreKept}
use Rattle.row_cells.specs.Cells.{AreSlots, AreKnown}
use Rattle.sparql_tree.specs.ExprTrees.{tree_of}
use Rattle.preempt_join.specs.Cursors.{HasShape, CursorAt, is_over}
use Rattle.preempt_join.specs.Steps.{IsGivenIn}
use Rattle.preempt_join.proofs.Ends.{advances_at, if_ok_map}
use Rattle.preempt_join.proofs.Moves.{project_advances}
use Rattle.preempt_join.proofs.Found.{shown_stays}
use Rattle.preempt_join.proofs.Arms.{idle_arm, open_arm, second_arm, stays_arm, turns_arm, filter_arm, bind_arm, written_whole, row_wide, held_cells, makes_few}
use Rattle.preempt_join.proofs.Calls.{given_to, join_few, filter_few, bind_few, table_within, table_turn, first_within, second_within, bind_within, project_within, join_reads, sought_same}
use Rattle.preempt_join.proofs.step.+advance.Goals as goal

pub begin-requires-clause-within : goal.begin-requires-clause-within
begin-requires-clause-within g t c =
    given_to _ _ _ _ _ _ _ c.in-Ok.turn c.advance.new.out _ (ap (λ (h : Header). h.terms) c.in-Ok.ensures.kept.header) (ap length c.in-Ok.ensures.own.given) c.in-Ok.ensures.own.made
    (join_few _ _ _ _ _ _ c.in-Join.pattern (ap course_of c.in-Join.is) (ap course_of c.deref.ensures) c.requires.wide)
    (c.as_slice-in-Ok.ensures.value ∙ sym (written_whole c.advance.new.out c.in-Join-at.row.items c.in-Join-at.row.len (sym c.in-Join-at.row.ok.0) (c.in-Ok.ensures.width ∙ ap length c.as_mut_slice.ensures.value)))
    c.in-Ok.ensures.within

pub filtered-requires-clause-within : goal.filtered-requires-clause-within
filtered-requires-clause-within g t c =
    given_to _ _ _ _ _ _ _ c.in-Ok-advance-2.turn c.advance-in-Filter.new.out _ (ap (λ (h : Header). h.terms) c.in-Ok-advance-2.ensures.kept.header) (ap length c.in-Ok-advance-2.ensures.own.given) c.in-Ok-advance-2.ensures.own.made
    (filter_few _ _ _ _ _ _ _ _ (ap course_of c.in-Filter.is) (ap course_of c.deref-in-Filter.ensures) c.requires.wide) refl c.in-Ok-advance-2.ensures.within

pub bound-requires-clause-within : goal.bound-requires-clause-within
bound-requires-clause-within g t c =
    given_to _ _ _ _ _ _ _ c.in-Ok-advance-3.turn c.advance-in-Bind.new.out _ (ap (λ (h : Header). h.terms) c.in-Ok-advance-3.ensures.kept.header) (ap length c.in-Ok-advance-3.ensures.own.given) c.in-Ok-advance-3.ensures.own.made
    (bind_few _ _ _ _ _ _ _ _ _ _ (ap course_of c.in-Bind.is) (ap course_of c.deref-in-Bind.ensures) c.requires.wide) refl c.in-Ok-advance-3.ensures.within

pub returns-in-Table-at-clause-within : goal.returns-in-Table-at-clause-within
returns-in-Table-at-clause-within g t c =
    table_within _ _ _ _ _ _ _ _ _ _ _ _ _ _ (ap course_of c.in-Table.is) c.requires.wide c.as_slice.ensures c.next_row.ensures.width c.next_row.ensures.turn

pub returns-in-Table-at-clause-turn : goal.returns-in-Table-at-clause-turn
returns-in-Table-at-clause-turn g t c = λ D shown sought once num.
    table_turn c.args.names.now D c.args.own.now.given c.args.own.now.made.items _ _ _ _ _ _ _ _ _ _ _ _ c.args.at.now (ap course_of c.in-Table.is) c.in-Table-at.is c.requires.names c.requires.wide c.as_slice.ensures
    c.next_row.ensures.width c.next_row.ensures.turn

pub returns-then-is_some-clause-reads : goal.returns-then-is_some-clause-reads
returns-then-is_some-clause-reads g t c = λ image told.
    join_reads _ _ _ _ _ c.in-Join.pattern (ap course_of c.in-Join.is) (c.go_on.ensures.reads image told)

pub returns-then-is_some-clause-turn : goal.returns-then-is_some-clause-turn
returns-then-is_some-clause-turn g t c = λ D shown sought once num.
    let names = c.args.names.now in
    let given = c.args.own.now.given in
    let made = c.args.own.now.made.items in
    let wide : IsWide (length c.args.out.now) (length given) (length made) (join_course (course_of c.in-Join.left.value) c.in-Join.pattern) = subst (IsWide (length c.args.out.now) (length given) (length made)) (ap course_of c.in-Join.is) c.requires.wide in
    let slots : AreSlots (length names) c.in-Join.pattern = subst (λ w. AreSlots w c.in-Join.pattern) (sym c.requires.names) wide.1.0 in
    if_ok_map _ _ (λ turn h. advances_at names D given made made (ap course_of c.in-Join.is) c.in-Join-at.is h) c.go_on.result
    (open_arm names D given c.in-Join.pattern (course_of c.in-Join.left.value) _ _ c.in-Join-at.below.value c.in-Join-at.row c.as_slice-then-is_some.result.now c.in-Join-at.held c.go_on.new.held made c.go_on.result _
    (sym c.is_some.ensures ∙ c.if-is_some.true) c.as_slice-then-is_some.ensures.value once slots
    (λ before is. held_cells names D given made _ _ _ _ (length made) _ _ c.in-Join.pattern _ _ _ c.in-Join-at.row c.in-Join-at.held before (ap course_of c.in-Join.is) c.in-Join-at.is is c.requires.shape (sym c.requires.names)
    shown.shows.dictionary.terms refl (makes_few (length c.args.out.now) (length given) (length made) (course_of c.in-Join.left.value) wide.0))
    (λ k before is h. c.go_on.ensures.turn D k shown before is h))

pub returns-in-Ok-clause-sought : goal.returns-in-Ok-clause-sought
returns-in-Ok-clause-sought g t c = λ D shown sought.
    c.begin.ensures.sought D (shown_stays c.args.store.now c.advance.new.store D c.in-Ok.ensures.kept shown) (c.in-Ok.ensures.sought D shown sought)

pub returns-in-Ok-clause-turn : goal.returns-in-Ok-clause-turn
returns-in-Ok-clause-turn g t c = λ D shown sought once num.
    let names = c.args.names.now in
    let given = c.args.own.now.given in
    let made = c.args.own.now.made.items in
    let num2 : IsNumbered names (course_of c.in-Join.left.value) = subst (IsNumbered names) (ap course_of c.in-Join.is) num in
    let adv = c.in-Ok.ensures.turn D shown sought once (subst (λ p. IsNumbered names (course_of p)) (sym c.deref.ensures) num2) in
    let written = written_whole c.advance.new.out c.in-Join-at.row.items c.in-Join-at.row.len (sym c.in-Join-at.row.ok.0) (c.in-Ok.ensures.width ∙ ap length c.as_mut_slice.ensures.value) in
    let wide = row_wide _ _ _ _ _ _ c.in-Join.pattern _ _ _ c.in-Join-at.row c.in-Join-at.held (ap course_of c.in-Join.is) c.in-Join-at.is c.requires.shape in
    let width = c.requires.names ∙ sym wide ∙ ap length (sym c.as_mut_slice.ensures.value) ∙ sym c.in-Ok.ensures.width ∙ ap length written ∙ ap length (sym c.as_slice-in-Ok.ensures.value) in
    if_ok_map _ _ (λ turn h. advances_at names D given made c.begin.new.own.made.items (ap course_of c.in-Join.is) c.in-Join-at.is h) c.begin.result
    (idle_arm names D given c.advance.new.own.given c.in-Join.pattern (course_of c.in-Join.left.value) _ _ _ _ c.in-Join-at.row _ c.as_slice-in-Ok.result.now c.advance.new.out c.in-Join-at.held c.begin.new.held
    made c.advance.new.own.made.items c.begin.new.own.made.items c.in-Ok.turn c.begin.result _ c.in-Ok.ensures.own.given c.begin.ensures.own.made c.as_slice-in-Ok.ensures.value written (sym c.is_some.ensures ∙ c.if-is_some.false)
    c.begin.ensures.turn
    (c.begin.ensures.opens names D (shown_stays c.args.store.now c.advance.new.store D c.in-Ok.ensures.kept shown) (c.in-Ok.ensures.sought D shown sought) once width)
    (advances_at names D given made c.advance.new.own.made.items (sym (ap course_of c.deref.ensures)) (sym c.deref_mut.ensures.value) adv))

pub returns-then-on_second-clause-within : goal.returns-then-on_second-clause-within
returns-then-on_second-clause-within g t c =
    if_ok_map _ _ (λ turn h. second_within _ _ _ _ _ _ turn _ (ap course_of c.in-Union.is) (ap course_of c.deref-then-on_second.ensures) h) c.advance-then-on_second.result c.advance-then-on_second.ensures.within

pub returns-then-on_second-clause-turn : goal.returns-then-on_second-clause-turn
returns-then-on_second-clause-turn g t c = λ D shown sought once num.
    let names = c.args.names.now in
    let given = c.args.own.now.given in
    let made = c.args.own.now.made.items in
    let made2 = c.advance-then-on_second.new.own.made.items in
    let num2 : IsNumbered names (union_course (course_of c.in-Union.first.value) (course_of c.in-Union.second.value)) = subst (IsNumbered names) (ap course_of c.in-Union.is) num in
    if_ok_map _ _ (λ turn h. advances_at names D given made made2 (ap course_of c.in-Union.is) c.in-Union-at.is
    (second_arm names D given (course_of c.in-Union.first.value) (course_of c.in-Union.second.value) _ _ _ _ c.in-Union-at.on_second made made2 turn _ c.if-on_second.true
    (advances_at names D given made made2 (sym (ap course_of c.deref-then-on_second.ensures)) (sym c.deref_mut-then-on_second.ensures.value) h)))
    c.advance-then-on_second.result
    (c.advance-then-on_second.ensures.turn D shown sought once (subst (λ p. IsNumbered names (course_of p)) (sym c.deref-then-on_second.ensures) num2.1))

pub returns-in-Ok-fresh-clause-within : goal.returns-in-Ok-fresh-clause-within
returns-in-Ok-fresh-clause-within g t c =
    first_within _ _ _ _ _ _ c.in-Ok-advance.turn _ (ap course_of c.in-Union.is) (ap course_of c.deref-else-on_second.ensures) c.in-Ok-advance.ensures.within

pub returns-in-Ok-fresh-clause-turn : goal.returns-in-Ok-fresh-clause-turn
returns-in-Ok-fresh-clause-turn g t c = λ D shown sought once num.
    let names = c.args.names.now in
    let given = c.args.own.now.given in
    let made = c.args.own.now.made.items in
    let made2 = c.advance-else-on_second.new.own.made.items in
    let num2 : IsNumbered names (union_course (course_of c.in-Union.first.value) (course_of c.in-Union.second.value)) = subst (IsNumbered names) (ap course_of c.in-Union.is) num in
    let over : is_over c.advance-else-on_second.new.at ≡ true = ap is_over (sym c.deref-in-Ok-advance.ensures) ∙ sym c.is_over.ensures ∙ c.if-is_over.true in
    let adv = c.in-Ok-advance.ensures.turn D shown sought once (subst (λ p. IsNumbered names (course_of p)) (sym c.deref-else-on_second.ensures) num2.0) in
    let begun = subst (λ p. CursorAt names D given made2 (course_of p) c.in-Ok-fresh.next 0) c.deref-then-is_over.ensures (c.in-Ok-fresh.ensures.at names D given made2) in
    advances_at names D given made made2 (ap course_of c.in-Union.is) c.in-Union-at.is
    (turns_arm names D given (course_of c.in-Union.first.value) (course_of c.in-Union.second.value) _ _ _ _ _ c.in-Union-at.on_second made made2 c.in-Ok-advance.turn _ c.if-on_second.false over begun
    (advances_at names D given made made2 (sym (ap course_of c.deref-else-on_second.ensures)) (sym c.deref_mut-else-on_second.ensures.value) adv))

pub returns-else-is_over-clause-within : goal.returns-else-is_over-clause-within
returns-else-is_over-clause-within g t c =
    first_within _ _ _ _ _ _ c.in-Ok-advance.turn _ (ap course_of c.in-Union.is) (ap course_of c.deref-else-on_second.ensures) c.in-Ok-advance.ensures.within

pub returns-else-is_over-clause-turn : goal.returns-else-is_over-clause-turn
returns-else-is_over-clause-turn g t c = λ D shown sought once num.
    let names = c.args.names.now in
    let given = c.args.own.now.given in
    let made = c.args.own.now.made.items in
    let made2 = c.advance-else-on_second.new.own.made.items in
    let num2 : IsNumbered names (union_course (course_of c.in-Union.first.value) (course_of c.in-Union.second.value)) = subst (IsNumbered names) (ap course_of c.in-Union.is) num in
    let over : is_over c.advance-else-on_second.new.at ≡ false = ap is_over (sym c.deref-in-Ok-advance.ensures) ∙ sym c.is_over.ensures ∙ c.if-is_over.false in
    let adv = c.in-Ok-advance.ensures.turn D shown sought once (subst (λ p. IsNumbered names (course_of p)) (sym c.deref-else-on_second.ensures) num2.0) in
    advances_at names D given made made2 (ap course_of c.in-Union.is) c.in-Union-at.is
    (stays_arm names D given (course_of c.in-Union.first.value) (course_of c.in-Union.second.value) _ _ _ _ c.in-Union-at.on_second made made2 c.in-Ok-advance.turn _ c.if-on_second.false over
    (advances_at names D given made made2 (sym (ap course_of c.deref-else-on_second.ensures)) (sym c.deref_mut-else-on_second.ensures.value) adv))

pub returns-in-Ok-advance-2-clause-turn : goal.returns-in-Ok-advance-2-clause-turn
returns-in-Ok-advance-2-clause-turn g t c = λ D shown sought once num.
    let names = c.args.names.now in
    let given = c.args.own.now.given in
    let made = c.args.own.now.made.items in
    let made2 = c.advance-in-Filter.new.own.made.items in
    let inner = course_of c.in-Filter.inner.value in
    let num2 : IsNumbered names (filter_course inner c.in-Filter.reads (tree_of c.in-Filter.condition)) = subst (IsNumbered names) (ap course_of c.in-Filter.is) num in
    let wide : IsWide (length c.args.out.now) (length given) (length made) (filter_course inner c.in-Filter.reads (tree_of c.in-Filter.condition)) = subst (IsWide (length c.args.out.now) (length given) (length made)) (ap course_of c.in-Filter.is) c.requires.wide in
    let read = subst (λ w. AreRead w c.in-Filter.reads) (sym c.requires.names) wide.1 in
    let adv = c.in-Ok-advance-2.ensures.turn D shown sought once (subst (λ p. IsNumbered names (course_of p)) (sym c.deref-in-Filter.ensures) num2.0) in
    if_ok_map _ _ (λ turn h. advances_at names D given made made2 (ap course_of c.in-Filter.is) refl h) c.filtered.result
    (filter_arm names D given c.advance-in-Filter.new.own.given made made2 c.in-Filter.reads c.as_slice-in-Ok-advance-2.result.now (tree_of c.in-Filter.condition) inner _ _ c.in-Ok-advance-2.turn _ c.filtered.result
    c.in-Ok-advance-2.ensures.own.given c.as_slice-in-Ok-advance-2.ensures once read num2.1
    (c.filtered.ensures.turn D (shown_stays c.args.store.now c.advance-in-Filter.new.store D c.in-Ok-advance-2.ensures.kept shown))
    (advances_at names D given made made2 (sym (ap course_of c.deref-in-Filter.ensures)) refl adv))

pub returns-in-Ok-advance-3-clause-within : goal.returns-in-Ok-advance-3-clause-within
returns-in-Ok-advance-3-clause-within g t c =
    if_ok_map _ _ (λ turn same. bind_within _ _ _ _ _ _ _ _ _ _ _ c.in-Ok-advance-3.turn turn c.advance-in-Bind.new.out _ (ap course_of c.in-Bind.is) (ap course_of c.deref-in-Bind.ensures) c.requires.wide
    c.in-Ok-advance-3.ensures.within same (λ made lt h. c.bound.ensures.within _ _ made lt h)) c.bound.result c.bound.ensures.same

pub returns-in-Ok-advance-3-clause-sought : goal.returns-in-Ok-advance-3-clause-sought
returns-in-Ok-advance-3-clause-sought g t c = λ D shown sought.
    sought_same D.terms c.advance-in-Bind.new.own c.bound.new.own c.bound.ensures.ranks c.bound.ensures.own.given (c.in-Ok-advance-3.ensures.sought D shown sought)

pub returns-in-Ok-advance-3-clause-turn : goal.returns-in-Ok-advance-3-clause-turn
returns-in-Ok-advance-3-clause-turn g t c = λ D shown sought once num.
    let names = c.args.names.now in
    let given = c.args.own.now.given in
    let made = c.args.own.now.made.items in
    let made2 = c.advance-in-Bind.new.own.made.items in
    let inner = course_of c.in-Bind.inner.value in
    let mine = bind_course inner c.in-Bind.slot c.in-Bind.place c.in-Bind.reads (tree_of c.in-Bind.value) in
    let num2 : IsNumbered names mine = subst (IsNumbered names) (ap course_of c.in-Bind.is) num in
    let wide : IsWide (length names) (length given) (length made) mine = subst (λ w. IsWide w (length given) (length made) mine) (sym c.requires.names) (subst (IsWide (length c.args.out.now) (length given) (length made)) (ap course_of c.in-Bind.is) c.requires.wide) in
    let shape : HasShape c.args.store.now.header.triples c.args.store.now.header.terms (length names) (length given) inner c.advance-in-Bind.new.at =
    subst (λ w. HasShape c.args.store.now.header.triples c.args.store.now.header.terms w (length given) inner c.advance-in-Bind.new.at) (sym c.requires.names)
    (subst (λ p. HasShape c.args.store.now.header.triples c.args.store.now.header.terms (length c.args.out.now) (length given) (course_of p) c.advance-in-Bind.new.at) c.deref-in-Bind.ensures c.in-Ok-advance-3.ensures.shape) in
    let within : IsGivenIn c.in-Ok-advance-3.turn c.args.store.now.header.terms (length given) (makes inner) c.advance-in-Bind.new.out =
    subst (λ p. IsGivenIn c.in-Ok-advance-3.turn c.args.store.now.header.terms (length given) (makes (course_of p)) c.advance-in-Bind.new.out) c.deref-in-Bind.ensures c.in-Ok-advance-3.ensures.within in
    let place : c.in-Bind.place < length made2 = subst (λ k. c.in-Bind.place < k) (sym c.in-Ok-advance-3.ensures.own.made) wide.1.1.0 in
    let adv = c.in-Ok-advance-3.ensures.turn D shown sought once (subst (λ p. IsNumbered names (course_of p)) (sym c.deref-in-Bind.ensures) num2.0) in
    if_ok_map _ _ (λ turn h. advances_at names D given made c.bound.new.own.made.items (ap course_of c.in-Bind.is) refl h) c.bound.result
    (bind_arm names D given c.advance-in-Bind.new.own.given made made2 c.bound.new.own.made.items c.in-Bind.reads c.as_slice-in-Ok-advance-3.result.now (tree_of c.in-Bind.value) c.in-Bind.slot c.in-Bind.place inner _ _
    c.in-Ok-advance-3.turn _ _ c.bound.result _ _ _ (length made) c.in-Ok-advance-3.ensures.own.given c.as_slice-in-Ok-advance-3.ensures once wide.1.1.1.1 num2.1 wide.1.0
    (c.in-Ok-advance-3.ensures.width ∙ sym c.requires.names) place wide.0 shape wide.1.1.1.0 within c.bound.ensures.same
    (c.bound.ensures.value D (shown_stays c.args.store.now c.advance-in-Bind.new.store D c.in-Ok-advance-3.ensures.kept shown))
    (advances_at names D given made made2 (sym (ap course_of c.deref-in-Bind.ensures)) refl adv))

pub returns-in-Ok-advance-4-clause-within : goal.returns-in-Ok-advance-4-clause-within
returns-in-Ok-advance-4-clause-within g t c =
    project_within _ _ _ _ _ _ _ _ c.in-Ok-advance-4.turn c.advance-in-Project.new.out _ (ap course_of c.in-Project.is) (ap course_of c.deref-in-Project.ensures) c.free_others.ensures.freed c.in-Ok-advance-4.ensures.within

pub returns-in-Ok-advance-4-clause-turn : goal.returns-in-Ok-advance-4-clause-turn
returns-in-Ok-advance-4-clause-turn g t c = λ D shown sought once num.
    let names = c.args.names.now in
    let given = c.args.own.now.given in
    let made = c.args.own.now.made.items in
    let made2 = c.advance-in-Project.new.own.made.items in
    let inner = course_of c.in-Project.inner.value in
    let num2 : IsNumbered names (project_course inner c.in-Project.variables c.in-Project.kept) = subst (IsNumbered names) (ap course_of c.in-Project.is) num in
    let kept : AreKept names c.in-Project.variables c.as_slice-in-Ok-advance-4.result.now = subst (AreKept names c.in-Project.variables) (sym c.as_slice-in-Ok-advance-4.ensures) num2.1 in
    let adv = c.in-Ok-advance-4.ensures.turn D shown sought once (subst (λ p. IsNumbered names (course_of p)) (sym c.deref-in-Project.ensures) num2.0) in
    advances_at names D given made made2 (ap course_of c.in-Project.is ∙ ap (project_course inner c.in-Project.variables) (sym c.as_slice-in-Ok-advance-4.ensures)) refl
    (project_advances names D given made made2 c.in-Project.variables c.as_slice-in-Ok-advance-4.result.now once kept inner _ _ c.in-Ok-advance-4.turn c.advance-in-Project.new.out _ c.free_others.ensures.freed
    (advances_at names D given made made2 (sym (ap course_of c.deref-in-Project.ensures)) refl adv))
