-- The first breach at marks, by the numbers of basic graph patterns.
use Rattle.std.proofs.Common.{◌≡◌, ◌≤◌, ◌<◌, ◌+◌, ◌++◌, ◌∷◌, [], ℕ, Bool, true, false, List, Option, Some, None, length, get_or, drop, inl, inr, refl, sym, ap, ◌∙◌, arith}
use Rattle.std.specs.Prelude.{not, ◌==◌, ◌||◌, ◌&&◌, if◌then◌else◌}
use Rattle.std.proofs.Math.ListN.{drop_of_length-le}
use Rattle.std.proofs.lemmas.Bool.{eq-eqb}
use Rattle.std.proofs.lemmas.Bool.Decides.{eqb_tells}
use Rattle.std.proofs.lemmas.List.{drop_more}
use Rattle.std.proofs.lemmas.List.Folds.{list_any-append}
use Rattle.term_core.specs.Mappings.{Name, has_name, same_name}
use Rattle.term_core.proofs.Merges.{names_same}
use Rattle.term_core.specs.Patterns.{label_name}
use Rattle.sparql_tree.specs.Breaches.{variable_name, breach_if, mark_breaches, first_name}
use Rattle.sparql_scope.specs.Numbers.{is_other, numbered}
use Rattle.sparql_tree.specs.declared.mark.Mark.{Mark}
use Rattle.sparql_tree.specs.declared.mark.Mark.TheVariants as marks

-- the first breach, where each label has the number of the basic graph pattern that it stands in
abbrev pub judged : (Name → Option ℕ) → ℕ → List Mark → Option Name
judged numbers current [] = None
judged numbers current (marks.Edge ∷ rest) = judged numbers (current + 1) rest
judged numbers current (marks.Label name ∷ rest) =
    if is_other current (numbers name) then Some (label_name name) else judged (λ other. numbered (same_name other name) current (numbers other)) current rest
judged numbers current (marks.Again name ∷ rest) = Some (variable_name name)

-- the same numbers judge the same
pub same_judged : (a b : Name → Option ℕ) (current : ℕ) (ms : List Mark) → ((name : Name) → a name ≡ b name) → judged a current ms ≡ judged b current ms
same_judged a b current ms same = ap (λ numbers. judged numbers current ms) (λ i name. same name i)

-- whether it is this number
abbrev is_this : ℕ → Option ℕ → Bool
is_this current None = false
is_this current (Some number) = number == current

-- the numbers are those of labels in patterns that have ended, and in the one that goes on
record Stands (numbers : Name → Option ℕ) (current : ℕ) (ended going : List Name) : Type 0 where
  in_ended : (name : Name) → is_other current (numbers name) ≡ has_name ended name
  in_going : (name : Name) → is_this current (numbers name) ≡ has_name going name
  bounded : (name : Name) (number : ℕ) → numbers name ≡ Some number → number ≤ current

above : (number current : ℕ) → number ≤ current → (number == (current + 1)) ≡ false
above n c h = elim (eqb_tells n (c + 1)) [
  | inl p ↦ let same : n ≡ c + 1 = p.1 in absurd (omega (arith, same, h))
  | inr p ↦ p.0
]

itself : (n : ℕ) → (n == n) ≡ true
itself n = eq-eqb n n refl

either : (b : Bool) → (not b || b) ≡ true
either true = refl
either false = refl

-- where the pattern ends
ended_more : (o : Option ℕ) (current : ℕ) (e g : Bool) → ((number : ℕ) → o ≡ Some number → number ≤ current) → is_other current o ≡ e → is_this current o ≡ g → is_other (current + 1) o ≡ (e || g)
ended_more None current e g h p q = ap (λ b. b || false) p ∙ ap (λ b. e || b) q
ended_more (Some n) current e g h p q =
    ap not (above n current (h n refl)) ∙ sym (either (n == current)) ∙ (ap (λ b. b || (n == current)) p ∙ ap (λ b. e || b) q)

none_going : (o : Option ℕ) (current : ℕ) → ((number : ℕ) → o ≡ Some number → number ≤ current) → is_this (current + 1) o ≡ false
none_going None current h = refl
none_going (Some n) current h = above n current (h n refl)

edge : (numbers : Name → Option ℕ) (current : ℕ) (ended going : List Name) → Stands numbers current ended going → Stands numbers (current + 1) (ended ++ going) []
edge numbers current ended going s = record {
  in_ended = λ name. ended_more (numbers name) current _ _ (s.bounded name) (s.in_ended name) (s.in_going name) ∙ sym (list_any-append (same_name name) ended going);
  in_going = λ name. none_going (numbers name) current (s.bounded name);
  bounded = λ name number e. let h = s.bounded name number e in omega (arith, h);
}

-- where a label is numbered
ended_same : (o : Option ℕ) (here : Bool) (current : ℕ) → is_other current (numbered here current o) ≡ is_other current o
ended_same (Some n) here current = refl
ended_same None true current = ap not (itself current)
ended_same None false current = refl

going_more : (o : Option ℕ) (here : Bool) (current : ℕ) → (here ≡ true → is_other current o ≡ false) → is_this current (numbered here current o) ≡ (is_this current o || (here || false))
going_more None true current h = itself current
going_more None false current h = refl
going_more (Some n) true current h = this (n == current) (h refl)
  where
    this : (b : Bool) → not b ≡ false → b ≡ (b || true)
    this true e = refl
    this false e = absurd (cc)
going_more (Some n) false current h = rest (n == current)
  where
    rest : (b : Bool) → b ≡ (b || false)
    rest true = refl
    rest false = refl

bounded_more : (o : Option ℕ) (here : Bool) (current number : ℕ) → ((n : ℕ) → o ≡ Some n → n ≤ current) → numbered here current o ≡ Some number → number ≤ current
bounded_more (Some n) here current number h e = h number e
bounded_more None true current number h e = let is : current ≡ number = cc e in omega (arith, is)
bounded_more None false current number h e = absurd (cc)

labelled : (numbers : Name → Option ℕ) (current : ℕ) (ended going : List Name) (name : Name) → is_other current (numbers name) ≡ false → Stands numbers current ended going
    → Stands (λ other. numbered (same_name other name) current (numbers other)) current ended (going ++ name ∷ [])
labelled numbers current ended going name new s = record {
  in_ended = λ other. ended_same (numbers other) (same_name other name) current ∙ s.in_ended other;
  in_going = λ other.
      going_more (numbers other) (same_name other name) current (λ same. ap (λ n. is_other current (numbers n)) (names_same other name same) ∙ new)
      ∙ (ap (λ b. b || (same_name other name || false)) (s.in_going other) ∙ sym (list_any-append (same_name other) going (name ∷ [])));
  bounded = λ other number e. bounded_more (numbers other) (same_name other name) current number (s.bounded other) e;
}

other_not_this : (current : ℕ) (o : Option ℕ) → is_other current o ≡ true → is_this current o ≡ false
other_not_this current None e = absurd (cc)
other_not_this current (Some n) e = flipped (n == current) e
  where
    flipped : (b : Bool) → not b ≡ true → b ≡ false
    flipped true h = absurd (cc)
    flipped false h = refl

-- at a label: what is left decides, unless it stands in another pattern
label_judged : (name : Name) (current : ℕ) (o : Option ℕ) (left : Option Name) (next : List Name) (e g : Bool) → is_other current o ≡ e → is_this current o ≡ g
    → (is_other current o ≡ false → left ≡ first_name next)
    → (if is_other current o then Some (label_name name) else left) ≡ first_name (breach_if (e && not g) (label_name name) ++ next)
label_judged name current o left next true g p q more =
    let going_is : g ≡ false = sym q ∙ other_not_this current o p in
    ap (λ b. if b then Some (label_name name) else left) p ∙ sym (ap (λ b. first_name (breach_if (not b) (label_name name) ++ next)) going_is)
label_judged name current o left next false g p q more =
    ap (λ b. if b then Some (label_name name) else left) p ∙ more p

judged_from : (ms : List Mark) (numbers : Name → Option ℕ) (current : ℕ) (ended going : List Name) → Stands numbers current ended going → judged numbers current ms ≡ first_name (mark_breaches ended going ms)
judged_from [] numbers current ended going s = refl
judged_from (marks.Edge ∷ rest) numbers current ended going s = judged_from rest numbers (current + 1) (ended ++ going) [] (edge numbers current ended going s)
judged_from (marks.Again name ∷ rest) numbers current ended going s = refl
judged_from (marks.Label name ∷ rest) numbers current ended going s =
    label_judged name current (numbers name) _ _ _ _ (s.in_ended name) (s.in_going name)
    (λ new. judged_from rest _ current ended (going ++ name ∷ []) (labelled numbers current ended going name new s))

-- with no label numbered, it is the first breach at the marks
pub judged_is : (ms : List Mark) → judged (λ name. None) 0 ms ≡ first_name (mark_breaches [] [] ms)
judged_is ms = judged_from ms (λ name. None) 0 [] [] (record { in_ended = λ name. refl; in_going = λ name. refl; bounded = λ name number e. absurd (cc) })

-- at a mark that is read: it and those behind it decide
pub at_mark : (numbers : Name → Option ℕ) (current : ℕ) (ms : List Mark) (i : ℕ) (mark d : Mark) → i < length ms → mark ≡ get_or ms i d
    → judged numbers current (drop i ms) ≡ judged numbers current (mark ∷ drop (i + 1) ms)
at_mark numbers current ms i mark d small is =
    ap (judged numbers current) (drop_more ms i d small ∙ ap (λ m. m ∷ drop (i + 1) ms) (sym is))

-- behind all marks
pub at_end : (numbers : Name → Option ℕ) (current : ℕ) (ms : List Mark) (i : ℕ) → length ms ≤ i → judged numbers current (drop i ms) ≡ None
at_end numbers current ms i large = ap (judged numbers current) (drop_of_length-le ms large)

-- a label of another pattern is a breach
pub at_other : (numbers : Name → Option ℕ) (current : ℕ) (name : Name) (rest : List Mark) → is_other current (numbers name) ≡ true
    → judged numbers current (marks.Label name ∷ rest) ≡ Some (label_name name)
at_other numbers current name rest e = ap (λ b. if b then Some (label_name name) else judged (λ other. numbered (same_name other name) current (numbers other)) current rest) e
