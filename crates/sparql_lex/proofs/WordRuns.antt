-- A word is found where no prefix begins.
use Rattle.std.proofs.Common.{◌≡◌, ℕ, zero, suc, ◌+◌, ◌-◌, ◌<◌, Bool, true, false, cond, List, [], ◌∷◌, drop, Some, None, refl, subst, ap, ◌∙◌, arith}
use Rattle.std.specs.Prelude.{◌==◌, ◌&&◌, ◌||◌}
use Rattle.std.proofs.lemmas.List.{drop-drop}
use Rattle.term_core.specs.Characters.{is_letter, is_pn}
use Rattle.term_core.specs.Terminals.{is_word_part}
use Rattle.term_core.specs.declared.token.Kind.TheVariants as kinds
use Rattle.sparql_lex.specs.declared.state.State.{State}
use Rattle.sparql_lex.specs.declared.state.State.TheVariants as states
use Rattle.sparql_lex.specs.declared.state.Name.TheVariants as names
use Rattle.sparql_lex.specs.Steps.{step}
use Rattle.sparql_lex.specs.Scan.{Found, run, scan, longest}
use Rattle.sparql_lex.specs.Names.{ends_prefix, is_name_part, NoPrefix}
use Rattle.sparql_lex.proofs.Bools.{same, other_than, word-pn, letter-word, pn-colon}

-- in a prefix, behind a character of a name or behind a dot
abbrev part_state : Bool → State
part_state true = states.Name names.Prefix
part_state false = states.Name names.PrefixDot

step-part : (b : Bool) (c : ℕ) → is_pn c ≡ true → step (part_state b) c ≡ Some (states.Name names.Prefix)
unfolding step
step-part true c h = let no_colon : (c == 58) ≡ false = other_than is_pn c 58 h pn-colon in rw (no_colon, h) refl
step-part false c h = rw h refl

step-dot : (b : Bool) (c : ℕ) → is_pn c ≡ false → (c == 46) ≡ true → step (part_state b) c ≡ Some (states.Name names.PrefixDot)
unfolding step
step-dot true c h d = let dot : c ≡ 46 = same c 46 d in let no_colon : (c == 58) ≡ false = rw dot refl in rw (no_colon, h, d) refl
step-dot false c h d = rw (h, d) refl

step-none : (b : Bool) (c : ℕ) → is_pn c ≡ false → (c == 46) ≡ false → (b && (c == 58)) ≡ false → step (part_state b) c ≡ None
unfolding step
step-none true c h d e = let no_colon : (c == 58) ≡ false = e in rw (no_colon, h, d) refl
step-none false c h d e = rw (h, d) refl

-- nothing is found where no colon ends a prefix
no-prefix : (text : List ℕ) (b : Bool) (n : ℕ) (found : Found) → ends_prefix text b ≡ false → scan text (part_state b) n found ≡ found
no-prefix [] b n found h = refl
no-prefix (c ∷ text) b n found h =
    go (is_pn c) refl (c == 46) refl (λ e. no-prefix text true (suc n) found e) (λ e. no-prefix text false (suc n) found e) h
  where
    go : (t : Bool) → is_pn c ≡ t → (u : Bool) → (c == 46) ≡ u
        → (ends_prefix text true ≡ false → scan text (states.Name names.Prefix) (suc n) found ≡ found)
        → (ends_prefix text false ≡ false → scan text (states.Name names.PrefixDot) (suc n) found ≡ found)
        → cond t (ends_prefix text true) (cond u (ends_prefix text false) (b && (c == 58))) ≡ false
        → scan (c ∷ text) (part_state b) n found ≡ found
    go true e u f part dot h = rw (step-part b c e) (part h)
    go false e true f part dot h = rw (step-dot b c e f) (dot h)
    go false e false f part dot h = rw (step-none b c e f h) refl

word-step : (c : ℕ) → is_word_part c ≡ true → step (states.Name names.Word) c ≡ Some (states.Name names.Word)
unfolding step
word-step c h = rw h refl

-- out of a word
leaves-part : (c : ℕ) → is_word_part c ≡ false → is_pn c ≡ true → step (states.Name names.Word) c ≡ Some (states.Name names.Prefix)
unfolding step
leaves-part c w h = let no_colon : (c == 58) ≡ false = other_than is_pn c 58 h pn-colon in rw (w, no_colon, h) refl

leaves-dot : (c : ℕ) → is_word_part c ≡ false → is_pn c ≡ false → (c == 46) ≡ true → step (states.Name names.Word) c ≡ Some (states.Name names.PrefixDot)
unfolding step
leaves-dot c w h d = let dot : c ≡ 46 = same c 46 d in let no_colon : (c == 58) ≡ false = rw dot refl in rw (w, no_colon, h, d) refl

leaves-none : (c : ℕ) → is_word_part c ≡ false → is_pn c ≡ false → (c == 46) ≡ false → (c == 58) ≡ false → step (states.Name names.Word) c ≡ None
unfolding step
leaves-none c w h d e = rw (w, e, h, d) refl

abbrev a_word : ℕ → Found
a_word n = Some (kinds.Word, n)

word-scan : (text : List ℕ) (n : ℕ) → ends_prefix text true ≡ false → scan text (states.Name names.Word) n (a_word n) ≡ a_word (n + run is_word_part text)
word-scan [] n h = let e : n ≡ n + 0 = omega arith in ap (λ v. a_word v) e
word-scan (c ∷ text) n h = go (is_word_part c) refl (is_pn c) refl (c == 46) refl (word-scan text (suc n)) h
  where
    none : a_word n ≡ a_word (n + 0)
    none = let e : n ≡ n + 0 = omega arith in ap (λ v. a_word v) e

    go : (w : Bool) → is_word_part c ≡ w → (t : Bool) → is_pn c ≡ t → (u : Bool) → (c == 46) ≡ u
        → (ends_prefix text true ≡ false → scan text (states.Name names.Word) (suc n) (a_word (suc n)) ≡ a_word (suc n + run is_word_part text))
        → cond t (ends_prefix text true) (cond u (ends_prefix text false) (c == 58)) ≡ false
        → scan (c ∷ text) (states.Name names.Word) n (a_word n) ≡ a_word (n + cond w (suc (run is_word_part text)) 0)
    go true w true e u f more h =
        let place : suc n + run is_word_part text ≡ n + suc (run is_word_part text) = omega arith in
        rw (word-step c w) (more h ∙ ap (λ v. a_word v) place)
    go true w false e u f more h = let p : is_pn c ≡ true = word-pn c w in absurd (cc)
    go false w true e u f more h = rw (leaves-part c w e) (no-prefix text true (suc n) (a_word n) h ∙ none)
    go false w false e true f more h = rw (leaves-dot c w e f) (no-prefix text false (suc n) (a_word n) h ∙ none)
    go false w false e false f more h = rw (leaves-none c w e f h) none

start-step : (c : ℕ) → is_letter c ≡ true → step states.Start c ≡ Some (states.Name names.Word)
unfolding step
start-step c h = rw h refl

letter-pn : (c : ℕ) → is_letter c ≡ true → is_pn c ≡ true
letter-pn c h = word-pn c (letter-word c h)

pub word-found : (c : ℕ) (text : List ℕ) → is_letter c ≡ true → ends_prefix (c ∷ text) false ≡ false → longest (c ∷ text) ≡ a_word (run is_word_part (c ∷ text))
word-found c text h e =
    let part = letter-pn c h in
    let word = letter-word c h in
    let no_colon : ends_prefix text true ≡ false = rw part at e in
    let place : 1 + run is_word_part text ≡ suc (run is_word_part text) = omega arith in
    rw (start-step c h, word) (word-scan text 1 no_colon ∙ ap (λ v. a_word v) place)

-- behind a dot no more ends a prefix than behind a character of a name
behind-dot : (text : List ℕ) → ends_prefix text true ≡ false → ends_prefix text false ≡ false
behind-dot [] h = refl
behind-dot (c ∷ text) h = go (is_pn c) (c == 46) h
  where
    go : (t u : Bool) → cond t (ends_prefix text true) (cond u (ends_prefix text false) (c == 58)) ≡ false
        → cond t (ends_prefix text true) (cond u (ends_prefix text false) false) ≡ false
    go true u h = h
    go false true h = h
    go false false h = refl

-- in a run of names and dots without such a colon no prefix begins
run-known : (text : List ℕ) (i : ℕ) → ends_prefix text false ≡ false → i < run is_name_part text → ends_prefix (drop i text) false ≡ false
run-known [] i h k = absurd (omega arith)
run-known (c ∷ text) zero h k = h
run-known (c ∷ text) (suc i) h k = go (is_pn c) refl (c == 46) refl (run-known text i) h k
  where
    go : (t : Bool) → is_pn c ≡ t → (u : Bool) → (c == 46) ≡ u
        → (ends_prefix text false ≡ false → i < run is_name_part text → ends_prefix (drop i text) false ≡ false)
        → cond t (ends_prefix text true) (cond u (ends_prefix text false) false) ≡ false
        → suc i < cond (t || u) (suc (run is_name_part text)) 0
        → ends_prefix (drop i text) false ≡ false
    go true e u f more h k = more (behind-dot text h) (omega arith)
    go false e true f more h k = more h (omega arith)
    go false e false f more h k = absurd (omega arith)

pub known-run : (text : List ℕ) (index : ℕ) → ends_prefix (drop index text) false ≡ false → NoPrefix text index (index + run is_name_part (drop index text))
known-run text index h i low high =
    let k = run-known (drop index text) (i - index) h (omega arith) in
    let e : index + (i - index) ≡ i = omega arith in
    subst (λ v. ends_prefix v false ≡ false) (drop-drop (i - index) index text ∙ ap (λ v. drop v text) e) k

pub known-at : (text : List ℕ) (index to : ℕ) → NoPrefix text index to → index < to → ends_prefix (drop index text) false ≡ false
known-at text index to h k = h index (omega arith) k
