-- Language tags: the longest that stands at the front of a text is the one that is read.
use Rattle.std.proofs.Common.{◌≡◌, ◌≢◌, ℕ, ◌≤◌, ◌+◌, Bool, true, false, cond, ◌&&◌, not, List, [], ◌∷◌, ◌++◌, length, map, Option, Some, None, eqb, nat_lt, refl, sym, ap, ◌∙◌, subst, arith, append_assoc, length-append}
use Rattle.std.proofs.lemmas.Bool.{eqb-true, ltb-true}
use Rattle.std.proofs.lemmas.List.{append-nil}
use Rattle.std.proofs.lemmas.Bool.Decides.{nat_tests}
use Rattle.std.specs.Char.{to_ascii_lowercase}
use Rattle.std.specs.Str.{encode_utf8_all}
use Rattle.std.proofs.lemmas.Str.{encode_ascii}
use Rattle.term_core.specs.Characters.{front, after, begins, is_letter, AreAll}
use Rattle.term_core.specs.Names.{IsTag, AreSubtags, is_alphanumeric}
use Rattle.term_core.specs.Names.AreSubtags.{no_subtag, subtag}
use Rattle.nt_text.specs.Grammar.{IsLang, IsLongestFront}
use Rattle.nt_text.specs.Reading.{◌>>=◌, expect, head_at, past_subtags, past_tag, front_before, lang_at}
use Rattle.nt_text.proofs.Cut.{parts}
use Rattle.nt_text.proofs.Steps.{bind_some, guard_some, expect_is, passes, stops}
use Rattle.nt_text.proofs.EscapeLaws.{all_parts, all_both}
use Rattle.nt_text.proofs.NameLaws.{same_cut, before_seam}

-- ---- subtags

-- one character more in the last subtag
subtags_push : {text : List ℕ} (c : ℕ) → AreSubtags text → text ≢ [] → is_alphanumeric c ≡ true → AreSubtags (text ++ c ∷ [])
subtags_push c no_subtag some one = absurd (some refl)
subtags_push c (subtag {tag} {rest} some_tag all more) some one = by_rest c tag rest some_tag all more (λ ne. subtags_push c more ne one) one
  where
    push_tag : (tag : List ℕ) (c : ℕ) → tag ++ c ∷ [] ≢ []
    push_tag [] c = λ e. absurd cc
    push_tag (x ∷ tag) c = λ e. absurd cc

    by_rest : (c : ℕ) (tag rest : List ℕ) → tag ≢ [] → AreAll is_alphanumeric tag → AreSubtags rest → (rest ≢ [] → AreSubtags (rest ++ c ∷ [])) → is_alphanumeric c ≡ true → AreSubtags (45 ∷ ((tag ++ rest) ++ c ∷ []))
    by_rest c tag [] some_tag all more push one =
        let one_all : AreAll is_alphanumeric (c ∷ []) = rw one refl in
        subst (λ t. AreSubtags (45 ∷ t)) (append_assoc tag (c ∷ []) [] ∙ sym (ap (λ t. t ++ c ∷ []) (append-nil tag))) (subtag (push_tag tag c) (all_both is_alphanumeric tag (c ∷ []) all one_all) no_subtag)
    by_rest c tag (r ∷ rest) some_tag all more push one =
        subst (λ t. AreSubtags (45 ∷ t)) (sym (append_assoc tag (r ∷ rest) (c ∷ []))) (subtag some_tag all (push (λ e. absurd cc)))

-- a subtag more
subtags_add : {text : List ℕ} (c : ℕ) → AreSubtags text → is_alphanumeric c ≡ true → AreSubtags (text ++ 45 ∷ c ∷ [])
subtags_add c no_subtag one = let one_all : AreAll is_alphanumeric (c ∷ []) = rw one refl in subtag {tag = c ∷ []} {rest = []} (λ e. absurd cc) one_all no_subtag
subtags_add c (subtag {tag} {rest} some all more) one = subst (λ t. AreSubtags (45 ∷ t)) (sym (append_assoc tag rest (45 ∷ c ∷ []))) (subtag some all (subtags_add c more one))

-- a front of subtags, behind which this rest is
abbrev HasSubtags : List ℕ → List ℕ → Type 0
HasSubtags whole rest = (tags : List ℕ) × (whole ≡ tags ++ rest) × AreSubtags tags

-- within a subtag: what was read is a front of subtags, and more may be read of the last
abbrev IsWithin : List ℕ → List ℕ → Type 0
IsWithin whole text = (tags : List ℕ) × (whole ≡ tags ++ text) × AreSubtags tags × (tags ≢ [])

not_empty : (xs ys : List ℕ) (y : ℕ) → xs ++ y ∷ ys ≢ []
not_empty [] ys y = λ e. absurd cc
not_empty (x ∷ xs) ys y = λ e. absurd cc

within_step : (whole text : List ℕ) (c : ℕ) → IsWithin whole (c ∷ text) → is_alphanumeric c ≡ true → IsWithin whole text
within_step whole text c (tags, e, are, some) one = (tags ++ c ∷ [], e ∙ sym (append_assoc tags (c ∷ []) text), subtags_push c are some one, not_empty tags [] c)

hyphen_step : (whole end text : List ℕ) (c : ℕ) → HasSubtags whole end → end ≡ 45 ∷ c ∷ text → is_alphanumeric c ≡ true → IsWithin whole text
hyphen_step whole end text c (tags, e, are) here one =
    (tags ++ 45 ∷ c ∷ [], e ∙ ap (λ t. tags ++ t) here ∙ sym (append_assoc tags (45 ∷ c ∷ []) text), subtags_add c are one, not_empty tags (c ∷ []) 45)

front_of : (whole text : List ℕ) → IsWithin whole text → HasSubtags whole text
front_of whole text (tags, e, are, some) = (tags, e, are)

mutual
  -- behind a hyphen, which stands behind the end
  behind_hyphen : (whole end text : List ℕ) → HasSubtags whole end → end ≡ 45 ∷ text → HasSubtags whole (past_subtags end true text)
  behind_hyphen whole end [] found here = found
  behind_hyphen whole end (c ∷ text) found here =
      elim (is_alphanumeric c) as (λ q. is_alphanumeric c ≡ q → HasSubtags whole (cond q (past_subtags text false text) end)) [
        | true ↦ λ one. within_subtag whole text (hyphen_step whole end text c found here one)
        | false ↦ λ other. found
      ] refl

  -- within a subtag, whose end so far is where the text stands
  within_subtag : (whole text : List ℕ) → IsWithin whole text → HasSubtags whole (past_subtags text false text)
  within_subtag whole [] within = front_of whole [] within
  within_subtag whole (c ∷ text) within =
      elim (is_alphanumeric c) as (λ q. is_alphanumeric c ≡ q → HasSubtags whole (cond q (past_subtags text false text) (cond (eqb c 45) (past_subtags (c ∷ text) true text) (c ∷ text)))) [
        | true ↦ λ one. within_subtag whole text (within_step whole text c within one)
        | false ↦ λ other. elim (eqb c 45) as (λ q. eqb c 45 ≡ q → HasSubtags whole (cond q (past_subtags (c ∷ text) true text) (c ∷ text))) [
          | true ↦ λ hyphen. behind_hyphen whole (c ∷ text) text (front_of whole (c ∷ text) within) (ap (λ d. d ∷ text) (eqb-true c 45 hyphen))
          | false ↦ λ stop. front_of whole (c ∷ text) within
        ] refl
      ] refl

-- what is read stands there
subtags_front : (text : List ℕ) → HasSubtags text (past_tag text)
subtags_front [] = ([], refl, no_subtag)
subtags_front (c ∷ text) =
    elim (eqb c 45) as (λ q. eqb c 45 ≡ q → HasSubtags (c ∷ text) (cond q (past_subtags (c ∷ text) true text) (c ∷ text))) [
      | true ↦ λ hyphen. behind_hyphen (c ∷ text) (c ∷ text) text ([], refl, no_subtag) (ap (λ d. d ∷ text) (eqb-true c 45 hyphen))
      | false ↦ λ other. ([], refl, no_subtag)
    ] refl

never_longer : (n : ℕ) (end : List ℕ) (hyphen : Bool) (text : List ℕ) → length end ≤ n → length text ≤ n → length (past_subtags end hyphen text) ≤ n
never_longer n end hyphen [] e t = e
never_longer n end hyphen (c ∷ text) e t =
    elim (is_alphanumeric c) as (λ q. length (cond q (past_subtags text false text) (cond (not hyphen && eqb c 45) (past_subtags end true text) end)) ≤ n) [
      | true ↦ never_longer n text false text (omega (arith, t)) (omega (arith, t))
      | false ↦ elim (not hyphen && eqb c 45) as (λ q. length (cond q (past_subtags end true text) end) ≤ n) [ true ↦ never_longer n end true text e (omega (arith, t)) | false ↦ e ]
    ]

-- no more is left than behind any subtags that stand there: from within the first, where it is so from its end
reach_within : (tag rest behind end : List ℕ) (hyphen : Bool) → tag ≢ [] → AreAll is_alphanumeric tag → length (past_subtags (rest ++ behind) false (rest ++ behind)) ≤ length behind
    → length (past_subtags end hyphen (tag ++ (rest ++ behind))) ≤ length behind
reach_within [] rest behind end hyphen some all done = absurd (some refl)
reach_within (c ∷ []) rest behind end hyphen some all done = let a = all_parts is_alphanumeric c [] all in rw a.0 done
reach_within (c ∷ d ∷ tag) rest behind end hyphen some all done =
    let a = all_parts is_alphanumeric c (d ∷ tag) all in
    rw a.0 (reach_within (d ∷ tag) rest behind (d ∷ (tag ++ (rest ++ behind))) false (λ e. absurd cc) a.1 done)

-- from the end of a subtag
reach_rest : {rest : List ℕ} (behind : List ℕ) → AreSubtags rest → length (past_subtags (rest ++ behind) false (rest ++ behind)) ≤ length behind
reach_rest behind no_subtag = never_longer (length behind) behind false behind (omega arith) (omega arith)
reach_rest behind (subtag {tag} {rest = others} some all more) =
    subst (λ t. length (past_subtags (45 ∷ t) true t) ≤ length behind) (sym (append_assoc tag others behind)) (reach_within tag others behind (45 ∷ (tag ++ (others ++ behind))) true some all (reach_rest behind more))

-- no more is left than behind subtags at the front
reach_tag : (text behind : List ℕ) → AreSubtags text → length (past_tag (text ++ behind)) ≤ length behind
reach_tag text behind no_subtag = start behind
  where
    start : (behind : List ℕ) → length (past_tag behind) ≤ length behind
    start [] = omega arith
    start (c ∷ behind) = elim (eqb c 45) as (λ q. length (cond q (past_subtags (c ∷ behind) true behind) (c ∷ behind)) ≤ length (c ∷ behind)) [
      | true ↦ never_longer (length (c ∷ behind)) (c ∷ behind) true behind (omega arith) (omega arith)
      | false ↦ omega arith
    ]
reach_tag text behind (subtag {tag} {rest} some all more) =
    subst (λ t. length (past_subtags (45 ∷ t) true t) ≤ length behind) (sym (append_assoc tag rest behind)) (reach_within tag rest behind (45 ∷ (tag ++ (rest ++ behind))) true some all (reach_rest behind more))

-- ---- tags

-- a class holds of a front as far as it goes
front_reaches : (p : ℕ → Bool) (xs ys : List ℕ) → AreAll p xs → length xs ≤ length (front p (xs ++ ys))
front_reaches p [] ys h = omega arith
front_reaches p (x ∷ xs) ys h = let a = all_parts p x xs h in rw a.0 (omega (arith, front_reaches p xs ys a.1))

-- subtags begin with a hyphen, which is no letter
subtags_stop : (text behind : List ℕ) → AreSubtags text → text ≢ [] → begins is_letter (text ++ behind) ≡ false
subtags_stop text behind no_subtag some = absurd (some refl)
subtags_stop text behind (subtag more all rest) some = refl

-- the tag that is read of a text
abbrev tag_of : List ℕ → List ℕ
tag_of body = front is_letter body ++ (subtags_front (after is_letter body)).0

tag_whole : (body : List ℕ) → body ≡ tag_of body ++ past_tag (after is_letter body)
tag_whole body =
    sym (parts is_letter body) ∙ ap (λ t. front is_letter body ++ t) (subtags_front (after is_letter body)).1
    ∙ sym (append_assoc (front is_letter body) (subtags_front (after is_letter body)).0 (past_tag (after is_letter body)))

-- the tags at the front of a text are no longer than the one that is read
tag_longest : (body : List ℕ) → IsLongestFront IsTag body (tag_of body)
tag_longest body longer behind is e = by_subtags is.subtags refl
  where
    lengths : length (tag_of body) + length (past_tag (after is_letter body)) ≡ length longer + length behind
    lengths = sym (length-append (tag_of body) (past_tag (after is_letter body))) ∙ ap length (sym (tag_whole body) ∙ e) ∙ length-append longer behind

    whole : body ≡ is.primary ++ (is.subtags ++ behind)
    whole = e ∙ ap (λ t. t ++ behind) is.spelled ∙ append_assoc is.primary is.subtags behind

    by_subtags : (subtags : List ℕ) → is.subtags ≡ subtags → length longer ≤ length (tag_of body)
    by_subtags [] none =
        let reach : length is.primary ≤ length (front is_letter body) = subst (λ t. length is.primary ≤ length (front is_letter t)) (sym whole) (front_reaches is_letter is.primary (is.subtags ++ behind) is.letters) in
        let long : length longer ≡ length is.primary = ap length (is.spelled ∙ ap (λ t. is.primary ++ t) none ∙ append-nil is.primary) in
        omega (arith, reach, long, length-append (front is_letter body) (subtags_front (after is_letter body)).0)
    by_subtags (x ∷ xs) some =
        let begun : is.subtags ≢ [] = λ nil. absurd (cc (sym some ∙ nil)) in
        let s = stops is_letter is.primary (is.subtags ++ behind) is.letters (subtags_stop is.subtags behind is.are_subtags begun) in
        let left : after is_letter body ≡ is.subtags ++ behind = ap (after is_letter) whole ∙ s.after in
        let reach : length (past_tag (after is_letter body)) ≤ length behind = subst (λ t. length (past_tag t) ≤ length behind) (sym left) (reach_tag is.subtags behind is.are_subtags) in
        omega (arith, reach, lengths)

-- what is read of a text that begins with a letter is a tag
tag_is : (c : ℕ) (more : List ℕ) → is_letter c ≡ true → IsTag (tag_of (c ∷ more))
tag_is c more letter =
    let first : front is_letter (c ∷ more) ≡ c ∷ front is_letter more = rw letter refl in
    record {
      primary = front is_letter (c ∷ more);
      subtags = (subtags_front (after is_letter (c ∷ more))).0;
      spelled = refl;
      some = λ nil. absurd (cc (sym first ∙ nil));
      letters = passes is_letter (c ∷ more);
      are_subtags = (subtags_front (after is_letter (c ∷ more))).2;
    }

-- ---- tags are ASCII

abbrev pub is_small : ℕ → Bool
is_small c = nat_lt c 128

pub weaker : (p q : ℕ → Bool) → ((c : ℕ) → p c ≡ true → q c ≡ true) → (xs : List ℕ) → AreAll p xs → AreAll q xs
weaker p q h [] all = refl
weaker p q h (x ∷ xs) all = let a = all_parts p x xs all in rw (h x a.0) (weaker p q h xs a.1)

letter_small : (c : ℕ) → is_letter c ≡ true → is_small c ≡ true
letter_small c h = grind (arith, nat_tests)

alphanumeric_small : (c : ℕ) → is_alphanumeric c ≡ true → is_small c ≡ true
alphanumeric_small c h = grind (arith, nat_tests)

subtags_small : {text : List ℕ} → AreSubtags text → AreAll is_small text
subtags_small no_subtag = refl
subtags_small (subtag {tag} {rest} some all more) = all_both is_small tag rest (weaker is_alphanumeric is_small alphanumeric_small tag all) (subtags_small more)

pub small_encoded : (xs : List ℕ) → AreAll is_small xs → encode_utf8_all xs ≡ xs
small_encoded [] all = refl
small_encoded (x ∷ xs) all =
    let a = all_parts is_small x xs all in
    (λ i. encode_ascii x (ltb-true x 128 a.0) i ++ small_encoded xs a.1 i)

pub tag_small : (tag : List ℕ) → IsTag tag → AreAll is_small tag
tag_small tag is = subst (AreAll is_small) (sym is.spelled) (all_both is_small is.primary is.subtags (weaker is_letter is_small letter_small is.primary is.letters) (subtags_small is.are_subtags))

pub tag_encoded : (tag : List ℕ) → IsTag tag → encode_utf8_all tag ≡ tag
tag_encoded tag is = small_encoded tag (tag_small tag is)

-- ---- tags that are read

abbrev Read : Type 0
Read = List ℕ × List ℕ

abbrev lang_read : List ℕ → Read
lang_read body = (map to_ascii_lowercase (encode_utf8_all (front_before body (past_tag (after is_letter body)))), past_tag (after is_letter body))

abbrev lang_by : List ℕ → ℕ × List ℕ → Option Read
lang_by body first = cond (is_letter first.0) (Some (lang_read body)) None

before_tag : (body : List ℕ) → front_before body (past_tag (after is_letter body)) ≡ tag_of body
before_tag body = ap (λ t. front_before t (past_tag (after is_letter body))) (tag_whole body) ∙ before_seam (tag_of body) (past_tag (after is_letter body))

pub lang_sound : (text value rest : List ℕ) → lang_at text ≡ Some (value, rest) → IsLang text value rest
unfolding lang_at
lang_sound text value rest e =
    let a = bind_some (expect 64 text) (λ body. head_at body >>= lang_by body) (value, rest) e in
    from_body a.0 (expect_is 64 text a.0 a.1) a.2
  where
    from_body : (body : List ℕ) → text ≡ 64 ∷ body → (head_at body >>= lang_by body) ≡ Some (value, rest) → IsLang text value rest
    from_body [] here h = absurd cc
    from_body (c ∷ more) here h =
        let body = c ∷ more in
        let wanted : Read = (value, rest) in
        let g = guard_some (is_letter c) (lang_read body) wanted h in
        let is = tag_is c more g.0 in
        let rest_is : past_tag (after is_letter body) ≡ rest = ap (λ (r : Read). r.1) g.1 in
        let spelled : body ≡ tag_of body ++ rest = tag_whole body ∙ ap (λ r. tag_of body ++ r) rest_is in
        record {
          tag = tag_of body;
          spelled = here ∙ ap (λ t. 64 ∷ t) spelled;
          is_tag = is;
          longest = subst (λ t. IsLongestFront IsTag t (tag_of body)) spelled (tag_longest body);
          lower = sym (ap (λ (r : Read). r.0) g.1) ∙ ap (map to_ascii_lowercase) (ap encode_utf8_all (before_tag body) ∙ tag_encoded (tag_of body) is);
        }

-- a tag begins with a letter
tag_begins : (tag : List ℕ) → IsTag tag → (c : ℕ) × (more : List ℕ) × (tag ≡ c ∷ more) × (is_letter c ≡ true)
tag_begins tag is = by_primary is.primary is.some is.letters is.spelled
  where
    by_primary : (primary : List ℕ) → primary ≢ [] → AreAll is_letter primary → tag ≡ primary ++ is.subtags → (c : ℕ) × (more : List ℕ) × (tag ≡ c ∷ more) × (is_letter c ≡ true)
    by_primary [] some letters spelled = absurd (some refl)
    by_primary (c ∷ primary) some letters spelled = (c, primary ++ is.subtags, spelled, (all_parts is_letter c primary letters).0)

pub lang_complete : (text value rest : List ℕ) → IsLang text value rest → lang_at text ≡ Some (value, rest)
unfolding lang_at
lang_complete text value rest h = ap lang_at h.spelled ∙ read
  where
    body : List ℕ
    body = h.tag ++ rest

    begun : (c : ℕ) × (more : List ℕ) × (h.tag ≡ c ∷ more) × (is_letter c ≡ true)
    begun = tag_begins h.tag h.is_tag

    is : IsTag (tag_of body)
    is = subst (λ t. IsTag (tag_of (t ++ rest))) (sym begun.2) (tag_is begun.0 (begun.1 ++ rest) begun.3)

    lengths : length h.tag ≡ length (tag_of body)
    lengths = omega (arith, h.longest (tag_of body) (past_tag (after is_letter body)) is (tag_whole body), tag_longest body h.tag rest h.is_tag refl)

    same : (h.tag ≡ tag_of body) × (rest ≡ past_tag (after is_letter body))
    same = same_cut h.tag rest (tag_of body) (past_tag (after is_letter body)) (tag_whole body) lengths

    value_is : map to_ascii_lowercase (encode_utf8_all (front_before body (past_tag (after is_letter body)))) ≡ value
    value_is = ap (map to_ascii_lowercase) (ap encode_utf8_all (before_tag body ∙ sym same.0) ∙ tag_encoded h.tag h.is_tag) ∙ sym h.lower

    by_letter : (head_at body >>= lang_by body) ≡ Some (lang_read body)
    by_letter = ap (λ t. head_at (t ++ rest) >>= lang_by body) begun.2 ∙ rw begun.3 refl

    read : (head_at body >>= lang_by body) ≡ Some (value, rest)
    read = by_letter ∙ (λ i. Some (value_is i, sym same.1 i))
