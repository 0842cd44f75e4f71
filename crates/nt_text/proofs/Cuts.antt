-- The lines of a text: `lines_of` gives them, and there are no others.
use Rattle.std.proofs.Common.{◌≡◌, ℕ, Bool, true, false, cond, ◌&&◌, ◌||◌, List, [], ◌∷◌, ◌++◌, ◌⊎◌, inl, inr, Option, Some, None, eqb, refl, sym, ap, ◌∙◌, subst}
use Rattle.std.proofs.lemmas.List.{append-nil}
use Rattle.std.proofs.lemmas.Bool.{eqb-true, or_cases, not-false}
use Rattle.term_core.specs.Characters.{front, after, begins, AreAll}
use Rattle.nt_text.specs.Characters.{is_line}
use Rattle.nt_text.specs.Grammar.{IsLineEnd, IsEndedLine, AreLinesOf}
use Rattle.nt_text.specs.Reading.{lines_of, lines_left, behind_end, onto_first}
use Rattle.nt_text.proofs.Steps.{some_is, passes, behind_stops, stops}
use Rattle.nt_text.proofs.Cut.{parts}

-- the first line, and those behind its end
pub lines_cut : (bytes : List ℕ) → lines_of bytes ≡ front is_line bytes ∷ lines_left (behind_end (after is_line bytes))
lines_cut [] = refl
lines_cut (b ∷ bytes) =
    elim (is_line b) as (λ t. cond t (onto_first b (lines_of bytes)) (cond (eqb b 13 && begins (λ c. eqb c 10) bytes) (lines_of bytes) ([] ∷ lines_of bytes))
    ≡ cond t (b ∷ front is_line bytes) [] ∷ lines_left (behind_end (cond t (after is_line bytes) (b ∷ bytes)))) [
      | true ↦ ap (onto_first b) (lines_cut bytes)
      | false ↦ at_end bytes
    ]
  where
    at_end : (rest : List ℕ) → cond (eqb b 13 && begins (λ c. eqb c 10) rest) (lines_of rest) ([] ∷ lines_of rest) ≡ [] ∷ lines_left (behind_end (b ∷ rest))
    at_end [] = elim (eqb b 13) as (λ t. cond {A = List (List ℕ)} (t && false) ([] ∷ []) ([] ∷ [] ∷ []) ≡ [] ∷ [] ∷ []) [ true ↦ refl | false ↦ refl ]
    at_end (c ∷ rest) =
        elim (eqb b 13) as (λ t. cond {A = List (List ℕ)} (t && eqb c 10) (lines_of (c ∷ rest)) ([] ∷ lines_of (c ∷ rest))
        ≡ [] ∷ lines_left (cond (t && eqb c 10) (Some rest) (Some (c ∷ rest)))) [
          | true ↦ at_lf (eqb c 10) refl
          | false ↦ refl
        ]
      where
        at_lf : (q : Bool) → eqb c 10 ≡ q → cond {A = List (List ℕ)} q (lines_of (c ∷ rest)) ([] ∷ lines_of (c ∷ rest)) ≡ [] ∷ lines_left (cond q (Some rest) (Some (c ∷ rest)))
        at_lf true e = let ten : c ≡ 10 = eqb-true c 10 e in rw ten refl
        at_lf false e = refl

-- ---- what is behind a line end

-- behind an LF is the rest
lf_behind : (rest : List ℕ) → behind_end (10 ∷ rest) ≡ Some rest
lf_behind [] = refl
lf_behind (c ∷ rest) = refl

-- so it is behind a CR that no LF follows
cr_behind : (rest : List ℕ) → begins (λ c. eqb c 10) rest ≡ false → behind_end (13 ∷ rest) ≡ Some rest
cr_behind [] no_lf = refl
cr_behind (c ∷ rest) no_lf = rw no_lf refl

-- and behind each end of a line
end_behind : (text rest : List ℕ) → IsLineEnd text rest → behind_end text ≡ Some rest
end_behind text rest (inl cr_lf) = ap behind_end cr_lf
end_behind text rest (inr (inl lf)) = ap behind_end lf ∙ lf_behind rest
end_behind text rest (inr (inr (cr, no_lf))) = ap behind_end cr ∙ cr_behind rest no_lf

-- a line end begins with no character of a line
end_begins : (text rest : List ℕ) → IsLineEnd text rest → begins is_line text ≡ false
end_begins text rest (inl cr_lf) = ap (begins is_line) cr_lf
end_begins text rest (inr (inl lf)) = ap (begins is_line) lf
end_begins text rest (inr (inr (cr, no_lf))) = ap (begins is_line) cr

-- what is in no line is an LF or a CR
end_byte : (b : ℕ) → is_line b ≡ false → (b ≡ 10) ⊎ (b ≡ 13)
end_byte b stop = elim (or_cases (eqb b 10) (eqb b 13 || false) (not-false (eqb b 10 || (eqb b 13 || false)) stop)) [
  | inl lf ↦ inl (eqb-true b 10 lf)
  | inr others ↦ elim (or_cases (eqb b 13) false others) [
    | inl cr ↦ inr (eqb-true b 13 cr)
    | inr none ↦ absurd cc
  ]
]

-- a CR ends a line, with the LF that follows it if one does
cr_end : (text rest : List ℕ) → behind_end (13 ∷ text) ≡ Some rest → IsLineEnd (13 ∷ text) rest
cr_end [] rest e =
    let same : [] ≡ rest = some_is [] rest e in
    inr (inr (ap (λ r. 13 ∷ r) same, ap (begins (λ c. eqb c 10)) (sym same)))
cr_end (c ∷ text) rest e =
    elim (eqb c 10) as (λ q. eqb c 10 ≡ q → cond q (Some text) (Some (c ∷ text)) ≡ Some rest → IsLineEnd (13 ∷ c ∷ text) rest) [
      | true ↦ λ lf h.
          let same : text ≡ rest = some_is text rest h in
          let ten : c ≡ 10 = eqb-true c 10 lf in
          inl (λ i. 13 ∷ ten i ∷ same i)
      | false ↦ λ other h.
          let same : c ∷ text ≡ rest = some_is (c ∷ text) rest h in
          inr (inr (ap (λ r. 13 ∷ r) same, ap (begins (λ d. eqb d 10)) (sym same) ∙ other))
    ] refl e

-- where something is behind an end, the end stands there
end_is : (text rest : List ℕ) → begins is_line text ≡ false → behind_end text ≡ Some rest → IsLineEnd text rest
end_is [] rest stop e = absurd cc
end_is (b ∷ text) rest stop e = elim (end_byte b stop) [
  | inl lf ↦
      let same : text ≡ rest = some_is text rest (sym (lf_behind text) ∙ ap (λ x. behind_end (x ∷ text)) (sym lf) ∙ e) in
      inr (inl (λ i. lf i ∷ same i))
  | inr cr ↦ subst (λ x. IsLineEnd (x ∷ text) rest) (sym cr) (cr_end text rest (ap (λ x. behind_end (x ∷ text)) (sym cr) ∙ e))
]

-- where nothing is behind an end, the text is at its end
no_end_is : (text : List ℕ) → behind_end text ≡ None → text ≡ []
no_end_is [] e = refl
no_end_is (b ∷ []) e = absurd cc
no_end_is (b ∷ c ∷ rest) e =
    elim (eqb b 13 && eqb c 10) as (λ q. cond q (Some rest) (Some (c ∷ rest)) ≡ None → b ∷ c ∷ rest ≡ []) [ true ↦ λ h. absurd cc | false ↦ λ h. absurd cc ] e

-- ---- the lines of a text

-- the lines of a text are those that `lines_of` gives
pub lines_unique : (lines : List (List ℕ)) (text : List ℕ) → AreLinesOf text lines → lines_of text ≡ lines
lines_unique [] text h = absurd h
lines_unique (line ∷ []) text (is, in_line) =
    let s = stops is_line line [] in_line refl in
    ap lines_of (is ∙ sym (append-nil line)) ∙ lines_cut (line ++ []) ∙ rw (s.front, s.after) refl
lines_unique (line ∷ next ∷ lines) text (rest, ended, more) =
    let s = stops is_line line ended.behind ended.in_line (end_begins ended.behind rest ended.ended) in
    ap lines_of ended.spelled ∙ lines_cut (line ++ ended.behind)
    ∙ rw (s.front, s.after, end_behind ended.behind rest ended.ended) (ap (λ ls. line ∷ ls) (lines_unique (next ∷ lines) rest more))

-- one line more, where the others are lines of what is behind its end
module _ (line : List ℕ) (lines : List (List ℕ)) (text : List ℕ) (e : lines_of text ≡ line ∷ lines) where
  -- the first line and the others
  cut : front is_line text ∷ lines_left (behind_end (after is_line text)) ≡ line ∷ lines
  cut = sym (lines_cut text) ∙ e

  -- the line is the front of the text
  first : front is_line text ≡ line
  first = cc cut

  -- and all in a line
  in_line : AreAll is_line line
  in_line = subst (AreAll is_line) first (passes is_line text)

  -- with nothing behind its end it is the last
  last_line : behind_end (after is_line text) ≡ None → AreLinesOf text (line ∷ lines)
  last_line none =
      let no_more : [] ≡ lines = cc (cut, none) in
      let whole : text ≡ line = sym (parts is_line text) ∙ (λ i. first i ++ no_end_is (after is_line text) none i) ∙ append-nil line in
      subst (λ (ls : List (List ℕ)). AreLinesOf text (line ∷ ls)) no_more (whole, in_line)

  -- else it has an end
  ended_line : (rest : List ℕ) → behind_end (after is_line text) ≡ Some rest → IsEndedLine text line rest
  ended_line rest some = record {
    behind = after is_line text;
    spelled = sym (parts is_line text) ∙ ap (λ l. l ++ after is_line text) first;
    in_line = in_line;
    ended = end_is (after is_line text) rest (behind_stops is_line text) some;
  }

  -- behind which the others are
  others : (rest : List ℕ) → behind_end (after is_line text) ≡ Some rest → lines_of rest ≡ lines
  others rest some = cc (cut, some)

-- a line with its end goes before lines
go_on : (line : List ℕ) (lines : List (List ℕ)) (text rest : List ℕ) → IsEndedLine text line rest → AreLinesOf rest lines
    → AreLinesOf text (line ∷ lines)
go_on line [] text rest ended more = absurd more
go_on line (next ∷ lines) text rest ended more = (rest, ended, more)

-- the first line, with its end or as the last
one_more : (line : List ℕ) (lines : List (List ℕ)) (text : List ℕ) → lines_of text ≡ line ∷ lines
    → ((rest : List ℕ) → lines_of rest ≡ lines → AreLinesOf rest lines) → AreLinesOf text (line ∷ lines)
one_more line lines text e more = by_end (behind_end (after is_line text)) refl
  where
    by_end : (o : Option (List ℕ)) → behind_end (after is_line text) ≡ o → AreLinesOf text (line ∷ lines)
    by_end None none = last_line line lines text e none
    by_end (Some rest) some =
        go_on line lines text rest (ended_line line lines text e rest some) (more rest (others line lines text e rest some))

-- lines that `lines_of` gives are the lines of the text
are_lines : (lines : List (List ℕ)) (text : List ℕ) → lines_of text ≡ lines → AreLinesOf text lines
are_lines [] text e = absurd (cc (lines_cut text, e))
are_lines (line ∷ lines) text e = one_more line lines text e (are_lines lines)

-- those that `lines_of` gives are the lines of a text
pub lines_exist : (text : List ℕ) → AreLinesOf text (lines_of text)
lines_exist text = are_lines (lines_of text) text refl
