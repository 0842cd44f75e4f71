-- Documents: what reading answers is what the grammar says.
use Rattle.std.proofs.Common.{◌≡◌, ◌≢◌, ◌⊎◌, inl, inr, ℕ, ◌<◌, ◌≤◌, ◌+◌, Bool, true, false, cond, ◌&&◌, nat_lt, nat_le, List, [], ◌∷◌, ◌++◌, length, Option, Some, None, Result, Ok, Err, IfOk, IfErr, refl, sym, ap, ◌∙◌, subst, append_assoc, length-append, arith}
use Rattle.std.proofs.lemmas.List.{append-nil}
use Rattle.std.proofs.lemmas.List.Elements.{All-nil, All-cons, All-push, All-head, All-take, All-drop}
use Rattle.std.proofs.Math.Seq.{take-append_seam, drop-append_seam}
use Rattle.std.proofs.lemmas.Bool.{and_parts, leb-true, ltb-true, ltb-false, le-leb, lt-ltb, le-ltb, false_from_ne_true}
use Rattle.std.proofs.lemmas.Str.{IsUtf8-from_is_utf8, is_utf8-from_IsUtf8, encodes-chars, scalars-chars, chars-encodes}
use Rattle.std.specs.List.{All}
use Rattle.std.specs.Str.{IsUtf8, is_utf8, chars}
use Rattle.std.specs.Str.Lossy.{utf8_valid_len}
use Rattle.term_core.specs.declared.term.Triple.{Triple}
use Rattle.term_core.specs.Characters.{IsTextOf}
use Rattle.term_core.specs.Order.{size_of}
use Rattle.nt_text.specs.declared.fault.DataFault.{DataFault}
use Rattle.nt_text.specs.declared.fault.DataFault.TheVariants as faults
use Rattle.nt_text.specs.Grammar.{IsLine, AreLines, AreLinesOf, IsDocument}
use Rattle.nt_text.specs.Limits.{HasShortTerms, AreWithinLimits, IsWithinLimits}
use Rattle.nt_text.specs.Faults.{IsBad, HasLongTerm, IsOneTooMany, IsRefusedAt, IsNotUtf8, WhyRefused}
use Rattle.nt_text.specs.Reading.{has_short_terms, with_line, unless_refused, line_at, lines_of, judged, document_of, IsOutcome}
use Rattle.nt_text.proofs.Steps.{some_is}
use Rattle.nt_text.proofs.Cuts.{lines_unique, lines_exist}
use Rattle.nt_text.proofs.LineLaws.{line_sound, line_complete}

abbrev Outcome : Type 0
Outcome = Result (List Triple) DataFault

ok_is : (ts us : List Triple) → (let r : Outcome = Ok ts in r ≡ Ok us) → ts ≡ us
ok_is ts us e = cc

err_is : (f g : DataFault) → (let r : Outcome = Err f in r ≡ Err g) → f ≡ g
err_is f g e = cc

-- ---- limits

short_from : (t : Triple) → has_short_terms t ≡ true → HasShortTerms t
short_from t h =
    let a = and_parts (nat_le (size_of t.subject) 262144 && nat_le (size_of t.predicate) 262144) (nat_le (size_of t.object) 262144) h in
    let b = and_parts (nat_le (size_of t.subject) 262144) (nat_le (size_of t.predicate) 262144) a.0 in
    record { subject = leb-true (size_of t.subject) 262144 b.0; predicate = leb-true (size_of t.predicate) 262144 b.1; object = leb-true (size_of t.object) 262144 a.1 }

short_to : (t : Triple) → HasShortTerms t → has_short_terms t ≡ true
short_to t h = rw (le-leb (size_of t.subject) 262144 h.subject, le-leb (size_of t.predicate) 262144 h.predicate, le-leb (size_of t.object) 262144 h.object) refl

all_short : (t : Triple) → HasShortTerms t → All HasShortTerms (t ∷ [])
all_short t h = All-cons HasShortTerms t [] h (All-nil HasShortTerms)

within_front : (ts us : List Triple) → AreWithinLimits (ts ++ us) → AreWithinLimits ts
within_front ts us within = record {
  terms = subst (All HasShortTerms) (take-append_seam ts us) (All-take HasShortTerms (length ts) (ts ++ us) within.terms);
  number = omega (arith, length-append ts us, within.number);
}

within_more : (ts : List Triple) (t : Triple) → AreWithinLimits ts → HasShortTerms t → length ts < 4194303 → AreWithinLimits (ts ++ t ∷ [])
within_more ts t within short room = record {
  terms = All-push HasShortTerms ts t within.terms short;
  number = omega (arith, length-append ts (t ∷ []), room);
}

-- what is within the limits with one triple more: that one is short, and there was room
last_short : (ts : List Triple) (t : Triple) → AreWithinLimits (ts ++ t ∷ []) → HasShortTerms t × (length ts < 4194303)
last_short ts t within = (
  All-head HasShortTerms t [] (subst (All HasShortTerms) (drop-append_seam ts (t ∷ [])) (All-drop HasShortTerms (length ts) (ts ++ t ∷ []) within.terms)),
  omega (arith, length-append ts (t ∷ []), within.number),
)

-- ---- one line

-- what a line gives after the triples before it
abbrev pub IsWith : ℕ → List Triple → List ℕ → Outcome → Type 0
IsWith number triples line (Ok all) = (more : List Triple) × IsLine line more × (all ≡ triples ++ more) × (AreWithinLimits triples → AreWithinLimits all)
IsWith number triples line (Err (faults.BadLine n)) = (n ≡ number) × IsBad triples line
IsWith number triples line (Err (faults.TermTooLong n)) = (n ≡ number) × HasLongTerm triples line
IsWith number triples line (Err (faults.TooMany n)) = (n ≡ number) × IsOneTooMany triples line
IsWith number triples line (Err faults.TooLong) = ⊥
IsWith number triples line (Err (faults.NotUtf8 place)) = ⊥
IsWith number triples line (Err faults.Memory) = ⊥

no_long : (t : Triple) → has_short_terms t ≡ false → All HasShortTerms (t ∷ []) → ⊥
no_long t h all = absurd (cc (sym h ∙ short_to t (All-head HasShortTerms t [] all)))

-- what is read of a line, after the triples before
with_line_is : (number : ℕ) (triples : List Triple) (line : List ℕ) → IsWith number triples line (with_line number triples (line_at line))
with_line_is number triples line = by_read (line_at line) refl
  where
    by_one : (t : Triple) → IsLine line (t ∷ []) → IsWith number triples line (with_line number triples (Some (t ∷ [])))
    by_one t is = by_short (has_short_terms t) refl
      where
        by_room : (q : Bool) → nat_lt (length triples) 4194303 ≡ q → HasShortTerms t → IsWith number triples line (cond q (Ok (triples ++ t ∷ [])) (Err (faults.TooMany number)))
        by_room true room short = (t ∷ [], is, refl, λ within. within_more triples t within short (ltb-true (length triples) 4194303 room))
        by_room false full short = (refl, (t ∷ [], is, all_short t short, omega (arith, length-append triples (t ∷ []), ltb-false (length triples) 4194303 full)))

        by_short : (q : Bool) → has_short_terms t ≡ q → IsWith number triples line (cond q (cond (nat_lt (length triples) 4194303) (Ok (triples ++ t ∷ [])) (Err (faults.TooMany number))) (Err (faults.TermTooLong number)))
        by_short true short = by_room (nat_lt (length triples) 4194303) refl (short_from t short)
        by_short false other = (refl, (t ∷ [], is, no_long t other))

    by_read : (o : Option (List Triple)) → line_at line ≡ o → IsWith number triples line (with_line number triples o)
    by_read None e = (refl, λ more is. absurd (cc (sym e ∙ line_complete line more is)))
    by_read (Some []) e = ([], line_sound line [] e, sym (append-nil triples), λ within. within)
    by_read (Some (t ∷ [])) e = by_one t (line_sound line (t ∷ []) e)
    by_read (Some (t ∷ u ∷ ts)) e = absurd (line_sound line (t ∷ u ∷ ts) e)

-- and there is one outcome
with_line_unique : (number : ℕ) (triples : List Triple) (line : List ℕ) (r : Outcome) → AreWithinLimits triples → IsWith number triples line r → with_line number triples (line_at line) ≡ r
with_line_unique number triples line (Ok all) within (more, is, same, fits) = ap (with_line number triples) (line_complete line more is) ∙ by_more more is (subst AreWithinLimits same (fits within)) ∙ ap Ok (sym same)
  where
    by_more : (more : List Triple) → IsLine line more → AreWithinLimits (triples ++ more) → with_line number triples (Some more) ≡ Ok (triples ++ more)
    by_more [] is fits = ap Ok (sym (append-nil triples))
    by_more (t ∷ []) is fits = let last = last_short triples t fits in rw (short_to t last.0, lt-ltb (length triples) 4194303 last.1) refl
    by_more (t ∷ u ∷ more) is fits = absurd is
with_line_unique number triples line (Err (faults.BadLine n)) within (same, none) = by_read (line_at line) refl ∙ ap (λ k. Err (faults.BadLine k)) (sym same)
  where
    by_read : (o : Option (List Triple)) → line_at line ≡ o → with_line number triples o ≡ Err (faults.BadLine number)
    by_read None e = refl
    by_read (Some more) e = absurd (none more (line_sound line more e))
with_line_unique number triples line (Err (faults.TermTooLong n)) within (same, (more, is, other)) = ap (with_line number triples) (line_complete line more is) ∙ by_more more is other ∙ ap (λ k. Err (faults.TermTooLong k)) (sym same)
  where
    by_more : (more : List Triple) → IsLine line more → (All HasShortTerms more → ⊥) → with_line number triples (Some more) ≡ Err (faults.TermTooLong number)
    by_more [] is other = absurd (other (All-nil HasShortTerms))
    by_more (t ∷ []) is other = rw (false_from_ne_true (has_short_terms t) (λ h. other (all_short t (short_from t h)))) refl
    by_more (t ∷ u ∷ more) is other = absurd is
with_line_unique number triples line (Err (faults.TooMany n)) within (same, (more, is, short, full)) = ap (with_line number triples) (line_complete line more is) ∙ by_more more is short full ∙ ap (λ k. Err (faults.TooMany k)) (sym same)
  where
    by_more : (more : List Triple) → IsLine line more → All HasShortTerms more → 4194303 < length (triples ++ more) → with_line number triples (Some more) ≡ Err (faults.TooMany number)
    by_more [] is short full = absurd (omega (arith, within.number, full, length-append triples []))
    by_more (t ∷ []) is short full =
        let no_room : nat_lt (length triples) 4194303 ≡ false = le-ltb (length triples) 4194303 (omega (arith, full, length-append triples (t ∷ []))) in
        rw (short_to t (All-head HasShortTerms t [] short), no_room) refl
    by_more (t ∷ u ∷ more) is short full = absurd is
with_line_unique number triples line (Err faults.TooLong) within h = absurd h
with_line_unique number triples line (Err (faults.NotUtf8 place)) within h = absurd h
with_line_unique number triples line (Err faults.Memory) within h = absurd h

-- ---- lines

-- the first line that is refused, with the triples of those before it
pub record IsStopped (number : ℕ) (old : List Triple) (lines : List (List ℕ)) (fault : DataFault) : Type 0 where
  pub before : List (List ℕ)
  pub line : List ℕ
  pub behind : List (List ℕ)
  pub triples : List Triple
  pub spelled : lines ≡ before ++ line ∷ behind
  pub reads : AreLines before triples
  pub within : AreWithinLimits (old ++ triples)
  pub why : IsWith (number + length before) (old ++ triples) line (Err fault)

-- lines were judged: all of them, or the first that is refused
abbrev pub AreJudged : ℕ → List Triple → List (List ℕ) → Outcome → Type 0
AreJudged number old lines (Ok all) = (ts : List Triple) × AreLines lines ts × (all ≡ old ++ ts) × AreWithinLimits all
AreJudged number old lines (Err fault) = IsStopped number old lines fault

-- a line in front of judged ones
judged_more : (number : ℕ) (old : List Triple) (line : List ℕ) (first : List Triple) (lines : List (List ℕ)) (r : Outcome) → IsLine line first → AreJudged (number + 1) (old ++ first) lines r → AreJudged number old (line ∷ lines) r
judged_more number old line first lines (Ok all) is (ts, are, same, within) = (first ++ ts, (first, ts, refl, is, are), same ∙ append_assoc old first ts, within)
judged_more number old line first lines (Err fault) is h =
    let same = append_assoc old first h.triples in
    let count : (number + 1) + length h.before ≡ number + length (line ∷ h.before) = omega arith in
    record {
      before = line ∷ h.before;
      line = h.line;
      behind = h.behind;
      triples = first ++ h.triples;
      spelled = ap (λ ls. line ∷ ls) h.spelled;
      reads = (first, h.triples, refl, is, h.reads);
      within = subst AreWithinLimits same h.within;
      why = subst (λ n. IsWith n (old ++ (first ++ h.triples)) h.line (Err fault)) count (subst (λ all. IsWith ((number + 1) + length h.before) all h.line (Err fault)) same h.why);
    }

-- the first line is refused
stopped_first : (number : ℕ) (old : List Triple) (line : List ℕ) (lines : List (List ℕ)) (fault : DataFault) → AreWithinLimits old → IsWith number old line (Err fault) → IsStopped number old (line ∷ lines) fault
stopped_first number old line lines fault within h =
    let none : number + 0 ≡ number = omega arith in
    record {
      before = [];
      line = line;
      behind = lines;
      triples = [];
      spelled = refl;
      reads = refl;
      within = subst AreWithinLimits (sym (append-nil old)) within;
      why = subst (λ n. IsWith n (old ++ []) line (Err fault)) (sym none) (subst (λ all. IsWith number all line (Err fault)) (sym (append-nil old)) h);
    }

judged_is : (number : ℕ) (old : List Triple) (lines : List (List ℕ)) → AreWithinLimits old → AreJudged number old lines (judged number old lines)
unfolding judged
judged_is number old [] within = ([], refl, sym (append-nil old), within)
judged_is number old (line ∷ lines) within =
    on_line number old line lines (with_line number old (line_at line)) within (with_line_is number old line) (λ all fits. judged_is (number + 1) all lines fits)
  where
    on_line : (number : ℕ) (old : List Triple) (line : List ℕ) (lines : List (List ℕ)) (r : Outcome) → AreWithinLimits old → IsWith number old line r
        → ((all : List Triple) → AreWithinLimits all → AreJudged (number + 1) all lines (judged (number + 1) all lines))
        → AreJudged number old (line ∷ lines) (unless_refused r (λ all. judged (number + 1) all lines))
    on_line number old line lines (Ok all) within (first, is, same, fits) more =
        judged_more number old line first lines (judged (number + 1) all lines) is (subst (λ ts. AreJudged (number + 1) ts lines (judged (number + 1) all lines)) same (more all (fits within)))
    on_line number old line lines (Err fault) within h more = stopped_first number old line lines fault within h

-- lines that were read before others
judged_front : (number : ℕ) (old : List Triple) (before : List (List ℕ)) (ts : List Triple) (more : List (List ℕ)) → AreLines before ts → AreWithinLimits (old ++ ts)
    → judged number old (before ++ more) ≡ judged (number + length before) (old ++ ts) more
unfolding judged
judged_front number old [] ts more are within =
    let none : number ≡ number + 0 = omega arith in
    (λ i. judged (none i) ((sym (append-nil old) ∙ ap (λ us. old ++ us) (sym are)) i) more)
judged_front number old (line ∷ before) ts more (first, others, same, is, are) within =
    let whole : old ++ ts ≡ (old ++ first) ++ others = ap (λ us. old ++ us) same ∙ sym (append_assoc old first others) in
    let fits : AreWithinLimits ((old ++ first) ++ others) = subst AreWithinLimits whole within in
    let here : with_line number old (line_at line) ≡ Ok (old ++ first) =
    with_line_unique number old line (Ok (old ++ first)) (within_front old first (within_front (old ++ first) others fits)) (first, is, refl, λ w. within_front (old ++ first) others fits) in
    let count : (number + 1) + length before ≡ number + length (line ∷ before) = omega arith in
    ap (λ r. unless_refused r (λ all. judged (number + 1) all (before ++ more))) here
    ∙ judged_front (number + 1) (old ++ first) before others more are fits ∙ (λ i. judged (count i) (sym whole i) more)

judged_unique : (number : ℕ) (old : List Triple) (lines : List (List ℕ)) (r : Outcome) → AreJudged number old lines r → judged number old lines ≡ r
unfolding judged
judged_unique number old lines (Ok all) (ts, are, same, within) =
    ap (judged number old) (sym (append-nil lines)) ∙ judged_front number old lines ts [] are (subst AreWithinLimits same within) ∙ ap Ok (sym same)
judged_unique number old lines (Err fault) h =
    ap (judged number old) h.spelled ∙ judged_front number old h.before h.triples (h.line ∷ h.behind) h.reads h.within
    ∙ ap (λ r. unless_refused r (λ all. judged ((number + length h.before) + 1) all h.behind)) (with_line_unique (number + length h.before) (old ++ h.triples) h.line (Err fault) h.within h.why)

-- ---- documents

-- what a document gives
abbrev pub IsJudgement : List ℕ → Outcome → Type 0
IsJudgement bytes (Ok ts) = IsDocument bytes ts × IsWithinLimits bytes ts
IsJudgement bytes (Err fault) = WhyRefused bytes fault × (fault ≢ faults.Memory)

no_triples : AreWithinLimits []
no_triples = record { terms = All-nil HasShortTerms; number = omega arith }

-- why a line is refused, in the words of the document
refused_at : (bytes : List ℕ) (characters : List ℕ) (lines : List (List ℕ)) (fault : DataFault) → length bytes ≤ 268435456 → IsTextOf characters bytes → AreLinesOf characters lines → IsStopped 1 [] lines fault
    → WhyRefused bytes fault × (fault ≢ faults.Memory)
refused_at bytes characters lines fault fits text are h = by_fault fault h.why
  where
    refused : (n : ℕ) (IsRefused : List Triple → List ℕ → Type 0) → n ≡ 1 + length h.before → IsRefused h.triples h.line → IsRefusedAt bytes n IsRefused
    refused n IsRefused number is = record {
      fits = fits;
      characters = characters;
      is_text = text;
      before = h.before;
      line = h.line;
      behind = h.behind;
      are_its = subst (AreLinesOf characters) h.spelled are;
      number_is = omega (arith, number);
      triples = h.triples;
      reads = h.reads;
      within = h.within;
      refused = is;
    }

    by_fault : (f : DataFault) → IsWith (1 + length h.before) h.triples h.line (Err f) → WhyRefused bytes f × (f ≢ faults.Memory)
    by_fault faults.TooLong why = absurd why
    by_fault (faults.NotUtf8 place) why = absurd why
    by_fault (faults.BadLine n) why = (refused n IsBad why.0 why.1, λ e. absurd cc)
    by_fault (faults.TermTooLong n) why = (refused n HasLongTerm why.0 why.1, λ e. absurd cc)
    by_fault (faults.TooMany n) why = (refused n IsOneTooMany why.0 why.1, λ e. absurd cc)
    by_fault faults.Memory why = absurd why

-- the characters of bytes
text_of : (bytes : List ℕ) → IsUtf8 bytes → IsTextOf (chars bytes) bytes
text_of bytes utf8 = record { scalars = scalars-chars bytes utf8; encoded = encodes-chars bytes utf8 }

by_lines : (bytes : List ℕ) (r : Outcome) → length bytes ≤ 268435456 → IsUtf8 bytes → AreJudged 1 [] (lines_of (chars bytes)) r → IsJudgement bytes r
by_lines bytes (Ok all) fits utf8 (ts, are, same, within) = (
  record { characters = chars bytes; is_text = text_of bytes utf8; lines = lines_of (chars bytes); are_its = lines_exist (chars bytes); reads = subst (AreLines (lines_of (chars bytes))) (sym same) are },
  record { bytes_fit = fits; triples_fit = within },
)
by_lines bytes (Err fault) fits utf8 h = refused_at bytes (chars bytes) (lines_of (chars bytes)) fault fits (text_of bytes utf8) (lines_exist (chars bytes)) h

document_is : (bytes : List ℕ) → IsJudgement bytes (document_of bytes)
unfolding document_of
document_is bytes = by_length (nat_lt 268435456 (length bytes)) refl
  where
    by_utf8 : (q : Bool) → is_utf8 bytes ≡ q → length bytes ≤ 268435456 → IsJudgement bytes (cond q (judged 1 [] (lines_of (chars bytes))) (Err (faults.NotUtf8 (utf8_valid_len bytes))))
    by_utf8 true e fits = by_lines bytes (judged 1 [] (lines_of (chars bytes))) fits (IsUtf8-from_is_utf8 bytes e) (judged_is 1 [] (lines_of (chars bytes)) no_triples)
    by_utf8 false e fits = (record { fits = fits; other = λ utf8. absurd (cc (sym e ∙ is_utf8-from_IsUtf8 bytes utf8)); at_is = refl }, λ e. absurd cc)

    by_length : (q : Bool) → nat_lt 268435456 (length bytes) ≡ q
        → IsJudgement bytes (cond q (Err faults.TooLong) (cond (is_utf8 bytes) (judged 1 [] (lines_of (chars bytes))) (Err (faults.NotUtf8 (utf8_valid_len bytes)))))
    by_length true e = (ltb-true 268435456 (length bytes) e, λ e. absurd cc)
    by_length false e = by_utf8 (is_utf8 bytes) refl (ltb-false 268435456 (length bytes) e)

-- the characters of a text are its own
its_characters : (characters bytes : List ℕ) → IsTextOf characters bytes → chars bytes ≡ characters
its_characters characters bytes text = ap chars (sym text.encoded) ∙ chars-encodes characters text.scalars

is_utf8_text : (characters bytes : List ℕ) → IsTextOf characters bytes → IsUtf8 bytes
is_utf8_text characters bytes text = (characters, (text.scalars, text.encoded))

-- bytes that fit and are UTF-8 are judged by their lines
of_lines : (bytes characters : List ℕ) (lines : List (List ℕ)) (r : Outcome) → length bytes ≤ 268435456 → IsTextOf characters bytes → AreLinesOf characters lines → AreJudged 1 [] lines r → document_of bytes ≡ r
unfolding document_of
of_lines bytes characters lines r fits text are h =
    let small : nat_lt 268435456 (length bytes) ≡ false = le-ltb 268435456 (length bytes) fits in
    let utf8 = is_utf8-from_IsUtf8 bytes (is_utf8_text characters bytes text) in
    let lines_are : lines_of (chars bytes) ≡ lines = ap lines_of (its_characters characters bytes text) ∙ lines_unique lines characters are in
    rw (small, utf8) (ap (judged 1 []) lines_are ∙ judged_unique 1 [] lines r h)

stopped_of : (bytes : List ℕ) (fault : DataFault) (n : ℕ) (IsRefused : List Triple → List ℕ → Type 0) (h : IsRefusedAt bytes n IsRefused)
    → (n ≡ 1 + length h.before → IsWith (1 + length h.before) h.triples h.line (Err fault)) → document_of bytes ≡ Err fault
stopped_of bytes fault n IsRefused h why =
    of_lines bytes h.characters (h.before ++ h.line ∷ h.behind) (Err fault) h.fits h.is_text h.are_its (record {
      before = h.before;
      line = h.line;
      behind = h.behind;
      triples = h.triples;
      spelled = refl;
      reads = h.reads;
      within = h.within;
      why = why (omega (arith, h.number_is));
    })

too_long : (bytes : List ℕ) → 268435456 < length bytes → document_of bytes ≡ Err faults.TooLong
unfolding document_of
too_long bytes h = rw (lt-ltb 268435456 (length bytes) h) refl

not_text : (bytes : List ℕ) (place : ℕ) → IsNotUtf8 bytes place → document_of bytes ≡ Err (faults.NotUtf8 place)
unfolding document_of
not_text bytes place h =
    let small : nat_lt 268435456 (length bytes) ≡ false = le-ltb 268435456 (length bytes) h.fits in
    let none : is_utf8 bytes ≡ false = false_from_ne_true (is_utf8 bytes) (λ e. h.other (IsUtf8-from_is_utf8 bytes e)) in
    rw (small, none, h.at_is) refl

-- a document gives one thing
pub document_unique : (bytes : List ℕ) (r : Outcome) → IsJudgement bytes r → document_of bytes ≡ r
document_unique bytes (Ok ts) (h, within) =
    of_lines bytes h.characters h.lines (Ok ts) within.bytes_fit h.is_text h.are_its (ts, h.reads, refl, within.triples_fit)
document_unique bytes (Err faults.TooLong) (h, some) = too_long bytes h
document_unique bytes (Err (faults.NotUtf8 place)) (h, some) = not_text bytes place h
document_unique bytes (Err (faults.BadLine n)) (h, some) = stopped_of bytes (faults.BadLine n) n IsBad h (λ number. (number, h.refused))
document_unique bytes (Err (faults.TermTooLong n)) (h, some) = stopped_of bytes (faults.TermTooLong n) n HasLongTerm h (λ number. (number, h.refused))
document_unique bytes (Err (faults.TooMany n)) (h, some) = stopped_of bytes (faults.TooMany n) n IsOneTooMany h (λ number. (number, h.refused))
document_unique bytes (Err faults.Memory) (h, some) = absurd (some refl)

-- ---- what an answer says

pub found : (bytes : List ℕ) (r : Outcome) → IsOutcome r (document_of bytes) → IfOk r (λ ts. IsDocument bytes ts)
found bytes (Ok ts) is = (subst (IsJudgement bytes) is (document_is bytes)).0
found bytes (Err fault) is = tt

pub limited : (bytes : List ℕ) (r : Outcome) → IsOutcome r (document_of bytes) → IfOk r (λ ts. IsWithinLimits bytes ts)
limited bytes (Ok ts) is = (subst (IsJudgement bytes) is (document_is bytes)).1
limited bytes (Err fault) is = tt

pub why : (bytes : List ℕ) (r : Outcome) → IsOutcome r (document_of bytes) → IfErr r (λ fault. WhyRefused bytes fault)
why bytes (Ok ts) is = tt
why bytes (Err faults.TooLong) is = (subst (IsJudgement bytes) is (document_is bytes)).0
why bytes (Err (faults.NotUtf8 place)) is = (subst (IsJudgement bytes) is (document_is bytes)).0
why bytes (Err (faults.BadLine n)) is = (subst (IsJudgement bytes) is (document_is bytes)).0
why bytes (Err (faults.TermTooLong n)) is = (subst (IsJudgement bytes) is (document_is bytes)).0
why bytes (Err (faults.TooMany n)) is = (subst (IsJudgement bytes) is (document_is bytes)).0
why bytes (Err faults.Memory) is = tt

-- ---- one answer

line_same : (line : List ℕ) (ts us : List Triple) → IsLine line ts → IsLine line us → ts ≡ us
line_same line ts us h k = some_is ts us (sym (line_complete line ts h) ∙ line_complete line us k)

same_lines : (lines : List (List ℕ)) (ts us : List Triple) → AreLines lines ts → AreLines lines us → ts ≡ us
same_lines [] ts us h k = h ∙ sym k
same_lines (line ∷ lines) ts us (a, b, is, here, more) (c, d, same, there, others) =
    is ∙ (λ i. line_same line a c here there i ++ same_lines lines b d more others i) ∙ sym same

-- a document has one list of triples, within the limits or not
pub one_list : (bytes : List ℕ) (ts us : List Triple) → IsDocument bytes ts → IsDocument bytes us → ts ≡ us
one_list bytes ts us h k = same_lines h.lines ts us h.reads (subst (λ ls. AreLines ls us) lines_same k.reads)
  where
    lines_same : k.lines ≡ h.lines
    lines_same = sym (lines_unique k.lines k.characters k.are_its) ∙ ap lines_of (sym (its_characters k.characters bytes k.is_text) ∙ its_characters h.characters bytes h.is_text) ∙ lines_unique h.lines h.characters h.are_its

pub one_cause : (bytes : List ℕ) (f g : DataFault) → f ≢ faults.Memory → g ≢ faults.Memory → WhyRefused bytes f → WhyRefused bytes g → f ≡ g
one_cause bytes f g some_f some_g h k = err_is f g (sym (document_unique bytes (Err f) (h, some_f)) ∙ document_unique bytes (Err g) (k, some_g))

pub no_both : (bytes : List ℕ) (ts : List Triple) (f : DataFault) → f ≢ faults.Memory → IsDocument bytes ts → IsWithinLimits bytes ts → WhyRefused bytes f → ⊥
no_both bytes ts f some h within k = apart (sym (document_unique bytes (Ok ts) (h, within)) ∙ document_unique bytes (Err f) (k, some))
  where
    apart : (let r : Outcome = Ok ts in r ≡ Err f) → ⊥
    apart e = absurd cc

-- bytes have a document within the limits, or a cause
pub always : (bytes : List ℕ) → ((ts : List Triple) × IsDocument bytes ts × IsWithinLimits bytes ts) ⊎ ((fault : DataFault) × (fault ≢ faults.Memory) × WhyRefused bytes fault)
always bytes = by_outcome (document_of bytes) (document_is bytes)
  where
    by_outcome : (r : Outcome) → IsJudgement bytes r → ((ts : List Triple) × IsDocument bytes ts × IsWithinLimits bytes ts) ⊎ ((fault : DataFault) × (fault ≢ faults.Memory) × WhyRefused bytes fault)
    by_outcome (Ok ts) (h, within) = inl (ts, h, within)
    by_outcome (Err fault) (why, some) = inr (fault, some, why)
