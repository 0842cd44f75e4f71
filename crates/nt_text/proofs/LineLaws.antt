-- Triples and lines: what is read is of the grammar, and what is of the grammar is read.
use Rattle.std.proofs.Common.{◌≡◌, ℕ, Bool, true, false, cond, List, [], ◌∷◌, inl, inr, Option, Some, None, eqb, refl, sym, ap, subst, ◌∙◌}
use Rattle.std.proofs.lemmas.Bool.{eqb-true}
use Rattle.term_core.specs.declared.term.Term.{Term}
use Rattle.term_core.specs.declared.term.Term.TheVariants as terms
use Rattle.term_core.specs.declared.term.Triple.{Triple}
use Rattle.term_core.specs.Characters.{after, begins}
use Rattle.nt_text.specs.Characters.{is_blank}
use Rattle.nt_text.specs.Grammar.{IsSubject, IsPredicate, IsTriple, IsEnd, IsLine}
use Rattle.nt_text.specs.Reading.{◌>>=◌, expect, iri_at, subject_at, object_at, triple_at, ends, line_at}
use Rattle.nt_text.proofs.Steps.{bind_some, some_is, expect_is, spaced_after, skipped}
use Rattle.nt_text.proofs.TermLaws.{iri_sound, iri_complete, subject_sound, subject_complete, object_sound, object_complete}

abbrev Read : Type 0
Read = List ℕ × List ℕ

abbrev Term_read : Type 0
Term_read = Term × List ℕ

abbrev Triple_read : Type 0
Triple_read = Triple × List ℕ

-- ---- triples

abbrev triple_of : Term → List ℕ → Term → Triple
triple_of s p o = record { subject = s; predicate = terms.Iri p; object = o }

-- how a reading goes on behind the dot, the object, the predicate and the subject
abbrev triple_with : Term → List ℕ → Term → List ℕ → Option Triple_read
triple_with s p o rest = Some (triple_of s p o, rest)

abbrev from_dot : Term → List ℕ → Term_read → Option Triple_read
from_dot s p o = expect 46 (after is_blank o.1) >>= triple_with s p o.0

abbrev from_object : Term → Read → Option Triple_read
from_object s p = object_at (after is_blank p.1) >>= from_dot s p.0

abbrev from_predicate : Term_read → Option Triple_read
from_predicate s = iri_at (after is_blank s.1) >>= from_object s.0

pub triple_sound : (text : List ℕ) (t : Triple) (rest : List ℕ) → triple_at text ≡ Some (t, rest) → IsTriple text t rest
unfolding triple_at
triple_sound text t rest e =
    let a = bind_some (subject_at text) from_predicate (t, rest) e in
    let b = bind_some (iri_at (after is_blank a.0.1)) (from_object a.0.0) (t, rest) a.2 in
    let c = bind_some (object_at (after is_blank b.0.1)) (from_dot a.0.0 b.0.0) (t, rest) b.2 in
    let d = bind_some (expect 46 (after is_blank c.0.1)) (triple_with a.0.0 b.0.0 c.0.0) (t, rest) c.2 in
    let made : Triple_read = (triple_of a.0.0 b.0.0 c.0.0, d.0) in
    let wanted : Triple_read = (t, rest) in
    let read : IsTriple text made.0 made.1 = record {
      after_subject = a.0.1;
      to_predicate = after is_blank a.0.1;
      after_predicate = b.0.1;
      to_object = after is_blank b.0.1;
      after_object = c.0.1;
      to_dot = after is_blank c.0.1;
      subject = subject_sound text a.0.0 a.0.1 a.1;
      space_1 = spaced_after a.0.1;
      predicate = iri_sound (after is_blank a.0.1) b.0.0 b.0.1 b.1;
      space_2 = spaced_after b.0.1;
      object = object_sound (after is_blank b.0.1) c.0.0 c.0.1 c.1;
      space_3 = spaced_after c.0.1;
      dot = expect_is 46 (after is_blank c.0.1) d.0 d.1;
    } in
    subst (λ (p : Triple_read). IsTriple text p.0 p.1) (some_is made wanted d.2) read

-- a predicate that stands there is read
predicate_complete : (text : List ℕ) (t : Term) (rest : List ℕ) → IsPredicate text t rest → (iri : List ℕ) × (t ≡ terms.Iri iri) × (iri_at text ≡ Some (iri, rest))
predicate_complete text (terms.Iri iri) rest h = (iri, refl, iri_complete text iri rest h)
predicate_complete text (terms.Blank label) rest h = absurd h
predicate_complete text (terms.Literal lexical datatype lang) rest h = absurd h

-- the triple with another predicate
abbrev with_predicate : Triple → List ℕ → Term → Option Triple_read
with_predicate t rest p = Some (record { subject = t.subject; predicate = p; object = t.object }, rest)

pub triple_complete : (text : List ℕ) (t : Triple) (rest : List ℕ) → IsTriple text t rest → triple_at text ≡ Some (t, rest)
unfolding triple_at
triple_complete text t rest h =
    let to_p = skipped h.after_subject h.to_predicate h.space_1 in
    let to_o = skipped h.after_predicate h.to_object h.space_2 in
    let to_d = skipped h.after_object h.to_dot h.space_3 in
    let no_at : begins (λ c. eqb c 64) (after is_blank h.after_object) ≡ false = ap (begins (λ c. eqb c 64)) (to_d ∙ h.dot) in
    let no_sign : begins (λ c. eqb c 94) (after is_blank h.after_object) ≡ false = ap (begins (λ c. eqb c 94)) (to_d ∙ h.dot) in
    let s = subject_complete text t.subject h.after_subject h.subject in
    let p = predicate_complete h.to_predicate t.predicate h.after_predicate h.predicate in
    let o = object_complete h.to_object t.object h.after_object h.object (no_at, no_sign) in
    rw (s, to_p, p.2, to_o, o, to_d, h.dot) (ap (with_predicate t rest) (sym p.1))

-- ---- lines

-- an end that is read stands there
end_of : (text : List ℕ) → ends text ≡ true → IsEnd text
end_of [] e = inl refl
end_of (b ∷ text) e = inr (text, ap (λ c. c ∷ text) (eqb-true b 35 e))

-- an end that stands there is read
end_read : (text : List ℕ) → IsEnd text → ends text ≡ true
end_read text end = elim end [
  | inl none ↦ ap ends none
  | inr comment ↦ ap ends comment.1
]

-- a line that is read to its end has that one triple
some_line : (b : Bool) (t : Triple) (ts : List Triple) → cond b (Some (t ∷ [])) None ≡ Some ts → (b ≡ true) × (t ∷ [] ≡ ts)
some_line true t ts e = (refl, some_is (t ∷ []) ts e)
some_line false t ts e = absurd cc

-- how a triple goes on, to the end of its line
abbrev one : Triple_read → Option (List Triple)
one t = cond (ends (after is_blank t.1)) (Some (t.0 ∷ [])) None

-- the triples that are read of a line are its triples
pub line_sound : (line : List ℕ) (ts : List Triple) → line_at line ≡ Some ts → IsLine line ts
unfolding line_at
line_sound line ts e =
    elim (ends (after is_blank line)) as (λ b. ends (after is_blank line) ≡ b → cond b (Some []) (triple_at (after is_blank line) >>= one) ≡ Some ts → IsLine line ts) [
      | true ↦ λ q h. subst (IsLine line) (some_is [] ts h) (after is_blank line, spaced_after line, end_of (after is_blank line) q)
      | false ↦ λ q h.
          let a = bind_some (triple_at (after is_blank line)) one ts h in
          let g = some_line (ends (after is_blank a.0.1)) a.0.0 ts a.2 in
          subst (IsLine line) g.1 (record {
            text = after is_blank line;
            rest = a.0.1;
            end = after is_blank a.0.1;
            space = spaced_after line;
            reads = triple_sound (after is_blank line) a.0.0 a.0.1 a.1;
            last_space = spaced_after a.0.1;
            is_end = end_of (after is_blank a.0.1) g.0;
          })
    ] refl e

-- a triple begins as no comment does
subject_no_end : (text : List ℕ) (t : Term) (rest : List ℕ) → IsSubject text t rest → ends text ≡ false
subject_no_end text (terms.Iri iri) rest h = ap ends h.spelled
subject_no_end text (terms.Blank label) rest h = ap ends h.spelled
subject_no_end text (terms.Literal lexical datatype lang) rest h = absurd h

-- the triples of a line are read
pub line_complete : (line : List ℕ) (ts : List Triple) → IsLine line ts → line_at line ≡ Some ts
unfolding line_at
line_complete line [] (text, space, end) = rw (skipped line text space, end_read text end) refl
line_complete line (t ∷ []) h =
    let triple = triple_complete h.text t h.rest h.reads in
    let no_end = subject_no_end h.text t.subject h.reads.after_subject h.reads.subject in
    rw (skipped line h.text h.space, no_end, triple, skipped h.rest h.end h.last_space, end_read h.end h.is_end) refl
line_complete line (t ∷ u ∷ ts) h = absurd h
