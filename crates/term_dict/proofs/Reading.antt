-- A record is read as the term that it spells.
use Rattle.std.proofs.Common.{◌≡◌, ℕ, ◌+◌, ◌<◌, ◌^◌, ◌++◌, List, length, Some, false, refl, ap, arith, length-append}
use Rattle.std.specs.Int.{w32, to_be_bytes}
use Rattle.std.specs.Prelude.{nat_lt}
use Rattle.std.proofs.lemmas.Nat.{from_be_bytes-to_be_bytes_4}
use Rattle.std.proofs.lemmas.List.{take_at, drop_at}
use Rattle.term_core.specs.declared.term.Term.{Term}
use Rattle.term_core.specs.declared.term.Term.TheVariants.{Iri, Blank, Literal}
use Rattle.term_dict.specs.Records.{record_of, number_front, cut_at, literal_in, term_in}
use Rattle.term_dict.specs.Built.{IsText}
use Rattle.term_dict.proofs.Texts.{text_utf8}

number_back : (n : ℕ) (rest : List ℕ) → n < 2 ^ 32 → number_front (to_be_bytes w32 n ++ rest) ≡ Some (n, rest)
unfolding number_front
number_back n rest h = ap (λ m. Some (m, rest)) (from_be_bytes-to_be_bytes_4 n h)

not_below : (a b : ℕ) → nat_lt (a + b) a ≡ false
not_below a b = grind arith

cut_back : (xs ys : List ℕ) → cut_at (length xs) (xs ++ ys) ≡ Some (xs, ys)
unfolding cut_at
cut_back xs ys =
    let e : nat_lt (length (xs ++ ys)) (length xs) ≡ false = rw (length-append xs ys) (not_below (length xs) (length ys)) in
    rw (e, take_at xs ys (length xs) refl, drop_at xs ys (length xs) refl) refl

literal_back : (lexical datatype lang : List ℕ) → IsText (Literal lexical datatype lang)
    → literal_in (to_be_bytes w32 (length datatype) ++ (to_be_bytes w32 (length lang) ++ (datatype ++ (lang ++ lexical)))) ≡ Some (Literal lexical datatype lang)
unfolding literal_in
literal_back lexical datatype lang is =
    rw (
      number_back (length datatype) (to_be_bytes w32 (length lang) ++ (datatype ++ (lang ++ lexical))) is.datatype_short,
      number_back (length lang) (datatype ++ (lang ++ lexical)) is.lang_short,
      cut_back datatype (lang ++ lexical),
      text_utf8 datatype is.datatype,
      cut_back lang lexical,
      text_utf8 lang is.lang,
      text_utf8 lexical is.text,
    ) refl

pub term_back : (t : Term) → IsText t → term_in (record_of t) ≡ Some t
term_back (Blank label) is = rw (text_utf8 label is.text) refl
term_back (Iri iri) is = rw (text_utf8 iri is.text) refl
term_back (Literal lexical datatype lang) is = literal_back lexical datatype lang is
