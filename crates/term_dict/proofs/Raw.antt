-- The texts that a record spells, whether they are UTF-8 or not.
use Rattle.std.proofs.Common.{◌≡◌, ℕ, [], ◌∷◌, ◌-◌, List, Option, Result, Some, None, Ok, Err, Bool, true, false, refl, ap, ◌∙◌}
use Rattle.std.specs.Prelude.{if◌then◌else◌, ◌==◌}
use Rattle.std.specs.Str.{is_utf8}
use Rattle.term_core.specs.declared.term.Term.{Term}
use Rattle.term_core.specs.declared.term.Term.TheVariants.{Iri, Blank}
use Rattle.term_dict.specs.declared.dict.Dict.{Dict}
use Rattle.sage_outside.specs.Areas.{part_at, block_of}
use Rattle.sage_outside.proofs.Joins.{part_ok}
use Rattle.term_dict.specs.Layout.{record_area, span_at, or_blame, term_from, record_in, raw_record_in, stored_term, raw_at}
use Rattle.term_dict.specs.Records.{◌>>=◌, text_in, number_front, cut_at, literal_in, raw_literal_at, term_in, raw_in}

-- where a step gives something, what goes on from it does
bind_more : {A : Type 0} (o : Option A) (f g : A → Option Term) (u : Term) → ((x : A) → f x ≡ Some u → g x ≡ Some u) → (o >>= f) ≡ Some u → (o >>= g) ≡ Some u
bind_more None f g u more e = cc
bind_more (Some x) f g u more e = more x e

tested : (b : Bool) (xs : List ℕ) (f : List ℕ → Option Term) (u : Term) → ((if b then Some xs else None) >>= f) ≡ Some u → f xs ≡ Some u
tested true xs f u e = e
tested false xs f u e = cc

-- a text that is there is the bytes
bind_text : (xs : List ℕ) (f : List ℕ → Option Term) (u : Term) → (text_in xs >>= f) ≡ Some u → f xs ≡ Some u
unfolding text_in
bind_text xs f u e = tested (is_utf8 xs) xs f u e

raw_literal : (bytes : List ℕ) (u : Term) → literal_in bytes ≡ Some u → raw_literal_at bytes ≡ Some u
unfolding literal_in raw_literal_at
raw_literal bytes u e =
    bind_more (number_front bytes) _ _ u (λ n. bind_more (number_front n.1) _ _ u (λ m. bind_more (cut_at n.0 m.1) _ _ u (λ front h.
    bind_more (cut_at m.0 front.1) _ _ u (λ middle i. bind_text middle.1 _ u (bind_text middle.0 _ u i)) (bind_text front.0 _ u h)))) e

raw_kind : (a b c : Bool) (rest : List ℕ) (u : Term)
    → (if a then (text_in rest >>= λ label. Some (Blank label)) else if b then (text_in rest >>= λ iri. Some (Iri iri)) else if c then literal_in rest else None) ≡ Some u
    → (if a then Some (Blank rest) else if b then Some (Iri rest) else if c then raw_literal_at rest else None) ≡ Some u
raw_kind true b c rest u e = bind_text rest (λ label. Some (Blank label)) u e
raw_kind false true c rest u e = bind_text rest (λ iri. Some (Iri iri)) u e
raw_kind false false true rest u e = raw_literal rest u e
raw_kind false false false rest u e = cc

pub raw_of : (bytes : List ℕ) (u : Term) → term_in bytes ≡ Some u → raw_in bytes ≡ Some u
raw_of [] u e = cc
raw_of (kind ∷ rest) u e = raw_kind (kind == 0) (kind == 1) (kind == 2) rest u e

pub or_raw : (block : ℕ) (o p : Option Term) (u : Term) → (o ≡ Some u → p ≡ Some u) → or_blame block o ≡ Ok u → or_blame block p ≡ Ok u
or_raw block None p u more e = cc
or_raw block (Some t) p u more e = let same : t ≡ u = cc in ap (or_blame block) (more (ap Some same))

term_read : (b : ℕ) (r : Result (List ℕ) ℕ) (u : Term) → term_from b r ≡ Ok u → (bytes : List ℕ) × (r ≡ Ok bytes) × (or_blame b (term_in bytes) ≡ Ok u)
term_read b (Ok bytes) u e = (bytes, refl, e)
term_read b (Err c) u e = cc

in_record : (d : Dict) (span : Result (ℕ × ℕ) ℕ) (image : List ℕ) (u : Term) → record_in d span image ≡ Ok u → raw_record_in d span image ≡ Ok u
in_record d (Ok span) image u e =
    let b = block_of (record_area d) span.0 in
    let got = term_read b (part_at (record_area d) span.0 (span.1 - span.0) image) u e in
    ap (λ xs. or_blame b (raw_in xs)) (part_ok (record_area d) span.0 (span.1 - span.0) image got.0 got.1).1
    ∙ or_raw b (term_in got.0) (raw_in got.0) u (raw_of got.0 u) got.2
in_record d (Err block) image u e = cc

-- a record that is read as a term spells its texts
pub raw_of_term : (d : Dict) (k : ℕ) (image : List ℕ) (u : Term) → stored_term d k image ≡ Ok u → raw_at d k image ≡ Ok u
raw_of_term d k image u e = in_record d (span_at d k image) image u e
