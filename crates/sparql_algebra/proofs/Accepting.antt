-- A text is accepted as at most one split, or refused for one cause, and never both.
use Rattle.std.proofs.Common.{◌≡◌, ◌⊎◌, inl, inr, ◌<◌, ◌≤◌, ℕ, Bool, true, false, nat_lt, List, [], ◌∷◌, length, refl, sym, ap, subst, ◌∙◌, arith}
use Rattle.std.proofs.lemmas.Bool.{cases_lt}
use Rattle.std.proofs.lemmas.Bool.Decides.{nat_tests}
use Rattle.term_core.specs.Bags.{In}
use Rattle.sparql_tree.specs.Groups.{Query}
use Rattle.sparql_tree.specs.Refusals.{HasNoSymbols}
use Rattle.sparql_tree.specs.Sizes.{query_depth, query_weight}
use Rattle.sparql_tree.specs.declared.fault.QueryFault.{QueryFault}
use Rattle.sparql_tree.specs.declared.fault.QueryFault.TheVariants as faults
use Rattle.sparql_tree.specs.declared.fault.Size.TheVariants as sizes
use Rattle.sparql_read.proofs.Laws.{not-both-answers, some-answer, one-refusal}
use Rattle.sparql_read.proofs.Refused as read
use Rattle.sparql_algebra.specs.Cuts.{PartOf, Split, split_of}
use Rattle.sparql_algebra.specs.Prepared.{IsTooLarge, PartsFit, IsCutOf, Accepted, IsNotCut, IsNotPrepared}

-- ---- at most one

pub one_split : (text : List ℕ) (a b : Split) → Accepted text a → Accepted text b → a ≡ b
one_split text a b h k = h.cut.is_split ∙ (ap split_of (read.one_query text a.query b.query h.accepted k.accepted) ∙ sym k.cut.is_split)

-- the cause that a query which is not cut has
abbrev cause_by : Bool → Bool → QueryFault
cause_by true heavy = faults.TooLarge sizes.Depth
cause_by false true = faults.TooLarge sizes.Weight
cause_by false false = faults.TooLarge sizes.Part

abbrev cause_of : Query → QueryFault
cause_of q = cause_by (nat_lt 100 (query_depth q)) (nat_lt 4000 (query_weight q))

above : (n m : ℕ) → n < m → nat_lt n m ≡ true
above n m h = grind (arith, nat_tests)

not_above : (n m : ℕ) → m ≤ n → nat_lt n m ≡ false
not_above n m h = grind (arith, nat_tests)

the_cause : (q : Query) (fault : QueryFault) → IsNotCut q fault → fault ≡ cause_of q
the_cause q (faults.TooLarge sizes.Depth) h = sym (ap (λ b. cause_by b (nat_lt 4000 (query_weight q))) (above 100 (query_depth q) h.deep))
the_cause q (faults.TooLarge sizes.Weight) h =
    sym (ap (λ b. cause_by b (nat_lt 4000 (query_weight q))) (not_above 100 (query_depth q) h.shallow) ∙ ap (cause_by false) (above 4000 (query_weight q) h.heavy))
the_cause q (faults.TooLarge sizes.Part) h =
    sym (ap (λ b. cause_by b (nat_lt 4000 (query_weight q))) (not_above 100 (query_depth q) h.modest.shallow) ∙ ap (cause_by false) (not_above 4000 (query_weight q) h.modest.light))
the_cause q (faults.TooLarge sizes.Text) h = absurd h
the_cause q (faults.TooLarge sizes.Nesting) h = absurd h
the_cause q (faults.Lex place) h = absurd h
the_cause q (faults.Unsupported what) h = absurd h
the_cause q faults.NotAQuery h = absurd h
the_cause q (faults.Scope name) h = absurd h
the_cause q faults.Memory h = absurd h

pub one_refusal : (text : List ℕ) (a b : QueryFault) → IsNotPrepared text a → IsNotPrepared text b → a ≡ b
one_refusal text a b (inl h) (inl k) = read.one_cause text a b h k
one_refusal text a b (inl h) (inr k) = absurd (read.not_both text k.query a k.accepted h)
one_refusal text a b (inr h) (inl k) = absurd (read.not_both text h.query b h.accepted k)
one_refusal text a b (inr h) (inr k) =
    the_cause h.query a h.why
    ∙ (ap cause_of (read.one_query text h.query k.query h.accepted k.accepted) ∙ sym (the_cause k.query b k.why))

-- ---- never both

not_cut : (split : Split) (fault : QueryFault) → IsCutOf split.query split → IsNotCut split.query fault → ⊥
not_cut split (faults.TooLarge sizes.Depth) h k = omega (arith, h.modest.shallow, k.deep)
not_cut split (faults.TooLarge sizes.Weight) h k = omega (arith, h.modest.light, k.heavy)
not_cut split (faults.TooLarge sizes.Part) h k = h.fit k.part.part (subst (λ (s : Split). In s.parts k.part.part) (sym h.is_split) k.part.among) k.part.large
not_cut split (faults.TooLarge sizes.Text) h k = k
not_cut split (faults.TooLarge sizes.Nesting) h k = k
not_cut split (faults.Lex place) h k = k
not_cut split (faults.Unsupported what) h k = k
not_cut split faults.NotAQuery h k = k
not_cut split (faults.Scope name) h k = k
not_cut split faults.Memory h k = k

pub not_both : (text : List ℕ) (split : Split) (fault : QueryFault) → Accepted text split → IsNotPrepared text fault → ⊥
not_both text split fault h (inl refused) = read.not_both text split.query fault h.accepted refused
not_both text split fault h (inr uncut) =
    not_cut split fault h.cut (subst (λ q. IsNotCut q fault) (read.one_query text uncut.query split.query uncut.accepted h.accepted) uncut.why)

-- ---- always one

-- a text of symbols, or one that is refused before the grammar for another cause, is not too large
pub not_large : (text : List ℕ) (fault : QueryFault) → length text ≤ 262144 → HasNoSymbols text fault → (fault ≡ faults.TooLarge sizes.Nesting → ⊥) → IsTooLarge text → ⊥
not_large text fault short none other (inl long) = omega (arith, short, long)
not_large text fault short none other (inr deep) = other (one-refusal text fault (faults.TooLarge sizes.Nesting) none deep)

large_by : (text : List ℕ) (fault : QueryFault) → length text ≤ 262144 → HasNoSymbols text fault → IsTooLarge text ⊎ (IsTooLarge text → ⊥)
large_by text (faults.TooLarge sizes.Text) short h = absurd (omega (arith, short, h))
large_by text (faults.TooLarge sizes.Nesting) short h = inl (inr h)
large_by text (faults.TooLarge sizes.Depth) short h = absurd h
large_by text (faults.TooLarge sizes.Weight) short h = absurd h
large_by text (faults.TooLarge sizes.Part) short h = absurd h
large_by text (faults.Lex place) short h = inr (not_large text (faults.Lex place) short h (λ e. cc))
large_by text (faults.Unsupported what) short h = inr (not_large text (faults.Unsupported what) short h (λ e. cc))
large_by text faults.NotAQuery short h = absurd h
large_by text (faults.Scope name) short h = absurd h
large_by text faults.Memory short h = absurd h

large_or_not : (text : List ℕ) → IsTooLarge text ⊎ (IsTooLarge text → ⊥)
large_or_not text = elim (cases_lt 262144 (length text)) [
  | inl long ↦ inl (inl long)
  | inr short ↦ elim (some-answer text) [
    | inl found ↦ inr (λ large. elim large [
      | inl long ↦ omega (arith, short, long)
      | inr deep ↦ not-both-answers text found.0 (faults.TooLarge sizes.Nesting) found.1 deep
    ])
    | inr none ↦ large_by text none.0 short none.1
  ]
]

-- one of the parts has a text that is too large, or none has
some_large : (parts : List PartOf) → ((part : PartOf) × In parts part × IsTooLarge part.text) ⊎ PartsFit parts
some_large [] = inr (λ part among large. among)
some_large (first ∷ rest) = elim (large_or_not first.text) [
  | inl large ↦ inl (first, inl refl, large)
  | inr small ↦ elim (some_large rest) [
    | inl more ↦ inl (more.0, inr more.1, more.2)
    | inr fit ↦ inr (λ part among large. elim among [
      | inl is ↦ small (subst (λ (p : PartOf). IsTooLarge p.text) (sym is) large)
      | inr behind ↦ fit part behind large
    ])
  ]
]

-- a query is cut, or is not for some cause
cut_or_not : (q : Query) → IsCutOf q (split_of q) ⊎ ((fault : QueryFault) × IsNotCut q fault)
cut_or_not q = elim (cases_lt 100 (query_depth q)) [
  | inl deep ↦ inr (faults.TooLarge sizes.Depth, record { deep = deep })
  | inr shallow ↦ elim (cases_lt 4000 (query_weight q)) [
    | inl heavy ↦ inr (faults.TooLarge sizes.Weight, record { shallow = shallow; heavy = heavy })
    | inr light ↦ elim (some_large (split_of q).parts) [
      | inl large ↦ inr (faults.TooLarge sizes.Part, record { modest = record { shallow = shallow; light = light }; part = record { part = large.0; among = large.1; large = large.2 } })
      | inr fit ↦ inl (record { modest = record { shallow = shallow; light = light }; is_split = refl; fit = fit })
    ]
  ]
]

pub always : (text : List ℕ) → ((split : Split) × Accepted text split) ⊎ ((fault : QueryFault) × IsNotPrepared text fault)
always text = elim (read.always text) [
  | inl found ↦ elim (cut_or_not found.0) [
    | inl cut ↦ inl (split_of found.0, record { accepted = found.1; cut = cut })
    | inr not ↦ inr (not.0, inr (record { query = found.0; accepted = found.1; why = not.1 }))
  ]
  | inr refused ↦ inr (refused.0, inl refused.1)
]
