-- A part's text reads back as the part.
use Rattle.std.proofs.Common.{◌≡◌, inl, inr, ◌≤◌, ◌+◌, ℕ, max, List, [], ◌∷◌, length, map, refl, sym, subst, ap, ◌∙◌, arith, codes}
use Rattle.std.proofs.lemmas.Bool.{cases_lt}
use Rattle.term_core.specs.Bags.{In}
use Rattle.term_core.specs.Mappings.{Name}
use Rattle.term_core.proofs.Bags.{from_In-map}
use Rattle.sparql_tree.specs.Accepted.{IsAccepted}
use Rattle.sparql_tree.specs.Algebra.{Algebra}
use Rattle.sparql_tree.specs.Groups.{Query}
use Rattle.sparql_tree.specs.Heads.{is}
use Rattle.sparql_tree.specs.Prologue.{ended, no_prefixes}
use Rattle.sparql_tree.specs.Queries.{all_rows, select_star, no_where, no_grouping, no_having, no_ordering, no_slice, select}
use Rattle.sparql_tree.specs.Refusals.{AreSymbols}
use Rattle.sparql_tree.specs.Sizes.{depth, deepest_expr, weight}
use Rattle.sparql_tree.specs.Symbols.{lexemes, bare}
use Rattle.sparql_tree.specs.Translation.{translation}
use Rattle.sparql_tree.specs.Trees.{IsTree}
use Rattle.sparql_tree.specs.Unsupported.{deepest}
use Rattle.sparql_tree.specs.Variables.{variables}
use Rattle.sparql_tree.specs.declared.symbol.Shape.TheVariants as s
use Rattle.sparql_tree.specs.declared.symbol.Symbol.{Symbol}
use Rattle.sparql_symbol.proofs.Judged.{tokens-of}
use Rattle.sparql_translation.specs.Splits.{parts_of, tree_from}
use Rattle.sparql_print.specs.ExprText.{spaced}
use Rattle.sparql_print.specs.PartText.{group_text, part_text}
use Rattle.sparql_print.proofs.Pieces.{spaced-shown, star-shown}
use Rattle.sparql_print.proofs.SpelledTokens.{text-spelled}
use Rattle.sparql_algebra.specs.Cuts.{PartOf, Split, part_of, split_of}
use Rattle.sparql_algebra.specs.Prepared.{IsTooLarge, IsModest, PartsFit, Accepted}
use Rattle.sparql_algebra.proofs.ServerParts.{one_part, part_alone}
use Rattle.part_texts.specs.ReadBack.{SpellsOperators, IsReadBack}
use Rattle.part_texts.specs.Rules.{KeepsRules}
use Rattle.part_texts.proofs.Forms.{query_of_part, group_symbols, IsPart, IsWritten}
use Rattle.part_texts.proofs.Meaning.{means-back, part-of}
use Rattle.part_texts.proofs.Rules.{query-keeps}
use Rattle.part_texts.proofs.PartRules.{weaker, part-breaches}
use Rattle.part_texts.proofs.Shown.{group-shown}
use Rattle.part_texts.proofs.Back.{group-back}
use Rattle.part_texts.proofs.Front.{IsSelected, selected}
use Rattle.part_texts.proofs.ReadGroups.{query-written}
use Rattle.part_texts.proofs.Labels.{text-labelled}
use Rattle.part_texts.proofs.Translated.{means-written}
use Rattle.part_texts.proofs.Parts.{Inherits, inherits}

-- a text within the limits has its symbols
symbols-of : (text : List ℕ) (ss : List Symbol) → IsSelected text ss → (IsTooLarge text → ⊥) → AreSymbols text ss
symbols-of text ss h fit = elim (cases_lt 262144 (length text)) [
  | inl long ↦ absurd (fit (inl long))
  | inr small ↦ elim (cases_lt 256 (deepest (lexemes text h.ts))) [
    | inl deep ↦ absurd (fit (inr (record { ls = lexemes text h.ts; tokens = tokens-of text h.ts small h.tokens; answered = h.answered; deep = deep })))
    | inr shallow ↦ record {
      ls = lexemes text h.ts;
      tokens = tokens-of text h.ts small h.tokens;
      answered = h.answered;
      shallow = shallow;
      declarations = [];
      rest = lexemes text h.ts;
      prologue = ended h.no_prologue;
      are_symbols = h.symbols no_prefixes;
    }
  ]
]

tree-back : (a : Algebra) (before : List Name) → IsPart a → IsWritten a → KeepsRules before a → (IsTooLarge (part_text a) → ⊥) → IsTree (part_text a) (query_of_part a)
tree-back a before p w k fit =
    let ss : List Symbol = bare s.Select ∷ bare s.Star ∷ group_symbols a [] in
    let shown : IsSelected (part_text a) ss = selected (spaced (codes "*") (group_text a)) (λ rest. bare s.Star ∷ group_symbols a rest) (spaced-shown star-shown (group-shown a before p w k)) in
    record {
      symbols = ss;
      are_symbols = symbols-of (part_text a) ss shown fit;
      spelled = record {
        written = query_of_part a;
        spelled = select is all_rows (select_star is) no_where (group-back a before [] p w k) no_grouping no_having no_ordering no_slice;
        kept_once = refl;
      };
    }

-- what a part inherits from a query that is accepted
inherited : (text : List ℕ) (query : Query) → IsAccepted text query → (a : Algebra) → In (parts_of (translation query)) a → Inherits (translation query) a
inherited text query h a i =
    let ss = h.tree.symbols in
    let written = means-written query.body (query-written ss query h.tree.spelled (text-spelled text ss h.tree.are_symbols, text-labelled text ss h.tree.are_symbols)) in
    inherits (translation query) a [] i written (query-keeps query h.keeps)

accepted-back : (a whole : Algebra) → Inherits whole a → (IsTooLarge (part_text a) → ⊥) → IsAccepted (part_text a) (query_of_part a)
accepted-back a whole h fit =
    let p = part-of a h.server in
    record { tree = tree-back a h.before p h.written h.keeps fit; keeps = part-breaches a h.before p h.written h.keeps }

same-meaning : (a whole : Algebra) → Inherits whole a → translation (query_of_part a) ≡ a
same-meaning a whole h = means-back a (part-of a h.server) h.written

pub texts-read-back : (text : List ℕ) (query : Query) → IsAccepted text query → (a : Algebra) → In (parts_of (translation query)) a → (IsTooLarge (part_text a) → ⊥) → SpellsOperators (part_text a) a
texts-read-back text query h a i fit =
    let part = inherited text query h a i in
    record { query = query_of_part a; accepted = accepted-back a (translation query) part fit; star = refl; plain = refl; means = same-meaning a (translation query) part }

-- ---- rules

pub queries-keep : (text : List ℕ) (query : Query) → IsAccepted text query → KeepsRules [] (translation query)
queries-keep text query h = query-keeps query h.keeps

pub parts-keep : (text : List ℕ) (query : Query) → IsAccepted text query → (a : Algebra) → In (parts_of (translation query)) a → KeepsRules [] a
parts-keep text query h a i = let part = inherited text query h a i in weaker part.before [] a (λ name none. absurd none) part.keeps

-- ---- limits

part-modest : (query : Query) (a : Algebra) → IsModest query → Inherits (translation query) a → IsModest (query_of_part a)
part-modest query a h i =
    let same = same-meaning a (translation query) i in
    record {
      shallow = subst (λ b. max (depth b) (max (deepest_expr b) 0) ≤ 100) (sym same) (omega (arith, h.shallow, i.depth, i.deepest));
      light = subst (λ b. weight b + 0 ≤ 4000) (sym same) (omega (arith, h.light, i.weight));
    }

part-read-back : (text : List ℕ) (query : Query) → IsAccepted text query → IsModest query → (a : Algebra) → In (parts_of (translation query)) a → (IsTooLarge (part_text a) → ⊥) → IsReadBack (part_of a)
part-read-back text query h modest a i fit =
    let part = inherited text query h a i in
    let same = same-meaning a (translation query) part in
    let only : map part_of (parts_of (translation (query_of_part a))) ≡ part_of a ∷ [] = ap (λ b. map part_of (parts_of b)) same ∙ ap (map part_of) (one_part a part.server) in
    record {
      split = split_of (query_of_part a);
      accepted = record {
        accepted = accepted-back a (translation query) part fit;
        cut = record { modest = part-modest query a modest part; is_split = refl; fit = subst PartsFit (sym only) (one-fits a fit) };
      };
      plain = refl;
      means = same;
      only = only;
      whole = ap (tree_from 0) same ∙ part_alone 0 a part.server;
      answer = ap variables same;
    }
  where
    one-fits : (a : Algebra) → (IsTooLarge (part_text a) → ⊥) → PartsFit (part_of a ∷ [])
    one-fits a fit part (inl e) large = fit (subst (λ (p : PartOf). IsTooLarge p.text) (sym e) large)
    one-fits a fit part (inr i) large = i

pub parts-read-back : (text : List ℕ) (split : Split) → Accepted text split → (part : PartOf) → In split.parts part → IsReadBack part
parts-read-back text split h part i =
    let found = from_In-map part_of (parts_of (translation split.query)) part (subst (λ (s : Split). In s.parts part) h.cut.is_split i) in
    subst IsReadBack found.2
    (part-read-back text split.query h.accepted h.cut.modest found.0 found.1 (subst (λ (p : PartOf). IsTooLarge p.text → ⊥) (sym found.2) (h.cut.fit part i)))
