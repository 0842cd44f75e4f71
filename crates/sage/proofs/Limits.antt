-- A file read to one byte past a limit is as good as the whole file to a reader that refuses what is past the limit.
use Rattle.std.proofs.Common.{◌≡◌, ◌≤◌, ℕ, ◌+◌, List, length, take, min, sym, ap, ◌∙◌, subst, arith, inl, inr}
use Rattle.std.proofs.Math.Seq.{take-length}
use Rattle.std.proofs.lemmas.List.{take_min, length-take}
use Rattle.term_core.specs.declared.term.Triple.{Triple}
use Rattle.term_core.specs.declared.pattern.Pattern.{Pattern}
use Rattle.term_core.specs.Mappings.{Name}
use Rattle.sage.specs.Data.{IsData, IsRefusedDocument, NoData}
use Rattle.nt_text.specs.declared.fault.DataFault.{DataFault}
use Rattle.nt_text.specs.declared.fault.DataFault.TheVariants as data_faults
use Rattle.nt_text.specs.Faults.{WhyRefused, IsNotUtf8, IsRefusedAt, IsBad, HasLongTerm, IsOneTooMany}
use Rattle.nt_text.proofs.Judged.{no_both}
use Rattle.sparql_tree.specs.Accepted.{IsAccepted, IsRefused}
use Rattle.sparql_tree.specs.Groups.{Query}
use Rattle.sparql_tree.specs.declared.fault.QueryFault.{QueryFault}
use Rattle.sparql_tree.specs.declared.fault.QueryFault.TheVariants as faults
use Rattle.sparql_tree.specs.declared.fault.Size.TheVariants as sizes
use Rattle.sparql_algebra.specs.Cuts.{Split}
use Rattle.sparql_algebra.specs.Prepared.{Accepted, IsOfUncut}
use Rattle.sparql_algebra.proofs.Accepting.{not_both}
use Rattle.sage.specs.declared.refusal.QueryRefusal.{QueryRefusal}
use Rattle.sage.specs.declared.refusal.QueryRefusal.TheVariants as query_refusals
use Rattle.sage.specs.Answers.{Answers, AsksPattern, NoQuery, WhyNoQuery}

pub within : (n : ℕ) (file : List ℕ) → length file ≤ n → take n file ≡ file
within n file short =
    let all : min n (length file) ≡ length file = omega (arith, short) in
    sym (take_min n file) ∙ ap (λ k. take k file) all ∙ take-length file

kept : (n : ℕ) (file : List ℕ) → length (take (n + 1) file) ≤ n → take (n + 1) file ≡ file
kept n file short = within (n + 1) file (omega (arith, short, length-take (n + 1) file))

kept_whole : (n : ℕ) (file : List ℕ) → length file ≤ n → take (n + 1) file ≡ file
kept_whole n file short = within (n + 1) file (omega (arith, short))

pub data_back : (file : List ℕ) (triples : List Triple) → IsData (take 268435457 file) triples → IsData file triples
data_back file triples h = subst (λ bytes. IsData bytes triples) (kept 268435456 file h.limits.bytes_fit) h

accepted_back : (text : List ℕ) (query : Query) → IsAccepted (take 262145 text) query → IsAccepted text query
accepted_back text query h = subst (λ bytes. IsAccepted bytes query) (kept 262144 text h.tree.are_symbols.tokens.small) h

accepted_on : (text : List ℕ) (query : Query) → IsAccepted text query → IsAccepted (take 262145 text) query
accepted_on text query h = subst (λ bytes. IsAccepted bytes query) (sym (kept_whole 262144 text h.tree.are_symbols.tokens.small)) h

split_back : (text : List ℕ) (split : Split) → Accepted (take 262145 text) split → Accepted text split
split_back text split h = subst (λ bytes. Accepted bytes split) (kept 262144 text h.accepted.tree.are_symbols.tokens.small) h

split_on : (text : List ℕ) (split : Split) → Accepted text split → Accepted (take 262145 text) split
split_on text split h = subst (λ bytes. Accepted bytes split) (sym (kept_whole 262144 text h.accepted.tree.are_symbols.tokens.small)) h

query_back : (text : List ℕ) (names : List Name) (pattern : Pattern) → AsksPattern (take 262145 text) names pattern → AsksPattern text names pattern
query_back text names pattern h = record { split = h.split; accepted = split_back text h.split h.accepted; plain = h.plain; alone = h.alone; names_are = h.names_are }

query_on : (text : List ℕ) (names : List Name) (pattern : Pattern) → AsksPattern text names pattern → AsksPattern (take 262145 text) names pattern
query_on text names pattern h = record { split = h.split; accepted = split_on text h.split h.accepted; plain = h.plain; alone = h.alone; names_are = h.names_are }

pub answers_back : (document query quanta out err : List ℕ) → Answers (take 268435457 document) (take 262145 query) quanta out err → Answers document query quanta out err
answers_back document query quanta out err h = record {
  triples = h.triples;
  is_data = data_back document h.triples h.is_data;
  names = h.names;
  pattern = h.pattern;
  is_query = query_back query h.names h.pattern h.is_query;
  over = h.over;
}

-- a cause of what was read is one of the whole file
why_back : (file : List ℕ) (fault : DataFault) → WhyRefused (take 268435457 file) fault → WhyRefused file fault
why_back file data_faults.TooLong h = omega (arith, h, length-take 268435457 file)
why_back file (data_faults.NotUtf8 place) h = subst (λ bytes. IsNotUtf8 bytes place) (kept 268435456 file h.fits) h
why_back file (data_faults.BadLine n) h = subst (λ bytes. IsRefusedAt bytes n IsBad) (kept 268435456 file h.fits) h
why_back file (data_faults.TermTooLong n) h = subst (λ bytes. IsRefusedAt bytes n HasLongTerm) (kept 268435456 file h.fits) h
why_back file (data_faults.TooMany n) h = subst (λ bytes. IsRefusedAt bytes n IsOneTooMany) (kept 268435456 file h.fits) h
why_back file data_faults.Memory h = tt

pub refused_back : (file : List ℕ) (fault : DataFault) → IsRefusedDocument (take 268435457 file) fault → IsRefusedDocument file fault
refused_back file fault h = record { why = why_back file fault h.why; named = h.named }

-- bytes that are refused are no data
pub refused_none : (file : List ℕ) (fault : DataFault) → IsRefusedDocument file fault → NoData file
refused_none file fault h triples is_data = no_both file triples fault h.named is_data.document is_data.limits h.why

pub some_data_back : (document : List ℕ) → (triples : List Triple) × IsData (take 268435457 document) triples → (triples : List Triple) × IsData document triples
some_data_back document some = (some.0, data_back document some.0 some.1)

no_query_back : (query : List ℕ) → NoQuery (take 262145 query) → NoQuery query
no_query_back query none names pattern h = none names pattern (query_on query names pattern h)

-- a cause of what was read is one of the whole text
refusal_back : (text : List ℕ) (fault : QueryFault) → IsRefused (take 262145 text) fault → IsRefused text fault
refusal_back text (faults.TooLarge sizes.Text) h = omega (arith, h, length-take 262145 text)
refusal_back text (faults.TooLarge sizes.Nesting) h = subst (λ bytes. IsRefused bytes (faults.TooLarge sizes.Nesting)) (kept 262144 text h.tokens.small) h
refusal_back text (faults.TooLarge sizes.Depth) h = absurd h
refusal_back text (faults.TooLarge sizes.Weight) h = absurd h
refusal_back text (faults.TooLarge sizes.Part) h = absurd h
refusal_back text (faults.Lex place) h = subst (λ bytes. IsRefused bytes (faults.Lex place)) (kept 262144 text h.0) h
refusal_back text (faults.Unsupported what) h = subst (λ bytes. IsRefused bytes (faults.Unsupported what)) (kept 262144 text h.tokens.small) h
refusal_back text faults.NotAQuery h = subst (λ bytes. IsRefused bytes faults.NotAQuery) (kept 262144 text h.are_symbols.tokens.small) h
refusal_back text (faults.Scope name) h = subst (λ bytes. IsRefused bytes (faults.Scope name)) (kept 262144 text h.tree.are_symbols.tokens.small) h
refusal_back text faults.Memory h = absurd h

uncut_back : (text : List ℕ) (fault : QueryFault) → IsOfUncut (take 262145 text) fault → IsOfUncut text fault
uncut_back text fault h = record { query = h.query; accepted = accepted_back text h.query h.accepted; why = h.why }

pub why_no_query_back : (query : List ℕ) (cause : QueryRefusal) → WhyNoQuery cause (take 262145 query) → WhyNoQuery cause query
why_no_query_back query (query_refusals.Fault fault) h = (h.0, elim h.1 [ inl refused ↦ inl (refusal_back query fault refused) | inr uncut ↦ inr (uncut_back query fault uncut) ])
why_no_query_back query query_refusals.Form h = record { split = h.split; accepted = split_back query h.split h.accepted; none = no_query_back query h.none }

-- a query that is not answered asks for no pattern alone
pub not_asked : (query : List ℕ) (cause : QueryRefusal) → WhyNoQuery cause query → NoQuery query
not_asked query (query_refusals.Fault fault) h names pattern asks = not_both query asks.split fault asks.accepted h.1
not_asked query query_refusals.Form h names pattern asks = h.none names pattern asks
