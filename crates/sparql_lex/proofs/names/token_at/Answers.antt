use Rattle.std.proofs.Common.{◌≡◌, true, false, drop, length-drop, sym, ap, ◌∙◌, arith}
use Rattle.term_core.specs.Characters.{is_letter}
use Rattle.sparql_lex.specs.Names.{ends_prefix, is_name_part}
use Rattle.sparql_lex.specs.Scan.{run}
use Rattle.sparql_lex.proofs.Places.{Begun, at-word}
use Rattle.sparql_lex.proofs.WordRuns.{known-run, known-at}
use Rattle.sparql_lex.proofs.names.token_at.Goals as goal
use Rattle.sparql_lex.proofs.names.token_at.Goals.{then-known-index+else-colon, else-known-index}

pub returns-clause-found : goal.returns-clause-found
returns-clause-found c =
    let begun : Begun (drop c.args.index c.args.text.now) c.split_at.result.1.now c.index-rest-0.result =
    record { same = c.split_at.ensures.back; some = omega (arith, length-drop c.args.index c.args.text.now); first = c.index-rest-0.is } in
    let letter : is_letter c.index-rest-0.result ≡ true = sym c.is_letter.ensures ∙ c.if-not-is_letter.false in
    elim c.if-known-index.branch [
      | then-known-index+else-colon w ↦
          let none : ends_prefix (drop c.args.index c.args.text.now) false ≡ false =
          ap (λ v. ends_prefix v false) (sym c.split_at.ensures.back) ∙ (sym w.name_run-length.ensures.colon ∙ w.if-colon.false) in
          at-word c.word_run.result begun letter none c.word_run.ensures.value
      | else-known-index w ↦
          at-word c.word_run.result begun letter (known-at c.args.text.now c.args.index c.args.known.now c.requires.sound w.if-known-index.false) c.word_run.ensures.value
    ]

pub returns-clause-sound : goal.returns-clause-sound
returns-clause-sound c =
    elim c.if-known-index.branch [
      | then-known-index+else-colon w ↦
          let none : ends_prefix (drop c.args.index c.args.text.now) false ≡ false =
          ap (λ v. ends_prefix v false) (sym c.split_at.ensures.back) ∙ (sym w.name_run-length.ensures.colon ∙ w.if-colon.false) in
          let length = w.name_run-length.ensures.length ∙ ap (λ v. run is_name_part v) c.split_at.ensures.back in
          λ i low high. known-run c.args.text.now c.args.index none i low (omega (arith, w.known-is, length))
      | else-known-index w ↦ λ i low high. c.requires.sound i low (omega (arith, w.known-is))
    ]
