use Rattle.std.proofs.Common.{◌⊎◌, Err, sym, ap, subst}
use Rattle.sage_outside.specs.Causes.{Rose}
use Rattle.sage_outside.specs.Shelf.{Lacks}
use Rattle.sage.specs.Told.{TellsFile}
use Rattle.sage.proofs.Informs.{no_lines, other_fault, damaged_fault}
use Rattle.sage.proofs.info.file_lines.Goals as goal

pub returns-in-Err-clause-why : goal.returns-in-Err-clause-why
returns-in-Err-clause-why g c =
    let same = c.as_str.ensures.same in
    let files = g.S.Shelf.files c.args.shelf.now in
    no_lines c.in-Err.fault c.header_refusal.result c.args.store.now files _ _ c.header_refusal.ensures
    (λ is. subst (λ name. Lacks files name ⊎ Rose (g.S.Shelf.faults c.args.shelf.now) (g.S.Shelf.faults c.opened_lines.new.shelf)) same (c.in-Err.ensures.failed (ap Err is)))
    (λ is. record {
      there = λ lacks. (let unread = c.in-Err.ensures.there (subst (Lacks files) (sym same) lacks) in other_fault c.in-Err.fault is cc);
      holds = λ file tells. c.in-Err.ensures.not_a_store file (subst (λ name. TellsFile files name file) (sym same) tells) (ap Err is);
    })
    (λ is. record {
      there = λ lacks. (let unread = c.in-Err.ensures.there (subst (Lacks files) (sym same) lacks) in damaged_fault c.in-Err.fault is cc);
      holds = λ file tells. c.in-Err.ensures.damaged file (subst (λ name. TellsFile files name file) (sym same) tells) (ap Err is);
    })
