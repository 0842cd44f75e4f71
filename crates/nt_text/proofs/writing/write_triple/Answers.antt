use Rattle.std.proofs.Common.{◌++◌, ◌∙◌, ap, sym, subst}
use Rattle.std.specs.Str.{IsUtf8}
use Rattle.term_core.specs.Texts.{triple_text}
use Rattle.nt_text.proofs.WrittenText.{triple_utf8}
use Rattle.nt_text.proofs.writing.write_triple.Goals as goal

pub text_of-requires : goal.text_of-requires
text_of-requires c =
    let written = c.in_ok-push_triple.ensures.ok ∙ ap (λ before. before ++ triple_text c.args.triple.now) c.new-out.ensures.items in
    subst IsUtf8 (sym written) (triple_utf8 c.args.triple.now c.term_is_text.ensures c.term_is_text-2.ensures c.term_is_text-3.ensures)
