use Rattle.std.proofs.Common.{◌≡◌, ◌*◌, ◌∙◌, ap, sym, arith, length, Ok, ℕ}
use Rattle.std.specs.Int.{w64, from_be_bytes}
use Rattle.sage_outside.specs.Areas.{part_at}
use Rattle.sage_outside.proofs.Answered.{reads_ok, refused, passed_on}
use Rattle.term_dict.proofs.Places.{pair_read, pair_broken}
use Rattle.term_dict.proofs.dict.Dict.place_pair.Goals as goal

pub returns-clause-found : goal.returns-clause-found
returns-clause-found g c = λ image tells.
    let d = c.args.self.now in
    let k = c.args.k in
    let at : ℕ = 8 * k in
    let bytes = c.read_area.new.buf in
    let long : length bytes ≡ 16 = omega arith in
    let read = reads_ok c.read_area.result _ bytes (part_at c.place_area.result at (length bytes) image) c.in_ok-read_area.was (c.read_area.ensures.found image tells) in
    let here = ap (λ area. part_at area at (length bytes) image) (sym c.place_area.ensures) ∙ read in
    let one = c.from_be_bytes.ensures ∙ ap (from_be_bytes w64) c.copy_from_slice.ensures.after in
    let two = c.from_be_bytes-2.ensures ∙ ap (from_be_bytes w64) c.copy_from_slice-2.ensures.after in
    pair_read d k (length bytes) image bytes long here ∙ ap Ok (λ i. (sym one i, sym two i))

pub returns-in_err-read_area-clause-found : goal.returns-in_err-read_area-clause-found
returns-in_err-read_area-clause-found g c = λ image tells.
    let d = c.args.self.now in
    let at : ℕ = 8 * c.args.k in
    let bytes = c.read_area.new.buf in
    let long : length bytes ≡ 16 = omega arith in
    refused _ _ c.read_area.result c.from_residual.result c.in_err-read_area.field-0.0 _ _ c.in_err-read_area.was (passed_on c.from_residual.result c.in_err-read_area.field-0.0 c.from_residual.ensures)
    (λ b e. pair_broken d c.args.k (length bytes) image b long (ap (λ area. part_at area at (length bytes) image) (sym c.place_area.ensures) ∙ e)) (c.read_area.ensures.found image tells)
