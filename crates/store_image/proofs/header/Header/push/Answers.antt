use Rattle.term_core.specs.Ids.{number_bytes}
use Rattle.store_image.specs.Format.{mark_of}
use Rattle.store_image.specs.Header.{header_bytes}
use Rattle.store_image.proofs.Areas.{six_put}
use Rattle.store_image.proofs.header.Header.push.Goals as goal

pub returns : goal.returns
unfolding header_bytes
returns c =
    let h = c.args.self.now in
    six_put c.args.out.now.items c.push_mark.new.out.items c.push_number.new.out.items c.push_number-2.new.out.items c.push_number-3.new.out.items c.push_number-4.new.out.items
    c.extend_from_slice.new.self.items (mark_of h.format) (number_bytes h.blocks) (number_bytes h.terms) (number_bytes h.triples) (number_bytes h.longest) h.data_id
    c.in_ok-push_mark.ensures c.in_ok-push_number.ensures c.in_ok-push_number-2.ensures c.in_ok-push_number-3.ensures c.in_ok-push_number-4.ensures c.in_ok-extend_from_slice.ensures.items
