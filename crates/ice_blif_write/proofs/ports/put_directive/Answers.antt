use Rattle.ice_blif_write.proofs.Joining.{line_of_two}
use Rattle.ice_blif_write.proofs.ports.put_directive.Goals as goal

pub returns : goal.returns
returns c =
    line_of_two c.args.out.now.items c.extend_from_slice.new.self.items c.put_word.new.out.items c.end_line.new.out.items c.args.directive.now c.args.name.now c.requires c.in_ok-extend_from_slice.ensures.items c.in_ok-put_word.ensures
    c.in_ok-end_line.ensures
