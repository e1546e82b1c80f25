use Rattle.ice_blif_write.specs.Text.{digits_of}
use Rattle.ice_blif_write.proofs.Joining.{param_put}
use Rattle.ice_blif_write.proofs.cells.put_param.Goals as goal

pub returns : goal.returns
returns c =
    param_put c.args.out.now.items c.extend_from_slice.new.self.items c.put_word.new.out.items c.push.new.self.items c.put_digits.new.out.items c.end_line.new.out.items c.args.name.now (digits_of c.args.width c.args.number)
    c.in_ok-extend_from_slice.ensures.items c.in_ok-put_word.ensures c.in_ok-push.ensures.items c.in_ok-put_digits.ensures c.in_ok-end_line.ensures
