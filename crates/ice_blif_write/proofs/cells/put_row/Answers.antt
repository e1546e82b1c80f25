use Rattle.std.proofs.Common.{arith}
use Rattle.ice_blif_write.proofs.Joining.{level_put, row_put}
use Rattle.ice_blif_write.proofs.cells.put_row.Goals as goal

pub returns-then-width-eq0 : goal.returns-then-width-eq0
returns-then-width-eq0 c =
    level_put c.args.out.now.items c.push.new.self.items c.end_line.new.out.items c.args.width c.args.number c.if-width-eq0.true c.in_ok-push.ensures.items c.in_ok-end_line.ensures

pub returns : goal.returns
returns c =
    let some = c.if-width-eq0.false in
    row_put c.args.out.now.items c.put_levels.new.out.items c.extend_from_slice.new.self.items c.end_line-2.new.out.items c.args.width c.args.number (omega arith) c.in_ok-put_levels.ensures
    c.in_ok-extend_from_slice.ensures.items c.in_ok-end_line-2.ensures
