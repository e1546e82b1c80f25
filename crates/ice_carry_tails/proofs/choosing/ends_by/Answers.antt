use Rattle.std.proofs.Common.{◌∙◌, ◌<◌, length, get_or, ap, rules}
use Rattle.ice_carry_tails.proofs.Ended.{ends_more}
use Rattle.ice_carry_tails.proofs.choosing.ends_by.Goals as goal

pub loop-i-preserved : goal.loop-i-preserved
loop-i-preserved c =
    let n = c.args.netlist.now in
    let lt : c.loop-i.i < length n.cells = search rules in
    let is = c.index-cells-i.is ∙ ap (λ xs. get_or xs c.loop-i.i c.index-cells-i.result) c.cells-cells.ensures.cells in
    ends_more n c.loop-i.i c.index-cells-i.result c.ends_chain.result c.loop-i.ends.items c.push_if.new.list.items lt is c.ends_chain.ensures c.loop-i.invariant c.in_ok-push_if.ensures
