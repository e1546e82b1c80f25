use Rattle.std.proofs.Common.{◌<◌, length, length-set, get_or, ap, ◌∙◌, arith}
use Rattle.ice_ram.specs.Ram.{after}
use Rattle.ice_ram.proofs.PortLists.{stepped_more}
use Rattle.ice_ram.proofs.ports.step_all.Goals as goal

pub loop-j-preserved : goal.loop-j-preserved
loop-j-preserved c =
    let rams = c.loop-j.rams in
    let j = c.loop-j.j in
    let ram = get_or rams j c.index-rams-j.result in
    let lt : j < length rams = omega (arith, c.loop-j-test.true, c.loop-j.invariant.long) in
    record {
      long = length-set rams j c.step.new.self ∙ c.loop-j.invariant.long;
      done =
          stepped_more c.args.drives.now c.args.k j c.args.rams.now rams ram c.step.new.self lt (ap (λ x. get_or rams j x) c.index-rams-j.is)
          (c.step.ensures ∙ ap (λ pins. (ram.0, after ram.0 ram.1 pins)) c.pins_at-pins.ensures) c.loop-j.invariant.done;
    }
