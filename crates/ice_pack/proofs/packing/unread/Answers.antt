use Rattle.std.proofs.Common.{ap, ◌∙◌}
use Rattle.ice_cells.specs.Packed.{unread_by}
use Rattle.ice_pack.proofs.Planning.{plan_known}
use Rattle.ice_pack.proofs.packing.unread.Goals as goal

pub returns : goal.returns
returns c =
    c.in_ok-design.ensures
    ∙ ap (unread_by c.args.sound.now) (plan_known c.args.sound.now c.as_slice-origins.result.now c.cells.result.now c.as_slice-bare.result.now c.in_ok-facts.facts (c.as_slice-origins.ensures.value ∙ c.in_ok-traced.ensures)
    (c.cells.ensures.cells ∙ ap (λ n. n.cells) c.netlist.ensures.netlist) (c.as_slice-bare.ensures.value ∙ c.in_ok-ports.ensures) c.in_ok-facts.ensures)
