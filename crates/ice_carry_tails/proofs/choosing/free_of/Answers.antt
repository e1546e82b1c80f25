use Rattle.std.proofs.Common.{◌<◌, ◌∙◌, All, List, length, ap, sym, subst}
use Rattle.ice_net.specs.NetlistData.{NetlistData}
use Rattle.ice_net.specs.declared.cell.Cell.{Cell}
use Rattle.ice_carry_tails.proofs.Owned.{free_is}
use Rattle.ice_carry_tails.proofs.choosing.free_of.Goals as goal

pub free_by-requires : goal.free_by-requires
free_by-requires c =
    subst (λ (cells : List Cell). All (λ table. table < length cells) c.args.tables.now) (sym (c.cells-cells.ensures.cells ∙ ap (λ (m : NetlistData). m.cells) c.netlist.ensures.netlist)) c.requires.below

pub returns : goal.returns
returns c =
    free_is c.args.sound.now c.args.found.now c.cells-cells.result.now c.deref.result.now c.in_ok-facts.facts c.as_slice.result.now c.args.tables.now c.in_ok-free.free.items c.requires.found
    (c.cells-cells.ensures.cells ∙ ap (λ (m : NetlistData). m.cells) c.netlist.ensures.netlist) (c.deref.ensures.value ∙ c.in_ok-bare.ensures) c.in_ok-facts.ensures
    (c.as_slice.ensures ∙ c.in_ok-homes.ensures.carriers) c.in_ok-free.ensures
