use Rattle.std.proofs.Common.{All, length, sym, subst}
use Rattle.ice_cells.specs.declared.design.Design.{Design}
use Rattle.ice_cells.specs.Packed.{plan_of}
use Rattle.ice_pack.specs.Marks.{HasPort}
use Rattle.ice_pack.proofs.Padding.{ports_are_within}
use Rattle.ice_pack.proofs.packing.pack.Goals as goal

pub with_reads-requires : goal.with_reads-requires
with_reads-requires c =
    subst (λ (d : Design). All (HasPort (length d.pads)) d.pads) (sym c.in_ok-design.ensures) (ports_are_within (plan_of c.args.sound.now) c.args.sound.now.cells c.args.sound.now.ports)
