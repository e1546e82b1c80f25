use Rattle.std.proofs.Common.{if◌then◌else◌, ap, ◌∙◌}
use Rattle.ice_base_values.specs.System.{reading}
use Rattle.ice_chip.specs.Database.{Parts}
use Rattle.ice_chip.specs.Lookups.{gbufpin_of}
use Rattle.ice_bits.specs.Configuration.{bits_of}
use Rattle.ice_decode.specs.Reads.{global_feed}
use Rattle.ice_sim.specs.declared.points.PointSlot.TheVariants.{Shared}
use Rattle.ice_sim.specs.ChipSlots.{slot_in, fed_slot}
use Rattle.ice_sim.proofs.point_slots.global_slot.Goals as goal

pub returns-then-takes_pad : goal.returns-then-takes_pad
returns-then-takes_pad c =
    c.fed_slot.ensures
    ∙ ap (fed_slot c.args.configured.now.parts (bits_of c.args.configured.now.configuration) c.args.configured.now.bonded) (c.gbufpin_of.ensures ∙ ap (λ (parts : Parts). gbufpin_of parts c.args.global) c.chip.ensures)
    ∙ ap (λ b. if b then fed_slot c.args.configured.now.parts (bits_of c.args.configured.now.configuration) c.args.configured.now.bonded (gbufpin_of c.args.configured.now.parts c.args.global)
    else Shared (reading 0 (slot_in c.args.configured.now.parts c.args.slots.now) (global_feed c.args.configured.now.parts c.args.global))) c.if-takes_pad.ensures
