-- What the meaning of a packed design follows from, for a sound netlist.
use Rattle.std.proofs.Common.{ℕ, List}
use Rattle.ice_net.specs.NetlistData.{NetlistData}
use Rattle.ice_cells.specs.Packed.{packed}
use Rattle.ice_pack_laws.specs.PackLaws.{IsSoundInOrder}
use Rattle.ice_pack_laws.proofs.Found.{p}
use Rattle.ice_pack_laws.proofs.Packs.{packed_is}
use Rattle.ice_pack_laws.proofs.Pins.{reads_pads}
use Rattle.ice_pack_laws.proofs.Values.{IsReady}

pub ready_is : (n : NetlistData) (order : List ℕ) → IsSoundInOrder n order → IsReady n (packed n) (p n) order
ready_is n order is =
    let all = packed_is n is.formed in
    record { formed = is.formed; sorted = is.sorted; packed = all; pads = reads_pads n is.formed is.sound.pins_at_ports order is.sorted (p n) all.origins }
