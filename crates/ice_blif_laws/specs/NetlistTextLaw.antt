-- What a netlist text says is what the reader makes of it.
use Rattle.std.specs.Prelude.{◌≡◌, ℕ, Some, List, Ok}
use Rattle.ice_net.specs.NetlistData.{NetlistData}
use Rattle.ice_ram_read.specs.ClosedNetlists.{ClosedNetlistData, closed_netlist_of, without_rams}
use Rattle.ice_blif_laws.specs.NetlistText.{netlist_in}
use Rattle.ice_blif_laws.specs.ClosedText.{closed_in}

-- a text that the reader takes says the closed netlist that the reader makes of it
abbrev pub TextsSayClosedNetlists : Type 0
TextsSayClosedNetlists = (text : List ℕ) (closed : ClosedNetlistData) → closed_netlist_of text ≡ Ok closed → closed_in text ≡ Some closed

-- one without RAMs says the netlist alone
abbrev pub NetlistTextsSayNetlists : Type 0
NetlistTextsSayNetlists = (text : List ℕ) (n : NetlistData) → closed_netlist_of text ≡ Ok (without_rams n) → netlist_in text ≡ Some n
