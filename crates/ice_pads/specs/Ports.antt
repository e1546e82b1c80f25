-- The pads and pull-ups of all ports, in port order.
use Rattle.std.specs.Prelude.{ℕ, Bool, ◌&&◌, not, is_some, Option, None, Some, unwrap_or, Result, Ok, Err, List, [], ◌∷◌, ◌++◌, find, length}
use Rattle.std.specs.List.{list_any}
use Rattle.ice_net.specs.NetlistData.{NetlistData}
use Rattle.ice_chip.specs.Database.{Parts, same_pad}
use Rattle.ice_chip.specs.declared.rows.Pad.{Pad}
use Rattle.ice_pads.specs.declared.want.Want.{Want}
use Rattle.ice_pads.specs.declared.given.Given.{Given}
use Rattle.ice_pads.specs.declared.given.Chosen.{Chosen}
use Rattle.ice_pads.specs.declared.fault.PinFault.{PinFault}
use Rattle.ice_pads.specs.declared.fault.PinFault.TheVariants.{NoPadLeft}
use Rattle.ice_pads.specs.PadWires.{suits}
use Rattle.ice_pads.specs.Constraints.{of_port, of_pad, port_name, ◌>>=◌}

-- no constraint gives the pad, and no port before has it
abbrev pub is_free : List Given → List Chosen → Pad → Bool
is_free given chosen pad = not (is_some (of_pad given pad)) && not (list_any (λ c. same_pad pad c.pad) chosen)

-- a free pad of the package that has the wires
abbrev pub is_fit : Parts → List Given → List Chosen → Want → Pad → Bool
is_fit parts given chosen want pad = is_free given chosen pad && suits parts want pad

abbrev pub by_free : NetlistData → ℕ → Want → Option Pad → Result Chosen PinFault
by_free n k want None = Err (NoPadLeft (port_name n k))
by_free n k want (Some pad) = Ok (record { pad = pad; pullup = want.pullup })

-- the pad that a constraint gives, whose pull-up outweighs the port's; else the first free one
abbrev pub by_given : Parts → List Pad → NetlistData → List Given → List Chosen → ℕ → Want → Option Given → Result Chosen PinFault
by_given parts pads n given chosen k want (Some g) = Ok (record { pad = g.pad; pullup = unwrap_or g.pullup want.pullup })
by_given parts pads n given chosen k want None = by_free n k want (find (is_fit parts given chosen want) pads)

-- what the next port gets behind those before it
abbrev pub next_chosen : Parts → List Pad → NetlistData → List Given → List Chosen → Want → Result Chosen PinFault
next_chosen parts pads n given chosen want = by_given parts pads n given chosen (length chosen) want (of_port given (length chosen))

-- what the ports before got, and then this one
abbrev pub with_next : List Chosen → Result Chosen PinFault → Result (List Chosen) PinFault
with_next chosen said = said >>= (λ c. Ok (chosen ++ c ∷ []))

-- what all ports get, or the first for which no pad is left
abbrev pub all_chosen : Parts → List Pad → NetlistData → List Given → List Chosen → List Want → Result (List Chosen) PinFault
all_chosen parts pads n given chosen [] = Ok chosen
all_chosen parts pads n given chosen (want ∷ wants) = with_next chosen (next_chosen parts pads n given chosen want) >>= (λ more. all_chosen parts pads n given more wants)
