-- No more global buffers than globals find theirs, whichever are direct.
use Rattle.std.proofs.Common.{◌≡◌, ◌≤◌, Option, None, Some, Result, Ok, Err, List, [], length, map, drop, refl, ap, ap₂, ◌∙◌, arith}
use Rattle.std.specs.List.{range_with_len}
use Rattle.std.proofs.lemmas.List.{length-map}
use Rattle.std.proofs.lemmas.List.FromFn.{length-range_with_len}
use Rattle.ice_net.specs.NetlistData.{NetlistData}
use Rattle.ice_cells.specs.Moves.{renamed_source}
use Rattle.ice_cells.specs.Packed.{plan_of, packed}
use Rattle.ice_cells.specs.Packed as packs
use Rattle.ice_cells.specs.Runs.{fed_numbers, moved_numbers, design_of}
use Rattle.ice_cells.specs.declared.design.Design.{Design}
use Rattle.ice_chip.specs.Database.{Parts, PackageRows}
use Rattle.ice_chip.specs.declared.rows.Pad.{Pad}
use Rattle.ice_pcf.specs.declared.constraint.Constraint.{Constraint}
use Rattle.ice_pads.specs.declared.fault.PinFault.{PinFault}
use Rattle.ice_pads.specs.declared.given.Chosen.{Chosen}
use Rattle.ice_pads.specs.declared.want.Want.{Want}
use Rattle.ice_pads.specs.declared.want.Buffer.{Buffer}
use Rattle.ice_pads.specs.Constraints.{◌>>=◌}
use Rattle.ice_pads.specs.Globals.{globals, direct_choices, left, fed_pins, TakenData, taken_by, globals_of}
use Rattle.ice_pads.specs.Wants.{buffer_of, buffers}
use Rattle.ice_pads.specs.Assign.{PadsData, chosen_pads, pads_with, outer_chosen, with_rams, assigned}
use Rattle.ice_pads.specs.declared.closing.Closing.{Closing}
use Rattle.ice_pads.proofs.Inversions.{ok_same}
use Rattle.ice_pads.proofs.GlobalLaws.{globals_apart, enough}
use Rattle.ice_pads.proofs.DirectLaws.{direct_long, left_long, fed_beside}

-- where global buffers need this the ports get the same pads, and the buffers some globals
abbrev pub IsGiven : Parts → List Constraint → NetlistData → Closing → List Want → (List Pad → List Buffer) → Option PackageRows → PadsData → Type 0
IsGiven parts constraints n closing ws bs bonded pads =
    (taken : TakenData) × (assigned parts constraints n closing ws bs bonded ≡ Ok (record { ports = pads.ports; pullups = pads.pullups; globals = taken.numbers; direct = taken.direct }))

-- as many buffers as there are globals always find theirs: where one is direct, one buffer less chooses, and there is one global less at most
room_left : (parts : Parts) (bs : List Buffer) → length bs ≤ length (globals parts) → length (fed_pins (direct_choices parts [] bs) bs) ≤ length (left (direct_choices parts [] bs) (globals parts))
room_left parts bs le =
    let direct = direct_choices parts [] bs in
    let few = left_long direct (globals parts) (globals_apart parts) in
    let beside = fed_beside direct bs (direct_long parts [] bs) in
    omega (arith, le, few, beside)

globals_found : (parts : Parts) (bs : List Buffer) → length bs ≤ length (globals parts)
    → globals_of parts bs ≡ Ok (taken_by parts (direct_choices parts [] bs) (left (direct_choices parts [] bs) (globals parts)) (fed_pins (direct_choices parts [] bs) bs))
globals_found parts bs le =
    let direct = direct_choices parts [] bs in
    enough parts direct (left direct (globals parts)) (fed_pins direct bs) (room_left parts bs le)

-- what is assigned has the pads and pull-ups that all ports got
ports_are : (pads : PadsData) (globals : Result TakenData PinFault) (rams : Result (List Chosen) PinFault) → (globals >>= (λ taken. rams >>= (λ all. Ok (pads_with all taken)))) ≡ Ok pads
    → (all : List Chosen) × (rams ≡ Ok all) × (chosen_pads all ≡ pads.ports) × (map (λ (c : Chosen). c.pullup) all ≡ pads.pullups)
ports_are pads (Err fault) rams e = cc e
ports_are pads (Ok taken) (Err fault) e = cc e
ports_are pads (Ok taken) (Ok all) e =
    let same : pads_with all taken ≡ pads = ok_same (pads_with all taken) pads (Ok (pads_with all taken)) (Ok pads) refl refl e in
    (all, refl, ap (λ (p : PadsData). p.ports) same, ap (λ (p : PadsData). p.pullups) same)

pub fewer : (parts : Parts) (constraints : List Constraint) (n : NetlistData) (closing : Closing) (ws : List Want) (more bs : List Pad → List Buffer) (bonded : Option PackageRows) (pads : PadsData)
    → ((ports : List Pad) → length (bs ports) ≤ length (globals parts)) → assigned parts constraints n closing ws more bonded ≡ Ok pads → IsGiven parts constraints n closing ws bs bonded pads
fewer parts constraints n closing ws more bs None pads le e = cc e
fewer parts constraints n closing ws more bs (Some bonded) pads le e = by (outer_chosen parts bonded constraints n closing.first ws) refl e
  where
    by : (said : Result (List Chosen) PinFault) → outer_chosen parts bonded constraints n closing.first ws ≡ said
        → (said >>= (λ chosen. globals_of parts (more (chosen_pads chosen)) >>= (λ taken. with_rams parts n chosen closing.rams (drop closing.first ws) >>= (λ all. Ok (pads_with all taken))))) ≡ Ok pads
        → IsGiven parts constraints n closing ws bs (Some bonded) pads
    by (Err fault) g h = cc h
    by (Ok chosen) g h =
        let own = bs (chosen_pads chosen) in
        let taken = taken_by parts (direct_choices parts [] own) (left (direct_choices parts [] own) (globals parts)) (fed_pins (direct_choices parts [] own) own) in
        let same = ports_are pads (globals_of parts (more (chosen_pads chosen))) (with_rams parts n chosen closing.rams (drop closing.first ws)) h in (
          taken,
          ap (λ said. said >>= (λ chosen. globals_of parts (bs (chosen_pads chosen)) >>= (λ taken. with_rams parts n chosen closing.rams (drop closing.first ws) >>= (λ all. Ok (pads_with all taken))))) g
              ∙ ap (λ said. said >>= (λ taken. with_rams parts n chosen closing.rams (drop closing.first ws) >>= (λ all. Ok (pads_with all taken)))) (globals_found parts own (le (chosen_pads chosen)))
              ∙ ap (λ said. said >>= (λ all. Ok (pads_with all taken))) same.1
              ∙ ap₂ (λ ports pullups. Ok (record { ports = ports; pullups = pullups; globals = taken.numbers; direct = taken.direct })) same.2 same.3,
        )

-- ---- how many global buffers there are
pub buffers_long : (d : Design) (ports : List Pad) → length (buffers d ports) ≡ length d.globals
buffers_long d ports = length-map (range_with_len 0 (length d.globals)) (buffer_of d ports) ∙ length-range_with_len 0 (length d.globals)

pub globals_count : (m : NetlistData) → length (design_of m).globals ≡ length (packs.globals_of (plan_of m) m.cells)
globals_count m = length-map (packed m).globals (renamed_source (moved_numbers (packed m)) (fed_numbers (packed m)))
