use Rattle.std.proofs.Common.{◌≡◌, ℕ, List, [], rules, sym, ap, ◌∙◌, subst}
use Rattle.std.specs.List.{flat_map}
use Rattle.indexmap.specs.IndexSet.{insert_key}
use Rattle.ice_chip.specs.Database.{same_pad}
use Rattle.ice_net.specs.NetlistData.{NetlistData}
use Rattle.ice_chip.specs.Views.{package_view}
use Rattle.ice_chip.specs.declared.rows.Pad.{Pad}
use Rattle.ice_back_laws.specs.Numbers.{pad_names}
use Rattle.ice_back.specs.Adding.{with_names, HasRoomForNames}
use Rattle.ice_back.specs.Naming.{new_names, names_of_pins}
use Rattle.ice_back.proofs.FirstPins.{names_by_pins}
use Rattle.ice_back.proofs.Rooms.{names_first, names_step}
use Rattle.ice_back.proofs.names.add_pad_names.Goals as goal
use Rattle.ice_back.proofs.names.add_pad_names.Goals.{In_ok-add_new_names}

pub loop-pin-init : goal.loop-pin-init
loop-pin-init c =
    let left : c.into_iter-pin-iterator.result ≡ c.args.«package».now.pins.entries = c.into_iter-pin-iterator.ensures.into_iter_gives ∙ c.iter-pin-items.ensures.rest in
    let none : c.new-seen.result.keys ≡ [] = search rules in
    let names : flat_map (pad_names (package_view c.args.«package».now)) (package_view c.args.«package».now).pads ≡ names_of_pins c.new-seen.result.keys c.into_iter-pin-iterator.result
    = names_by_pins (package_view c.args.«package».now) c.requires.pads ∙ (λ i. names_of_pins (sym none i) (sym left i)) in
    (subst (HasRoomForNames c.args.netlist.now) names c.requires.room, ap (with_names c.args.netlist.now) names)

pub add_new_names-requires : goal.add_new_names-requires
add_new_names-requires c =
    subst (λ (name : List ℕ). HasRoomForNames c.loop-pin.netlist (new_names c.loop-pin.seen.keys (name, c.in-Some.pad.now))) (sym c.as_bytes.ensures)
    (names_first c.loop-pin.netlist (new_names c.loop-pin.seen.keys (c.in-Some.pin.now, c.in-Some.pad.now)) _
    (subst (λ (left : List (List ℕ × Pad)). HasRoomForNames c.loop-pin.netlist (names_of_pins c.loop-pin.seen.keys left)) c.in-Some.ensures.steps c.loop-pin.invariant.0))

abbrev whole : In_ok-add_new_names → NetlistData
whole c = with_names c.args.netlist.now (flat_map (pad_names (package_view c.args.«package».now)) (package_view c.args.«package».now).pads)

pub loop-pin-preserved : goal.loop-pin-preserved
loop-pin-preserved c =
    subst (λ (keys : List Pad). HasRoomForNames c.add_new_names.new.netlist (names_of_pins keys c.next.new.self) × (whole c ≡ with_names c.add_new_names.new.netlist (names_of_pins keys c.next.new.self)))
    (sym c.in_ok-add_new_names.ensures.seen)
    (names_step c.loop-pin.netlist c.add_new_names.new.netlist (whole c) (new_names c.loop-pin.seen.keys (c.in-Some.pin.now, c.in-Some.pad.now))
    (names_of_pins (insert_key same_pad c.loop-pin.seen.keys c.in-Some.pad.now) c.next.new.self)
    (subst (λ (left : List (List ℕ × Pad)). HasRoomForNames c.loop-pin.netlist (names_of_pins c.loop-pin.seen.keys left)) c.in-Some.ensures.steps c.loop-pin.invariant.0)
    (c.loop-pin.invariant.1 ∙ ap (λ (left : List (List ℕ × Pad)). with_names c.loop-pin.netlist (names_of_pins c.loop-pin.seen.keys left)) c.in-Some.ensures.steps)
    (c.in_ok-add_new_names.ensures.netlist ∙ ap (λ (name : List ℕ). with_names c.loop-pin.netlist (new_names c.loop-pin.seen.keys (name, c.in-Some.pad.now))) c.as_bytes.ensures))
