use Rattle.std.proofs.Common.{◌++◌, ◌∷◌, [], codes}
use Rattle.ice_back.proofs.Rooms.{names_first, names_rest}
use Rattle.ice_back.proofs.names.add_pin_names.Goals as goal

pub add_pin_name-requires : goal.add_pin_name-requires
add_pin_name-requires c =
    names_first c.args.netlist.now ((codes "p_" ++ c.args.pin.now) ∷ []) ((codes "in_" ++ c.args.pin.now) ∷ (codes "h_" ++ c.args.pin.now ++ codes "_in") ∷ (codes "h_" ++ c.args.pin.now ++ codes "_out") ∷ (codes "g_" ++ c.args.pin.now) ∷ []) c.requires

pub add_pin_name-requires-2 : goal.add_pin_name-requires-2
add_pin_name-requires-2 c =
    names_first _ ((codes "in_" ++ c.args.pin.now) ∷ []) ((codes "h_" ++ c.args.pin.now ++ codes "_in") ∷ (codes "h_" ++ c.args.pin.now ++ codes "_out") ∷ (codes "g_" ++ c.args.pin.now) ∷ []) (names_rest c.args.netlist.now _ ((codes "p_" ++ c.args.pin.now) ∷ []) ((codes "in_" ++ c.args.pin.now) ∷ (codes "h_" ++ c.args.pin.now ++ codes "_in") ∷ (codes "h_" ++ c.args.pin.now ++ codes "_out") ∷ (codes "g_" ++ c.args.pin.now) ∷ []) c.requires c.in_ok-add_pin_name.ensures)

pub add_kept_name-requires : goal.add_kept_name-requires
add_kept_name-requires c =
    names_first _ ((codes "h_" ++ c.args.pin.now ++ codes "_in") ∷ []) ((codes "h_" ++ c.args.pin.now ++ codes "_out") ∷ (codes "g_" ++ c.args.pin.now) ∷ []) (names_rest _ _ ((codes "in_" ++ c.args.pin.now) ∷ []) ((codes "h_" ++ c.args.pin.now ++ codes "_in") ∷ (codes "h_" ++ c.args.pin.now ++ codes "_out") ∷ (codes "g_" ++ c.args.pin.now) ∷ []) (names_rest c.args.netlist.now _ ((codes "p_" ++ c.args.pin.now) ∷ []) ((codes "in_" ++ c.args.pin.now) ∷ (codes "h_" ++ c.args.pin.now ++ codes "_in") ∷ (codes "h_" ++ c.args.pin.now ++ codes "_out") ∷ (codes "g_" ++ c.args.pin.now) ∷ []) c.requires c.in_ok-add_pin_name.ensures) c.in_ok-add_pin_name-2.ensures)

pub add_kept_name-requires-2 : goal.add_kept_name-requires-2
add_kept_name-requires-2 c =
    names_first _ ((codes "h_" ++ c.args.pin.now ++ codes "_out") ∷ []) ((codes "g_" ++ c.args.pin.now) ∷ []) (names_rest _ _ ((codes "h_" ++ c.args.pin.now ++ codes "_in") ∷ []) ((codes "h_" ++ c.args.pin.now ++ codes "_out") ∷ (codes "g_" ++ c.args.pin.now) ∷ []) (names_rest _ _ ((codes "in_" ++ c.args.pin.now) ∷ []) ((codes "h_" ++ c.args.pin.now ++ codes "_in") ∷ (codes "h_" ++ c.args.pin.now ++ codes "_out") ∷ (codes "g_" ++ c.args.pin.now) ∷ []) (names_rest c.args.netlist.now _ ((codes "p_" ++ c.args.pin.now) ∷ []) ((codes "in_" ++ c.args.pin.now) ∷ (codes "h_" ++ c.args.pin.now ++ codes "_in") ∷ (codes "h_" ++ c.args.pin.now ++ codes "_out") ∷ (codes "g_" ++ c.args.pin.now) ∷ []) c.requires c.in_ok-add_pin_name.ensures) c.in_ok-add_pin_name-2.ensures) c.in_ok-add_kept_name.ensures)

pub add_pin_name-requires-3 : goal.add_pin_name-requires-3
add_pin_name-requires-3 c =
    names_rest _ _ ((codes "h_" ++ c.args.pin.now ++ codes "_out") ∷ []) ((codes "g_" ++ c.args.pin.now) ∷ []) (names_rest _ _ ((codes "h_" ++ c.args.pin.now ++ codes "_in") ∷ []) ((codes "h_" ++ c.args.pin.now ++ codes "_out") ∷ (codes "g_" ++ c.args.pin.now) ∷ []) (names_rest _ _ ((codes "in_" ++ c.args.pin.now) ∷ []) ((codes "h_" ++ c.args.pin.now ++ codes "_in") ∷ (codes "h_" ++ c.args.pin.now ++ codes "_out") ∷ (codes "g_" ++ c.args.pin.now) ∷ []) (names_rest c.args.netlist.now _ ((codes "p_" ++ c.args.pin.now) ∷ []) ((codes "in_" ++ c.args.pin.now) ∷ (codes "h_" ++ c.args.pin.now ++ codes "_in") ∷ (codes "h_" ++ c.args.pin.now ++ codes "_out") ∷ (codes "g_" ++ c.args.pin.now) ∷ []) c.requires c.in_ok-add_pin_name.ensures) c.in_ok-add_pin_name-2.ensures) c.in_ok-add_kept_name.ensures) c.in_ok-add_kept_name-2.ensures
