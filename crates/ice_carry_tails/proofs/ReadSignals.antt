-- What is read are signals of the netlist.
use Rattle.std.proofs.Common.{◌≡◌, ℕ, ◌+◌, ◌<◌, List, [], ◌∷◌, ◌++◌, length, get_or, map, take, All, ap, ◌∙◌}
use Rattle.std.specs.List.{flat_map}
use Rattle.std.proofs.lemmas.List.{take_more, append-nil}
use Rattle.std.proofs.lemmas.List.Elements.{All-map, All-append, All-nil, All-head, All-tail}
use Rattle.std.proofs.lemmas.Grind.{flat_map-append}
use Rattle.ice_net.specs.declared.cell.Cell.{Cell}
use Rattle.ice_net.specs.Formed.{IsBelow, IsFormedCell, IsFormed}
use Rattle.ice_net.specs.NetlistData.{NetlistData}
use Rattle.ice_carry_tails.specs.Ends.{ins_of, port_signal, all_read}

ins_below : (count : ℕ) (cells : List Cell) → All (IsFormedCell count) cells → All (IsBelow count) (flat_map ins_of cells)
ins_below count [] all = All-nil (IsBelow count)
ins_below count (cell ∷ cells) all =
    All-append (IsBelow count) cell.ins (flat_map ins_of cells) (All-head (IsFormedCell count) cell cells all).ins_below (ins_below count cells (All-tail (IsFormedCell count) cell cells all))

pub read_below : (n : NetlistData) → IsFormed n → All (IsBelow (length n.names)) (all_read n)
read_below n formed =
    All-append (IsBelow (length n.names)) (flat_map ins_of n.cells) (map port_signal n.ports)
    (ins_below (length n.names) n.cells formed.cells)
    (All-map (IsBelow (length n.names)) port_signal n.ports formed.ports)

pub ins_more : (cells : List Cell) (i : ℕ) (d : Cell) → i < length cells → flat_map ins_of (take (i + 1) cells) ≡ flat_map ins_of (take i cells) ++ (get_or cells i d).ins
ins_more cells i d lt =
    ap (flat_map ins_of) (take_more cells i d lt)
    ∙ flat_map-append ins_of (take i cells) (get_or cells i d ∷ [])
    ∙ ap (λ signals. flat_map ins_of (take i cells) ++ signals) (append-nil (get_or cells i d).ins)
