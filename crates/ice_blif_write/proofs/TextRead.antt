-- The text that is written for a netlist has this netlist.
use Rattle.std.proofs.Common.{◌≡◌, ℕ, List, [], ◌∷◌, ◌++◌, length, map, codes, refl, sym, ap, ◌∙◌, append-nil, All}
use Rattle.std.specs.List.{AllByRecursion, flat_map}
use Rattle.std.proofs.lemmas.List.Elements.{recursion_from_All, All-get_or}
use Rattle.ice_base.specs.Text.{lines, numbered, next_number}
use Rattle.ice_base.proofs.TextLines.{all_append}
use Rattle.ice_net.specs.declared.cell.Cell.{Cell}
use Rattle.ice_net.specs.declared.port.Port.{Port}
use Rattle.ice_net.specs.Formed.{IsBelow, IsPortBelow, IsFormedCell}
use Rattle.ice_net.specs.NetlistData.{NetlistData, empty_netlist}
use Rattle.ice_blif.specs.Grammar.{lines_say, no_rams}
use Rattle.ice_blif.specs.JoinedLines.{FilledLine, last_number}
use Rattle.ice_blif.specs.State.{finished}
use Rattle.ice_blif.specs.Reading.{NetReading}
use Rattle.ice_blif_write.specs.RoundTrip.{IsName, IsDefinedCell, IsPlainCell, IsSmallCell, named_port, named_cell, WrittenIsRead}
use Rattle.ice_blif_write.specs.Text.{Words, name_of, port_lines, cell_lines, netlist_lines, blif_text}
use Rattle.ice_blif_write.proofs.CellRead.{MayBeNamed, all_named}
use Rattle.ice_blif_write.proofs.CellsRead.{cells_read}
use Rattle.ice_blif_write.proofs.LineWords.{plain_name, port_words, cell_words}
use Rattle.ice_blif_write.proofs.Plain.{IsWhole, all_whole, taken_plain}
use Rattle.ice_blif_write.proofs.PortsRead.{at_ports, ports_read}
use Rattle.ice_blif_write.proofs.Reading.{Ends, HasRead, finished_names, finished_ports}
use Rattle.ice_blif_write.proofs.WrittenLines.{AreWords, text_lines}

-- ---- the end
at_end : (n : NetlistData) (r : NetReading) → HasRead n n.ports n.cells r → Ends n r ((codes ".end", []) ∷ [])
at_end n r has last k =
    let m : NetlistData = finished r.netlist r.last in
    let nothing : List (List ℕ) = [] in
    let names : m.names ≡ r.netlist.names ++ nothing = finished_names r.netlist r.last ∙ sym (append-nil r.netlist.names) in (
      m,
      refl,
      record {
        ports = ap (λ ns. map (named_port ns) m.ports) names ∙ ap (λ ports. map (named_port (r.netlist.names ++ nothing)) ports) (finished_ports r.netlist r.last) ∙ has.ports nothing;
        cells = ap (λ ns. map (named_cell ns) m.cells) names ∙ has.cells nothing;
      },
    )

-- ---- words
ports_words : (names : List (List ℕ)) → All IsName names → (ports : List Port) → AllByRecursion (IsPortBelow (length names)) ports → AllByRecursion AreWords (flat_map (port_lines names) ports)
ports_words names are [] below = tt
ports_words names are (p ∷ ports) below =
    all_append AreWords (port_lines names p) (flat_map (port_lines names) ports) (port_words (name_of names p.signal) p.way (All-get_or IsName names p.signal.0 [] below.0 are)) (ports_words names are ports below.1)

cells_words : (names : List (List ℕ)) → All IsName names → (cells : List Cell) → AllByRecursion (IsFormedCell (length names)) cells → AllByRecursion AreWords (flat_map (cell_lines names) cells)
cells_words names are [] formed = tt
cells_words names are (cell ∷ cells) formed =
    all_append AreWords (cell_lines names cell) (flat_map (cell_lines names) cells)
    (cell_words names cell.kind cell.line cell.ins cell.outs
    (all_append (MayBeNamed names) cell.ins cell.outs (all_named names are cell.ins (recursion_from_All (IsBelow (length names)) cell.ins formed.0.ins_below))
    (all_named names are cell.outs (recursion_from_All (IsBelow (length names)) cell.outs formed.0.outs_below))))
    (cells_words names are cells formed.1)

-- ---- the text
pub text_read : WrittenIsRead
text_read n formed small single writable =
    let ports : AllByRecursion (IsPortBelow (length n.names)) n.ports = recursion_from_All (IsPortBelow (length n.names)) n.ports formed.ports in
    let cells : AllByRecursion (IsFormedCell (length n.names)) n.cells = recursion_from_All (IsFormedCell (length n.names)) n.cells formed.cells in
    let end : List Words = (codes ".end", []) ∷ [] in
    let below : List Words = flat_map (cell_lines n.names) n.cells ++ end in
    let are : AllByRecursion AreWords (netlist_lines n) = (
      (plain_name (codes ".model") refl, (plain_name (codes "back") refl, tt)),
      all_append AreWords (flat_map (port_lines n.names) n.ports) below (ports_words n.names writable.names n.ports ports)
          (all_append AreWords (flat_map (cell_lines n.names) n.cells) end (cells_words n.names writable.names n.cells cells) ((plain_name (codes ".end") refl, tt), tt)),
    ) in
    let read : Ends n (at_ports empty_netlist) (flat_map (port_lines n.names) n.ports ++ below) =
    ports_read n below single ports
    (λ m has. cells_read n end writable.names (at_end n) [] n.cells (at_ports m) refl cells
    (recursion_from_All (IsDefinedCell n.names) n.cells writable.outputs) (recursion_from_All IsSmallCell n.cells small)
    (record { ports = has.are; cells = λ later. ap (λ cs. map (named_cell (m.names ++ later)) cs) has.cells }))
    [] n.ports empty_netlist refl (record { are = λ later. refl; cells = refl }) in
    let last : ℕ = last_number 0 (numbered 1 (lines (blif_text n))) in
    let result = read last (next_number 1) in
    let raw : NetlistData = result.0 in
    let whole : AllByRecursion IsWhole raw.cells =
    all_whole n.names raw.names raw.cells n.cells (length n.names) result.2.cells (recursion_from_All IsPlainCell n.cells writable.plain) cells in
    (raw, (raw, ap (λ (ls : List FilledLine). lines_say no_rams last ls) (text_lines (netlist_lines n) are) ∙ result.1, taken_plain raw whole), result.2)
