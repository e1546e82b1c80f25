-- What a reader has read of the text that is written for a netlist, line by line.
use Rattle.std.proofs.Common.{◌≡◌, ℕ, false, Option, Result, Ok, List, [], ◌∷◌, ◌++◌, map, if◌then◌else◌, codes, bytes_eq, refl, sym, ap, ◌∙◌, append_assoc}
use Rattle.std.proofs.lemmas.List.{map-append}
use Rattle.ice_base.specs.Text.{next_number}
use Rattle.ice_net.specs.declared.cell.Cell.{Cell}
use Rattle.ice_net.specs.declared.kind.CellKind.{CellKind}
use Rattle.ice_net.specs.declared.port.Port.{Port}
use Rattle.ice_net.specs.NetlistData.{NetlistData}
use Rattle.ice_blif.specs.declared.fault.BlifFault.{BlifFault}
use Rattle.ice_blif.specs.Cells.{◌>>=◌}
use Rattle.ice_blif.specs.Grammar.{line_says, model_says, ended, no_rams}
use Rattle.ice_blif.specs.JoinedLines.{FilledLine}
use Rattle.ice_blif.specs.State.{LastCell, Nothing, Gate, Rows, finished, cover_cell, Memory}
use Rattle.ice_blif.specs.Reading.{NetReading}
use Rattle.ice_blif_write.specs.RoundTrip.{named_signal, named_port, NamedCell, named_cell, IsSameByNames}
use Rattle.ice_blif_write.specs.Text.{Words}
use Rattle.ice_blif_write.proofs.NamesRead.{Grows, Know}
use Rattle.ice_blif_write.proofs.WrittenLines.{lines_from}

-- a line of words with a number
abbrev pub numbered_line : ℕ → Words → FilledLine
numbered_line k ws = record { number = k; first = ws.0; others = ws.1 }

-- from a reader on, the lines end in this netlist, up to line numbers and the list of names
abbrev pub Ends : NetlistData → NetReading → List Words → Type 0
Ends n r wss = (last k : ℕ) → (m : NetlistData) × (model_says no_rams last r (lines_from k wss) ≡ Ok m) × IsSameByNames n m

-- one line more
pub ends_line : (n : NetlistData) (r : NetReading) (s : ℕ → NetReading) (ws : Words) (wss : List Words) → bytes_eq ws.0 (codes ".end") ≡ false
    → ((k : ℕ) → line_says no_rams (numbered_line k ws) r ≡ Ok (s k)) → ((k : ℕ) → Ends n (s k) wss) → Ends n r (ws ∷ wss)
ends_line n r s ws wss other says later last k =
    let end = later k last (next_number k) in (
      end.0,
      ap (λ b. if b then ended r (lines_from (next_number k) wss) else line_says no_rams (numbered_line k ws) r >>= (λ t. model_says no_rams last t (lines_from (next_number k) wss))) other
          ∙ ap (λ (x : Result NetReading BlifFault). x >>= (λ t. model_says no_rams last t (lines_from (next_number k) wss))) (says k) ∙ end.1,
      end.2,
    )

-- the reader has these ports and cells, up to line numbers and the list of names, whatever names come later
pub record HasRead (n : NetlistData) (ps : List Port) (cs : List Cell) (r : NetReading) : Type 0 where
  pub ports : (later : List (List ℕ)) → map (named_port (r.netlist.names ++ later)) r.netlist.ports ≡ map (named_port n.names) ps
  pub cells : (later : List (List ℕ)) → map (named_cell (r.netlist.names ++ later)) (finished r.netlist r.last).cells ≡ map (named_cell n.names) cs

-- ---- the cell made last
pub finished_names : (m : NetlistData) (last : LastCell) → (finished m last).names ≡ m.names
finished_names m Nothing = refl
finished_names m (Gate cell) = refl
finished_names m Memory = refl
finished_names m (Rows cover) = refl

pub finished_ports : (m : NetlistData) (last : LastCell) → (finished m last).ports ≡ m.ports
finished_ports m Nothing = refl
finished_ports m (Gate cell) = refl
finished_ports m Memory = refl
finished_ports m (Rows cover) = refl

pub finished_cells : (m n : NetlistData) (last : LastCell) → m.cells ≡ n.cells → (finished m last).cells ≡ (finished n last).cells
finished_cells m n Nothing e = e
finished_cells m n Memory e = e
finished_cells m n (Gate cell) e = ap (λ cells. cells ++ cell ∷ []) e
finished_cells m n (Rows cover) e = ap (λ cells. cells ++ cover_cell cover ∷ []) e

-- a netlist that has grown from another by names alone
pub record GrewBy (before now : NetlistData) : Type 0 where
  pub grows : Grows before.names now.names
  pub ports : now.ports ≡ before.ports
  pub cells : now.cells ≡ before.cells

-- the cell is this one by the names of its signals, whatever names come later
pub record IsCellOf (names read : List (List ℕ)) (kind : CellKind) (cell was : Cell) : Type 0 where
  pub kind_is : kind ≡ was.kind
  pub ins : Know read cell.ins (map (named_signal names) was.ins)
  pub outs : Know read cell.outs (map (named_signal names) was.outs)

pub grown_names : (before now later : List (List ℕ)) → (g : Grows before now) → now ++ later ≡ before ++ (g.0 ++ later)
grown_names before now later g = ap (λ ns. ns ++ later) g.1 ∙ append_assoc before g.0 later

-- one cell more
pub one_more : (n m : NetlistData) (ports : List Port) (cells : List Cell) (r s : NetReading) (now was : Cell) → HasRead n ports cells r → GrewBy r.netlist m
    → s.netlist ≡ finished m r.last → (finished s.netlist s.last).cells ≡ (finished m r.last).cells ++ now ∷ []
    → IsCellOf n.names m.names now.kind now was → HasRead n ports (cells ++ was ∷ []) s
one_more n m ports cells r s now was has grew netlist made is =
    let names : s.netlist.names ≡ m.names = ap (λ (x : NetlistData). x.names) netlist ∙ finished_names m r.last in
    let own : s.netlist.ports ≡ r.netlist.ports = ap (λ (x : NetlistData). x.ports) netlist ∙ finished_ports m r.last ∙ grew.ports in
    let before : (finished m r.last).cells ≡ (finished r.netlist r.last).cells = finished_cells m r.netlist r.last grew.cells in
    record {
      ports = λ later.
          ap (λ ns. map (named_port (ns ++ later)) s.netlist.ports) names ∙ ap (λ ns. map (named_port ns) s.netlist.ports) (grown_names r.netlist.names m.names later grew.grows)
          ∙ ap (λ ps. map (named_port (r.netlist.names ++ (grew.grows.0 ++ later))) ps) own ∙ has.ports (grew.grows.0 ++ later);
      cells = λ later.
          ap (λ ns. map (named_cell (ns ++ later)) (finished s.netlist s.last).cells) names
          ∙ ap (λ cs. map (named_cell (m.names ++ later)) cs) made
          ∙ map-append (named_cell (m.names ++ later)) (finished m r.last).cells (now ∷ [])
          ∙ ap (λ xs. xs ++ named_cell (m.names ++ later) now ∷ [])
          (ap (λ ns. map (named_cell ns) (finished m r.last).cells) (grown_names r.netlist.names m.names later grew.grows)
          ∙ ap (λ cs. map (named_cell (r.netlist.names ++ (grew.grows.0 ++ later))) cs) before ∙ has.cells (grew.grows.0 ++ later))
          ∙ ap (λ x. map (named_cell n.names) cells ++ x ∷ []) (same later)
          ∙ sym (map-append (named_cell n.names) cells (was ∷ []));
    }
  where
    cell_by : CellKind → List (Option (List ℕ)) → List (Option (List ℕ)) → NamedCell
    cell_by kind ins outs = record { kind = kind; ins = ins; outs = outs }

    same : (later : List (List ℕ)) → named_cell (m.names ++ later) now ≡ named_cell n.names was
    same later =
        ap (λ k. cell_by k (map (named_signal (m.names ++ later)) now.ins) (map (named_signal (m.names ++ later)) now.outs)) is.kind_is
        ∙ ap (λ xs. cell_by was.kind xs (map (named_signal (m.names ++ later)) now.outs)) (is.ins later)
        ∙ ap (λ xs. cell_by was.kind (map (named_signal n.names) was.ins) xs) (is.outs later)
