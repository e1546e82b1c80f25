-- Without clocks to promote the netlist stays as it is.
use Rattle.std.proofs.Common.{◌≡◌, ℕ, Bool, true, false, Option, None, Some, List, [], ◌∷◌, ◌++◌, length, map, refl, sym, ap, ◌∙◌, append-nil, if◌then◌else◌}
use Rattle.ice_base.specs.declared.number.SignalNo.{SignalNo}
use Rattle.ice_net.specs.declared.cell.Cell.{Cell}
use Rattle.ice_net.specs.declared.kind.CellKind.{CellKind}
use Rattle.ice_net.specs.declared.kind.CellKind.TheVariants.{Lut, Cover, Carry, Flop, PadCell, Global}
use Rattle.ice_net.specs.NetlistData.{NetlistData}
use Rattle.ice_check_promote.specs.Promoted.{buffered_first, buffered_ins, buffered_cell, with_buffers, passes_out, passing_ins, passing_cell, with_passing, promoted_clocks, promoted}

same_first : (next : ℕ) (ins : List (Option SignalNo)) → buffered_first next [] ins ≡ ins
same_first next [] = refl
same_first next (None ∷ pins) = refl
same_first next (Some signal ∷ pins) = refl

same_ins : (next : ℕ) (kind : CellKind) (ins : List (Option SignalNo)) → buffered_ins next [] kind ins ≡ ins
same_ins next (Lut table) ins = refl
same_ins next (Cover table width) ins = refl
same_ins next Carry ins = refl
same_ins next (Flop falling enable reset) ins = same_first next ins
same_ins next (PadCell pin_type pullup) ins = refl
same_ins next Global ins = refl

same_cells : (next : ℕ) (cells : List Cell) → map (buffered_cell next []) cells ≡ cells
same_cells next [] = refl
same_cells next (cell ∷ cells) =
    ap (λ ins. (record cell { ins = ins }) ∷ map (buffered_cell next []) cells) (same_ins next cell.kind cell.ins) ∙ ap (λ rest. cell ∷ rest) (same_cells next cells)

pub without_clocks : (n : NetlistData) (clocks : List ℕ) → clocks ≡ [] → with_buffers n clocks ≡ n
without_clocks n clocks e =
    ap (with_buffers n) e
    ∙ ap (λ (names : List (List ℕ)). record { names = names; ports = n.ports; cells = map (buffered_cell (length n.names) []) n.cells ++ [] }) (append-nil n.names)
    ∙ ap (λ (cells : List Cell). record n { cells = cells }) (append-nil (map (buffered_cell (length n.names) []) n.cells) ∙ same_cells (length n.names) n.cells)

-- no cover has a buffer to read
same_passing : (next : ℕ) (outer : List SignalNo) (kind : CellKind) (outs ins : List (Option SignalNo)) → passing_ins next [] outer kind outs ins ≡ ins
same_passing next outer (Lut table) outs ins = refl
same_passing next outer (Cover table width) outs ins = by (passes_out outer table width outs)
  where
    by : (b : Bool) → (if b then buffered_first next [] ins else ins) ≡ ins
    by true = same_first next ins
    by false = refl
same_passing next outer Carry outs ins = refl
same_passing next outer (Flop falling enable reset) outs ins = refl
same_passing next outer (PadCell pin_type pullup) outs ins = refl
same_passing next outer Global outs ins = refl

all_passing : (next : ℕ) (outer : List SignalNo) (cells : List Cell) → map (passing_cell next [] outer) cells ≡ cells
all_passing next outer [] = refl
all_passing next outer (cell ∷ cells) =
    ap (λ ins. (record cell { ins = ins }) ∷ map (passing_cell next [] outer) cells) (same_passing next outer cell.kind cell.outs cell.ins) ∙ ap (λ rest. cell ∷ rest) (all_passing next outer cells)

pub unpromoted : (n : NetlistData) (outer : List SignalNo) (free : ℕ) (clocks : List ℕ) → clocks ≡ promoted_clocks n free → clocks ≡ [] → promoted n outer free ≡ n
unpromoted n outer free clocks is none =
    ap (λ found. with_passing (length n.names) found outer (with_buffers n found)) (sym is ∙ none)
    ∙ ap (with_passing (length n.names) [] outer) (without_clocks n [] refl)
    ∙ ap (λ (cells : List Cell). record n { cells = cells }) (all_passing (length n.names) outer n.cells)

-- ---- without outer clocks
no_passing : (next : ℕ) (clocks : List ℕ) (kind : CellKind) (outs ins : List (Option SignalNo)) → passing_ins next clocks [] kind outs ins ≡ ins
no_passing next clocks (Lut table) outs ins = refl
no_passing next clocks (Cover table width) outs ins = refl
no_passing next clocks Carry outs ins = refl
no_passing next clocks (Flop falling enable reset) outs ins = refl
no_passing next clocks (PadCell pin_type pullup) outs ins = refl
no_passing next clocks Global outs ins = refl

none_passing : (next : ℕ) (clocks : List ℕ) (cells : List Cell) → map (passing_cell next clocks []) cells ≡ cells
none_passing next clocks [] = refl
none_passing next clocks (cell ∷ cells) =
    ap (λ ins. (record cell { ins = ins }) ∷ map (passing_cell next clocks []) cells) (no_passing next clocks cell.kind cell.outs cell.ins) ∙ ap (λ rest. cell ∷ rest) (none_passing next clocks cells)

pub without_outer : (next : ℕ) (clocks : List ℕ) (n : NetlistData) → with_passing next clocks [] n ≡ n
without_outer next clocks n = ap (λ (cells : List Cell). record n { cells = cells }) (none_passing next clocks n.cells)
