-- A netlist with buffers goes through the same steps.
use Rattle.std.proofs.Common.{◌≡◌, ℕ, zero, suc, ◌+◌, ◌<◌, ◌==◌, Bool, true, false, Option, None, Some, List, [], ◌∷◌, length, map, All, refl, ap, ◌∙◌, arith, if◌then◌else◌, eqb-true}
use Rattle.std.specs.Prelude.{slice_index_or}
use Rattle.std.proofs.lemmas.List.Elements.{All-head, All-tail}
use Rattle.ice_base.specs.declared.number.SignalNo.{SignalNo}
use Rattle.ice_base_values.specs.Order.{At}
use Rattle.ice_base_values.specs.System.{reading}
use Rattle.ice_net.specs.declared.cell.Cell.{Cell}
use Rattle.ice_net.specs.declared.kind.CellKind.{CellKind}
use Rattle.ice_net.specs.declared.kind.CellKind.TheVariants.{Lut, Cover, Carry, Flop, PadCell, Global}
use Rattle.ice_net.specs.NetlistData.{NetlistData}
use Rattle.ice_net.specs.Drives.{at_input}
use Rattle.ice_net.specs.Formed.{IsBelow, IsFormedCell, IsFormed}
use Rattle.ice_net.specs.Meaning.{signal_value, shows}
use Rattle.ice_check.proofs.ListsBelow.{at_below}
use Rattle.ice_net_additions.proofs.Growths.{InPairs}
use Rattle.ice_net_additions.proofs.GrownSteps.{ReadSame, DoesSame}
use Rattle.ice_net_additions.proofs.GrownSteps as grown
use Rattle.ice_check_promote.specs.Promoted.{buffered, buffered_pin, buffered_first, buffered_ins, buffered_cell, with_buffers}
use Rattle.ice_check_promote.proofs.Buffers.{growth}
use Rattle.ice_check_promote.proofs.NewValues.{Follows, follows}

-- ---- what inputs read
-- a reader of a clock reads the same behind its buffer
buffered_value : (v after : ℕ → Bool) (next : ℕ) (clocks : List ℕ) (s : ℕ) → ((j clock : ℕ) → At clocks j clock → after (next + j) ≡ v clock) → after s ≡ v s
    → after (buffered next clocks s) ≡ v s
buffered_value v after next [] s new same = same
buffered_value v after next (c ∷ clocks) s new same = by (c == s) refl (buffered_value v after (next + 1) clocks s (λ j clock at. ap after (later j) ∙ new (suc j) clock at) same)
  where
    later : (j : ℕ) → next + 1 + j ≡ next + suc j
    later j = omega arith

    here : next ≡ next + 0
    here = omega arith

    by : (b : Bool) → (c == s) ≡ b → after (buffered (next + 1) clocks s) ≡ v s → after (if b then next else buffered (next + 1) clocks s) ≡ v s
    by true e rest = ap after here ∙ new 0 c refl ∙ ap v (eqb-true c s e)
    by false e rest = rest

module _ (n : NetlistData) (clocks : List ℕ) (v after : ℕ → Bool) (f : Follows n clocks v after) where
  abbrev count : ℕ
  count = length n.names

  abbrev reads_in : Bool → (ℕ → Bool) → Option SignalNo → Bool
  reads_in bare w o = reading bare (λ (signal : SignalNo). w signal.0) o

  old_pin : (bare : Bool) (pin : Option SignalNo) → IsBelow count pin → reads_in bare after pin ≡ reads_in bare v pin
  old_pin bare None below = refl
  old_pin bare (Some signal) below = f.old signal.0 below

  new_pin : (bare : Bool) (pin : Option SignalNo) → IsBelow count pin → reads_in bare after (buffered_pin count clocks pin) ≡ reads_in bare v pin
  new_pin bare None below = refl
  new_pin bare (Some signal) below = buffered_value v after count clocks signal.0 (λ j clock at. f.new j clock at) (f.old signal.0 below)

  old_input : (bare : Bool) (ins : List (Option SignalNo)) (k : ℕ) → All (IsBelow count) ins → at_input bare after ins k ≡ at_input bare v ins k
  old_input bare ins k all = old_pin bare (slice_index_or ins k None) (at_below count ins k all)

  new_input : (bare : Bool) (ins : List (Option SignalNo)) (k : ℕ) → All (IsBelow count) ins → at_input bare after (buffered_first count clocks ins) k ≡ at_input bare v ins k
  new_input bare [] k all = refl
  new_input bare (pin ∷ pins) zero all = new_pin bare pin (All-head (IsBelow count) pin pins all)
  new_input bare (pin ∷ pins) (suc k) all = old_input bare pins k (All-tail (IsBelow count) pin pins all)

  inputs_same : (kind : CellKind) (ins : List (Option SignalNo)) → All (IsBelow count) ins → ReadSame v after (buffered_ins count clocks kind ins) ins
  inputs_same (Lut table) ins all bare k = old_input bare ins k all
  inputs_same (Cover table width) ins all bare k = old_input bare ins k all
  inputs_same Carry ins all bare k = old_input bare ins k all
  inputs_same (Flop falling enable reset) ins all bare k = new_input bare ins k all
  inputs_same (PadCell pin_type pullup) ins all bare k = old_input bare ins k all
  inputs_same Global ins all bare k = old_input bare ins k all

  cells_same : (cells : List Cell) → All (IsFormedCell count) cells → InPairs (DoesSame v after) (map (buffered_cell count clocks) cells) cells
  cells_same [] all = tt
  cells_same (cell ∷ cells) all = (
    record { kind = refl; inputs = inputs_same cell.kind cell.ins (All-head (IsFormedCell count) cell cells all).ins_below },
    cells_same cells (All-tail (IsFormedCell count) cell cells all),
  )

-- ---- steps
pub shows_same : (n : NetlistData) (clocks : List ℕ) → IsFormed n → ((j clock : ℕ) → At clocks j clock → clock < length n.names)
    → (levels : List (List Bool)) → shows (with_buffers n clocks) levels ≡ shows n levels
shows_same n clocks formed below =
    grown.shows_same (growth n clocks) formed
    (λ levels kept after same. cells_same n clocks (signal_value n levels kept) (signal_value (with_buffers n clocks) levels after)
    (follows n clocks formed below levels kept after same) n.cells formed.cells)
