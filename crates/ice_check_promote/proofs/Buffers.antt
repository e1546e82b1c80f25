-- The buffers, and the cells beside them.
use Rattle.std.proofs.Common.{◌≡◌, ℕ, zero, suc, ◌+◌, ◌<◌, ◌==◌, Bool, true, false, Option, None, Some, List, [], ◌∷◌, length, map, refl, ap, sym, ◌∙◌, arith, if◌then◌else◌}
use Rattle.std.specs.Prelude.{slice_index_or}
use Rattle.std.proofs.lemmas.List.{length-map}
use Rattle.std.proofs.lemmas.Option.{none-some, same_Some}
use Rattle.ice_base.specs.declared.number.SignalNo.{SignalNo}
use Rattle.ice_base_values.specs.Order.{At}
use Rattle.ice_base_values.proofs.Members.{map_At}
use Rattle.ice_net.specs.declared.cell.Cell.{Cell}
use Rattle.ice_net.specs.declared.kind.CellKind.{CellKind}
use Rattle.ice_net.specs.declared.kind.CellKind.TheVariants.{Lut, Cover, Carry, Flop, PadCell, Global}
use Rattle.ice_net.specs.NetlistData.{NetlistData}
use Rattle.ice_net.specs.Drivers.{numbers, pin_by}
use Rattle.ice_net.specs.Meaning.{reads_by}
use Rattle.ice_net.specs.Uses.{uses_by}
use Rattle.ice_check.proofs.Places.{wire}
use Rattle.ice_net_additions.specs.AddedCells.{added_cell}
use Rattle.ice_net_additions.proofs.AddedCells.{IsAddable, length_added, at_added}
use Rattle.ice_net_additions.proofs.Growths.{InPairs, IsTurned, Growth}
use Rattle.ice_check_promote.specs.Promoted.{buffered_name, buffered, buffered_pin, buffered_first, buffered_ins, buffered_cell, reads_clock, buffer, buffers}

-- ---- the list of buffers
pub length_buffers : (next : ℕ) (clocks : List ℕ) → length (buffers next clocks) ≡ length clocks
length_buffers next clocks = length_added Global next (map reads_clock clocks) ∙ length-map clocks reads_clock

-- each of them is the buffer of a clock
pub at_buffer : (next : ℕ) (clocks : List ℕ) (j : ℕ) (cell : Cell) → At (buffers next clocks) j cell → (clock : ℕ) × At clocks j clock × (cell ≡ buffer clock (next + j))
at_buffer next clocks j cell at =
    let found = at_added Global next (map reads_clock clocks) j cell at in
    let clock = map_At reads_clock clocks j found.0 found.1 in
    (clock.0, clock.1, found.2 ∙ ap (added_cell Global (next + j)) (sym clock.2))

pub addable : IsAddable Global
addable = record {
  pin = λ ins. refl;
  reads = λ ins. refl;
  uses = λ ins. refl;
  kept = λ v ins level clock. refl;
  clock = λ v ins. refl;
  pin_type = refl;
  portless = λ ports pin. refl;
}

-- ---- the cells that were there
pin_same : (next : ℕ) (clocks : List ℕ) (kind : CellKind) (ins : List (Option SignalNo)) → pin_by kind (buffered_ins next clocks kind ins) ≡ pin_by kind ins
pin_same next clocks (Lut table) ins = refl
pin_same next clocks (Cover table width) ins = refl
pin_same next clocks Carry ins = refl
pin_same next clocks (Flop falling enable reset) ins = refl
pin_same next clocks (PadCell pin_type pullup) ins = refl
pin_same next clocks Global ins = refl

reads_same : (next : ℕ) (clocks : List ℕ) (kind : CellKind) (ins : List (Option SignalNo)) → reads_by kind (buffered_ins next clocks kind ins) ≡ reads_by kind ins
reads_same next clocks (Lut table) ins = refl
reads_same next clocks (Cover table width) ins = refl
reads_same next clocks Carry ins = refl
reads_same next clocks (Flop falling enable reset) ins = refl
reads_same next clocks (PadCell pin_type pullup) ins = refl
reads_same next clocks Global ins = refl

-- ---- what reads an old signal afterwards read it before
pub buffered_old : (next : ℕ) (clocks : List ℕ) (r s : ℕ) → s < next → buffered next clocks r ≡ s → r ≡ s
buffered_old next [] r s lt e = e
buffered_old next (c ∷ clocks) r s lt e = by (c == r) e (buffered_old (next + 1) clocks r s (omega (arith, lt)))
  where
    by : (b : Bool) → (if b then next else buffered (next + 1) clocks r) ≡ s → (buffered (next + 1) clocks r ≡ s → r ≡ s) → r ≡ s
    by true e rest = absurd (omega (arith, e, lt))
    by false e rest = rest e

pub buffered_below : (next : ℕ) (clocks : List ℕ) (r : ℕ) → r < next + length clocks → buffered next clocks r < next + length clocks
buffered_below next [] r lt = lt
buffered_below next (c ∷ clocks) r lt = by (c == r) (buffered_below (next + 1) clocks r (omega (arith, lt)))
  where
    by : (b : Bool) → buffered (next + 1) clocks r < next + 1 + length clocks → (if b then next else buffered (next + 1) clocks r) < next + suc (length clocks)
    by true rest = omega arith
    by false rest = omega (arith, rest)

pin_old : (next : ℕ) (clocks : List ℕ) (s : ℕ) (pin : Option SignalNo) → s < next → buffered_pin next clocks pin ≡ wire s → pin ≡ wire s
pin_old next clocks s None lt e = absurd (none-some (record { 0 = s }) e)
pin_old next clocks s (Some signal) lt e =
    let same = same_Some (record { 0 = buffered next clocks signal.0 }) (record { 0 = s }) e in
    ap wire (buffered_old next clocks signal.0 s lt (ap (λ (x : SignalNo). x.0) same))

first_old : (next : ℕ) (clocks : List ℕ) (s : ℕ) (ins : List (Option SignalNo)) (i : ℕ) → s < next → At (buffered_first next clocks ins) i (wire s) → At ins i (wire s)
first_old next clocks s [] i lt at = at
first_old next clocks s (pin ∷ pins) zero lt at = ap Some (pin_old next clocks s pin lt (same_Some (buffered_pin next clocks pin) (wire s) at))
first_old next clocks s (pin ∷ pins) (suc i) lt at = at

ins_old : (next : ℕ) (clocks : List ℕ) (s : ℕ) (kind : CellKind) (ins : List (Option SignalNo)) (i : ℕ) → s < next
    → At (uses_by kind (buffered_ins next clocks kind ins)) i (wire s) → At (uses_by kind ins) i (wire s)
ins_old next clocks s (Lut table) ins i lt at = at
ins_old next clocks s (Cover table width) ins i lt at = at
ins_old next clocks s Carry ins i lt at = at
ins_old next clocks s (Flop falling enable reset) ins i lt at = first_old next clocks s ins i lt at
ins_old next clocks s (PadCell pin_type pullup) ins i lt at = at
ins_old next clocks s Global ins i lt at = at

-- ---- the whole
pub turned : (next : ℕ) (clocks : List ℕ) (cells : List Cell) → InPairs (IsTurned next) (map (buffered_cell next clocks) cells) cells
turned next clocks [] = tt
turned next clocks (cell ∷ cells) = (
  record {
    kind = refl;
    pin = pin_same next clocks cell.kind cell.ins;
    out = refl;
    reads = ap numbers (reads_same next clocks cell.kind cell.ins);
    uses = λ s i lt at. ins_old next clocks s cell.kind cell.ins i lt at;
  },
  turned next clocks cells,
)

abbrev pub growth : NetlistData → List ℕ → Growth
growth n clocks = record {
  before = n;
  names = map (λ clock. buffered_name (slice_index_or n.names clock [])) clocks;
  olds = map (buffered_cell (length n.names) clocks) n.cells;
  kind = Global;
  lists = map reads_clock clocks;
  addable = addable;
  turned = turned (length n.names) clocks n.cells;
}
