-- The ports of a netlist with promoted clocks want of their pads what they wanted before.
use Rattle.std.proofs.Common.{◌≡◌, ℕ, ◌<◌, ◌==◌, Some, List, [], length, map, refl, ◌∙◌, subst, arith, ltb-true}
use Rattle.std.proofs.lemmas.Bool.{and_parts}
use Rattle.std.proofs.lemmas.Option.{none-some}
use Rattle.ice_base.specs.declared.number.SignalNo.{SignalNo}
use Rattle.ice_base.proofs.Booleans.{both_true}
use Rattle.ice_base_values.specs.Order.{At}
use Rattle.ice_base_values.proofs.Members.{map_Has}
use Rattle.ice_net.specs.declared.cell.Cell.{Cell}
use Rattle.ice_net.specs.declared.kind.CellKind.{CellKind}
use Rattle.ice_net.specs.declared.kind.CellKind.TheVariants.{Lut, Cover, Carry, Flop, PadCell, Global}
use Rattle.ice_net.specs.declared.port.Port.{Port}
use Rattle.ice_net.specs.Formed.{IsFormed}
use Rattle.ice_net.specs.NetlistData.{NetlistData}
use Rattle.ice_check.specs.Tables.{times}
use Rattle.ice_cells.specs.declared.root.Root.TheVariants.{PadIn}
use Rattle.ice_cells.specs.Readings.{is_read}
use Rattle.ice_cells.specs.Runs.{design_of}
use Rattle.ice_pads.specs.Wants.{wants}
use Rattle.ice_pads.proofs.SameWants.{bare_shape, kind_shape, shape_by, wants_alike}
use Rattle.ice_check_promote.specs.Promoted.{clock_by, clock_of, is_clock, settled_of, with_buffers, promoted_clocks, promoted}
use Rattle.ice_check_promote.proofs.Buffered.{buffered_facts}
use Rattle.ice_check_promote.proofs.Clocks.{promotable, clock_below, first_in}
use Rattle.ice_check_promote.proofs.NewDrivers as drivers
use Rattle.ice_check_promote.proofs.Passing as passing
use Rattle.ice_check_promote.proofs.Passing.{IsBuffered}
use Rattle.ice_check_promote.proofs.Unpromoted.{without_outer}
use Rattle.ice_check.proofs.Places.{wire, times_has}
use Rattle.ice_pads_promote_laws.proofs.NewReaders.{HasClock, by_place, reads_new, reads_old}
use Rattle.ice_pads_promote_laws.proofs.PassedReaders.{reads_after, reads_before}
use Rattle.ice_pack_laws.proofs.PadReaders.{read_back, read_there}
use Rattle.ice_pack_laws.proofs.PadsRead.{unread, is_there, there_is}

-- ---- a promoted clock is the clock of some flip-flop

clock_at : (n : NetlistData) (j : ℕ) (cell : Cell) (x : SignalNo) → At n.cells j cell → (kind : CellKind) → cell.kind ≡ kind → clock_by kind cell.ins ≡ Some x → HasClock n x.0
clock_at n j cell x at (Lut table) is e = absurd (none-some x e)
clock_at n j cell x at (Cover table width) is e = absurd (none-some x e)
clock_at n j cell x at Carry is e = absurd (none-some x e)
clock_at n j cell x at (Flop falling enable reset) is e = record { place = j; cell = cell; at = at; falling = falling; enable = enable; kept = reset; is = is; clocked = first_in cell.ins x e }
clock_at n j cell x at (PadCell pin_type pullup) is e = absurd (none-some x e)
clock_at n j cell x at Global is e = absurd (none-some x e)

clocked : (n : NetlistData) (free j clock : ℕ) → At (promoted_clocks n free) j clock → HasClock n clock
clocked n free j clock at =
    let many = (and_parts (is_clock n clock) (times clock (map settled_of n.cells) == 0) (promotable n free j clock at).1).0 in
    let lt : 15 < times clock (map clock_of n.cells) = ltb-true 15 (times clock (map clock_of n.cells)) many in
    let found = map_Has clock_of n.cells (wire clock) (times_has clock (map clock_of n.cells) (omega (arith, lt))) in
    clock_at n (found.1).0 found.0 (record { 0 = clock }) (found.1).1 (found.0).kind refl found.2

-- ---- pads that are read

module _ (n : NetlistData) (free : ℕ) (formed : IsFormed n) (after : IsFormed (with_buffers n (promoted_clocks n free))) where
  abbrev clocks : List ℕ
  clocks = promoted_clocks n free

  abbrev count : ℕ
  count = length n.names

  abbrev new : NetlistData
  new = with_buffers n clocks

  -- where flip-flops read the buffers
  same_read : (k : ℕ) → is_read (unread new) (PadIn k) ≡ is_read (unread n) (PadIn k)
  same_read k =
      both_true (is_read (unread new) (PadIn k)) (is_read (unread n) (PadIn k))
      (λ e. there_is n k (read_there n k formed (reads_old n clocks formed k (λ i clock at. clocked n free i clock at) (read_back new k (is_there new k e)))))
      (λ e. there_is new k (read_there new k after (reads_new n clocks formed k (read_back n k (is_there n k e)))))

  same_kind : (m : ℕ) (port : Port) (i : ℕ) → shape_by new.cells m port (Some i) ≡ shape_by n.cells m port (Some i)
  same_kind m port i = by_place n clocks formed 0 (λ (cell : Cell). kind_shape m port cell.kind) (bare_shape m port) (λ old. refl) (λ clock out. refl) i

  buffered_wants : wants (design_of new) ≡ wants (design_of n)
  buffered_wants = wants_alike n new same_read (λ s. drivers.buffer_same n clocks s) same_kind refl

  -- where covers do, too
  module _ (outer : List SignalNo) (whole : IsFormed (promoted n outer free)) where
    abbrev all : NetlistData
    all = promoted n outer free

    facts : IsBuffered count clocks new
    facts = buffered_facts n clocks formed (λ j clock at. clock_below n free j clock at)

    all_read : (k : ℕ) → is_read (unread all) (PadIn k) ≡ is_read (unread new) (PadIn k)
    all_read k =
        both_true (is_read (unread all) (PadIn k)) (is_read (unread new) (PadIn k))
        (λ e. there_is new k (read_there new k after (reads_before count clocks outer new facts after k (read_back all k (is_there all k e)))))
        (λ e. there_is all k (read_there all k whole (reads_after count clocks outer new facts after k (read_back new k (is_there new k e)))))

    passed_wants : wants (design_of all) ≡ wants (design_of new)
    passed_wants =
        wants_alike new all all_read (λ s. passing.buffer_same count clocks outer new s)
        (λ m port i. passing.turned_or count clocks outer (λ (cell : Cell). kind_shape m port cell.kind) (bare_shape m port) (λ cell. refl) new.cells i) refl

pub wants_same : (n : NetlistData) (outer : List SignalNo) (free : ℕ) → IsFormed n → IsFormed (promoted n [] free) → IsFormed (promoted n outer free) → wants (design_of (promoted n outer free)) ≡ wants (design_of n)
wants_same n outer free formed bare whole =
    let after : IsFormed (with_buffers n (promoted_clocks n free)) = subst IsFormed (without_outer (length n.names) (promoted_clocks n free) (with_buffers n (promoted_clocks n free))) bare in
    passed_wants n free formed after outer whole ∙ buffered_wants n free formed after
