-- A netlist with buffers is well formed.
use Rattle.std.proofs.Common.{◌≡◌, ℕ, ◌+◌, ◌<◌, ◌≤◌, Bool, true, false, Option, None, Some, List, [], ◌∷◌, length, map, All, refl, sym, ◌∙◌, subst, arith, length-append, if◌then◌else◌}
use Rattle.std.proofs.lemmas.List.{length-map}
use Rattle.std.proofs.lemmas.List.Elements.{All-map, All-weaker, All-append, All-cons, All-head, All-tail}
use Rattle.ice_base.specs.declared.number.SignalNo.{SignalNo}
use Rattle.ice_base_values.specs.Order.{At}
use Rattle.ice_base_values.proofs.Members.{map_At}
use Rattle.ice_net.specs.declared.cell.Cell.{Cell}
use Rattle.ice_net.specs.declared.kind.CellKind.{CellKind}
use Rattle.ice_net.specs.declared.kind.CellKind.TheVariants.{Lut, Cover, Carry, Flop, PadCell, Global}
use Rattle.ice_net.specs.declared.port.Port.{Port}
use Rattle.ice_net.specs.NetlistData.{NetlistData}
use Rattle.ice_net.specs.Formed.{IsBelow, IsPresent, IsPortBelow, IsFormedCell, IsFormed}
use Rattle.ice_net.proofs.NetlistLaws.{formed_more}
use Rattle.ice_net_additions.specs.AddedCells.{added_cell}
use Rattle.ice_net_additions.proofs.AddedCells.{added_formed}
use Rattle.ice_net_additions.proofs.AddedNames.{one_below}
use Rattle.ice_check_promote.specs.Promoted.{buffered_pin, buffered_first, buffered_ins, buffered_cell, reads_clock, buffers, with_buffers, passes_out, passing_ins, passing_cell, with_passing, promoted_clocks, promoted}
use Rattle.ice_check_promote.proofs.Buffers.{length_buffers, buffered_below}
use Rattle.ice_check_promote.proofs.NewDrivers.{length_names}
use Rattle.ice_check_promote.proofs.Clocks.{clock_below, few_clocks}

module _ (count : ℕ) (clocks : List ℕ) where
  abbrev total : ℕ
  total = count + length clocks

  pin_below : (pin : Option SignalNo) → IsBelow total pin → IsBelow total (buffered_pin count clocks pin)
  pin_below None below = tt
  pin_below (Some signal) below = buffered_below count clocks signal.0 below

  first_below : (ins : List (Option SignalNo)) → All (IsBelow total) ins → All (IsBelow total) (buffered_first count clocks ins)
  first_below [] all = all
  first_below (pin ∷ pins) all =
      All-cons (IsBelow total) (buffered_pin count clocks pin) pins (pin_below pin (All-head (IsBelow total) pin pins all)) (All-tail (IsBelow total) pin pins all)

  first_long : (ins : List (Option SignalNo)) → length (buffered_first count clocks ins) ≡ length ins
  first_long [] = refl
  first_long (pin ∷ pins) = refl

  cell_formed : (kind : CellKind) (line : ℕ) (ins outs : List (Option SignalNo)) → IsFormedCell total (record { kind = kind; line = line; ins = ins; outs = outs })
      → IsFormedCell total (record { kind = kind; line = line; ins = buffered_ins count clocks kind ins; outs = outs })
  cell_formed (Lut table) line ins outs h = h
  cell_formed (Cover table width) line ins outs h = h
  cell_formed Carry line ins outs h = h
  cell_formed (Flop falling enable reset) line ins outs h = record {
    ins_long = first_long ins ∙ h.ins_long;
    outs_long = h.outs_long;
    ins_below = first_below ins h.ins_below;
    outs_below = h.outs_below;
    kind = tt;
  }
  cell_formed (PadCell pin_type pullup) line ins outs h = h
  cell_formed Global line ins outs h = h

buffers_formed : (most next : ℕ) (clocks : List ℕ) → ((j clock : ℕ) → At clocks j clock → clock < most) → next + length clocks ≤ most → All (IsFormedCell most) (buffers next clocks)
buffers_formed most next clocks below room =
    added_formed Global most next (map reads_clock clocks)
    (λ j out ins at lt. let found = map_At reads_clock clocks j ins at in
    subst (λ (xs : List (Option SignalNo)). IsFormedCell most (added_cell Global out xs)) found.2
    (record { ins_long = refl; outs_long = refl; ins_below = one_below most found.0 (below j found.0 found.1); outs_below = one_below most out lt; kind = tt }))
    (let long = length-map clocks reads_clock in omega (arith, long, room))

pub with_buffers_formed : (n : NetlistData) (clocks : List ℕ) → IsFormed n → ((j clock : ℕ) → At clocks j clock → clock < length n.names)
    → length n.names + length clocks ≤ 1073741823 → length n.cells + length clocks ≤ 1073741823 → IsFormed (with_buffers n clocks)
with_buffers_formed n clocks formed below few few_cells =
    let names = length_names n clocks in
    record {
      few = omega (arith, names, few);
      few_cells =
          (let long = length-append (map (buffered_cell (length n.names) clocks) n.cells) (buffers (length n.names) clocks) in
          let old = length-map n.cells (buffered_cell (length n.names) clocks) in
          let added = length_buffers (length n.names) clocks in
          omega (arith, long, old, added, few_cells));
      ports = subst (λ (k : ℕ). All (IsPortBelow k) n.ports) (sym names)
          (All-weaker (IsPortBelow (length n.names)) (IsPortBelow (length n.names + length clocks)) (λ (port : Port) lt. port_more (length n.names) (length clocks) port lt) n.ports formed.ports);
      cells = subst (λ (k : ℕ). All (IsFormedCell k) (with_buffers n clocks).cells) (sym names)
          (All-append (IsFormedCell (length n.names + length clocks)) (map (buffered_cell (length n.names) clocks) n.cells) (buffers (length n.names) clocks)
          (All-map (IsFormedCell (length n.names + length clocks)) (buffered_cell (length n.names) clocks) n.cells
          (All-weaker (IsFormedCell (length n.names)) (λ (cell : Cell). IsFormedCell (length n.names + length clocks) (buffered_cell (length n.names) clocks cell))
          (λ (cell : Cell) h. cell_formed (length n.names) clocks cell.kind cell.line cell.ins cell.outs (formed_more (length n.names) (length n.names + length clocks) (more (length n.names) (length clocks)) cell h))
          n.cells formed.cells))
          (buffers_formed (length n.names + length clocks) (length n.names) clocks
          (λ j clock at. wider (length n.names) (length clocks) clock (below j clock at)) (same (length n.names) (length clocks))));
    }
  where
    port_more : (a b : ℕ) (port : Port) → IsPortBelow a port → IsPortBelow (a + b) port
    port_more a b port lt = omega arith

    more : (a b : ℕ) → a ≤ a + b
    more a b = omega arith

    wider : (a b c : ℕ) → c < a → c < a + b
    wider a b c lt = omega arith

    same : (a b : ℕ) → a + b ≤ a + b
    same a b = omega arith

-- ---- covers that read the buffers
module _ (next : ℕ) (clocks : List ℕ) (outer : List SignalNo) (total : ℕ) (few : next + length clocks ≡ total) where
  moved_below : (pin : Option SignalNo) → IsBelow total pin → IsBelow total (buffered_pin next clocks pin)
  moved_below None below = tt
  moved_below (Some signal) below =
      let lt = buffered_below next clocks signal.0 (omega (arith, few, below)) in omega (arith, few, lt)

  moved_present : (pin : Option SignalNo) → IsPresent total pin → IsPresent total (buffered_pin next clocks pin)
  moved_present None there = there
  moved_present (Some signal) below =
      let lt = buffered_below next clocks signal.0 (omega (arith, few, below)) in omega (arith, few, lt)

  all_moved : (P : Option SignalNo → Type 0) → ((pin : Option SignalNo) → P pin → P (buffered_pin next clocks pin)) → (ins : List (Option SignalNo)) → All P ins → All P (buffered_first next clocks ins)
  all_moved P moved [] all = all
  all_moved P moved (pin ∷ pins) all = All-cons P (buffered_pin next clocks pin) pins (moved pin (All-head P pin pins all)) (All-tail P pin pins all)

  moved_long : (ins : List (Option SignalNo)) → length (buffered_first next clocks ins) ≡ length ins
  moved_long [] = refl
  moved_long (pin ∷ pins) = refl

  passing_formed : (kind : CellKind) (line : ℕ) (ins outs : List (Option SignalNo)) → IsFormedCell total (record { kind = kind; line = line; ins = ins; outs = outs })
      → IsFormedCell total (record { kind = kind; line = line; ins = passing_ins next clocks outer kind outs ins; outs = outs })
  passing_formed (Lut table) line ins outs h = h
  passing_formed (Cover table width) line ins outs h = by (passes_out outer table width outs)
    where
      by : (b : Bool) → IsFormedCell total (record { kind = Cover table width; line = line; ins = if b then buffered_first next clocks ins else ins; outs = outs })
      by true = record {
        ins_long = moved_long ins ∙ h.ins_long;
        outs_long = h.outs_long;
        ins_below = all_moved (IsBelow total) moved_below ins h.ins_below;
        outs_below = h.outs_below;
        kind = record {
          narrow = h.kind.narrow;
          fits = h.kind.fits;
          ins_present = all_moved (IsPresent total) moved_present ins h.kind.ins_present;
          outs_present = h.kind.outs_present;
        };
      }
      by false = h
  passing_formed Carry line ins outs h = h
  passing_formed (Flop falling enable reset) line ins outs h = h
  passing_formed (PadCell pin_type pullup) line ins outs h = h
  passing_formed Global line ins outs h = h

pub with_passing_formed : (n : NetlistData) (clocks : List ℕ) (outer : List SignalNo) → IsFormed (with_buffers n clocks) → IsFormed (with_passing (length n.names) clocks outer (with_buffers n clocks))
with_passing_formed n clocks outer formed =
    let m = with_buffers n clocks in
    record {
      few = formed.few;
      few_cells = (let long = length-map m.cells (passing_cell (length n.names) clocks outer) in let few = formed.few_cells in omega (arith, long, few));
      ports = formed.ports;
      cells = All-map (IsFormedCell (length m.names)) (passing_cell (length n.names) clocks outer) m.cells
          (All-weaker (IsFormedCell (length m.names)) (λ (cell : Cell). IsFormedCell (length m.names) (passing_cell (length n.names) clocks outer cell))
          (λ (cell : Cell) h. passing_formed (length n.names) clocks outer (length m.names) (sym (length_names n clocks)) cell.kind cell.line cell.ins cell.outs h) m.cells formed.cells);
    }

pub promoted_formed : (n : NetlistData) (outer : List SignalNo) (free : ℕ) → IsFormed n → length n.cells < 1073000000 → IsFormed (promoted n outer free)
promoted_formed n outer free formed room =
    let few = few_clocks n free in
    let names = formed.few in
    with_passing_formed n (promoted_clocks n free) outer
    (with_buffers_formed n (promoted_clocks n free) formed (λ j clock at. clock_below n free j clock at) (omega (arith, few, names)) (omega (arith, few, room)))
