-- Plain cells are not taken apart where they are read.
use Rattle.std.proofs.Common.{◌≡◌, ◌≢◌, ℕ, ◌==◌, Bool, true, false, List, [], ◌∷◌, ◌++◌, length, map, None, if◌then◌else◌, slice_get, refl, sym, ap, ◌∙◌, append-nil, append_assoc, arith, rules, tests, subst}
use Rattle.std.specs.Prelude.{codes, option_map}
use Rattle.std.specs.List.{AllByRecursion}
use Rattle.std.proofs.lemmas.List.{length-map, take_all}
use Rattle.std.proofs.lemmas.Option.{slice_get_past}
use Rattle.ice_net.specs.declared.cell.Cell.{Cell}
use Rattle.ice_net.specs.declared.kind.CellKind.{CellKind}
use Rattle.ice_net.specs.declared.kind.CellKind.TheVariants.{Lut, Cover, Carry, Flop, PadCell, Global}
use Rattle.ice_net.specs.Formed.{IsFormedCell}
use Rattle.ice_net.specs.Kinds.{outs_count}
use Rattle.ice_net.specs.NetlistData.{NetlistData}
use Rattle.ice_blif.specs.Registers.{hidden_name, buffer, with_input, with_output, with_pad, with_cells_of, with_buffer, with_apart, all_apart, taken_apart}
use Rattle.ice_blif.specs.State.{named, signal_of, own_cell, with_cell}
use Rattle.ice_blif_write.specs.RoundTrip.{IsPlainKind, IsPlainCell, named_signal, NamedCell, named_cell}

pad_plain : (n : NetlistData) (cell : Cell) (pin_type : ℕ) (pullup : Bool) → pin_type ≢ 0 → pin_type ≢ 21 → with_pad n cell pin_type pullup ≡ with_cell n cell
pad_plain n cell pin_type pullup some other =
    let no_input : (pin_type == 0) ≡ false = search (rules, tests) in
    let no_output : (pin_type == 21) ≡ false = search (rules, tests) in
    by (pin_type == 0) (pin_type == 21) no_input no_output
  where
    input : NetlistData
    input = with_input (named n (hidden_name cell.line (codes "in"))) cell pullup (signal_of n (hidden_name cell.line (codes "in")))

    output : NetlistData
    output = with_output (named n (hidden_name cell.line (codes "out"))) cell pullup (signal_of n (hidden_name cell.line (codes "out")))

    by : (b c : Bool) → b ≡ false → c ≡ false → (if b then input else (if c then output else with_cell n cell)) ≡ with_cell n cell
    by true c e f = cc e
    by false true e f = cc f
    by false false e f = refl

cell_plain : (n : NetlistData) (cell : Cell) (kind : CellKind) → IsPlainKind kind → with_cells_of n cell kind ≡ with_cell n cell
cell_plain n cell (Lut table) h = refl
cell_plain n cell (Cover table width) h = refl
cell_plain n cell Carry h = refl
cell_plain n cell (Flop falling enable reset) h = refl
cell_plain n cell (PadCell pin_type pullup) h = pad_plain n cell pin_type pullup h.0 h.1
cell_plain n cell Global h = refl

-- a plain cell with the outputs of its kind
pub record IsWhole (cell : Cell) : Type 0 where
  pub plain : IsPlainCell cell
  pub long : length cell.outs ≡ outs_count cell.kind

apart_plain : (n : NetlistData) (cell : Cell) → IsWhole cell → with_apart n cell ≡ with_cell n cell
apart_plain n cell h =
    let own : own_cell cell ≡ cell = ap (λ outs. record cell { outs = outs }) (take_all (outs_count cell.kind) cell.outs (omega (arith, h.long))) in
    let none : slice_get cell.outs (outs_count cell.kind) ≡ None = slice_get_past cell.outs (outs_count cell.kind) (omega (arith, h.long)) in
    ap (λ o. with_buffer (with_cells_of n (own_cell cell) cell.kind) (option_map (buffer cell) o)) none
    ∙ ap (λ (c : Cell). with_cells_of n c cell.kind) own ∙ cell_plain n cell cell.kind h.plain

all_plain : (n : NetlistData) (done left : List Cell) → AllByRecursion IsWhole left → all_apart (record { names = n.names; ports = n.ports; cells = done }) left ≡ record { names = n.names; ports = n.ports; cells = done ++ left }
all_plain n done [] h = ap (λ cells. record { names = n.names; ports = n.ports; cells = cells }) (sym (append-nil done))
all_plain n done (cell ∷ left) h =
    ap (λ (m : NetlistData). all_apart m left) (apart_plain (record { names = n.names; ports = n.ports; cells = done }) cell h.0)
    ∙ all_plain n (done ++ cell ∷ []) left h.1
    ∙ ap (λ cells. record { names = n.names; ports = n.ports; cells = cells }) (append_assoc done (cell ∷ []) left)

pub taken_plain : (raw : NetlistData) → AllByRecursion IsWhole raw.cells → raw ≡ taken_apart raw
taken_plain raw h = sym (all_plain raw [] raw.cells h)

-- cells that are by name those of a netlist that can be written
one_whole : (names read : List (List ℕ)) (now was : Cell) (signals : ℕ) → named_cell read now ≡ named_cell names was → IsPlainCell was → IsFormedCell signals was → IsWhole now
one_whole names read now was signals e plain formed =
    let kind : now.kind ≡ was.kind = ap (λ (x : NamedCell). x.kind) e in
    let outs = ap (λ (x : NamedCell). length x.outs) e in
    let now_long = length-map now.outs (named_signal read) in
    let was_long = length-map was.outs (named_signal names) in
    record {
      plain = subst IsPlainKind (sym kind) plain;
      long = sym now_long ∙ outs ∙ was_long ∙ formed.outs_long ∙ ap outs_count (sym kind);
    }

pub all_whole : (names read : List (List ℕ)) (now was : List Cell) (signals : ℕ) → map (named_cell read) now ≡ map (named_cell names) was
    → AllByRecursion IsPlainCell was → AllByRecursion (IsFormedCell signals) was → AllByRecursion IsWhole now
all_whole names read [] was signals e plain formed = tt
all_whole names read (now ∷ nows) [] signals e plain formed = cc e
all_whole names read (now ∷ nows) (was ∷ wases) signals e plain formed =
    let first : named_cell read now ≡ named_cell names was = cc in
    let later : map (named_cell read) nows ≡ map (named_cell names) wases = cc in
    (one_whole names read now was signals first plain.0 formed.0, all_whole names read nows wases signals later plain.1 formed.1)
