-- What ports drive, by the array that has the values of all signals.
use Rattle.std.proofs.Common.{◌≡◌, ℕ, suc, ◌+◌, ◌<◌, Bool, true, false, cond, List, [], ◌∷◌, length, map, get_or, Option, Some, None, All, refl, ap, sym, ◌∙◌, subst, inl, inr, arith}
use Rattle.std.proofs.Math.ListN.{get_or-eq_default}
use Rattle.std.specs.Prelude.{◌==◌, slice_get}
use Rattle.std.proofs.lemmas.Bool.{cases_lt}
use Rattle.std.proofs.lemmas.Option.{slice_get_within, get_or_from_slice_get}
use Rattle.ice_base.specs.declared.number.SignalNo.{SignalNo}
use Rattle.ice_base_values.specs.Order.{At}
use Rattle.ice_base_values.specs.System.{reading}
use Rattle.ice_net.specs.declared.cell.Cell.{Cell}
use Rattle.ice_net.specs.declared.driver.Drive.TheVariants.{Off}
use Rattle.ice_net.specs.declared.kind.CellKind.{CellKind}
use Rattle.ice_net.specs.declared.kind.CellKind.TheVariants.{Lut, Cover, Carry, Flop, PadCell, Global}
use Rattle.ice_net.specs.declared.port.Port.{Port}
use Rattle.ice_net.specs.declared.port.Way.{Way}
use Rattle.ice_net.specs.declared.port.Way.TheVariants.{Input, Output, Both}
use Rattle.ice_net.specs.NetlistData.{NetlistData}
use Rattle.ice_net.specs.Formed.{IsBelow, IsFormed, IsFormedCell, IsPortBelow}
use Rattle.ice_net.specs.Drivers.{buffer_at}
use Rattle.ice_net.specs.Drives.{output_type, enabled_type, at_input, level_drive, pad_drive, bare_drive, kind_drive, buffer_drive, drive_by, port_drive}
use Rattle.ice_sim_sweep.specs.Slots.{slot_of, slot_at, level_at}
use Rattle.ice_sim_sweep.specs.Feeds.{no_tap, bare_tap, pad_tap, kind_tap, buffer_tap, tap_by, tap_of}
use Rattle.ice_sim_sweep.specs.Sweeps.{tap_drive}

pub tail_all : {X : Type 0} (P : X → Type 0) (x : X) (xs : List X) → All P (x ∷ xs) → All P xs
tail_all P x xs all = λ k d lt. all (suc k) d (omega arith)

pub below_at : (signals : ℕ) (ins : List (Option SignalNo)) (k : ℕ) → All (IsBelow signals) ins → IsBelow signals (get_or ins k None)
below_at signals ins k all = elim (cases_lt k (length ins)) [ inl lt ↦ all k None lt | inr ge ↦ subst (IsBelow signals) (sym (get_or-eq_default ins None ge)) tt ]

pub cell_at : (signals : ℕ) (cells : List Cell) (i : ℕ) (cell : Cell) → All (IsFormedCell signals) cells → At cells i cell → IsFormedCell signals cell
cell_at signals cells i cell all at = subst (IsFormedCell signals) (get_or_from_slice_get cells i cell cell at) (all i cell (slice_get_within cells i cell at))

module _ (v : ℕ → Bool) (values : List Bool) (signals : ℕ) (agree : (s : ℕ) → s < signals → v s ≡ level_at values s)
    (zero_is : level_at values signals ≡ false) (one_is : level_at values (signals + 1) ≡ true) where
  read_level : (bare : Bool) (slot : ℕ) → level_at values slot ≡ bare → (input : Option SignalNo) → IsBelow signals input
      → reading bare (λ (signal : SignalNo). v signal.0) input ≡ level_at values (slot_of slot input)
  read_level bare slot is None below = sym is
  read_level bare slot is (Some signal) below = agree signal.0 below

  -- what an input reads
  pub input_level : (bare : Bool) (slot : ℕ) → level_at values slot ≡ bare → (ins : List (Option SignalNo)) (k : ℕ) → All (IsBelow signals) ins
      → at_input bare v ins k ≡ level_at values (slot_at slot ins k)
  input_level bare slot is ins k all = read_level bare slot is (get_or ins k None) (below_at signals ins k all)

  off : tap_drive values (no_tap signals) ≡ Off
  off = ap (λ e. cond e (level_drive (level_at values signals)) Off) zero_is

  on : (slot : ℕ) → tap_drive values (record { level = slot; enable = signals + 1 }) ≡ level_drive (level_at values slot)
  on slot = ap (λ e. cond e (level_drive (level_at values slot)) Off) one_is

  pad_drives : (pin_type : ℕ) (ins : List (Option SignalNo)) → All (IsBelow signals) ins
      → tap_drive values (pad_tap signals pin_type ins) ≡ pad_drive pin_type (at_input false v ins 1) (at_input false v ins 2)
  pad_drives pin_type ins all = by (pin_type == output_type) (pin_type == enabled_type)
    where
      level : at_input false v ins 1 ≡ level_at values (slot_at signals ins 1)
      level = input_level false signals zero_is ins 1 all

      enable : at_input false v ins 2 ≡ level_at values (slot_at signals ins 2)
      enable = input_level false signals zero_is ins 2 all

      by : (outputs enabled : Bool)
          → tap_drive values (cond outputs (record { level = slot_at signals ins 1; enable = signals + 1 })
          (cond enabled (record { level = slot_at signals ins 1; enable = slot_at signals ins 2 }) (no_tap signals)))
          ≡ cond outputs (level_drive (at_input false v ins 1)) (cond enabled (cond (at_input false v ins 2) (level_drive (at_input false v ins 1)) Off) Off)
      by true enabled = on (slot_at signals ins 1) ∙ ap level_drive (sym level)
      by false true =
          ap (λ l. cond (level_at values (slot_at signals ins 2)) (level_drive l) Off) (sym level)
          ∙ ap (λ e. cond e (level_drive (at_input false v ins 1)) Off) (sym enable)
      by false false = off

  kind_drives : (kind : CellKind) (ins : List (Option SignalNo)) → All (IsBelow signals) ins → tap_drive values (kind_tap signals kind ins) ≡ kind_drive v kind ins
  kind_drives (Lut table) ins all = off
  kind_drives (Cover table width) ins all = off
  kind_drives Carry ins all = off
  kind_drives (Flop falling enable reset) ins all = off
  kind_drives (PadCell pin_type pullup) ins all = pad_drives pin_type ins all
  kind_drives Global ins all = off

  buffer_drives : (cells : List Cell) (i : ℕ) → All (IsFormedCell signals) cells → (o : Option Cell) → slice_get cells i ≡ o → tap_drive values (buffer_tap signals o) ≡ buffer_drive v o
  buffer_drives cells i all None at = off
  buffer_drives cells i all (Some cell) at = kind_drives cell.kind cell.ins (cell_at signals cells i cell all at).ins_below

  bare_drives : (way : Way) (s : ℕ) → s < signals → tap_drive values (bare_tap signals way s) ≡ bare_drive way (v s)
  bare_drives Input s lt = off
  bare_drives Output s lt = on s ∙ ap level_drive (sym (agree s lt))
  bare_drives Both s lt = off

module _ (n : NetlistData) (formed : IsFormed n) (v : ℕ → Bool) (values : List Bool) (agree : (s : ℕ) → s < length n.names → v s ≡ level_at values s)
    (zero_is : level_at values (length n.names) ≡ false) (one_is : level_at values (length n.names + 1) ≡ true) where
  place_drives : (port : Port) → port.signal.0 < length n.names → (place : Option ℕ) → tap_drive values (tap_by n port place) ≡ drive_by n.cells v port place
  place_drives port lt None = bare_drives v values (length n.names) agree zero_is one_is port.way port.signal.0 lt
  place_drives port lt (Some i) = buffer_drives v values (length n.names) agree zero_is one_is n.cells i formed.cells (slice_get n.cells i) refl

  ports_drive : (ports : List Port) → All (IsPortBelow (length n.names)) ports → map (tap_drive values) (map (tap_of n) ports) ≡ map (port_drive n.cells v) ports
  ports_drive [] all = refl
  ports_drive (port ∷ ports) all =
      ap (λ d. d ∷ map (tap_drive values) (map (tap_of n) ports)) (place_drives port (all 0 port (omega arith)) (buffer_at n.cells port.signal.0))
      ∙ ap (λ ds. port_drive n.cells v port ∷ ds) (ports_drive ports (tail_all (IsPortBelow (length n.names)) port ports all))

  pub all_drive : map (tap_drive values) (map (tap_of n) n.ports) ≡ map (port_drive n.cells v) n.ports
  all_drive = ports_drive n.ports formed.ports
