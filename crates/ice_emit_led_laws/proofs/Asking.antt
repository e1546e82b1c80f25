-- What reads at a pin, by the pin.
use Rattle.std.proofs.Common.{◌≡◌, ◌⊎◌, ℕ, ◌+◌, ◌-◌, Bool, true, false, Option, None, Some, inl, inr, refl, sym, ap, ◌∙◌, arith}
use Rattle.std.specs.Prelude.{nat_lt, slice_index_or, if◌then◌else◌}
use Rattle.std.proofs.lemmas.Bool.{ltb-false}
use Rattle.std.proofs.lemmas.Option.{same_Some}
use Rattle.ice_base.specs.declared.number.TileAt.{TileAt}
use Rattle.ice_base_values.specs.Order.{At}
use Rattle.ice_chip.specs.Database.{Parts}
use Rattle.ice_chip.specs.Lookups.{global_of}
use Rattle.ice_chip.specs.declared.rows.Pad.{Pad}
use Rattle.ice_chip_names.specs.declared.wire_names.TileWire.{TileWire}
use Rattle.ice_chip_names.specs.declared.wire_names.TileWire.TheVariants as wires
use Rattle.ice_cells.specs.declared.cell.Control.{Control}
use Rattle.ice_cells.specs.declared.cell.LogicCell.{LogicCell}
use Rattle.ice_cells.specs.declared.cluster.Cluster.{Cluster}
use Rattle.ice_cells.specs.declared.design.DesignPad.{DesignPad}
use Rattle.ice_cells.specs.declared.root.Root.{Root}
use Rattle.ice_place_defs.specs.Plan.{Plan, is_direct}
use Rattle.ice_place_defs.specs.Loads.{Pin, Input, Clock, Enable, SetReset, Feed, Drive, DriveEnable}
use Rattle.ice_emit_nets.specs.Ends.{is_free}
use Rattle.ice_emit_defs.specs.Slots.{IsOn, StandsIn}
use Rattle.ice_emit_led_laws.specs.Pins.{wire_of}
use Rattle.ice_emit_led_laws.specs.Reads.{Reads, AtDrive, AtDriveEnable, AtFeed, AtFixed, AtFree, AtClock, AtEnable, AtReset}

-- ---- pins are told by the wires that they name
pin_of : TileWire → Option Pin
pin_of (wires.CellInput i k) = Some (Input i k)
pin_of wires.Clock = Some Clock
pin_of wires.ClockEnable = Some Enable
pin_of wires.SetReset = Some SetReset
pin_of wires.Fabout = Some Feed
pin_of (wires.PadOutput pio) = Some (Drive pio)
pin_of (wires.Ram n) = Some (Drive (n + 2))
pin_of (wires.OutputEnable pio) = Some (DriveEnable pio)
pin_of wire = None

drive_pin : (pio : ℕ) (b : Bool) → nat_lt pio 2 ≡ b → pin_of (if b then wires.PadOutput pio else wires.Ram (pio - 2)) ≡ Some (Drive pio)
unfolding pin_of
drive_pin pio true e = refl
drive_pin pio false e = let high = ltb-false pio 2 e in let number : pio - 2 + 2 ≡ pio = omega (arith, high) in ap (λ (n : ℕ). Some (Drive n)) number

pin_is : (pin : Pin) → pin_of (wire_of pin) ≡ Some pin
unfolding pin_of
pin_is (Input i k) = refl
pin_is Clock = refl
pin_is Enable = refl
pin_is SetReset = refl
pin_is Feed = refl
pin_is (Drive pio) = drive_pin pio (nat_lt pio 2) refl
pin_is (DriveEnable pio) = refl

pub same_pin : (a b : Pin) → wire_of a ≡ wire_of b → a ≡ b
same_pin a b e = same_Some a b (sym (pin_is a) ∙ ap pin_of e ∙ pin_is b)

-- ---- what reads there
-- a cell's input reads the root; of a free cell one of the inputs does
abbrev CellReads : LogicCell → ℕ → Root → Type 0
CellReads cell k root = ((is_free cell ≡ false) × (slice_index_or cell.ins k None ≡ Some root)) ⊎ ((is_free cell ≡ true) × (j : ℕ) × At cell.ins j (Some root))

module _ (parts : Parts) (plan : Plan) where
  abbrev OfControl : (Control → Option Root) → TileAt → Root → Type 0
  OfControl of t root = (cluster : Cluster) × (control : Control) × IsOn plan t cluster × (cluster.control ≡ Some control) × (of control ≡ Some root)

  abbrev OfPort : (DesignPad → Option Root) → TileAt → ℕ → Root → Type 0
  OfPort of t pio root = (k : ℕ) × (pad : Pad) × (port : DesignPad) × At plan.ports k pad × At plan.design.pads k port × (pad.tile ≡ t) × (pad.pio ≡ pio) × (of port ≡ Some root)

  abbrev pub Asks : TileAt → Pin → Root → Type 0
  Asks t (Input i k) root = (c : ℕ) × (cell : LogicCell) × StandsIn plan t i c cell × CellReads cell k root
  Asks t Clock root = OfControl (λ (x : Control). x.clock) t root
  Asks t Enable root = OfControl (λ (x : Control). x.enable) t root
  Asks t SetReset root = OfControl (λ (x : Control). x.reset) t root
  Asks t Feed root = (g : ℕ) × (n : ℕ) × At plan.globals g n × At plan.design.globals g (Some root) × (is_direct plan g ≡ false) × (global_of parts n ≡ Some t)
  Asks t (Drive pio) root = OfPort (λ (x : DesignPad). x.drive) t pio root
  Asks t (DriveEnable pio) root = OfPort (λ (x : DesignPad). x.enable) t pio root

  pub asks : (t : TileAt) (pin : Pin) (root : Root) → Reads parts plan t pin root → Asks t pin root
  asks t pin root (AtDrive k pad port r a b e) = (k, pad, port, a, b, refl, refl, e)
  asks t pin root (AtDriveEnable k pad port r a b e) = (k, pad, port, a, b, refl, refl, e)
  asks t pin root (AtFeed g n u r a b not_direct e) = (g, n, a, b, not_direct, e)
  asks t pin root (AtFixed u i k c cell r stands not_free lt e) = (c, cell, stands, inl (not_free, e))
  asks t pin root (AtFree u i k j c cell r stands free lt at) = (c, cell, stands, inr (free, j, at))
  asks t pin root (AtClock u cluster control r on is e) = (cluster, control, on, is, e)
  asks t pin root (AtEnable u cluster control r on is e) = (cluster, control, on, is, e)
  asks t pin root (AtReset u cluster control r on is e) = (cluster, control, on, is, e)
