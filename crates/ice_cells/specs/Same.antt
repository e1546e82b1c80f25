-- When roots, control sets, and the inputs of carries and look-up tables are the same.
use Rattle.std.specs.Prelude.{◌==◌, ◌&&◌, Bool, true, false, Option, None, Some}
use Rattle.ice_cells.specs.declared.cell.Control.{Control}
use Rattle.ice_cells.specs.declared.origin.Origin.{Origin}
use Rattle.ice_cells.specs.declared.origin.Origin.TheVariants.{Fixed, Pad, Made}
use Rattle.ice_cells.specs.declared.root.Root.{Root}
use Rattle.ice_cells.specs.declared.root.Root.TheVariants.{PadIn, CellOut, GlobalOut, CarryOut}
use Rattle.ice_cells.specs.declared.share.Pair.{Pair}

abbrev pub same_level : Bool → Bool → Bool
same_level false false = true
same_level false true = false
same_level true false = false
same_level true true = true

-- ---- roots and control sets
abbrev pub same_root : Root → Root → Bool
same_root (PadIn j) (PadIn k) = j == k
same_root (PadIn j) (CellOut k) = false
same_root (PadIn j) (GlobalOut k) = false
same_root (PadIn j) (CarryOut k) = false
same_root (CellOut j) (PadIn k) = false
same_root (CellOut j) (CellOut k) = j == k
same_root (CellOut j) (GlobalOut k) = false
same_root (CellOut j) (CarryOut k) = false
same_root (GlobalOut j) (PadIn k) = false
same_root (GlobalOut j) (CellOut k) = false
same_root (GlobalOut j) (GlobalOut k) = j == k
same_root (GlobalOut j) (CarryOut k) = false
same_root (CarryOut j) (PadIn k) = false
same_root (CarryOut j) (CellOut k) = false
same_root (CarryOut j) (GlobalOut k) = false
same_root (CarryOut j) (CarryOut k) = j == k

abbrev pub same_source : Option Root → Option Root → Bool
same_source None None = true
same_source None (Some b) = false
same_source (Some a) None = false
same_source (Some a) (Some b) = same_root a b

-- the same clock, edge, enable, and set or reset
abbrev pub same_control : Control → Control → Bool
same_control a b = same_source a.clock b.clock && (same_level a.falling b.falling && (same_source a.enable b.enable && same_source a.reset b.reset))

-- ---- origins
abbrev pub same_origin : Origin → Origin → Bool
same_origin (Fixed a) (Fixed b) = same_level a b
same_origin (Fixed a) (Pad k) = false
same_origin (Fixed a) (Made i) = false
same_origin (Pad j) (Fixed b) = false
same_origin (Pad j) (Pad k) = j == k
same_origin (Pad j) (Made i) = false
same_origin (Made h) (Fixed b) = false
same_origin (Made h) (Pad k) = false
same_origin (Made h) (Made i) = h == i

abbrev pub same_pair : Pair → Pair → Bool
same_pair a b = same_origin a.first b.first && same_origin a.second b.second
