-- Which origins are the level of a pad, and that a design reads these from the pad.
use Rattle.std.proofs.Common.{◌≡◌, ℕ, zero, suc, ◌+◌, Bool, true, false, cond, Option, None, Some, List, [], ◌∷◌, refl, sym, ap, ◌∙◌}
use Rattle.std.specs.Prelude.{slice_index_or}
use Rattle.ice_base.specs.declared.number.SignalNo.{SignalNo}
use Rattle.ice_base_values.specs.Order.{At}
use Rattle.ice_net.specs.declared.cell.Cell.{Cell}
use Rattle.ice_net.specs.declared.kind.CellKind.{CellKind}
use Rattle.ice_net.specs.declared.kind.CellKind.TheVariants.{Lut, Cover, Carry, Flop, PadCell, Global}
use Rattle.ice_net.specs.NetlistData.{NetlistData}
use Rattle.ice_cells.specs.declared.origin.Origin.{Origin}
use Rattle.ice_cells.specs.declared.origin.Origin.TheVariants.{Fixed, Pad, Made}
use Rattle.ice_cells.specs.declared.root.Root.{Root}
use Rattle.ice_cells.specs.declared.root.Root.TheVariants.{PadIn, CellOut, CarryOut}
use Rattle.ice_cells.specs.Origins.{is_table_kind, input_origin, origins}
use Rattle.ice_cells.specs.Uses.{dropped}
use Rattle.ice_cells.specs.Homes.{home, homes}
use Rattle.ice_cells.specs.Packed.{pad_root, root_by, roots_from, origin_root, constant_root, sink_root}
use Rattle.ice_pack_laws.proofs.Found.{os, fs, p}
use Rattle.ice_pack_laws.proofs.Parts.{rooted_at, root_is}

-- cell j is an SB_IO at pad k
pub record IsBufferOf (origins : List Origin) (cells : List Cell) (k j : ℕ) : Type 0 where
  pub cell : Cell
  pub at : At cells j cell
  pub pin_type : ℕ
  pub pullup : Bool
  pub is : cell.kind ≡ PadCell pin_type pullup
  pub pin : input_origin origins (slice_index_or cell.ins 0 None) ≡ Pad k

-- the level of pad k: its own, or what an SB_IO at it gives
abbrev pub IsOfPad : List Origin → List Cell → ℕ → Origin → Type 0
IsOfPad origins cells k (Fixed level) = ⊥
IsOfPad origins cells k (Pad j) = j ≡ k
IsOfPad origins cells k (Made j) = IsBufferOf origins cells k j

-- a root is that of a cell
cell_there : (origins : List Origin) (hs : List ℕ) (j g : ℕ) (cells : List Cell) (i : ℕ) (r : Root) → slice_index_or (roots_from origins hs j g cells) i None ≡ Some r → (cell : Cell) × At cells i cell
cell_there origins hs j g [] i r e = cc e
cell_there origins hs j g (cell ∷ cells) zero r e = (cell, refl)
cell_there origins hs j g (cell ∷ cells) (suc i) r e = cell_there origins hs (j + 1) (g + _) cells i r e

pad_back : (k : ℕ) (o : Origin) → pad_root o ≡ Some (PadIn k) → o ≡ Pad k
pad_back k (Fixed level) e = cc e
pad_back k (Pad j) e = cc e
pad_back k (Made j) e = cc e

-- of all cells an SB_IO alone has the root of a pad
abbrev IsPadKind : List Origin → ℕ → CellKind → List (Option SignalNo) → Type 0
IsPadKind origins k kind ins = (t : ℕ) × (u : Bool) × (kind ≡ PadCell t u) × (input_origin origins (slice_index_or ins 0 None) ≡ Pad k)

from_root : (origins : List Origin) (c g k : ℕ) (kind : CellKind) (ins outs : List (Option SignalNo)) → root_by origins c g kind ins outs ≡ Some (PadIn k) → IsPadKind origins k kind ins
from_root origins c g k (Lut t) ins outs e = cc e
from_root origins c g k (Cover t width) ins outs e = by (is_table_kind (Cover t width)) e
  where
    by : (b : Bool) → cond b (Some (CellOut c)) None ≡ Some (PadIn k) → IsPadKind origins k (Cover t width) ins
    by true f = cc f
    by false f = cc f
from_root origins c g k Carry ins outs e = by (dropped outs) e
  where
    by : (b : Bool) → cond b None (Some (CarryOut c)) ≡ Some (PadIn k) → IsPadKind origins k Carry ins
    by true f = cc f
    by false f = cc f
from_root origins c g k (Flop falling enable reset) ins outs e = cc e
from_root origins c g k (PadCell pin_type pullup) ins outs e = (pin_type, pullup, refl, pad_back k (input_origin origins (slice_index_or ins 0 None)) e)
from_root origins c g k Global ins outs e = cc e

module _ (n : NetlistData) where
  pub plain_pad : (k : ℕ) (o : Origin) → origin_root (p n).roots o ≡ Some (PadIn k) → IsOfPad (os n) n.cells k o
  plain_pad k (Fixed level) e = cc e
  plain_pad k (Pad j) e = cc e
  plain_pad k (Made j) e =
      let there = cell_there (os n) (homes (fs n)) 0 0 n.cells j (PadIn k) e in
      let from = from_root (os n) (home (fs n) j) (0 + (rooted_at n j there.0 there.1).before) k (there.0).kind (there.0).ins (there.0).outs (sym (root_is n j there.0 there.1) ∙ e) in
      record { cell = there.0; at = there.1; pin_type = from.0; pullup = from.1; is = from.2; pin = from.3 }

  pub pad_plain : (k : ℕ) (o : Origin) → IsOfPad (os n) n.cells k o → origin_root (p n).roots o ≡ Some (PadIn k)
  pad_plain k (Fixed level) has = absurd has
  pad_plain k (Pad j) e = ap (λ i. Some (PadIn i)) e
  pad_plain k (Made j) r =
      root_is n j r.cell r.at
      ∙ ap (λ kind. root_by (os n) (home (fs n) j) (0 + (rooted_at n j r.cell r.at).before) kind r.cell.ins r.cell.outs) r.is
      ∙ ap pad_root r.pin

  constant : (k : ℕ) (bare : Bool) (c : ℕ) (level : Bool) → constant_root bare c level ≡ Some (PadIn k) → ⊥
  constant k true c true e = cc e
  constant k true c false e = cc e
  constant k false c true e = cc e
  constant k false c false e = cc e

  pub sink_pad : (bare : Bool) (c k : ℕ) (o : Origin) → sink_root bare c (p n).roots o ≡ Some (PadIn k) → IsOfPad (os n) n.cells k o
  sink_pad bare c k (Fixed level) e = constant k bare c level e
  sink_pad bare c k (Pad j) e = plain_pad k (Pad j) e
  sink_pad bare c k (Made j) e = plain_pad k (Made j) e

  pub pad_sink : (bare : Bool) (c k : ℕ) (o : Origin) → IsOfPad (os n) n.cells k o → sink_root bare c (p n).roots o ≡ Some (PadIn k)
  pad_sink bare c k (Fixed level) has = absurd has
  pad_sink bare c k (Pad j) has = pad_plain k (Pad j) has
  pad_sink bare c k (Made j) has = pad_plain k (Made j) has
