-- Cells whose parameters are read.
use Rattle.std.proofs.Common.{◌∙◌, ℕ, List, Option, length, take, sym, ap, subst}
use Rattle.std.proofs.lemmas.List.Elements.{All-take}
use Rattle.ice_base.specs.declared.number.SignalNo.{SignalNo}
use Rattle.ice_net.specs.declared.cell.Cell.{Cell}
use Rattle.ice_net.specs.declared.kind.CellKind.{CellKind}
use Rattle.ice_net.specs.Formed.{IsBelow, IsFormedKind}
use Rattle.ice_net.specs.Kinds.{outs_count}
use Rattle.ice_blif.specs.Cells.{IsReadCell}
use Rattle.ice_blif.specs.State.{with_kind}
use Rattle.ice_blif.specs.Parameters.{KeepsForm}

-- a cell with another parameter is as well formed
pub with_kind_formed : (cell : Cell) (kind : CellKind) → KeepsForm cell.kind kind → (signals : ℕ) → IsReadCell signals cell → IsReadCell signals (with_kind cell kind)
with_kind_formed cell kind keeps signals h =
    let formed = h.own in
    let outs : ℕ → List (Option SignalNo) = λ k. take k cell.outs in
    record {
      own = record {
        ins_long = formed.ins_long ∙ sym keeps.ins;
        outs_long = ap (λ k. length (outs k)) keeps.outs ∙ formed.outs_long ∙ sym keeps.outs;
        ins_below = formed.ins_below;
        outs_below = All-take (IsBelow signals) (outs_count kind) cell.outs h.outs_below;
        kind = subst (λ k. IsFormedKind signals kind cell.ins (outs k)) (sym keeps.outs) (keeps.kind signals cell.ins (outs (outs_count cell.kind)) formed.kind);
      };
      outs_below = h.outs_below;
    }
