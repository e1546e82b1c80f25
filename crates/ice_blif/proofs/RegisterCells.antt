-- The cells of pads that are taken apart are well formed.
use Rattle.std.proofs.Common.{◌≡◌, ℕ, ◌<◌, ◌≤◌, zero, suc, Bool, List, [], ◌∷◌, Option, Some, None, slice_get, slice_index_or, All, IfSome, option_map, refl, sym, ap, subst, ◌∙◌, arith}
use Rattle.std.specs.List.{AllByRecursion}
use Rattle.std.proofs.lemmas.List.{length-set}
use Rattle.std.proofs.lemmas.List.Elements.{All-from_recursion, recursion_from_All}
use Rattle.std.proofs.lemmas.Option.{get_or_from_slice_get}
use Rattle.ice_base.specs.declared.number.SignalNo.{SignalNo}
use Rattle.ice_net.specs.declared.cell.Cell.{Cell}
use Rattle.ice_net.specs.declared.kind.CellKind.TheVariants.{PadCell}
use Rattle.ice_net.specs.Formed.{IsBelow, IsFormedCell}
use Rattle.ice_net.specs.Kinds.{ins_count, outs_count}
use Rattle.ice_net.proofs.NetlistLaws.{below_more}
use Rattle.ice_blif.specs.Cells.{IsReadCell, IsPad}
use Rattle.ice_blif.specs.State.{own_cell}
use Rattle.ice_blif.specs.Registers.{register, input_pad, input_register, output_pad, output_register, buffer, buffer_of}
use Rattle.ice_blif.proofs.Wirings.{all_below_more, wired_below}

pub pad_formed : (n pin_type : ℕ) (pullup : Bool) (cell : Cell) → IsFormedCell n cell → cell.kind ≡ PadCell pin_type pullup → IsPad n cell
pad_formed n pin_type pullup cell h is = record {
  ins_long = h.ins_long ∙ ap ins_count is;
  outs_long = h.outs_long ∙ ap outs_count is;
  ins_below = h.ins_below;
  outs_below = h.outs_below;
}

-- ---- signals
below_at : (n : ℕ) (signals : List (Option SignalNo)) (k : ℕ) → AllByRecursion (IsBelow n) signals → IsBelow n (slice_index_or signals k None)
below_at n [] k h = tt
below_at n (s ∷ signals) zero h = h.0
below_at n (s ∷ signals) (suc k) h = below_at n signals k h.1

signal_below : (m n : ℕ) (signals : List (Option SignalNo)) (k : ℕ) → m ≤ n → All (IsBelow m) signals → IsBelow n (slice_index_or signals k None)
signal_below m n signals k le h = below_more m n le (slice_index_or signals k None) (below_at m signals k (recursion_from_All (IsBelow m) signals h))

-- ---- registers
register_formed : (n line : ℕ) (clock datum enable output : Option SignalNo) → IsBelow n clock → IsBelow n datum → IsBelow n enable → IsBelow n output → IsFormedCell n (register line clock datum enable output)
register_formed n line clock datum enable output c d e o = record {
  ins_long = refl;
  outs_long = refl;
  ins_below = All-from_recursion (IsBelow n) (clock ∷ datum ∷ enable ∷ []) (c, (d, (e, tt)));
  outs_below = All-from_recursion (IsBelow n) (output ∷ []) (o, tt);
  kind = tt;
}

pub input_register_formed : (m n : ℕ) (cell : Cell) (hidden : SignalNo) → IsPad m cell → m ≤ n → hidden.0 < n → IsFormedCell n (input_register cell hidden)
input_register_formed m n cell hidden h le lt =
    register_formed n cell.line _ _ _ _ (signal_below m n cell.ins 6 le h.ins_below) lt (signal_below m n cell.ins 5 le h.ins_below) (signal_below m n cell.outs 0 le h.outs_below)

pub output_register_formed : (m n : ℕ) (cell : Cell) (hidden : SignalNo) → IsPad m cell → m ≤ n → hidden.0 < n → IsFormedCell n (output_register cell hidden)
output_register_formed m n cell hidden h le lt =
    register_formed n cell.line _ _ _ _ (signal_below m n cell.ins 7 le h.ins_below) (signal_below m n cell.ins 1 le h.ins_below) (signal_below m n cell.ins 5 le h.ins_below) lt

-- ---- pads
pub input_pad_formed : (m n : ℕ) (cell : Cell) (pullup : Bool) (hidden : SignalNo) → IsPad m cell → m ≤ n → hidden.0 < n → IsFormedCell n (input_pad cell pullup hidden)
input_pad_formed m n cell pullup hidden h le lt = record {
  ins_long = h.ins_long;
  outs_long = length-set cell.outs 0 (Some hidden) ∙ h.outs_long;
  ins_below = all_below_more m n cell.ins le h.ins_below;
  outs_below = wired_below m n cell.outs 0 (Some hidden) le h.outs_below lt;
  kind = omega arith;
}

pub output_pad_formed : (m n : ℕ) (cell : Cell) (pullup : Bool) (hidden : SignalNo) → IsPad m cell → m ≤ n → hidden.0 < n → IsFormedCell n (output_pad cell pullup hidden)
output_pad_formed m n cell pullup hidden h le lt = record {
  ins_long = length-set cell.ins 1 (Some hidden) ∙ h.ins_long;
  outs_long = h.outs_long;
  ins_below = wired_below m n cell.ins 1 (Some hidden) le h.ins_below lt;
  outs_below = all_below_more m n cell.outs le h.outs_below;
  kind = omega arith;
}

-- ---- buffers
pub own_formed : (n : ℕ) (cell : Cell) → IsReadCell n cell → IsFormedCell n (own_cell cell)
own_formed n cell h = h.own

buffer_formed : (m n : ℕ) (cell : Cell) (output : Option SignalNo) → m ≤ n → IsReadCell m cell → slice_get cell.outs (outs_count cell.kind) ≡ Some output → IsFormedCell n (buffer cell output)
buffer_formed m n cell output le h at = record {
  ins_long = refl;
  outs_long = refl;
  ins_below = All-from_recursion (IsBelow n) (slice_index_or cell.ins 0 None ∷ []) (signal_below m n cell.ins 0 le h.own.ins_below, tt);
  outs_below = All-from_recursion (IsBelow n) (output ∷ [])
      (subst (IsBelow n) (get_or_from_slice_get cell.outs (outs_count cell.kind) output None at) (signal_below m n cell.outs (outs_count cell.kind) le h.outs_below), tt);
  kind = tt;
}

-- the SB_GB of a cell that has one
pub buffer_of_formed : (m n : ℕ) (cell : Cell) (found : Option Cell) → m ≤ n → IsReadCell m cell → found ≡ buffer_of cell → IfSome found (IsFormedCell n)
buffer_of_formed m n cell found le h is = subst (λ o. IfSome o (IsFormedCell n)) (sym is) (by (slice_get cell.outs (outs_count cell.kind)) refl)
  where
    by : (o : Option (Option SignalNo)) → slice_get cell.outs (outs_count cell.kind) ≡ o → IfSome (option_map (buffer cell) o) (IsFormedCell n)
    by None at = tt
    by (Some output) at = buffer_formed m n cell output le h at
