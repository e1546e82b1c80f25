-- A netlist with added carries goes through the same steps.
use Rattle.std.proofs.Common.{◌≡◌, ℕ, ◌<◌, Bool, Option, None, Some, List, [], ◌∷◌, length, All, refl}
use Rattle.std.specs.Prelude.{slice_index_or}
use Rattle.std.proofs.lemmas.List.Elements.{All-head, All-tail}
use Rattle.ice_base.specs.declared.number.SignalNo.{SignalNo}
use Rattle.ice_base_values.specs.System.{reading}
use Rattle.ice_net.specs.declared.cell.Cell.{Cell}
use Rattle.ice_net.specs.NetlistData.{NetlistData}
use Rattle.ice_net.specs.Formed.{IsBelow, IsFormedCell, IsFormed}
use Rattle.ice_net.specs.Meaning.{signal_value, shows}
use Rattle.ice_check.proofs.ListsBelow.{at_below}
use Rattle.ice_net_additions.proofs.Growths.{InPairs}
use Rattle.ice_net_additions.proofs.GrownValues.{value_same}
use Rattle.ice_net_additions.proofs.GrownSteps.{ReadSame, DoesSame}
use Rattle.ice_net_additions.proofs.GrownSteps as grown_steps
use Rattle.ice_carry_tails.proofs.Added.{Ins, growth}
use Rattle.ice_carry_tails.proofs.NewDrivers.{grown}

-- cells whose inputs keep their values
module _ (count : ℕ) (v w : ℕ → Bool) (old : (s : ℕ) → s < count → w s ≡ v s) where
  same_pin : (bare : Bool) (pin : Option SignalNo) → IsBelow count pin → reading bare (λ (signal : SignalNo). w signal.0) pin ≡ reading bare (λ (signal : SignalNo). v signal.0) pin
  same_pin bare None below = refl
  same_pin bare (Some signal) below = old signal.0 below

  inputs_same : (ins : Ins) → All (IsBelow count) ins → ReadSame v w ins ins
  inputs_same ins all bare k = same_pin bare (slice_index_or ins k None) (at_below count ins k all)

  cells_same : (cells : List Cell) → All (IsFormedCell count) cells → InPairs (DoesSame v w) cells cells
  cells_same [] all = tt
  cells_same (cell ∷ cells) all = (
    record { kind = refl; inputs = inputs_same cell.ins (All-head (IsFormedCell count) cell cells all).ins_below },
    cells_same cells (All-tail (IsFormedCell count) cell cells all),
  )

pub shows_same : (n : NetlistData) (names : List (List ℕ)) (lists : List Ins) → IsFormed n → (levels : List (List Bool)) → shows (grown n names lists) levels ≡ shows n levels
shows_same n names lists formed =
    grown_steps.shows_same (growth n names lists) formed
    (λ levels kept after same. cells_same (length n.names) (signal_value n levels kept) (signal_value (grown n names lists) levels after)
    (value_same (growth n names lists) formed levels kept after same) n.cells formed.cells)
