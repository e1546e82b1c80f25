-- The cells of pads, one pad after another.
use Rattle.std.proofs.Common.{◌≡◌, ℕ, ◌+◌, ◌<◌, List, [], ◌∷◌, ◌++◌, length, drop, map, zip, get_or, sym, ap, ◌∙◌, subst}
use Rattle.std.specs.List.{flat_map, range_with_len}
use Rattle.std.proofs.lemmas.List.{drop_more}
use Rattle.ice_chip.specs.declared.rows.Pad.{Pad}
use Rattle.ice_net.specs.declared.cell.Cell.{Cell}
use Rattle.ice_net.specs.NetlistData.{NetlistData}
use Rattle.ice_back.specs.Adding.{with_cells, HasRoomForCells}
use Rattle.ice_back.proofs.Rooms.{cells_first, cells_rest, cells_both}

-- the pads from number k on, with their numbers
abbrev pub from : ℕ → List Pad → List (ℕ × Pad)
from k pads = zip (range_with_len k (length (drop k pads))) (drop k pads)

module _ (f : ℕ × Pad → Cell) (pads : List Pad) (k : ℕ) (d : Pad) (lt : k < length pads) where
  split : map f (from k pads) ≡ f (k, get_or pads k d) ∷ map f (from (k + 1) pads)
  split = ap (λ (xs : List Pad). map f (zip (range_with_len k (length xs)) xs)) (drop_more pads k d lt)

  pub pad_here : (n : NetlistData) → HasRoomForCells n (map f (from k pads)) → HasRoomForCells n (f (k, get_or pads k d) ∷ [])
  pad_here n room = cells_first n (f (k, get_or pads k d) ∷ []) (map f (from (k + 1) pads)) (subst (HasRoomForCells n) split room)

  pub pad_next : (n m whole : NetlistData) → HasRoomForCells n (map f (from k pads)) → whole ≡ with_cells n (map f (from k pads)) → m ≡ with_cells n (f (k, get_or pads k d) ∷ [])
      → HasRoomForCells m (map f (from (k + 1) pads)) × (whole ≡ with_cells m (map f (from (k + 1) pads)))
  pad_next n m whole room e is = (
    cells_rest n m (f (k, get_or pads k d) ∷ []) (map f (from (k + 1) pads)) (subst (HasRoomForCells n) split room) is,
    e ∙ ap (with_cells n) split ∙ sym (cells_both n m (f (k, get_or pads k d) ∷ []) (map f (from (k + 1) pads)) is),
  )

-- the same for pads that have several cells each, or none
module _ (f : ℕ × Pad → List Cell) (pads : List Pad) (k : ℕ) (d : Pad) (lt : k < length pads) where
  abbrev here : List Cell
  here = f (k, get_or pads k d)

  abbrev later : List Cell
  later = flat_map f (from (k + 1) pads)

  side_split : flat_map f (from k pads) ≡ here ++ later
  side_split = ap (λ (xs : List Pad). flat_map f (zip (range_with_len k (length xs)) xs)) (drop_more pads k d lt)

  pub side_here : (n : NetlistData) → HasRoomForCells n (flat_map f (from k pads)) → HasRoomForCells n (f (k, get_or pads k d))
  side_here n room = cells_first n here later (subst (HasRoomForCells n) side_split room)

  pub side_next : (n m whole : NetlistData) → HasRoomForCells n (flat_map f (from k pads)) → whole ≡ with_cells n (flat_map f (from k pads)) → m ≡ with_cells n (f (k, get_or pads k d))
      → HasRoomForCells m (flat_map f (from (k + 1) pads)) × (whole ≡ with_cells m (flat_map f (from (k + 1) pads)))
  side_next n m whole room e is = (cells_rest n m here later (subst (HasRoomForCells n) side_split room) is, e ∙ ap (with_cells n) side_split ∙ sym (cells_both n m here later is))
