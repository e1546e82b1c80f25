-- What is made of cells, as they are gone over.
use Rattle.std.proofs.Common.{◌≡◌, ℕ, ◌+◌, ◌<◌, ◌≤◌, Option, List, [], ◌∷◌, ◌++◌, length, get_or, map, take, drop, ap, sym, ◌∙◌, append_assoc, append-nil}
use Rattle.std.specs.Prelude.{slice_index_or}
use Rattle.std.proofs.lemmas.List.{drop_more, drop_all, map_more}
use Rattle.ice_net.specs.declared.cell.Cell.{Cell}
use Rattle.ice_cells.specs.declared.cell.LogicCell.{LogicCell}
use Rattle.ice_cells.specs.declared.origin.Origin.{Origin}
use Rattle.ice_cells.specs.declared.root.CarryIn.{CarryIn}
use Rattle.ice_cells.specs.declared.root.Root.{Root}
use Rattle.ice_cells.specs.Packed.{PackPlan, root_by, roots_from, one_if, is_global, carry_by, carries_from, cell_of}

-- the cells that are left, at their first
left_at : (cells : List Cell) (j : ℕ) (cell : Cell) → j < length cells → cell ≡ get_or cells j cell → drop j cells ≡ cell ∷ drop (j + 1) cells
left_at cells j cell lt at = drop_more cells j cell lt ∙ ap (λ (x : Cell). x ∷ drop (j + 1) cells) (sym at)

pub root_more : (os : List Origin) (hs : List ℕ) (cells : List Cell) (j g next : ℕ) (cell : Cell) (root : Option Root) (before after : List (Option Root)) → j < length cells → cell ≡ get_or cells j cell
    → root ≡ root_by os (slice_index_or hs j 0) g cell.kind cell.ins cell.outs → next ≡ g + one_if (is_global cell.kind) → after ≡ before ++ root ∷ []
    → after ++ roots_from os hs (j + 1) next (drop (j + 1) cells) ≡ before ++ roots_from os hs j g (drop j cells)
root_more os hs cells j g next cell root before after lt at is step now =
    let rest = roots_from os hs (j + 1) (g + one_if (is_global cell.kind)) (drop (j + 1) cells) in
    (λ i. now i ++ roots_from os hs (j + 1) (step i) (drop (j + 1) cells))
    ∙ append_assoc before (root ∷ []) rest
    ∙ ap (λ (r : Option Root). before ++ r ∷ rest) is
    ∙ ap (λ (xs : List Cell). before ++ roots_from os hs j g xs) (sym (left_at cells j cell lt at))

pub roots_end : (os : List Origin) (hs : List ℕ) (cells : List Cell) (j g : ℕ) (roots : List (Option Root)) → length cells ≤ j → roots ≡ roots ++ roots_from os hs j g (drop j cells)
roots_end os hs cells j g roots le = sym (append-nil roots) ∙ ap (λ (xs : List Cell). roots ++ roots_from os hs j g xs) (sym (drop_all j cells le))

pub carry_more : (p : PackPlan) (hs : List ℕ) (cells : List Cell) (j : ℕ) (cell : Cell) (before after : List (ℕ × CarryIn)) → j < length cells → cell ≡ get_or cells j cell
    → after ≡ before ++ carry_by p (slice_index_or hs j 0) cell.kind cell.ins cell.outs
    → after ++ carries_from p hs (j + 1) (drop (j + 1) cells) ≡ before ++ carries_from p hs j (drop j cells)
carry_more p hs cells j cell before after lt at now =
    let rest = carries_from p hs (j + 1) (drop (j + 1) cells) in
    ap (λ (xs : List (ℕ × CarryIn)). xs ++ rest) now
    ∙ append_assoc before (carry_by p (slice_index_or hs j 0) cell.kind cell.ins cell.outs) rest
    ∙ ap (λ (xs : List Cell). before ++ carries_from p hs j xs) (sym (left_at cells j cell lt at))

pub carries_end : (p : PackPlan) (hs : List ℕ) (cells : List Cell) (j : ℕ) (carries : List (ℕ × CarryIn)) → length cells ≤ j → carries ≡ carries ++ carries_from p hs j (drop j cells)
carries_end p hs cells j carries le = sym (append-nil carries) ∙ ap (λ (xs : List Cell). carries ++ carries_from p hs j xs) (sym (drop_all j cells le))

pub cell_more : (p : PackPlan) (cells : List Cell) (openers : List ℕ) (i d : ℕ) (cell : LogicCell) (before after : List LogicCell) → i < length openers → before ≡ map (cell_of p cells) (take i openers)
    → after ≡ before ++ cell ∷ [] → cell ≡ cell_of p cells (get_or openers i d) → after ≡ map (cell_of p cells) (take (i + 1) openers)
cell_more p cells openers i d cell before after lt e now is =
    now ∙ ap (λ (xs : List LogicCell). xs ++ cell ∷ []) e ∙ ap (λ (x : LogicCell). map (cell_of p cells) (take i openers) ++ x ∷ []) is ∙ sym (map_more (cell_of p cells) openers i d lt)
