-- Cells that are taken apart one after another.
use Rattle.std.proofs.Common.{◌≡◌, ℕ, ◌+◌, ◌*◌, ◌≤◌, List, ◌∷◌, length, Result, Ok, All, ap, subst, ◌∙◌, arith}
use Rattle.std.specs.List.{AllByRecursion}
use Rattle.std.proofs.lemmas.List.Elements.{All-from_recursion, recursion_from_All}
use Rattle.ice_net.specs.declared.cell.Cell.{Cell}
use Rattle.ice_net.specs.NetlistData.{NetlistData}
use Rattle.ice_blif.specs.declared.fault.BlifFault.{BlifFault}
use Rattle.ice_blif.specs.Cells.{◌>>=◌, IsReadCell}
use Rattle.ice_blif.specs.Registers.{with_apart}
use Rattle.ice_blif.specs.FewSignals.{few_signals, apart_says}
use Rattle.ice_blif.proofs.Apart.{apart_few, apart_grows}
use Rattle.ice_blif.proofs.RawCells.{all_read_more}

each_read : (n : ℕ) (all : List Cell) (cell : Cell) (left : List Cell) → all ≡ cell ∷ left → All (IsReadCell n) all → AllByRecursion (IsReadCell n) (cell ∷ left)
each_read n all cell left is h = recursion_from_All (IsReadCell n) (cell ∷ left) (subst (λ cells. All (IsReadCell n) cells) is h)

-- the first of the cells that are left
pub first_read : (n : ℕ) (all : List Cell) (cell : Cell) (left : List Cell) → all ≡ cell ∷ left → All (IsReadCell n) all → IsReadCell n cell
first_read n all cell left is h = (each_read n all cell left is h).0

-- a cell is taken apart, and cells are left
pub record IsStep (n m : NetlistData) (all left : List Cell) : Type 0 where
  pub said : apart_says n all ≡ apart_says m left
  pub few : length n.cells + 3 * length all ≤ 3145728 → length m.cells + 3 * length left ≤ 3145728
  pub read : All (IsReadCell (length n.names)) all → All (IsReadCell (length m.names)) left

pub step : (n m : NetlistData) (all : List Cell) (cell : Cell) (left : List Cell) → all ≡ cell ∷ left → few_signals cell.line (with_apart n cell) ≡ Ok m → m ≡ with_apart n cell → IsStep n m all left
step n m all cell left is told added = record {
  said = ap (apart_says n) is ∙ ap (λ (x : Result NetlistData BlifFault). x >>= (λ k. apart_says k left)) told;
  few = λ le.
      let long = ap (λ (cells : List Cell). length cells) is in
      let made = ap (λ (k : NetlistData). length k.cells) added in
      omega (arith, le, long, made, apart_few n cell);
  read = λ h.
      let names = ap (λ (k : NetlistData). length k.names) added in
      all_read_more (length n.names) (length m.names) (omega (arith, names, apart_grows n cell)) left
      (All-from_recursion (IsReadCell (length n.names)) left (each_read (length n.names) all cell left is h).1);
}

pub left_long : (all : List Cell) (cell : Cell) (left : List Cell) (m n : ℕ) → all ≡ cell ∷ left → n + 1 ≡ m → m ≡ length all → n ≡ length left
left_long all cell left m n is fewer long = let same = ap (λ (cells : List Cell). length cells) is in omega (arith, fewer, long, same)
