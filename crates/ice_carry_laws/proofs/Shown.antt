-- A design shows with its runs what it shows without.
use Rattle.std.proofs.Common.{◌≡◌, ℕ, zero, suc, ◌<◌, Bool, true, Some, List, [], ◌∷◌, length, refl, ap, arith}
use Rattle.ice_base_values.specs.Order.{At, Has}
use Rattle.ice_cells.specs.declared.cell.LogicCell.{LogicCell}
use Rattle.ice_cells.specs.declared.design.Design.{Design}
use Rattle.ice_cells.specs.declared.root.CarryIn.{CarryIn}
use Rattle.ice_cells.specs.declared.root.Root.{Root}
use Rattle.ice_cells.specs.declared.root.Root.TheVariants.{PadIn, CellOut, GlobalOut, CarryOut}
use Rattle.ice_cells.specs.Meaning.{node_reads, shows}
use Rattle.ice_cells.specs.Nodes.{Node, Net, source_node, node_or, into_runs, carry_into}
use Rattle.ice_cells.specs.Readings.{roots_read}
use Rattle.ice_cells.specs.Runs.{fed_numbers, moved_numbers, runs_of}
use Rattle.ice_carry_chains.specs.Before.{IsBeforeRuns}
use Rattle.ice_carry_chains.proofs.DesignChains.{into_is}
use Rattle.ice_carry_laws.specs.AreRuns.{IsIn}
use Rattle.ice_carry_laws.specs.RunLaws.{ReadsWithin}
use Rattle.ice_carry_laws.proofs.ReadRoots.{closed}
use Rattle.ice_carry_laws.proofs.Steps.{shows_same}
use Rattle.ice_carry_laws.proofs.TiedRuns.{are_runs}

pub at_within : {X : Type 0} (xs : List X) (i : ℕ) → i < length xs → (x : X) × At xs i x
at_within [] i lt = absurd (omega arith)
at_within (x ∷ xs) zero lt = (x, refl)
at_within (x ∷ xs) (suc i) lt = at_within xs i (omega arith)

module _ (d : Design) (ready : IsBeforeRuns d) (within : ReadsWithin d) where
  pub roots_in : (root : Root) → Has (roots_read d) (Some root) → IsIn d (Net root)
  roots_in (PadIn k) has = tt
  roots_in (CellOut c) has = at_within d.cells c (within.outputs c has)
  roots_in (GlobalOut g) has = at_within d.globals g (within.buffers g has)
  roots_in (CarryOut k) has = ready.there k (ready.read k has)

  into : (c : ℕ) (cell : LogicCell) → At d.cells c cell → cell.carry ≡ true → (i : ℕ) × (x : CarryIn) × At d.carries i (c, x) × (carry_into d c ≡ Some (source_node x))
  into c cell at on =
      let has = ready.listed c cell at on in
      (has.place, has.into, has.at, ap (λ o. node_or o (into_runs d.runs c)) (into_is d ready c has))

  pub reads_in : (p q : Node) → IsIn d p → Has (node_reads d p) (Some q) → IsIn d q
  reads_in p q is has = closed d ready.unchained into roots_in p q is has

  pub runs_show : (levels : List (List Bool)) → shows (runs_of d) levels ≡ shows d levels
  runs_show levels = shows_same d (runs_of d) (moved_numbers d) (fed_numbers d) (are_runs d ready) ready.values roots_in reads_in levels
