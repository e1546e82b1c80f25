-- What each cell of a design with runs is: one of the design without them, one that a run has beside its carries, or one to which a flip-flop moved.
use Rattle.std.proofs.Common.{◌≡◌, ◌⊎◌, ℕ, zero, suc, ◌+◌, false, Option, None, Some, List, [], ◌∷◌, length, map, inl, inr, refl, sym, ap, ◌∙◌, subst, arith}
use Rattle.std.specs.Prelude.{slice_get, slice_index_or}
use Rattle.std.specs.Option.{option_map_or}
use Rattle.std.proofs.lemmas.Option.{none-some}
use Rattle.ice_net.specs.declared.kind.Reset.{Reset}
use Rattle.ice_base_values.specs.Order.{At, Has}
use Rattle.ice_base_values.proofs.Members.{At_parts, map_At}
use Rattle.ice_cells.specs.declared.cell.Control.{Control}
use Rattle.ice_cells.specs.declared.cell.LogicCell.{LogicCell}
use Rattle.ice_cells.specs.declared.design.Design.{Design}
use Rattle.ice_cells.specs.declared.root.CarryIn.TheVariants.{Read}
use Rattle.ice_cells.specs.declared.root.Root.{Root}
use Rattle.ice_cells.specs.declared.root.Root.TheVariants.{CarryOut}
use Rattle.ice_cells.specs.Chains.{end}
use Rattle.ice_cells.specs.Follows.{follows}
use Rattle.ice_cells.specs.Moves.{renamed, renamed_flop, become_from, moved_cell}
use Rattle.ice_cells.specs.Readings.{roots_read}
use Rattle.ice_cells.specs.Runs.{cells_fed, fed_numbers, movers, moved_numbers, runs_of}
use Rattle.ice_carry_chains.specs.Before.{HasCarry, IsBeforeRuns}
use Rattle.ice_carry_chains.proofs.CellsAfter.{FeedsIn, FeedsOut}
use Rattle.ice_carry_chains.proofs.DesignChains.{heads_are}
use Rattle.ice_carry_chains.proofs.ReadsFed.{into_fed}
use Rattle.ice_carry_chains.proofs.DesignRuns.{feed_number, CellFed, Old, Feed, cell_fed}
use Rattle.ice_carry_chains.proofs.HeadPlaces.{head_back}
use Rattle.ice_carry_laws.specs.AreRuns.{TakesIn, PassesOn}
use Rattle.ice_carry_laws.proofs.MovedNumbers.{moves_back}
use Rattle.ice_carry_laws.proofs.ReadRoots.{carry_read}
use Rattle.ice_carry_laws.proofs.TiedRuns.{takes_root, passed_by, end_carry}

pub data NewCell (d : Design) (c : ℕ) (y : LogicCell) : Type 0 where
  Kept : (x : LogicCell) → At d.cells c x → NewCell d c y
  Taking : (root : Root) → TakesIn (runs_of d) c (renamed (moved_numbers d) (fed_numbers d) root) → Has (roots_read d) (Some root)
      → ((k : ℕ) → root ≡ CarryOut k → (f : ℕ) × (slice_index_or (fed_numbers d) k None ≡ Some f)) → NewCell d c y
  Passing : (k : ℕ) → PassesOn (runs_of d) c k → HasCarry d k → NewCell d c y
  Gone : (m : ℕ) (cell : LogicCell) (flop : Control × Reset) → At d.cells m cell → cell.flop ≡ Some flop → Has (movers d) m → moved_cell (moved_numbers d) (fed_numbers d) d.cells m ≡ y → NewCell d c y

become_from_back : (moved fed : List (Option ℕ)) (c : ℕ) (cells : List LogicCell) (j : ℕ) (y : LogicCell) → At (become_from moved fed c cells) j y → (x : LogicCell) × At cells j x
become_from_back moved fed c [] j y at = absurd (none-some y at)
become_from_back moved fed c (x ∷ cells) zero y at = (x, refl)
become_from_back moved fed c (x ∷ cells) (suc j) y at = become_from_back moved fed (c + 1) cells j y at

none_more : (k : ℕ) → k ≡ k + 0
none_more k = omega arith

module _ (d : Design) (ready : IsBeforeRuns d) where
  abbrev moved : List (Option ℕ)
  moved = moved_numbers d

  abbrev fed : List (Option ℕ)
  fed = fed_numbers d

  fed_cell : (c : ℕ) (y x : LogicCell) → CellFed d c x → NewCell d c y
  fed_cell c y x (Old at) = Kept x at
  fed_cell c y x (Feed r head i at (FeedsIn root e h k) number) =
      let back = head_back (follows d) d.carries r head at in
      let same : head ≡ (head.0, Read root) = λ j. (head.0, e j) in
      let listed : At d.carries back.place (head.0, Read root) = back.at ∙ ap Some same in
      Taking root (subst (λ n. TakesIn (runs_of d) n (renamed moved fed root)) (none_more (feed_number d r) ∙ ap (λ n. feed_number d r + n) (sym h) ∙ sym number) (takes_root d ready r head root at e))
      (carry_read d back.place head.0 root listed)
      (λ k f. into_fed d ready head.0 k (back.place, listed ∙ ap (λ q. Some (head.0, Read q)) f) (λ g. (heads_are d ready).first r head at k g))
  fed_cell c y x (Feed r head i at (FeedsOut passes h k) number) =
      Passing (end (follows d) (length (follows d)) head.0)
      (passed_by d ready r head (end (follows d) (length (follows d)) head.0) c at passes refl (ap (λ n. feed_number d r + n) (sym h) ∙ sym number)) (end_carry d ready r head at)

  old_flop : (m : ℕ) (cell : LogicCell) (flop : Control × Reset) (c : ℕ) (y : LogicCell) → cell.flop ≡ Some flop → At (cells_fed d) m cell → Has (movers d) m → moved_cell moved fed (cells_fed d) m ≡ y
      → CellFed d m cell → NewCell d c y
  old_flop m cell flop c y e at mover is (Old old) =
      let found : slice_get d.cells m ≡ slice_get (cells_fed d) m = old ∙ sym at in
      Gone m cell flop old e mover
      ((λ i. record {
        table = 43690;
        ins = (moved_cell moved fed (cells_fed d) m).ins;
        carry = false;
        carry_to_in3 = false;
        flop = renamed_flop moved fed (option_map_or (λ (x : LogicCell). x.flop) (found i) None);
      }) ∙ is)
  old_flop m cell flop c y e at mover is (Feed r head i there (FeedsIn root f h k) number) = absurd (none-some flop (ap (λ (z : LogicCell). z.flop) k ∙ e))
  old_flop m cell flop c y e at mover is (Feed r head i there (FeedsOut f h k) number) = absurd (none-some flop (ap (λ (z : LogicCell). z.flop) k ∙ e))

  pub new_cell : (c : ℕ) (y : LogicCell) → At (runs_of d).cells c y → NewCell d c y
  new_cell c y at = by (At_parts (become_from moved fed 0 (cells_fed d)) (map (moved_cell moved fed (cells_fed d)) (movers d)) c y at)
    where
      by : At (become_from moved fed 0 (cells_fed d)) c y ⊎ ((j : ℕ) × (c ≡ length (become_from moved fed 0 (cells_fed d)) + j) × At (map (moved_cell moved fed (cells_fed d)) (movers d)) j y) → NewCell d c y
      by (inl here) = (let back = become_from_back moved fed 0 (cells_fed d) c y here in fed_cell c y back.0 (cell_fed d c back.0 back.1))
      by (inr (j, e, there)) =
          let back = map_At (moved_cell moved fed (cells_fed d)) (movers d) j y there in
          let is = moves_back (cells_fed d) (runs_of d).runs back.0 (j, back.1) in
          old_flop back.0 is.cell is.flop c y is.is is.at (j, back.1) back.2 (cell_fed d back.0 is.cell is.at)
