-- The last inputs that take what comes into a carry: each belongs to a cell behind the first of its run.
use Rattle.std.proofs.Common.{◌≡◌, ◌⊎◌, ℕ, suc, ◌+◌, Bool, true, false, cond, Option, None, Some, List, ◌++◌, length, map, refl, ap, sym, ◌∙◌, subst, inl, inr}
use Rattle.std.specs.Prelude.{not, is_some, slice_index_or}
use Rattle.std.specs.List.{flat_map}
use Rattle.ice_base_values.specs.Order.{At, Has}
use Rattle.ice_cells.specs.declared.cell.LogicCell.{LogicCell}
use Rattle.ice_cells.specs.declared.design.Design.{Design}
use Rattle.ice_cells.specs.declared.design.Run.{Run}
use Rattle.ice_cells.specs.declared.follow.Follow.TheVariants.{Next, Other}
use Rattle.ice_cells.specs.declared.root.Root.{Root}
use Rattle.ice_cells.specs.declared.root.Root.TheVariants.{PadIn, CellOut, GlobalOut, CarryOut}
use Rattle.ice_cells.specs.Chains.{Head, next, next_by, chain, takes_in, passes_out, one_if, run_from}
use Rattle.ice_cells.specs.Follows.{follow, follows}
use Rattle.ice_cells.specs.Moves.{is_chained, renamed_source, last_input, moved_cell}
use Rattle.ice_cells.specs.Readings.{carry_root, cell_roots, pad_roots, roots_read}
use Rattle.ice_cells.specs.Runs.{run_heads, cells_fed, fed_numbers, moved_numbers, movers, runs_of}
use Rattle.ice_carry_chains.specs.Before.{HasCarry, IsBeforeRuns}
use Rattle.ice_carry_chains.proofs.CellsAfter.{CellAfter, Became, Moved, after_back, FeedsIn, FeedsOut, cell_in}
use Rattle.ice_carry_chains.proofs.ChainLaws.{behind, chain_has}
use Rattle.ice_carry_chains.proofs.DesignChains.{stands_behind, carry_below, head_carry, few}
use Rattle.ice_carry_chains.proofs.DesignFed.{chain_end, mark_is, other_fed, next_place}
use Rattle.ice_carry_chains.proofs.DesignRuns.{feed_number, the_run, become_of, CellFed, Old, Feed, cell_fed}
use Rattle.ice_carry_chains.proofs.LastInputs.{last_follows}
use Rattle.ice_carry_chains.proofs.RunLists.{flat_on, carries_inner, passes_last}
use Rattle.std.specs.Prelude.{option_and_then}
use Rattle.ice_base_values.proofs.ListPlaces.{Has_left, Has_right}

-- a last input that takes what comes into a carry has read a carry that is not passed on
pub record ChainedBy (fed : List (Option ℕ)) (input : Option Root) : Type 0 where
  pub carry : ℕ
  pub reads : input ≡ Some (CarryOut carry)
  pub not_fed : is_some (slice_index_or fed carry None) ≡ false

chained_by : (fed : List (Option ℕ)) (input : Option Root) → is_chained fed input ≡ true → ChainedBy fed input
chained_by fed None e = cc
chained_by fed (Some (PadIn k)) e = cc
chained_by fed (Some (CellOut k)) e = cc
chained_by fed (Some (GlobalOut k)) e = cc
chained_by fed (Some (CarryOut k)) e = record { carry = k; reads = refl; not_fed = turned (is_some (slice_index_or fed k None)) e }
  where
    turned : (b : Bool) → not b ≡ true → b ≡ false
    turned true f = cc
    turned false f = refl

abbrev in3 : LogicCell → Option Root
in3 x = slice_index_or x.ins 3 None

never : false ≡ true → ⊥
never e = cc

-- the cell stands in a run, behind another
pub record StandsAbove (d : Design) (c : ℕ) : Type 0 where
  pub row : ℕ
  pub place : ℕ
  pub run : Run
  pub at : At d.runs row run
  pub above : At run.cells (suc place) c

module _ (d : Design) (ready : IsBeforeRuns d) where
  -- the last input of each cell is read
  last_is_read : (c : ℕ) (x : LogicCell) → At d.cells c x → Has (roots_read d) (slice_index_or x.ins 3 None)
  last_is_read c x at =
      Has_left (map_carries ++ flat_map cell_roots d.cells ++ flat_map pad_roots d.pads) d.globals (slice_index_or x.ins 3 None)
      (Has_left (map_carries ++ flat_map cell_roots d.cells) (flat_map pad_roots d.pads) (slice_index_or x.ins 3 None)
      (Has_right map_carries (flat_map cell_roots d.cells) (slice_index_or x.ins 3 None) (flat_on cell_roots d.cells c x (slice_index_or x.ins 3 None) at (3, refl))))
    where
      map_carries : List (Option Root)
      map_carries = map carry_root d.carries

  -- a carry that a last input takes comes from the cell below
  pub chained_next : (c : ℕ) (x : LogicCell) → At d.cells c x → (by : ChainedBy (fed_numbers d) (slice_index_or x.ins 3 None)) → next (follows d) by.carry ≡ Some c
  chained_next c x at by = either (last_follows d c by.carry x at by.reads)
    where
      has : HasCarry d by.carry
      has = ready.read by.carry (subst (Has (roots_read d)) by.reads (last_is_read c x at))

      either : (follow d by.carry ≡ Next c) ⊎ (follow d by.carry ≡ Other) → next (follows d) by.carry ≡ Some c
      either (inl e) = ap next_by (mark_is d ready by.carry (carry_below d ready by.carry has) ∙ e)
      either (inr e) = (let there = other_fed d ready by.carry has e in let bad : is_some (slice_index_or (fed_numbers d) by.carry None) ≡ true = ap is_some there.1 in let not = by.not_fed in cc (bad, not))

  above_it : (k c : ℕ) → HasCarry d k → next (follows d) k ≡ Some c → StandsAbove (runs_of d) c
  above_it k c has e =
      let stands = stands_behind d ready k has in
      let front = head_carry d ready stands.run stands.head stands.at in
      let further : behind (follows d) (suc stands.place) stands.head.0 ≡ Some c = ap (option_and_then (next (follows d))) stands.behind_it ∙ e in
      let there = chain_has (follows d) (length (follows d)) stands.head.0 (suc stands.place) c (few d ready stands.head.0 (suc stands.place) c front further) further in
      record {
        row = stands.run;
        place = one_if (takes_in stands.head) + stands.place;
        run = run_from (follows d) (feed_number d stands.run) stands.head;
        at = the_run d stands.run stands.head stands.at;
        above = subst (λ n. At (run_from (follows d) (feed_number d stands.run) stands.head).cells n c) (next_place (one_if (takes_in stands.head)) stands.place)
            (carries_inner (follows d) (feed_number d stands.run) stands.head (suc stands.place) c there);
      }

  passing_above : (r : ℕ) (x : Head) (c : ℕ) → At (run_heads d) r x → passes_out (follows d) x ≡ true → feed_number d r + one_if (takes_in x) ≡ c → StandsAbove (runs_of d) c
  passing_above r x c at e f =
      let ends = chain_end d ready x.0 (head_carry d ready r x at) in
      record {
        row = r;
        place = one_if (takes_in x) + ends.place;
        run = run_from (follows d) (feed_number d r) x;
        at = the_run d r x at;
        above = subst (λ n. At (run_from (follows d) (feed_number d r) x).cells n c) (ap (λ n. one_if (takes_in x) + n) ends.count ∙ next_place (one_if (takes_in x)) ends.place)
            (subst (λ n. At (run_from (follows d) (feed_number d r) x).cells (one_if (takes_in x) + length (chain (follows d) (length (follows d)) x.0)) n) f (passes_last (follows d) (feed_number d r) x e));
      }

  -- a cell whose last input takes a carry reads no root there, and stands behind the first cell of a run
  pub runs_chained : (c : ℕ) (cell : LogicCell) → At (runs_of d).cells c cell → cell.carry_to_in3 ≡ true → (slice_index_or cell.ins 3 None ≡ None) × StandsAbove (runs_of d) c
  runs_chained c cell at e = by (after_back (moved_numbers d) (fed_numbers d) (cells_fed d) (movers d) c cell at)
    where
      missing : (x : LogicCell) → become_of d c x ≡ cell → last_input (moved_numbers d) (fed_numbers d) (in3 x) ≡ None → slice_index_or cell.ins 3 None ≡ None
      missing x is f = ap (λ (y : LogicCell). slice_index_or y.ins 3 None) (sym is) ∙ f

      -- an input that takes a carry has no root
      chained_none : (x : LogicCell) → is_chained (fed_numbers d) (in3 x) ≡ true → last_input (moved_numbers d) (fed_numbers d) (in3 x) ≡ None
      chained_none x f = ap (λ b. cond b None (renamed_source (moved_numbers d) (fed_numbers d) (in3 x))) f

      unread : (x : LogicCell) → in3 x ≡ None → last_input (moved_numbers d) (fed_numbers d) (in3 x) ≡ None
      unread x f = ap (last_input (moved_numbers d) (fed_numbers d)) f

      old : (x : LogicCell) → At d.cells c x → become_of d c x ≡ cell → (b : Bool) → is_chained (fed_numbers d) (in3 x) ≡ b → cond b true x.carry_to_in3 ≡ true
          → (slice_index_or cell.ins 3 None ≡ None) × StandsAbove (runs_of d) c
      old x there is true f g =
          let chained = chained_by (fed_numbers d) (in3 x) f in
          (missing x is (chained_none x f), above_it chained.carry c (ready.read chained.carry (subst (Has (roots_read d)) chained.reads (last_is_read c x there))) (chained_next c x there chained))
      old x there is false f g = (let plain = ready.unchained c x there in cc (plain, g))

      fed : (x : LogicCell) → become_of d c x ≡ cell → CellFed d c x → (slice_index_or cell.ins 3 None ≡ None) × StandsAbove (runs_of d) c
      fed x is (Old there) = old x there is (is_chained (fed_numbers d) (in3 x)) refl (ap (λ (y : LogicCell). y.carry_to_in3) is ∙ e)
      fed x is (Feed r head i there (FeedsIn root g h k) number) =
          (let bad : (become_of d c (cell_in root)).carry_to_in3 ≡ true = ap (λ (y : LogicCell). (become_of d c y).carry_to_in3) k ∙ ap (λ (y : LogicCell). y.carry_to_in3) is ∙ e in absurd (never bad))
      fed x is (Feed r head i there (FeedsOut g h k) number) = (
        missing x is (unread x (ap in3 (sym k))),
        passing_above r head c there g (sym (number ∙ ap (λ n. feed_number d r + n) h)),
      )

      by : CellAfter (moved_numbers d) (fed_numbers d) (cells_fed d) c cell → (slice_index_or cell.ins 3 None ≡ None) × StandsAbove (runs_of d) c
      by (Became x there is) = fed x is (cell_fed d c x there)
      by (Moved m is) = (let bad : (moved_cell (moved_numbers d) (fed_numbers d) (cells_fed d) m).carry_to_in3 ≡ true = ap (λ (y : LogicCell). y.carry_to_in3) is ∙ e in absurd (never bad))
