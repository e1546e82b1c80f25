-- The flip-flops that stay in a chunk of a run are driven alike.
use Rattle.std.proofs.Common.{◌≡◌, ℕ, zero, suc, ◌+◌, ◌*◌, ◌/◌, ◌<◌, Bool, true, false, not, Option, None, Some, List, [], ◌∷◌, length, drop, refl, sym, ap, ◌∙◌, arith}
use Rattle.std.specs.Prelude.{slice_get, slice_index_or, option_and_then}
use Rattle.std.specs.List.{flat_map, filter_map, cons_option, range_with_len}
use Rattle.std.proofs.lemmas.List.{length-append}
use Rattle.std.proofs.lemmas.Option.{none-some, same_Some}
use Rattle.ice_net.specs.declared.kind.Reset.{Reset}
use Rattle.ice_base_values.specs.Order.{At, Has}
use Rattle.ice_base_values.proofs.Members.{At_within, Has_filter}
use Rattle.ice_base_values.proofs.Places.{At_take, At_drop}
use Rattle.ice_cells.specs.declared.cell.Control.{Control}
use Rattle.ice_cells.specs.declared.cell.LogicCell.{LogicCell}
use Rattle.ice_cells.specs.declared.design.Design.{Design}
use Rattle.ice_cells.specs.declared.design.Run.{Run}
use Rattle.ice_cells.specs.Chains.{feed_cells, number_by}
use Rattle.ice_cells.specs.Follows.{follows}
use Rattle.ice_cells.specs.Formed.{cells_in_runs}
use Rattle.ice_cells.specs.Moves.{differs, moves_at, run_moves, renamed_control, renamed_flop, kept_flop}
use Rattle.ice_cells.specs.Pieces.{control_by, control_at, first_control, piece, pieces_count}
use Rattle.ice_cells.specs.Runs.{numbered, run_heads, runs_made, cells_fed, fed_numbers, movers, moved_numbers, runs_of}
use Rattle.ice_cells.specs.Same.{same_control}
use Rattle.ice_cells.proofs.SameControls.{same_control_is}
use Rattle.ice_cells.proofs.TableLaws.{get_or-table}
use Rattle.ice_carry_chains.specs.Before.{IsBeforeRuns}
use Rattle.ice_carry_chains.proofs.CellsAfter.{after_at}
use Rattle.ice_carry_chains.proofs.DesignChains.{chain_below}
use Rattle.ice_carry_chains.proofs.DesignRuns.{in_run}
use Rattle.ice_carry_chains.proofs.FedNumbers.{number_there}
use Rattle.ice_carry_chains.proofs.RunsOnce.{CellFrom, Fed as FedFrom, Carried, from_where}
use Rattle.ice_cells.proofs.NodeLevels.{range_at}
use Rattle.ice_carry_laws.proofs.ReadRoots.{Has_flat}
use Rattle.ice_carry_laws.proofs.Shown.{at_within}

numbered_has : (k : ℕ) (cells : List ℕ) (i c : ℕ) → At cells i c → (m : ℕ) × Has (numbered k cells) (c, m)
numbered_has k [] i c at = absurd (none-some c at)
numbered_has k (x ∷ cells) zero c at = (k, (0, ap (λ n. Some (n, k)) (same_Some x c at)))
numbered_has k (x ∷ cells) (suc i) c at = let rest = numbered_has (k + 1) cells i c at in (rest.0, (suc (rest.1).0, (rest.1).1))

-- a list that has one with a control set has a first
first_there : (f : ℕ → Option Control) (xs : List ℕ) (i c : ℕ) (x : Control) → At xs i c → f c ≡ Some x → slice_get (filter_map f xs) 0 ≡ None → ⊥
first_there f [] i c x at e none = none-some c at
first_there f (z ∷ xs) i c x at e none = by (f z) refl i at none (λ j. first_there f xs j c x)
  where
    by : (o : Option Control) → f z ≡ o → (i : ℕ) → At (z ∷ xs) i c → slice_get (cons_option o (filter_map f xs)) 0 ≡ None
        → ((j : ℕ) → At xs j c → f c ≡ Some x → slice_get (filter_map f xs) 0 ≡ None → ⊥) → ⊥
    by (Some y) g i there h rest = none-some y (sym h)
    by None g zero there h rest = none-some x (sym g ∙ ap f (same_Some z c there) ∙ e)
    by None g (suc j) there h rest = rest j there e h

-- a flip-flop that is not driven otherwise than the first is driven as it is
driven_first : (first : Option Control) (other : Control) → (first ≡ None → ⊥) → differs first (Some other) ≡ false → first ≡ Some other
driven_first None other some e = absurd (some refl)
driven_first (Some one) other some e = ap Some (same_control_is one other (turned (same_control one other) e))
  where
    turned : (b : Bool) → not b ≡ false → b ≡ true
    turned true f = refl
    turned false f = cc

piece_below : (n k i : ℕ) → 8 * k + i < n → k < (n + 7) / 8
piece_below n k i lt = omega arith

-- a cell of a piece stands in the list, and the piece is one of its pieces
pub in_piece : (xs : List ℕ) (k i c : ℕ) → At (piece xs k) i c → Has xs c × (k < pieces_count xs)
in_piece xs k i c at =
    let taken = At_take 8 (drop (8 * k) xs) i c at in
    let there : At xs (8 * k + i) c = sym (At_drop xs (8 * k) i) ∙ taken.1 in
    ((8 * k + i, there), piece_below (length xs) k i (At_within xs (8 * k + i) c there))

module _ (d : Design) (ready : IsBeforeRuns d) where
  abbrev all : List LogicCell
  all = cells_fed d

  abbrev moved : List (Option ℕ)
  moved = moved_numbers d

  abbrev fed : List (Option ℕ)
  fed = fed_numbers d

  below_fed : (c n t m : ℕ) → c < n + t → m ≡ n + t → c < m
  below_fed c n t m lt e = omega arith

  below_old : (c n t m : ℕ) → c < n → m ≡ n + t → c < m
  below_old c n t m lt e = omega arith

  -- what stands in runs is no cell that a flip-flop moved to
  run_below : (c : ℕ) → Has (cells_in_runs (runs_of d)) c → c < length all
  run_below c has = by (from_where (follows d) (length d.cells) (run_heads d) c has)
    where
      count : length all ≡ length d.cells + length (flat_map (feed_cells (follows d)) (run_heads d))
      count = length-append d.cells (flat_map (feed_cells (follows d)) (run_heads d))

      by : CellFrom (follows d) (length d.cells) (run_heads d) c → c < length all
      by (FedFrom le lt) = below_fed c (length d.cells) (length (flat_map (feed_cells (follows d)) (run_heads d))) (length all) lt count
      by (Carried r x j at inside) = below_old c (length d.cells) (length (flat_map (feed_cells (follows d)) (run_heads d))) (length all) (chain_below d ready r x j c at inside) count

  -- a flip-flop that stands in a run afterwards stood there before, and did not move
  pub record Stays (c : ℕ) (one : Control) : Type 0 where
    pub control : Control
    pub before : control_at all c ≡ Some control
    pub is : renamed_control moved fed control ≡ one
    pub stays : slice_index_or moved c None ≡ None

  stays_back : (c : ℕ) (x : LogicCell) → At all c x → (o : Option ℕ) → slice_index_or moved c None ≡ o → (f : Option (Control × Reset)) → x.flop ≡ f → (one : Control)
      → control_by (renamed_flop moved fed (kept_flop o f)) ≡ Some one → Stays c one
  stays_back c x at (Some m) mo f e one g = absurd (none-some one g)
  stays_back c x at None mo None e one g = absurd (none-some one g)
  stays_back c x at None mo (Some flop) e one g = record {
    control = flop.0;
    before = ap (option_and_then (λ (cell : LogicCell). control_by cell.flop)) at ∙ ap control_by e;
    is = same_Some (renamed_control moved fed flop.0) one g;
    stays = mo;
  }

  run_control : (c : ℕ) (one : Control) → c < length all → control_at (runs_of d).cells c ≡ Some one → Stays c one
  run_control c one lt e =
      let cell = at_within all c lt in
      stays_back c cell.0 cell.1 (slice_index_or moved c None) refl cell.0.flop refl one
      (sym (ap (option_and_then (λ (x : LogicCell). control_by x.flop)) (after_at moved fed all (movers d) c cell.0 cell.1)) ∙ e)

  no_mover : (c : ℕ) → c < length all → slice_index_or moved c None ≡ None → Has (movers d) c → ⊥
  no_mover c lt none has =
      let listed = numbered_has (length all) (movers d) has.0 c has.1 in
      let number = number_there (numbered (length all) (movers d)) c listed.0 listed.1 in
      none-some number.0 (sym none ∙ get_or-table (number_by (numbered (length all) (movers d))) (length all) c None lt ∙ number.1)

  -- it is driven as the first of its chunk
  driven : (r : ℕ) (run : Run) (k i c : ℕ) (one : Control) → At (runs_of d).runs r run → At (piece run.cells k) i c → (stays : Stays c one) → first_control all (piece run.cells k) ≡ Some stays.control
  driven r run k i c one at inside stays =
      driven_first (first_control all (piece run.cells k)) stays.control (λ none. first_there (control_at all) (piece run.cells k) i c stays.control inside stays.before none)
      (by (differs (first_control all (piece run.cells k)) (Some stays.control)) refl)
    where
      there : Has run.cells c × (k < pieces_count run.cells)
      there = in_piece run.cells k i c inside

      moves : differs (first_control all (piece run.cells k)) (control_at all c) ≡ true → Has (movers d) c
      moves e =
          Has_flat (λ (x : Run). run_moves all x.cells) (runs_made d) r run c at
          (Has_flat (moves_at all run.cells) (range_with_len 0 (pieces_count run.cells)) k k c (range_at (pieces_count run.cells) k there.1)
          (Has_filter (λ n. differs (first_control all (piece run.cells k)) (control_at all n)) (piece run.cells k) c (i, inside) e))

      by : (b : Bool) → differs (first_control all (piece run.cells k)) (Some stays.control) ≡ b → b ≡ false
      by false e = refl
      by true e = absurd (no_mover c (run_below c (in_run d r run c at there.0)) stays.stays (moves (ap (differs (first_control all (piece run.cells k))) stays.before ∙ e)))

  pub chunks_alike : (r k i j b c : ℕ) (run : Run) (one other : Control) → At (runs_of d).runs r run → At (piece run.cells k) i b → At (piece run.cells k) j c
      → control_at (runs_of d).cells b ≡ Some one → control_at (runs_of d).cells c ≡ Some other → one ≡ other
  chunks_alike r k i j b c run one other at first second e f =
      let b_in = (in_piece run.cells k i b first).0 in
      let c_in = (in_piece run.cells k j c second).0 in
      let b_stays = run_control b one (run_below b (in_run d r run b at b_in)) e in
      let c_stays = run_control c other (run_below c (in_run d r run c at c_in)) f in
      let same : b_stays.control ≡ c_stays.control = same_Some b_stays.control c_stays.control (sym (driven r run k i b one at first b_stays) ∙ driven r run k j c other at second c_stays) in
      sym b_stays.is ∙ ap (renamed_control moved fed) same ∙ c_stays.is
