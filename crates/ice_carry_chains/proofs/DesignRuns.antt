-- The runs of a design: each cell stands in them once at most, and all that have a carry do.
use Rattle.std.proofs.Common.{◌≡◌, ◌⊎◌, ℕ, ◌+◌, ◌<◌, ◌≤◌, Bool, true, false, length, refl, ap, sym, ◌∙◌, subst, arith, inl, inr}
use Rattle.std.specs.List.{flat_map}
use Rattle.std.proofs.lemmas.List.{length-append}
use Rattle.std.proofs.lemmas.Option.{same_Some}
use Rattle.ice_base_values.specs.Order.{At, Has, StandOnce}
use Rattle.ice_base_values.proofs.Members.{At_left, At_right, At_parts}
use Rattle.ice_cells.specs.declared.cell.LogicCell.{LogicCell}
use Rattle.ice_cells.specs.declared.design.Design.{Design}
use Rattle.ice_cells.specs.declared.design.Run.{Run}
use Rattle.ice_cells.specs.declared.root.CarryIn.{CarryIn}
use Rattle.ice_cells.specs.declared.root.CarryIn.TheVariants.{Fixed, Read}
use Rattle.ice_cells.specs.declared.root.Root.{Root}
use Rattle.ice_cells.specs.Chains.{Head, chain, takes_in, passes_out, is_read, one_if, feed_cells, run_from}
use Rattle.ice_cells.specs.Follows.{follows}
use Rattle.ice_cells.specs.Formed.{cells_in_runs}
use Rattle.ice_cells.specs.Moves.{become, moved_cell}
use Rattle.ice_cells.specs.Runs.{run_heads, cells_fed, fed_numbers, moved_numbers, movers, runs_of}
use Rattle.ice_carry_chains.specs.Before.{HasCarry, IsBeforeRuns}
use Rattle.ice_carry_chains.proofs.CellsAfter.{CellAfter, Became, Moved, after_back, after_at, after_count, FeedCell, FeedsIn, FeedsOut, feed_cell, feeds_in_at, cell_in, cell_out}
use Rattle.ice_carry_chains.proofs.ChainLaws.{chain_has}
use Rattle.ice_carry_chains.proofs.DesignChains.{stands_behind, chain_carry, chain_below, one_before, heads_are}
use Rattle.ice_carry_chains.proofs.RunLists.{feeds_before, run_at, run_back, feed_at, feed_back, flat_on, takes_first, carries_inner, run_parts, run_count}
use Rattle.ice_carry_chains.proofs.RunsOnce.{CellFrom, Fed, Carried, from_where, cells_once}

same : (n : ℕ) → n ≤ n
same n = omega arith

last_but : (i b l p : ℕ) → i ≡ b + l → p ≤ 1 → i + 1 < b + l + p → ⊥
last_but i b l p e few lt = omega arith

one_few : (b : Bool) → one_if b ≤ 1
one_few true = omega arith
one_few false = omega arith

none_more : (k : ℕ) → k + 0 ≡ k
none_more k = omega arith

joined : (n c b f i : ℕ) → c ≡ n + f → f ≡ b + i → c ≡ n + b + i
joined n c b f i e g = omega arith

apart : (n b i : ℕ) → n + (b + i) ≡ n + b + i
apart n b i = omega arith

below_more : (c n t m : ℕ) → c < n + t → n + t ≡ m → c < m
below_more c n t m lt e = omega arith

less_more : (c n m : ℕ) → c < n → n ≤ m → c < m
less_more c n m lt le = omega arith

-- a run of a design, by the first carry of it
pub record RunOf (d : Design) (r : ℕ) (run : Run) : Type 0 where
  pub head : Head
  pub at : At (run_heads d) r head
  pub is : run_from (follows d) (length d.cells + feeds_before (follows d) (run_heads d) r) head ≡ run

pub run_of : (d : Design) (r : ℕ) (run : Run) → At (runs_of d).runs r run → RunOf d r run
run_of d r run at = let back = run_back (follows d) (length d.cells) (run_heads d) r run at in record { head = back.0; at = back.1; is = back.2 }

-- the number of the first cell that a run has beside its carries
abbrev pub feed_number : Design → ℕ → ℕ
feed_number d r = length d.cells + feeds_before (follows d) (run_heads d) r

pub the_run : (d : Design) (r : ℕ) (x : Head) → At (run_heads d) r x → At (runs_of d).runs r (run_from (follows d) (feed_number d r) x)
the_run d r x at = run_at (follows d) (length d.cells) (run_heads d) r x at

-- ---- cells afterwards
abbrev pub become_of : Design → ℕ → LogicCell → LogicCell
become_of d c x = become (moved_numbers d) (fed_numbers d) c x

pub old_at : (d : Design) (c : ℕ) (x : LogicCell) → At d.cells c x → At (runs_of d).cells c (become_of d c x)
old_at d c x at = after_at (moved_numbers d) (fed_numbers d) (cells_fed d) (movers d) c x (At_left d.cells (flat_map (feed_cells (follows d)) (run_heads d)) c x at)

pub feed_there : (d : Design) (r : ℕ) (x : Head) (i : ℕ) (cell : LogicCell) → At (run_heads d) r x → At (feed_cells (follows d) x) i cell
    → At (runs_of d).cells (feed_number d r + i) (become_of d (feed_number d r + i) cell)
feed_there d r x i cell at inside =
    after_at (moved_numbers d) (fed_numbers d) (cells_fed d) (movers d) (feed_number d r + i) cell
    (subst (λ n. At (cells_fed d) n cell) (apart (length d.cells) (feeds_before (follows d) (run_heads d) r) i)
    (At_right d.cells (flat_map (feed_cells (follows d)) (run_heads d)) (feeds_before (follows d) (run_heads d) r + i) cell (feed_at (follows d) (run_heads d) r x i cell at inside)))

-- a cell before flip-flops move: one of the design, or one that a run has beside its carries
pub data CellFed (d : Design) (c : ℕ) (x : LogicCell) : Type 0 where
  Old : At d.cells c x → CellFed d c x
  Feed : (r : ℕ) (head : Head) (i : ℕ) → At (run_heads d) r head → FeedCell (follows d) head i x → c ≡ feed_number d r + i → CellFed d c x

pub cell_fed : (d : Design) (c : ℕ) (x : LogicCell) → At (cells_fed d) c x → CellFed d c x
cell_fed d c x at = by (At_parts d.cells (flat_map (feed_cells (follows d)) (run_heads d)) c x at)
  where
    by : At d.cells c x ⊎ ((j : ℕ) × (c ≡ length d.cells + j) × At (flat_map (feed_cells (follows d)) (run_heads d)) j x) → CellFed d c x
    by (inl old) = Old old
    by (inr (j, e, there)) =
        let back = feed_back (follows d) (run_heads d) j x there in
        Feed back.run back.head back.place back.at (feed_cell (follows d) back.head back.place x back.cell_at)
        (joined (length d.cells) c (feeds_before (follows d) (run_heads d) back.run) j back.place e back.number)

-- ---- what stands in the runs
pub in_run : (d : Design) (r : ℕ) (run : Run) (c : ℕ) → At (runs_of d).runs r run → Has run.cells c → Has (cells_in_runs (runs_of d)) c
in_run d r run c at has = flat_on (λ (run : Run). run.cells) (runs_of d).runs r run c at has

-- a carry stands in a run, at a place
pub record StandsIn (d : Design) (c : ℕ) : Type 0 where
  pub run : ℕ
  pub head : Head
  pub place : ℕ
  pub at : At (run_heads d) run head
  pub inside : At (chain (follows d) (length (follows d)) head.0) place c

module _ (d : Design) (ready : IsBeforeRuns d) where
  pub stands_in : (c : ℕ) → HasCarry d c → StandsIn d c
  stands_in c has =
      let stands = stands_behind d ready c has in
      record { run = stands.run; head = stands.head; place = stands.place; at = stands.at; inside = chain_has (follows d) (length (follows d)) stands.head.0 stands.place c stands.within stands.behind_it }

  carry_in_run : (c : ℕ) → HasCarry d c → Has (cells_in_runs (runs_of d)) c
  carry_in_run c has =
      let stands = stands_in c has in
      in_run d stands.run (run_from (follows d) (feed_number d stands.run) stands.head) c (the_run d stands.run stands.head stands.at)
      (one_if (takes_in stands.head) + stands.place, carries_inner (follows d) (feed_number d stands.run) stands.head stands.place c stands.inside)

  -- each cell stands in the runs once at most
  pub runs_once : StandOnce (cells_in_runs (runs_of d))
  runs_once = cells_once (follows d) (one_before d ready) (length d.cells) (length d.cells) (run_heads d) (same (length d.cells)) (heads_are d ready) (chain_below d ready)

  -- it is one of the design's
  pub runs_inside : (c : ℕ) → Has (cells_in_runs (runs_of d)) c → c < length (runs_of d).cells
  runs_inside c has = by (from_where (follows d) (length d.cells) (run_heads d) c has)
    where
      all : length d.cells + length (flat_map (feed_cells (follows d)) (run_heads d)) ≡ length (cells_fed d)
      all = sym (length-append d.cells (flat_map (feed_cells (follows d)) (run_heads d)))

      more : length (cells_fed d) ≤ length (runs_of d).cells
      more = after_count (moved_numbers d) (fed_numbers d) (cells_fed d) (movers d)

      old : length d.cells ≤ length (cells_fed d)
      old = let e = all in omega arith

      by : CellFrom (follows d) (length d.cells) (run_heads d) c → c < length (runs_of d).cells
      by (Fed le lt) = less_more c (length (cells_fed d)) (length (runs_of d).cells) (below_more c (length d.cells) (length (flat_map (feed_cells (follows d)) (run_heads d))) (length (cells_fed d)) lt all) more
      by (Carried r x j at inside) =
          less_more c (length (cells_fed d)) (length (runs_of d).cells) (less_more c (length d.cells) (length (cells_fed d)) (chain_below d ready r x j c at inside) old) more

  -- a cell that has a carry stands in them
  pub runs_carried : (c : ℕ) (cell : LogicCell) → At (runs_of d).cells c cell → cell.carry ≡ true → Has (cells_in_runs (runs_of d)) c
  runs_carried c cell at e = by (after_back (moved_numbers d) (fed_numbers d) (cells_fed d) (movers d) c cell at)
    where
      fed : (x : LogicCell) → x.carry ≡ true → CellFed d c x → Has (cells_in_runs (runs_of d)) c
      fed x f (Old old) = carry_in_run c (ready.listed c x old f)
      fed x f (Feed r head i there (FeedsIn root g h k) number) =
          in_run d r (run_from (follows d) (feed_number d r) head) c (the_run d r head there) (
            0,
            subst (λ n. At (run_from (follows d) (feed_number d r) head).cells 0 n) (sym (number ∙ ap (λ n. feed_number d r + n) h ∙ none_more (feed_number d r)))
                (takes_first (follows d) (feed_number d r) head (ap (λ into. takes_in (head.0, into)) g)),
          )
      fed x f (Feed r head i there (FeedsOut g h k) number) = (let bad : cell_out.carry ≡ true = ap (λ (y : LogicCell). y.carry) k ∙ f in cc bad)

      by : CellAfter (moved_numbers d) (fed_numbers d) (cells_fed d) c cell → Has (cells_in_runs (runs_of d)) c
      by (Became x there is) = fed x (ap (λ (y : LogicCell). y.carry) is ∙ e) (cell_fed d c x there)
      by (Moved m is) = (let bad : (moved_cell (moved_numbers d) (fed_numbers d) (cells_fed d) m).carry ≡ true = ap (λ (y : LogicCell). y.carry) is ∙ e in cc bad)

  -- all cells of a run but the last have a carry
  pub runs_carries : (r i c : ℕ) (run : Run) (cell : LogicCell) → At (runs_of d).runs r run → At run.cells i c → i + 1 < length run.cells → At (runs_of d).cells c cell → cell.carry ≡ true
  runs_carries r i c run cell at inside lt there = of (run_of d r run at)
    where
      is_cell : (y : LogicCell) → At (runs_of d).cells c y → y.carry ≡ true → cell.carry ≡ true
      is_cell y other e = ap (λ (z : LogicCell). z.carry) (same_Some cell y (sym there ∙ other)) ∙ e

      fed_in : (x : Head) (root : Root) → At (run_heads d) r x → x.1 ≡ Read root → feed_number d r ≡ c → cell.carry ≡ true
      fed_in x root heads e f =
          is_cell (become_of d c (cell_in root))
          (subst (λ n. At (runs_of d).cells n (become_of d n (cell_in root))) (none_more (feed_number d r) ∙ f) (feed_there d r x 0 (cell_in root) heads (feeds_in_at (follows d) x root e))) refl

      taken : (x : Head) → At (run_heads d) r x → (into : CarryIn) → x.1 ≡ into → is_read into ≡ true → feed_number d r ≡ c → cell.carry ≡ true
      taken x heads (Fixed level) e f g = cc
      taken x heads (Read root) e f g = fed_in x root heads e g

      carried : (x : Head) (j : ℕ) → At (run_heads d) r x → At (chain (follows d) (length (follows d)) x.0) j c → cell.carry ≡ true
      carried x j heads inner =
          let old = ready.there c (chain_carry d ready r x j c heads inner) in
          is_cell (become_of d c old.0) (old_at d c old.0 old.1) old.2

      by : (x : Head) → At (run_heads d) r x → i + 1 < one_if (takes_in x) + length (chain (follows d) (length (follows d)) x.0) + one_if (passes_out (follows d) x)
          → ((takes_in x ≡ true) × (i ≡ 0) × (feed_number d r ≡ c)) ⊎ (((j : ℕ) × (i ≡ one_if (takes_in x) + j) × At (chain (follows d) (length (follows d)) x.0) j c)
          ⊎ ((passes_out (follows d) x ≡ true) × (i ≡ one_if (takes_in x) + length (chain (follows d) (length (follows d)) x.0)) × (feed_number d r + one_if (takes_in x) ≡ c)))
          → cell.carry ≡ true
      by x heads few (inl (e, f, g)) = taken x heads x.1 refl e g
      by x heads few (inr (inl (j, e, inner))) = carried x j heads inner
      by x heads few (inr (inr (e, f, g))) =
          absurd (last_but i (one_if (takes_in x)) (length (chain (follows d) (length (follows d)) x.0)) (one_if (passes_out (follows d) x)) f (one_few (passes_out (follows d) x)) few)

      of : RunOf d r run → cell.carry ≡ true
      of one =
          by one.head one.at
          (subst (λ n. i + 1 < n) (run_count (follows d) (feed_number d r) one.head) (subst (λ (y : Run). i + 1 < length y.cells) (sym one.is) lt))
          (run_parts (follows d) (feed_number d r) one.head i c (subst (λ (y : Run). At y.cells i c) (sym one.is) inside))
