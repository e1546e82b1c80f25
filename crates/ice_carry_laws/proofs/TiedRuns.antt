-- The runs of a design are tied to what they were made of.
use Rattle.std.proofs.Common.{◌≡◌, ◌⊎◌, ℕ, zero, suc, ◌+◌, ◌<◌, true, false, Option, None, Some, List, [], ◌∷◌, length, inl, inr, refl, sym, ap, ◌∙◌, subst, arith}
use Rattle.std.specs.Prelude.{slice_index_or}
use Rattle.std.specs.List.{flat_map}
use Rattle.std.specs.Option.{option_map_or}
use Rattle.std.proofs.lemmas.Option.{none-some, same_Some}
use Rattle.ice_base_values.specs.Order.{At, Has, StandOnce}
use Rattle.ice_base_values.proofs.Members.{At_left, At_within}
use Rattle.ice_cells.specs.declared.cell.LogicCell.{LogicCell}
use Rattle.ice_cells.specs.declared.design.Design.{Design}
use Rattle.ice_cells.specs.declared.design.Run.{Run}
use Rattle.ice_cells.specs.declared.follow.Follow.{Follow}
use Rattle.ice_cells.specs.declared.follow.Follow.TheVariants.{Nobody, Next, Other}
use Rattle.ice_cells.specs.declared.root.CarryIn.{CarryIn}
use Rattle.ice_cells.specs.declared.root.CarryIn.TheVariants.{Fixed, Read}
use Rattle.ice_cells.specs.declared.root.Root.{Root}
use Rattle.ice_cells.specs.declared.root.Root.TheVariants.{CarryOut}
use Rattle.ice_cells.specs.Chains.{Head, Fed, next, next_by, chain, end, is_other, is_read, set_level, takes_in, passes_out, one_if, feed_cells, run_from, fed_from, number_by}
use Rattle.ice_cells.specs.Follows.{follow, follows}
use Rattle.ice_cells.specs.Formed.{cells_in_runs}
use Rattle.ice_cells.specs.Moves.{renamed, renamed_flop, kept_flop, become}
use Rattle.ice_cells.specs.Nodes.{Net, Level, source_node, node_or, into_runs, carry_into}
use Rattle.ice_cells.specs.Runs.{run_heads, cells_fed, fed_numbers, moved_numbers, runs_of}
use Rattle.ice_cells.proofs.TableLaws.{get_or-table}
use Rattle.ice_carry_chains.specs.Before.{HasCarry, IsBeforeRuns}
use Rattle.ice_carry_chains.proofs.CellsAfter.{cell_in, cell_out, feeds_in_at, feeds_out_at}
use Rattle.ice_carry_chains.proofs.ChainLaws.{behind, before, behind_shift, chain_has, one_head}
use Rattle.ice_carry_chains.proofs.DesignChains.{StandsBehind, stands_behind, head_carry, behind_carry, heads_are, one_before, into_is, carry_below, end_is}
use Rattle.ice_carry_chains.proofs.DesignLaws.{next_takes}
use Rattle.ice_carry_chains.proofs.DesignRuns.{feed_number, the_run, feed_there, old_at, runs_once}
use Rattle.ice_carry_chains.proofs.FedNumbers.{fed_of, fed_there, fed_back, number_there, number_back}
use Rattle.ice_carry_chains.proofs.HeadPlaces.{head_back}
use Rattle.ice_carry_chains.proofs.IntoRuns.{level_into, carry_next}
use Rattle.ice_carry_chains.proofs.LastInputs.{last_follows}
use Rattle.ice_carry_chains.proofs.RunLists.{takes_first, carries_inner, passes_last}
use Rattle.ice_carry_laws.proofs.MovedNumbers.{from_table, moved_to}
use Rattle.ice_carry_laws.proofs.ReadRoots.{cell_read}
use Rattle.ice_carry_laws.specs.AreRuns.{taking, passing, TakesIn, PassesOn, CarriesIn, AreRuns}

-- ---- cells beside the carries stay as they are, but for what they read
none_kept : (o : Option ℕ) → kept_flop o None ≡ None
none_kept None = refl
none_kept (Some m) = refl

taking_is : (moved fed : List (Option ℕ)) (f : ℕ) (root : Root) → become moved fed f (cell_in root) ≡ taking (renamed moved fed root)
taking_is moved fed f root =
    λ i. record {
      table = 0;
      ins = None ∷ Some (renamed moved fed root) ∷ None ∷ None ∷ [];
      carry = true;
      carry_to_in3 = false;
      flop = renamed_flop moved fed (none_kept (slice_index_or moved f None) i);
    }

passing_is : (moved fed : List (Option ℕ)) (f : ℕ) → become moved fed f cell_out ≡ passing
passing_is moved fed f =
    λ i. record { table = 65280; ins = None ∷ None ∷ None ∷ None ∷ []; carry = false; carry_to_in3 = true; flop = renamed_flop moved fed (none_kept (slice_index_or moved f None) i) }

-- ---- the last carry of a chain stands behind the first
end_behind : (marks : List Follow) (k h : ℕ) → (i : ℕ) × (behind marks i h ≡ Some (end marks k h))
end_behind marks zero h = (0, refl)
end_behind marks (suc k) h = by (next marks h) refl (λ d. end_behind marks k d)
  where
    by : (o : Option ℕ) → next marks h ≡ o → ((d : ℕ) → (i : ℕ) × (behind marks i d ≡ Some (end marks k d))) → (i : ℕ) × (behind marks i h ≡ Some (option_map_or (end marks k) o h))
    by None f rest = (0, refl)
    by (Some d) f rest = let one = rest d in (suc one.0, behind_shift marks one.0 h d f ∙ one.1)

-- a chain ends where no carry follows
chain_stop : (marks : List Follow) (k h i c : ℕ) → At (chain marks k h) i c → next marks c ≡ None → length (chain marks k h) ≡ suc i
chain_stop marks zero h i c at e = absurd (none-some c at)
chain_stop marks (suc k) h zero c at e = ap (λ o. suc (length (option_map_or (chain marks k) o []))) (ap (next marks) (same_Some h c at) ∙ e)
chain_stop marks (suc k) h (suc i) c at e = by (next marks h) at (λ d. chain_stop marks k d i c)
  where
    by : (o : Option ℕ) → At (option_map_or (chain marks k) o []) i c → ((d : ℕ) → At (chain marks k d) i c → next marks c ≡ None → length (chain marks k d) ≡ suc i)
        → suc (length (option_map_or (chain marks k) o [])) ≡ suc (suc i)
    by None there rest = absurd (none-some c there)
    by (Some d) there rest = ap suc (rest d there e)

none_more : (k : ℕ) → k + 0 ≡ k
none_more k = omega arith

one_on : (t j : ℕ) → t + suc j ≡ suc (t + j)
one_on t j = omega arith

other_stops : (mark : Follow) → is_other mark ≡ true → next_by mark ≡ None
other_stops Nobody e = cc
other_stops (Next d) e = cc
other_stops Other e = refl

module _ (d : Design) (ready : IsBeforeRuns d) where
  abbrev new : Design
  new = runs_of d

  abbrev marks : List Follow
  marks = follows d

  abbrev moved : List (Option ℕ)
  moved = moved_numbers d

  abbrev fed : List (Option ℕ)
  fed = fed_numbers d

  abbrev pairs : List Fed
  pairs = fed_from marks (length d.cells) (run_heads d)

  abbrev run_at : ℕ → Head → Run
  run_at r x = run_from marks (feed_number d r) x

  once : StandOnce (cells_in_runs new)
  once = runs_once d ready

  -- ---- carries that follow others
  behind_in : (r : ℕ) (x : Head) (j b c : ℕ) → At (run_heads d) r x → suc j < length marks → behind marks j x.0 ≡ Some b → behind marks (suc j) x.0 ≡ Some c → carry_into new c ≡ Some (Net (CarryOut b))
  behind_in r x j b c at lt one two =
      carry_next new refl once r (run_at r x) (one_if (takes_in x) + j) b c (the_run d r x at)
      (carries_inner marks (feed_number d r) x j b (chain_has marks (length marks) x.0 j b (omega arith) one))
      (subst (λ n. At (run_at r x).cells n c) (one_on (one_if (takes_in x)) j) (carries_inner marks (feed_number d r) x (suc j) c (chain_has marks (length marks) x.0 (suc j) c lt two)))

  follows_into : (k c : ℕ) → HasCarry d c → next marks k ≡ Some c → carry_into new c ≡ Some (Net (CarryOut k))
  follows_into k c has e = by stands.place stands.behind_it stands.within
    where
      stands : StandsBehind d ready c
      stands = stands_behind d ready c has

      by : (j : ℕ) → behind marks j stands.head.0 ≡ Some c → j < length marks → carry_into new c ≡ Some (Net (CarryOut k))
      by zero f lt = absurd ((heads_are d ready).first stands.run stands.head stands.at k (e ∙ sym f))
      by (suc j) f lt =
          let prior = before marks j stands.head.0 c f in
          let same : prior.0 ≡ k = one_before d ready prior.0 k c prior.2 e in
          behind_in stands.run stands.head j prior.0 c stands.at lt prior.1 f ∙ ap (λ b. Some (Net (CarryOut b))) same

  -- ---- what comes into each carry
  pub takes_root : (r : ℕ) (x : Head) (root : Root) → At (run_heads d) r x → x.1 ≡ Read root → TakesIn new (feed_number d r) (renamed moved fed root)
  takes_root r x root at e = record {
    at = subst (λ (y : LogicCell). At new.cells (feed_number d r) y) (taking_is moved fed (feed_number d r) root)
        (subst (λ n. At new.cells n (become moved fed n (cell_in root))) (none_more (feed_number d r)) (feed_there d r x 0 (cell_in root) at (feeds_in_at marks x root e)));
    set =
        level_into new refl once r (run_at r x) (feed_number d r) (the_run d r x at) (takes_first marks (feed_number d r) x (ap is_read e)) ∙ ap (λ into. Some (Level (set_level into))) e;
  }

  first_into : (r : ℕ) (x : Head) → At (run_heads d) r x → 0 < length marks → (into : CarryIn) → x.1 ≡ into → CarriesIn new moved fed x.0 into
  first_into r x at lt (Fixed level) e =
      level_into new refl once r (run_at r x) x.0 (the_run d r x at)
      (subst (λ n. At (run_at r x).cells n x.0) (ap (λ into. one_if (is_read into) + 0) e) (carries_inner marks (feed_number d r) x 0 x.0 (chain_has marks (length marks) x.0 0 x.0 lt refl)))
      ∙ ap (λ into. Some (Level (set_level into))) e
  first_into r x at lt (Read root) e = inr (
    feed_number d r,
    carry_next new refl once r (run_at r x) 0 (feed_number d r) x.0 (the_run d r x at) (takes_first marks (feed_number d r) x (ap is_read e))
        (subst (λ n. At (run_at r x).cells n x.0) (ap (λ into. one_if (is_read into) + 0) e) (carries_inner marks (feed_number d r) x 0 x.0 (chain_has marks (length marks) x.0 0 x.0 lt refl))),
    takes_root r x root at e,
  )

  pub into_carry : (c : ℕ) (has : HasCarry d c) → CarriesIn new moved fed c has.into
  into_carry c has = by stands.place stands.behind_it stands.within
    where
      stands : StandsBehind d ready c
      stands = stands_behind d ready c has

      by : (j : ℕ) → behind marks j stands.head.0 ≡ Some c → j < length marks → CarriesIn new moved fed c has.into
      by zero f lt =
          let back = head_back marks d.carries stands.run stands.head stands.at in
          let same : stands.head ≡ (c, has.into) = ready.once back.place has.place stands.head (c, has.into) back.at has.at (same_Some stands.head.0 c f) in
          subst (λ (y : Head). CarriesIn new moved fed y.0 y.1) same (first_into stands.run stands.head stands.at lt stands.head.1 refl)
      by (suc j) f lt =
          let prior = before marks j stands.head.0 c f in
          let taken = next_takes d prior.0 c prior.2 in
          let same : (c, Read (CarryOut prior.0)) ≡ (c, has.into) = ready.once taken.0 has.place (c, Read (CarryOut prior.0)) (c, has.into) taken.1 has.at refl in
          subst (λ (y : Head). CarriesIn new moved fed c y.1) same (inl (prior.0, refl, behind_in stands.run stands.head j prior.0 c stands.at lt prior.1 f))

  carries_in : (c : ℕ) (cell : LogicCell) → At d.cells c cell → cell.carry ≡ true → (into : CarryIn) × (carry_into d c ≡ Some (source_node into)) × CarriesIn new moved fed c into
  carries_in c cell at on =
      let has = ready.listed c cell at on in
      (has.into, ap (λ o. node_or o (into_runs d.runs c)) (into_is d ready c has), into_carry c has)

  -- ---- carries that cells pass on
  mark_at : (k : ℕ) → HasCarry d k → slice_index_or marks k Nobody ≡ follow d k
  mark_at k has = get_or-table (follow d) (length d.cells) k Nobody (carry_below d ready k has)

  pair_of : (x : Fed) (c m : ℕ) → x ≡ (c, m) → (x.0 ≡ c) × (x.1 ≡ m)
  pair_of x c m e = (ap (λ (y : Fed). y.0) e, ap (λ (y : Fed). y.1) e)

  -- the cell that passes on the last carry of a run
  pub passed_by : (r : ℕ) (x : Head) (c f : ℕ) → At (run_heads d) r x → passes_out marks x ≡ true → end marks (length marks) x.0 ≡ c → feed_number d r + one_if (takes_in x) ≡ f → PassesOn new f c
  passed_by r x c f at passes last number = record {
    at = subst (λ (y : LogicCell). At new.cells f y) (passing_is moved fed f)
        (subst (λ n. At new.cells n (become moved fed n cell_out)) number (feed_there d r x (one_if (takes_in x)) cell_out at (feeds_out_at marks x passes)));
    into =
        carry_next new refl once r (run_at r x) (one_if (takes_in x) + ends.0) c f (the_run d r x at) (carries_inner marks (feed_number d r) x ends.0 c inside)
        (subst (λ n. At (run_at r x).cells (suc (one_if (takes_in x) + ends.0)) n) number
        (subst (λ n. At (run_at r x).cells n (feed_number d r + one_if (takes_in x))) (ap (λ n. one_if (takes_in x) + n) long ∙ one_on (one_if (takes_in x)) ends.0) (passes_last marks (feed_number d r) x passes)));
  }
    where
      ends : (i : ℕ) × (behind marks i x.0 ≡ Some (end marks (length marks) x.0))
      ends = end_behind marks (length marks) x.0

      behind_it : behind marks ends.0 x.0 ≡ Some c
      behind_it = ends.1 ∙ ap Some last

      within : ends.0 < length marks
      within =
          let stands = stands_behind d ready c (behind_carry d ready ends.0 x.0 c (head_carry d ready r x at) behind_it) in
          let joined = one_head marks (one_before d ready) stands.head.0 x.0 ((heads_are d ready).first stands.run stands.head stands.at) ((heads_are d ready).first r x at) stands.place ends.0 c stands.behind_it behind_it in
          subst (λ n. n < length marks) joined.1 stands.within

      inside : At (chain marks (length marks) x.0) ends.0 c
      inside = chain_has marks (length marks) x.0 ends.0 c within behind_it

      long : length (chain marks (length marks) x.0) ≡ suc ends.0
      long = chain_stop marks (length marks) x.0 ends.0 c inside (other_stops (slice_index_or marks c Nobody) (ap (λ k. is_other (slice_index_or marks k Nobody)) (sym last) ∙ passes))

  -- the last carry of a run is one
  pub end_carry : (r : ℕ) (x : Head) → At (run_heads d) r x → HasCarry d (end marks (length marks) x.0)
  end_carry r x at = let ends = end_behind marks (length marks) x.0 in behind_carry d ready ends.0 x.0 (end marks (length marks) x.0) (head_carry d ready r x at) ends.1

  pub passes_on : (c f : ℕ) → slice_index_or fed c None ≡ Some f → PassesOn new f c
  passes_on c f e =
      let is = fed_back marks (length d.cells) (run_heads d) (c, f) (number_back pairs c f (from_table pairs (length (cells_fed d)) c f e)) in
      let both = pair_of (fed_of marks is.head (feed_number d is.run)) c f is.is in
      passed_by is.run is.head c f is.at is.passes both.0 both.1

  -- a carry that is read in another way is passed on
  other_passed : (k : ℕ) → HasCarry d k → follow d k ≡ Other → number_by pairs k ≡ None → ⊥
  other_passed k has e none =
      let stands = stands_behind d ready k has in
      let stops : next marks k ≡ None = ap next_by (mark_at k has ∙ e) in
      let last : end marks (length marks) stands.head.0 ≡ k = end_is marks (length marks) stands.place stands.head.0 k stands.within stands.behind_it stops in
      let passes : passes_out marks stands.head ≡ true = ap (λ c. is_other (slice_index_or marks c Nobody)) last ∙ ap is_other (mark_at k has ∙ e) in
      let m : ℕ = feed_number d stands.run + one_if (takes_in stands.head) in
      let listed = subst (λ c. Has pairs (c, m)) last (fed_there marks (length d.cells) (run_heads d) stands.run stands.head stands.at passes) in
      let number = number_there pairs k m listed in
      none-some number.0 (sym none ∙ number.1)

  chained_in : (c k : ℕ) (cell : LogicCell) → At d.cells c cell → slice_index_or cell.ins 3 None ≡ Some (CarryOut k) → slice_index_or fed k None ≡ None → carry_into new c ≡ Some (Net (CarryOut k))
  chained_in c k cell at e none = by (last_follows d c k cell at e)
    where
      has : HasCarry d k
      has = ready.read k (cell_read d c cell (CarryOut k) at (3, ap Some e))

      by : (follow d k ≡ Next c) ⊎ (follow d k ≡ Other) → carry_into new c ≡ Some (Net (CarryOut k))
      by (inl f) =
          let follows_it : next marks k ≡ Some c = ap next_by (mark_at k has ∙ f) in
          let taken = next_takes d k c follows_it in
          follows_into k c (record { into = Read (CarryOut k); place = taken.0; at = taken.1 }) follows_it
      by (inr f) = absurd (other_passed k has f none_listed)
        where
          below : k < length (cells_fed d)
          below = let there = ready.there k has in At_within (cells_fed d) k there.0 (At_left d.cells (flat_map (feed_cells marks) (run_heads d)) k there.0 there.1)

          none_listed : number_by pairs k ≡ None
          none_listed = sym (get_or-table (number_by pairs) (length (cells_fed d)) k None below) ∙ none

  pub are_runs : AreRuns d new moved fed
  are_runs = record {
    unchained = ready.unchained;
    cells = old_at d;
    chained = chained_in;
    carries = carries_in;
    passed = passes_on;
    moves = moved_to d;
    globals = refl;
    pads = refl;
  }
