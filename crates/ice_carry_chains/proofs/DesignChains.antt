-- The chains of a design: each carry stands in the chain of one first carry.
use Rattle.std.proofs.Common.{◌≡◌, ◌⊎◌, ℕ, zero, suc, ◌+◌, ◌<◌, Bool, true, false, cond, Option, None, Some, List, [], ◌∷◌, ◌++◌, length, map, refl, ap, sym, ◌∙◌, subst, arith, inl, inr}
use Rattle.std.specs.Prelude.{◌==◌, not, slice_get, option_map}
use Rattle.std.specs.List.{find, flat_map}
use Rattle.std.specs.Option.{option_map_or}
use Rattle.std.proofs.lemmas.Bool.{eq-eqb, eqb-true}
use Rattle.std.proofs.lemmas.Option.{none-some, same_Some}
use Rattle.ice_base_values.specs.System.{present}
use Rattle.ice_base_values.specs.Order.{At, Has}
use Rattle.ice_base_values.proofs.Enough.{first, first_falls}
use Rattle.ice_base_values.proofs.Members.{At_map, At_within, Has_find, find_Has}
use Rattle.ice_base_values.proofs.ListPlaces.{Has_left}
use Rattle.ice_cells.specs.declared.cell.LogicCell.{LogicCell}
use Rattle.ice_cells.specs.declared.design.Design.{Design}
use Rattle.ice_cells.specs.declared.follow.Follow.{Follow}
use Rattle.ice_cells.specs.declared.root.CarryIn.{CarryIn}
use Rattle.ice_cells.specs.declared.root.CarryIn.TheVariants.{Fixed, Read}
use Rattle.ice_cells.specs.declared.root.Root.TheVariants.{PadIn, CellOut, GlobalOut, CarryOut}
use Rattle.ice_cells.specs.Chains.{Head, next, chain, end, is_first}
use Rattle.ice_cells.specs.Follows.{follow, follows}
use Rattle.ice_cells.specs.Meaning.{system_of, node_reads, carry_reads, count_nodes, input}
use Rattle.ice_cells.specs.Nodes.{Net, source_node, node_or, into_carries, into_runs, carry_into}
use Rattle.ice_cells.specs.Readings.{carry_root, cell_roots, pad_roots}
use Rattle.ice_cells.specs.Runs.{run_heads}
use Rattle.ice_cells.specs.Tables.{is_place}
use Rattle.ice_cells.proofs.TableLaws.{length-table}
use Rattle.ice_carry_chains.specs.Before.{HasCarry, IsBeforeRuns}
use Rattle.ice_carry_chains.proofs.ChainEnds.{chain_short}
use Rattle.ice_carry_chains.proofs.ChainLaws.{behind, before, behind_shift, behind_none, chain_at, IsHead, FollowsOne, has_head, behind_few}
use Rattle.ice_carry_chains.proofs.DesignLaws.{next_takes, follows_one, first_heads}
use Rattle.ice_carry_chains.proofs.HeadLaws.{head_listed}
use Rattle.ice_carry_chains.proofs.HeadPlaces.{head_back, are_heads}
use Rattle.ice_carry_chains.proofs.RunsOnce.{AreHeads}

-- ---- first carries
place_is : (c : ℕ) (o : Option ℕ) → is_place c o ≡ true → o ≡ Some c
place_is c None e = cc
place_is c (Some k) e = ap Some (eqb-true k c e)

not_first : (marks : List Follow) (c : ℕ) (into : CarryIn) → is_first marks c into ≡ false → (k : ℕ) × (next marks k ≡ Some c)
not_first marks c (Fixed level) e = cc
not_first marks c (Read (PadIn k)) e = cc
not_first marks c (Read (CellOut k)) e = cc
not_first marks c (Read (GlobalOut k)) e = cc
not_first marks c (Read (CarryOut k)) e = (k, place_is c (next marks k) (turned (is_place c (next marks k)) e))
  where
    turned : (b : Bool) → not b ≡ false → b ≡ true
    turned true f = refl
    turned false f = cc

pub head_first : (marks : List Follow) (c : ℕ) (into : CarryIn) → IsHead marks c → is_first marks c into ≡ true
head_first marks c into is = by (is_first marks c into) refl
  where
    by : (b : Bool) → is_first marks c into ≡ b → is_first marks c into ≡ true
    by true e = e
    by false e = (let back = not_first marks c into e in absurd (is back.0 back.1))

-- the last carry of a chain
pub end_is : (marks : List Follow) (k i h c : ℕ) → i < k → behind marks i h ≡ Some c → next marks c ≡ None → end marks k h ≡ c
end_is marks zero i h c lt e f = absurd (omega arith)
end_is marks (suc k) zero h c lt e f =
    let same : h ≡ c = same_Some h c e in
    ap (λ o. option_map_or (end marks k) o h) (ap (next marks) same ∙ f) ∙ same
end_is marks (suc k) (suc i) h c lt e f = by (next marks h) refl (λ d. end_is marks k i d c (omega arith))
  where
    by : (o : Option ℕ) → next marks h ≡ o → ((d : ℕ) → behind marks i d ≡ Some c → next marks c ≡ None → end marks k d ≡ c) → option_map_or (end marks k) o h ≡ c
    by None g rest = (let none = behind_none marks i h g in cc (none, e))
    by (Some d) g rest = rest d (sym (behind_shift marks i h d g) ∙ e) f

-- ---- what is read is among the dependences
Has_present : {P : Type 0} (inputs : List (Option P)) (j : ℕ) (p : P) → At inputs j (Some p) → Has (present inputs) p
Has_present [] j p at = cc
Has_present (None ∷ inputs) zero p at = cc
Has_present (None ∷ inputs) (suc j) p at = Has_present inputs j p at
Has_present (Some q ∷ inputs) zero p at = (0, same_Some (Some q) (Some p) at)
Has_present (Some q ∷ inputs) (suc j) p at = let rest = Has_present inputs j p at in (suc rest.0, rest.1)

module _ (d : Design) (ready : IsBeforeRuns d) where
  -- ---- carries
  takes : (k c : ℕ) → next (follows d) k ≡ Some c → Has d.carries (c, Read (CarryOut k))
  takes k c e = next_takes d k c e

  carry_of : (c : ℕ) (into : CarryIn) → Has d.carries (c, into) → HasCarry d c
  carry_of c into (i, at) = record { into = into; place = i; at = at }

  pub carry_below : (c : ℕ) → HasCarry d c → c < length d.cells
  carry_below c has = let there = ready.there c has in At_within d.cells c there.0 there.1

  pub next_carry : (k c : ℕ) → next (follows d) k ≡ Some c → HasCarry d c
  next_carry k c e = carry_of c (Read (CarryOut k)) (takes k c e)

  next_below : (k c : ℕ) → next (follows d) k ≡ Some c → c < length d.cells
  next_below k c e = carry_below c (next_carry k c e)

  -- a carry that another follows is one
  pub followed_carry : (k c : ℕ) → next (follows d) k ≡ Some c → HasCarry d k
  followed_carry k c e =
      let has = takes k c e in
      ready.read k (Has_left (map carry_root d.carries ++ flat_map cell_roots d.cells ++ flat_map pad_roots d.pads) d.globals (Some (CarryOut k))
      (Has_left (map carry_root d.carries ++ flat_map cell_roots d.cells) (flat_map pad_roots d.pads) (Some (CarryOut k))
      (Has_left (map carry_root d.carries) (flat_map cell_roots d.cells) (Some (CarryOut k)) (has.0, At_map carry_root d.carries has.0 (c, Read (CarryOut k)) has.1))))

  pub long : length (follows d) ≡ length d.cells
  long = length-table (follow d) (length d.cells)

  pub one_before : FollowsOne (follows d)
  one_before = follows_one d ready.once

  -- ---- what comes into a carry
  pub into_is : (c : ℕ) (has : HasCarry d c) → into_carries d.carries c ≡ Some (source_node has.into)
  into_is c has =
      let there = Has_find (λ (x : Head). x.0 == c) d.carries (c, has.into) (has.place, has.at) (eq-eqb c c refl) in
      let back = find_Has (λ (x : Head). x.0 == c) d.carries there.0 there.1 in
      let same = ready.once (back.0).0 has.place there.0 (c, has.into) (back.0).1 has.at (eqb-true (there.0).0 c back.1) in
      ap (option_map (λ (x : Head). source_node x.1)) there.1 ∙ ap (λ (x : Head). Some (source_node x.1)) same

  -- ---- ranks
  abbrev rank : ℕ → ℕ
  rank c = first (system_of d [] []) (count_nodes d + 1) (Net (CarryOut c))

  rises : (k c : ℕ) → next (follows d) k ≡ Some c → rank k < rank c
  rises k c e =
      let taken = takes k c e in
      let has : HasCarry d c = record { into = Read (CarryOut k); place = taken.0; at = taken.1 } in
      let there = ready.there c has in
      let level = ready.values.each [] [] (Net (CarryOut c)) in
      first_falls (system_of d [] []) (count_nodes d + 1) (Net (CarryOut c)) (Net (CarryOut k)) level.0 level.1 (Has_present (node_reads d (Net (CarryOut c))) 2 (Net (CarryOut k)) (third there.0 there.1 there.2 (into_is c has)))
    where
      third : (cell : LogicCell) → At d.cells c cell → cell.carry ≡ true → into_carries d.carries c ≡ Some (Net (CarryOut k)) → At (node_reads d (Net (CarryOut c))) 2 (Some (Net (CarryOut k)))
      third cell at f g =
          ap (λ o. slice_get (option_map_or (carry_reads d c) o []) 2) at
          ∙ ap (λ b. slice_get (cond b (input cell 1 ∷ input cell 2 ∷ carry_into d c ∷ []) []) 2) f
          ∙ ap (λ o. Some (node_or o (into_runs d.runs c))) g

  -- ---- each carry stands behind a first carry
  cases : (c : ℕ) → ((k : ℕ) × (next (follows d) k ≡ Some c)) ⊎ IsHead (follows d) c
  cases c = by (find (λ (x : Head). x.0 == c) d.carries) refl
    where
      listed : (x : Head) → Has d.carries x → x.0 ≡ c → (b : Bool) → is_first (follows d) x.0 x.1 ≡ b → ((k : ℕ) × (next (follows d) k ≡ Some c)) ⊎ IsHead (follows d) c
      listed x has same true e = inr (subst (IsHead (follows d)) same (first_heads d ready.once has.0 x has.1 e))
      listed x has same false e = (let back = not_first (follows d) x.0 x.1 e in inl (back.0, back.1 ∙ ap Some same))

      by : (o : Option Head) → find (λ (x : Head). x.0 == c) d.carries ≡ o → ((k : ℕ) × (next (follows d) k ≡ Some c)) ⊎ IsHead (follows d) c
      by None e = inr (λ k f. (let there = Has_find (λ (x : Head). x.0 == c) d.carries (c, Read (CarryOut k)) (takes k c f) (eq-eqb c c refl) in none-some there.0 (sym e ∙ there.1)))
      by (Some x) e = (let back = find_Has (λ (x : Head). x.0 == c) d.carries x e in listed x back.0 (eqb-true x.0 c back.1) (is_first (follows d) x.0 x.1) refl)

  -- what stands behind a carry is one, and it is the same for what stands in front
  pub behind_carry : (i h c : ℕ) → HasCarry d h → behind (follows d) i h ≡ Some c → HasCarry d c
  behind_carry zero h c has e = subst (HasCarry d) (same_Some h c e) has
  behind_carry (suc i) h c has e = let prior = before (follows d) i h c e in next_carry prior.0 c prior.2

  front_carry : (i h c : ℕ) → HasCarry d c → behind (follows d) i h ≡ Some c → HasCarry d h
  front_carry zero h c has e = subst (HasCarry d) (sym (same_Some h c e)) has
  front_carry (suc i) h c has e = by (next (follows d) h) refl
    where
      by : (o : Option ℕ) → next (follows d) h ≡ o → HasCarry d h
      by None f = (let none = behind_none (follows d) i h f in cc (none, e))
      by (Some k) f = followed_carry h k f

  -- ---- the first carries of the runs
  pub heads_are : AreHeads (follows d) (run_heads d)
  heads_are = are_heads (follows d) d.carries (first_heads d ready.once)

  pub head_carry : (r : ℕ) (x : Head) → At (run_heads d) r x → HasCarry d x.0
  head_carry r x at = let back = head_back (follows d) d.carries r x at in record { into = x.1; place = back.place; at = back.at }

  -- a carry's place: in the chain of a first carry
  pub record StandsBehind (c : ℕ) : Type 0 where
    pub run : ℕ
    pub head : Head
    pub place : ℕ
    pub at : At (run_heads d) run head
    pub behind_it : behind (follows d) place head.0 ≡ Some c
    pub within : place < length (follows d)

  pub few : (h i c : ℕ) → HasCarry d h → behind (follows d) i h ≡ Some c → i < length (follows d)
  few h i c has e =
      subst (λ n. i < n) (sym long)
      (behind_few (follows d) (length d.cells) h (λ k. chain_short (follows d) rank rises (length d.cells) next_below k h (carry_below h has)) i c e)

  pub stands_behind : (c : ℕ) → HasCarry d c → StandsBehind c
  stands_behind c has =
      let front = has_head (follows d) rank rises cases (rank c + 1) c (omega arith) in
      let one = front_carry front.place front.head c has front.behind_it in
      let listed = head_listed (follows d) d.carries one_before ready.once (first_heads d ready.once) one.place (front.head, one.into) one.at
      (head_first (follows d) front.head one.into front.is_head) (subst (λ n. front.head < n) (sym long) (carry_below front.head one)) in
      record { run = listed.0; head = (front.head, one.into); place = front.place; at = listed.1; behind_it = front.behind_it; within = few front.head front.place c one front.behind_it }

  -- the carries of a chain
  pub chain_carry : (r : ℕ) (x : Head) (j c : ℕ) → At (run_heads d) r x → At (chain (follows d) (length (follows d)) x.0) j c → HasCarry d c
  chain_carry r x j c at inside = behind_carry j x.0 c (head_carry r x at) (chain_at (follows d) (length (follows d)) x.0 j c inside)

  pub chain_below : (r : ℕ) (x : Head) (j c : ℕ) → At (run_heads d) r x → At (chain (follows d) (length (follows d)) x.0) j c → c < length d.cells
  chain_below r x j c at inside = carry_below c (chain_carry r x j c at inside)
