-- A packed design says once what comes into each carry, and says it of the cells that have one.
use Rattle.std.proofs.Common.{◌≡◌, ◌⊎◌, ℕ, zero, suc, ◌+◌, Bool, true, false, cond, Option, None, Some, List, [], ◌∷◌, ◌++◌, length, map, inl, inr, refl, sym, ap, ◌∙◌, subst, arith}
use Rattle.std.specs.Prelude.{slice_get, slice_index_or, is_some, ◌==◌}
use Rattle.std.proofs.lemmas.Bool.{and_parts, eqb-true}
use Rattle.std.proofs.lemmas.Option.{same_Some}
use Rattle.ice_base.specs.declared.number.SignalNo.{SignalNo}
use Rattle.ice_base_values.specs.Order.{At}
use Rattle.ice_base_values.proofs.Members.{At_left, At_right, At_parts, At_map}
use Rattle.ice_net.specs.declared.cell.Cell.{Cell}
use Rattle.ice_net.specs.declared.kind.CellKind.{CellKind}
use Rattle.ice_net.specs.declared.kind.CellKind.TheVariants as kind
use Rattle.ice_net.specs.NetlistData.{NetlistData}
use Rattle.ice_cells.specs.declared.cell.LogicCell.{LogicCell}
use Rattle.ice_cells.specs.declared.root.CarryIn.{CarryIn}
use Rattle.ice_cells.specs.declared.share.Part.{Part}
use Rattle.ice_cells.specs.declared.share.Part.TheVariants.{Table, Flop, Carry, Nothing}
use Rattle.ice_cells.specs.Chains.{Head}
use Rattle.ice_cells.specs.Origins.{input_origin, origins}
use Rattle.ice_cells.specs.Uses.{dropped, bare_outputs}
use Rattle.ice_cells.specs.Homes.{Facts, part, is_kept, anchor, carriers_of, counts, first_by, first_member, opens, openers, openers_before, home, homes}
use Rattle.ice_cells.specs.Packed.{PackPlan, plan_of, packed, carry_input, carry_by, carries_from, carry_for, cell_of, constant_if, needs_zero, needs_one}
use Rattle.ice_cells.proofs.RangeFilters.{passing_at}
use Rattle.ice_cells.proofs.TableLaws.{get_or-table}
use Rattle.ice_pack_share.proofs.HomeLaws.{goes, first_anchor, home_opened}
use Rattle.ice_carry_chains.specs.Before.{HasCarry}
use Rattle.ice_carry_form_laws.proofs.Parts.{IsCarry, is_carry, carry_is, kept_within, home_is, same_home, lut_carry, carrier_lut, carried, own_anchor, lut_anchor}
use Rattle.ice_carry_form_laws.proofs.PackedCells.{CellAt, Opened, Constant, packed_at}

-- ---- the list of carries
-- one that a cell of the netlist gives
pub record IsGiven (p : PackPlan) (hs : List ℕ) (j : ℕ) (cells : List Cell) (x : Head) : Type 0 where
  pub place : ℕ
  pub carry : IsCarry cells place
  pub number : ℕ
  pub is : number ≡ j + place
  pub gives : x ≡ (slice_index_or hs number 0, carry_input p.roots (input_origin p.origins (slice_index_or carry.cell.ins 2 None)))

one_given : (p : PackPlan) (c : ℕ) (k : CellKind) (ins outs : List (Option SignalNo)) (i : ℕ) (x : Head) → At (carry_by p c k ins outs) i x
    → (k ≡ kind.Carry) × (dropped outs ≡ false) × (x ≡ (c, carry_input p.roots (input_origin p.origins (slice_index_or ins 2 None))))
one_given p c (kind.Lut t) ins outs i x at = cc at
one_given p c (kind.Cover t width) ins outs i x at = cc at
one_given p c kind.Carry ins outs i x at = by (dropped outs) refl i at
  where
    row : Head
    row = (c, carry_input p.roots (input_origin p.origins (slice_index_or ins 2 None)))

    by : (b : Bool) → dropped outs ≡ b → (i : ℕ) → At (cond b [] (row ∷ [])) i x → (kind.Carry ≡ kind.Carry) × (dropped outs ≡ false) × (x ≡ row)
    by true is i at = cc at
    by false is zero at = (refl, is, sym (same_Some row x at))
    by false is (suc i) at = cc at
one_given p c (kind.Flop falling enable reset) ins outs i x at = cc at
one_given p c (kind.PadCell pin_type pullup) ins outs i x at = cc at
one_given p c kind.Global ins outs i x at = cc at

pub given_at : (p : PackPlan) (hs : List ℕ) (j : ℕ) (cells : List Cell) (i : ℕ) (x : Head) → At (carries_from p hs j cells) i x → IsGiven p hs j cells x
given_at p hs j [] i x at = cc at
given_at p hs j (cell ∷ cells) i x at = by (At_parts (carry_by p (slice_index_or hs j 0) cell.kind cell.ins cell.outs) (carries_from p hs (j + 1) cells) i x at) (λ k there. given_at p hs (j + 1) cells k x there)
  where
    by : At (carry_by p (slice_index_or hs j 0) cell.kind cell.ins cell.outs) i x
        ⊎ ((k : ℕ) × (i ≡ length (carry_by p (slice_index_or hs j 0) cell.kind cell.ins cell.outs) + k) × At (carries_from p hs (j + 1) cells) k x)
        → ((k : ℕ) → At (carries_from p hs (j + 1) cells) k x → IsGiven p hs (j + 1) cells x) → IsGiven p hs j (cell ∷ cells) x
    by (inl here) more =
        let three = one_given p (slice_index_or hs j 0) cell.kind cell.ins cell.outs i x here in
        record { place = 0; carry = record { cell = cell; at = refl; is = three.0; stays = three.1 }; number = j; is = omega arith; gives = three.2 }
    by (inr (k, e, there)) more =
        let rest = more k there in
        record { place = suc rest.place; carry = record { cell = rest.carry.cell; at = rest.carry.at; is = rest.carry.is; stays = rest.carry.stays }; number = rest.number; is = (let is = rest.is in omega arith); gives = rest.gives }

-- each carry gives one
record IsListed (p : PackPlan) (hs : List ℕ) (j : ℕ) (cells : List Cell) (place : ℕ) : Type 0 where
  pub into : CarryIn
  pub row : ℕ
  pub at : At (carries_from p hs j cells) row (slice_index_or hs (j + place) 0, into)

gives_one : (p : PackPlan) (c : ℕ) (k : CellKind) (ins outs : List (Option SignalNo)) → k ≡ kind.Carry → dropped outs ≡ false
    → carry_by p c k ins outs ≡ (c, carry_input p.roots (input_origin p.origins (slice_index_or ins 2 None))) ∷ []
gives_one p c k ins outs e stays =
    ap (λ x. carry_by p c x ins outs) e ∙ ap (λ b. cond b [] ((c, carry_input p.roots (input_origin p.origins (slice_index_or ins 2 None))) ∷ [])) stays

listed_at : (p : PackPlan) (hs : List ℕ) (j : ℕ) (cells : List Cell) (place : ℕ) (cell : Cell) → At cells place cell → cell.kind ≡ kind.Carry → dropped cell.outs ≡ false → IsListed p hs j cells place
listed_at p hs j [] place cell at is stays = cc at
listed_at p hs j (first ∷ cells) zero cell at is stays =
    let same : first ≡ cell = same_Some first cell at in
    let one = gives_one p (slice_index_or hs j 0) first.kind first.ins first.outs (ap (λ (x : Cell). x.kind) same ∙ is) (ap (λ (x : Cell). dropped x.outs) same ∙ stays) in
    let into : CarryIn = carry_input p.roots (input_origin p.origins (slice_index_or first.ins 2 None)) in
    record {
      into = into;
      row = 0;
      at = At_left (carry_by p (slice_index_or hs j 0) first.kind first.ins first.outs) (carries_from p hs (j + 1) cells) 0 (slice_index_or hs (j + 0) 0, into)
          (ap (λ (xs : List Head). slice_get xs 0) one ∙ ap (λ k. Some (slice_index_or hs k 0, into)) (let z : j ≡ j + 0 = omega arith in z));
    }
listed_at p hs j (first ∷ cells) (suc place) cell at is stays =
    let rest = listed_at p hs (j + 1) cells place cell at is stays in
    let here : List Head = carry_by p (slice_index_or hs j 0) first.kind first.ins first.outs in
    record {
      into = rest.into;
      row = length here + rest.row;
      at = At_right here (carries_from p hs (j + 1) cells) rest.row (slice_index_or hs (j + suc place) 0, rest.into)
          (rest.at ∙ ap (λ k. Some (slice_index_or hs k 0, rest.into)) (let z : j + 1 + place ≡ j + suc place = omega arith in z));
    }

module _ (n : NetlistData) where
  abbrev p : PackPlan
  p = plan_of n

  abbrev f : Facts
  f = p.facts

  abbrev row : ℕ → Cell → Head
  row j cell = (slice_index_or (homes f) j 0, carry_input p.roots (input_origin p.origins (slice_index_or cell.ins 2 None)))

  given_is : (x : Head) (g : IsGiven p (homes f) 0 n.cells x) → x ≡ row g.place g.carry.cell
  given_is x g = g.gives ∙ ap (λ k. row k g.carry.cell) (let e = g.is in let z : g.number ≡ g.place = omega arith in z)

  -- what is given by two, is given by one
  pub said_once : (i j : ℕ) (x y : Head) → At (packed n).carries i x → At (packed n).carries j y → x.0 ≡ y.0 → x ≡ y
  said_once i j x y at also same =
      let a = given_at p (homes f) 0 n.cells i x at in
      let b = given_at p (homes f) 0 n.cells j y also in
      let number : slice_index_or (homes f) a.place 0 ≡ slice_index_or (homes f) b.place 0 = sym (ap (λ (z : Head). z.0) (given_is x a)) ∙ same ∙ ap (λ (z : Head). z.0) (given_is y b) in
      let one : a.place ≡ b.place = same_home (origins n) n.cells (bare_outputs n) a.place b.place (carry_is (origins n) n.cells (bare_outputs n) a.place a.carry) (carry_is (origins n) n.cells (bare_outputs n) b.place b.carry) number in
      let cell : a.carry.cell ≡ b.carry.cell = same_Some a.carry.cell b.carry.cell (sym a.carry.at ∙ ap (slice_get n.cells) one ∙ b.carry.at) in
      let rows : row a.place a.carry.cell ≡ row b.place b.carry.cell = λ k. row (one k) (cell k) in
      given_is x a ∙ rows ∙ sym (given_is y b)

  -- a carry of the netlist has a row
  pub carry_listed : (j : ℕ) → IsCarry n.cells j → HasCarry (packed n) (slice_index_or (homes f) j 0)
  carry_listed j c =
      let l = listed_at p (homes f) 0 n.cells j c.cell c.at c.is c.stays in
      record { into = l.into; place = l.row; at = l.at ∙ ap (λ k. Some (slice_index_or (homes f) k 0, l.into)) (let z : 0 + j ≡ j = omega arith in z) }

  -- ---- the cells that have one
  -- the cell by which a carry goes has it
  carries_it : (j : ℕ) → part f j ≡ Carry → is_some (carry_for p (anchor f j) (part f (anchor f j))) ≡ true
  carries_it j is = by (slice_index_or f.luts j None) refl
    where
      own : anchor f j ≡ j → is_some (carry_for p (anchor f j) (part f (anchor f j))) ≡ true
      own e = ap (λ x. is_some (carry_for p (anchor f j) x)) (ap (part f) e ∙ is)

      by : (o : Option ℕ) → slice_index_or f.luts j None ≡ o → is_some (carry_for p (anchor f j) (part f (anchor f j))) ≡ true
      by None e = own (own_anchor (origins n) n.cells (bare_outputs n) j is e)
      by (Some a) e = elim (goes (origins n) n.cells (bare_outputs n) j) [
        | inl itself ↦ own itself
        | inr other ↦ (let a_is : a ≡ anchor f j = sym (lut_anchor (origins n) n.cells (bare_outputs n) j a e) in
            ap (λ x. is_some (carry_for p (anchor f j) x)) other.0
            ∙ carried (origins n) n.cells (bare_outputs n) j (anchor f j) (e ∙ ap Some a_is) (kept_within (origins n) n.cells (bare_outputs n) (anchor f j) (ap is_kept other.0)))
      ]

  carry_there : (j : ℕ) → part f j ≡ Carry → (cell : LogicCell) × At (packed n).cells (slice_index_or (homes f) j 0) cell × (cell.carry ≡ true)
  carry_there j is =
      let kept : is_kept (part f j) ≡ true = ap is_kept is in
      let first : ℕ = first_member f j in
      let opened = home_opened (origins n) n.cells (bare_outputs n) j kept in
      let at = At_left (map (cell_of p n.cells) (openers f) ++ constant_if (needs_zero p.origins n.cells) false) (constant_if (needs_one p.origins n.cells (bare_outputs n)) true) (home f j) (cell_of p n.cells first)
      (At_left (map (cell_of p n.cells) (openers f)) (constant_if (needs_zero p.origins n.cells) false) (home f j) (cell_of p n.cells first) (At_map (cell_of p n.cells) (openers f) (home f j) first opened)) in (
        cell_of p n.cells first,
        ap (slice_get (packed n).cells) (home_is (origins n) n.cells (bare_outputs n) j kept) ∙ at,
        ap (λ a. is_some (carry_for p a (part f a))) (first_anchor (origins n) n.cells (bare_outputs n) j kept) ∙ carries_it j is,
      )

  pub said_of_cells : (c : ℕ) → HasCarry (packed n) c → (cell : LogicCell) × At (packed n).cells c cell × (cell.carry ≡ true)
  said_of_cells c has =
      let a = given_at p (homes f) 0 n.cells has.place (c, has.into) has.at in
      let number : slice_index_or (homes f) a.place 0 ≡ c = sym (ap (λ (z : Head). z.0) (given_is (c, has.into) a)) in
      let there = carry_there a.place (carry_is (origins n) n.cells (bare_outputs n) a.place a.carry) in
      (there.0, ap (slice_get (packed n).cells) (sym number) ∙ there.1, there.2)

  -- the carry that a cell has goes by the cell's anchor
  record IsBy (a : ℕ) : Type 0 where
    pub carry : ℕ
    pub is : part f carry ≡ Carry
    pub goes_by : anchor f carry ≡ a

  carry_by_anchor : (j : ℕ) → is_some (carry_for p (anchor f j) (part f (anchor f j))) ≡ true → IsBy (anchor f j)
  carry_by_anchor j has = by (part f (anchor f j)) refl has
    where
      a : ℕ
      a = anchor f j

      of_table : (o : Option ℕ) → slice_index_or (carriers_of f) a None ≡ o → is_some o ≡ true → IsBy a
      of_table None e g = cc g
      of_table (Some c) e g =
          let lut = carrier_lut (origins n) n.cells (bare_outputs n) a c e in
          record { carry = c; is = lut_carry (origins n) n.cells (bare_outputs n) c a lut; goes_by = lut_anchor (origins n) n.cells (bare_outputs n) c a lut }

      by : (x : Part) → part f a ≡ x → is_some (carry_for p a x) ≡ true → IsBy a
      by Table e g = of_table (slice_index_or (carriers_of f) a None) refl g
      by (Flop taken) e g = cc g
      by Nothing e g = cc g
      by Carry e g = elim (goes (origins n) n.cells (bare_outputs n) j) [
        | inl own ↦ record { carry = a; is = e; goes_by = ap (anchor f) own }
        | inr other ↦ (let bad : Carry ≡ Table = sym e ∙ other.0 in cc bad)
      ]

  pub cells_said : (c : ℕ) (cell : LogicCell) → At (packed n).cells c cell → cell.carry ≡ true → HasCarry (packed n) c
  cells_said c cell at has = by (packed_at n c cell at)
    where
      by : CellAt p n.cells (openers f) c cell → HasCarry (packed n) c
      by (Constant level e) = let bad : false ≡ true = ap (λ (y : LogicCell). y.carry) e ∙ has in cc bad
      by (Opened j opened e) =
          let passing = passing_at (opens f) (length f.parts) c j opened in
          let two = and_parts (is_kept (part f j)) (first_member f j == j) passing.passes in
          let itself : first_member f j ≡ j = eqb-true (first_member f j) j two.1 in
          let k = carry_by_anchor j (ap (λ (y : LogicCell). y.carry) e ∙ has) in
          let first : first_member f k.carry ≡ j = ap (first_by f (carriers_of f)) k.goes_by ∙ itself in
          let number : slice_index_or (homes f) k.carry 0 ≡ c
          = home_is (origins n) n.cells (bare_outputs n) k.carry (ap is_kept k.is) ∙ ap (λ i. slice_index_or (counts f) i 0) first
          ∙ get_or-table (λ i. length (openers_before f i)) (length f.parts) j 0 passing.below ∙ sym passing.place in
          subst (λ i. HasCarry (packed n) i) number (carry_listed k.carry (is_carry (origins n) n.cells (bare_outputs n) k.carry k.is))
