-- The carries among a netlist's cells, the look-up tables that they share, and the logic cells that they go to.
use Rattle.std.proofs.Common.{◌≡◌, ◌⊎◌, ℕ, zero, suc, ◌+◌, ◌<◌, Bool, true, false, cond, Option, None, Some, List, [], ◌∷◌, length, get_or, option_map, refl, ap, sym, ◌∙◌, subst, arith, inl, inr}
use Rattle.std.specs.Prelude.{slice_get, slice_index_or, unwrap_or, find, is_some}
use Rattle.std.specs.Option.{option_map_or}
use Rattle.std.specs.List.{enumerate_from}
use Rattle.std.proofs.lemmas.Bool.{eq-eqb, true≢false}
use Rattle.std.proofs.lemmas.Option.{same_Some}
use Rattle.ice_base.specs.declared.number.SignalNo.{SignalNo}
use Rattle.ice_base_values.specs.Order.{At, Has}
use Rattle.ice_base_values.proofs.Members.{find_Has, Has_find}
use Rattle.ice_net.specs.declared.cell.Cell.{Cell}
use Rattle.ice_net.specs.declared.kind.CellKind.{CellKind}
use Rattle.ice_net.specs.declared.kind.CellKind.TheVariants as kind
use Rattle.ice_net.specs.declared.port.Port.{Port}
use Rattle.ice_cells.specs.declared.origin.Origin.{Origin}
use Rattle.ice_cells.specs.declared.share.Pair.{Pair}
use Rattle.ice_cells.specs.declared.share.Part.TheVariants.{Table, Flop, Carry, Nothing}
use Rattle.ice_cells.specs.declared.share.Role.TheVariants.{Gives, Takes, Neither}
use Rattle.ice_cells.specs.Origins.{is_table_kind, input_origin}
use Rattle.ice_cells.specs.Tables.{is_place}
use Rattle.ice_cells.specs.Uses.{dropped, maker}
use Rattle.ice_cells.specs.Pairs.{pair_of, role_of, role_by, roles_of}
use Rattle.ice_cells.specs.Homes.{Facts, facts_of, part, part_of, part_by, is_kept, anchor_by, anchor, Shared, lut_at, carry_at, carrier_by, carriers_of, home, homes}
use Rattle.ice_cells.proofs.TableLaws.{length-table, get_or-table}
use Rattle.ice_pack_share.proofs.LutLaws.{taking, one_carry}
use Rattle.ice_pack_share.proofs.HomeLaws.{goes, lut_taken, one_anchor, map_at, within, numbered_at, at_numbered, place_is}

-- ---- lists by place

read_at : {X : Type 0} (xs : List X) (k : ℕ) (x d : X) → At xs k x → get_or xs k d ≡ x
read_at [] k x d at = cc at
read_at (y ∷ xs) zero x d at = same_Some y x at
read_at (y ∷ xs) (suc k) x d at = read_at xs k x d at

-- ---- kinds, parts and roles
pub carry_kind : (os : List Origin) (k : CellKind) (ins outs : List (Option SignalNo)) → part_by os k ins outs ≡ Carry → (k ≡ kind.Carry) × (dropped outs ≡ false)
carry_kind os (kind.Lut t) ins outs e = cc e
carry_kind os (kind.Cover t width) ins outs e = by (is_table_kind (kind.Cover t width)) e
  where
    by : (b : Bool) → cond b Table Nothing ≡ Carry → (kind.Cover t width ≡ kind.Carry) × (dropped outs ≡ false)
    by true f = cc f
    by false f = cc f
carry_kind os kind.Carry ins outs e = by (dropped outs) refl e
  where
    by : (b : Bool) → dropped outs ≡ b → cond b Nothing Carry ≡ Carry → (kind.Carry ≡ kind.Carry) × (dropped outs ≡ false)
    by true is f = cc f
    by false is f = (refl, is)
carry_kind os (kind.Flop falling enable reset) ins outs e = by (maker (input_origin os (slice_index_or ins 1 None))) e
  where
    by : (o : Option ℕ) → Flop o ≡ Carry → (kind.Flop falling enable reset ≡ kind.Carry) × (dropped outs ≡ false)
    by o f = cc f
carry_kind os (kind.PadCell pin_type pullup) ins outs e = cc e
carry_kind os kind.Global ins outs e = cc e

-- a carry of the netlist that is not dropped
pub record IsCarry (cells : List Cell) (j : ℕ) : Type 0 where
  pub cell : Cell
  pub at : At cells j cell
  pub is : cell.kind ≡ kind.Carry
  pub stays : dropped cell.outs ≡ false

carry_part : (os : List Origin) (cells : List Cell) (j : ℕ) (o : Option Cell) → slice_get cells j ≡ o → option_map_or (part_of os) o Nothing ≡ Carry → IsCarry cells j
carry_part os cells j None at e = cc e
carry_part os cells j (Some cell) at e = let two = carry_kind os cell.kind cell.ins cell.outs e in record { cell = cell; at = at; is = two.0; stays = two.1 }

role_takes : (os : List Origin) (k : CellKind) (ins outs : List (Option SignalNo)) (p : Pair) → role_by os k ins outs ≡ Takes p → part_by os k ins outs ≡ Carry
role_takes os (kind.Lut t) ins outs p e = cc e
role_takes os (kind.Cover t width) ins outs p e = by (pair_of os ins 1 2) (is_table_kind (kind.Cover t width)) e
  where
    by : (q : Pair) (b : Bool) → cond b (Gives q) Neither ≡ Takes p → cond b Table Nothing ≡ Carry
    by q true f = cc f
    by q false f = cc f
role_takes os kind.Carry ins outs p e = by (pair_of os ins 0 1) (dropped outs) e
  where
    by : (q : Pair) (b : Bool) → cond b Neither (Takes q) ≡ Takes p → cond b Nothing Carry ≡ Carry
    by q true f = cc f
    by q false f = refl
role_takes os (kind.Flop falling enable reset) ins outs p e = cc e
role_takes os (kind.PadCell pin_type pullup) ins outs p e = cc e
role_takes os kind.Global ins outs p e = cc e

role_part : (os : List Origin) (o : Option Cell) (p : Pair) → option_map_or (role_of os) o Neither ≡ Takes p → option_map_or (part_of os) o Nothing ≡ Carry
role_part os None p e = cc e
role_part os (Some cell) p e = role_takes os cell.kind cell.ins cell.outs p e

-- ---- the facts of a netlist's cells
module _ (os : List Origin) (cells : List Cell) (bare : List Port) where
  abbrev f : Facts
  f = facts_of os cells bare

  pub part_is : (j : ℕ) → part f j ≡ option_map_or (part_of os) (slice_get cells j) Nothing
  part_is j = map_at (part_of os) cells j Nothing

  pub part_at : (j : ℕ) (cell : Cell) → At cells j cell → part f j ≡ part_by os cell.kind cell.ins cell.outs
  part_at j cell at = part_is j ∙ ap (λ o. option_map_or (part_of os) o Nothing) at

  pub is_carry : (j : ℕ) → part f j ≡ Carry → IsCarry cells j
  is_carry j e = carry_part os cells j (slice_get cells j) refl (sym (part_is j) ∙ e)

  pub carry_is : (j : ℕ) → IsCarry cells j → part f j ≡ Carry
  carry_is j c = part_at j c.cell c.at ∙ ap (λ k. part_by os k c.cell.ins c.cell.outs) c.is ∙ ap (λ b. cond b Nothing Carry) c.stays

  pub kept_within : (j : ℕ) → is_kept (part f j) ≡ true → j < length f.parts
  kept_within j e = within f.parts j Nothing (part f j) refl (λ z. absurd (true≢false (sym e ∙ ap is_kept (sym z))))

  pub home_is : (j : ℕ) → is_kept (part f j) ≡ true → slice_index_or (homes f) j 0 ≡ home f j
  home_is j kept = get_or-table (home f) (length f.parts) j 0 (kept_within j kept)

  -- ---- who shares a look-up table
  pub lut_carry : (c a : ℕ) → slice_index_or f.luts c None ≡ Some a → part f c ≡ Carry
  lut_carry c a e =
      let t = taking (roles_of os cells) c a (lut_taken os cells bare c a e) in
      part_is c ∙ role_part os (slice_get cells c) t.pair (sym (map_at (role_of os) cells c Neither) ∙ t.carry)

  carrier_found : (a c : ℕ) → carrier_by f.luts a ≡ Some c → slice_index_or f.luts c None ≡ Some a
  carrier_found a c e = by (find (λ (shared : Shared). is_place a (lut_at shared)) (enumerate_from 0 f.luts)) refl e
    where
      by : (o : Option Shared) → find (λ (shared : Shared). is_place a (lut_at shared)) (enumerate_from 0 f.luts) ≡ o → option_map carry_at o ≡ Some c → slice_index_or f.luts c None ≡ Some a
      by None is g = cc g
      by (Some shared) is g =
          let has = find_Has (λ (s : Shared). is_place a (lut_at s)) (enumerate_from 0 f.luts) shared is in
          let at = numbered_at 0 f.luts has.0.0 shared has.0.1 in
          let same : shared.0 ≡ c = same_Some shared.0 c g in
          let place : has.0.0 ≡ c = (let p = at.0 in omega arith) in
          ap (λ k. slice_index_or f.luts k None) (sym place) ∙ read_at f.luts has.0.0 shared.1 None at.1 ∙ place_is a shared.1 has.1

  pub carrier_lut : (a c : ℕ) → slice_index_or (carriers_of f) a None ≡ Some c → slice_index_or f.luts c None ≡ Some a
  carrier_lut a c e =
      let lt : a < length (carriers_of f) = within (carriers_of f) a None (Some c) e (λ z. cc z) in
      carrier_found a c (sym (get_or-table (carrier_by f.luts) (length f.parts) a None (let l : length (carriers_of f) ≡ length f.parts = length-table (carrier_by f.luts) (length f.parts) in omega arith)) ∙ e)

  pub carried : (c a : ℕ) → slice_index_or f.luts c None ≡ Some a → a < length f.parts → is_some (slice_index_or (carriers_of f) a None) ≡ true
  carried c a e lt =
      let found = Has_find (λ (s : Shared). is_place a (lut_at s)) (enumerate_from 0 f.luts) (c, Some a) here (eq-eqb a a refl) in
      ap is_some (get_or-table (carrier_by f.luts) (length f.parts) a None lt ∙ ap (option_map carry_at) found.1)
    where
      there : (xs : List (Option ℕ)) (k : ℕ) → get_or xs k None ≡ Some a → At xs k (Some a)
      there [] k g = cc g
      there (x ∷ xs) zero g = ap Some g
      there (x ∷ xs) (suc k) g = there xs k g

      here : Has (enumerate_from 0 f.luts) (c, Some a)
      here = subst (λ k. Has (enumerate_from 0 f.luts) (k, Some a)) (let z : 0 + c ≡ c = omega arith in z) (at_numbered 0 f.luts c (Some a) (there f.luts c e))

  -- ---- by which cell a carry goes
  pub own_anchor : (c : ℕ) → part f c ≡ Carry → slice_index_or f.luts c None ≡ None → anchor f c ≡ c
  own_anchor c is e = ap (anchor_by f c) is ∙ ap (λ o. unwrap_or o c) e

  pub lut_anchor : (c a : ℕ) → slice_index_or f.luts c None ≡ Some a → anchor f c ≡ a
  lut_anchor c a e = ap (anchor_by f c) (lut_carry c a e) ∙ ap (λ o. unwrap_or o c) e

  table_or_own : (c a : ℕ) → slice_index_or f.luts c None ≡ Some a → (a ≡ c) ⊎ (part f a ≡ Table)
  table_or_own c a e = elim (goes os cells bare c) [
    | inl own ↦ inl (sym (lut_anchor c a e) ∙ own)
    | inr other ↦ inr (ap (part f) (sym (lut_anchor c a e)) ∙ other.0)
  ]

  -- a carry does not share a carry
  lut_other : (c a : ℕ) → slice_index_or f.luts c None ≡ Some a → part f a ≡ Carry → a ≡ c
  lut_other c a e is = elim (table_or_own c a e) [
    | inl own ↦ own
    | inr table ↦ (let bad : Table ≡ Carry = sym table ∙ is in cc bad)
  ]

  -- carries that go by one cell are one
  pub same_carry : (j k : ℕ) → part f j ≡ Carry → part f k ≡ Carry → anchor f j ≡ anchor f k → j ≡ k
  same_carry j k is also same = by (slice_index_or f.luts j None) (slice_index_or f.luts k None) refl refl
    where
      by : (o p : Option ℕ) → slice_index_or f.luts j None ≡ o → slice_index_or f.luts k None ≡ p → j ≡ k
      by None None e g = sym (own_anchor j is e) ∙ same ∙ own_anchor k also g
      by None (Some b) e g =
          let b_is : b ≡ j = sym (lut_anchor k b g) ∙ sym same ∙ own_anchor j is e in
          sym b_is ∙ lut_other k b g (ap (part f) b_is ∙ is)
      by (Some a) None e g =
          let a_is : a ≡ k = sym (lut_anchor j a e) ∙ same ∙ own_anchor k also g in
          sym (lut_other j a e (ap (part f) a_is ∙ also)) ∙ a_is
      by (Some a) (Some b) e g =
          let b_is : b ≡ a = sym (lut_anchor k b g) ∙ sym same ∙ lut_anchor j a e in
          one_carry (roles_of os cells) j k a (lut_taken os cells bare j a e) (lut_taken os cells bare k a (g ∙ ap Some b_is))

  -- ---- homes
  pub same_home : (j k : ℕ) → part f j ≡ Carry → part f k ≡ Carry → slice_index_or (homes f) j 0 ≡ slice_index_or (homes f) k 0 → j ≡ k
  same_home j k is also same =
      let kept : is_kept (part f j) ≡ true = ap is_kept is in
      let too : is_kept (part f k) ≡ true = ap is_kept also in
      same_carry j k is also (one_anchor os cells bare j k kept too (sym (home_is j kept) ∙ same ∙ home_is k too))
