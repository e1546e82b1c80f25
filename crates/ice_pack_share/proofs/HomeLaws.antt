-- The logic cell that a cell goes to is opened, and the cells that go there go by one cell.
use Rattle.std.proofs.Common.{◌≡◌, ◌⊎◌, ℕ, zero, suc, ◌+◌, ◌<◌, Bool, true, false, cond, Option, None, Some, List, [], ◌∷◌, length, get_or, map, option_map, refl, ap, sym, ◌∙◌, subst, arith, inl, inr}
use Rattle.std.specs.Prelude.{◌&&◌, ◌==◌, slice_get, slice_index_or, min, unwrap_or, find}
use Rattle.std.specs.Option.{option_map_or}
use Rattle.std.specs.List.{enumerate_from}
use Rattle.std.proofs.lemmas.Bool.{eq-eqb, eqb-true, and_parts, cases_lt, true≢false}
use Rattle.std.proofs.lemmas.Option.{same_Some}
use Rattle.ice_base.specs.declared.number.SignalNo.{SignalNo}
use Rattle.ice_base_values.specs.Order.{At, Has}
use Rattle.ice_base_values.proofs.Members.{find_Has, Has_find}
use Rattle.ice_base_values.proofs.Places.{At_append_cases}
use Rattle.ice_net.specs.declared.cell.Cell.{Cell}
use Rattle.ice_net.specs.declared.kind.CellKind.{CellKind}
use Rattle.ice_net.specs.declared.kind.CellKind.TheVariants as kind
use Rattle.ice_net.specs.declared.port.Port.{Port}
use Rattle.ice_cells.specs.declared.origin.Origin.{Origin}
use Rattle.ice_cells.specs.declared.origin.Origin.TheVariants.{Made}
use Rattle.ice_cells.specs.declared.origin.Use.{Use}
use Rattle.ice_cells.specs.declared.origin.Use.TheVariants.{Nobody, Taken, Other}
use Rattle.ice_cells.specs.declared.share.Pair.{Pair}
use Rattle.ice_cells.specs.declared.share.Part.{Part}
use Rattle.ice_cells.specs.declared.share.Part.TheVariants.{Table, Flop, Carry, Nothing}
use Rattle.ice_cells.specs.declared.share.Role.{Role}
use Rattle.ice_cells.specs.declared.share.Role.TheVariants.{Gives, Takes, Neither}
use Rattle.ice_cells.specs.Origins.{is_table_kind, input_origin}
use Rattle.ice_cells.specs.Tables.{is_place}
use Rattle.ice_cells.specs.Uses.{Reading, dropped, reading_ins, reads_from, cells_read, port_reading, readings, uses, use_of, taker_of}
use Rattle.ice_cells.specs.Uses as reads
use Rattle.ice_cells.specs.Pairs.{pair_of, role, role_of, role_by, roles_of, lut_of}
use Rattle.ice_cells.specs.Homes.{Facts, facts_of, part, part_of, part_by, is_table, is_kept, taker, taken_anchor, anchor_by, anchor, Shared, lut_at, carry_at, carrier_by, carriers_of, least_of, first_by, first_member, opens, openers_before, openers, home}
use Rattle.ice_cells.proofs.RangeFilters.{place_of_passing}
use Rattle.ice_cells.proofs.TableLaws.{length-table, get_or-table}
use Rattle.ice_pack_share.proofs.UseLaws.{taken_back}
use Rattle.ice_pack_share.proofs.LutLaws.{taking, one_carry}

-- ---- lists by place
pub map_at : {X Y : Type 0} (f : X → Y) (xs : List X) (k : ℕ) (d : Y) → get_or (map f xs) k d ≡ option_map_or f (slice_get xs k) d
map_at f [] k d = refl
map_at f (x ∷ xs) zero d = refl
map_at f (x ∷ xs) (suc k) d = map_at f xs k d

pub within : {X : Type 0} (xs : List X) (k : ℕ) (d x : X) → get_or xs k d ≡ x → (d ≡ x → ⊥) → k < length xs
within [] k d x e other = absurd (other e)
within (y ∷ xs) zero d x e other = omega arith
within (y ∷ xs) (suc k) d x e other = let lt = within xs k d x e other in omega arith

taken_by : (us : List Use) (k f : ℕ) → get_or (map taker_of us) k None ≡ Some f → get_or us k Nobody ≡ Taken f
taken_by [] k f e = cc e
taken_by (Nobody ∷ us) zero f e = cc e
taken_by (Taken g ∷ us) zero f e = ap Taken (same_Some g f e)
taken_by (Other ∷ us) zero f e = cc e
taken_by (u ∷ us) (suc k) f e = taken_by us k f e

-- ---- what reads
-- a reading by inputs, the first of which has that place
reads_at : (os : List Origin) (j : ℕ) (kind : CellKind) (place : ℕ) (ins : List (Option SignalNo)) (i : ℕ) (r : Reading) (p : ℕ) → p ≡ place + i → At (reads_from os j kind place ins) i r
    → (input_origin os (get_or ins i None) ≡ r.0) × (reads.taker j kind p ≡ r.1)
reads_at os j kind place [] i r p is at = cc at
reads_at os j kind place (input ∷ ins) zero r p is at =
    let e = same_Some (input_origin os input, reads.taker j kind place) r at in
    (ap (λ (x : Reading). x.0) e, ap (reads.taker j kind) (let s : p ≡ place = omega arith in s) ∙ ap (λ (x : Reading). x.1) e)
reads_at os j kind place (input ∷ ins) (suc i) r p is at = reads_at os j kind (place + 1) ins i r p (omega arith) at

-- a cell with a reading
record IsReader (os : List Origin) (cells : List Cell) (j : ℕ) (r : Reading) : Type 0 where
  pub place : ℕ
  pub cell : Cell
  pub there : At cells place cell
  pub number : ℕ
  pub is : number ≡ j + place
  pub input : ℕ
  pub reads_it : At (reads_from os number cell.kind 0 (reading_ins cell.kind cell.ins cell.outs)) input r

reader_at : (os : List Origin) (cells : List Cell) (j i : ℕ) (r : Reading) → At (cells_read os j cells) i r → IsReader os cells j r
reader_at os [] j i r at = cc at
reader_at os (cell ∷ cells) j i r at = elim (At_append_cases (reads_from os j cell.kind 0 (reading_ins cell.kind cell.ins cell.outs)) (cells_read os (j + 1) cells) i r at) [
  | inl here ↦ record { place = 0; cell = cell; there = refl; number = j; is = omega arith; input = i; reads_it = here }
  | inr behind ↦ (let rest = reader_at os cells (j + 1) _ r behind.1 in
      record { place = suc rest.place; cell = rest.cell; there = rest.there; number = rest.number; is = (let is = rest.is in omega arith); input = rest.input; reads_it = rest.reads_it })
]

-- no port reads as a flip-flop
port_none : (os : List Origin) (bare : List Port) (i : ℕ) (o : Origin) (f : ℕ) → At (map (port_reading os) bare) i (o, Some f) → ⊥
port_none os [] i o f at = cc at
port_none os (port ∷ bare) zero o f at = let e : None ≡ Some f = ap (λ (x : Reading). x.1) (same_Some (port_reading os port) (o, Some f) at) in cc e
port_none os (port ∷ bare) (suc i) o f at = port_none os bare i o f at

-- a cell that reads as a flip-flop is one, and takes what it reads
flop_by : (os : List Origin) (f number input k : ℕ) (kind : CellKind) (ins outs : List (Option SignalNo))
    → input_origin os (get_or (reading_ins kind ins outs) input None) ≡ Made k → reads.taker number kind input ≡ Some f → (number ≡ f) × (part_by os kind ins outs ≡ Flop (Some k))
flop_by os f number input k (kind.Lut t) ins outs reads_k takes = cc takes
flop_by os f number input k (kind.Cover t width) ins outs reads_k takes = cc takes
flop_by os f number input k kind.Carry ins outs reads_k takes = cc takes
flop_by os f number input k (kind.PadCell pin_type pullup) ins outs reads_k takes = cc takes
flop_by os f number input k kind.Global ins outs reads_k takes = cc takes
flop_by os f number input k (kind.Flop falling enable reset) ins outs reads_k takes = by (input == 1) refl takes
  where
    by : (b : Bool) → (input == 1) ≡ b → cond b (Some number) None ≡ Some f → (number ≡ f) × (Flop (reads.maker (input_origin os (slice_index_or ins 1 None))) ≡ Flop (Some k))
    by false is e = cc e
    by true is e = (same_Some number f e, ap (λ (o : Origin). Flop (reads.maker o)) (sym (ap (λ i. input_origin os (get_or ins i None)) (eqb-true input 1 is)) ∙ reads_k))

-- ---- roles and parts
pub carry_by : (os : List Origin) (k : CellKind) (ins outs : List (Option SignalNo)) (p : Pair) → role_by os k ins outs ≡ Takes p → part_by os k ins outs ≡ Carry
carry_by os (kind.Lut t) ins outs p e = cc e
carry_by os (kind.Cover t width) ins outs p e = by (pair_of os ins 1 2) (is_table_kind (kind.Cover t width)) e
  where
    by : (q : Pair) (b : Bool) → cond b (Gives q) Neither ≡ Takes p → cond b Table Nothing ≡ Carry
    by q true e = cc e
    by q false e = cc e
carry_by os kind.Carry ins outs p e = by (pair_of os ins 0 1) (dropped outs) e
  where
    by : (q : Pair) (b : Bool) → cond b Neither (Takes q) ≡ Takes p → cond b Nothing Carry ≡ Carry
    by q true e = cc e
    by q false e = refl
carry_by os (kind.Flop falling enable reset) ins outs p e = cc e
carry_by os (kind.PadCell pin_type pullup) ins outs p e = cc e
carry_by os kind.Global ins outs p e = cc e

pub table_by : (os : List Origin) (k : CellKind) (ins outs : List (Option SignalNo)) (p : Pair) → role_by os k ins outs ≡ Gives p → part_by os k ins outs ≡ Table
table_by os (kind.Lut t) ins outs p e = refl
table_by os (kind.Cover t width) ins outs p e = by (pair_of os ins 1 2) (is_table_kind (kind.Cover t width)) e
  where
    by : (q : Pair) (b : Bool) → cond b (Gives q) Neither ≡ Gives p → cond b Table Nothing ≡ Table
    by q true e = refl
    by q false e = cc e
table_by os kind.Carry ins outs p e = by (pair_of os ins 0 1) (dropped outs) e
  where
    by : (q : Pair) (b : Bool) → cond b Neither (Takes q) ≡ Gives p → cond b Nothing Carry ≡ Table
    by q true e = cc e
    by q false e = cc e
table_by os (kind.Flop falling enable reset) ins outs p e = cc e
table_by os (kind.PadCell pin_type pullup) ins outs p e = cc e
table_by os kind.Global ins outs p e = cc e

-- a part of a cell, by its role
part_from : (os : List Origin) (o : Option Cell) (r : Role) (x : Part) → option_map_or (role_of os) o Neither ≡ r → (Neither ≡ r → ⊥)
    → ((k : CellKind) (ins outs : List (Option SignalNo)) → role_by os k ins outs ≡ r → part_by os k ins outs ≡ x) → option_map_or (part_of os) o Nothing ≡ x
part_from os None r x e other same = absurd (other e)
part_from os (Some cell) r x e other same = same cell.kind cell.ins cell.outs e

-- ---- numbered lists
pub numbered_at : {X : Type 0} (n : ℕ) (xs : List X) (i : ℕ) (p : ℕ × X) → At (enumerate_from n xs) i p → (p.0 ≡ n + i) × At xs i p.1
numbered_at n [] i p at = cc at
numbered_at n (x ∷ xs) zero p at = let e = same_Some (n, x) p at in (sym (ap (λ (q : ℕ × _). q.0) e) ∙ (let z : n ≡ n + 0 = omega arith in z), ap (λ (q : ℕ × _). Some q.1) e)
numbered_at n (x ∷ xs) (suc i) p at = let rest = numbered_at (n + 1) xs i p at in (rest.0 ∙ (let z : n + 1 + i ≡ n + suc i = omega arith in z), rest.1)

pub at_numbered : {X : Type 0} (n : ℕ) (xs : List X) (i : ℕ) (x : X) → At xs i x → Has (enumerate_from n xs) (n + i, x)
at_numbered n [] i x at = cc at
at_numbered n (y ∷ xs) zero x at = (0, ap Some (λ j. ((let z : n ≡ n + 0 = omega arith in z) j, same_Some y x at j)))
at_numbered n (y ∷ xs) (suc i) x at = let rest = at_numbered (n + 1) xs i x at in (suc rest.0, rest.1 ∙ ap (λ k. Some (k, x)) (let z : n + 1 + i ≡ n + suc i = omega arith in z))

pub place_is : (a : ℕ) (o : Option ℕ) → is_place a o ≡ true → o ≡ Some a
place_is a None e = cc e
place_is a (Some k) e = ap Some (eqb-true k a e)

least_cases : (o : Option ℕ) (k : ℕ) → (least_of o k ≡ k) ⊎ (o ≡ Some (least_of o k))
least_cases None k = inl refl
least_cases (Some j) k = elim (cases_lt j k) [
  | inl before ↦ inr (ap Some (let e : j ≡ min j k = omega arith in e))
  | inr behind ↦ inl (let e : min j k ≡ k = omega arith in e)
]

-- ---- the facts of a netlist's cells
module _ (os : List Origin) (cells : List Cell) (bare : List Port) where
  abbrev n : Facts
  n = facts_of os cells bare

  pub part_is : (j : ℕ) → part n j ≡ option_map_or (part_of os) (slice_get cells j) Nothing
  part_is j = map_at (part_of os) cells j Nothing

  pub role_is : (j : ℕ) → role (roles_of os cells) j ≡ option_map_or (role_of os) (slice_get cells j) Neither
  role_is j = map_at (role_of os) cells j Neither

  -- ---- takers
  pub taker_parts : (k f : ℕ) → taker n k ≡ Some f → (is_table (part n k) ≡ true) × (get_or (uses os cells bare) k Nobody ≡ Taken f)
  taker_parts k f e = by (is_table (part n k)) refl e
    where
      by : (b : Bool) → is_table (part n k) ≡ b → cond b (slice_index_or n.takers k None) None ≡ Some f → (is_table (part n k) ≡ true) × (get_or (uses os cells bare) k Nobody ≡ Taken f)
      by true is g = (is, taken_by (uses os cells bare) k f g)
      by false is g = cc g

  pub taker_use : (k f : ℕ) → taker n k ≡ Some f → use_of os cells bare k ≡ Taken f
  taker_use k f e =
      let t = (taker_parts k f e).1 in
      let lt : k < length (uses os cells bare) = within (uses os cells bare) k Nobody (Taken f) t (λ z. cc z) in
      sym (get_or-table (use_of os cells bare) (length cells) k Nobody (let l : length (uses os cells bare) ≡ length cells = length-table (use_of os cells bare) (length cells) in omega arith)) ∙ t

  pub taker_reads : (k f : ℕ) → taker n k ≡ Some f → Has (readings os cells bare) (Made k, Some f)
  taker_reads k f e = elim (taken_back k f (readings os cells bare) Nobody (taker_use k f e)) [
    | inl has ↦ has
    | inr never ↦ cc never
  ]

  -- what takes a look-up table is a flip-flop, and goes by the table
  pub taker_part : (k f : ℕ) → taker n k ≡ Some f → part n f ≡ Flop (Some k)
  taker_part k f e =
      let has = taker_reads k f e in
      elim (At_append_cases (cells_read os 0 cells) (map (port_reading os) bare) has.0 (Made k, Some f) has.1) [
        | inl here ↦ from_reader (reader_at os cells 0 has.0 (Made k, Some f) here)
        | inr behind ↦ absurd (port_none os bare _ (Made k) f behind.1)
      ]
    where
      from_reader : IsReader os cells 0 (Made k, Some f) → part n f ≡ Flop (Some k)
      from_reader r =
          let two = reads_at os r.number r.cell.kind 0 (reading_ins r.cell.kind r.cell.ins r.cell.outs) r.input (Made k, Some f) r.input (omega arith) r.reads_it in
          let both = flop_by os f r.number r.input k r.cell.kind r.cell.ins r.cell.outs two.0 two.1 in
          let same : r.place ≡ f = (let a = r.is in let b : r.number ≡ f = both.0 in omega arith) in
          part_is f ∙ ap (λ j. option_map_or (part_of os) (slice_get cells j) Nothing) (sym same) ∙ ap (λ (o : Option Cell). option_map_or (part_of os) o Nothing) r.there ∙ both.1

  taker_anchor : (k f : ℕ) → taker n k ≡ Some f → anchor n f ≡ k
  taker_anchor k f e =
      ap (anchor_by n f) (taker_part k f e) ∙ ap (λ b. cond (b && is_place f (taker n k)) k f) (taker_parts k f e).0
      ∙ ap (λ o. cond (is_place f o) k f) e ∙ ap (λ b. cond b k f) (eq-eqb f f refl)

  -- ---- carriers
  pub lut_taken : (c a : ℕ) → slice_index_or n.luts c None ≡ Some a → lut_of (roles_of os cells) c ≡ Some a
  lut_taken c a e =
      let lt : c < length n.luts = within n.luts c None (Some a) e (λ z. cc z) in
      sym (get_or-table (lut_of (roles_of os cells)) (length (roles_of os cells)) c None (let l : length n.luts ≡ length (roles_of os cells) = length-table (lut_of (roles_of os cells)) (length (roles_of os cells)) in omega arith)) ∙ e

  pub carry_part : (c a : ℕ) → slice_index_or n.luts c None ≡ Some a → part n c ≡ Carry
  carry_part c a e =
      let t = taking (roles_of os cells) c a (lut_taken c a e) in
      part_is c ∙ part_from os (slice_get cells c) (Takes t.pair) Carry (sym (role_is c) ∙ t.carry) (λ z. cc z) (λ k ins outs g. carry_by os k ins outs t.pair g)

  pub table_part : (c a : ℕ) → slice_index_or n.luts c None ≡ Some a → part n a ≡ Table
  table_part c a e =
      let t = taking (roles_of os cells) c a (lut_taken c a e) in
      part_is a ∙ part_from os (slice_get cells a) (Gives t.pair) Table (sym (role_is a) ∙ t.lut) (λ z. cc z) (λ k ins outs g. table_by os k ins outs t.pair g)

  carry_anchor : (c a : ℕ) → slice_index_or n.luts c None ≡ Some a → anchor n c ≡ a
  carry_anchor c a e = ap (anchor_by n c) (carry_part c a e) ∙ ap (λ o. unwrap_or o c) e

  carrier_found : (a c : ℕ) → carrier_by n.luts a ≡ Some c → slice_index_or n.luts c None ≡ Some a
  carrier_found a c e = by (find (λ (shared : Shared). is_place a (lut_at shared)) (enumerate_from 0 n.luts)) refl e
    where
      by : (o : Option Shared) → find (λ (shared : Shared). is_place a (lut_at shared)) (enumerate_from 0 n.luts) ≡ o → option_map carry_at o ≡ Some c → slice_index_or n.luts c None ≡ Some a
      by None is g = cc g
      by (Some shared) is g =
          let has = find_Has (λ (s : Shared). is_place a (lut_at s)) (enumerate_from 0 n.luts) shared is in
          let at = numbered_at 0 n.luts has.0.0 shared has.0.1 in
          let same : shared.0 ≡ c = same_Some shared.0 c g in
          let place : has.0.0 ≡ c = (let p = at.0 in omega arith) in
          ap (λ k. slice_index_or n.luts k None) (sym place) ∙ read_at n.luts has.0.0 shared.1 at.1 ∙ place_is a shared.1 has.1
        where
          read_at : (xs : List (Option ℕ)) (k : ℕ) (x : Option ℕ) → At xs k x → get_or xs k None ≡ x
          read_at [] k x at = cc at
          read_at (y ∷ xs) zero x at = same_Some y x at
          read_at (y ∷ xs) (suc k) x at = read_at xs k x at

  pub carrier_lut : (a c : ℕ) → slice_index_or (carriers_of n) a None ≡ Some c → slice_index_or n.luts c None ≡ Some a
  carrier_lut a c e =
      let lt : a < length (carriers_of n) = within (carriers_of n) a None (Some c) e (λ z. cc z) in
      carrier_found a c (sym (get_or-table (carrier_by n.luts) (length n.parts) a None (let l : length (carriers_of n) ≡ length n.parts = length-table (carrier_by n.luts) (length n.parts) in omega arith)) ∙ e)

  -- ---- anchors
  kept_flop : (j : ℕ) (taken : Option ℕ) → (taken_anchor n j taken ≡ j) ⊎ ((is_table (part n (taken_anchor n j taken)) ≡ true) × (taker n (taken_anchor n j taken) ≡ Some j))
  kept_flop j None = inl refl
  kept_flop j (Some k) = by (is_table (part n k) && is_place j (taker n k)) refl
    where
      by : (b : Bool) → (is_table (part n k) && is_place j (taker n k)) ≡ b → (cond b k j ≡ j) ⊎ ((is_table (part n (cond b k j)) ≡ true) × (taker n (cond b k j) ≡ Some j))
      by true is = let two = and_parts (is_table (part n k)) (is_place j (taker n k)) is in inr (two.0, place_is j (taker n k) two.1)
      by false is = inl refl

  table_is : (x : Part) → is_table x ≡ true → x ≡ Table
  table_is Table e = refl
  table_is (Flop taken) e = cc e
  table_is Carry e = cc e
  table_is Nothing e = cc e

  -- by what a cell goes: itself, or a look-up table, by which it goes as its taker or as a carry
  pub goes : (j : ℕ) → (anchor n j ≡ j) ⊎ ((part n (anchor n j) ≡ Table) × ((taker n (anchor n j) ≡ Some j) ⊎ (slice_index_or n.luts j None ≡ Some (anchor n j))))
  goes j = by (part n j) refl
    where
      of_lut : (o : Option ℕ) → slice_index_or n.luts j None ≡ o → (unwrap_or o j ≡ j) ⊎ ((part n (unwrap_or o j) ≡ Table) × ((taker n (unwrap_or o j) ≡ Some j) ⊎ (slice_index_or n.luts j None ≡ Some (unwrap_or o j))))
      of_lut None is = inl refl
      of_lut (Some a) is = inr (table_part j a is, inr is)

      by : (x : Part) → part n j ≡ x → (anchor_by n j x ≡ j) ⊎ ((part n (anchor_by n j x) ≡ Table) × ((taker n (anchor_by n j x) ≡ Some j) ⊎ (slice_index_or n.luts j None ≡ Some (anchor_by n j x))))
      by Table is = inl refl
      by (Flop taken) is = elim (kept_flop j taken) [
        | inl own ↦ inl own
        | inr both ↦ inr (table_is (part n (taken_anchor n j taken)) both.0, inl both.1)
      ]
      by Carry is = of_lut (slice_index_or n.luts j None) refl
      by Nothing is = inl refl

  -- what a cell goes by, goes by itself
  pub anchor_again : (j : ℕ) → anchor n (anchor n j) ≡ anchor n j
  anchor_again j = elim (goes j) [
    | inl own ↦ ap (anchor n) own
    | inr other ↦ ap (anchor_by n (anchor n j)) other.0
  ]

  pub kept_anchor : (j : ℕ) → is_kept (part n j) ≡ true → is_kept (part n (anchor n j)) ≡ true
  kept_anchor j e = elim (goes j) [
    | inl own ↦ ap (λ k. is_kept (part n k)) own ∙ e
    | inr other ↦ ap is_kept other.0
  ]

  -- ---- the first member
  -- the first of those that go by a cell goes by it, too
  first_goes : (a : ℕ) → anchor n a ≡ a → is_kept (part n a) ≡ true → (anchor n (first_by n (carriers_of n) a) ≡ a) × (is_kept (part n (first_by n (carriers_of n) a)) ≡ true)
  first_goes a self kept = elim (least_cases (taker n a) (least_of (slice_index_or (carriers_of n) a None) a)) [
    | inr flop ↦ (taker_anchor a (first_by n (carriers_of n) a) flop, ap is_kept (taker_part a (first_by n (carriers_of n) a) flop))
    | inl rest ↦ elim (least_cases (slice_index_or (carriers_of n) a None) a) [
      | inr carry ↦ (let lut = carrier_lut a (least_of (slice_index_or (carriers_of n) a None) a) carry in
          (ap (anchor n) rest ∙ carry_anchor (least_of (slice_index_or (carriers_of n) a None) a) a lut, ap (λ j. is_kept (part n j)) rest ∙ ap is_kept (carry_part (least_of (slice_index_or (carriers_of n) a None) a) a lut)))
      | inl own ↦ (ap (anchor n) (rest ∙ own) ∙ self, ap (λ j. is_kept (part n j)) (rest ∙ own) ∙ kept)
    ]
  ]

  pub first_anchor : (j : ℕ) → is_kept (part n j) ≡ true → anchor n (first_member n j) ≡ anchor n j
  first_anchor j e = (first_goes (anchor n j) (anchor_again j) (kept_anchor j e)).0

  pub first_kept : (j : ℕ) → is_kept (part n j) ≡ true → is_kept (part n (first_member n j)) ≡ true
  first_kept j e = (first_goes (anchor n j) (anchor_again j) (kept_anchor j e)).1

  pub first_opens : (j : ℕ) → is_kept (part n j) ≡ true → opens n (first_member n j) ≡ true
  first_opens j e =
      ap (λ b. b && (first_member n (first_member n j) == first_member n j)) (first_kept j e)
      ∙ eq-eqb (first_member n (first_member n j)) (first_member n j) (ap (first_by n (carriers_of n)) (first_anchor j e))

  pub kept_within : (j : ℕ) → is_kept (part n j) ≡ true → j < length n.parts
  kept_within j e = within n.parts j Nothing (part n j) refl (λ z. absurd (true≢false (sym e ∙ ap is_kept (sym z))))

  -- ---- homes
  pub home_opened : (j : ℕ) → is_kept (part n j) ≡ true → slice_get (openers n) (home n j) ≡ Some (first_member n j)
  home_opened j e =
      let lt : first_member n j < length n.parts = kept_within (first_member n j) (first_kept j e) in
      ap (slice_get (openers n)) (get_or-table (λ i. length (openers_before n i)) (length n.parts) (first_member n j) 0 lt)
      ∙ place_of_passing (opens n) (length n.parts) (first_member n j) lt (first_opens j e)

  pub one_anchor : (j k : ℕ) → is_kept (part n j) ≡ true → is_kept (part n k) ≡ true → home n j ≡ home n k → anchor n j ≡ anchor n k
  one_anchor j k kept also same =
      let first : first_member n j ≡ first_member n k = same_Some (first_member n j) (first_member n k) (sym (home_opened j kept) ∙ ap (slice_get (openers n)) same ∙ home_opened k also) in
      sym (first_anchor j kept) ∙ ap (anchor n) first ∙ first_anchor k also

  pub carrier_is : (a c : ℕ) → a < length n.parts → slice_index_or n.luts c None ≡ Some a → slice_index_or (carriers_of n) a None ≡ Some c
  carrier_is a c lt e = get_or-table (carrier_by n.luts) (length n.parts) a None lt ∙ by (Has_find (λ (s : Shared). is_place a (lut_at s)) (enumerate_from 0 n.luts) (c, Some a) here (eq-eqb a a refl))
    where
      there : (xs : List (Option ℕ)) (k : ℕ) → get_or xs k None ≡ Some a → At xs k (Some a)
      there [] k f = cc f
      there (x ∷ xs) zero f = ap Some f
      there (x ∷ xs) (suc k) f = there xs k f

      here : Has (enumerate_from 0 n.luts) (c, Some a)
      here = subst (λ k. Has (enumerate_from 0 n.luts) (k, Some a)) (let z : 0 + c ≡ c = omega arith in z) (at_numbered 0 n.luts c (Some a) (there n.luts c e))

      by : (y : Shared) × (find (λ (s : Shared). is_place a (lut_at s)) (enumerate_from 0 n.luts) ≡ Some y) → carrier_by n.luts a ≡ Some c
      by found =
          let again = carrier_found a found.0.0 (ap (option_map carry_at) found.1) in
          ap (option_map carry_at) found.1 ∙ ap Some (one_carry (roles_of os cells) found.0.0 c a (lut_taken found.0.0 a again) (lut_taken c a e))

  pub three_go : (j : ℕ) → (anchor n j ≡ j) ⊎ ((taker n (anchor n j) ≡ Some j) ⊎ (slice_index_or (carriers_of n) (anchor n j) None ≡ Some j))
  three_go j = elim (goes j) [
    | inl own ↦ inl own
    | inr other ↦ inr (elim other.1 [
      | inl flop ↦ inl flop
      | inr carry ↦ inr (carrier_is (anchor n j) j (kept_within (anchor n j) (ap is_kept other.0)) carry)
    ])
  ]
