-- Which rows the wanted switches turn on, and what drives each wire.
use Rattle.std.proofs.Common.{◌≡◌, ◌⊎◌, ℕ, zero, suc, ◌+◌, ◌<◌, ◌≤◌, Bool, true, false, eqb, Option, None, Some, List, [], ◌∷◌, ◌-◌, length, inl, inr, refl, sym, ap, ◌∙◌, subst, arith}
use Rattle.std.specs.Prelude.{◌&&◌, ◌||◌, not, option_map, slice_get}
use Rattle.std.specs.Option.{option_and_then}
use Rattle.std.specs.List.{list_any}
use Rattle.std.proofs.lemmas.Bool.{or_cases, and_parts, eqb-true, eq-eqb, cases_Bool}
use Rattle.std.proofs.lemmas.Option.{same_Some}
use Rattle.ice_base.specs.declared.number.TileAt.{TileAt}
use Rattle.ice_base.specs.declared.bit.BitAt.{BitAt}
use Rattle.ice_base_values.specs.Order.{At, Has}
use Rattle.ice_chip.specs.Database.{Parts, SwitchGroup, SwitchRow}
use Rattle.ice_chip.specs.IsRead.{AreNumbered}
use Rattle.ice_chip.specs.Listings.{rows_of}
use Rattle.ice_chip_laws.specs.Groups.{HasRows}
use Rattle.ice_bits.specs.Configuration.{Bits}
use Rattle.ice_bits.specs.Settings.{row_on}
use Rattle.ice_decode.specs.declared.driver.Switch.{Switch}
use Rattle.ice_decode.specs.Drivers.{switch, switch_at, switch_on, switches_on, into, driver_among}
use Rattle.ice_bits_rows.specs.Bundles.{is_private}
use Rattle.ice_bits_rows.specs.Sound.{sets, is_alone}
use Rattle.ice_bits_rows.specs.WireNames.{has_strange_name}
use Rattle.ice_emit_rows_laws.specs.Wanted.{IsRowOf, sets_of, sets_switch, set_bits, AreWanted, AreNoGroups, IsWired}
use Rattle.ice_base_values.proofs.Members.{any_Has, Has_any, any_none}
use Rattle.ice_emit_rows_laws.proofs.Mapped.{Has_mapped_by}
use Rattle.ice_emit_rows_laws.proofs.SoundRows.{sets_parts, row_on_same, on_bit, on_row, private_apart, one_group, alone_else, alone_on}

-- ---- groups stand once
number_least : (n : ℕ) (gs : List SwitchGroup) (i : ℕ) (g : SwitchGroup) → AreNumbered n gs → At gs i g → n ≤ g.first
number_least n [] i g are at = cc at
number_least n (h ∷ gs) zero g are at = let same : h ≡ g = same_Some h g at in let e : h.first ≡ n = are.0 in let f : h.first ≡ g.first = ap (λ (x : SwitchGroup). x.first) same in omega arith
number_least n (h ∷ gs) (suc i) g are at = let ih : n + length h.rows ≤ g.first = number_least (n + length h.rows) gs i g are.1 at in omega arith

first_again : (n : ℕ) (h : SwitchGroup) (gs : List SwitchGroup) (j : ℕ) (g : SwitchGroup) → AreNumbered n (h ∷ gs) → 0 < length g.rows → h ≡ g → At gs j g → ⊥
first_again n h gs j g are some same b =
    let least : n + length h.rows ≤ g.first = number_least (n + length h.rows) gs j g are.1 b in
    let e : h.first ≡ n = are.0 in
    let f : h.first ≡ g.first = ap (λ (x : SwitchGroup). x.first) same in
    let l : length h.rows ≡ length g.rows = ap (λ (x : SwitchGroup). length x.rows) same in
    omega arith

pub group_once : (n : ℕ) (gs : List SwitchGroup) (i j : ℕ) (g : SwitchGroup) → AreNumbered n gs → 0 < length g.rows → At gs i g → At gs j g → i ≡ j
group_once n [] i j g are some a b = cc a
group_once n (h ∷ gs) zero zero g are some a b = refl
group_once n (h ∷ gs) (suc i) (suc j) g are some a b = ap suc (group_once (n + length h.rows) gs i j g are.1 some a b)
group_once n (h ∷ gs) zero (suc j) g are some a b = absurd (first_again n h gs j g are some (same_Some h g a) b)
group_once n (h ∷ gs) (suc i) zero g are some a b = absurd (first_again n h gs i g are some (same_Some h g b) a)

-- a switch by its parts
switch_same : (s u : Switch) → s.row.0 ≡ u.row.0 → s.tile ≡ u.tile → s.source.0 ≡ u.source.0 → s.target.0 ≡ u.target.0 → s ≡ u
switch_same s u r t so ta = λ i. record { row = record { 0 = r i }; tile = t i; source = record { 0 = so i }; target = record { 0 = ta i } }

-- a list of one
into_none : (w : ℕ) (bits : Bits) (gs : List SwitchGroup) → ((i : ℕ) (g : SwitchGroup) (s : Switch) → At gs i g → switch_on bits g ≡ Some s → s.target.0 ≡ w → ⊥) → into w (switches_on bits gs) ≡ []
into_none w bits [] never = refl
into_none w bits (g ∷ gs) never = by (switch_on bits g) refl (into_none w bits gs (λ i h s at. never (suc i) h s at))
  where
    keep : (s : Switch) (x : Bool) → eqb s.target.0 w ≡ x → (x ≡ true → ⊥) → (rest : List Switch) → into w rest ≡ [] → into w (s ∷ rest) ≡ []
    keep s true e not_here rest r = absurd (not_here refl)
    keep s false e not_here rest r = rw e r

    by : (o : Option Switch) → switch_on bits g ≡ o → into w (switches_on bits gs) ≡ [] → into w (switches_on bits (g ∷ gs)) ≡ []
    by None e rest = rw e rest
    by (Some s) e rest = rw e (keep s (eqb s.target.0 w) refl (λ f. never 0 g s refl e (eqb-true s.target.0 w f)) (switches_on bits gs) rest)

into_one : (w : ℕ) (bits : Bits) (gs : List SwitchGroup) (i : ℕ) (g : SwitchGroup) (s : Switch) → At gs i g → switch_on bits g ≡ Some s → s.target.0 ≡ w
    → ((j : ℕ) (h : SwitchGroup) (u : Switch) → At gs j h → switch_on bits h ≡ Some u → u.target.0 ≡ w → j ≡ i) → into w (switches_on bits gs) ≡ s ∷ []
into_one w bits [] i g s at on e only = cc at
into_one w bits (h ∷ gs) zero g s at on e only =
    let same : h ≡ g = same_Some h g at in
    let here : switch_on bits h ≡ Some s = ap (switch_on bits) same ∙ on in
    let rest = into_none w bits gs (λ i k u a o f. let n : suc i ≡ 0 = only (suc i) k u a o f in omega arith) in
    rw here (rw (eq-eqb s.target.0 w e) (ap (λ xs. s ∷ xs) rest))
into_one w bits (h ∷ gs) (suc i) g s at on e only = by (switch_on bits h) refl (into_one w bits gs i g s at on e (λ j k u a o f. let n : suc j ≡ suc i = only (suc j) k u a o f in omega arith))
  where
    keep : (u : Switch) (x : Bool) → eqb u.target.0 w ≡ x → (x ≡ true → ⊥) → (rest : List Switch) → into w rest ≡ s ∷ [] → into w (u ∷ rest) ≡ s ∷ []
    keep u true f not_here rest r = absurd (not_here refl)
    keep u false f not_here rest r = rw f r

    by : (o : Option Switch) → switch_on bits h ≡ o → into w (switches_on bits gs) ≡ s ∷ [] → into w (switches_on bits (h ∷ gs)) ≡ s ∷ []
    by None f rest = rw f rest
    by (Some u) f rest = rw f (keep u (eqb u.target.0 w) refl (λ t. let n : 0 ≡ suc i = only 0 h u refl f (eqb-true u.target.0 w t) in omega arith) (switches_on bits gs) rest)

module _ (parts : Parts) (rows : HasRows parts) (numbered : AreNumbered 0 parts.groups) (wanted : List Switch) (are : AreWanted parts wanted) (more : Bits) (low : AreNoGroups parts more) where
  abbrev bits : Bits
  bits = set_bits parts wanted more

  -- what a switch sets, by its row
  sets_is : (s : Switch) (g : SwitchGroup) (r : SwitchRow) → IsRowOf parts s g r → (t : TileAt) (b : BitAt) → sets_switch parts s t b ≡ sets g r t b
  sets_is s g r is t b =
      let at : At (rows_of parts.groups) (g.first + is.place) (g, r) = rows.numbered g is.place r is.in_groups is.in_rows in
      ap (λ o. sets_of o t b) (subst (λ n. At (rows_of parts.groups) n (g, r)) (sym is.number) at)

  record IsSoundRow (s : Switch) (g : SwitchGroup) (r : SwitchRow) : Type 0 where
    pub is : IsRowOf parts s g r
    pub private : is_private parts g.tile g.wire ≡ true
    pub alone : is_alone parts.groups g s.row.0 r ≡ true

  row_of : (s : Switch) → Has wanted s → (g : SwitchGroup) × (r : SwitchRow) × IsSoundRow s g r
  row_of s has =
      let got = are.rows s has in
      let one = and_parts (is_private parts got.0.tile got.0.wire && not (has_strange_name parts got.1.source)) (is_alone parts.groups got.0 s.row.0 got.1) got.3 in
      let two = and_parts (is_private parts got.0.tile got.0.wire) (not (has_strange_name parts got.1.source)) one.0 in
      (got.0, got.1, record { is = got.2; private = two.0; alone = one.1 })

  -- a switch that sets a bit of a group is of the group's bundle
  setter : (o : SwitchGroup) (b : BitAt) (s : Switch) (g : SwitchGroup) (r : SwitchRow) → Has parts.groups o → Has o.bits b → IsSoundRow s g r → sets_switch parts s o.tile b ≡ true → (o.tile ≡ g.tile) × (o.wire ≡ g.wire)
  setter o b s g r ho bo is set =
      let two = sets_parts g r o.tile b (sym (sets_is s g r is.is o.tile b) ∙ set) in
      (sym two.0, private_apart parts g g o b is.private is.is.in_groups refl refl two.1 ho (sym two.0) bo)

  -- in a wanted row's bundle the bits are what that row sets
  as_alone : (s : Switch) (g : SwitchGroup) (r : SwitchRow) → Has wanted s → IsSoundRow s g r → (o : SwitchGroup) → Has parts.groups o → o.tile ≡ g.tile → o.wire ≡ g.wire → row_on bits o ≡ row_on (sets g r) o
  as_alone s g r want is o ho to wo = row_on_same bits (sets g r) o (λ b bo.
      ap (λ x. list_any (λ u. sets_switch parts u o.tile b) wanted || x) (low.each o b ho bo)
      ∙ or_false (list_any (λ u. sets_switch parts u o.tile b) wanted)
      ∙ one b bo (cases_Bool (sets_switch parts s o.tile b))
      ∙ sets_is s g r is.is o.tile b)
    where
      or_false : (x : Bool) → (x || false) ≡ x
      or_false true = refl
      or_false false = refl

      one : (b : BitAt) → Has o.bits b → (sets_switch parts s o.tile b ≡ true) ⊎ (sets_switch parts s o.tile b ≡ false) → list_any (λ u. sets_switch parts u o.tile b) wanted ≡ sets_switch parts s o.tile b
      one b bo (inl e) = rw e (Has_any (λ u. sets_switch parts u o.tile b) wanted s want.0 want.1 e)
      one b bo (inr e) = rw e (any_none (λ u. sets_switch parts u o.tile b) wanted (λ u hu set.
          let got = row_of u hu in
          let same = setter o b u got.0 got.1 ho bo got.2 set in
          let target : s.target.0 ≡ u.target.0 = is.is.target ∙ sym wo ∙ same.1 ∙ sym got.2.is.target in
          let su : s ≡ u = are.apart s u want hu target in
          let f : sets_switch parts u o.tile b ≡ false = subst (λ (x : Switch). sets_switch parts x o.tile b ≡ false) su e in cc (f, set)))

  -- a wanted row is on
  on_wanted : (s : Switch) (g : SwitchGroup) (r : SwitchRow) → Has wanted s → IsSoundRow s g r → row_on bits g ≡ Some s.row.0
  on_wanted s g r want is =
      as_alone s g r want is g is.is.in_groups refl refl
      ∙ alone_on parts rows g r is.is.place s.row.0 is.is.in_groups is.is.in_rows is.is.number is.alone

  -- and no other is
  wanted_on : (o : SwitchGroup) (m : ℕ) → Has parts.groups o → row_on bits o ≡ Some m → (s : Switch) × Has wanted s × (s.row.0 ≡ m) × ((g : SwitchGroup) × (r : SwitchRow) × IsSoundRow s g r)
  wanted_on o m ho on =
      let bit = on_bit bits o m on in
      let off : more o.tile bit.0 ≡ false = low.each o bit.0 ho bit.1 in
      let some : list_any (λ u. sets_switch parts u o.tile bit.0) wanted ≡ true = elim (or_cases (list_any (λ u. sets_switch parts u o.tile bit.0) wanted) (more o.tile bit.0) bit.2) [ inl e ↦ e | inr e ↦ absurd (cc (off, e)) ] in
      let by = any_Has (λ u. sets_switch parts u o.tile bit.0) wanted some in
      let got = row_of by.0 by.1 in
      let same = setter o bit.0 by.0 got.0 got.1 ho bit.1 got.2 by.2 in
      let there = sym (as_alone by.0 got.0 got.1 by.1 got.2 o ho same.0 same.1) ∙ on in
      let e : m ≡ by.0.row.0 = alone_else parts rows got.0 got.1 got.2.is.place by.0.row.0 got.2.is.in_groups got.2.is.in_rows got.2.is.number got.2.alone o m ho same.0 same.1 there in
      (by.0, by.1, sym e, got)

  -- the switch of a wanted row's group
  switch_wanted : (s : Switch) (g : SwitchGroup) (r : SwitchRow) → Has wanted s → IsSoundRow s g r → switch_on bits g ≡ Some s
  switch_wanted s g r want is =
      let place : (g.first + is.is.place) - g.first ≡ is.is.place = omega arith in
      let row : slice_get g.rows (s.row.0 - g.first) ≡ Some r = subst (λ n. slice_get g.rows (n - g.first) ≡ Some r) (sym is.is.number) (subst (λ n. slice_get g.rows n ≡ Some r) (sym place) is.is.in_rows) in
      ap (option_and_then (switch_at g)) (on_wanted s g r want is)
      ∙ ap (option_map (switch g s.row.0)) row
      ∙ ap Some (switch_same (switch g s.row.0 r) s refl (sym is.is.tile) (sym is.is.source) (sym is.is.target))

  -- a switch that is on in a group is wanted
  switch_found : (o : SwitchGroup) (u : Switch) → Has parts.groups o → switch_on bits o ≡ Some u → Has wanted u × ((g : SwitchGroup) × (r : SwitchRow) × IsSoundRow u g r × (o ≡ g))
  switch_found o u ho on = by (row_on bits o) refl on
    where
      by : (x : Option ℕ) → row_on bits o ≡ x → option_and_then (switch_at o) x ≡ Some u → Has wanted u × ((g : SwitchGroup) × (r : SwitchRow) × IsSoundRow u g r × (o ≡ g))
      by None e f = cc f
      by (Some m) e f =
          let got = wanted_on o m ho e in
          let of = got.3 in
          let row = on_row bits o m e in
          let same = one_group parts rows of.0 o of.1 row.1 of.2.is.place row.0 m of.2.is.in_groups of.2.is.in_rows (sym got.2 ∙ of.2.is.number) ho row.2 row.3 in
          let there : switch_on bits o ≡ Some got.0 = ap (switch_on bits) same.0 ∙ switch_wanted got.0 of.0 of.1 got.1 of.2 in
          let su : got.0 ≡ u = same_Some got.0 u (sym there ∙ on) in
          (subst (λ (x : Switch). Has wanted x) su got.1, (of.0, of.1, subst (λ (x : Switch). IsSoundRow x of.0 of.1) su of.2, same.0))

  some_rows : (g : SwitchGroup) (k : ℕ) (r : SwitchRow) → At g.rows k r → 0 < length g.rows
  some_rows g k r at = by g.rows k at
    where
      by : (rs : List SwitchRow) (k : ℕ) → At rs k r → 0 < length rs
      by [] k at = cc at
      by (x ∷ rs) k at = omega arith

  pub wired : IsWired parts bits wanted
  wired = record {
    entered = λ s want.
        let got = row_of s want in
        let on = switch_wanted s got.0 got.1 want got.2 in
        ap driver_among (into_one s.target.0 bits parts.groups got.2.is.in_groups.0 got.0 s got.2.is.in_groups.1 on refl (λ j h u at o e.
        let found = switch_found h u (j, at) o in
        let su : u ≡ s = are.apart u s found.0 want e in
        let n : u.row.0 ≡ s.row.0 = ap (λ (x : Switch). x.row.0) su in
        let of = found.1 in
        let same = one_group parts rows got.0 of.0 got.1 of.1 got.2.is.place of.2.is.place s.row.0 got.2.is.in_groups got.2.is.in_rows got.2.is.number of.2.is.in_groups of.2.is.in_rows (sym n ∙ of.2.is.number) in
        let hg : h ≡ got.0 = of.3 ∙ same.0 in
        group_once 0 parts.groups j got.2.is.in_groups.0 got.0 numbered (some_rows got.0 got.2.is.place got.1 got.2.is.in_rows) (subst (λ (x : SwitchGroup). At parts.groups j x) hg at) got.2.is.in_groups.1));
    bare = λ w never. ap driver_among (into_none w bits parts.groups (λ i g s at on e. never s (switch_found g s (i, at) on).0 e));
    on = λ s has. let got = Has_mapped_by (switch_on bits) parts.groups s has in (switch_found got.0 s got.1 got.2).0;
  }
