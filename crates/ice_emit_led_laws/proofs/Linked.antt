-- The links of a placed design: sound rows that bring carries to last inputs, and into tiles.
use Rattle.std.proofs.Common.{◌≡◌, ◌⊎◌, ℕ, zero, suc, ◌+◌, ◌*◌, ◌/◌, ◌%◌, ◌<◌, Bool, true, false, cond, Option, None, Some, List, [], ◌∷◌, inl, inr, length, refl, sym, ap, ◌∙◌, subst, true≢false, add-one, arith}
use Rattle.std.specs.Prelude.{◌==◌, ◌&&◌}
use Rattle.std.specs.Option.{option_and_then, option_map_or}
use Rattle.std.proofs.lemmas.Bool.{and_parts}
use Rattle.std.proofs.lemmas.Option.{none-some, same_Some, slice_get_within, get_or_from_slice_get}
use Rattle.ice_base.specs.declared.number.TileAt.{TileAt}
use Rattle.ice_base.proofs.Keys.{nat_same, nat_self}
use Rattle.ice_base.proofs.Options.{and_then_some}
use Rattle.ice_base_values.specs.Order.{At, Has}
use Rattle.ice_base_values.proofs.Members.{Has_none, Has_cases, filter_Has, At_map}
use Rattle.ice_base_values.proofs.Together.{Has_head, Has_tail}
use Rattle.ice_chip.specs.Database.{Parts, PackageRows, SwitchGroup, SwitchRow}
use Rattle.ice_chip.specs.Lookups.{wire_named}
use Rattle.ice_chip.specs.Names.{input_name}
use Rattle.ice_chip.specs.WireNames.{carry_out_name, carry_in_name, first_carry_name}
use Rattle.ice_chip_laws.specs.Groups.{HasRows}
use Rattle.ice_decode.specs.declared.driver.Switch.{Switch}
use Rattle.ice_decode.specs.Drivers.{switch}
use Rattle.ice_decode.proofs.Members.{Has_left, Has_right, Has_append_cases}
use Rattle.ice_bits_rows.specs.Alone.{either}
use Rattle.ice_bits_rows.specs.Bundles.{groups_into}
use Rattle.ice_bits_rows.specs.FirstSound.{first_of, first_among, first_sound}
use Rattle.ice_bits_rows.specs.Sound.{is_sound}
use Rattle.ice_cells.specs.declared.cell.LogicCell.{LogicCell}
use Rattle.ice_cluster.specs.Chunks.{HoldsChunk}
use Rattle.ice_cells.specs.declared.cluster.Cluster.{Cluster}
use Rattle.ice_sites.specs.Site.{leads, is_same_wire, is_above, is_link}
use Rattle.ice_sites.specs.Legal.{is_next, chunk_of, tile_at}
use Rattle.ice_place.specs.Place.{chunks_of}
use Rattle.ice_place_defs.specs.Plan.{Plan}
use Rattle.ice_place_defs.specs.Loads.{slot_gives, slots_give}
use Rattle.ice_emit_rows_laws.specs.Wanted.{IsRowOf}
use Rattle.ice_emit_defs.specs.Led.{IsLinked}
use Rattle.ice_emit_defs.specs.Links.{switch_numbered, listed, link_row, link_into, link, carry_source, cell_links, chunk_links, cluster_links, all_links}
use Rattle.ice_emit_defs.specs.Slots.{IsOn, StandsIn}
use Rattle.ice_emit_led_laws.specs.Trees.{IsOnChip}
use Rattle.ice_emit_led_laws.proofs.Edges.{numbered_switch}
use Rattle.ice_emit_led_laws.proofs.Ends.{slot_given}
use Rattle.ice_emit_led_laws.proofs.Places.{tile_is, on_site, slot_below, tile_of_cluster, some_of}
use Rattle.ice_emit_led_laws.proofs.Roots.{at_below}

-- ---- the first sound row
sound_told : (parts : Parts) (source : ℕ) (g : SwitchGroup) (n : ℕ) (rows : List SwitchRow) (m : ℕ) → first_of parts source g n rows ≡ Some m
    → (k : ℕ) × (r : SwitchRow) × At rows k r × (m ≡ n + k) × (r.source ≡ source) × (is_sound parts g m r ≡ true)
sound_told parts source g n [] m e = absurd (none-some m e)
sound_told parts source g n (r ∷ rows) m e = by ((r.source == source) && is_sound parts g n r) refl e (sound_told parts source g (n + 1) rows m)
  where
    by : (b : Bool) → ((r.source == source) && is_sound parts g n r) ≡ b → cond b (Some n) (first_of parts source g (n + 1) rows) ≡ Some m
        → (first_of parts source g (n + 1) rows ≡ Some m → (k : ℕ) × (q : SwitchRow) × At rows k q × (m ≡ n + 1 + k) × (q.source ≡ source) × (is_sound parts g m q ≡ true))
        → (k : ℕ) × (q : SwitchRow) × At (r ∷ rows) k q × (m ≡ n + k) × (q.source ≡ source) × (is_sound parts g m q ≡ true)
    by true is f later =
        let two = and_parts (r.source == source) (is_sound parts g n r) is in
        let same : n ≡ m = same_Some n m f in
        (0, r, refl, (let e : m ≡ n + 0 = omega (arith, same) in e), nat_same r.source source two.0, subst (λ (k : ℕ). is_sound parts g k r ≡ true) same two.1)
    by false is f later = let got = later f in (suc got.0, got.1, got.2, (let same : m ≡ n + 1 + got.0 = got.3 in let e : m ≡ n + suc got.0 = omega (arith, same) in e), got.4, got.5)

among_told : (parts : Parts) (source : ℕ) (groups : List SwitchGroup) (m : ℕ) → first_among parts source groups ≡ Some m
    → (g : SwitchGroup) × Has groups g × ((k : ℕ) × (r : SwitchRow) × At g.rows k r × (m ≡ g.first + k) × (r.source ≡ source) × (is_sound parts g m r ≡ true))
among_told parts source [] m e = absurd (none-some m e)
among_told parts source (g ∷ groups) m e = by (first_of parts source g g.first g.rows) refl e (among_told parts source groups m)
  where
    by : (o : Option ℕ) → first_of parts source g g.first g.rows ≡ o → either o (first_among parts source groups) ≡ Some m
        → (first_among parts source groups ≡ Some m → (h : SwitchGroup) × Has groups h × ((k : ℕ) × (r : SwitchRow) × At h.rows k r × (m ≡ h.first + k) × (r.source ≡ source) × (is_sound parts h m r ≡ true)))
        → (h : SwitchGroup) × Has (g ∷ groups) h × ((k : ℕ) × (r : SwitchRow) × At h.rows k r × (m ≡ h.first + k) × (r.source ≡ source) × (is_sound parts h m r ≡ true))
    by None is f later = let got = later f in (got.0, Has_tail g got.0 groups got.1, got.2)
    by (Some n) is f later = (g, Has_head g groups, sound_told parts source g g.first g.rows m (is ∙ f))

listed_told : (o : Option Switch) (s : Switch) → Has (listed o) s → o ≡ Some s
listed_told None s h = absurd (Has_none s h)
listed_told (Some x) s h = elim (Has_cases x s [] h) [ inl same ↦ ap (λ (y : Switch). Some y) same | inr none ↦ absurd (Has_none s none) ]

-- a sound row leads from the one wire to the other, and the switch is this row
pub record IsSoundLink (parts : Parts) (source target : ℕ) (s : Switch) : Type 0 where
  pub group : SwitchGroup
  pub row_in : SwitchRow
  pub is_row : IsRowOf parts s group row_in
  pub sound : is_sound parts group s.row.0 row_in ≡ true
  pub from : s.source.0 ≡ source
  pub to : s.target.0 ≡ target

module _ (parts : Parts) (numbers : HasRows parts) where
  sound_link : (source target n : ℕ) → first_sound parts source target ≡ Some n → (s : Switch) × (switch_numbered parts n ≡ Some s) × IsSoundLink parts source target s
  sound_link source target n e =
      let got = among_told parts source (groups_into parts.groups target) n e in
      let g : SwitchGroup = got.0 in
      let into = filter_Has (λ (h : SwitchGroup). h.wire == target) parts.groups g got.1 in
      let r : SwitchRow = got.2.1 in
      let number : n ≡ g.first + got.2.0 = got.2.3 in (
        switch g n r,
        subst (λ (k : ℕ). switch_numbered parts k ≡ Some (switch g k r)) (sym number) (numbered_switch parts numbers g got.2.0 r into.0 got.2.2),
        record {
          group = g;
          row_in = r;
          is_row = record { in_groups = into.0; place = got.2.0; in_rows = got.2.2; number = number; tile = refl; source = refl; target = refl };
          sound = got.2.5;
          from = got.2.4;
          to = nat_same g.wire target into.1;
        },
      )

  -- what a link is
  pub link_told : (source target : Option ℕ) (s : Switch) → Has (link parts source target) s → (v : ℕ) × (w : ℕ) × (source ≡ Some v) × (target ≡ Some w) × IsSoundLink parts v w s
  link_told source target s has =
      let to = and_then_some (link_into parts source) target s (listed_told (option_and_then (link_into parts source) target) s has) in
      let from = and_then_some (link_row parts to.0) source s to.2 in
      let row = and_then_some (switch_numbered parts) (first_sound parts from.0 to.0) s from.2 in
      let got = sound_link from.0 to.0 row.0 row.1 in
      (from.0, to.0, from.1, to.1, subst (IsSoundLink parts from.0 to.0) (same_Some got.0 s (sym got.1 ∙ row.2)) got.2)

  -- where a sound row leads from wire to wire, there is a link
  pub link_there : (source target : Option ℕ) → leads parts source target ≡ true → (s : Switch) × Has (link parts source target) s
  link_there None target e = absurd (true≢false (sym e))
  link_there (Some v) None e = absurd (true≢false (sym e))
  link_there (Some v) (Some w) e =
      let n = some_of (first_sound parts v w) e in
      let got = sound_link v w n.0 n.1 in
      let is : option_and_then (switch_numbered parts) (first_sound parts v w) ≡ Some got.0 = ap (option_and_then (switch_numbered parts)) n.1 ∙ got.1 in
      (got.0, subst (λ (o : Option Switch). Has (listed o) got.0) (sym is) (0, refl))

-- ---- links of clusters
slot_on : {A : Type 0} (of_cell : TileAt → ℕ → LogicCell → List A) (cells : List LogicCell) (t : TileAt) (i : ℕ) (slots : List (Option ℕ)) (k c : ℕ) (cell : LogicCell) (x : A) → At slots k (Some c) → At cells c cell
    → Has (of_cell t (i + k) cell) x → Has (slots_give of_cell cells t i slots) x
slot_on of_cell cells t i [] k c cell x slot at has = absurd (none-some (Some c) slot)
slot_on {A} of_cell cells t i (o ∷ slots) zero c cell x slot at has =
    let same : o ≡ Some c = same_Some o (Some c) slot in
    let number : i + 0 ≡ i = omega arith in
    let here : slot_gives of_cell cells t i o ≡ of_cell t i cell = ap (slot_gives of_cell cells t i) same ∙ ap (λ (y : Option LogicCell). option_map_or (of_cell t i) y []) at in
    Has_left (slot_gives of_cell cells t i o) (slots_give of_cell cells t (i + 1) slots) x (subst (λ (xs : List A). Has xs x) (sym here) (subst (λ (n : ℕ). Has (of_cell t n cell) x) number has))
slot_on of_cell cells t i (o ∷ slots) (suc k) c cell x slot at has =
    let number : i + suc k ≡ i + 1 + k = omega arith in
    Has_right (slot_gives of_cell cells t i o) (slots_give of_cell cells t (i + 1) slots) x (slot_on of_cell cells t (i + 1) slots k c cell x slot at (subst (λ (n : ℕ). Has (of_cell t n cell) x) number has))

links_on : (parts : Parts) (cells : List LogicCell) (at : List TileAt) (clusters : List Cluster) (n : ℕ) (t : TileAt) (cluster : Cluster) (s : Switch) → At at n t → At clusters n cluster
    → Has (cluster_links parts cells t cluster) s → Has (all_links parts cells at clusters) s
links_on parts cells [] clusters n t cluster s at_t at_cluster has = absurd (none-some t at_t)
links_on parts cells (u ∷ at) [] n t cluster s at_t at_cluster has = absurd (none-some cluster at_cluster)
links_on parts cells (u ∷ at) (x ∷ clusters) zero t cluster s at_t at_cluster has =
    Has_left (cluster_links parts cells u x) (all_links parts cells at clusters) s
    (subst (λ (v : TileAt). Has (cluster_links parts cells v x) s) (sym (same_Some u t at_t)) (subst (λ (y : Cluster). Has (cluster_links parts cells t y) s) (sym (same_Some x cluster at_cluster)) has))
links_on parts cells (u ∷ at) (x ∷ clusters) (suc n) t cluster s at_t at_cluster has =
    Has_right (cluster_links parts cells u x) (all_links parts cells at clusters) s (links_on parts cells at clusters n t cluster s at_t at_cluster has)

links_told : (parts : Parts) (cells : List LogicCell) (at : List TileAt) (clusters : List Cluster) (s : Switch) → Has (all_links parts cells at clusters) s
    → (n : ℕ) × (t : TileAt) × (cluster : Cluster) × At at n t × At clusters n cluster × Has (cluster_links parts cells t cluster) s
links_told parts cells [] clusters s has = absurd (Has_none s has)
links_told parts cells (t ∷ at) [] s has = absurd (Has_none s has)
links_told parts cells (t ∷ at) (cluster ∷ clusters) s has = elim (Has_append_cases (cluster_links parts cells t cluster) (all_links parts cells at clusters) s has) [
  | inl here ↦ (0, t, cluster, refl, refl, here)
  | inr there ↦ let got = links_told parts cells at clusters s there in (suc got.0, got.1, got.2, got.3, got.4, got.5)
]

-- the wires are there, and they are the same
same_wire_told : (a b : Option ℕ) → is_same_wire a b ≡ true → (v : ℕ) × (a ≡ Some v) × (b ≡ Some v)
same_wire_told None b e = absurd (true≢false (sym e))
same_wire_told (Some v) None e = absurd (true≢false (sym e))
same_wire_told (Some v) (Some w) e = (v, refl, ap (λ (n : ℕ). Some n) (sym (nat_same v w e)))

-- what a link of two tiles says
link_parts : (parts : Parts) (low high : TileAt) → is_link parts low high ≡ true
    → (v : ℕ) × (wire_named parts low (carry_out_name 7) ≡ Some v) × (wire_named parts high carry_in_name ≡ Some v) × (leads parts (wire_named parts high carry_in_name) (wire_named parts high first_carry_name) ≡ true)
link_parts parts low high e =
    let two = and_parts (is_above low high && is_same_wire (wire_named parts high carry_in_name) (wire_named parts low (carry_out_name 7))) (leads parts (wire_named parts high carry_in_name) (wire_named parts high first_carry_name)) e in
    let wires = and_parts (is_above low high) (is_same_wire (wire_named parts high carry_in_name) (wire_named parts low (carry_out_name 7))) two.0 in
    let same = same_wire_told (wire_named parts high carry_in_name) (wire_named parts low (carry_out_name 7)) wires.1 in
    (same.0, same.2, same.1, two.1)

both_so : (a b : Bool) → a ≡ true → b ≡ true → (a && b) ≡ true
both_so true b e f = f
both_so false b e f = e

next_chunk : (r k : ℕ) → is_next (Some (r, k)) (Some (r, suc k)) ≡ true
next_chunk r k = both_so (r == r) (k + 1 == suc k) (nat_self r) (ap (λ (n : ℕ). n == suc k) (add-one k) ∙ nat_self (suc k))

eighth : (k : ℕ) → 8 * k / 8 ≡ k
eighth k = omega arith

-- a link into the last input of a cell
pub record IsCellLink (parts : Parts) (plan : Plan) (s : Switch) : Type 0 where
  pub tile : TileAt
  pub place : ℕ
  pub number : ℕ
  pub cell : LogicCell
  pub stands : StandsIn plan tile place number cell
  pub chained : cell.carry_to_in3 ≡ true
  pub from : carry_source parts tile place ≡ Some s.source.0
  pub to : wire_named parts tile (input_name place 3) ≡ Some s.target.0

-- a link into the first cell of a tile
pub record IsChunkLink (parts : Parts) (plan : Plan) (s : Switch) : Type 0 where
  pub tile : TileAt
  pub cluster : Cluster
  pub on : IsOn plan tile cluster
  pub run : ℕ
  pub chunk : ℕ
  pub run_is : cluster.run ≡ Some (run, suc chunk)
  pub from : wire_named parts tile carry_in_name ≡ Some s.source.0
  pub to : wire_named parts tile first_carry_name ≡ Some s.target.0

-- what is known of each link: it is the first sound row from its source to its target
pub record IsFirst (parts : Parts) (s : Switch) : Type 0 where
  pub group : SwitchGroup
  pub row_in : SwitchRow
  pub is_row : IsRowOf parts s group row_in
  pub sound : is_sound parts group s.row.0 row_in ≡ true
  pub first : option_and_then (switch_numbered parts) (first_sound parts s.source.0 s.target.0) ≡ Some s

-- the tile below that of a run's later chunk
pub record IsBelow (parts : Parts) (plan : Plan) (t : TileAt) (r k : ℕ) : Type 0 where
  pub low : TileAt
  pub below : Cluster
  pub on : IsOn plan low below
  pub run_is : below.run ≡ Some (r, k)
  pub wire : ℕ
  pub out : wire_named parts low (carry_out_name 7) ≡ Some wire
  pub into : wire_named parts t carry_in_name ≡ Some wire
  pub leads_on : leads parts (wire_named parts t carry_in_name) (wire_named parts t first_carry_name) ≡ true

module _ (parts : Parts) (rows : PackageRows) (plan : Plan) (pullups : List Bool) (on : IsOnChip parts rows plan pullups) where
  -- ---- the chunk before
  chunk_is : (n : ℕ) (cluster : Cluster) → At plan.clusters n cluster → chunk_of (chunks_of plan.clusters) n ≡ cluster.run
  chunk_is n cluster at = get_or_from_slice_get (chunks_of plan.clusters) n cluster.run None (At_map (λ (c : Cluster). c.run) plan.clusters n cluster at)

  linked_tiles : (n m r k : ℕ) (a b : Cluster) (low t : TileAt) → At plan.clusters n a → At plan.clusters m b → At plan.at n low → At plan.at m t → a.run ≡ Some (r, k) → b.run ≡ Some (r, suc k) → is_link parts low t ≡ true
  linked_tiles n m r k a b low t at_a at_b at_low at_t run_a run_b =
      let next : is_next (chunk_of (chunks_of plan.clusters) n) (chunk_of (chunks_of plan.clusters) m) ≡ true =
      ap (λ (o : Option (ℕ × ℕ)). is_next o (chunk_of (chunks_of plan.clusters) m)) (chunk_is n a at_a ∙ run_a) ∙ ap (λ (o : Option (ℕ × ℕ)). is_next (Some (r, k)) o) (chunk_is m b at_b ∙ run_b) ∙ next_chunk r k in
      let linked = on.placed.legal.linked n m (slice_get_within plan.at n low at_low) (slice_get_within plan.at m t at_t) next in
      subst (λ (u : TileAt). is_link parts low u ≡ true) (tile_is parts rows plan pullups on m t at_t)
      (subst (λ (u : TileAt). is_link parts u (tile_at plan.at m) ≡ true) (tile_is parts rows plan pullups on n low at_low) linked)

  pub tile_below : (t : TileAt) (cluster : Cluster) (r k : ℕ) → IsOn plan t cluster → cluster.run ≡ Some (r, suc k) → IsBelow parts plan t r k
  tile_below t cluster r k is e = by (on.chunks.there r (8 * k) c.0 holds.run holds.run_is c.1)
    where
      holds : HoldsChunk plan.design cluster r (suc k)
      holds = on.chunks.holds is.number r (suc k) cluster is.cluster_is e

      c : (c : ℕ) × At holds.run.cells (8 * k) c
      c = at_below holds.run.cells (8 * k) (let lt : 8 * suc k < length holds.run.cells = holds.some in omega (arith, lt))

      by : (n : ℕ) × (below : Cluster) × At plan.clusters n below × (below.run ≡ Some (r, 8 * k / 8)) × At below.cells (8 * k % 8) (Some c.0) → IsBelow parts plan t r k
      by (n, below, below_is, run, slot) =
          let run_is : below.run ≡ Some (r, k) = run ∙ ap (λ (j : ℕ). Some (r, j)) (eighth k) in
          let low = tile_of_cluster parts rows plan pullups on n below below_is in
          let link = link_parts parts low.0 t (linked_tiles n is.number r k below cluster low.0 t below_is is.cluster_is low.1 is.tile_is run_is e) in
          record { low = low.0; below = below; on = record { number = n; cluster_is = below_is; tile_is = low.1 }; run_is = run_is; wire = link.0; out = link.1; into = link.2; leads_on = link.3 }

  -- ---- what each link is
  first_is : (source target : Option ℕ) (s : Switch) → Has (link parts source target) s → (source ≡ Some s.source.0) × (target ≡ Some s.target.0) × IsFirst parts s
  first_is source target s has =
      let got = link_told parts on.lawful.rows source target s has in
      let l = got.4 in
      let from : source ≡ Some s.source.0 = got.2 ∙ ap (λ (n : ℕ). Some n) (sym l.from) in
      let to : target ≡ Some s.target.0 = got.3 ∙ ap (λ (n : ℕ). Some n) (sym l.to) in
      let here : Has (link parts (Some s.source.0) (Some s.target.0)) s = subst (λ (o : Option ℕ). Has (link parts o (Some s.target.0)) s) from (subst (λ (o : Option ℕ). Has (link parts source o) s) to has) in
      (from, to, record { group = l.group; row_in = l.row_in; is_row = l.is_row; sound = l.sound; first = listed_told (link_row parts s.target.0 s.source.0) s here })

  pub link_is : (s : Switch) → Has (all_links parts plan.design.cells plan.at plan.clusters) s → (IsCellLink parts plan s ⊎ IsChunkLink parts plan s) × IsFirst parts s
  link_is s has =
      let got = links_told parts plan.design.cells plan.at plan.clusters s has in
      let is : IsOn plan got.1 got.2 = record { number = got.0; cluster_is = got.4; tile_is = got.3 } in
      elim (Has_append_cases (slots_give (cell_links parts) plan.design.cells got.1 0 got.2.cells) (chunk_links parts got.1 got.2.run) s got.5) [
        | inl cell ↦ (
            let slot = slot_given (cell_links parts) plan.design.cells got.1 0 got.2.cells s cell in
            let here : 0 + slot.0 ≡ slot.0 = omega arith in
            of_cell got.1 slot.0 slot.1 slot.2 (record { cluster = got.2; on = is; slot = slot.3; cell_is = slot.4 }) (slot.2.carry_to_in3) refl (subst (λ (n : ℕ). Has (cell_links parts got.1 n slot.2) s) here slot.5))
        | inr chunk ↦ of_chunk got.1 got.2 is got.2.run refl chunk
      ]
    where
      of_cell : (t : TileAt) (i c : ℕ) (cell : LogicCell) → StandsIn plan t i c cell → (b : Bool) → cell.carry_to_in3 ≡ b → Has (cond b (link parts (carry_source parts t i) (wire_named parts t (input_name i 3))) []) s
          → (IsCellLink parts plan s ⊎ IsChunkLink parts plan s) × IsFirst parts s
      of_cell t i c cell stands false is h = absurd (Has_none s h)
      of_cell t i c cell stands true is h =
          let f = first_is (carry_source parts t i) (wire_named parts t (input_name i 3)) s h in
          (inl (record { tile = t; place = i; number = c; cell = cell; stands = stands; chained = is; from = f.0; to = f.1 }), f.2)

      of_chunk : (t : TileAt) (cluster : Cluster) → IsOn plan t cluster → (o : Option (ℕ × ℕ)) → cluster.run ≡ o → Has (chunk_links parts t o) s → (IsCellLink parts plan s ⊎ IsChunkLink parts plan s) × IsFirst parts s
      of_chunk t cluster is None e h = absurd (Has_none s h)
      of_chunk t cluster is (Some (r, zero)) e h = absurd (Has_none s h)
      of_chunk t cluster is (Some (r, suc k)) e h =
          let f = first_is (wire_named parts t carry_in_name) (wire_named parts t first_carry_name) s h in
          (inr (record { tile = t; cluster = cluster; on = is; run = r; chunk = k; run_is = e; from = f.0; to = f.1 }), f.2)

  -- ---- where links have to be, they are
  cell_leads : (t : TileAt) (i c : ℕ) (cell : LogicCell) → StandsIn plan t i c cell → leads parts (carry_source parts t i) (wire_named parts t (input_name i 3)) ≡ true
  cell_leads t zero c cell s = (on_site parts rows plan pullups on t s.cluster s.on).entry
  cell_leads t (suc j) c cell s =
      let lt = slot_below parts rows plan pullups on t (suc j) c cell s in
      subst (λ (n : ℕ). leads parts (wire_named parts t (carry_out_name j)) (wire_named parts t (input_name n 3)) ≡ true) (add-one j)
      ((on_site parts rows plan pullups on t s.cluster s.on).chain j (omega (arith, lt)))

  pub cell_link : (t : TileAt) (i c : ℕ) (cell : LogicCell) → StandsIn plan t i c cell → cell.carry_to_in3 ≡ true
      → IsLinked (all_links parts plan.design.cells plan.at plan.clusters) (carry_source parts t i) (wire_named parts t (input_name i 3))
  cell_link t i c cell stands chained =
      let got = link_there parts on.lawful.rows (carry_source parts t i) (wire_named parts t (input_name i 3)) (cell_leads t i c cell stands) in
      let f = first_is (carry_source parts t i) (wire_named parts t (input_name i 3)) got.0 got.1 in
      let here : Has (cell_links parts t i cell) got.0 = subst (λ (b : Bool). Has (cond b (link parts (carry_source parts t i) (wire_named parts t (input_name i 3))) []) got.0) (sym chained) got.1 in
      let number : i ≡ 0 + i = omega arith in
      let slots : Has (slots_give (cell_links parts) plan.design.cells t 0 stands.cluster.cells) got.0 =
      slot_on (cell_links parts) plan.design.cells t 0 stands.cluster.cells i c cell got.0 stands.slot stands.cell_is (subst (λ (n : ℕ). Has (cell_links parts t n cell) got.0) number here) in
      let all = Has_left (slots_give (cell_links parts) plan.design.cells t 0 stands.cluster.cells) (chunk_links parts t stands.cluster.run) got.0 slots in
      (got.0, links_on parts plan.design.cells plan.at plan.clusters stands.on.number t stands.cluster got.0 stands.on.tile_is stands.on.cluster_is all, f.0, f.1)

  pub chunk_link : (t : TileAt) (cluster : Cluster) (r k : ℕ) (is : IsOn plan t cluster) (e : cluster.run ≡ Some (r, suc k))
      → IsLinked (all_links parts plan.design.cells plan.at plan.clusters) (wire_named parts t carry_in_name) (wire_named parts t first_carry_name)
  chunk_link t cluster r k is e =
      let below = tile_below t cluster r k is e in
      let got = link_there parts on.lawful.rows (wire_named parts t carry_in_name) (wire_named parts t first_carry_name) below.leads_on in
      let f = first_is (wire_named parts t carry_in_name) (wire_named parts t first_carry_name) got.0 got.1 in
      let here : Has (chunk_links parts t cluster.run) got.0 = subst (λ (o : Option (ℕ × ℕ)). Has (chunk_links parts t o) got.0) (sym e) got.1 in
      let all = Has_right (slots_give (cell_links parts) plan.design.cells t 0 cluster.cells) (chunk_links parts t cluster.run) got.0 here in
      (got.0, links_on parts plan.design.cells plan.at plan.clusters is.number t cluster got.0 is.tile_is is.cluster_is all, f.0, f.1)
