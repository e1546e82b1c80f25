-- Where the clusters, cells and ports of a placed design stand.
use Rattle.std.proofs.Common.{◌≡◌, ◌⊎◌, ℕ, zero, suc, ◌<◌, Bool, true, false, cond, Option, None, Some, List, [], ◌∷◌, ◌++◌, inl, inr, length, is_some, refl, sym, ap, ◌∙◌, subst, true≢false, arith}
use Rattle.std.specs.Prelude.{◌&&◌, ◌||◌, map}
use Rattle.std.specs.List.{list_any}
use Rattle.std.proofs.lemmas.Bool.{and_parts, cases_lt, or_cases, or_left, or_right}
use Rattle.std.proofs.lemmas.List.{length-map}
use Rattle.std.proofs.lemmas.List.Folds.{list_any-append}
use Rattle.std.proofs.lemmas.Option.{same_Some, slice_get_within, get_or_from_slice_get, slice_get-get_or}
use Rattle.indexmap.specs.IndexSet.{insert_key, insert_all}
use Rattle.ice_base.specs.declared.number.TileAt.{TileAt}
use Rattle.ice_base.proofs.Booleans.{or_false}
use Rattle.ice_base_values.specs.Order.{At}
use Rattle.ice_base_values.proofs.Members.{Has_all, any_Has, map_Has}
use Rattle.ice_base_values.proofs.Places.{At_same}
use Rattle.ice_chip.specs.Database.{Parts, PackageRows, same_pad}
use Rattle.ice_chip.specs.Lookups.{kind_at}
use Rattle.ice_chip.specs.Within.{IsPad, IsPackage}
use Rattle.ice_chip.specs.declared.rows.Pad.{Pad}
use Rattle.ice_chip.specs.declared.rows.TileKind.{TileKind}
use Rattle.ice_chip.specs.declared.rows.TileKind.TheVariants.{Io, Logic, RamBottom, RamTop}
use Rattle.ice_chip.proofs.Keys.{pad_same}
use Rattle.ice_chip_sockets.specs.Pins.{IsRamPin}
use Rattle.ice_cells.specs.declared.cell.LogicCell.{LogicCell}
use Rattle.ice_cells.specs.declared.cluster.Cluster.{Cluster}
use Rattle.ice_sites.specs.Site.{is_logic, all_below, has_cell, has_chain, has_controls, has_entry, is_site}
use Rattle.ice_sites.specs.Legal.{tile_at}
use Rattle.ice_place_defs.specs.Plan.{Plan}
use Rattle.ice_emit_defs.specs.Slots.{IsOn, StandsIn}
use Rattle.ice_emit_led_laws.specs.Trees.{IsOnChip}
use Rattle.ice_emit_led_laws.proofs.Sockets.{pin_elsewhere}

-- ---- sites
last_or_less : (k n : ℕ) → k < suc n → (k ≡ n) ⊎ (k < n)
last_or_less k n lt = elim (cases_lt k n) [ inl less ↦ inr less | inr most ↦ inl (omega (arith, most, lt)) ]

below_of : (test : ℕ → Bool) (n k : ℕ) → all_below test n ≡ true → k < n → test k ≡ true
unfolding all_below
below_of test zero k e lt = absurd (omega arith)
below_of test (suc n) k e lt =
    let two = and_parts (all_below test n) (test n) e in
    elim (last_or_less k n lt) [ inl same ↦ ap test same ∙ two.1 | inr less ↦ below_of test n k two.0 less ]

logic_of : (o : Option TileKind) → is_logic o ≡ true → o ≡ Some Logic
logic_of None e = absurd (true≢false (sym e))
logic_of (Some Io) e = absurd (true≢false (sym e))
logic_of (Some Logic) e = refl
logic_of (Some RamBottom) e = absurd (true≢false (sym e))
logic_of (Some RamTop) e = absurd (true≢false (sym e))

pub some_of : {A : Type 0} (o : Option A) → is_some o ≡ true → (x : A) × (o ≡ Some x)
some_of None e = absurd (true≢false (sym e))
some_of (Some x) e = (x, refl)

-- what a site has
pub record IsSite (parts : Parts) (t : TileAt) : Type 0 where
  pub logic : kind_at parts t ≡ Some Logic
  pub cells : (i : ℕ) → i < 8 → has_cell parts t i ≡ true
  pub controls : has_controls parts t ≡ true
  pub entry : has_entry parts t ≡ true
  pub chain : (i : ℕ) → i < 7 → has_chain parts t i ≡ true

pub site_parts : (parts : Parts) (t : TileAt) → is_site parts t ≡ true → IsSite parts t
site_parts parts t e =
    let a = and_parts (is_logic (kind_at parts t) && all_below (has_cell parts t) 8 && has_controls parts t && has_entry parts t) (all_below (has_chain parts t) 7) e in
    let b = and_parts (is_logic (kind_at parts t) && all_below (has_cell parts t) 8 && has_controls parts t) (has_entry parts t) a.0 in
    let c = and_parts (is_logic (kind_at parts t) && all_below (has_cell parts t) 8) (has_controls parts t) b.0 in
    let d = and_parts (is_logic (kind_at parts t)) (all_below (has_cell parts t) 8) c.0 in
    record {
      logic = logic_of (kind_at parts t) d.0;
      cells = λ i lt. below_of (has_cell parts t) 8 i d.1 lt;
      controls = c.1;
      entry = b.1;
      chain = λ i lt. below_of (has_chain parts t) 7 i a.1 lt;
    }

-- ---- pads of packages
abbrev pin_pad : List ℕ × Pad → Pad
pin_pad pin = pin.1

one_more : (p : Pad → Bool) (ks : List Pad) (k : Pad) (b : Bool) → list_any p (cond b ks (ks ++ k ∷ [])) ≡ true → (list_any p ks ≡ true) ⊎ (p k ≡ true)
one_more p ks k true any = inl any
one_more p ks k false any = elim (or_cases (list_any p ks) (p k || false) (sym (list_any-append p ks (k ∷ [])) ∙ any)) [
  | inl old ↦ inl old
  | inr new ↦ inr (sym (or_false (p k)) ∙ new)
]

any_inserted : (p : Pad → Bool) (ks xs : List Pad) → list_any p (insert_all same_pad ks xs) ≡ true → (list_any p ks ≡ true) ⊎ (list_any p xs ≡ true)
any_inserted p ks [] any = inl any
any_inserted p ks (x ∷ xs) any = elim (any_inserted p (insert_key same_pad ks x) xs any) [
  | inl here ↦ elim (one_more p ks x (list_any (same_pad x) ks) here) [ inl old ↦ inl old | inr new ↦ inr (or_left (p x) (list_any p xs) new) ]
  | inr later ↦ inr (or_right (p x) (list_any p xs) later)
]

module _ (parts : Parts) (rows : PackageRows) (plan : Plan) (pullups : List Bool) (on : IsOnChip parts rows plan pullups) where
  -- ---- clusters on tiles
  pub tile_is : (n : ℕ) (t : TileAt) → At plan.at n t → tile_at plan.at n ≡ t
  tile_is n t at = get_or_from_slice_get plan.at n t (record { x = 0; y = 0 }) at

  pub on_site : (t : TileAt) (cluster : Cluster) → IsOn plan t cluster → IsSite parts t
  on_site t cluster is =
      site_parts parts t (ap (is_site parts) (sym (tile_is is.number t is.tile_is)) ∙ on.placed.legal.sites is.number (slice_get_within plan.at is.number t is.tile_is))

  pub logic_tile : (t : TileAt) (cluster : Cluster) → IsOn plan t cluster → kind_at parts t ≡ Some Logic
  logic_tile t cluster is = (on_site t cluster is).logic

  pub one_number : (t : TileAt) (a b : Cluster) (p : IsOn plan t a) (q : IsOn plan t b) → p.number ≡ q.number
  one_number t a b p q =
      on.placed.legal.apart p.number q.number (slice_get_within plan.at p.number t p.tile_is) (slice_get_within plan.at q.number t q.tile_is)
      (tile_is p.number t p.tile_is ∙ sym (tile_is q.number t q.tile_is))

  pub one_cluster : (t : TileAt) (a b : Cluster) → IsOn plan t a → IsOn plan t b → a ≡ b
  one_cluster t a b p q = At_same plan.clusters q.number a b (subst (λ (n : ℕ). At plan.clusters n a) (one_number t a b p q) p.cluster_is) q.cluster_is

  -- each cluster has a tile
  pub tile_of_cluster : (n : ℕ) (cluster : Cluster) → At plan.clusters n cluster → (t : TileAt) × At plan.at n t
  tile_of_cluster n cluster at =
      let lt : n < length plan.at = (let a = slice_get_within plan.clusters n cluster at in let b = on.placed.legal.counts in let c = length-map plan.clusters (λ (x : Cluster). x.run) in omega (arith, a, b, c)) in
      (tile_at plan.at n, slice_get-get_or plan.at n (record { x = 0; y = 0 }) lt)

  -- ---- cells in slots
  pub slot_below : (t : TileAt) (i c : ℕ) (cell : LogicCell) → StandsIn plan t i c cell → i < 8
  slot_below t i c cell s =
      let eight : length s.cluster.cells ≡ 8 = on.slots.eight s.on.number s.cluster s.on.cluster_is in
      let lt = slice_get_within s.cluster.cells i (Some c) s.slot in
      omega (arith, eight, lt)

  pub one_cell : (t : TileAt) (i c d : ℕ) (a b : LogicCell) → StandsIn plan t i c a → StandsIn plan t i d b → (c ≡ d) × (a ≡ b)
  one_cell t i c d a b p q =
      let clusters : p.cluster ≡ q.cluster = one_cluster t p.cluster q.cluster p.on q.on in
      let slots : Some c ≡ Some d = At_same q.cluster.cells i (Some c) (Some d) (subst (λ (x : Cluster). At x.cells i (Some c)) clusters p.slot) q.slot in
      let same : c ≡ d = same_Some c d slots in
      (same, At_same plan.design.cells d a b (subst (λ (n : ℕ). At plan.design.cells n a) same p.cell_is) q.cell_is)

  -- ---- the pads of a package
  package_pad : (pad : Pad) → list_any (same_pad pad) rows.pads ≡ true → pad.pio < 2
  package_pad pad bonded =
      let is = Has_all (IsPackage parts.width parts.height) parts.packages rows on.read.package_forms on.placed.«package» in
      let any = any_inserted (same_pad pad) [] (map pin_pad rows.pins) (ap (list_any (same_pad pad)) (sym is.pads) ∙ bonded) in
      by is any
    where
      by : IsPackage parts.width parts.height rows → (false ≡ true) ⊎ (list_any (same_pad pad) (map pin_pad rows.pins) ≡ true) → pad.pio < 2
      by is (inl none) = absurd (true≢false (sym none))
      by is (inr some) =
          let got = any_Has (same_pad pad) (map pin_pad rows.pins) some in
          let pin = map_Has pin_pad rows.pins got.0 got.1 in
          let one = Has_all (λ (x : List ℕ × Pad). IsPad parts.width parts.height x.1) rows.pins pin.0 is.pins pin.1 in
          let same : pad ≡ pin.0.1 = pad_same pad got.0 got.2 ∙ sym pin.2 in
          subst (λ (x : Pad). x.pio < 2) (sym same) one.pio

  -- the pad of a port is one of two where it stands in an IO tile; pins of block RAMs stand in others
  pub pio_below : (k : ℕ) (pad : Pad) → At plan.ports k pad → kind_at parts pad.tile ≡ Some Io → pad.pio < 2
  pio_below k pad at io = by (on.placed.pads.bonded k pad at)
    where
      by : (list_any (same_pad pad) rows.pads ≡ true) ⊎ IsRamPin parts on.placed.rams pad → pad.pio < 2
      by (inl bonded) = package_pad pad bonded
      by (inr pin) = absurd (pin_elsewhere parts on.placed.rams pad pin io)
