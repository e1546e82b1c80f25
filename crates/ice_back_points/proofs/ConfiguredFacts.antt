-- What is known of a configured chip in a package.
use Rattle.std.proofs.Common.{◌≡◌, ℕ, ◌+◌, ◌*◌, ◌<◌, ◌≤◌, false, cond, Option, None, Some, List, [], ◌∷◌, ◌++◌, length, take, drop, get_or, sym, ap, ◌∙◌, subst, arith}
use Rattle.std.specs.Prelude.{All, IfSome, option_map}
use Rattle.std.specs.List.{IsDistinct, list_any}
use Rattle.std.proofs.lemmas.List.{take_more, take-append-drop}
use Rattle.std.proofs.lemmas.Option.{slice_get-get_or, slice_get_within}
use Rattle.indexmap.specs.IndexSet.{insert_key}
use Rattle.ice_base.specs.declared.number.TileAt.{TileAt}
use Rattle.ice_base.specs.declared.number.WireNo.{WireNo}
use Rattle.ice_base.proofs.Keys.{tiles_equal}
use Rattle.ice_base_values.specs.Order.{Has}
use Rattle.ice_chip.specs.Database.{Parts, same_tile}
use Rattle.ice_chip.specs.IsRead.{IsRead}
use Rattle.ice_chip.specs.Lookups.{wire_named}
use Rattle.ice_bits.specs.Configuration.{Bits, bits_of}
use Rattle.ice_decode.specs.declared.point.Point.{Point}
use Rattle.ice_decode.specs.declared.point.Point.TheVariants.{Carry}
use Rattle.ice_decode.specs.Cells.{logic_tiles, tile_place}
use Rattle.ice_decode.specs.Loops.{IsOrderOf}
use Rattle.ice_decode.specs.Points.{HasWire, points}
use Rattle.ice_decode.specs.Reads.{wire_point}
use Rattle.ice_decode.proofs.KeptLevels.{tile_at}
use Rattle.ice_decode.proofs.PointPlaces.{wire_at, carry_at}
use Rattle.ice_back_laws.specs.Roots.{StandsAt, IsNumbered, carry_root, root_of}
use Rattle.ice_back_laws.proofs.Bounds.{few_tiles, few_pads}
use Rattle.ice_back_laws.proofs.Ranks.{Ranks, ranked, ranks_fall, root_there, named_below}
use Rattle.ice_back_laws.proofs.RootLevels.{root_made}
use Rattle.ice_back_laws.proofs.RootNumbers.{numbered}
use Rattle.ice_back_points.specs.ConfiguredChips.{ConfiguredData, IsConfigured}
use Rattle.ice_back_points.proofs.Distinct.{distinct_left, last_new}
use Rattle.ice_back_points.proofs.Filled.{has_wire}

-- ---- points in order
pub order_wires : (parts : Parts) (bits : Bits) (extras : List (ℕ × ℕ × ℕ)) (order : List Point) → IsOrderOf parts bits extras order → All (HasWire parts) order
order_wires parts bits extras order o k d lt = has_wire parts bits extras order o k (get_or order k d) (slice_get-get_or order k d lt)

-- ---- wires that are found by names
pub named_some : (parts : Parts) → IsRead parts → (t : TileAt) (name : List ℕ) (o : Option WireNo) → option_map (λ (w : WireNo). w.0) o ≡ wire_named parts t name → IfSome o (λ w. w.0 < parts.wires)
named_some parts read t name None e = tt
named_some parts read t name (Some w) e = named_below parts read t name w.0 (sym e)

-- ---- tiles
pub tile_next : (tiles keys : List TileAt) (i : ℕ) (d : TileAt) → IsDistinct same_tile tiles → i < length tiles → keys ≡ take i tiles → insert_key same_tile keys (get_or tiles i d) ≡ take (i + 1) tiles
tile_next tiles keys i d once lt e =
    ap (λ (ks : List TileAt). insert_key same_tile ks (get_or tiles i d)) e
    ∙ ap (λ b. cond b (take i tiles) (take i tiles ++ get_or tiles i d ∷ [])) new
    ∙ sym (take_more tiles i d lt)
  where
    front : IsDistinct same_tile (take (i + 1) tiles)
    front = distinct_left same_tile (take (i + 1) tiles) (drop (i + 1) tiles) (subst (IsDistinct same_tile) (sym (take-append-drop (i + 1) tiles)) once)

    new : list_any (same_tile (get_or tiles i d)) (take i tiles) ≡ false
    new = last_new same_tile tiles_equal (take i tiles) (get_or tiles i d) (subst (IsDistinct same_tile) (take_more tiles i d lt) front)

-- ---- a configured chip
pub pads_few : (d : ConfiguredData) → IsConfigured d → length d.bonded.pads ≤ 131072
pads_few d is = few_pads d.parts d.bonded is.chip.read is.listed

pub place_below : (d : ConfiguredData) → IsConfigured d → (t : TileAt) (k : ℕ) → tile_place t (logic_tiles d.parts) ≡ Some k → k < 65536
place_below d is t k e =
    let inside = slice_get_within (logic_tiles d.parts) k t (tile_at t (logic_tiles d.parts) k e) in
    let few = few_tiles d.parts is.chip.read in
    omega (arith, inside, few)

-- the root of a wire of the chip has its signal
pub wire_numbered : (d : ConfiguredData) → IsConfigured d → (w : ℕ) → w < d.parts.wires
    → IsNumbered d.parts d.bonded.pads (root_of d.parts (bits_of d.configuration) d.configuration.extras d.bonded.pads (wire_point w))
wire_numbered d is w lt =
    numbered d.parts (bits_of d.configuration) d.configuration.extras is.chip.read is.names is.faultless d.bonded.pads (wire_point w) (w, wire_at d.parts.wires (logic_tiles d.parts) w lt)

-- ---- carries
carry_there : (d : ConfiguredData) (t : TileAt) (i : ℕ) → StandsAt d.parts t i → Has (points d.parts) (Carry t i)
carry_there d t i (k, e, lt) = (d.parts.wires + 8 * k + i, carry_at d.parts.wires (logic_tiles d.parts) k i t (tile_at t (logic_tiles d.parts) k e) lt)

-- the root of a carry is that of its bits
pub carry_root_is : (d : ConfiguredData) → IsConfigured d → (t : TileAt) (i : ℕ) → StandsAt d.parts t i
    → root_of d.parts (bits_of d.configuration) d.configuration.extras d.bonded.pads (Carry t i) ≡ carry_root d.parts (bits_of d.configuration) t i
carry_root_is d is t i stands =
    root_made d.parts (bits_of d.configuration) d.configuration.extras (Ranks d.parts (bits_of d.configuration) d.configuration.extras is.chip.read is.names is.faultless)
    (ranks_fall d.parts (bits_of d.configuration) d.configuration.extras is.chip.read is.names is.faultless) d.bonded.pads
    (root_there d.parts (bits_of d.configuration) d.configuration.extras is.chip.read is.names is.faultless d.bonded.pads) _ (Carry t i)
    (ranked d.parts (bits_of d.configuration) d.configuration.extras is.chip.read is.names is.faultless (Carry t i) (carry_there d t i stands))

-- and it has its signal
pub carry_numbered : (d : ConfiguredData) → IsConfigured d → (t : TileAt) (i : ℕ) → StandsAt d.parts t i → IsNumbered d.parts d.bonded.pads (carry_root d.parts (bits_of d.configuration) t i)
carry_numbered d is t i stands =
    subst (IsNumbered d.parts d.bonded.pads) (carry_root_is d is t i stands)
    (numbered d.parts (bits_of d.configuration) d.configuration.extras is.chip.read is.names is.faultless d.bonded.pads (Carry t i) (carry_there d t i stands))
