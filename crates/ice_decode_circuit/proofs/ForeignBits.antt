-- A tile in which no place of foreign functions is set has no foreign function, and nor has a logic tile.
use Rattle.std.proofs.Common.{◌≡◌, Bool, true, false, cond, List, [], ◌∷◌, ◌++◌, Some, None, refl, ap, sym, ◌∙◌, eqb}
use Rattle.std.specs.Prelude.{◌&&◌, ◌||◌, find, option_map}
use Rattle.std.specs.List.{list_any}
use Rattle.std.proofs.lemmas.Bool.{and_parts, eqb-true}
use Rattle.std.proofs.lemmas.List.Folds.{list_any-append}
use Rattle.ice_base.specs.declared.bit.BitAt.{BitAt}
use Rattle.ice_chip.specs.Database.{Parts, FunctionRow}
use Rattle.ice_chip.specs.Functions.{is_foreign, same_kind}
use Rattle.ice_chip.specs.declared.rows.TileKind.{TileKind}
use Rattle.ice_chip.specs.declared.rows.TileKind.TheVariants.{Io, Logic, RamBottom, RamTop}
use Rattle.ice_chip.specs.declared.tile.Tile.{Tile}
use Rattle.ice_chip.proofs.SameKinds.{kind_same}
use Rattle.ice_bits.specs.Configuration.{Bits, same_place}
use Rattle.ice_decode.specs.Faults.{counts_in}
use Rattle.ice_decode_circuit.specs.ForeignTiles.{is_set_at, foreign_at}
use Rattle.ice_decode_circuit.specs.ForeignPlaces.{with_place, with_places, with_function, foreign_places}
use Rattle.ice_decode.proofs.Members.{Has_any, Has_none}

place_same : (a b : BitAt) → same_place a b ≡ true → a ≡ b
place_same a b e =
    let parts = and_parts (eqb a.row b.row) (eqb a.col b.col) e in
    let row = eqb-true a.row b.row parts.0 in
    let col = eqb-true a.col b.col parts.1 in
    λ i. record { row = row i; col = col i }

-- neither of two tests holds where their disjunction does not
neither : (a b : Bool) → (a || b) ≡ false → (a ≡ false) × (b ≡ false)
neither true b e = cc e
neither false b e = (refl, e)

-- ---- places
module _ (test : BitAt → Bool) where
  none_at : (seen : List BitAt) (b : BitAt) → list_any test (with_place seen b) ≡ false → (list_any test seen ≡ false) × (test b ≡ false)
  none_at seen b e = by (list_any (same_place b) seen) refl e
    where
      by : (known : Bool) → list_any (same_place b) seen ≡ known → list_any test (cond known seen (seen ++ b ∷ [])) ≡ false → (list_any test seen ≡ false) × (test b ≡ false)
      by true is none = (none, of (test b) refl)
        where
          of : (x : Bool) → test b ≡ x → test b ≡ false
          of true set = absurd (Has_none test b set seen none (Has_any (same_place b) b (place_same b) seen is))
          of false unset = unset
      by false is none =
          let parts = neither (list_any test seen) (test b || false) (sym (list_any-append test seen (b ∷ [])) ∙ none) in
          (parts.0, (neither (test b) false parts.1).0)

  none_in : (seen bits : List BitAt) → list_any test (with_places seen bits) ≡ false → (list_any test seen ≡ false) × (list_any test bits ≡ false)
  none_in seen [] e = (e, refl)
  none_in seen (b ∷ bits) e =
      let later = none_in (with_place seen b) bits e in
      let here = none_at seen b later.0 in
      (here.0, ap (λ x. x || list_any test bits) here.1 ∙ later.1)

  -- a function is not foreign, or has none of the places
  none_of : (seen : List BitAt) (f : FunctionRow) → list_any test (with_function seen f) ≡ false → (list_any test seen ≡ false) × ((is_foreign f.kind f.name && list_any test f.bits) ≡ false)
  none_of seen f e = by (is_foreign f.kind f.name) e
    where
      by : (foreign : Bool) → list_any test (cond foreign (with_places seen f.bits) seen) ≡ false → (list_any test seen ≡ false) × ((foreign && list_any test f.bits) ≡ false)
      by true none = none_in seen f.bits none
      by false none = (none, refl)

-- ---- functions
not_both : (a b c d : Bool) → (b && c) ≡ false → (a && b && c && d) ≡ false
not_both true true c d e = ap (λ x. x && d) e
not_both true false c d e = refl
not_both false b c d e = refl

module _ (parts : Parts) (bits : Bits) (tile : Tile) where
  unset : (seen : List BitAt) (functions : List FunctionRow) → list_any (bits tile.at) (foreign_places seen functions) ≡ false
      → (list_any (bits tile.at) seen ≡ false) × (find (is_set_at parts bits tile) functions ≡ None)
  unset seen [] e = (e, refl)
  unset seen (f ∷ functions) e =
      let later = unset (with_function seen f) functions e in
      let here = none_of (bits tile.at) seen f later.0 in (
        here.0,
        ap (λ x. cond x (Some f) (find (is_set_at parts bits tile) functions))
            (not_both (same_kind f.kind tile.kind) (is_foreign f.kind f.name) (list_any (bits tile.at) f.bits) (counts_in parts bits tile.at f.name) here.1) ∙ later.1,
      )

  pub none_marked : (functions : List FunctionRow) (places : List BitAt) → places ≡ foreign_places [] functions → list_any (bits tile.at) places ≡ false → foreign_at parts functions bits tile ≡ None
  none_marked functions places are none =
      ap (option_map (λ (f : FunctionRow). f.line)) (unset [] functions (ap (list_any (bits tile.at)) (sym are) ∙ none)).1

  -- a function of another kind of tile
  elsewhere : (f : FunctionRow) (kind : TileKind) → f.kind ≡ kind → same_kind kind tile.kind ≡ false → is_set_at parts bits tile f ≡ false
  elsewhere f kind e other =
      ap (λ k. same_kind k tile.kind && is_foreign f.kind f.name && list_any (bits tile.at) f.bits && counts_in parts bits tile.at f.name) e
      ∙ ap (λ x. x && is_foreign f.kind f.name && list_any (bits tile.at) f.bits && counts_in parts bits tile.at f.name) other

  -- logic tiles have no foreign functions
  not_foreign : (f : FunctionRow) (kind : TileKind) → f.kind ≡ kind → Logic ≡ tile.kind → is_set_at parts bits tile f ≡ false
  not_foreign f Io e logic = elsewhere f Io e (ap (same_kind Io) (sym logic))
  not_foreign f Logic e logic = not_both (same_kind f.kind tile.kind) (is_foreign f.kind f.name) _ _ (ap (λ kind. is_foreign kind f.name && list_any (bits tile.at) f.bits) e)
  not_foreign f RamBottom e logic = elsewhere f RamBottom e (ap (same_kind RamBottom) (sym logic))
  not_foreign f RamTop e logic = elsewhere f RamTop e (ap (same_kind RamTop) (sym logic))

  none_found : (functions : List FunctionRow) → Logic ≡ tile.kind → find (is_set_at parts bits tile) functions ≡ None
  none_found [] logic = refl
  none_found (f ∷ functions) logic = ap (λ x. cond x (Some f) (find (is_set_at parts bits tile) functions)) (not_foreign f f.kind refl logic) ∙ none_found functions logic

  pub none_elsewhere : (functions : List FunctionRow) → same_kind Logic tile.kind ≡ true → foreign_at parts functions bits tile ≡ None
  none_elsewhere functions logic = ap (option_map (λ (f : FunctionRow). f.line)) (none_found functions (kind_same Logic tile.kind logic))
