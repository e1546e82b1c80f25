-- Each logic tile stands once, so the place that is found for it is its own.
use Rattle.std.proofs.Common.{◌≡◌, ℕ, ◌<◌, Bool, true, false, List, inl, inr, sym, ap, ◌∙◌, get_or, true≢false}
use Rattle.std.specs.List.{IsDistinct}
use Rattle.std.proofs.lemmas.Bool.{cases_order}
use Rattle.std.proofs.lemmas.Map.Keys.{apart_from_distinct}
use Rattle.std.proofs.lemmas.Map.Made.{IsDistinct-keys_filter}
use Rattle.std.proofs.lemmas.Option.{get_or_from_slice_get, slice_get_within}
use Rattle.std.specs.Prelude.{Some}
use Rattle.ice_base.specs.declared.number.TileAt.{TileAt}
use Rattle.ice_base.proofs.Keys.{tile_self}
use Rattle.ice_base_values.specs.Order.{At, StandOnce}
use Rattle.ice_chip.specs.Database.{Parts, same_tile}
use Rattle.ice_chip.specs.IsRead.{IsRead}
use Rattle.ice_decode.specs.Cells.{is_logic_tile, logic_tiles, tile_place}
use Rattle.ice_decode.proofs.KeptLevels.{tile_at}
use Rattle.ice_back_laws.proofs.Ranks.{place_found}

-- items that a test tells from one another stand at one place each
pub distinct_once : {X : Type 0} (e : X → X → Bool) → ((x : X) → e x x ≡ true) → (xs : List X) → IsDistinct e xs → StandOnce xs
distinct_once {X} e self xs apart i j x a b = elim (cases_order i j) [
  | inl same ↦ same
  | inr other ↦ elim other [ inl lt ↦ absurd (never i j lt a b) | inr lt ↦ absurd (never j i lt b a) ]
]
  where
    never : (m n : ℕ) → m < n → At xs m x → At xs n x → ⊥
    never m n lt at there =
        let no : e (get_or xs m x) (get_or xs n x) ≡ false = apart_from_distinct e xs m n x apart lt (slice_get_within xs n x there) in
        let yes : e (get_or xs m x) (get_or xs n x) ≡ true = (λ k. e (get_or_from_slice_get xs m x x at k) (get_or_from_slice_get xs n x x there k)) ∙ self x in
        true≢false (sym yes ∙ no)

pub logic_once : (parts : Parts) → IsRead parts → StandOnce (logic_tiles parts)
logic_once parts read = distinct_once same_tile tile_self (logic_tiles parts) (IsDistinct-keys_filter same_tile is_logic_tile parts.tiles read.tiles_once)

pub own_place : (parts : Parts) → IsRead parts → (k : ℕ) (t : TileAt) → At (logic_tiles parts) k t → tile_place t (logic_tiles parts) ≡ Some k
own_place parts read k t at =
    let found = place_found t (logic_tiles parts) (k, at) in
    found.1 ∙ ap (λ m. Some m) (logic_once parts read found.0 k t (tile_at t (logic_tiles parts) found.0 found.1) at)
