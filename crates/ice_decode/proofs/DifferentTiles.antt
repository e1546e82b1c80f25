-- The different ones of some tiles.
use Rattle.std.proofs.Common.{◌≡◌, ◌⊎◌, ℕ, zero, suc, ◌+◌, ◌<◌, ◌≤◌, Bool, true, false, cond, List, [], ◌∷◌, ◌++◌, Some, None, inl, inr, refl, ap, sym, ◌∙◌, subst, length, arith, length-append}
use Rattle.std.specs.Prelude.{not}
use Rattle.std.specs.List.{list_any, position, position_or_len}
use Rattle.std.proofs.lemmas.Bool.{lt-ltb, cond-true}
use Rattle.std.proofs.lemmas.Option.{same_Some}
use Rattle.ice_base.specs.declared.number.TileAt.{TileAt}
use Rattle.ice_base.proofs.Keys.{tile_same, tile_self}
use Rattle.ice_chip.specs.Database.{same_tile}
use Rattle.ice_base_values.specs.Order.{At, Has, StandOnce}
use Rattle.ice_decode.specs.Different.{with_tile, different}
use Rattle.ice_decode.proofs.Members.{Has_left, Has_right, Has_append_cases, Has_any, Has_none, once_push}

-- ---- one tile more
module _ (seen : List TileAt) (t : TileAt) where
  with_cases : (b : Bool) → list_any (same_tile t) seen ≡ b
      → (Has seen t × (with_tile seen t ≡ seen)) ⊎ ((Has seen t → ⊥) × (with_tile seen t ≡ seen ++ t ∷ []))
  with_cases true e = inl (Has_any (same_tile t) t (tile_same t) seen e, rw e)
  with_cases false e = inr (Has_none (same_tile t) t (tile_self t) seen e, rw e)

  with_each : (u : TileAt) → Has seen u ⊎ (t ≡ u) → Has (with_tile seen t) u
  with_each u (inl has) =
      elim (with_cases (list_any (same_tile t) seen) refl) [
        | inl old ↦ rw old.1 has
        | inr new ↦ rw new.1 (Has_left seen (t ∷ []) u has)
      ]
  with_each u (inr e) =
      elim (with_cases (list_any (same_tile t) seen) refl) [
        | inl old ↦ rw old.1 (subst (Has seen) e old.0)
        | inr new ↦ rw new.1 (Has_right seen (t ∷ []) u (0, ap (λ x. Some x) e))
      ]

  with_within : (u : TileAt) → Has (with_tile seen t) u → Has seen u ⊎ (t ≡ u)
  with_within u has =
      elim (with_cases (list_any (same_tile t) seen) refl) [
        | inl old ↦ inl (subst (λ (tiles : List TileAt). Has tiles u) old.1 has)
        | inr new ↦ elim (Has_append_cases seen (t ∷ []) u (subst (λ (tiles : List TileAt). Has tiles u) new.1 has)) [
          | inl before ↦ inl before
          | inr last ↦ inr (one last)
        ]
      ]
    where
      one : Has (t ∷ []) u → t ≡ u
      one (zero, at) = same_Some t u at
      one (suc i, at) = cc at

  with_once : StandOnce seen → StandOnce (with_tile seen t)
  with_once once =
      elim (with_cases (list_any (same_tile t) seen) refl) [
        | inl old ↦ subst (λ (tiles : List TileAt). StandOnce tiles) (sym old.1) once
        | inr new ↦ subst (λ (tiles : List TileAt). StandOnce tiles) (sym new.1) (once_push seen t once new.0)
      ]

  with_few : length (with_tile seen t) ≤ length seen + 1
  with_few =
      elim (with_cases (list_any (same_tile t) seen) refl) [
        | inl old ↦ (let e : length (with_tile seen t) ≡ length seen = ap length old.1 in omega arith)
        | inr new ↦ (let e : length (with_tile seen t) ≡ length seen + 1 = ap length new.1 ∙ length-append seen (t ∷ []) in omega arith)
      ]

-- ---- all tiles
pub different_once : (seen tiles : List TileAt) → StandOnce seen → StandOnce (different seen tiles)
different_once seen [] once = once
different_once seen (t ∷ tiles) once = different_once (with_tile seen t) tiles (with_once seen t once)

pub different_within : (seen tiles : List TileAt) (u : TileAt) → Has (different seen tiles) u → Has seen u ⊎ Has tiles u
different_within seen [] u has = inl has
different_within seen (t ∷ tiles) u has =
    elim (different_within (with_tile seen t) tiles u has) [
      | inl before ↦ elim (with_within seen t u before) [ inl old ↦ inl old | inr e ↦ inr (0, ap (λ x. Some x) e) ]
      | inr later ↦ inr (later.0 + 1, (let e : later.0 + 1 ≡ suc later.0 = omega arith in subst (λ k. At (t ∷ tiles) k u) (sym e) later.1))
    ]

pub different_each : (seen tiles : List TileAt) (u : TileAt) → Has seen u ⊎ Has tiles u → Has (different seen tiles) u
different_each seen [] u (inl has) = has
different_each seen [] u (inr has) = cc has.1
different_each seen (t ∷ tiles) u (inl has) = different_each (with_tile seen t) tiles u (inl (with_each seen t u (inl has)))
different_each seen (t ∷ tiles) u (inr (zero, at)) = different_each (with_tile seen t) tiles u (inl (with_each seen t u (inr (same_Some t u at))))
different_each seen (t ∷ tiles) u (inr (suc i, at)) = different_each (with_tile seen t) tiles u (inr (i, at))

pub different_few : (seen tiles : List TileAt) → length (different seen tiles) ≤ length seen + length tiles
different_few seen [] = omega arith
different_few seen (t ∷ tiles) = let more = different_few (with_tile seen t) tiles in let one = with_few seen t in omega arith

-- ---- where a tile stands
found_within : (t : TileAt) (tiles : List TileAt) → Has tiles t → (position_or_len (same_tile t) tiles < length tiles) × At tiles (position_or_len (same_tile t) tiles) t
found_within t [] has = cc has.1
found_within t (u ∷ tiles) (zero, at) =
    let yes : same_tile t u ≡ true = ap (same_tile t) (same_Some u t at) ∙ tile_self t in
    rw yes (omega arith, at)
found_within t (u ∷ tiles) (suc i, at) = by (same_tile t u) refl (found_within t tiles (i, at))
  where
    by : (b : Bool) → same_tile t u ≡ b → (position_or_len (same_tile t) tiles < length tiles) × At tiles (position_or_len (same_tile t) tiles) t
        → (cond (not b) (1 + position_or_len (same_tile t) tiles) 0 < suc (length tiles)) × At (u ∷ tiles) (cond (not b) (1 + position_or_len (same_tile t) tiles) 0) t
    by true is later = (omega arith, ap (λ x. Some x) (sym (tile_same t u is)))
    by false is later =
        let e : 1 + position_or_len (same_tile t) tiles ≡ suc (position_or_len (same_tile t) tiles) = omega arith in
        (omega (arith, later.0), subst (λ k. At (u ∷ tiles) k t) (sym e) later.1)

-- the place of a tile that is there
pub place_found : (t : TileAt) (tiles : List TileAt) → Has tiles t → (k : ℕ) × (position (same_tile t) tiles ≡ Some k) × At tiles k t
place_found t tiles has =
    let found = found_within t tiles has in
    (position_or_len (same_tile t) tiles, cond-true _ (Some (position_or_len (same_tile t) tiles)) None (lt-ltb (position_or_len (same_tile t) tiles) (length tiles) found.0), found.1)
