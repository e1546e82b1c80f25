-- What a configured chip finds while it is compiled.
use Rattle.std.proofs.Common.{◌≡◌, ℕ, suc, ◌+◌, Bool, true, false, cond, List, [], ◌∷◌, ◌++◌, Option, Some, None, refl, ap, ◌∙◌, arith}
use Rattle.std.specs.Prelude.{option_map}
use Rattle.std.specs.Map.{lookup}
use Rattle.ice_base.specs.declared.number.TileAt.{TileAt}
use Rattle.ice_chip.specs.Database.{same_tile, same_pad}
use Rattle.ice_chip.specs.declared.rows.Pad.{Pad}
use Rattle.ice_chip.proofs.Keys.{pad_same, tile_turned, pad_turned}
use Rattle.ice_decode.specs.Cells.{tile_place}
use Rattle.ice_decode.specs.FirstFaults.{or_else}
use Rattle.ice_base.proofs.Keys.{tile_same}
use Rattle.ice_sim.specs.ChipSlots.{pad_place}
use Rattle.ice_sim.specs.ConfiguredChips.{put_place, with_place, with_places}

-- ---- keys
-- the first place of a key among these
abbrev place_of : {K : Type 0} → (K → K → Bool) → K → List K → Option ℕ
place_of same t [] = None
place_of same t (u ∷ keys) = cond (same u t) (Some 0) (option_map suc (place_of same t keys))

nothing_more : (o : Option ℕ) → o ≡ or_else o None
nothing_more None = refl
nothing_more (Some x) = refl

already : (x : ℕ) (o : Option ℕ) → o ≡ Some x → (other : Option ℕ) → o ≡ or_else o other
already x None e other = cc e
already x (Some y) e other = refl

shifted : (k : ℕ) (o : Option ℕ) → option_map (λ m. suc k + m) o ≡ option_map (λ m. k + m) (option_map suc o)
shifted k None = refl
shifted k (Some m) = let e : suc k + m ≡ k + suc m = omega arith in ap (λ n. Some n) e

joined : (k : ℕ) (b : Bool) (o p : Option ℕ) → or_else (or_else o (cond b (Some k) None)) (option_map (λ m. suc k + m) p) ≡ or_else o (option_map (λ m. k + m) (cond b (Some 0) (option_map suc p)))
joined k b (Some x) p = refl
joined k true None p = let e : k ≡ k + 0 = omega arith in ap (λ n. Some n) e
joined k false None p = shifted k p

from_zero : (o : Option ℕ) → option_map (λ m. 0 + m) o ≡ o
from_zero None = refl
from_zero (Some m) = let e : 0 + m ≡ m = omega arith in ap (λ n. Some n) e

module _ {K : Type 0} (same : K → K → Bool) (same_is : (a b : K) → same a b ≡ true → a ≡ b) (turned : (a b : K) → same a b ≡ same b a) where
  lookup_push : (t u : K) (k : ℕ) (entries : List (K × ℕ)) → lookup (same t) (entries ++ (u, k) ∷ []) ≡ or_else (lookup (same t) entries) (cond (same t u) (Some k) None)
  lookup_push t u k [] = refl
  lookup_push t u k (e ∷ entries) = of (same t e.0) (lookup_push t u k entries)
    where
      of : (b : Bool) → lookup (same t) (entries ++ (u, k) ∷ []) ≡ or_else (lookup (same t) entries) (cond (same t u) (Some k) None)
          → cond b (Some e.1) (lookup (same t) (entries ++ (u, k) ∷ [])) ≡ or_else (cond b (Some e.1) (lookup (same t) entries)) (cond (same t u) (Some k) None)
      of true rec = refl
      of false rec = rec

  -- one key more
  lookup_place : (t u : K) (k : ℕ) (entries : List (K × ℕ)) → lookup (same t) (with_place same u k entries) ≡ or_else (lookup (same t) entries) (cond (same t u) (Some k) None)
  lookup_place t u k entries = of (lookup (same u) entries) refl
    where
      there : (b : Bool) → same t u ≡ b → (x : ℕ) → lookup (same u) entries ≡ Some x → lookup (same t) entries ≡ or_else (lookup (same t) entries) (cond b (Some k) None)
      there false e x f = nothing_more (lookup (same t) entries)
      there true e x f = already x (lookup (same t) entries) (ap (λ (v : K). lookup (same v) entries) (same_is t u e) ∙ f) (Some k)

      of : (o : Option ℕ) → lookup (same u) entries ≡ o → lookup (same t) (put_place u k entries o) ≡ or_else (lookup (same t) entries) (cond (same t u) (Some k) None)
      of None e = lookup_push t u k entries
      of (Some x) e = there (same t u) refl x e

  -- the places of all these keys
  lookup_places : (t : K) (k : ℕ) (keys : List K) (entries : List (K × ℕ))
      → lookup (same t) (with_places same k keys entries) ≡ or_else (lookup (same t) entries) (option_map (λ m. k + m) (place_of same t keys))
  lookup_places t k [] entries = nothing_more (lookup (same t) entries)
  lookup_places t k (u ∷ keys) entries =
      lookup_places t (suc k) keys (with_place same u k entries)
      ∙ ap (λ o. or_else o (option_map (λ m. suc k + m) (place_of same t keys))) (lookup_place t u k entries)
      ∙ joined k (same t u) (lookup (same t) entries) (place_of same t keys)
      ∙ ap (λ b. or_else (lookup (same t) entries) (option_map (λ m. k + m) (cond b (Some 0) (option_map suc (place_of same t keys))))) (turned t u)

  found : (keys : List K) (entries : List (K × ℕ)) (t : K) → entries ≡ with_places same 0 keys [] → lookup (same t) entries ≡ place_of same t keys
  found keys entries t e = ap (lookup (same t)) e ∙ lookup_places t 0 keys [] ∙ from_zero (place_of same t keys)

-- ---- tiles
tile_place_is : (t : TileAt) (tiles : List TileAt) → place_of same_tile t tiles ≡ tile_place t tiles
tile_place_is t [] = refl
tile_place_is t (u ∷ tiles) = ap (λ o. cond (same_tile u t) (Some 0) (option_map suc o)) (tile_place_is t tiles)

pub tile_found : (tiles : List TileAt) (entries : List (TileAt × ℕ)) (t : TileAt) → entries ≡ with_places same_tile 0 tiles [] → lookup (same_tile t) entries ≡ tile_place t tiles
tile_found tiles entries t e = found same_tile tile_same tile_turned tiles entries t e ∙ tile_place_is t tiles

-- ---- pads
pad_place_is : (bonded : List Pad) (pad : Pad) → place_of same_pad pad bonded ≡ pad_place bonded pad
pad_place_is [] pad = refl
pad_place_is (p ∷ bonded) pad = ap (λ o. cond (same_pad p pad) (Some 0) (option_map suc o)) (pad_place_is bonded pad)

pub pad_found : (bonded : List Pad) (entries : List (Pad × ℕ)) (pad : Pad) → entries ≡ with_places same_pad 0 bonded [] → lookup (same_pad pad) entries ≡ pad_place bonded pad
pad_found bonded entries pad e = found same_pad pad_same pad_turned bonded entries pad e ∙ pad_place_is bonded pad
