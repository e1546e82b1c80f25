-- What stands behind a site.
use Rattle.std.proofs.Common.{◌≡◌, ℕ, zero, suc, ◌+◌, ◌-◌, ◌<◌, ◌≤◌, ◌⊎◌, inl, inr, List, [], ◌∷◌, ◌++◌, Some, length, take, drop, get_or, refl, sym, ap, ◌∙◌, subst, arith}
use Rattle.std.specs.Prelude.{flat_map}
use Rattle.std.proofs.lemmas.Bool.{cases_lt}
use Rattle.std.proofs.lemmas.Option.{slice_get-get_or}
use Rattle.std.proofs.lemmas.List.{get_or_append_left, get_or-append_right, take_more, flat_map_more}
use Rattle.ice_base.specs.declared.number.TileAt.{TileAt}
use Rattle.ice_anneal_board.specs.Length.{origin}
use Rattle.ice_sites.specs.Legal.{Follows, tile_at}
use Rattle.ice_place.specs.Place.{joined}
use Rattle.ice_anneal.specs.declared.order.SiteOrder.{SiteOrder}
use Rattle.ice_anneal.specs.Order.{rooms, IsOrder}

-- a loop over the sites of a stretch
pub rooms_drop : (sites : List TileAt) (k : ℕ) → k < length sites → rooms (drop k sites) ≡ (length sites - k) ∷ rooms (drop (k + 1) sites)
rooms_drop [] k lt = absurd (omega arith)
rooms_drop (t ∷ sites) zero lt = let e : suc (length sites) - 0 ≡ suc (length sites) = omega arith in ap (λ n. n ∷ rooms sites) (sym e)
rooms_drop (t ∷ sites) (suc k) lt =
    let e : suc (length sites) - suc k ≡ length sites - k = omega arith in
    let two : suc k + 1 ≡ suc (k + 1) = omega arith in
    rooms_drop sites k (omega arith) ∙ (ap (λ n. n ∷ rooms (drop (k + 1) sites)) (sym e) ∙ ap (λ j. (suc (length sites) - suc k) ∷ rooms (drop j (t ∷ sites))) (sym two))

-- what is made of each stretch, one more stretch on
pub listed_more : {X : Type 0} (f : List TileAt → List X) (stretches : List (List TileAt)) (i : ℕ) (x : List TileAt) (old new : List X)
    → i < length stretches → x ≡ get_or stretches i x → old ≡ flat_map f (take i stretches) → new ≡ old ++ f x → new ≡ flat_map f (take (i + 1) stretches)
listed_more f stretches i x old new lt is before after =
    let more : take (i + 1) stretches ≡ take i stretches ++ x ∷ [] = take_more stretches i x lt ∙ ap (λ (t : List TileAt). take i stretches ++ t ∷ []) (sym is) in
    after ∙ (ap (λ l. l ++ f x) before ∙ (flat_map_more f [] (take i stretches) x ∙ ap (flat_map f) (sym more)))

length_rooms : (sites : List TileAt) → length (rooms sites) ≡ length sites
length_rooms [] = refl
length_rooms (t ∷ sites) = ap suc (length_rooms sites)

rooms_at : (sites : List TileAt) (s : ℕ) → s < length sites → get_or (rooms sites) s 0 + s ≡ length sites
rooms_at [] s lt = absurd (omega arith)
rooms_at (t ∷ sites) zero lt = omega arith
rooms_at (t ∷ sites) (suc s) lt = let r = rooms_at sites s (omega arith) in omega arith

-- where there is room for two sites, the second follows the first
follows_joined : (stretches : List (List TileAt)) (s : ℕ) → 1 < get_or (flat_map rooms stretches) s 0 → Follows stretches (tile_at (joined stretches) s) (tile_at (joined stretches) (s + 1))
follows_joined [] s room = absurd (omega arith)
follows_joined (x ∷ xs) s room = by (cases_lt s (length x)) (follows_joined xs (s - length x))
  where
    n : length (rooms x) ≡ length x
    n = length_rooms x

    by : (s < length x) ⊎ (length x ≤ s) → (1 < get_or (flat_map rooms xs) (s - length x) 0 → Follows xs (tile_at (joined xs) (s - length x)) (tile_at (joined xs) (s - length x + 1))) → Follows (x ∷ xs) (tile_at (x ++ joined xs) s) (tile_at (x ++ joined xs) (s + 1))
    by (inl lt) rest =
        let here = get_or_append_left (rooms x) (flat_map rooms xs) 0 s (omega (arith, n)) in
        let at = rooms_at x s lt in
        let next : s + 1 < length x = omega arith in (
          0,
          (
            s,
            (
              slice_get-get_or x s origin lt ∙ ap Some (sym (get_or_append_left x (joined xs) origin s lt)),
              slice_get-get_or x (s + 1) origin next ∙ ap Some (sym (get_or_append_left x (joined xs) origin (s + 1) next)),
            ),
          ),
        )
    by (inr le) rest =
        let there = get_or-append_right (rooms x) (flat_map rooms xs) (length x) s 0 n le in
        let low = get_or-append_right x (joined xs) (length x) s origin refl le in
        let high = get_or-append_right x (joined xs) (length x) (s + 1) origin refl (omega arith) in
        let one : s + 1 - length x ≡ s - length x + 1 = omega arith in
        let f = rest (omega arith) in
        subst (λ (t : TileAt). Follows (x ∷ xs) t (tile_at (x ++ joined xs) (s + 1))) (sym low)
        (subst (λ (t : TileAt). Follows (x ∷ xs) (tile_at (joined xs) (s - length x)) t) (sym (high ∙ ap (λ j. tile_at (joined xs) j) one)) (suc f.0, (f.1.0, (f.1.1.0, f.1.1.1))))

pub follows : (stretches : List (List TileAt)) (order : SiteOrder) (s : ℕ) (low high : TileAt) → IsOrder stretches order → 1 < get_or order.room.items s 0
    → tile_at order.tiles.items s ≡ low → tile_at order.tiles.items (s + 1) ≡ high → Follows stretches low high
follows stretches order s low high is room at_low at_high =
    let t = is.tiles in
    let f = follows_joined stretches s (let r = ap (λ (l : List ℕ). get_or l s 0) is.room in omega arith) in
    subst (λ (u : TileAt). Follows stretches u high) (ap (λ (l : List TileAt). tile_at l s) (sym t) ∙ at_low)
    (subst (λ (u : TileAt). Follows stretches (tile_at (joined stretches) s) u) (ap (λ (l : List TileAt). tile_at l (s + 1)) (sym t) ∙ at_high) f)
