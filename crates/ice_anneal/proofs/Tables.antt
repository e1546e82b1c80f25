-- Clusters that are chunks of runs, by a table of them, and tiles that are taken.
use Rattle.std.proofs.Common.{◌≡◌, ℕ, ◌+◌, ◌-◌, ◌<◌, ◌==◌, ◌&&◌, Bool, true, false, ◌||◌, cond, Option, Some, None, List, [], ◌∷◌, length, take, get_or, refl, sym, ap, ap₂, ◌∙◌, arith}
use Rattle.std.specs.List.{list_any}
use Rattle.std.specs.Map.{lookup}
use Rattle.std.proofs.lemmas.Bool.{and_parts}
use Rattle.std.proofs.lemmas.Bool.Decides.{nat_tests}
use Rattle.std.proofs.lemmas.List.Folds.{list_any_more}
use Rattle.ice_base.specs.declared.number.TileAt.{TileAt}
use Rattle.ice_base.specs.Places.{same_tile}
use Rattle.ice_base.proofs.Keys.{nat_same}
use Rattle.ice_sites.specs.Legal.{Follows, is_next, chunk_of, tile_at}
use Rattle.ice_anneal.specs.declared.order.SiteOrder.{SiteOrder}
use Rattle.ice_anneal.specs.declared.table.Chunk.{Chunk}
use Rattle.ice_anneal.specs.Full.{has_tile}
use Rattle.ice_anneal.specs.Least.{is_rigid}
use Rattle.ice_anneal.specs.Order.{IsOrder}
use Rattle.ice_anneal.specs.Table.{same_chunk, is_chunk, IsOnce, IsFollowed}

pub rigid_none : (chunks : List (Option (ℕ × ℕ))) → is_rigid chunks None ≡ false
rigid_none [] = refl
rigid_none (None ∷ chunks) = rigid_none chunks
rigid_none (Some own ∷ chunks) = rigid_none chunks

or_both : (a b c d : Bool) → ((a || b) || (c || d)) ≡ ((a || c) || (b || d))
or_both true b c d = refl
or_both false true true d = refl
or_both false true false d = refl
or_both false false c d = refl

before_none : (own : ℕ × ℕ) (run : ℕ) → ((own.0 == run) && (own.1 + 1 == 0)) ≡ false
before_none own run = grind (arith, nat_tests)

before_same : (own : ℕ × ℕ) (run number : ℕ) → 0 < number → ((own.0 == run) && (own.1 + 1 == number)) ≡ ((run == own.0) && (number - 1 == own.1))
before_same own run number lt = grind (arith, nat_tests)

-- the first chunk of a run has none before it
pub none_before : (chunks : List (Option (ℕ × ℕ))) (run number : ℕ) → number ≡ 0 → list_any (λ other. is_next other (Some (run, number))) chunks ≡ false
none_before [] run number e = refl
none_before (None ∷ chunks) run number e = none_before chunks run number e
none_before (Some own ∷ chunks) run number e = ap₂ (λ a b. a || b) (ap (λ n. (own.0 == run) && (own.1 + 1 == n)) e ∙ before_none own run) (none_before chunks run number e)

pub some_before : (chunks : List (Option (ℕ × ℕ))) (run number : ℕ) → 0 < number → list_any (is_chunk (record { run = run; number = number - 1 })) chunks ≡ list_any (λ other. is_next other (Some (run, number))) chunks
some_before [] run number lt = refl
some_before (None ∷ chunks) run number lt = some_before chunks run number lt
some_before (Some own ∷ chunks) run number lt = ap₂ (λ a b. a || b) (sym (before_same own run number lt)) (some_before chunks run number lt)

-- a chunk that is before or behind another
pub rigid_some : (chunks : List (Option (ℕ × ℕ))) (own : ℕ × ℕ)
    → (list_any (is_chunk (record { run = own.0; number = own.1 + 1 })) chunks || list_any (λ other. is_next other (Some own)) chunks) ≡ is_rigid chunks (Some own)
rigid_some [] own = refl
rigid_some (None ∷ chunks) own = rigid_some chunks own
rigid_some (Some other ∷ chunks) own =
    let chunk : Chunk = record { run = own.0; number = own.1 + 1 } in
    or_both (is_chunk chunk (Some other)) (list_any (is_chunk chunk) chunks) (is_next (Some other) (Some own)) (list_any (λ o. is_next o (Some own)) chunks)
    ∙ ap (λ b. (is_chunk chunk (Some other) || is_next (Some other) (Some own)) || b) (rigid_some chunks own)

-- a loop over tiles that are taken
tile_turned : (a b : TileAt) → same_tile a b ≡ same_tile b a
tile_turned a b = grind (arith, nat_tests)

either : (a b : Bool) → cond a true b ≡ (b || a)
either true true = refl
either true false = refl
either false true = refl
either false false = refl

pub taken_more : (at : List TileAt) (i : ℕ) (d t : TileAt) (old new : Bool) → i < length at → new ≡ cond (same_tile (get_or at i d) t) true old → old ≡ has_tile (take i at) t → new ≡ has_tile (take (i + 1) at) t
taken_more at i d t old new lt now before =
    now ∙ either (same_tile (get_or at i d) t) old ∙ ap₂ (λ a b. a || b) before (tile_turned (get_or at i d) t) ∙ sym (list_any_more (same_tile t) at i d lt)

-- each chunk stands once, and the chunk behind it directly behind it
pub linked_by : (order : SiteOrder) (entries : List (Chunk × ℕ)) (place : List TileAt) (chunks : List (Option (ℕ × ℕ)))
    → ((c : ℕ) → c < length chunks → (low : ℕ × ℕ) → chunk_of chunks c ≡ Some low → IsOnce entries (record { run = low.0; number = low.1 }) c)
    → ((c : ℕ) → c < length chunks → (low : ℕ × ℕ) → chunk_of chunks c ≡ Some low → IsFollowed order entries place (tile_at place c) (record { run = low.0; number = low.1 + 1 }))
    → (stretches : List (List TileAt)) → IsOrder stretches order → (c d : ℕ) → c < length chunks → d < length chunks → is_next (chunk_of chunks c) (chunk_of chunks d) ≡ true
    → Follows stretches (tile_at place c) (tile_at place d)
linked_by order entries place chunks once followed stretches is c d lc ld next = by (chunk_of chunks c) (chunk_of chunks d) refl refl next
  where
    by : (low high : Option (ℕ × ℕ)) → chunk_of chunks c ≡ low → chunk_of chunks d ≡ high → is_next low high ≡ true → Follows stretches (tile_at place c) (tile_at place d)
    by None high e f h = absurd (cc)
    by (Some low) None e f h = absurd (cc)
    by (Some low) (Some high) e f h =
        let parts = and_parts (low.0 == high.0) (low.1 + 1 == high.1) h in
        let run = nat_same low.0 high.0 parts.0 in
        let number = nat_same (low.1 + 1) high.1 parts.1 in
        followed c lc low e d (ap (λ (chunk : Chunk). lookup (same_chunk chunk) entries) (λ i. record { run = run i; number = number i }) ∙ once d ld high f) stretches is
