use Rattle.std.proofs.Common.{◌≡◌, ℕ, ◌+◌, ◌<◌, Some}
use Rattle.ice_sites.specs.Legal.{chunk_of, tile_at}
use Rattle.ice_anneal.specs.Table.{IsOnce, IsFollowed}
use Rattle.ice_anneal.proofs.linked.are_linked.Given as goal

abbrev pub invariant-loop-c : goal.invariant-loop-c
invariant-loop-c l = record {
  once : (c : ℕ) → c < l.c → (low : ℕ × ℕ) → chunk_of l.chunks c ≡ Some low → IsOnce l.places.entries (record { run = low.0; number = low.1 }) c;
  followed : (c : ℕ) → c < l.c → (low : ℕ × ℕ) → chunk_of l.chunks c ≡ Some low → IsFollowed l.order l.places.entries l.place (tile_at l.place c) (record { run = low.0; number = low.1 + 1 });
}
