-- One more turn of the loops that compile netlists, and of those that wire arrays.
use Rattle.std.proofs.Common.{◌≡◌, ℕ, suc, ◌+◌, ◌<◌, List, [], ◌∷◌, ◌++◌, length, drop, take, get_or, Option, refl, ap, sym, ◌∙◌, arith, append_assoc}
use Rattle.std.specs.List.{flat_map}
use Rattle.std.proofs.lemmas.List.{at_drop_more, take_more, flat_map_more}
use Rattle.ice_net.specs.NetlistData.{NetlistData}
use Rattle.ice_net.specs.declared.cell.Cell.{Cell}
use Rattle.ice_sim_sweep.specs.declared.parts.Gate.{Gate}
use Rattle.ice_sim_sweep.specs.declared.parts.Link.{Link}
use Rattle.ice_sim_sweep.specs.declared.parts.Keeper.{Keeper}
use Rattle.ice_sim_sweep.specs.declared.parts.Feed.{Feed}
use Rattle.ice_sim_sweep.specs.Feeds.{port_in, kept_in, linked, gate_in, feed_of, keeper_at, keepers_of}
use Rattle.ice_sim_sweep.specs.Plans.{IsWiring}
use Rattle.ice_sim_sweep.specs.Arrays.{links_from, gates_from}

-- ---- what is left of a list
module _ {X A : Type 0} (F : ℕ → List X → List A) (G : ℕ → X → List A) (cut : (i : ℕ) (x : X) (xs : List X) → F i (x ∷ xs) ≡ G i x ++ F (i + 1) xs) where
  pub joined : (d : X) (all old new : List A) (xs : List X) (i : ℕ) → i < length xs → all ≡ old ++ F i (drop i xs) → new ≡ old ++ G i (get_or xs i d)
      → all ≡ new ++ F (i + 1) (drop (i + 1) xs)
  joined d all old new xs i lt e pushed =
      e
      ∙ ap (λ ys. old ++ ys) (at_drop_more (F i) xs i d lt ∙ cut i (get_or xs i d) (drop (i + 1) xs))
      ∙ sym (append_assoc old (G i (get_or xs i d)) (F (i + 1) (drop (i + 1) xs)))
      ∙ ap (λ ys. ys ++ F (i + 1) (drop (i + 1) xs)) (sym pushed)

pub links_joined : (source : Feed → Option ℕ) (d : Feed) (all old new : List Link) (feeds : List Feed) (i : ℕ) → i < length feeds
    → all ≡ old ++ links_from source i (drop i feeds) → new ≡ old ++ linked i (source (get_or feeds i d)) → all ≡ new ++ links_from source (i + 1) (drop (i + 1) feeds)
links_joined source d all old new feeds i lt e pushed = joined (links_from source) (λ k feed. linked k (source feed)) cut d all old new feeds i lt e pushed
  where
    cut : (k : ℕ) (feed : Feed) (rest : List Feed) → links_from source k (feed ∷ rest) ≡ linked k (source feed) ++ links_from source (k + 1) rest
    cut k feed rest = let one : suc k ≡ k + 1 = omega arith in ap (λ n. linked k (source feed) ++ links_from source n rest) one

pub gates_joined : (d : Feed) (all old new : List Gate) (feeds : List Feed) (i : ℕ) → i < length feeds → all ≡ old ++ gates_from (drop i feeds)
    → new ≡ old ++ gate_in (get_or feeds i d) → all ≡ new ++ gates_from (drop (i + 1) feeds)
gates_joined d all old new feeds i lt e pushed = joined (λ k. gates_from) (λ k. gate_in) (λ k x ys. refl) d all old new feeds i lt e pushed

pub keepers_joined : (signals : ℕ) (d : Cell) (all old new : List Keeper) (cells : List Cell) (i : ℕ) → i < length cells → all ≡ old ++ keepers_of signals i (drop i cells)
    → new ≡ old ++ keeper_at signals i (get_or cells i d).kind (get_or cells i d).ins → all ≡ new ++ keepers_of signals (i + 1) (drop (i + 1) cells)
keepers_joined signals d all old new cells i lt e pushed = joined (keepers_of signals) (λ k cell. keeper_at signals k cell.kind cell.ins) cut d all old new cells i lt e pushed
  where
    cut : (k : ℕ) (cell : Cell) (rest : List Cell) → keepers_of signals k (cell ∷ rest) ≡ keeper_at signals k cell.kind cell.ins ++ keepers_of signals (k + 1) rest
    cut k cell rest = let one : suc k ≡ k + 1 = omega arith in ap (λ n. keeper_at signals k cell.kind cell.ins ++ keepers_of signals n rest) one

-- ---- what was taken of a list
flat_taken : {X A : Type 0} (f : X → List A) (d : X) (old new : List A) (xs : List X) (i : ℕ) → i < length xs → old ≡ flat_map f (take i xs) → new ≡ old ++ f (get_or xs i d)
    → new ≡ flat_map f (take (i + 1) xs)
flat_taken f d old new xs i lt e pushed =
    pushed ∙ ap (λ ys. ys ++ f (get_or xs i d)) e ∙ flat_map_more f [] (take i xs) (get_or xs i d) ∙ ap (flat_map f) (sym (take_more xs i d lt))

pub wiring_more : (n : NetlistData) (d : ℕ) (pads pads_new keeps keeps_new : List Link) (gates gates_new : List Gate) (order : List ℕ) (i : ℕ) (feed : Feed) → i < length order
    → IsWiring n (take i order) pads keeps gates → feed ≡ feed_of n (get_or order i d) → pads_new ≡ pads ++ linked (get_or order i d) (port_in feed)
    → keeps_new ≡ keeps ++ linked (get_or order i d) (kept_in feed) → gates_new ≡ gates ++ gate_in feed → IsWiring n (take (i + 1) order) pads_new keeps_new gates_new
wiring_more n d pads pads_new keeps keeps_new gates gates_new order i feed lt w is on_pads on_keeps on_gates =
    let s : ℕ = get_or order i d in
    record {
      pads_are = flat_taken (λ s. linked s (port_in (feed_of n s))) d pads pads_new order i lt w.pads_are (on_pads ∙ ap (λ f. pads ++ linked s (port_in f)) is);
      keeps_are = flat_taken (λ s. linked s (kept_in (feed_of n s))) d keeps keeps_new order i lt w.keeps_are (on_keeps ∙ ap (λ f. keeps ++ linked s (kept_in f)) is);
      gates_are = flat_taken (λ s. gate_in (feed_of n s)) d gates gates_new order i lt w.gates_are (on_gates ∙ ap (λ f. gates ++ gate_in f) is);
    }
