-- The chunks of runs stand first among the clusters of a design, run by run.
use Rattle.std.proofs.Common.{◌≡◌, ◌⊎◌, inl, inr, ℕ, zero, suc, ◌+◌, ◌-◌, ◌<◌, ◌≤◌, Option, Some, None, List, [], ◌∷◌, ◌++◌, length, map, take, drop, get_or, refl, ap, sym, ◌∙◌, subst, append_assoc, arith}
use Rattle.std.specs.Prelude.{slice_get, flat_map}
use Rattle.std.specs.List.{range_with_len}
use Rattle.std.proofs.lemmas.Bool.{cases_lt}
use Rattle.std.proofs.lemmas.Option.{slice_get-get_or}
use Rattle.std.proofs.lemmas.List.{map-append, length-append}
use Rattle.std.proofs.lemmas.List.FromFn.{length-map-range_with_len, get_or-map-range_with_len}
use Rattle.ice_base.specs.declared.number.TileAt.{TileAt}
use Rattle.ice_cells.specs.declared.cell.Control.{Control}
use Rattle.ice_cells.specs.declared.cell.LogicCell.{LogicCell}
use Rattle.ice_cells.specs.declared.cluster.Clusters.{Clusters}
use Rattle.ice_cells.specs.declared.cluster.TileCells.{TileCells}
use Rattle.ice_cells.specs.declared.design.Design.{Design}
use Rattle.ice_cells.specs.declared.design.Run.{Run}
use Rattle.ice_cells.specs.Clusters.{run_piece, run_pieces, runs_pieces, set_piece, set_pieces, sets_pieces, plain_piece, plain_pieces, filled, left, room, with_slots}
use Rattle.ice_cells.specs.Clusterings.{opened_by, groups_by, clusters_with, IsClustering}
use Rattle.ice_cells.specs.Pieces.{pieces_count}
use Rattle.ice_cells.specs.Sets.{FlopCell, sets_of, cells_with}
use Rattle.ice_place.specs.Fit.{chunks}
use Rattle.ice_place.specs.Place.{lengths, chunks_of, joined}
use Rattle.ice_place.proofs.Weights.{total, total_none, total_cons, weight_length, one}

abbrev Chunk : Type 0
Chunk = Option (ℕ × ℕ)

abbrev chunk_in : ℕ → ℕ → Chunk
chunk_in r k = Some (r, k)

abbrev run_chunks : ℕ → ℕ → List Chunk
run_chunks r cells = map (chunk_in r) (range_with_len 0 (chunks cells))

-- the chunks of runs, the first of which has that number
abbrev pub runs_chunks : ℕ → List ℕ → List Chunk
runs_chunks r [] = []
runs_chunks r (cells ∷ runs) = run_chunks r cells ++ runs_chunks (r + 1) runs

-- none is a chunk of a run
pub NoChunks : List Chunk → Type 0
NoChunks [] = Unit {0}
NoChunks (c ∷ cs) = (c ≡ None) × NoChunks cs

no_join : (xs ys : List Chunk) → NoChunks xs → NoChunks ys → NoChunks (xs ++ ys)
unfolding NoChunks
no_join [] ys a b = b
no_join (x ∷ xs) ys a b = (a.0, no_join xs ys a.1 b)

no_at : (xs : List Chunk) (c : ℕ) (rk : ℕ × ℕ) → NoChunks xs → slice_get xs c ≡ Some (Some rk) → ⊥
unfolding NoChunks
no_at [] c rk none e = cc
no_at (x ∷ xs) zero rk none e = let h = none.0 in cc
no_at (x ∷ xs) (suc c) rk none e = no_at xs c rk none.1 e

-- ---- groups
abbrev group_run : TileCells → Chunk
group_run g = g.run

run_of_pieces : (cells : List LogicCell) (r : ℕ) (members ks : List ℕ) → map group_run (map (run_piece cells r members) ks) ≡ map (chunk_in r) ks
run_of_pieces cells r members [] = refl
run_of_pieces cells r members (k ∷ ks) = ap (λ xs. chunk_in r k ∷ xs) (run_of_pieces cells r members ks)

runs_of_pieces : (cells : List LogicCell) (r : ℕ) (runs : List Run) → map group_run (runs_pieces cells r runs) ≡ runs_chunks r (lengths runs)
runs_of_pieces cells r [] = refl
runs_of_pieces cells r (run ∷ runs) =
    map-append group_run (run_pieces cells r run) (runs_pieces cells (r + 1) runs)
    ∙ ap (λ xs. xs ++ map group_run (runs_pieces cells (r + 1) runs)) (run_of_pieces cells r run.cells (range_with_len 0 (pieces_count run.cells)))
    ∙ ap (λ xs. run_chunks r (length run.cells) ++ xs) (runs_of_pieces cells (r + 1) runs)

no_set : (control : Control) (members ks : List ℕ) → NoChunks (map group_run (map (set_piece control members) ks))
unfolding NoChunks
no_set control members [] = tt
no_set control members (k ∷ ks) = (refl, no_set control members ks)

no_sets : (flops : List FlopCell) (sets : List Control) → NoChunks (map group_run (flat_map (λ control. set_pieces control (cells_with flops control)) sets))
unfolding NoChunks
no_sets flops [] = tt
no_sets flops (control ∷ sets) =
    subst NoChunks (sym (map-append group_run (set_pieces control (cells_with flops control)) (flat_map (λ control. set_pieces control (cells_with flops control)) sets)))
    (no_join (map group_run (set_pieces control (cells_with flops control))) (map group_run (flat_map (λ control. set_pieces control (cells_with flops control)) sets))
    (no_set control (cells_with flops control) (range_with_len 0 (pieces_count (cells_with flops control)))) (no_sets flops sets))

no_plain : (members ks : List ℕ) → NoChunks (map group_run (map (plain_piece members) ks))
unfolding NoChunks
no_plain members [] = tt
no_plain members (k ∷ ks) = (refl, no_plain members ks)

run_of_filled : (groups : List TileCells) (plains : List ℕ) → map group_run (filled groups plains) ≡ map group_run groups
run_of_filled [] plains = refl
run_of_filled (g ∷ groups) plains = ap (λ xs. g.run ∷ xs) (run_of_filled groups (drop_room g plains))
  where
    drop_room : TileCells → List ℕ → List ℕ
    drop_room g plains = drop (room g) plains

run_of_slots : (groups : List TileCells) → chunks_of (map with_slots groups) ≡ map group_run groups
run_of_slots [] = refl
run_of_slots (g ∷ groups) = ap (λ xs. g.run ∷ xs) (run_of_slots groups)

-- the chunks of the runs, and then none
pub record AreChunks (all : List Chunk) (runs : List ℕ) : Type 0 where
  pub others : List Chunk
  pub is : all ≡ runs_chunks 0 runs ++ others
  pub none : NoChunks others

made_stand : (d : Design) (flops : List FlopCell) (plains : List ℕ) → AreChunks (chunks_of (clusters_with d flops plains).list) (lengths d.runs)
made_stand d flops plains =
    let sets = map group_run (sets_pieces flops) in
    let firsts = opened_by d.cells d.runs flops in
    let last = left firsts plains in
    record {
      others = sets ++ map group_run (plain_pieces last);
      is = run_of_slots (groups_by d.cells d.runs flops plains) ∙ map-append group_run (filled firsts plains) (plain_pieces last)
          ∙ ap (λ xs. xs ++ map group_run (plain_pieces last))
          (run_of_filled firsts plains ∙ map-append group_run (runs_pieces d.cells 0 d.runs) (sets_pieces flops)
          ∙ ap (λ xs. xs ++ sets) (runs_of_pieces d.cells 0 d.runs))
          ∙ append_assoc (runs_chunks 0 (lengths d.runs)) sets (map group_run (plain_pieces last));
      none = no_join sets (map group_run (plain_pieces last)) (no_sets flops (sets_of flops)) (no_plain last (range_with_len 0 (pieces_count last)));
    }

pub chunks_stand : (d : Design) (clusters : Clusters) → IsClustering d clusters → AreChunks (chunks_of clusters.list) (lengths d.runs)
chunks_stand d clusters of_cells = subst (λ (x : Clusters). AreChunks (chunks_of x.list) (lengths d.runs)) (sym of_cells.is) (made_stand d of_cells.flops of_cells.plains)

-- ---- places in lists
get_left : {X : Type 0} → (xs ys : List X) (i : ℕ) → i < length xs → slice_get (xs ++ ys) i ≡ slice_get xs i
get_left [] ys i lt = absurd (omega arith)
get_left (x ∷ xs) ys zero lt = refl
get_left (x ∷ xs) ys (suc i) lt = get_left xs ys i (omega arith)

get_right : {X : Type 0} → (xs ys : List X) (i : ℕ) → slice_get (xs ++ ys) (length xs + i) ≡ slice_get ys i
get_right [] ys i = let e : 0 + i ≡ i = omega arith in ap (slice_get ys) e
get_right (x ∷ xs) ys i = let e : suc (length xs) + i ≡ suc (length xs + i) = omega arith in ap (slice_get (x ∷ (xs ++ ys))) e ∙ get_right xs ys i

pub get_taken : {X : Type 0} → (n : ℕ) (xs : List X) (i : ℕ) (x : X) → slice_get (take n xs) i ≡ Some x → slice_get xs i ≡ Some x
get_taken zero xs i x e = absurd (cc)
get_taken (suc n) [] i x e = absurd (cc)
get_taken (suc n) (y ∷ xs) zero x e = e
get_taken (suc n) (y ∷ xs) (suc i) x e = get_taken n xs i x e

pub get_dropped : {X : Type 0} → (n : ℕ) (xs : List X) (i : ℕ) (x : X) → slice_get (drop n xs) i ≡ Some x → slice_get xs (n + i) ≡ Some x
get_dropped zero xs i x e = let z : 0 + i ≡ i = omega arith in ap (slice_get xs) z ∙ e
get_dropped (suc n) [] i x e = absurd (cc)
get_dropped (suc n) (y ∷ xs) i x e = let z : suc n + i ≡ suc (n + i) = omega arith in ap (slice_get (y ∷ xs)) z ∙ get_dropped n xs i x e

-- ---- each run has as many sites as it has chunks
pub AreLong : List ℕ → List (List TileAt) → Type 0
AreLong [] taken = Unit {0}
AreLong (cells ∷ runs) [] = ⊥
AreLong (cells ∷ runs) (sites ∷ taken) = (length sites ≡ chunks cells) × AreLong runs taken

pub are_long : (runs : List ℕ) (taken : List (List TileAt)) → length taken ≡ length runs → ((r : ℕ) → r < length runs → length (get_or taken r []) ≡ chunks (get_or runs r 0)) → AreLong runs taken
unfolding AreLong
are_long [] taken e h = tt
are_long (cells ∷ runs) [] e h = absurd (omega arith)
are_long (cells ∷ runs) (sites ∷ taken) e h = (h 0 (let lt : 0 < suc (length runs) = omega arith in lt), are_long runs taken (omega arith) (λ r lt. h (suc r) (omega arith)))

pub chunks_count : (r : ℕ) (runs : List ℕ) (taken : List (List TileAt)) → length taken ≡ length runs → AreLong runs taken → length (runs_chunks r runs) ≡ total one taken
unfolding AreLong
chunks_count r [] [] e h = sym (total_none one)
chunks_count r [] (sites ∷ taken) e h = absurd (omega arith)
chunks_count r (cells ∷ runs) [] e h = absurd h
chunks_count r (cells ∷ runs) (sites ∷ taken) e h =
    length-append (run_chunks r cells) (runs_chunks (r + 1) runs)
    ∙ (let rest = chunks_count (r + 1) runs taken (omega arith) h.1 in
    let here = length-map-range_with_len (chunk_in r) 0 (chunks cells) in
    let same = h.0 in
    let c = total_cons one sites taken in
    let l = weight_length sites in
    omega arith)

-- where the cluster that is chunk k of run r stands
record Found (taken : List (List TileAt)) (more : List TileAt) (first c r k : ℕ) : Type 0 where
  at : ℕ
  is : r ≡ first + at
  tile : slice_get (joined taken ++ more) c ≡ slice_get (get_or taken at []) k

chunk_at : (r0 cells c : ℕ) (others : List Chunk) (r k : ℕ) → c < chunks cells → slice_get (run_chunks r0 cells ++ others) c ≡ Some (Some (r, k)) → (r0 ≡ r) × (c ≡ k)
chunk_at r0 cells c others r k lt e =
    let l = length-map-range_with_len (chunk_in r0) 0 (chunks cells) in
    let within : c < length (run_chunks r0 cells) = omega arith in
    let here : slice_get (run_chunks r0 cells) c ≡ Some (chunk_in r0 c) = slice_get-get_or (run_chunks r0 cells) c None within ∙ ap Some (get_or-map-range_with_len (chunk_in r0) 0 (chunks cells) c c None lt (omega arith)) in
    let same : Some (chunk_in r0 c) ≡ Some (Some (r, k)) = sym here ∙ sym (get_left (run_chunks r0 cells) others c within) ∙ e in
    let inner : ◌≡◌ {A = ℕ × ℕ} (r0, c) (r, k) = cc in
    (ap (λ (p : ℕ × ℕ). p.0) inner, ap (λ (p : ℕ × ℕ). p.1) inner)

find_chunk : (r0 : ℕ) (runs : List ℕ) (taken : List (List TileAt)) (more : List TileAt) (others : List Chunk) (c r k : ℕ) → AreLong runs taken → NoChunks others → slice_get (runs_chunks r0 runs ++ others) c ≡ Some (Some (r, k))
    → Found taken more r0 c r k
unfolding AreLong
find_chunk r0 [] taken more others c r k long none e = absurd (no_at others c (r, k) none e)
find_chunk r0 (cells ∷ runs) [] more others c r k long none e = absurd long
find_chunk r0 (cells ∷ runs) (sites ∷ taken) more others c r k long none e = by (cases_lt c (chunks cells)) (λ j. find_chunk (r0 + 1) runs taken more others j r k long.1 none)
  where
    said : slice_get (run_chunks r0 cells ++ (runs_chunks (r0 + 1) runs ++ others)) c ≡ Some (Some (r, k))
    said = ap (λ xs. slice_get xs c) (sym (append_assoc (run_chunks r0 cells) (runs_chunks (r0 + 1) runs) others)) ∙ e

    by : (c < chunks cells) ⊎ (chunks cells ≤ c) → ((j : ℕ) → slice_get (runs_chunks (r0 + 1) runs ++ others) j ≡ Some (Some (r, k)) → Found taken more (r0 + 1) j r k) → Found (sites ∷ taken) more r0 c r k
    by (inl lt) rest =
        let same = chunk_at r0 cells c (runs_chunks (r0 + 1) runs ++ others) r k lt said in
        let same0 = same.0 in
        let long0 = long.0 in
        record {
          at = 0;
          is = omega arith;
          tile = ap (λ xs. slice_get xs c) (append_assoc sites (joined taken) more) ∙ get_left sites (joined taken ++ more) c (omega arith) ∙ ap (slice_get sites) same.1;
        }
    by (inr le) rest =
        let long0 = long.0 in
        let l = length-map-range_with_len (chunk_in r0) 0 (chunks cells) in
        let j : ℕ = c - chunks cells in
        let first : c ≡ length (run_chunks r0 cells) + j = omega arith in
        let other : c ≡ length sites + j = omega arith in
        let found = rest j (sym (get_right (run_chunks r0 cells) (runs_chunks (r0 + 1) runs ++ others) j) ∙ ap (slice_get (run_chunks r0 cells ++ (runs_chunks (r0 + 1) runs ++ others))) (sym first) ∙ said) in
        let is = found.is in
        record {
          at = suc found.at;
          is = omega arith;
          tile = ap (λ xs. slice_get xs c) (append_assoc sites (joined taken) more) ∙ ap (slice_get (sites ++ (joined taken ++ more))) other ∙ get_right sites (joined taken ++ more) j ∙ found.tile;
        }

pub record Pair (taken : List (List TileAt)) (more : List TileAt) (c d : ℕ) : Type 0 where
  pub run : ℕ
  pub chunk : ℕ
  pub low : slice_get (joined taken ++ more) c ≡ slice_get (get_or taken run []) chunk
  pub high : slice_get (joined taken ++ more) d ≡ slice_get (get_or taken run []) (chunk + 1)

pub next_chunks : (runs : List ℕ) (taken : List (List TileAt)) (more : List TileAt) (all : List Chunk) (c d r k : ℕ) → AreLong runs taken → AreChunks all runs → slice_get all c ≡ Some (Some (r, k)) → slice_get all d ≡ Some (Some (r, k + 1))
    → Pair taken more c d
next_chunks runs taken more all c d r k long are e f =
    let low = find_chunk 0 runs taken more are.others c r k long are.none (ap (λ xs. slice_get xs c) (sym are.is) ∙ e) in
    let high = find_chunk 0 runs taken more are.others d r (k + 1) long are.none (ap (λ xs. slice_get xs d) (sym are.is) ∙ f) in
    let a = low.is in
    let b = high.is in
    let same : high.at ≡ low.at = omega arith in
    record { run = low.at; chunk = k; low = low.tile; high = high.tile ∙ ap (λ j. slice_get (get_or taken j []) (k + 1)) same }
