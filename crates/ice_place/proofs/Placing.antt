-- The first placement is legal.
use Rattle.std.proofs.Common.{◌≡◌, ◌⊎◌, inl, inr, ℕ, zero, suc, ◌+◌, ◌*◌, ◌<◌, ◌≤◌, ◌==◌, Bool, true, false, cond, ltb, Option, Some, None, Result, Ok, Err, IfOk, List, [], ◌∷◌, ◌++◌, length, drop, get_or, refl, ap, sym, ◌∙◌, subst, arith}
use Rattle.std.specs.Prelude.{slice_get}
use Rattle.std.proofs.lemmas.Bool.{cases_lt, and_parts, eqb-true}
use Rattle.std.proofs.lemmas.Bool.Decides.{leb_tells}
use Rattle.std.proofs.lemmas.Option.{slice_get-get_or}
use Rattle.std.proofs.lemmas.List.{length-map, length-take-le}
use Rattle.ice_base.specs.declared.number.TileAt.{TileAt}
use Rattle.ice_cells.specs.declared.cluster.Cluster.{Cluster}
use Rattle.ice_cells.specs.declared.cluster.Clusters.{Clusters}
use Rattle.ice_cells.specs.declared.design.Design.{Design}
use Rattle.ice_cells.specs.Clusterings.{IsClustering}
use Rattle.ice_sites.specs.Legal.{Follows, is_next, chunk_of, tile_at, IsLegal}
use Rattle.ice_place.specs.declared.fault.PlaceFault.{PlaceFault}
use Rattle.ice_place.specs.declared.fault.PlaceFault.TheVariants.{RunTooLong, Overfull}
use Rattle.ice_place.specs.Fit.{Fitting, chunks, by_size, ◌>>=◌}
use Rattle.ice_place.specs.Place.{AreStretches, lengths, chunks_of, longest, sites_count, too_long, overfull, or_else, refusal, none_taken, fitted, joined, placed, unless, place_by, place_of}
use Rattle.ice_place.specs.Answers.{Answers}
use Rattle.ice_place.proofs.Weights.{weight, total, weight_append, weight_take, weight_length, total_joined, total_count, one}
use Rattle.ice_place.proofs.Orders.{each_weaker, Listed, by_size_listed, by_size_apart, by_size_has}
use Rattle.ice_place.proofs.Fitted.{IsPiece, IsFitted, Has, Ends, all_fitted, begins, all_free, none_has}
use Rattle.ice_place.proofs.SitesOnce.{mark, once_stretches, some_stretch, stands_once, one_place}
use Rattle.ice_place.proofs.ChunkPlaces.{AreChunks, AreLong, are_long, chunks_stand, next_chunks, get_taken, get_dropped}

-- ---- what is not refused
not_too_long : (tallest : ℕ) (runs : List ℕ) → too_long tallest runs ≡ None → (r : ℕ) → r < length runs → get_or runs r 0 ≤ tallest
not_too_long tallest [] e r lt = absurd (omega arith)
not_too_long tallest (cells ∷ runs) e r lt = by (ltb tallest cells) (leb_tells (suc tallest) cells) (not_too_long tallest runs) e r lt
  where
    by : (b : Bool) → ((b ≡ true) × (suc tallest ≤ cells)) ⊎ ((b ≡ false) × (cells < suc tallest)) → (too_long tallest runs ≡ None → (r : ℕ) → r < length runs → get_or runs r 0 ≤ tallest)
        → cond b (Some (RunTooLong cells tallest)) (too_long tallest runs) ≡ None → (r : ℕ) → r < length (cells ∷ runs) → get_or (cells ∷ runs) r 0 ≤ tallest
    by true t rest e r lt = absurd (cc)
    by false (inl t) rest e r lt = absurd (cc)
    by false (inr (t, few)) rest e zero lt = (let le : cells ≤ tallest = omega arith in le)
    by false (inr (t, few)) rest e (suc r) lt = rest e r (omega arith)

pub record IsRoomy (stretches : List (List TileAt)) (runs : List ℕ) (need : ℕ) : Type 0 where
  pub short : (r : ℕ) → r < length runs → get_or runs r 0 ≤ 8 * longest stretches
  pub few : need ≤ sites_count stretches

not_overfull : (need have : ℕ) → overfull need have ≡ None → need ≤ have
not_overfull need have e = by (ltb have need) (leb_tells (suc have) need) e
  where
    by : (b : Bool) → ((b ≡ true) × (suc have ≤ need)) ⊎ ((b ≡ false) × (need < suc have)) → cond b (Some (Overfull need have)) None ≡ None → need ≤ have
    by true t e = absurd (cc)
    by false (inl t) e = absurd (cc)
    by false (inr (t, few)) e = omega arith

not_refused : (stretches : List (List TileAt)) (runs : List ℕ) (need : ℕ) → refusal stretches runs need ≡ None → IsRoomy stretches runs need
not_refused stretches runs need e = by (too_long (8 * longest stretches) runs) refl e
  where
    by : (o : Option PlaceFault) → too_long (8 * longest stretches) runs ≡ o → or_else o (overfull need (sites_count stretches)) ≡ None → IsRoomy stretches runs need
    by (Some fault) is e = absurd (cc)
    by None is e = record { short = not_too_long (8 * longest stretches) runs is; few = not_overfull need (sites_count stretches) e }

-- ---- the fitted runs
pub record IsWhole (stretches : List (List TileAt)) (runs : List ℕ) (f : Fitting) : Type 0 where
  pub fitted : IsFitted stretches runs f
  pub long : AreLong runs f.taken

pub whole : (stretches : List (List TileAt)) (runs : List ℕ) (need : ℕ) (f : Fitting) → IsRoomy stretches runs need → fitted stretches runs ≡ Ok f → IsWhole stretches runs f
whole stretches runs need f roomy e =
    let order : List ℕ = by_size (longest stretches) runs in
    let start : Fitting = record { left = stretches; taken = none_taken (length runs) } in
    let ends = all_fitted stretches runs order start f (begins stretches runs) (each_weaker (Listed (longest stretches) runs) (λ r. r < length runs) order (λ r l. l.within) (by_size_listed (longest stretches) runs))
    (by_size_apart (longest stretches) runs) (all_free runs order stretches) e in
    record { fitted = ends.fitted; long = are_long runs f.taken ends.fitted.count (λ r lt. has ends r lt (cases_lt 0 (chunks (get_or runs r 0)))) }
  where
    has : Ends stretches runs (by_size (longest stretches) runs) (record { left = stretches; taken = none_taken (length runs) }) f → (r : ℕ) → r < length runs → (0 < chunks (get_or runs r 0)) ⊎ (chunks (get_or runs r 0) ≤ 0)
        → Has runs f r
    has ends r lt (inl some) = by_size_has (Has runs f) (longest stretches) runs r ends.has lt some (let short = roomy.short r lt in omega arith)
    has ends r lt (inr none) = ends.still r (none_has runs r stretches (omega arith))

-- ---- the placement
tile_get : (at : List TileAt) (c : ℕ) → c < length at → slice_get at c ≡ Some (tile_at at c)
tile_get at c lt = slice_get-get_or at c (record { x = 0; y = 0 }) lt

chunk_get : (all : List (Option (ℕ × ℕ))) (c : ℕ) (rk : ℕ × ℕ) → chunk_of all c ≡ Some rk → slice_get all c ≡ Some (Some rk)
chunk_get [] c rk e = absurd (cc)
chunk_get (x ∷ all) zero rk e = ap Some e
chunk_get (x ∷ all) (suc c) rk e = chunk_get all c rk e

weight_all : (w : TileAt → ℕ) (stretches : List (List TileAt)) (runs : List ℕ) (f : Fitting) → IsFitted stretches runs f → weight w (joined f.taken ++ joined f.left) ≡ total w stretches
weight_all w stretches runs f h =
    weight_append w (joined f.taken) (joined f.left)
    ∙ (let t = total_joined w f.taken in let l = total_joined w f.left in let same = h.weights w in omega arith)

placed_count : (stretches : List (List TileAt)) (runs : List ℕ) (need : ℕ) (f : Fitting) → IsFitted stretches runs f → need ≤ sites_count stretches → length (placed need f) ≡ need
placed_count stretches runs need f h few =
    length-take-le need (joined f.taken ++ joined f.left)
    (let all = weight_all one stretches runs f h in
    let l = weight_length (joined f.taken ++ joined f.left) in
    let count = total_count stretches in
    omega arith)

placed_few : (stretches : List (List TileAt)) (runs : List ℕ) (need : ℕ) (f : Fitting) → IsFitted stretches runs f → (t : TileAt) → weight (mark t) (placed need f) ≤ total (mark t) stretches
placed_few stretches runs need f h t =
    let cut = weight_take (mark t) need (joined f.taken ++ joined f.left) in
    let all = weight_all (mark t) stretches runs f h in
    omega arith

follows : (stretches : List (List TileAt)) (sites : List TileAt) (k : ℕ) (low high : TileAt) → IsPiece stretches sites → slice_get sites k ≡ Some low → slice_get sites (k + 1) ≡ Some high → Follows stretches low high
follows stretches sites k low high piece e f =
    let whole : List TileAt = get_or stretches piece.stretch [] in
    let low_in = get_dropped piece.from whole k low (get_taken piece.count (drop piece.from whole) k low (ap (λ xs. slice_get xs k) (sym piece.is) ∙ e)) in
    let high_in = get_dropped piece.from whole (k + 1) high (get_taken piece.count (drop piece.from whole) (k + 1) high (ap (λ xs. slice_get xs (k + 1)) (sym piece.is) ∙ f)) in
    let next : (piece.from + k) + 1 ≡ piece.from + (k + 1) = omega arith in
    (piece.stretch, (piece.from + k, (low_in, ap (slice_get whole) next ∙ high_in)))

linked_placed : (stretches : List (List TileAt)) (runs : List ℕ) (need : ℕ) (f : Fitting) (all : List (Option (ℕ × ℕ))) → IsWhole stretches runs f → AreChunks all runs → (c d : ℕ) → c < length (placed need f) → d < length (placed need f)
    → is_next (chunk_of all c) (chunk_of all d) ≡ true → Follows stretches (tile_at (placed need f) c) (tile_at (placed need f) d)
linked_placed stretches runs need f all h are c d lt lt' next = by (chunk_of all c) (chunk_of all d) refl refl next
  where
    by : (low high : Option (ℕ × ℕ)) → chunk_of all c ≡ low → chunk_of all d ≡ high → is_next low high ≡ true → Follows stretches (tile_at (placed need f) c) (tile_at (placed need f) d)
    by None high e g n = absurd (cc)
    by (Some low) None e g n = absurd (cc)
    by (Some (r, k)) (Some (s, m)) e g n =
        let parts = and_parts (r == s) (k + 1 == m) n in
        let run : s ≡ r = sym (eqb-true r s parts.0) in
        let chunk : m ≡ k + 1 = sym (eqb-true (k + 1) m parts.1) in
        let at : slice_get all d ≡ Some (Some (r, k + 1)) = chunk_get all d (s, m) g ∙ ap (λ i. Some (Some (i, m))) run ∙ ap (λ i. Some (Some (r, i))) chunk in
        let pair = next_chunks runs f.taken (joined f.left) all c d r k h.long are (chunk_get all c (r, k) e) at in
        follows stretches (get_or f.taken pair.run []) pair.chunk (tile_at (placed need f) c) (tile_at (placed need f) d) (h.fitted.pieces pair.run)
        (sym pair.low ∙ get_taken need (joined f.taken ++ joined f.left) c (tile_at (placed need f) c) (tile_get (placed need f) c lt))
        (sym pair.high ∙ get_taken need (joined f.taken ++ joined f.left) d (tile_at (placed need f) d) (tile_get (placed need f) d lt'))

placed_legal : (stretches : List (List TileAt)) (runs : List ℕ) (f : Fitting) (all : List (Option (ℕ × ℕ))) → AreStretches stretches → AreChunks all runs → IsWhole stretches runs f → length all ≤ sites_count stretches
    → IsLegal stretches all (placed (length all) f)
placed_legal stretches runs f all are chunks h few = record {
  counts = placed_count stretches runs (length all) f h.fitted few;
  sites = λ c lt.
      (let t : TileAt = tile_at (placed (length all) f) c in
      let there = stands_once t (placed (length all) f) c (tile_get (placed (length all) f) c lt) in
      let some = placed_few stretches runs (length all) f h.fitted t in
      some_stretch t stretches (omega arith));
  apart = λ c d lt lt' same.
      (let t : TileAt = tile_at (placed (length all) f) c in
      let some = placed_few stretches runs (length all) f h.fitted t in
      let once = once_stretches stretches are t in
      one_place t (placed (length all) f) c d (omega arith) (tile_get (placed (length all) f) c lt) (tile_get (placed (length all) f) d lt' ∙ ap Some (sym same)));
  linked = linked_placed stretches runs (length all) f all h chunks;
}

-- ---- the law
by_legal : (stretches : List (List TileAt)) (runs : List ℕ) (all : List (Option (ℕ × ℕ))) (at : List TileAt) → AreStretches stretches → AreChunks all runs → place_by stretches runs (length all) ≡ Ok at → IsLegal stretches all at
by_legal stretches runs all at are chunks said = by (refusal stretches runs (length all)) refl said
  where
    after : (r : Result Fitting PlaceFault) → fitted stretches runs ≡ r → IsRoomy stretches runs (length all) → (r >>= (λ f. Ok (placed (length all) f))) ≡ Ok at → IsLegal stretches all at
    after (Err fault) is roomy said = absurd (cc)
    after (Ok f) is roomy said =
        let same : placed (length all) f ≡ at = cc in
        subst (IsLegal stretches all) same (placed_legal stretches runs f all are chunks (whole stretches runs (length all) f roomy is) roomy.few)

    by : (o : Option PlaceFault) → refusal stretches runs (length all) ≡ o → unless o (fitted stretches runs >>= (λ f. Ok (placed (length all) f))) ≡ Ok at → IsLegal stretches all at
    by (Some fault) is said = absurd (cc)
    by None is said = after (fitted stretches runs) refl (not_refused stretches runs (length all) is) said

pub place_legal : (stretches : List (List TileAt)) (clusters : Clusters) (d : Design) (at : List TileAt) → AreStretches stretches → IsClustering d clusters → place_of stretches clusters d ≡ Ok at → IsLegal stretches (chunks_of clusters.list) at
place_legal stretches clusters d at are is said =
    let count : length (chunks_of clusters.list) ≡ length clusters.list = length-map clusters.list (λ (c : Cluster). c.run) in
    by_legal stretches (lengths d.runs) (chunks_of clusters.list) at are (chunks_stand d clusters is)
    (ap (place_by stretches (lengths d.runs)) count ∙ said)

pub answers_legal : (stretches : List (List TileAt)) (clusters : Clusters) (d : Design) (r : Result (List TileAt) PlaceFault) → AreStretches stretches → IsClustering d clusters → Answers r (place_of stretches clusters d)
    → IfOk r (IsLegal stretches (chunks_of clusters.list))
answers_legal stretches clusters d (Ok at) are is said = place_legal stretches clusters d at are is said
answers_legal stretches clusters d (Err fault) are is said = tt
