-- The first placement: runs by first fit, and the other clusters on the sites that are left.
use Rattle.std.specs.Prelude.{◌≡◌, ℕ, ◌*◌, nat_lt, max, if◌then◌else◌, Option, Some, None, Result, Ok, Err, List, [], ◌∷◌, ◌++◌, map, flat_map, take, length, replicate}
use Rattle.std.specs.List.{sum_by}
use Rattle.ice_base.specs.declared.number.TileAt.{TileAt}
use Rattle.ice_chip.specs.Database.{Parts}
use Rattle.ice_cells.specs.declared.cluster.Cluster.{Cluster}
use Rattle.ice_cells.specs.declared.cluster.Clusters.{Clusters}
use Rattle.ice_cells.specs.declared.design.Design.{Design}
use Rattle.ice_cells.specs.declared.design.Run.{Run}
use Rattle.ice_sites.specs.Stretches.{stretches_of}
use Rattle.ice_place.specs.declared.fault.PlaceFault.{PlaceFault}
use Rattle.ice_place.specs.declared.fault.PlaceFault.TheVariants.{RunTooLong, Overfull}
use Rattle.ice_place.specs.Fit.{Fitting, by_size, fit, ◌>>=◌}

-- the stretches of some chip
abbrev pub AreStretches : List (List TileAt) → Type 0
AreStretches stretches = (parts : Parts) × (stretches ≡ stretches_of parts)

-- how many cells each run has
abbrev pub lengths : List Run → List ℕ
lengths runs = map (λ (run : Run). length run.cells) runs

-- of which run each cluster is a chunk, and which
abbrev pub chunks_of : List Cluster → List (Option (ℕ × ℕ))
chunks_of clusters = map (λ (c : Cluster). c.run) clusters

-- ---- what is refused before any run is fitted
-- the length of the longest stretch, or of one before these
abbrev pub longest_from : ℕ → List (List TileAt) → ℕ
longest_from most [] = most
longest_from most (s ∷ stretches) = longest_from (max most (length s)) stretches

abbrev pub longest : List (List TileAt) → ℕ
longest stretches = longest_from 0 stretches

abbrev pub sites_count : List (List TileAt) → ℕ
sites_count stretches = sum_by (λ (s : List TileAt). length s) stretches

-- the first run of more cells than fit anywhere
abbrev pub too_long : ℕ → List ℕ → Option PlaceFault
too_long tallest [] = None
too_long tallest (cells ∷ runs) = if nat_lt tallest cells then Some (RunTooLong cells tallest) else too_long tallest runs

-- more clusters than sites
abbrev pub overfull : ℕ → ℕ → Option PlaceFault
overfull need have = if nat_lt have need then Some (Overfull need have) else None

abbrev pub or_else : Option PlaceFault → Option PlaceFault → Option PlaceFault
or_else (Some fault) other = Some fault
or_else None other = other

abbrev pub refusal : List (List TileAt) → List ℕ → ℕ → Option PlaceFault
refusal stretches runs need = or_else (too_long (8 * longest stretches) runs) (overfull need (sites_count stretches))

-- ---- the placement
abbrev pub none_taken : ℕ → List (List TileAt)
none_taken runs = replicate runs []

-- all runs, most chunks first
abbrev pub fitted : List (List TileAt) → List ℕ → Result Fitting PlaceFault
fitted stretches runs = fit runs (by_size (longest stretches) runs) (record { left = stretches; taken = none_taken (length runs) })

abbrev pub joined : List (List TileAt) → List TileAt
joined lists = flat_map (λ (sites : List TileAt). sites) lists

-- the sites of the runs in order, and then those that are left, as many as there are clusters
abbrev pub placed : ℕ → Fitting → List TileAt
placed need f = take need (joined f.taken ++ joined f.left)

abbrev pub unless : Option PlaceFault → Result (List TileAt) PlaceFault → Result (List TileAt) PlaceFault
unless (Some fault) other = Err fault
unless None other = other

-- by the number of cells of each run, and the number of clusters
abbrev pub place_by : List (List TileAt) → List ℕ → ℕ → Result (List TileAt) PlaceFault
place_by stretches runs need = unless (refusal stretches runs need) (fitted stretches runs >>= (λ f. Ok (placed need f)))

-- the tile of each cluster of a design, or the fault
abbrev pub place_of : List (List TileAt) → Clusters → Design → Result (List TileAt) PlaceFault
place_of stretches clusters d = place_by stretches (lengths d.runs) (length clusters.list)
