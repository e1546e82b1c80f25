use Rattle.std.proofs.Common.{◌≡◌, ℕ, None, slice_index_or}
use Rattle.ice_pads.proofs.PortPlaces.{place_among}
use Rattle.ice_pads.proofs.places.places_of.Given as goal

abbrev pub invariant-loop-place : goal.invariant-loop-place
invariant-loop-place l = (s : ℕ) → slice_index_or l.places.items s None ≡ place_among l.ports l.place s
