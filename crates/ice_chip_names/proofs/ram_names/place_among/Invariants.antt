use Rattle.std.proofs.Common.{◌≡◌, drop, map}
use Rattle.ice_chip_names.specs.RamNames.{place_among}
use Rattle.ice_chip_names.proofs.ram_names.place_among.Given as goal

abbrev pub invariant-loop-place : goal.invariant-loop-place
invariant-loop-place l = place_among l.name 0 (map (λ known. known.now) l.names) ≡ place_among l.name l.place (map (λ known. known.now) (drop l.place l.names))
