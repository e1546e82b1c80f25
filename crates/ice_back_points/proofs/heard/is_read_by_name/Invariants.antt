use Rattle.std.proofs.Common.{◌≡◌, drop}
use Rattle.std.specs.List.{list_any}
use Rattle.ice_chip.specs.Lookups.{names_of}
use Rattle.ice_back_laws.specs.Roots.{is_reading_name}
use Rattle.ice_back_points.proofs.heard.is_read_by_name.Given as goal

abbrev pub invariant-loop-name : goal.invariant-loop-name
invariant-loop-name l = list_any is_reading_name (names_of l.chip l.fn.wire.0) ≡ list_any is_reading_name (drop l.name-index l.name-items)
