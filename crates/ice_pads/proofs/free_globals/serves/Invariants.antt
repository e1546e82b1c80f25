use Rattle.std.proofs.Common.{◌≡◌, drop}
use Rattle.std.specs.Prelude.{◌&&◌}
use Rattle.std.specs.List.{list_any}
use Rattle.ice_chip.specs.declared.tile.Tile.{Tile}
use Rattle.ice_pads.specs.Globals.{is_logic_kind, reaches, global_wire, serves}
use Rattle.ice_pads.proofs.free_globals.serves.Given as goal

abbrev pub invariant-loop-tile : goal.invariant-loop-tile
invariant-loop-tile l = serves l.fn.index.chip.now l.pins l.fn.number ≡ list_any (λ (t : Tile). is_logic_kind t.kind && reaches l.fn.index.chip.now (global_wire l.fn.index.chip.now l.fn.number) l.pins t.at) (drop l.tile-index l.tile-items)
