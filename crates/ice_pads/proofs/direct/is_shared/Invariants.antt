use Rattle.std.proofs.Common.{◌≡◌, drop}
use Rattle.std.specs.List.{list_any}
use Rattle.ice_pads.specs.Globals.{is_shared_by}
use Rattle.ice_pads.proofs.direct.is_shared.Given as goal

abbrev pub invariant-loop-other : goal.invariant-loop-other
invariant-loop-other l = list_any (is_shared_by l.chip l.number l.extra) l.others ≡ list_any (is_shared_by l.chip l.number l.extra) (drop l.other-index l.others)
