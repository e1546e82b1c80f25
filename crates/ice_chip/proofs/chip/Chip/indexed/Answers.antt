use Rattle.std.proofs.Common.{rules}
use Rattle.std.proofs.lemmas.Result.{IfOk-at_ok}
use Rattle.ice_chip.specs.IndexForms.{IsWireIndex, IsServerIndex, IsPlaceIndex}
use Rattle.ice_chip.specs.Views.{parts_view}
use Rattle.ice_chip.proofs.chip.Chip.indexed.Goals as goal

pub invariant_of-result : goal.invariant_of-result
invariant_of-result c =
    let parts = parts_view c.args.parts in
    let servers = IfOk-at_ok _ c.in-Ok.ensures.0 c.both-servers.ensures in
    record {
      wires = IfOk-at_ok (IsWireIndex parts) servers.0 c.new-wires.ensures;
      servers = IfOk-at_ok (IsServerIndex parts) servers.1 c.new.ensures;
      places = IfOk-at_ok (IsPlaceIndex parts) c.in-Ok.ensures.1 c.new-2.ensures;
      chip = search rules;
    }
