use Rattle.std.proofs.Common.{◌++◌, ◌∷◌, [], if◌then◌else◌, ap, ◌∙◌}
use Rattle.ice_back.proofs.Rooms.{new_name}
use Rattle.ice_back.proofs.names.add_name.Goals as goal

pub returns : goal.returns
returns c =
    c.in_ok-signal.ensures.appended
    ∙ ap (λ b. record c.args.netlist.now { names = if b then c.args.netlist.now.names else c.args.netlist.now.names ++ c.args.name.now ∷ [] }) (new_name c.args.netlist.now c.args.name.now c.requires)
