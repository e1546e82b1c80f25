use Rattle.std.proofs.Common.{[], ◌∷◌, ◌++◌, sym, ap, ◌∙◌, append-nil}
use Rattle.std.specs.Option.{option_map_or}
use Rattle.std.proofs.lemmas.Option.{slice_get_past}
use Rattle.ice_net.specs.declared.port.Port.{Port}
use Rattle.ice_ram_read.proofs.clocks.add_signal.Goals as goal

pub returns-in-None : goal.returns-in-None
returns-in-None c =
    let none = slice_get_past c.args.ports.now c.args.place c.in-None.ensures.lookup.3 in
    sym (append-nil c.args.signals.now.items) ∙ ap (λ o. c.args.signals.now.items ++ option_map_or (λ (port : Port). port.signal ∷ []) o []) (sym none)
