use Rattle.std.proofs.Common.{List, map, sym, ◌∙◌}
use Rattle.std.proofs.lemmas.List.{at_drop_all}
use Rattle.ice_chip.specs.Views.{function_view}
use Rattle.ice_chip.specs.declared.sections.Function.{Function}
use Rattle.ice_decode_circuit.specs.ForeignPlaces.{foreign_places}
use Rattle.ice_decode_circuit.proofs.foreign.foreign_places.Goals as goal

pub returns : goal.returns
returns c =
    sym (c.loop-function.invariant
    ∙ at_drop_all (λ (fs : List Function). foreign_places c.loop-function.places.keys (map function_view fs)) c.args.functions.now c.loop-function.function-index c.loop-function-test.false)
