use Rattle.std.proofs.Common.{◌∙◌, ap, refl}
use Rattle.ice_bits.specs.Configuration.{bits_of}
use Rattle.ice_timing.specs.Entries.{entries}
use Rattle.ice_timing.proofs.Ended.{all_reached, entry_reached, is_longest}
use Rattle.ice_timing.proofs.longest_path.longest.Goals as goal

pub latest_entry-requires : goal.latest_entry-requires
latest_entry-requires c =
    all_reached c.args.chip.now c.is_chip.ensures.read (bits_of c.args.circuit.now.configuration) c.args.circuit.now.configuration.extras c.args.delays.now c.args.arrivals.now c.requires.arrivals c.deref.result.now
    (c.deref.ensures.value ∙ c.in_ok-entries.ensures ∙ ap (λ k. entries c.args.chip.now (bits_of k)) c.bits.ensures)

pub path_to-requires-clause-last : goal.path_to-requires-clause-last
path_to-requires-clause-last c =
    entry_reached c.args.chip.now c.is_chip.ensures.read (bits_of c.args.circuit.now.configuration) c.args.circuit.now.configuration.extras c.args.delays.now c.args.arrivals.now c.requires.arrivals c.deref.result.now c.in-Some.latest
    (c.deref.ensures.value ∙ c.in_ok-entries.ensures ∙ ap (λ k. entries c.args.chip.now (bits_of k)) c.bits.ensures)
    (c.in-Some.ensures.some c.args.chip.now (bits_of c.args.circuit.now.configuration) c.args.circuit.now.configuration.extras c.requires.arrivals)

pub returns : goal.returns
returns c =
    is_longest c.args.chip.now c.is_chip.ensures.read (bits_of c.args.circuit.now.configuration) c.args.circuit.now.configuration.extras c.args.delays.now c.args.arrivals.now c.requires.arrivals c.deref.result.now c.in-Some.latest _
    (c.deref.ensures.value ∙ c.in_ok-entries.ensures ∙ ap (λ k. entries c.args.chip.now (bits_of k)) c.bits.ensures)
    (c.in-Some.ensures.some c.args.chip.now (bits_of c.args.circuit.now.configuration) c.args.circuit.now.configuration.extras c.requires.arrivals) c.in_ok-points.ensures refl refl
