use Rattle.std.proofs.Common.{length, refl, sym, subst, ◌∙◌, arith}
use Rattle.ice_bits.specs.Configuration.{Configuration}
use Rattle.ice_bits.specs.Grids.{IsOf}
use Rattle.ice_sim_chip_rams.proofs.Pins.{held_long}
use Rattle.ice_sim_chip_rams.proofs.StepsTold.{shown_same}
use Rattle.ice_sim_chip_rams.proofs.playing.play_closed.Goals as goal

pub rams_at-requires : goal.rams_at-requires
rams_at-requires c = subst (λ (k : Configuration). IsOf c.args.chip.now k) (sym c.bits.ensures) c.requires.bits

pub play_at-requires-clause-pads : goal.play_at-requires-clause-pads
play_at-requires-clause-pads c =
    let long =
    held_long c.args.chip.now c.bits.result.now c.args.sites.now c.args.bonded.now c.deref.result.now c.deref_mut.result.now (c.deref.ensures.value ∙ c.in_ok-pads.ensures)
    (c.deref_mut.ensures.value ∙ c.in_ok-held.ensures)
    in
    omega (arith, long)

pub returns : goal.returns
returns c =
    c.in_ok-text.ensures
    ∙ shown_same c.args.chip.now c.args.circuit.now.configuration c.bits.result.now c.args.sites.now c.args.bonded.now c.deref.result.now (length c.args.bonded.now) c.deref_mut.result.now c.args.levels.now c.bits.ensures
    (c.deref.ensures.value ∙ c.in_ok-pads.ensures) refl (c.deref_mut.ensures.value ∙ c.in_ok-held.ensures)
