use Rattle.std.proofs.Common.{◌≡◌, true, false, sym, ap, ◌∙◌}
use Rattle.std.specs.Prelude.{◌&&◌}
use Rattle.ice_bits.specs.Configuration.{Configuration, bits_of}
use Rattle.ice_decode.specs.Pads.{has_input_register}
use Rattle.ice_back_laws.specs.Roots.{is_heard, is_registered}
use Rattle.ice_back_points.specs.ConfiguredChips.{ConfiguredData}
use Rattle.ice_back_points.proofs.configured.ConfiguredChip.is_registered.Goals as goal
use Rattle.ice_back_points.proofs.configured.ConfiguredChip.is_registered.Goals.{After-has_input_register}

pub is_heard-requires : goal.is_heard-requires
is_heard-requires c = c.self.invariant.circuit.driven_by

taken : (c : After-has_input_register) → c.has_input_register.result ≡ has_input_register c.self.inside.chip.now (bits_of c.self.inside.circuit.now.configuration) c.args.pad
taken c = c.has_input_register.ensures ∙ ap (λ (k : Configuration). has_input_register c.self.inside.chip.now (bits_of k) c.args.pad) c.bits.ensures

pub returns-then-has_input_register : goal.returns-then-has_input_register
returns-then-has_input_register c =
    let a = (goal.at.returns-then-has_input_register c).After-has_input_register in
    let has : true ≡ has_input_register c.self.inside.chip.now (bits_of c.self.inside.circuit.now.configuration) c.args.pad = sym c.if-has_input_register.true ∙ taken a in
    c.is_heard.ensures
    ∙ ap (λ b. b && is_heard c.self.inside.chip.now (bits_of c.self.inside.circuit.now.configuration) c.args.pad) has
    ∙ ap (λ (d : ConfiguredData). is_registered d.parts (bits_of d.configuration) c.args.pad) c.self.view_is

pub returns-else-has_input_register : goal.returns-else-has_input_register
returns-else-has_input_register c =
    let a = (goal.at.returns-else-has_input_register c).After-has_input_register in
    let has : false ≡ has_input_register c.self.inside.chip.now (bits_of c.self.inside.circuit.now.configuration) c.args.pad = sym c.if-has_input_register.false ∙ taken a in
    c.if-has_input_register.false
    ∙ ap (λ b. b && is_heard c.self.inside.chip.now (bits_of c.self.inside.circuit.now.configuration) c.args.pad) has
    ∙ ap (λ (d : ConfiguredData). is_registered d.parts (bits_of d.configuration) c.args.pad) c.self.view_is
