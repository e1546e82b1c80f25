use Rattle.std.proofs.Common.{◌≡◌, false, sym, ap, ◌∙◌, subst}
use Rattle.ice_bits.specs.Configuration.{Configuration, bits_of}
use Rattle.ice_back_laws.specs.Numbers.{reader_of}
use Rattle.ice_back_laws.specs.Roots.{IsNumbered, carry_root}
use Rattle.ice_back_points.specs.ConfiguredChips.{ConfiguredData, IsConfigured}
use Rattle.ice_back_points.proofs.ConfiguredFacts.{carry_numbered, carry_root_is}
use Rattle.ice_back_points.proofs.configured.ConfiguredChip.carry_reader.Goals as goal
use Rattle.ice_back_points.proofs.configured.ConfiguredChip.carry_reader.Goals.{After-carry_root}

configured : (c : After-carry_root) → IsConfigured c.args.self.now
configured c = subst (λ (d : ConfiguredData). IsConfigured d) c.self.view_is c.self.invariant.configured

root_is : (c : After-carry_root) → c.carry_root.result ≡ carry_root c.args.self.now.parts (bits_of c.args.self.now.configuration) c.args.tile c.args.cell
root_is c =
    c.carry_root.ensures
    ∙ ap (λ (k : Configuration). carry_root c.self.inside.chip.now (bits_of k) c.args.tile c.args.cell) c.bits.ensures
    ∙ ap (λ (d : ConfiguredData). carry_root d.parts (bits_of c.args.self.now.configuration) c.args.tile c.args.cell) c.self.view_is

pub reader_of-requires : goal.reader_of-requires
reader_of-requires c =
    let a = (goal.at.reader_of-requires c).After-carry_root in
    subst (IsNumbered c.args.self.now.parts c.args.self.now.bonded.pads) (sym (root_is a)) (carry_numbered c.args.self.now (configured a) c.args.tile c.args.cell c.requires)

pub returns : goal.returns
returns c =
    let a = (goal.at.returns c).After-carry_root in
    c.reader_of.ensures
    ∙ ap (reader_of c.args.self.now.parts c.args.self.now.bonded.pads false) (root_is a ∙ sym (carry_root_is c.args.self.now (configured a) c.args.tile c.args.cell c.requires))
