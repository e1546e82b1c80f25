use Rattle.std.proofs.Common.{◌≡◌, ◌<◌, ℕ, Option, Some, sym, ap, ◌∙◌, subst}
use Rattle.std.specs.Prelude.{option_map}
use Rattle.ice_base.specs.declared.number.WireNo.{WireNo}
use Rattle.ice_chip.specs.Lookups.{wire_named}
use Rattle.ice_bits.specs.Configuration.{bits_of}
use Rattle.ice_decode.specs.Reads.{wire_point}
use Rattle.ice_back_laws.specs.Back.{reader}
use Rattle.ice_back_laws.specs.Numbers.{reader_of}
use Rattle.ice_back_laws.proofs.Ranks.{named_below}
use Rattle.ice_back_points.specs.ConfiguredChips.{ConfiguredData}
use Rattle.ice_back_points.proofs.configured.ConfiguredChip.pin_reader.Goals as goal
use Rattle.ice_back_points.proofs.configured.ConfiguredChip.pin_reader.Goals.{In_ok-wire}

found : (c : In_ok-wire) → wire_named c.self.inside.chip.now c.args.tile c.args.name.now ≡ Some c.in_ok-wire.wire.0
found c = sym c.wire_named.ensures ∙ ap (λ (o : Option WireNo). option_map (λ (w : WireNo). w.0) o) c.in_ok-wire.was

pub wire_root-requires : goal.wire_root-requires
wire_root-requires c =
    subst (λ (d : ConfiguredData). c.in_ok-wire.wire.0 < d.parts.wires) c.self.view_is
    (named_below c.self.inside.chip.now c.self.invariant.configured.chip.read c.args.tile c.args.name.now c.in_ok-wire.wire.0 (found (goal.at.wire_root-requires c).In_ok-wire))

pub returns : goal.returns
returns c =
    let here : wire_named c.args.self.now.parts c.args.tile c.args.name.now ≡ Some c.in_ok-wire.wire.0
    = subst (λ (d : ConfiguredData). wire_named d.parts c.args.tile c.args.name.now ≡ Some c.in_ok-wire.wire.0) c.self.view_is (found (goal.at.returns c).In_ok-wire) in
    c.reader_of.ensures
    ∙ ap (reader_of c.args.self.now.parts c.args.self.now.bonded.pads c.args.bare) c.wire_root.ensures.root
    ∙ ap (λ (o : Option ℕ). reader c.args.self.now.parts (bits_of c.args.self.now.configuration) c.args.self.now.configuration.extras c.args.self.now.bonded.pads c.args.bare (option_map wire_point o)) (sym here)
