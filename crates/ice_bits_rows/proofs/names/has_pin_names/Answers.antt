use Rattle.std.proofs.Common.{◌||◌, ◌+◌, Bool, drop, sym, ap, ◌∙◌}
use Rattle.std.specs.List.{list_any}
use Rattle.std.proofs.lemmas.List.{at_drop_all}
use Rattle.ice_base.proofs.Booleans.{or_false}
use Rattle.ice_chip.specs.Database.{Parts}
use Rattle.ice_chip.specs.Lookups.{kind_at}
use Rattle.ice_chip.specs.declared.placed.PlacedName.{PlacedName}
use Rattle.ice_bits_rows.specs.WireNames.{is_input_in, is_output_in}
use Rattle.ice_bits_rows.proofs.Passing.{any_noted}
use Rattle.ice_bits_rows.proofs.names.has_pin_names.Goals as goal

abbrev is_input : Parts → PlacedName → Bool
is_input parts n = is_input_in (kind_at parts n.tile) n.name

abbrev is_output : Parts → PlacedName → Bool
is_output parts n = is_output_in (kind_at parts n.tile) n.name

pub returns-clause-input : goal.returns-clause-input
returns-clause-input c =
    sym (c.loop-placed.invariant.input
    ∙ ap (λ b. c.loop-placed.input || b) (at_drop_all (list_any (is_input c.args.chip.now)) c.names-placed-items.result.now c.loop-placed.placed-index c.loop-placed-test.false)
    ∙ or_false c.loop-placed.input)

pub returns-clause-output : goal.returns-clause-output
returns-clause-output c =
    sym (c.loop-placed.invariant.output
    ∙ ap (λ b. c.loop-placed.output || b) (at_drop_all (list_any (is_output c.args.chip.now)) c.names-placed-items.result.now c.loop-placed.placed-index c.loop-placed-test.false)
    ∙ or_false c.loop-placed.output)

pub loop-placed-preserved : goal.loop-placed-preserved
loop-placed-preserved c =
    let names = c.names-placed-items.result.now in
    let i = c.loop-placed.placed-index in
    let n = c.placed-item.result in
    record {
      input = c.loop-placed.invariant.input
          ∙ any_noted (is_input c.args.chip.now) names i n c.loop-placed.input c.pin_there-pin.result.0 c.loop-placed-test.true c.placed-item.is (c.pin_there-pin.ensures.input ∙ ap (is_input_in (kind_at c.args.chip.now n.tile)) c.as_bytes.ensures)
          ∙ ap (λ b. b || list_any (is_input c.args.chip.now) (drop (i + 1) names)) (sym c.is_one-input.ensures);
      output = c.loop-placed.invariant.output
          ∙ any_noted (is_output c.args.chip.now) names i n c.loop-placed.output c.pin_there-pin.result.1 c.loop-placed-test.true c.placed-item.is (c.pin_there-pin.ensures.output ∙ ap (is_output_in (kind_at c.args.chip.now n.tile)) c.as_bytes.ensures)
          ∙ ap (λ b. b || list_any (is_output c.args.chip.now) (drop (i + 1) names)) (sym c.is_one-output.ensures);
    }
