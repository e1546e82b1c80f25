use Rattle.std.proofs.Common.{◌∷◌}
use Rattle.ice_flow_chip_frame.proofs.Looks.{asc_refused}
use Rattle.ice_flow_chip_frame.proofs.configured.make_on_chip.Goals as goal

pub make_of_bits-requires-clause-read : goal.make_of_bits-requires-clause-read
make_of_bits-requires-clause-read g c = (c.requires.0, record { is_chip = c.requires.1; are_bits = rw c.at.ensures at c.in-Ok.ensures.answers })

pub returns-in-Ok-clause-given : goal.returns-in-Ok-clause-given
returns-in-Ok-clause-given g c = λ chip_text says. c.make_of_bits.ensures.given chip_text (record { is_chip = says; are_bits = rw c.at.ensures at c.in-Ok.ensures.answers })

pub returns-in-Ok-clause-refused : goal.returns-in-Ok-clause-refused
returns-in-Ok-clause-refused g c = λ chip_text says. c.make_of_bits.ensures.refused chip_text (record { is_chip = says; are_bits = rw c.at.ensures at c.in-Ok.ensures.answers })

pub returns-in-Err-clause-refused : goal.returns-in-Err-clause-refused
returns-in-Err-clause-refused g c = λ chip_text says.
    let texts = chip_text ∷ c.args.texts.now in
    asc_refused (g.M.ChipMaking.rams c.args.making.now) (g.M.ChipMaking.stands c.args.making.now texts) c.args.package_name.now texts c.args.chip.now c.in-Err.fault c.asc_refusal.result says
    (rw c.at.ensures at c.in-Err.ensures.answers) c.asc_refusal.ensures
