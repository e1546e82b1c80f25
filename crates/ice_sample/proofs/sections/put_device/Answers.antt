use Rattle.std.proofs.Common.{◌≡◌, ◌++◌, ◌∷◌, [], codes, decimal, subst}
use Rattle.std.specs.Prelude.{OnOk}
use Rattle.ice_base.specs.Lines.{text_of_lines}
use Rattle.ice_sample.specs.Lines.{number_words}
use Rattle.ice_sample.proofs.sections.put_device.Goals as goal

pub returns : goal.returns
returns c =
    let g = c.args.grid.now in
    subst (λ wires. OnOk c.put_size.result (c.put_size.new.text.items ≡ c.args.text.now.items ++ text_of_lines ((codes ".device 1k " ++ number_words g.width g.height ++ codes " " ++ decimal wires) ∷ [])))
    g.counted c.put_size.ensures
