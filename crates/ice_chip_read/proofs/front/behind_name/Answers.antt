use Rattle.std.proofs.Common.{sym, ◌∙◌}
use Rattle.ice_chip_read.proofs.Fronts.{name_stands}
use Rattle.ice_chip_read.proofs.front.behind_name.Goals as goal

pub returns : goal.returns
returns c =
    name_stands c.args.text.now c.args.count c.requires.within c.requires.signs c.if-count-eq0.false c.if-text-count-ne10.false (sym c.begins_with.ensures ∙ c.if-begins_with.false)
