use Rattle.std.proofs.Common.{◌≡◌, map, sym, subst, ap, ◌∙◌}
use Rattle.ice_bits.specs.Grids.{IsOf, blank}
use Rattle.ice_bits.specs.TileForms.{blank_at, kind_of}
use Rattle.ice_bits.proofs.TileWrites.{of_tiles, blank_all}
use Rattle.ice_bits.proofs.Forms.{blank_is_of}
use Rattle.ice_bits.proofs.bits.blank.Goals as goal
use Rattle.ice_bits.proofs.bits.blank.Goals.{After-new-2}

is_blank : (c : After-new-2) → of_tiles c.in_ok-grids.grids c.in_ok-kinds.kinds.items c.new.result.items c.new-2.result ≡ blank c.args.chip.now
is_blank c =
    blank_all c.args.chip.now c.in_ok-grids.grids c.in_ok-kinds.kinds.items c.new.result.items c.new-2.result (c.in_ok-grids.ensures ∙ ap (map blank_at) c.tiles-2.ensures)
    (c.in_ok-kinds.ensures ∙ ap (map kind_of) c.tiles.ensures) c.new.ensures.items c.new-2.ensures

pub returns-clause-blank : goal.returns-clause-blank
returns-clause-blank c = is_blank (goal.at.returns-clause-blank c).After-new-2

pub returns-clause-form : goal.returns-clause-form
returns-clause-form c = subst (IsOf c.args.chip.now) (sym (is_blank (goal.at.returns-clause-form c).After-new-2)) (blank_is_of c.args.chip.now)
