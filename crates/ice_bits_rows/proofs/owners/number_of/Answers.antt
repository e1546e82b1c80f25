use Rattle.std.proofs.Common.{length, nat_lt, is_some, refl, sym, ap, ◌∙◌, arith}
use Rattle.std.specs.List.{position_or_len}
use Rattle.ice_base.proofs.NameLists.{place_is}
use Rattle.ice_chip.specs.Database.{same_tile}
use Rattle.ice_bits_rows.proofs.Blocks.{added_at, items_long}
use Rattle.ice_bits_rows.proofs.owners.number_of.Goals as goal

pub returns-in-Some-clause-number : goal.returns-in-Some-clause-number
returns-in-Some-clause-number c =
    let p = same_tile c.args.tile in
    let tiles = c.args.owners.now.tiles.keys in
    sym (place_is p tiles c.in-Some.number (nat_lt (position_or_len p tiles) (length tiles)) refl (sym c.get_index_of.ensures.index ∙ c.in-Some.is)).0

pub returns-in-Some-clause-there : goal.returns-in-Some-clause-there
returns-in-Some-clause-there c =
    let p = same_tile c.args.tile in
    let tiles = c.args.owners.now.tiles.keys in
    let within = (place_is p tiles c.in-Some.number (nat_lt (position_or_len p tiles) (length tiles)) refl (sym c.get_index_of.ensures.index ∙ c.in-Some.is)).1 in
    omega (arith, within, c.requires.count, items_long c.args.owners.now.blocks.items)

pub returns-in-Some-clause-same : goal.returns-in-Some-clause-same
returns-in-Some-clause-same c = λ t b. refl

pub add_tile-requires-clause-absent : goal.add_tile-requires-clause-absent
add_tile-requires-clause-absent c = sym c.get_index_of.ensures.found ∙ ap is_some c.in_default.is

pub returns-clause-number : goal.returns-clause-number
returns-clause-number c =
    c.len-number.ensures.len
    ∙ added_at c.args.tile c.args.owners.now.tiles.keys (sym c.get_index_of.ensures.found ∙ ap is_some c.in_default.is)
    ∙ ap (position_or_len (same_tile c.args.tile)) (sym c.in_ok-add_tile.ensures.tiles)
