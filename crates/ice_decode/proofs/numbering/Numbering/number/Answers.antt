use Rattle.std.proofs.Common.{◌≡◌, length, ap, sym, ◌∙◌, arith}
use Rattle.ice_decode.proofs.Numbered.{wire_number, place_there, carry_number, carry_bound}
use Rattle.ice_decode.proofs.numbering.Numbering.number.Goals as goal

pub unwrap-place-requires : goal.unwrap-place-requires
unwrap-place-requires c =
    place_there c.args.self.now c.self.inside.wires c.self.inside.tiles.keys (sym c.self.view_is ∙ c.self.invariant.points) c.args.point c.requires
    c.in-Carry.tile c.in-Carry.cell c.in-Carry.is c.get_index_of.result c.get_index_of.ensures.index

pub overflow_mul-result : goal.overflow_mul-result
overflow_mul-result c =
    let bound = carry_bound c.args.self.now c.self.inside.wires c.self.inside.tiles.keys (sym c.self.view_is ∙ c.self.invariant.points) c.args.point c.requires
    c.in-Carry.tile c.in-Carry.cell c.unwrap-place.result c.in-Carry.is (sym c.get_index_of.ensures.index ∙ c.unwrap-place.ensures) in
    let long : length c.self.inside.points.items ≡ length c.args.self.now = ap length c.self.view_is in
    omega arith

pub overflow_add-result : goal.overflow_add-result
overflow_add-result c =
    let bound = carry_bound c.args.self.now c.self.inside.wires c.self.inside.tiles.keys (sym c.self.view_is ∙ c.self.invariant.points) c.args.point c.requires
    c.in-Carry.tile c.in-Carry.cell c.unwrap-place.result c.in-Carry.is (sym c.get_index_of.ensures.index ∙ c.unwrap-place.ensures) in
    let long : length c.self.inside.points.items ≡ length c.args.self.now = ap length c.self.view_is in
    omega arith

pub overflow_add-result-in-Carry : goal.overflow_add-result-in-Carry
overflow_add-result-in-Carry c =
    let bound = carry_bound c.args.self.now c.self.inside.wires c.self.inside.tiles.keys (sym c.self.view_is ∙ c.self.invariant.points) c.args.point c.requires
    c.in-Carry.tile c.in-Carry.cell c.unwrap-place.result c.in-Carry.is (sym c.get_index_of.ensures.index ∙ c.unwrap-place.ensures) in
    let long : length c.self.inside.points.items ≡ length c.args.self.now = ap length c.self.view_is in
    omega arith

pub returns-in-Wire : goal.returns-in-Wire
returns-in-Wire c =
    wire_number c.args.self.now c.self.inside.wires c.self.inside.tiles.keys (sym c.self.view_is ∙ c.self.invariant.points) c.args.point c.requires c.in-Wire.wire.0 c.in-Wire.is

pub returns-in-Carry : goal.returns-in-Carry
returns-in-Carry c =
    carry_number c.args.self.now c.self.inside.wires c.self.inside.tiles.keys (sym c.self.view_is ∙ c.self.invariant.points) c.args.point c.requires
    c.in-Carry.tile c.in-Carry.cell c.unwrap-place.result c.in-Carry.is (sym c.get_index_of.ensures.index ∙ c.unwrap-place.ensures)
