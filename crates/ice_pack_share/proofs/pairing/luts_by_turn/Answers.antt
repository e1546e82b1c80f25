use Rattle.std.proofs.Common.{arith}
use Rattle.ice_cells.specs.Pairs.{gives}
use Rattle.ice_pack_share.proofs.Taking.{few_counted, by_turn_more, counted_more}
use Rattle.ice_pack_share.proofs.pairing.luts_by_turn.Goals as goal

pub note_lut-requires : goal.note_lut-requires
note_lut-requires c = λ p. let few = few_counted gives c.args.roles.now c.loop-j.j c.loop-j.counts.entries c.loop-j.invariant.1 p in omega arith

pub loop-j-preserved : goal.loop-j-preserved
loop-j-preserved c = (
  by_turn_more c.args.roles.now c.loop-j.j _ c.loop-j.luts.entries _ c.loop-j.counts.entries (omega arith) c.loop-j.invariant.0 c.loop-j.invariant.1 c.in_ok-note_lut.ensures.luts,
  counted_more gives c.args.roles.now c.loop-j.j _ c.loop-j.counts.entries _ (omega arith) c.loop-j.invariant.1 c.in_ok-note_lut.ensures.counts,
)
