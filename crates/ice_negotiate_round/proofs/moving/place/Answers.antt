use Rattle.std.proofs.Common.{◌≡◌, length, vec_len, length-set, arith, ◌∙◌}
use Rattle.ice_negotiate_round.proofs.Replacing.{placed_step}
use Rattle.ice_negotiate_round.proofs.moving.place.Goals as goal

pub loop-tree-preserved : goal.loop-tree-preserved
loop-tree-preserved c =
    let before = c.loop-tree.invariant in
    let rest = c.pop.new.self in
    let many : length rest.items ≡ vec_len rest = omega (arith, rest.ok) in
    record {
      long = length-set c.loop-tree.trees _ c.in-Some.tree ∙ before.long;
      few = omega (arith, before.few, c.in-Some.ensures.len);
      rest = placed_step c.loop-tree.trees c.args.moved.now c.loop-tree.news.items rest.items c.in-Some.tree (vec_len rest) c.len.result (vec_len c.loop-tree.news) (record { 0 = 0 }) c.in-Some.ensures.items many c.len.ensures (omega (arith, c.in-Some.ensures.len)) (omega (arith, before.few, c.in-Some.ensures.len))
          ∙ before.rest;
    }
