use Rattle.std.proofs.Common.{◌+◌, ◌∙◌, ap, arith, rules}
use Rattle.ice_cells.specs.Packed.{root_by}
use Rattle.ice_pack_sinks.proofs.Along.{root_more, roots_end}
use Rattle.ice_pack_sinks.proofs.rooting.roots_from.Goals as goal

pub loop-j-preserved : goal.loop-j-preserved
loop-j-preserved c =
    let cell = c.index-cells-j.result in
    let is = c.in_ok-root.ensures ∙ ap (λ home. root_by c.args.origins.now home c.loop-j.globals cell.kind cell.ins cell.outs) c.home_at.ensures in
    record {
      few = search rules;
      all = root_more c.args.origins.now c.args.homes.now c.args.cells.now c.loop-j.j c.loop-j.globals _ cell c.in_ok-root.root c.loop-j.roots.items _ (omega arith) c.index-cells-j.is
          is (ap (λ n. c.loop-j.globals + n) c.global_count-globals.ensures) c.in_ok-push.ensures.items
          ∙ c.loop-j.invariant.all;
    }

pub returns : goal.returns
returns c = roots_end c.args.origins.now c.args.homes.now c.args.cells.now c.loop-j.j c.loop-j.globals c.loop-j.roots.items (omega arith) ∙ c.loop-j.invariant.all
