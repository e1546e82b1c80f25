use Rattle.std.proofs.Common.{rules, ◌<◌, arith}
use Rattle.ice_lut.proofs.TableLaws.{built_bound, built_more}
use Rattle.ice_lut.proofs.table.table_with.Goals as goal

pub overflow_mul-table : goal.overflow_mul-table
overflow_mul-table c =
    let small : c.loop-j.table < 32768 = built_bound c.args.entries.now c.loop-j.j c.loop-j.table (search rules) c.loop-j-test.true c.loop-j.invariant.built in
    search rules

pub overflow_add-table : goal.overflow_add-table
overflow_add-table c =
    let small : c.loop-j.table < 32768 = built_bound c.args.entries.now c.loop-j.j c.loop-j.table (search rules) c.loop-j-test.true c.loop-j.invariant.built in
    search rules

pub loop-j-preserved : goal.loop-j-preserved
loop-j-preserved c = record {
  built = built_more c.args.entries.now c.loop-j.j c.loop-j.table c.from-bit.result (search rules) c.loop-j-test.true c.loop-j.invariant.within c.loop-j.invariant.built (search rules);
  within = omega arith;
}
