use Rattle.std.proofs.Common.{◌≡◌, length-set, ap, ◌∙◌, length, set, rules, arith}
use Rattle.ice_net.specs.Meaning.{number_of, table_bit}
use Rattle.ice_lut.specs.Tables.{with_constant}
use Rattle.ice_lut.proofs.TableLaws.{constant_gives, filled_more, filled_all}
use Rattle.ice_lut.proofs.table.with_constant.Goals as goal

pub loop-j-preserved : goal.loop-j-preserved
loop-j-preserved c = record {
  long = length-set c.loop-j.entries c.from-in-loop-j.result c.value.result ∙ c.loop-j.invariant.long;
  entries = filled_more (λ xs. table_bit c.args.table (number_of (set xs c.args.input c.args.level))) c.loop-j.entries c.loop-j.j c.from-in-loop-j.result c.value.result
      (search rules) (let long : length c.loop-j.entries ≡ 16 = c.loop-j.invariant.long in omega arith) (search rules) c.loop-j.invariant.entries;
}

pub returns : goal.returns
returns c =
    let made : c.table_with.result ≡ with_constant c.args.table c.args.input c.args.level =
    filled_all (λ xs. table_bit c.args.table (number_of (set xs c.args.input c.args.level))) c.loop-j.entries c.table_with.result c.table_with.ensures c.loop-j.invariant.long
    (λ k lt. c.loop-j.invariant.entries k (omega arith)) in
    record { table = made; gives = λ xs long. ap (λ t. table_bit t (number_of xs)) made ∙ constant_gives c.args.table c.args.input c.args.level xs long }
