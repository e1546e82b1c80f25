use Rattle.std.proofs.Common.{◌≡◌, ◌∙◌, ap}
use Rattle.ice_net.specs.Meaning.{number_of, table_bit}
use Rattle.ice_lut.specs.Tables.{rewired, permuted}
use Rattle.ice_lut.proofs.TableLaws.{permuted_gives, rewired_permuted}
use Rattle.ice_lut.proofs.table.permuted.Goals as goal

pub returns : goal.returns
returns c =
    let made : c.rewired.result ≡ permuted c.args.table c.args.order =
    c.rewired.ensures.table ∙ ap (rewired c.args.table) c.inputs_of.ensures ∙ rewired_permuted c.args.table c.args.order in
    record { table = made; gives = λ xs long. ap (λ t. table_bit t (number_of xs)) made ∙ permuted_gives c.args.table c.args.order xs long }
