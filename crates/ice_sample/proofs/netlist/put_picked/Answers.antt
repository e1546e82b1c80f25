use Rattle.std.proofs.Common.{◌≡◌, ◌++◌, OnOk, subst}
use Rattle.ice_sample.proofs.Picking.{picked_name}
use Rattle.ice_sample.proofs.netlist.put_picked.Goals as goal

pub returns : goal.returns
returns c =
    let named = picked_name c.args.cells c.args.word c.from-count.result c.from.result c.min.result c.from-count.ensures c.from.ensures c.min.ensures in
    subst (λ x. OnOk c.put_name_of.result (c.put_name_of.new.text.items ≡ c.args.text.now.items ++ x)) named c.put_name_of.ensures
