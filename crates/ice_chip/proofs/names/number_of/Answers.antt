use Rattle.std.proofs.Common.{sym, ◌∙◌}
use Rattle.ice_base.proofs.NameLists.{found_number, new_number, new_names}
use Rattle.ice_chip.proofs.names.number_of.Goals as goal

pub returns-in-Some-clause-number : goal.returns-in-Some-clause-number
returns-in-Some-clause-number c = found_number c.args.name.now c.args.names.now.keys c.in-Some.number (sym c.get_index_of.ensures.index ∙ c.in-Some.is)

pub returns-clause-number : goal.returns-clause-number
returns-clause-number c = new_number c.args.name.now c.args.names.now.keys c.in_ok-key.key c.in_ok-number.number c.in_ok-key.ensures.items c.in_ok-number.ensures.index

pub returns-clause-appended : goal.returns-clause-appended
returns-clause-appended c = new_names c.args.name.now c.args.names.now.keys c.insert_full.new.self.keys c.in_ok-key.key c.in_ok-key.ensures.items c.in_ok-number.ensures.keys
