use Rattle.std.proofs.Common.{ap, ◌∙◌, unwrap_or, position, bytes_eq}
use Rattle.ice_base.proofs.NameLists.{sought_number}
use Rattle.ice_chip.proofs.names.number_sought.Goals as goal

pub returns : goal.returns
returns c =
    c.unwrap_or.ensures
    ∙ ap (λ found. unwrap_or found c.len.result) c.get_index_of.ensures.index
    ∙ ap (unwrap_or (position (λ key. bytes_eq c.args.name.now key.items) c.args.names.now.keys)) c.len.ensures.len
    ∙ sought_number c.args.name.now c.args.names.now.keys
