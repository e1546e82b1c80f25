use Rattle.std.proofs.Common.{rules}
use Rattle.ice_bits_rows.proofs.Listing.{listed_one}
use Rattle.ice_bits_rows.proofs.lists.list_group.Goals as goal

pub returns : goal.returns
returns c = listed_one c.args.lists.now c.index-lists-group.result c.push.new.self c.args.group c.requires (search rules)
