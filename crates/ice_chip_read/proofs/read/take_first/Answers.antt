use Rattle.std.proofs.Common.{rules, ◌≡◌, true, bytes_eq, codes}
use Rattle.ice_chip_read.proofs.read.take_first.Goals as goal

pub returns : goal.returns
returns c =
    let test : bytes_eq c.args.line.first.now (codes ".device") ≡ true = search rules in
    rw test c.device_first.ensures
