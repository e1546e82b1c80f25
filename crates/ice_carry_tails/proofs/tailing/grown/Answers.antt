use Rattle.std.proofs.Common.{sym, subst}
use Rattle.ice_check.specs.Sound.{IsSound}
use Rattle.ice_carry_tails.proofs.Ended.{can_at, tailed_is}
use Rattle.ice_carry_tails.proofs.tailing.grown.Goals as goal

pub with_tails-requires-clause-can : goal.with_tails-requires-clause-can
with_tails-requires-clause-can c = can_at c.args.sound c.into_netlist.result c.args.tables.now c.into_netlist.ensures c.requires.tables

pub check_sound-requires : goal.check_sound-requires
check_sound-requires c =
    subst IsSound (sym (tailed_is c.args.sound c.into_netlist.result c.args.tables.now c.in_ok-made.made c.into_netlist.ensures c.requires.tables c.in_ok-made.ensures))
    (c.tailed_are_sound.ensures c.args.sound c.is_sound.ensures.formed c.is_sound.ensures.sound)
