use Rattle.std.proofs.Common.{length, map}
use Rattle.ice_carry_tails.specs.Tails.{tail_names, read_behind}
use Rattle.ice_net_additions.proofs.GrownSound.{sound_after}
use Rattle.ice_carry_tails.proofs.Added.{growth}
use Rattle.ice_carry_tails.proofs.Taken.{in_use}
use Rattle.ice_carry_tails.proofs.laws.tails_are_sound.Goals as goal

pub returns : goal.returns
returns c n tables formed can sound = sound_after (growth n (tail_names n.names (length tables)) (map (read_behind n.cells) tables)) formed (in_use n tables formed can) sound
