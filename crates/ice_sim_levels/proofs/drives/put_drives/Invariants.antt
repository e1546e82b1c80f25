use Rattle.std.proofs.Common.{◌≡◌, ◌++◌, take, map}
use Rattle.ice_sim_levels.specs.DriveTexts.{drive_byte}
use Rattle.ice_sim_levels.proofs.drives.put_drives.Given as goal

abbrev pub invariant-loop-drive : goal.invariant-loop-drive
invariant-loop-drive l = l.out.items ≡ l.fn.out.items ++ map drive_byte (take l.drive-index l.drives)
