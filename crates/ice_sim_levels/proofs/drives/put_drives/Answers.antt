use Rattle.std.proofs.Common.{arith}
use Rattle.ice_sim_levels.specs.DriveTexts.{drive_byte}
use Rattle.ice_base.proofs.Pushed.{mapped_behind}
use Rattle.ice_sim_levels.proofs.drives.put_drives.Goals as goal

pub loop-drive-preserved : goal.loop-drive-preserved
loop-drive-preserved c =
    mapped_behind drive_byte _ c.args.out.now.items c.loop-drive.out.items c.push.new.self.items c.args.drives.now c.loop-drive.drive-index c.drive_byte.result (omega arith) c.loop-drive.invariant
    c.in_ok-push.ensures.items c.drive_byte.ensures
