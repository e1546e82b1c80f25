-- The end of a command that plays or times, clause by clause.
use Rattle.std.specs.Prelude.{true}
use Rattle.ice_desk.specs.Desk.{Meaning}
use Rattle.ice_flow_frame.specs.declared.cause.Done.{Done}
use Rattle.ice_flow_frame.specs.Rows.{DoneRow, GoodRow, ReadFaultRow, WriteFaultRow, TooLongRow}
use Rattle.ice_flow_chip_frame.specs.Rows.{ChipRow, AscRow, PackageRow, BitsRow}
use Rattle.ice_flow_play_net_cmd.specs.Played.{PlayNet, play_net}
use Rattle.ice_flow_play_net_cmd.specs.PlayRows as play
use Rattle.ice_flow_play_bits_cmd.specs.Played.{PlayBits, play_bits}
use Rattle.ice_flow_play_bits_cmd.specs.BitsRows.{LevelsRow}
use Rattle.ice_flow_time_cmd.specs.Timings.{Time, time}
use Rattle.ice_flow_time_cmd.specs.TimeRows.{DelaysRow}

-- a netlist is played: what was said at status 0, and when each answer comes
pub record IsNetAnswer (p : PlayNet) (old new : Meaning) (end : Done) : Type 0 where
  pub good : GoodRow (play_net p) old new end.cause end.status
  pub done : DoneRow (play_net p) old end.cause
  pub bad_blif : play.BlifRow p old end.cause
  pub bad_net : play.NetRow p old end.cause
  pub bad_levels : play.LevelsRow p old end.cause
  pub read_fault : ReadFaultRow (play_net p) old new end.cause
  pub write_fault : WriteFaultRow (play_net p) old new end.cause
  pub too_long : TooLongRow (play_net p) old new end.cause

-- bits are played: what was said at status 0, and when each answer comes
pub record IsBitsAnswer (p : PlayBits) (old new : Meaning) (end : Done) : Type 0 where
  pub good : GoodRow (play_bits p) old new end.cause end.status
  pub done : DoneRow (play_bits p) old end.cause
  pub bad_chip : ChipRow (play_bits p) old end.cause
  pub bad_asc : AscRow (play_bits p) old end.cause
  pub no_package : PackageRow (play_bits p) p.package_name old end.cause
  pub bad_bits : BitsRow true (play_bits p) p.package_name old end.cause
  pub bad_levels : LevelsRow p old end.cause
  pub read_fault : ReadFaultRow (play_bits p) old new end.cause
  pub write_fault : WriteFaultRow (play_bits p) old new end.cause
  pub too_long : TooLongRow (play_bits p) old new end.cause

-- bits are timed: what was said at status 0, and when each answer comes
pub record IsTimeAnswer (t : Time) (old new : Meaning) (end : Done) : Type 0 where
  pub good : GoodRow (time t) old new end.cause end.status
  pub done : DoneRow (time t) old end.cause
  pub bad_chip : ChipRow (time t) old end.cause
  pub bad_asc : AscRow (time t) old end.cause
  pub no_package : PackageRow (time t) t.package_name old end.cause
  pub bad_bits : BitsRow true (time t) t.package_name old end.cause
  pub bad_delays : DelaysRow t old end.cause
  pub read_fault : ReadFaultRow (time t) old new end.cause
  pub write_fault : WriteFaultRow (time t) old new end.cause
  pub too_long : TooLongRow (time t) old new end.cause
