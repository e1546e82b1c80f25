use Rattle.std.proofs.Common.{sym, true≢false}
use Rattle.ice_chip_build.proofs.faults.whole_fault.Goals as goal

pub first_fault-requires : goal.first_fault-requires
first_fault-requires c = λ e. absurd (true≢false (sym e))
