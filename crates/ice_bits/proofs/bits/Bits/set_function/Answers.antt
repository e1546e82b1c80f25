use Rattle.std.proofs.Common.{sym}
use Rattle.ice_chip.specs.Views.{function_view}
use Rattle.ice_bits.proofs.FunctionBits.{place_is_there, nowhere_rewrites, somewhere_rewrites}
use Rattle.ice_bits.proofs.bits.Bits.set_function.Goals as goal

pub set-requires : goal.set-requires
set-requires c = place_is_there c.args.self.now c.args.tile (function_view c.args.function.now) c.args.at c.in-Some.bit (sym c.in-Some.ensures)

pub returns-in-Some : goal.returns-in-Some
returns-in-Some c =
    somewhere_rewrites c.args.self.now c.set.new.self c.args.tile (function_view c.args.function.now) c.args.at c.args.value c.in-Some.bit (sym c.in-Some.ensures) c.set.ensures

pub returns-in_default : goal.returns-in_default
returns-in_default c = nowhere_rewrites c.args.self.now c.args.tile (function_view c.args.function.now) c.args.at c.args.value (sym c.in_default.ensures)
