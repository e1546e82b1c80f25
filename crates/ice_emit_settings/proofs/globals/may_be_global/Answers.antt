use Rattle.std.proofs.Common.{false, sym, ◌∙◌, arith}
use Rattle.ice_decode.proofs.DriverTables.{table_long, table_at}
use Rattle.ice_emit_settings.specs.Buffers.{has_global_name}
use Rattle.ice_emit_settings.proofs.globals.may_be_global.Goals as goal

pub returns : goal.returns
returns c = λ e.
    let long = table_long (has_global_name c.args.chip.now) c.args.chip.now.wires c.args.known.now c.requires in
    sym (table_at (has_global_name c.args.chip.now) c.args.chip.now.wires c.args.known.now c.requires c.args.wire.0 false (omega arith)) ∙ e
