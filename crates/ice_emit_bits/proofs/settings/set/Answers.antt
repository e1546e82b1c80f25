use Rattle.ice_chip_names.specs.declared.function_names.TileFunction.TheVariants.{PinType, InputEnable, PullUp, ColumnBuffer, RamMode}
use Rattle.ice_emit_bits.proofs.Listing.{setting_added}
use Rattle.ice_emit_bits.proofs.settings.set.Goals as goal

pub returns-in-PinType : goal.returns-in-PinType
returns-in-PinType c =
    setting_added c.args.chip.now c.args.bits.now c.set_one-in-PinType.new.bits c.args.setting.now (PinType c.in-PinType.pio c.in-PinType.place) c.pin_type_function.result c.from-number.result c.in-PinType.is
    c.pin_type_function.ensures c.from-number.ensures c.set_one-in-PinType.ensures

pub returns-in-InputEnable : goal.returns-in-InputEnable
returns-in-InputEnable c =
    setting_added c.args.chip.now c.args.bits.now c.set_one-in-InputEnable.new.bits c.args.setting.now (InputEnable c.in-InputEnable.pio) c.input_enable_function.result c.from-number.result c.in-InputEnable.is
    c.input_enable_function.ensures c.from-number.ensures c.set_one-in-InputEnable.ensures

pub returns-in-PullUp : goal.returns-in-PullUp
returns-in-PullUp c =
    setting_added c.args.chip.now c.args.bits.now c.set_one-in-PullUp.new.bits c.args.setting.now (PullUp c.in-PullUp.pio) c.pull_up_function.result c.from-number.result c.in-PullUp.is
    c.pull_up_function.ensures c.from-number.ensures c.set_one-in-PullUp.ensures

pub returns-in-ColumnBuffer : goal.returns-in-ColumnBuffer
returns-in-ColumnBuffer c =
    setting_added c.args.chip.now c.args.bits.now c.set_one-in-ColumnBuffer.new.bits c.args.setting.now (ColumnBuffer c.in-ColumnBuffer.global) c.column_buffer_function.result c.from-number.result c.in-ColumnBuffer.is
    c.column_buffer_function.ensures c.from-number.ensures c.set_one-in-ColumnBuffer.ensures

pub returns-in-RamMode : goal.returns-in-RamMode
returns-in-RamMode c =
    setting_added c.args.chip.now c.args.bits.now c.set_one-in-RamMode.new.bits c.args.setting.now (RamMode c.in-RamMode.place) c.ram_mode_function.result c.from-number.result c.in-RamMode.is
    c.ram_mode_function.ensures c.from-number.ensures c.set_one-in-RamMode.ensures
