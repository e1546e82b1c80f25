-- The uses of bits as the definitions see them.
use Rattle.ice_chip_build.specs.BitsUsed.{BitsUsed}
use Rattle.ice_chip_build.specs.declared.shared.UsedBits.{UsedBits}

abbrev pub used_view : UsedBits → BitsUsed
used_view used = record { any = used.any.entries; read = used.read.entries; shared = used.shared }
