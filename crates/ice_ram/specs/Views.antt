-- What contracts see of a memory: what is settled, and what is kept.
use Rattle.std.specs.Prelude.{◌≡◌, ◌<◌, length}
use Rattle.ice_ram.specs.declared.ram.Ram.TheInside.{Inside}
use Rattle.ice_ram.specs.declared.setup.Setup.{Setup}
use Rattle.ice_ram.specs.Ram.{Kept}

abbrev pub kept_view : Inside → Kept
kept_view ram = record { words = ram.words.items; out = ram.out; read_clock = ram.read_clock; write_clock = ram.write_clock }

abbrev pub ram_view : Inside → Setup × Kept
ram_view ram = (ram.setup, kept_view ram)

-- 256 words, and modes that there are
pub record IsRam (ram : Inside) : Type 0 where
  pub many : length ram.words.items ≡ 256
  pub read_mode : ram.setup.read_mode < 4
  pub write_mode : ram.setup.write_mode < 4
