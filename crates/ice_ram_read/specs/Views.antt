-- What contracts see of a RAM's text.
use Rattle.std.specs.Prelude.{◌≡◌, ◌<◌, length}
use Rattle.ice_ram_read.specs.declared.ram_text.RamText.TheInside.{Inside}
use Rattle.ice_ram_read.specs.RamData.{RamData}

abbrev pub text_view : Inside → RamData
text_view ram = record {
  line = ram.line;
  edges = ram.edges;
  signals = ram.signals;
  read_mode = ram.read_mode;
  write_mode = ram.write_mode;
  words = ram.words.items;
}

-- 256 words, and modes that there are
pub record IsRamText (ram : Inside) : Type 0 where
  pub many : length ram.words.items ≡ 256
  pub read_mode : ram.read_mode < 4
  pub write_mode : ram.write_mode < 4
