use Rattle.std.proofs.Common.{List, Bool, ap}
use Rattle.ice_ram_read.specs.RamData.{no_words}
use Rattle.ice_ram_read.proofs.Starts.{made_text}
use Rattle.ice_ram_read.proofs.ram_text.RamText.new.Goals as goal

pub returns : goal.returns
unfolding no_words
returns c = ap (λ (words : List (List Bool)). made_text c.args.line c.args.edges c.args.signals words) c.in_ok-words.ensures.items
