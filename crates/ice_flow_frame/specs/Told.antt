-- What is told of how a design was routed: the tallies of its rounds, and what the opening left of its nets.
use Rattle.std.specs.Prelude.{List, []}
use Rattle.std.specs.Global.{Vec}
use Rattle.ice_negotiate_defs.specs.declared.kept.Kept.{Kept}
use Rattle.ice_words.specs.Grips.{Shut}
use Rattle.ice_flow_frame.specs.declared.giving.Made.{Made}

pub record Told : Type 0 where
  pub tallies : List Shut
  pub kept : List Kept

abbrev pub telling : Vec Shut → Vec Kept → Told
telling tallies kept = record { tallies = tallies.items; kept = kept.items }

abbrev pub told_in : Made → Told
told_in made = telling made.tallies made.kept

-- nothing, where nothing is routed
abbrev pub nothing_told : Told
nothing_told = record { tallies = []; kept = [] }
