-- Netlists whose ports and cells are the same by the names of their signals.
use Rattle.std.specs.Prelude.{◌≡◌, ℕ, Bool, List, bytes_eq, All}
use Rattle.std.specs.List.{IsDistinct}
use Rattle.ice_net.specs.Formed.{IsFormed, IsSingle}
use Rattle.ice_net.specs.Meaning.{shows}
use Rattle.ice_net.specs.NetlistData.{NetlistData}
use Rattle.ice_blif.specs.Grammar.{HasNetlist, HasNetlistAlone}
use Rattle.ice_blif_write.specs.RoundTrip.{IsName, IsSameByNames, HasSameNetlist}
use Rattle.ice_check.specs.Sound.{IsSound}

-- no name of a text's netlist stands twice
abbrev pub TextsNameOnce : Type 0
TextsNameOnce = (text : List ℕ) (n : NetlistData) → HasNetlist text n → IsDistinct bytes_eq n.names

-- The text says a netlist, of any size, and no RAM. The netlist has a meaning. It has the ports and cells of this one in order by the names of their
-- signals, and for every list of levels it shows at its ports what this one shows.
pub record SaysTheSame (text : List ℕ) (n : NetlistData) : Type 0 where
  pub said : NetlistData
  pub is_said : HasNetlistAlone text said
  pub by_names : IsSameByNames n said
  pub sound : IsSound said
  pub shows_same : (levels : List (List Bool)) → shows said levels ≡ shows n levels

-- a text with the ports and cells of a sound netlist by their names says the same
abbrev pub WrittenShowsTheSame : Type 0
WrittenShowsTheSame = (text : List ℕ) (n : NetlistData) → IsFormed n → IsSingle n → All IsName n.names → IsSound n → HasSameNetlist text n → SaysTheSame text n
