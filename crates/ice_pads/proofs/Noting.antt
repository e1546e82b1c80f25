-- What a port and a pad get with one line more, where what is noted first stays.
use Rattle.std.proofs.Common.{◌≡◌, ℕ, ◌==◌, None, Some, List, [], ◌∷◌, ◌++◌, if◌then◌else◌}
use Rattle.std.specs.Option.{option_or}
use Rattle.std.proofs.lemmas.List.Folds.{find-append}
use Rattle.ice_chip.specs.declared.rows.Pad.{Pad}
use Rattle.ice_chip.specs.Database.{same_pad}
use Rattle.ice_pads.specs.declared.given.Given.{Given}
use Rattle.ice_pads.specs.Constraints.{of_port, of_pad}

pub port_more : (given : List Given) (g : Given) (k : ℕ) → of_port (given ++ g ∷ []) k ≡ option_or (of_port given k) (if g.port == k then Some g else None)
port_more given g k = find-append (λ (h : Given). h.port == k) given (g ∷ [])

pub pad_more : (given : List Given) (g : Given) (pad : Pad) → of_pad (given ++ g ∷ []) pad ≡ option_or (of_pad given pad) (if same_pad pad g.pad then Some g else None)
pad_more given g pad = find-append (λ (h : Given). same_pad pad h.pad) given (g ∷ [])
