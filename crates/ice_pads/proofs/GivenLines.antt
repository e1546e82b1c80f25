-- What lines give, one line more at a time.
use Rattle.std.proofs.Common.{◌≡◌, ℕ, ◌+◌, ◌<◌, Result, Ok, List, length, get_or, drop, sym, ap, ◌∙◌}
use Rattle.std.proofs.lemmas.List.{at_drop_more}
use Rattle.ice_net.specs.NetlistData.{NetlistData}
use Rattle.ice_pcf.specs.declared.constraint.Constraint.{Constraint}
use Rattle.ice_chip.specs.Database.{Parts}
use Rattle.ice_chip.specs.declared.rows.Pad.{Pad}
use Rattle.ice_pads.specs.declared.want.Want.{Want}
use Rattle.ice_pads.specs.declared.given.Given.{Given}
use Rattle.ice_pads.specs.declared.fault.PinFault.{PinFault}
use Rattle.ice_pads.specs.Constraints.{with_line, given_by, ◌>>=◌}

pub given_more : (parts : Parts) (pins : List (List ℕ × Pad)) (n : NetlistData) (wants : List Want) (lines : List Constraint) (i : ℕ) (d : Constraint) (old new : List Given) (all : Result (List Given) PinFault) → i < length lines
    → with_line parts pins n wants old (get_or lines i d) ≡ Ok new → given_by parts pins n wants old (drop i lines) ≡ all → given_by parts pins n wants new (drop (i + 1) lines) ≡ all
given_more parts pins n wants lines i d old new all lt said were =
    sym (at_drop_more (given_by parts pins n wants old) lines i d lt ∙ ap (λ r. r >>= (λ more. given_by parts pins n wants more (drop (i + 1) lines))) said) ∙ were
