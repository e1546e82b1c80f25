-- When `play-bits` refuses the text of levels: only where the cause is true, and always there, unless the desk or the memory fails. The other
-- answers come as those of every command on bits.
use Rattle.std.specs.Prelude.{◌≡◌, ℕ}
use Rattle.ice_desk.specs.Desk.{Meaning}
use Rattle.ice_flow_frame.specs.declared.cause.Cause.{Cause}
use Rattle.ice_flow_frame.specs.declared.cause.Cause.TheVariants.{BadLevels}
use Rattle.ice_flow_frame.specs.Rows.{ComesExactly}
use Rattle.ice_flow_play_bits_cmd.specs.Played.{PlayBits, HasBadLine, play_bits}

-- status 17: exactly where a line of the level text is refused, with the first one
abbrev pub LevelsRow : PlayBits → Meaning → Cause → Type 0
LevelsRow p old cause = (line : ℕ) → ComesExactly (play_bits p) old (λ c. c ≡ BadLevels line) (HasBadLine p.package_name line) cause
