-- When `time` refuses the text of delays: only where the cause is true, and always there, unless the desk or the memory fails. The other
-- answers come as those of every command on bits.
use Rattle.std.specs.Prelude.{◌≡◌, ℕ}
use Rattle.ice_desk.specs.Desk.{Meaning}
use Rattle.ice_flow_frame.specs.declared.cause.Cause.{Cause}
use Rattle.ice_flow_frame.specs.declared.cause.Cause.TheVariants.{BadDelays}
use Rattle.ice_flow_frame.specs.Rows.{ComesExactly}
use Rattle.ice_flow_time_cmd.specs.Timings.{Time, HasBadDelays, time}

-- status 19: exactly where the text of delays is refused, with its first line that is, or with line 0 where a delay is missing
abbrev pub DelaysRow : Time → Meaning → Cause → Type 0
DelaysRow t old cause = (line : ℕ) → ComesExactly (time t) old (λ c. c ≡ BadDelays line) (HasBadDelays t.package_name line) cause
