-- Requests of the program as the definitions see them.
use Rattle.std.specs.Prelude.{◌≤◌, ⊤, option_map}
use Rattle.ice_flow_words.specs.Command.{most_rounds, most_workers}
use Rattle.ice_flow_words.specs.Requests.{Asked, ForBuild, ForBack, ForPlayNet, ForPlayBits, ForTime, ForSample}
use Rattle.ice_flow_words.specs.Requests as asked
use Rattle.ice_flow_words.specs.BuildRequest.{Build}
use Rattle.ice_flow_words.specs.declared.request.BuildRequest.{BuildRequest}
use Rattle.ice_flow_words.specs.declared.request.BackRequest.{BackRequest}
use Rattle.ice_flow_words.specs.declared.request.PlayNetRequest.{PlayNetRequest}
use Rattle.ice_flow_words.specs.declared.request.PlayBitsRequest.{PlayBitsRequest}
use Rattle.ice_flow_words.specs.declared.request.TimeRequest.{TimeRequest}
use Rattle.ice_flow_words.specs.declared.request.SampleRequest.{SampleRequest}
use Rattle.ice_flow_words.specs.declared.request.Request.{Request}
use Rattle.ice_flow_words.specs.declared.request.Request.TheVariants as request

abbrev pub build_view : BuildRequest → Build
build_view w = record {
  chip = w.chip.now;
  package_name = w.package_name.now;
  pcf = w.pcf.now;
  blif = w.blif.now;
  asc = w.asc.now;
  pins = option_map (λ s. s.now) w.pins;
  report = option_map (λ s. s.now) w.report;
  seed = w.seed;
  rounds = w.rounds;
  workers = w.workers;
  opening = w.opening;
}

abbrev pub back_view : BackRequest → asked.Back
back_view w = record { chip = w.chip.now; package_name = w.package_name.now; asc = w.asc.now; blif = w.blif.now }

abbrev pub net_view : PlayNetRequest → asked.PlayNet
net_view w = record { blif = w.blif.now; levels = w.levels.now }

abbrev pub bits_view : PlayBitsRequest → asked.PlayBits
bits_view w = record { chip = w.chip.now; package_name = w.package_name.now; asc = w.asc.now; levels = w.levels.now }

abbrev pub time_view : TimeRequest → asked.Time
time_view w = record { chip = w.chip.now; package_name = w.package_name.now; asc = w.asc.now; delays = w.delays.now }

abbrev pub sample_view : SampleRequest → asked.Sample
sample_view w = record { number = w.number; workers = w.workers }

abbrev pub request_view : Request → Asked
request_view (request.Build w) = ForBuild (build_view w)
request_view (request.Back w) = ForBack (back_view w)
request_view (request.PlayNet w) = ForPlayNet (net_view w)
request_view (request.PlayBits w) = ForPlayBits (bits_view w)
request_view (request.Time w) = ForTime (time_view w)
request_view (request.Sample w) = ForSample (sample_view w)

-- the numbers of rounds and of workers are in their limits
abbrev pub IsInLimits : Request → Type 0
IsInLimits (request.Build w) = (1 ≤ w.rounds) × (w.rounds ≤ most_rounds) × (1 ≤ w.workers) × (w.workers ≤ most_workers)
IsInLimits (request.Sample w) = (1 ≤ w.workers) × (w.workers ≤ most_workers)
IsInLimits _ = ⊤
