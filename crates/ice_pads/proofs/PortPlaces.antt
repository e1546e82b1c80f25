-- The places of ports, one more port at a time.
use Rattle.std.proofs.Common.{◌≡◌, ℕ, ◌+◌, ◌<◌, ◌==◌, List, length, Option, None, Some, get_or, slice_get, if◌then◌else◌, refl, sym, ap, ◌∙◌, arith}
use Rattle.std.specs.Option.{option_or}
use Rattle.std.proofs.lemmas.Option.{slice_get-get_or}
use Rattle.ice_net.specs.declared.port.Port.{Port}
use Rattle.ice_pads.specs.Constraints.{is_of_signal, first_passing}
use Rattle.ice_pads.proofs.Passed.{one_more}

-- the first of so many ports that are of a signal
abbrev pub place_among : List Port → ℕ → ℕ → Option ℕ
place_among ports count s = first_passing (λ k. is_of_signal s (slice_get ports k)) 0 count

pub no_port : (ports : List Port) (s : ℕ) → place_among ports 0 s ≡ None
unfolding first_passing
no_port ports s = refl

pub next_port : (ports : List Port) (count s : ℕ) (d : Port) → count < length ports
    → place_among ports (count + 1) s ≡ option_or (place_among ports count s) (if (get_or ports count d).signal.0 == s then Some count else None)
next_port ports count s d lt =
    one_more (λ k. is_of_signal s (slice_get ports k)) 0 count
    ∙ ap (λ k. option_or (place_among ports count s) (if is_of_signal s (slice_get ports k) then Some k else None)) zero_more
    ∙ ap (λ o. option_or (place_among ports count s) (if is_of_signal s o then Some count else None)) (slice_get-get_or ports count d lt)
  where
    zero_more : 0 + count ≡ count
    zero_more = omega arith

-- the place that is noted with this port is that among one port more
pub port_step : {new old : Option ℕ} (ports : List Port) (count s : ℕ) (d : Port) → count < length ports
    → new ≡ option_or old (if (get_or ports count d).signal.0 == s then Some count else None) → old ≡ place_among ports count s → new ≡ place_among ports (count + 1) s
port_step ports count s d lt noted before =
    noted ∙ ap (λ o. option_or o (if (get_or ports count d).signal.0 == s then Some count else None)) before ∙ sym (next_port ports count s d lt)
