-- The longest path, by the latest of all entries.
use Rattle.std.proofs.Common.{◌≡◌, ℕ, ◌+◌, ◌≤◌, All, List, [], get_or, refl, sym, ap, ◌∙◌, subst, arith}
use Rattle.ice_base_values.specs.Order.{Has}
use Rattle.ice_base_values.proofs.Members.{Has_none, Has_read}
use Rattle.ice_chip.specs.Database.{Parts}
use Rattle.ice_chip.specs.IsRead.{IsRead}
use Rattle.ice_bits.specs.Configuration.{Bits}
use Rattle.ice_decode.specs.declared.point.Point.{Point}
use Rattle.ice_decode.specs.Reads.{depends_on}
use Rattle.ice_timing_delays.specs.declared.delays.Delays.{Delays}
use Rattle.ice_timing.specs.declared.end.Entry.{Entry}
use Rattle.ice_timing.specs.declared.end.TimedPath.{TimedPath}
use Rattle.ice_timing.specs.declared.latest_end.Moment.{Moment}
use Rattle.ice_timing.specs.Arriving.{ArrivalsData, AreArrivalsOf}
use Rattle.ice_timing.specs.Entries.{door_delay, entries}
use Rattle.ice_timing.specs.PointDelays.{start_of, delay_of, IsArrivalAt, path_length}
use Rattle.ice_timing.specs.Timed.{points_of, IsTimedTo, IsLongest, NoneLeads, IsLatestEntry}
use Rattle.ice_timing.proofs.Greatest.{arrival_once}
use Rattle.ice_timing.proofs.Reached.{entries_lead}

module _ (parts : Parts) (read : IsRead parts) (bits : Bits) (extras : List (ℕ × ℕ × ℕ)) (d : Delays) (a : ArrivalsData) (are : AreArrivalsOf parts bits extras d a) where
  -- the last point of each entry has its arrival
  pub all_reached : (es : List Entry) → es ≡ entries parts bits → All (λ (e : Entry). Has a.points e.last) es
  all_reached es is = λ k e lt.
      are.points.each (get_or es k e).last
      (entries_lead parts read bits (get_or es k e) (subst (λ (l : List Entry). Has l (get_or es k e)) is (Has_read es k e lt)))

  pub none_leads : (es : List Entry) → es ≡ entries parts bits → es ≡ [] → NoneLeads parts bits extras
  none_leads es is none = λ entry path has leads. Has_none entry (subst (λ (l : List Entry). Has l entry) (sym is ∙ none) has)

  pub is_longest : (es : List Entry) (m : Moment) (t : TimedPath) → es ≡ entries parts bits → IsLatestEntry parts bits extras d es m → IsTimedTo parts bits extras d m.entry.last t.points.items
      → t.end ≡ m.entry.end → t.at ≡ m.at → IsLongest parts bits extras d t
  is_longest es m t is latest timed end at =
      let long = arrival_once (depends_on parts bits extras) (start_of parts bits extras d) (delay_of parts bits d) m.entry.last latest.moment.arrival (path_length parts bits extras d (points_of t.points.items)) latest.moment.right timed.long in
      record {
        entry = m.entry;
        is_entry = subst (λ (l : List Entry). Has l m.entry) is latest.one;
        end = sym end;
        leads = timed.leads;
        arrivals = timed.arrivals;
        at = at ∙ latest.moment.is ∙ ap (λ n. n + door_delay d m.entry.door) long;
        most = λ other path has leads.
            (let found = latest.most other (subst (λ (l : List Entry). Has l other) (sym is) has) in
            let le = found.1.right.most path leads in
            let e = found.1.is in
            let below = found.2 in
            omega (arith, le, e, below, at));
      }

  pub entry_reached : (es : List Entry) (m : Moment) → es ≡ entries parts bits → IsLatestEntry parts bits extras d es m → Has a.points m.entry.last
  entry_reached es m is latest = are.points.each m.entry.last (entries_lead parts read bits m.entry (subst (λ (l : List Entry). Has l m.entry) is latest.one))
