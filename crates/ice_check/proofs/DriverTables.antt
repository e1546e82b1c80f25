-- The table of drivers, as it is made.
use Rattle.std.proofs.Common.{◌≡◌, ℕ, ◌+◌, ◌<◌, List, [], ◌∷◌, ◌++◌, length, get_or, Option, None, inl, inr, refl, ap, sym, ◌∙◌, arith, length-append}
use Rattle.std.proofs.lemmas.List.{get_or_append_left}
use Rattle.std.proofs.Math.Seq.{get_or-append_seam}
use Rattle.std.proofs.lemmas.Bool.{cases_lt}
use Rattle.ice_net.specs.declared.driver.SignalDriver.{SignalDriver}
use Rattle.ice_net.specs.declared.driver.SignalDriver.TheVariants.{Nothing}
use Rattle.ice_net.specs.NetlistData.{NetlistData}
use Rattle.ice_net.specs.Drivers.{place_of, driver_from, pad_signals, outputs}
use Rattle.ice_check.specs.Tables.{ArePlaces, AreDrivers, AreJoined}

pub joined_none : (pad_signals outputs : List (Option ℕ)) → AreJoined 0 pad_signals outputs []
joined_none pad_signals outputs = record { long = refl; joined = λ s lt. absurd (omega (arith, lt)) }

pub joined_more : (pad_signals outputs : List (Option ℕ)) (table : List SignalDriver) (i : ℕ) → AreJoined i pad_signals outputs table
    → AreJoined (i + 1) pad_signals outputs (table ++ driver_from (get_or pad_signals i None) (get_or outputs i None) ∷ [])
joined_more pad_signals outputs table i h = record {
  long = length-append table (driver ∷ []) ∙ ap (λ n. n + 1) h.long;
  joined = λ s lt. elim (cases_lt s i) [
    | inl before ↦ get_or_append_left table (driver ∷ []) Nothing s (let long = h.long in omega arith) ∙ h.joined s before
    | inr past ↦ (let e : length table ≡ s = (let long = h.long in omega arith) in
        let here : s ≡ i = omega arith in
        ap (λ k. get_or (table ++ driver ∷ []) k Nothing) (sym e) ∙ get_or-append_seam table driver [] Nothing
        ∙ ap (λ k. driver_from (get_or pad_signals k None) (get_or outputs k None)) (sym here))
  ];
}
  where
    driver : SignalDriver
    driver = driver_from (get_or pad_signals i None) (get_or outputs i None)

pub drivers_joined : (n : NetlistData) (pad_places output_places : List (Option ℕ)) (table : List SignalDriver)
    → ArePlaces (length n.names) (pad_signals n) pad_places → ArePlaces (length n.names) (outputs n) output_places
    → AreJoined (length pad_places) pad_places output_places table → AreDrivers n table
drivers_joined n pad_places output_places table p o j = record {
  long = j.long ∙ p.long;
  drivers = λ s lt.
      let long = p.long in
      let below : s < length pad_places = omega (arith, lt, long) in
      j.joined s below
      ∙ ap (λ k. driver_from k (get_or output_places s None)) (p.places s lt)
      ∙ ap (driver_from (place_of s (pad_signals n))) (o.places s lt);
}
