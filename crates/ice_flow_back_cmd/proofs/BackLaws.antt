-- When each answer of `back` comes, from how its texts stand.
use Rattle.std.proofs.Common.{◌≡◌, ℕ, List, inl, inr, false}
use Rattle.ice_desk.specs.Desk.{Meaning}
use Rattle.ice_chip.specs.Database.{PackageRows}
use Rattle.ice_flow_frame.specs.declared.cause.Cause.{Cause}
use Rattle.ice_flow_frame.specs.declared.cause.Cause.TheVariants.{Usage}
use Rattle.ice_flow_frame.specs.declared.cause.Done.{Done}
use Rattle.ice_flow_frame.specs.Causes.{status_of}
use Rattle.ice_flow_frame.specs.Commands.{IsDone, IsTrueOf}
use Rattle.ice_flow_frame.specs.Reading.{TellsLong}
use Rattle.ice_flow_frame.specs.Rows.{GoodRow, IsHeld}
use Rattle.ice_flow_frame.specs.Told.{telling}
use Rattle.ice_flow_frame.specs.Texts.{text_at}
use Rattle.ice_flow_frame.proofs.CommandRows.{Lawful, StandsAlone, done_row, good_row, read_fault_row, write_fault_row, too_long_row}
use Rattle.ice_flow_frame.proofs.Standings.{of_done}
use Rattle.ice_flow_chip_frame.proofs.Looks.{then_so, configured_so}
use Rattle.ice_flow_chip_frame.proofs.RowLaws.{IsLater, IsOnBits, chip_row, asc_row, package_row, bits_row}
use Rattle.ice_flow_chip_frame.proofs.Told.{told}
use Rattle.ice_flow_back_cmd.specs.Asked.{Back}
use Rattle.ice_flow_back_cmd.specs.BackRows.{HeadlineRow, IsBackAnswer}
use Rattle.ice_flow_back_cmd.specs.Command.{StandsForBack, back_files}

abbrev Then : List (List ℕ) → PackageRows → Cause → Type 0
Then texts bonded = IsDone

never : (name : List ℕ) (t : List (List ℕ)) → StandsForBack name t Usage → ⊥
never name t m = elim (told false (Then t) name t Usage m) [ inl so ↦ so | inr behind ↦ behind.stands ]

pub lawful : (b : Back) → Lawful (back_files b)
lawful b = record {
  done = λ t made on counted cause g done.
      let shown = g.0.is_shown in
      configured_so false (Then t) b.package_name t shown.parts shown.configuration shown.bonded cause shown.is_configured done;
  never = never b.package_name;
}

pub alone : (b : Back) → StandsAlone (back_files b)
alone b t made on counted cause g m =
    let shown = g.0.is_shown in
    then_so false (Then t) b.package_name t shown.parts shown.configuration shown.bonded cause shown.is_configured m

on_bits : (b : Back) → IsOnBits false (back_files b) Then b.package_name
on_bits b = record {
  lawful = lawful b;
  stands = λ t cause m. m;
  later = λ t bonded cause done. of_done IsLater (λ arrangement tallies kept. tt) (λ role put. tt) cause done;
}

-- ---- the headline
headline_row : (b : Back) (old new : Meaning) (cause : Cause) (status : ℕ) → GoodRow (back_files b) old new cause status → HeadlineRow b old new status
headline_row b old new cause status good zero_status tells =
    let done = good.done zero_status in
    let held : IsHeld (back_files b) old new done.0 (telling done.1 done.2) = good.held done.0 done.1 done.2 done.3 tells in
    (held.texts, text_at held.made 1, held.hold, held.there.0 tt, held.gives.0.is_shown)

-- ---- all rows
pub answers : (b : Back) (old new : Meaning) (end : Done) → IsTrueOf (back_files b) old new end.cause → end.status ≡ status_of end.cause → TellsLong new end.cause → IsBackAnswer b old new end
answers b old new end is status told_long =
    let good = good_row (back_files b) old new end.cause end.status is status in
    let on = on_bits b in
    let name = b.package_name in
    record {
      headline = headline_row b old new end.cause end.status good;
      good = good;
      done = done_row (back_files b) old new end.cause (lawful b) (alone b) is;
      bad_chip = chip_row false (back_files b) Then name on old new end.cause is;
      bad_asc = asc_row false (back_files b) Then name on old new end.cause is;
      no_package = package_row false (back_files b) Then name on old new end.cause is;
      bad_bits = bits_row false (back_files b) Then name on old new end.cause is;
      read_fault = read_fault_row (back_files b) old new end.cause is;
      write_fault = write_fault_row (back_files b) old new end.cause is;
      too_long = too_long_row (back_files b) old new end.cause is told_long;
    }
