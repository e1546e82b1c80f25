-- When each answer of `back` comes: only where its cause is true, and always there, unless the desk or the memory fails.
use Rattle.std.specs.Prelude.{◌≡◌, ℕ, true, Some, List, false}
use Rattle.ice_desk.specs.Desk.{Meaning}
use Rattle.ice_flow_frame.specs.declared.cause.Done.{Done}
use Rattle.ice_flow_frame.specs.Rows.{DoneRow, GoodRow, ReadFaultRow, WriteFaultRow, TooLongRow}
use Rattle.ice_flow_frame.specs.Texts.{HoldsTexts}
use Rattle.ice_flow_chip_frame.specs.Rows.{ChipRow, AscRow, PackageRow, BitsRow}
use Rattle.ice_flow_back_cmd.specs.Asked.{Back, files_of}
use Rattle.ice_flow_back_cmd.specs.Command.{back_files}
use Rattle.ice_flow_back_cmd.specs.Headline.{IsShown}

-- status 0: where the desk tells its contents, the file of the netlist holds the configured chip
abbrev pub HeadlineRow : Back → Meaning → Meaning → ℕ → Type 0
HeadlineRow b old new status =
    status ≡ 0 → old.tells ≡ true
    → (texts : List (List ℕ)) × (text : List ℕ) × HoldsTexts (files_of b) old texts × (new.files b.blif ≡ Some text) × IsShown b.package_name texts text

-- the end of `back`, where the desk was seen as `old` before and is seen as `new` after
pub record IsBackAnswer (b : Back) (old new : Meaning) (end : Done) : Type 0 where
  pub headline : HeadlineRow b old new end.status
  pub good : GoodRow (back_files b) old new end.cause end.status
  pub done : DoneRow (back_files b) old end.cause
  pub bad_chip : ChipRow (back_files b) old end.cause
  pub bad_asc : AscRow (back_files b) old end.cause
  pub no_package : PackageRow (back_files b) b.package_name old end.cause
  pub bad_bits : BitsRow false (back_files b) b.package_name old end.cause
  pub read_fault : ReadFaultRow (back_files b) old new end.cause
  pub write_fault : WriteFaultRow (back_files b) old new end.cause
  pub too_long : TooLongRow (back_files b) old new end.cause
