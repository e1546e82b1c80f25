-- What a standing tells of the texts.
use Rattle.std.proofs.Common.{◌≡◌, ◌⊎◌, ℕ, Bool, List, None, Some, Option, Result, Ok, Err, inl, inr, refl, sym, subst}
use Rattle.ice_chip.specs.Database.{Parts, PackageRows}
use Rattle.ice_chip.specs.Lookups.{package_of}
use Rattle.ice_chip.specs.declared.fault.ChipFault.{ChipFault}
use Rattle.ice_chip_read.specs.Whole.{chip_says}
use Rattle.ice_bits.specs.Configuration.{Configuration}
use Rattle.ice_asc.specs.Grammar.{asc_in}
use Rattle.ice_asc.specs.declared.fault.AscFault.{AscFault}
use Rattle.ice_pads.specs.declared.fault.PinFault.TheVariants as pin_fault
use Rattle.ice_flow_frame.specs.declared.cause.Cause.{Cause}
use Rattle.ice_flow_frame.specs.declared.cause.Cause.TheVariants.{BadChip, BadPin, BadAsc, BadBits}
use Rattle.ice_flow_frame.specs.Texts.{text_at}
use Rattle.ice_flow_frame.proofs.Standings.{fault_alone, none_alone, then_stands, some_stands}
use Rattle.ice_flow_chip_frame.specs.Standing.{BitsStand, PackageStands, AscStands, TextsStand, IsRead, IsPacked, IsConfigured, HasChipFault, HasAscFault, LacksPackage, IsBadBits}
use Rattle.ice_flow_chip_frame.proofs.Looks.{asc_stands}

-- what a refusal of the chip text, of the text of bits, of the package or of the bits tells
abbrev pub Refuses : Bool → List ℕ → List (List ℕ) → Cause → Type 0
Refuses rams name t (BadChip fault) = HasChipFault fault t
Refuses rams name t (BadAsc fault) = HasAscFault fault t
Refuses rams name t (BadPin pin_fault.NoPackage) = LacksPackage name t
Refuses rams name t (BadBits fault) = IsBadBits rams name fault t
Refuses rams name t cause = ⊥

-- the bits have no fault, and it stands as what follows
pub record IsBehind (rams : Bool) (Then : PackageRows → Cause → Type 0) (name : List ℕ) (t : List (List ℕ)) (cause : Cause) : Type 0 where
  pub parts : Parts
  pub configuration : Configuration
  pub bonded : PackageRows
  pub is_configured : IsConfigured rams name t parts configuration bonded
  pub stands : Then bonded cause

module _ (rams : Bool) (Then : PackageRows → Cause → Type 0) (name : List ℕ) (t : List (List ℕ)) (cause : Cause) where
  abbrev Tells : Type 0
  Tells = Refuses rams name t cause ⊎ IsBehind rams Then name t cause

  refuses : (is : Cause) → cause ≡ is → Refuses rams name t is → Tells
  refuses is e so = inl (subst (Refuses rams name t) (sym e) so)

  told_bits : (parts : Parts) (k : Configuration) (bonded : PackageRows) → IsPacked name t parts k bonded → BitsStand rams Then parts k bonded cause → Tells
  told_bits parts k bonded packed (inl bad) =
      refuses (BadBits bad.0) bad.1 (record { parts = parts; configuration = k; bonded = bonded; is_packed = packed; is_fault = bad.2; is_known = bad.3 })
  told_bits parts k bonded packed (inr good) =
      inr (record { parts = parts; configuration = k; bonded = bonded; is_configured = record { is_packed = packed; faultless = good.0 }; stands = good.1 })

  told_package : (parts : Parts) (k : Configuration) (found : Option PackageRows) → IsRead t parts k → package_of parts name ≡ found → PackageStands rams Then name parts k cause → Tells
  told_package parts k None read is m =
      refuses (BadPin pin_fault.NoPackage) (none_alone (package_of parts name) (BadPin pin_fault.NoPackage) (BitsStand rams Then parts k) cause is m)
      (record { parts = parts; configuration = k; is_read = read; is_lacking = is })
  told_package parts k (Some bonded) read is m =
      told_bits parts k bonded (record { is_read = read; is_package = is }) (some_stands (package_of parts name) (BadPin pin_fault.NoPackage) (BitsStand rams Then parts k) bonded cause is m)

  told_asc : (parts : Parts) (said : Result Configuration AscFault) → chip_says (text_at t 1) ≡ Ok parts → asc_in parts (text_at t 2) ≡ said → AscStands rams Then name (text_at t 2) parts cause → Tells
  told_asc parts (Err fault) chip is m = refuses (BadAsc fault) (fault_alone (asc_in parts (text_at t 2)) BadAsc (PackageStands rams Then name parts) fault cause is m) (parts, chip, is)
  told_asc parts (Ok k) chip is m =
      told_package parts k (package_of parts name) (record { is_chip = chip; are_bits = is }) refl (then_stands (asc_in parts (text_at t 2)) BadAsc (PackageStands rams Then name parts) k cause is m)

  told_chip : (said : Result Parts ChipFault) → chip_says (text_at t 1) ≡ said → TextsStand rams Then name t cause → Tells
  told_chip (Err fault) is m = refuses (BadChip fault) (fault_alone (chip_says (text_at t 1)) BadChip (AscStands rams Then name (text_at t 2)) fault cause is m) is
  told_chip (Ok parts) is m = told_asc parts (asc_in parts (text_at t 2)) is refl (asc_stands rams Then name t parts cause is m)

  -- a standing is a refusal that tells so, or the bits have no fault and it stands as what follows
  pub told : TextsStand rams Then name t cause → Refuses rams name t cause ⊎ IsBehind rams Then name t cause
  told m = told_chip (chip_says (text_at t 1)) refl m
