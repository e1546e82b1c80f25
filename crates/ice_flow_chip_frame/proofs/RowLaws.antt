-- When such a command refuses its texts, from how they stand.
use Rattle.std.proofs.Common.{◌≡◌, ℕ, Bool, List, inl, inr, subst}
use Rattle.ice_desk.specs.Desk.{Meaning}
use Rattle.ice_chip.specs.Database.{Parts, PackageRows}
use Rattle.ice_chip.specs.Lookups.{package_of}
use Rattle.ice_chip_read.specs.Whole.{chip_says}
use Rattle.ice_bits.specs.Configuration.{Configuration, bits_of}
use Rattle.ice_asc.specs.Grammar.{asc_in}
use Rattle.ice_decode.specs.Memories.{IsTaken}
use Rattle.ice_decode.specs.declared.fault.DecodeFault.{DecodeFault}
use Rattle.ice_pads.specs.declared.fault.PinFault.TheVariants as pin_fault
use Rattle.ice_flow_frame.specs.declared.cause.Cause.{Cause}
use Rattle.ice_flow_frame.specs.declared.cause.Cause.TheVariants.{BadChip, BadPin, BadAsc, BadBits}
use Rattle.ice_flow_frame.specs.Commands.{Command, IsTrueOf}
use Rattle.ice_flow_frame.specs.Texts.{text_at}
use Rattle.ice_flow_frame.proofs.Standings.{fault_alone, none_alone}
use Rattle.ice_flow_frame.proofs.TextFacts.{of_weaker}
use Rattle.ice_flow_frame.proofs.CommandRows.{Lawful, comes}
use Rattle.ice_flow_chip_frame.specs.Standing.{BitsStand, PackageStands, AscStands, TextsStand, HasChipFault, HasAscFault, LacksPackage, IsFaulty, IsBadBits}
use Rattle.ice_flow_chip_frame.specs.Rows.{ChipRow, AscRow, PackageRow, IsBitsFault, BitsRow}
use Rattle.ice_flow_chip_frame.proofs.Looks.{none_of, asc_stands, package_stands, bits_stand}
use Rattle.ice_flow_chip_frame.proofs.Told.{Refuses, told}

-- what follows bits without a fault refuses neither the chip text nor the text of bits, the pins or the bits
abbrev pub IsLater : Cause → Type 0
IsLater (BadChip fault) = ⊥
IsLater (BadAsc fault) = ⊥
IsLater (BadPin fault) = ⊥
IsLater (BadBits fault) = ⊥
IsLater cause = Unit {0}

-- the command's texts stand so
pub record IsOnBits (rams : Bool) (k : Command) (Then : List (List ℕ) → PackageRows → Cause → Type 0) (name : List ℕ) : Type 0 where
  pub lawful : Lawful k
  pub stands : (t : List (List ℕ)) (cause : Cause) → k.Stands t cause → TextsStand rams (Then t) name t cause
  pub later : (t : List (List ℕ)) (bonded : PackageRows) (cause : Cause) → Then t bonded cause → IsLater cause

faulty : (rams : Bool) (name : List ℕ) (t : List (List ℕ)) (fault : DecodeFault) → IsBadBits rams name fault t → IsFaulty rams name t
faulty rams name t fault bad = record {
  parts = bad.parts;
  configuration = bad.configuration;
  bonded = bad.bonded;
  is_packed = bad.is_packed;
  faulty = λ without. none_of rams bad.parts (bits_of bad.configuration) bad.configuration.extras fault bad.is_fault bad.is_known without;
}

module _ (rams : Bool) (k : Command) (Then : List (List ℕ) → PackageRows → Cause → Type 0) (name : List ℕ) (on : IsOnBits rams k Then name) where
  -- what a refusal of these four kinds tells
  refuses : (t : List (List ℕ)) (cause : Cause) → (IsLater cause → ⊥) → k.Stands t cause → Refuses rams name t cause
  refuses t cause early m = elim (told rams (Then t) name t cause (on.stands t cause m)) [
    | inl so ↦ so
    | inr behind ↦ absurd (early (on.later t behind.bonded cause behind.stands))
  ]

  module _ (old new : Meaning) (cause : Cause) (is : IsTrueOf k old new cause) where
    pub chip_row : ChipRow k old cause
    chip_row fault =
        comes k old new cause (λ c. c ≡ BadChip fault) (HasChipFault fault) on.lawful is
        (λ e. of_weaker k.files old (λ t. k.Stands t (BadChip fault)) (HasChipFault fault) (λ t m. refuses t (BadChip fault) (λ x. x) m) (subst (λ (x : Cause). IsTrueOf k old new x) e is).0)
        (λ t h m. fault_alone (chip_says (text_at t 1)) BadChip (AscStands rams (Then t) name (text_at t 2)) fault cause h (on.stands t cause m))

    pub asc_row : AscRow k old cause
    asc_row fault =
        comes k old new cause (λ c. c ≡ BadAsc fault) (HasAscFault fault) on.lawful is
        (λ e. of_weaker k.files old (λ t. k.Stands t (BadAsc fault)) (HasAscFault fault) (λ t m. refuses t (BadAsc fault) (λ x. x) m) (subst (λ (x : Cause). IsTrueOf k old new x) e is).0)
        (λ t h m. fault_alone (asc_in h.0 (text_at t 2)) BadAsc (PackageStands rams (Then t) name h.0) fault cause h.2 (asc_stands rams (Then t) name t h.0 cause h.1 (on.stands t cause m)))

    pub package_row : PackageRow k name old cause
    package_row =
        comes k old new cause (λ c. c ≡ BadPin pin_fault.NoPackage) (LacksPackage name) on.lawful is
        (λ e. of_weaker k.files old (λ t. k.Stands t (BadPin pin_fault.NoPackage)) (LacksPackage name) (λ t m. refuses t (BadPin pin_fault.NoPackage) (λ x. x) m)
        (subst (λ (x : Cause). IsTrueOf k old new x) e is).0)
        (λ t h m. none_alone (package_of h.parts name) (BadPin pin_fault.NoPackage) (BitsStand rams (Then t) h.parts h.configuration) cause h.is_lacking
        (package_stands rams (Then t) name t h.parts h.configuration cause h.is_read (on.stands t cause m)))

    bits_alone : (t : List (List ℕ)) (parts : Parts) (c : Configuration) (bonded : PackageRows) → (IsTaken rams parts (bits_of c) c.extras → ⊥) → BitsStand rams (Then t) parts c bonded cause → IsBitsFault cause
    bits_alone t parts c bonded bad (inl so) = (so.0, so.1)
    bits_alone t parts c bonded bad (inr good) = absurd (bad good.0)

    pub bits_row : BitsRow rams k name old cause
    bits_row =
        let at = λ (fault : DecodeFault) (e : cause ≡ BadBits fault). of_weaker k.files old (λ t. k.Stands t (BadBits fault)) (IsBadBits rams name fault) (λ t m. refuses t (BadBits fault) (λ x. x) m)
        (subst (λ (x : Cause). IsTrueOf k old new x) e is).0 in
        record {
          comes = comes k old new cause IsBitsFault (IsFaulty rams name) on.lawful is (λ f. of_weaker k.files old (IsBadBits rams name f.0) (IsFaulty rams name) (λ t m. faulty rams name t f.0 m) (at f.0 f.1))
              (λ t h m. bits_alone t h.parts h.configuration h.bonded h.faulty (bits_stand rams (Then t) name t h.parts h.configuration h.bonded cause h.is_packed (on.stands t cause m)));
          fault_is = at;
        }
