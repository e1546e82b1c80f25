-- How the texts stand, by what was read of them, and back.
use Rattle.std.proofs.Common.{◌≡◌, ◌≢◌, ◌∙◌, ℕ, Bool, true, false, List, None, Some, Ok, Err, Result, inl, inr, refl, sym}
use Rattle.ice_chip.specs.Answers as chip_answers
use Rattle.ice_chip.specs.Database.{Parts, PackageRows}
use Rattle.ice_chip.specs.Lookups.{package_of}
use Rattle.ice_chip.specs.declared.fault.ChipFault.{ChipFault}
use Rattle.ice_chip_read.specs.Whole.{chip_says}
use Rattle.ice_bits.specs.Configuration.{Bits, Configuration, bits_of}
use Rattle.ice_asc.specs.Answers as asc_answers
use Rattle.ice_asc.specs.Grammar.{asc_in}
use Rattle.ice_asc.specs.declared.fault.AscFault.{AscFault}
use Rattle.ice_asc.specs.declared.fault.AscFault.TheVariants as asc_fault
use Rattle.ice_decode.specs.Memories.{IsTaken, IsRefusedFor, IsPlainFaultOf}
use Rattle.ice_decode.specs.Refusals.{IsFaultless, IsFaultOf}
use Rattle.ice_decode.specs.declared.fault.DecodeFault.{DecodeFault}
use Rattle.ice_decode.specs.declared.fault.DecodeFault.TheVariants as decode_fault
use Rattle.ice_pads.specs.declared.fault.PinFault.TheVariants as pin_fault
use Rattle.ice_flow_frame.specs.declared.cause.Cause.{Cause}
use Rattle.ice_flow_frame.specs.declared.cause.Cause.TheVariants.{BadChip, BadPin, BadAsc, BadBits}
use Rattle.ice_flow_frame.specs.Commands.{IsRefusal}
use Rattle.ice_flow_frame.specs.Refusals.{IsChipRefusal, IsAscRefusal, IsBitsRefusal}
use Rattle.ice_flow_frame.specs.Texts.{text_at}
use Rattle.ice_flow_frame.proofs.Standings.{at_fault, behind, then_stands, behind_some, some_stands}
use Rattle.ice_flow_frame.proofs.Standings as standings
use Rattle.ice_flow_chip_frame.specs.Standing.{BitsStand, PackageStands, AscStands, TextsStand, IsRead, IsPacked, IsConfigured}

-- bits without a fault have none of the faults
none_of_whole : (parts : Parts) (bits : Bits) (extras : List (ℕ × ℕ × ℕ)) (fault : DecodeFault) → IsFaultOf parts bits extras fault → fault ≢ decode_fault.NoMemory → IsFaultless parts bits extras → ⊥
none_of_whole parts bits extras (decode_fault.Contention wire rows) is known without = let both : Some (wire.0, rows.0.0, rows.1.0) ≡ None = sym is ∙ without.of_chip.uncontended in cc
none_of_whole parts bits extras (decode_fault.ForeignSource wire) is known without = let both : Some wire.0 ≡ None = sym is.first ∙ without.of_chip.sources in cc
none_of_whole parts bits extras (decode_fault.ForeignFunction tile line) is known without = let both : Some (tile, line) ≡ None = sym is.first ∙ without.of_chip.functions in cc
none_of_whole parts bits extras (decode_fault.ForeignExtra extra) is known without = let both : Some extra ≡ None = sym is.first ∙ without.of_chip.extras_known in cc
none_of_whole parts bits extras (decode_fault.ChipLoop wires) is known without = without.loopless.none is.is_loop.cycle is.is_loop.closes
none_of_whole parts bits extras (decode_fault.PinType pad value) is known without = let both : Some pad ≡ None = sym is.first ∙ without.types in cc
none_of_whole parts bits extras decode_fault.NoMemory is known without = known refl

-- and none where no output of a memory may be read
none_of_plain : (parts : Parts) (bits : Bits) (extras : List (ℕ × ℕ × ℕ)) (fault : DecodeFault) → IsPlainFaultOf parts bits extras fault → fault ≢ decode_fault.NoMemory → IsTaken false parts bits extras → ⊥
none_of_plain parts bits extras (decode_fault.Contention wire rows) is known plain = none_of_whole parts bits extras (decode_fault.Contention wire rows) is known plain.faultless
none_of_plain parts bits extras (decode_fault.ForeignSource wire) (inl is) known plain = none_of_whole parts bits extras (decode_fault.ForeignSource wire) is known plain.faultless
none_of_plain parts bits extras (decode_fault.ForeignSource wire) (inr is) known plain = let both : Some wire.0 ≡ None = sym is.first ∙ plain.memories in cc
none_of_plain parts bits extras (decode_fault.ForeignFunction tile line) is known plain = none_of_whole parts bits extras (decode_fault.ForeignFunction tile line) is known plain.faultless
none_of_plain parts bits extras (decode_fault.ForeignExtra extra) is known plain = none_of_whole parts bits extras (decode_fault.ForeignExtra extra) is known plain.faultless
none_of_plain parts bits extras (decode_fault.ChipLoop wires) is known plain = none_of_whole parts bits extras (decode_fault.ChipLoop wires) is known plain.faultless
none_of_plain parts bits extras (decode_fault.PinType pad value) is known plain = none_of_whole parts bits extras (decode_fault.PinType pad value) is known plain.faultless
none_of_plain parts bits extras decode_fault.NoMemory is known plain = known refl

pub none_of : (rams : Bool) (parts : Parts) (bits : Bits) (extras : List (ℕ × ℕ × ℕ)) (fault : DecodeFault) → IsRefusedFor rams parts bits extras fault → fault ≢ decode_fault.NoMemory
    → IsTaken rams parts bits extras → ⊥
none_of true parts bits extras fault is known taken = none_of_whole parts bits extras fault is known taken
none_of false parts bits extras fault is known taken = none_of_plain parts bits extras fault is known taken

module _ (rams : Bool) (Then : PackageRows → Cause → Type 0) (name : List ℕ) (t : List (List ℕ)) (parts : Parts) where
  -- ---- from how texts stand, down to how what was read of them stands
  pub asc_stands : (cause : Cause) → chip_says (text_at t 1) ≡ Ok parts → TextsStand rams Then name t cause → AscStands rams Then name (text_at t 2) parts cause
  asc_stands cause e m = then_stands (chip_says (text_at t 1)) BadChip (AscStands rams Then name (text_at t 2)) parts cause e m

  pub package_stands : (k : Configuration) (cause : Cause) → IsRead t parts k → TextsStand rams Then name t cause → PackageStands rams Then name parts k cause
  package_stands k cause read m = then_stands (asc_in parts (text_at t 2)) BadAsc (PackageStands rams Then name parts) k cause read.are_bits (asc_stands cause read.is_chip m)

  pub bits_stand : (k : Configuration) (bonded : PackageRows) (cause : Cause) → IsPacked name t parts k bonded → TextsStand rams Then name t cause → BitsStand rams Then parts k bonded cause
  bits_stand k bonded cause packed m =
      some_stands (package_of parts name) (BadPin pin_fault.NoPackage) (BitsStand rams Then parts k) bonded cause packed.is_package (package_stands k cause packed.is_read m)

  no_fault : (k : Configuration) (bonded : PackageRows) (cause : Cause) → IsTaken rams parts (bits_of k) k.extras → BitsStand rams Then parts k bonded cause → Then bonded cause
  no_fault k bonded cause faultless (inl bad) = absurd (none_of rams parts (bits_of k) k.extras bad.0 bad.2 bad.3 faultless)
  no_fault k bonded cause faultless (inr good) = good.1

  -- behind bits without a fault it stands as what follows
  pub then_so : (k : Configuration) (bonded : PackageRows) (cause : Cause) → IsConfigured rams name t parts k bonded → TextsStand rams Then name t cause → Then bonded cause
  then_so k bonded cause is m = no_fault k bonded cause is.faultless (bits_stand k bonded cause is.is_packed m)

  -- ---- and up again
  read_so : (k : Configuration) (cause : Cause) → IsRead t parts k → PackageStands rams Then name parts k cause → TextsStand rams Then name t cause
  read_so k cause read m =
      behind (chip_says (text_at t 1)) BadChip (AscStands rams Then name (text_at t 2)) parts cause read.is_chip
      (behind (asc_in parts (text_at t 2)) BadAsc (PackageStands rams Then name parts) k cause read.are_bits m)

  packed_so : (k : Configuration) (bonded : PackageRows) (cause : Cause) → IsPacked name t parts k bonded → BitsStand rams Then parts k bonded cause → TextsStand rams Then name t cause
  packed_so k bonded cause packed m =
      read_so k cause packed.is_read (behind_some (package_of parts name) (BadPin pin_fault.NoPackage) (BitsStand rams Then parts k) bonded cause packed.is_package m)

  pub configured_so : (k : Configuration) (bonded : PackageRows) (cause : Cause) → IsConfigured rams name t parts k bonded → Then bonded cause → TextsStand rams Then name t cause
  configured_so k bonded cause is m = packed_so k bonded cause is.is_packed (inr (is.faultless, m))

-- ---- the refusals
module _ (rams : Bool) (Then : PackageRows → Cause → Type 0) (name : List ℕ) (t : List (List ℕ)) where
  pub chip_refused : (fault : ChipFault) (cause : Cause) → chip_answers.StopsBy fault (chip_says (text_at t 1)) → IsChipRefusal fault cause → IsRefusal (TextsStand rams Then name t) cause
  chip_refused fault cause says is =
      standings.chip_refused (TextsStand rams Then name t) fault cause
      (λ known. at_fault (chip_says (text_at t 1)) BadChip (AscStands rams Then name (text_at t 2)) fault (standings.chip_fault_is fault (chip_says (text_at t 1)) says known)) is

  asc_fault_is : (fault : AscFault) (said : Result Configuration AscFault) → asc_answers.StopsBy fault said → fault ≢ asc_fault.NoMemory → said ≡ Err fault
  asc_fault_is (asc_fault.NoDevice line) said is known = is
  asc_fault_is (asc_fault.OtherDevice line) said is known = is
  asc_fault_is (asc_fault.UnknownTile line) said is known = is
  asc_fault_is (asc_fault.TileTwice line) said is known = is
  asc_fault_is (asc_fault.BadRow line) said is known = is
  asc_fault_is (asc_fault.UnknownWord line) said is known = is
  asc_fault_is (asc_fault.Truncated line) said is known = is
  asc_fault_is asc_fault.NoMemory said is known = absurd (known refl)

  pub asc_refused : (parts : Parts) (fault : AscFault) (cause : Cause) → chip_says (text_at t 1) ≡ Ok parts → asc_answers.StopsBy fault (asc_in parts (text_at t 2)) → IsAscRefusal fault cause
      → IsRefusal (TextsStand rams Then name t) cause
  asc_refused parts fault cause chip says is =
      standings.asc_refused (TextsStand rams Then name t) fault cause
      (λ known. behind (chip_says (text_at t 1)) BadChip (AscStands rams Then name (text_at t 2)) parts (BadAsc fault) chip
      (at_fault (asc_in parts (text_at t 2)) BadAsc (PackageStands rams Then name parts) fault (asc_fault_is fault (asc_in parts (text_at t 2)) says known))) is

  pub bits_refused : (parts : Parts) (k : Configuration) (bonded : PackageRows) (fault : DecodeFault) (cause : Cause) → IsRead t parts k → package_of parts name ≡ Some bonded
      → IsRefusedFor rams parts (bits_of k) k.extras fault → IsBitsRefusal fault cause → IsRefusal (TextsStand rams Then name t) cause
  bits_refused parts k bonded fault cause read there bad is =
      standings.bits_refused (TextsStand rams Then name t) fault cause
      (λ known. behind (chip_says (text_at t 1)) BadChip (AscStands rams Then name (text_at t 2)) parts (BadBits fault) read.is_chip
      (behind (asc_in parts (text_at t 2)) BadAsc (PackageStands rams Then name parts) k (BadBits fault) read.are_bits
      (behind_some (package_of parts name) (BadPin pin_fault.NoPackage) (BitsStand rams Then parts k) bonded (BadBits fault) there (inl (fault, refl, bad, known))))) is
