-- From the faults of the texts to refusals.
use Rattle.std.proofs.Common.{◌≡◌, ◌≢◌, ℕ, refl, Option, None, Some, Result, Ok, Err, inl, inr, sym, subst}
use Rattle.std.specs.Global.{Vec}
use Rattle.ice_flow_frame.specs.declared.cause.Cause.{Cause}
use Rattle.ice_flow_frame.specs.declared.cause.Cause.TheVariants.{Good, Usage, BadBlif, BadPcf, BadChip, BadNet, BadPin, Overfull, Unreachable, GaveUp, ReadFault, WriteFault, NoMemory, BadAsc, BadBits, TooLong, BadLevels, BadDelays}
use Rattle.ice_flow_frame.specs.declared.cause.FileRole.{FileRole}
use Rattle.ice_place.specs.declared.arrangement.Arrangement.{Arrangement}
use Rattle.ice_flow_frame.specs.Refusals.{IsBlifRefusal, IsPcfRefusal, IsChipRefusal, IsNetRefusal, IsAscRefusal, IsBitsRefusal, IsPinRefusal, IsPlaceRefusal}
use Rattle.ice_flow_frame.specs.Commands.{IsDone, stands_by, stands_with, IsRefusal}
use Rattle.ice_blif.specs.declared.fault.BlifFault.{BlifFault}
use Rattle.ice_blif.specs.declared.fault.BlifFault.TheVariants as blif_fault
use Rattle.ice_pcf.specs.declared.fault.PcfFault.{PcfFault}
use Rattle.ice_pcf.specs.declared.fault.PcfFault.TheVariants as pcf_fault
use Rattle.ice_chip.specs.Answers as chips
use Rattle.ice_chip.specs.Database.{Parts}
use Rattle.ice_chip.specs.declared.fault.ChipFault.{ChipFault}
use Rattle.ice_chip.specs.declared.fault.ChipFault.TheVariants as chip_fault
use Rattle.ice_check.specs.declared.fault.NetFault.{NetFault}
use Rattle.ice_check.specs.declared.fault.NetFault.TheVariants as net_fault
use Rattle.ice_asc.specs.declared.fault.AscFault.{AscFault}
use Rattle.ice_asc.specs.declared.fault.AscFault.TheVariants as asc_fault
use Rattle.ice_decode.specs.declared.fault.DecodeFault.{DecodeFault}
use Rattle.ice_decode.specs.declared.fault.DecodeFault.TheVariants as decode_fault
use Rattle.ice_pads.specs.declared.fault.PinFault.{PinFault}
use Rattle.ice_pads.specs.declared.fault.PinFault.TheVariants as pin_fault
use Rattle.ice_place.specs.declared.fault.PlaceFault.{PlaceFault}
use Rattle.ice_place.specs.declared.fault.PlaceFault.TheVariants as place_fault
use Rattle.ice_negotiate_defs.specs.declared.kept.Kept.{Kept}
use Rattle.ice_words.specs.Grips.{Shut}

-- ---- how texts stand

-- a fault of what is looked for stands so
pub at_fault : {V F : Type 0} (said : Result V F) (tell : F → Cause) (then : V → Cause → Type 0) (fault : F) → said ≡ Err fault → stands_by said tell then (tell fault)
at_fault said tell then fault e = rw e refl

-- what is said has one value
pub one_value : {A E : Type 0} (said : Result A E) (value other : A) → said ≡ Ok value → said ≡ Ok other → value ≡ other
one_value said value other a b = cc

-- behind what is there it stands as what follows
pub behind : {V F : Type 0} (said : Result V F) (tell : F → Cause) (then : V → Cause → Type 0) (value : V) (cause : Cause) → said ≡ Ok value → then value cause → stands_by said tell then cause
behind said tell then value cause e is = rw e is

-- where what is looked for has a fault, this alone is told
pub fault_alone : {V F : Type 0} (said : Result V F) (tell : F → Cause) (then : V → Cause → Type 0) (fault : F) (cause : Cause) → said ≡ Err fault → stands_by said tell then cause → cause ≡ tell fault
fault_alone said tell then fault cause e is = rw e at is

-- where it is there, it stands as what follows
pub then_stands : {V F : Type 0} (said : Result V F) (tell : F → Cause) (then : V → Cause → Type 0) (value : V) (cause : Cause) → said ≡ Ok value → stands_by said tell then cause → then value cause
then_stands said tell then value cause e is = rw e at is

-- the want of what is looked for stands so, and alone
pub at_none : {V : Type 0} (found : Option V) (told : Cause) (then : V → Cause → Type 0) → found ≡ None → stands_with found told then told
at_none found told then e = rw e refl

pub none_alone : {V : Type 0} (found : Option V) (told : Cause) (then : V → Cause → Type 0) (cause : Cause) → found ≡ None → stands_with found told then cause → cause ≡ told
none_alone found told then cause e is = rw e at is

-- behind what is there it stands as what follows, and in no other way
pub behind_some : {V : Type 0} (found : Option V) (told : Cause) (then : V → Cause → Type 0) (value : V) (cause : Cause) → found ≡ Some value → then value cause → stands_with found told then cause
behind_some found told then value cause e is = rw e is

pub some_stands : {V : Type 0} (found : Option V) (told : Cause) (then : V → Cause → Type 0) (value : V) (cause : Cause) → found ≡ Some value → stands_with found told then cause → then value cause
some_stands found told then value cause e is = rw e at is

-- what is true of each answer of done work
pub of_done : (P : Cause → Type 0) → ((arrangement : Arrangement) (tallies : Vec Shut) (kept : Vec Kept) → P (Good arrangement tallies kept)) → ((role : FileRole) (put : ℕ) → P (WriteFault role put)) → (cause : Cause) → IsDone cause → P cause
of_done P good cut (Good arrangement tallies kept) done = good arrangement tallies kept
of_done P good cut Usage done = absurd done
of_done P good cut (BadBlif fault) done = absurd done
of_done P good cut (BadPcf fault) done = absurd done
of_done P good cut (BadChip fault) done = absurd done
of_done P good cut (BadNet fault) done = absurd done
of_done P good cut (BadPin fault) done = absurd done
of_done P good cut (Overfull fault) done = absurd done
of_done P good cut (Unreachable arrangement net sink) done = absurd done
of_done P good cut (GaveUp arrangement logs tallies kept) done = absurd done
of_done P good cut (ReadFault role) done = absurd done
of_done P good cut (WriteFault role put) done = cut role put
of_done P good cut NoMemory done = absurd done
of_done P good cut (BadAsc fault) done = absurd done
of_done P good cut (BadBits fault) done = absurd done
of_done P good cut (TooLong role limit) done = absurd done
of_done P good cut (BadLevels line) done = absurd done
of_done P good cut (BadDelays line) done = absurd done

-- ---- refusals
-- a fault of a chip text that a reader tells, and that isn't want of memory, is the one of the text
pub chip_fault_is : (fault : ChipFault) (said : Result Parts ChipFault) → chips.StopsBy fault said → fault ≢ chip_fault.NoMemory → said ≡ Err fault
chip_fault_is (chip_fault.NoDevice line) said is known = is
chip_fault_is (chip_fault.BadNumber line) said is known = is
chip_fault_is (chip_fault.BadName line) said is known = is
chip_fault_is (chip_fault.OutOfRange line) said is known = is
chip_fault_is (chip_fault.Twice line other) said is known = is
chip_fault_is (chip_fault.BadBit line) said is known = is
chip_fault_is (chip_fault.BadValues line) said is known = is
chip_fault_is (chip_fault.SharedFunction line other) said is known = is
chip_fault_is (chip_fault.LacksFunction line) said is known = is
chip_fault_is (chip_fault.SharedPin line other) said is known = is
chip_fault_is (chip_fault.TooMany limit) said is known = is
chip_fault_is chip_fault.NoMemory said is known = absurd (known refl)

pub blif_refused : (Stands : Cause → Type 0) (fault : BlifFault) (cause : Cause) → (fault ≢ blif_fault.NoMemory → Stands (BadBlif fault)) → IsBlifRefusal fault cause → IsRefusal Stands cause
blif_refused Stands fault cause stands (inl e) = subst (IsRefusal Stands) (sym e.0) tt
blif_refused Stands fault cause stands (inr is) = subst (IsRefusal Stands) (sym is.0) (stands is.1, is.1)

pub pcf_refused : (Stands : Cause → Type 0) (fault : PcfFault) (cause : Cause) → (fault ≢ pcf_fault.NoMemory → Stands (BadPcf fault)) → IsPcfRefusal fault cause → IsRefusal Stands cause
pcf_refused Stands fault cause stands (inl e) = subst (IsRefusal Stands) (sym e.0) tt
pcf_refused Stands fault cause stands (inr is) = subst (IsRefusal Stands) (sym is.0) (stands is.1, is.1)

pub chip_refused : (Stands : Cause → Type 0) (fault : ChipFault) (cause : Cause) → (fault ≢ chip_fault.NoMemory → Stands (BadChip fault)) → IsChipRefusal fault cause → IsRefusal Stands cause
chip_refused Stands fault cause stands (inl e) = subst (IsRefusal Stands) (sym e.0) tt
chip_refused Stands fault cause stands (inr is) = subst (IsRefusal Stands) (sym is.0) (stands is.1, is.1)

pub net_refused : (Stands : Cause → Type 0) (fault : NetFault) (cause : Cause) → (fault ≢ net_fault.NoMemory → Stands (BadNet fault)) → IsNetRefusal fault cause → IsRefusal Stands cause
net_refused Stands fault cause stands (inl e) = subst (IsRefusal Stands) (sym e.0) tt
net_refused Stands fault cause stands (inr is) = subst (IsRefusal Stands) (sym is.0) (stands is.1, is.1)

pub asc_refused : (Stands : Cause → Type 0) (fault : AscFault) (cause : Cause) → (fault ≢ asc_fault.NoMemory → Stands (BadAsc fault)) → IsAscRefusal fault cause → IsRefusal Stands cause
asc_refused Stands fault cause stands (inl e) = subst (IsRefusal Stands) (sym e.0) tt
asc_refused Stands fault cause stands (inr is) = subst (IsRefusal Stands) (sym is.0) (stands is.1, is.1)

pub bits_refused : (Stands : Cause → Type 0) (fault : DecodeFault) (cause : Cause) → (fault ≢ decode_fault.NoMemory → Stands (BadBits fault)) → IsBitsRefusal fault cause → IsRefusal Stands cause
bits_refused Stands fault cause stands (inl e) = subst (IsRefusal Stands) (sym e.0) tt
bits_refused Stands fault cause stands (inr is) = subst (IsRefusal Stands) (sym is.0) (stands is.1, is.1)

pub pin_refused : (Stands : Cause → Type 0) (fault : PinFault) (cause : Cause) → (fault ≢ pin_fault.NoMemory → Stands (BadPin fault)) → IsPinRefusal fault cause → IsRefusal Stands cause
pin_refused Stands fault cause stands (inl e) = subst (IsRefusal Stands) (sym e.0) tt
pin_refused Stands fault cause stands (inr is) = subst (IsRefusal Stands) (sym is.0) (stands is.1, is.1)

pub place_refused : (Stands : Cause → Type 0) (fault : PlaceFault) (cause : Cause) → (fault ≢ place_fault.NoMemory → Stands (Overfull fault)) → IsPlaceRefusal fault cause → IsRefusal Stands cause
place_refused Stands fault cause stands (inl e) = subst (IsRefusal Stands) (sym e.0) tt
place_refused Stands fault cause stands (inr is) = subst (IsRefusal Stands) (sym is.0) (stands is.1, is.1)
