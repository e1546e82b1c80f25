-- When each answer of a command comes, from what each cause says.
use Rattle.std.proofs.Common.{◌≡◌, ◌⊎◌, ◌∙◌, ℕ, true, List, inl, inr, refl, sym, ap, subst, arith}
use Rattle.std.specs.Global.{Vec}
use Rattle.ice_place.specs.declared.arrangement.Arrangement.{Arrangement}
use Rattle.ice_desk.specs.Desk.{Meaning}
use Rattle.ice_flow_frame.specs.declared.cause.Cause.{Cause}
use Rattle.ice_flow_frame.specs.declared.cause.Cause.TheVariants.{Good, Usage, BadBlif, BadPcf, BadChip, BadNet, BadPin, Overfull, Unreachable, GaveUp, ReadFault, WriteFault, NoMemory, BadAsc, BadBits, TooLong, BadLevels, BadDelays}
use Rattle.ice_flow_frame.specs.declared.cause.FileRole.{FileRole}
use Rattle.ice_flow_frame.specs.Causes.{status_of}
use Rattle.ice_flow_frame.specs.Reading.{most_bytes, role_at, IsFirstTooLong, IsInterrupted, TellsLong}
use Rattle.ice_flow_frame.specs.Refusals.{IsKnown}
use Rattle.ice_flow_frame.specs.Texts.{OfTexts, HoldsTexts}
use Rattle.ice_flow_frame.specs.Told.{Told, telling}
use Rattle.ice_flow_frame.specs.Commands.{Command, Output, Aloud, InFiles, IsDone, IsGiven, IsGood, IsTrueOf}
use Rattle.ice_flow_frame.specs.Rows.{ComesExactly, DoneRow, IsThere, GoodRow, ReadFaultRow, WriteFaultRow, TooLongRow}
use Rattle.ice_flow_frame.proofs.ReadStops.{stops_at_first, long_exactly}
use Rattle.ice_flow_frame.proofs.TextFacts.{at_files, of_weaker, holds_read, long_not, read_not_long}
use Rattle.ice_flow_frame.proofs.Writes.{all_hold}
use Rattle.ice_negotiate_defs.specs.declared.kept.Kept.{Kept}
use Rattle.ice_words.specs.Grips.{Shut}

-- What a command has to show of how its texts stand: those that give something stand so that the work is done; and no texts are no
-- command.
pub record Lawful (k : Command) : Type 0 where
  pub done : (texts : List (List ℕ)) (made : List (List ℕ)) (on : Arrangement) (told : Told) (cause : Cause) → k.Gives texts made on told → IsDone cause → k.Stands texts cause
  pub never : (texts : List (List ℕ)) → k.Stands texts Usage → ⊥

-- Texts that give something stand in no other way. It is so of a command whose texts alone decide its answer.
abbrev pub StandsAlone : Command → Type 0
StandsAlone k = (texts : List (List ℕ)) (made : List (List ℕ)) (on : Arrangement) (told : Told) (cause : Cause) → k.Gives texts made on told → k.Stands texts cause → IsDone cause

-- what a cause says of the texts that the files hold, unless the desk or the memory failed
says : (k : Command) (old new : Meaning) (held : List (List ℕ)) (cause : Cause) → Lawful k → HoldsTexts k.files old held → IsTrueOf k old new cause → IsInterrupted cause ⊎ k.Stands held cause
says k old new held (Good arrangement tallies kept) law holds is = inr (law.done held is.made arrangement (telling tallies kept) (Good arrangement tallies kept) (at_files k.files old (λ texts. k.Gives texts is.made arrangement (telling tallies kept)) held holds is.texts) tt)
says k old new held Usage law holds is = inr (at_files k.files old (λ texts. k.Stands texts Usage) held holds is.0)
says k old new held (BadBlif fault) law holds is = inr (at_files k.files old (λ texts. k.Stands texts (BadBlif fault)) held holds is.0)
says k old new held (BadPcf fault) law holds is = inr (at_files k.files old (λ texts. k.Stands texts (BadPcf fault)) held holds is.0)
says k old new held (BadChip fault) law holds is = inr (at_files k.files old (λ texts. k.Stands texts (BadChip fault)) held holds is.0)
says k old new held (BadNet fault) law holds is = inr (at_files k.files old (λ texts. k.Stands texts (BadNet fault)) held holds is.0)
says k old new held (BadPin fault) law holds is = inr (at_files k.files old (λ texts. k.Stands texts (BadPin fault)) held holds is.0)
says k old new held (Overfull fault) law holds is = inr (at_files k.files old (λ texts. k.Stands texts (Overfull fault)) held holds is.0)
says k old new held (Unreachable arrangement net sink) law holds is = inr (at_files k.files old (λ texts. k.Stands texts (Unreachable arrangement net sink)) held holds is.0)
says k old new held (GaveUp arrangement logs tallies kept) law holds is = inr (at_files k.files old (λ texts. k.Stands texts (GaveUp arrangement logs tallies kept)) held holds is.0)
says k old new held (ReadFault role) law holds is = inl tt
says k old new held (WriteFault role put) law holds is = inr (law.done held is.made is.arrangement is.told (WriteFault role put) (at_files k.files old (λ texts. k.Gives texts is.made is.arrangement is.told) held holds is.texts) tt)
says k old new held NoMemory law holds is = inl tt
says k old new held (BadAsc fault) law holds is = inr (at_files k.files old (λ texts. k.Stands texts (BadAsc fault)) held holds is.0)
says k old new held (BadBits fault) law holds is = inr (at_files k.files old (λ texts. k.Stands texts (BadBits fault)) held holds is.0)
says k old new held (TooLong role limit) law holds is = absurd (long_not k.files old new role limit held holds is)
says k old new held (BadLevels line) law holds is = inr (at_files k.files old (λ texts. k.Stands texts (BadLevels line)) held holds is.0)
says k old new held (BadDelays line) law holds is = inr (at_files k.files old (λ texts. k.Stands texts (BadDelays line)) held holds is.0)

-- an answer comes exactly where the texts are so
pub comes : (k : Command) (old new : Meaning) (cause : Cause) (IsSuch : Cause → Type 0) (AreSo : List (List ℕ) → Type 0) → Lawful k → IsTrueOf k old new cause
    → (IsSuch cause → OfTexts k.files old AreSo) → ((texts : List (List ℕ)) → AreSo texts → k.Stands texts cause → IsSuch cause) → ComesExactly k old IsSuch AreSo cause
comes k old new cause IsSuch AreSo law is only always = record {
  only = only;
  always = λ texts holds so. elim (says k old new texts cause law holds is) [
    | inl interrupted ↦ inr interrupted
    | inr stands ↦ inl (always texts so stands)
  ];
}

done_only : (k : Command) (old new : Meaning) (cause : Cause) (AreSo : List (List ℕ) → Type 0) → ((texts : List (List ℕ)) (made : List (List ℕ)) (on : Arrangement) (told : Told) → k.Gives texts made on told → AreSo texts) → IsTrueOf k old new cause
    → IsDone cause → OfTexts k.files old AreSo
done_only k old new (Good arrangement tallies kept) AreSo so is done = of_weaker k.files old (λ texts. k.Gives texts is.made arrangement (telling tallies kept)) AreSo (λ texts g. so texts is.made arrangement (telling tallies kept) g) is.texts
done_only k old new Usage AreSo so is done = absurd done
done_only k old new (BadBlif fault) AreSo so is done = absurd done
done_only k old new (BadPcf fault) AreSo so is done = absurd done
done_only k old new (BadChip fault) AreSo so is done = absurd done
done_only k old new (BadNet fault) AreSo so is done = absurd done
done_only k old new (BadPin fault) AreSo so is done = absurd done
done_only k old new (Overfull fault) AreSo so is done = absurd done
done_only k old new (Unreachable arrangement net sink) AreSo so is done = absurd done
done_only k old new (GaveUp arrangement logs tallies kept) AreSo so is done = absurd done
done_only k old new (ReadFault role) AreSo so is done = absurd done
done_only k old new (WriteFault role put) AreSo so is done = of_weaker k.files old (λ texts. k.Gives texts is.made is.arrangement is.told) AreSo (λ texts g. so texts is.made is.arrangement is.told g) is.texts
done_only k old new NoMemory AreSo so is done = absurd done
done_only k old new (BadAsc fault) AreSo so is done = absurd done
done_only k old new (BadBits fault) AreSo so is done = absurd done
done_only k old new (TooLong role limit) AreSo so is done = absurd done
done_only k old new (BadLevels line) AreSo so is done = absurd done
done_only k old new (BadDelays line) AreSo so is done = absurd done

-- the work is done exactly where the texts are so
pub done_where : (k : Command) (old new : Meaning) (cause : Cause) (AreSo : List (List ℕ) → Type 0) → Lawful k → IsTrueOf k old new cause
    → ((texts : List (List ℕ)) (made : List (List ℕ)) (on : Arrangement) (told : Told) → k.Gives texts made on told → AreSo texts) → ((texts : List (List ℕ)) → AreSo texts → k.Stands texts cause → IsDone cause)
    → ComesExactly k old IsDone AreSo cause
done_where k old new cause AreSo law is so alone = comes k old new cause IsDone AreSo law is (done_only k old new cause AreSo so is) alone

pub done_row : (k : Command) (old new : Meaning) (cause : Cause) → Lawful k → StandsAlone k → IsTrueOf k old new cause → DoneRow k old cause
done_row k old new cause law alone is =
    done_where k old new cause (λ texts. (made : List (List ℕ)) × (arrangement : Arrangement) × (told : Told) × k.Gives texts made arrangement told) law is (λ texts made on told g. (made, on, told, g))
    (λ texts so stands. alone texts so.0 so.1 so.2 cause so.3 stands)

there : (output : Output) (texts : List (List ℕ)) (old new : Meaning) → old.tells ≡ true → IsGiven output texts old new → IsThere output texts old new
there Aloud texts old new t is = is.said t
there (InFiles files) texts old new t is = all_hold files texts old new t is

-- the status of no other cause is 0
pub good_alone : (cause : Cause) → status_of cause ≡ 0 → (arrangement : Arrangement) × (tallies : Vec Shut) × (kept : Vec Kept) × (cause ≡ Good arrangement tallies kept)
good_alone (Good arrangement tallies kept) e = (arrangement, tallies, kept, refl)
good_alone Usage e = absurd (omega (arith, e))
good_alone (BadBlif fault) e = absurd (omega (arith, e))
good_alone (BadPcf fault) e = absurd (omega (arith, e))
good_alone (BadChip fault) e = absurd (omega (arith, e))
good_alone (BadNet fault) e = absurd (omega (arith, e))
good_alone (BadPin fault) e = absurd (omega (arith, e))
good_alone (Overfull fault) e = absurd (omega (arith, e))
good_alone (Unreachable on net sink) e = absurd (omega (arith, e))
good_alone (GaveUp on logs tallies kept) e = absurd (omega (arith, e))
good_alone (ReadFault role) e = absurd (omega (arith, e))
good_alone (WriteFault role put) e = absurd (omega (arith, e))
good_alone NoMemory e = absurd (omega (arith, e))
good_alone (BadAsc fault) e = absurd (omega (arith, e))
good_alone (BadBits fault) e = absurd (omega (arith, e))
good_alone (TooLong role limit) e = absurd (omega (arith, e))
good_alone (BadLevels line) e = absurd (omega (arith, e))
good_alone (BadDelays line) e = absurd (omega (arith, e))

pub good_row : (k : Command) (old new : Meaning) (cause : Cause) (status : ℕ) → IsTrueOf k old new cause → status ≡ status_of cause → GoodRow k old new cause status
good_row k old new cause status is same = record {
  done = λ zero_status. good_alone cause (sym same ∙ zero_status);
  held = λ arrangement tallies kept e t.
      let good : IsGood k old new arrangement (telling tallies kept) = subst (λ (x : Cause). IsTrueOf k old new x) e is in
      record {
        texts = good.texts.0;
        made = good.made;
        hold = holds_read k.files old good.texts.0 t good.texts.1;
        gives = good.texts.2;
        there = there k.output good.made old new t good.given;
      };
}

pub read_fault_row : (k : Command) (old new : Meaning) (cause : Cause) → IsTrueOf k old new cause → ReadFaultRow k old new cause
read_fault_row k old new cause is role e = subst (λ (x : Cause). IsTrueOf k old new x) e is

pub write_fault_row : (k : Command) (old new : Meaning) (cause : Cause) → IsTrueOf k old new cause → WriteFaultRow k old new cause
write_fault_row k old new cause is role put e = subst (λ (x : Cause). IsTrueOf k old new x) e is

too_long_always : (k : Command) (old new : Meaning) (cause : Cause) (place : ℕ) → IsTrueOf k old new cause → old.tells ≡ true → IsFirstTooLong k.files old place
    → (cause ≡ TooLong (role_at k.files place) most_bytes) ⊎ IsInterrupted cause
too_long_always k old new (Good arrangement tallies kept) place is t long = absurd (read_not_long k.files old place (λ texts. k.Gives texts is.made arrangement (telling tallies kept)) t long is.texts)
too_long_always k old new Usage place is t long = absurd (read_not_long k.files old place (λ texts. k.Stands texts Usage) t long is.0)
too_long_always k old new (BadBlif fault) place is t long = absurd (read_not_long k.files old place (λ texts. k.Stands texts (BadBlif fault)) t long is.0)
too_long_always k old new (BadPcf fault) place is t long = absurd (read_not_long k.files old place (λ texts. k.Stands texts (BadPcf fault)) t long is.0)
too_long_always k old new (BadChip fault) place is t long = absurd (read_not_long k.files old place (λ texts. k.Stands texts (BadChip fault)) t long is.0)
too_long_always k old new (BadNet fault) place is t long = absurd (read_not_long k.files old place (λ texts. k.Stands texts (BadNet fault)) t long is.0)
too_long_always k old new (BadPin fault) place is t long = absurd (read_not_long k.files old place (λ texts. k.Stands texts (BadPin fault)) t long is.0)
too_long_always k old new (Overfull fault) place is t long = absurd (read_not_long k.files old place (λ texts. k.Stands texts (Overfull fault)) t long is.0)
too_long_always k old new (Unreachable arrangement net sink) place is t long = absurd (read_not_long k.files old place (λ texts. k.Stands texts (Unreachable arrangement net sink)) t long is.0)
too_long_always k old new (GaveUp arrangement logs tallies kept) place is t long = absurd (read_not_long k.files old place (λ texts. k.Stands texts (GaveUp arrangement logs tallies kept)) t long is.0)
too_long_always k old new (ReadFault role) place is t long = inr tt
too_long_always k old new (WriteFault role put) place is t long = absurd (read_not_long k.files old place (λ texts. k.Gives texts is.made is.arrangement is.told) t long is.texts)
too_long_always k old new NoMemory place is t long = inr tt
too_long_always k old new (BadAsc fault) place is t long = absurd (read_not_long k.files old place (λ texts. k.Stands texts (BadAsc fault)) t long is.0)
too_long_always k old new (BadBits fault) place is t long = absurd (read_not_long k.files old place (λ texts. k.Stands texts (BadBits fault)) t long is.0)
too_long_always k old new (TooLong role limit) place is t long =
    inl (ap (λ (x : FileRole). TooLong x limit) (stops_at_first k.files old new role limit place t is long) ∙ ap (λ n. TooLong (role_at k.files place) n) is.is_limit)
too_long_always k old new (BadLevels line) place is t long = absurd (read_not_long k.files old place (λ texts. k.Stands texts (BadLevels line)) t long is.0)
too_long_always k old new (BadDelays line) place is t long = absurd (read_not_long k.files old place (λ texts. k.Stands texts (BadDelays line)) t long is.0)

pub too_long_row : (k : Command) (old new : Meaning) (cause : Cause) → IsTrueOf k old new cause → TellsLong new cause → TooLongRow k old new cause
too_long_row k old new cause is told = record {
  only = λ role limit e. subst (λ (x : Cause). IsTrueOf k old new x) e is;
  always = λ place t long. too_long_always k old new cause place is t long;
  exactly = long_exactly k.files old new cause (λ role limit e. subst (λ (x : Cause). IsTrueOf k old new x) e is) told;
}

-- the fault that a refusal tells isn't want of memory
pub known : (k : Command) (old new : Meaning) (cause : Cause) → IsTrueOf k old new cause → IsKnown cause
known k old new (Good arrangement tallies kept) is = tt
known k old new Usage is = is.1
known k old new (BadBlif fault) is = is.1
known k old new (BadPcf fault) is = is.1
known k old new (BadChip fault) is = is.1
known k old new (BadNet fault) is = is.1
known k old new (BadPin fault) is = is.1
known k old new (Overfull fault) is = is.1
known k old new (Unreachable arrangement net sink) is = is.1
known k old new (GaveUp arrangement logs tallies kept) is = is.1
known k old new (ReadFault role) is = tt
known k old new (WriteFault role put) is = tt
known k old new NoMemory is = tt
known k old new (BadAsc fault) is = is.1
known k old new (BadBits fault) is = is.1
known k old new (TooLong role limit) is = tt
known k old new (BadLevels line) is = is.1
known k old new (BadDelays line) is = is.1

-- no answer of a command is that the words are none
pub asked : (k : Command) (old new : Meaning) (cause : Cause) → Lawful k → IsTrueOf k old new cause → cause ≡ Usage → ⊥
asked k old new cause law is e = let of = subst (λ (x : Cause). IsTrueOf k old new x) e is in law.never of.0.0 of.0.2
