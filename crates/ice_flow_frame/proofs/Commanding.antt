-- What each step of a command comes to, by its causes.
use Rattle.std.proofs.Common.{◌≡◌, ◌∙◌, ◌+◌, ◌≤◌, ◌++◌, ℕ, Option, None, Some, List, true, sym, ap, subst, take, length, arith}
use Rattle.std.specs.Global.{Vec}
use Rattle.ice_place.specs.declared.arrangement.Arrangement.{Arrangement}
use Rattle.ice_desk.specs.Desk.{Meaning}
use Rattle.ice_desk.specs.Changes.{SameButReading, SameButSaying, Rose, after_more, HoldsAfter}
use Rattle.ice_desk.specs.Said.{SaidRow, IsSilent}
use Rattle.ice_core.specs.declared.log.RoundLog.{RoundLog}
use Rattle.ice_negotiate_defs.specs.declared.kept.Kept.{Kept}
use Rattle.ice_words.specs.Grips.{Shut}
use Rattle.ice_flow_frame.specs.declared.cause.Cause.{Cause}
use Rattle.ice_flow_frame.specs.declared.cause.Cause.TheVariants.{Good, Usage, BadBlif, BadPcf, BadChip, BadNet, BadPin, Overfull, Unreachable, GaveUp, ReadFault, WriteFault, NoMemory, BadAsc, BadBits, TooLong, BadLevels, BadDelays}
use Rattle.ice_flow_frame.specs.declared.cause.FileRole.{FileRole}
use Rattle.ice_flow_frame.specs.Causes.{line_of}
use Rattle.ice_flow_frame.specs.Reading.{File, Files, name_behind, IsUnread}
use Rattle.ice_flow_frame.specs.Texts.{text_behind, text_at, AreTexts, OfTexts}
use Rattle.ice_flow_frame.specs.Writing.{Contents, after_writing, AreWritten, AreWrittenInPart}
use Rattle.ice_flow_frame.specs.Told.{Told, telling}
use Rattle.ice_flow_frame.specs.Commands.{Command, Output, Aloud, InFiles, IsRefusal, IsRefused, HasGivenUp, IsParting, IsGiven, IsCut, IsPut, IsTrueOf}
use Rattle.ice_flow_frame.specs.Rows.{SaidBy, KeptRow, MadeRow}
use Rattle.ice_flow_frame.specs.Says.{SilentWhereDone}
use Rattle.ice_flow_frame.proofs.ReadStops.{fault_said, long_said}
use Rattle.ice_flow_frame.proofs.Writes.{made_behind, made_before, other_at, others_hold}

-- ---- each step comes to a cause that is true

-- what stopped the reading is true of the command
pub unread_is_true : (k : Command) (old new : Meaning) (cause : Cause) → IsUnread k.files old new cause → IsRefused cause × IsTrueOf k old new cause
unread_is_true k old new (Good arrangement tallies kept) is = absurd is
unread_is_true k old new Usage is = absurd is
unread_is_true k old new (BadBlif fault) is = absurd is
unread_is_true k old new (BadPcf fault) is = absurd is
unread_is_true k old new (BadChip fault) is = absurd is
unread_is_true k old new (BadNet fault) is = absurd is
unread_is_true k old new (BadPin fault) is = absurd is
unread_is_true k old new (Overfull fault) is = absurd is
unread_is_true k old new (Unreachable arrangement net sink) is = absurd is
unread_is_true k old new (GaveUp arrangement logs tallies kept) is = absurd is
unread_is_true k old new (ReadFault role) is = (tt, is)
unread_is_true k old new (WriteFault role put) is = absurd is
unread_is_true k old new NoMemory is = (tt, is)
unread_is_true k old new (BadAsc fault) is = absurd is
unread_is_true k old new (BadBits fault) is = absurd is
unread_is_true k old new (TooLong role limit) is = (tt, is)
unread_is_true k old new (BadLevels line) is = absurd is
unread_is_true k old new (BadDelays line) is = absurd is

-- why texts are refused is true of the command
pub refusal_is_true : (k : Command) (old new : Meaning) (texts : List (List ℕ)) (cause : Cause) → AreTexts k.files old texts → new.makes ≡ old.makes → IsRefusal (k.Stands texts) cause
    → IsRefused cause × IsTrueOf k old new cause
refusal_is_true k old new texts (Good arrangement tallies kept) are made is = absurd is
refusal_is_true k old new texts Usage are made is = (tt, ((texts, are, is.0), is.1))
refusal_is_true k old new texts (BadBlif fault) are made is = (tt, ((texts, are, is.0), is.1))
refusal_is_true k old new texts (BadPcf fault) are made is = (tt, ((texts, are, is.0), is.1))
refusal_is_true k old new texts (BadChip fault) are made is = (tt, ((texts, are, is.0), is.1))
refusal_is_true k old new texts (BadNet fault) are made is = (tt, ((texts, are, is.0), is.1))
refusal_is_true k old new texts (BadPin fault) are made is = (tt, ((texts, are, is.0), is.1))
refusal_is_true k old new texts (Overfull fault) are made is = (tt, ((texts, are, is.0), is.1))
refusal_is_true k old new texts (Unreachable arrangement net sink) are made is = (tt, ((texts, are, is.0), is.1))
refusal_is_true k old new texts (GaveUp arrangement logs tallies kept) are made is = (tt, ((texts, are, is.0), is.1))
refusal_is_true k old new texts (ReadFault role) are made is = absurd is
refusal_is_true k old new texts (WriteFault role put) are made is = absurd is
refusal_is_true k old new texts NoMemory are made is = (tt, made)
refusal_is_true k old new texts (BadAsc fault) are made is = (tt, ((texts, are, is.0), is.1))
refusal_is_true k old new texts (BadBits fault) are made is = (tt, ((texts, are, is.0), is.1))
refusal_is_true k old new texts (TooLong role limit) are made is = absurd is
refusal_is_true k old new texts (BadLevels line) are made is = (tt, ((texts, are, is.0), is.1))
refusal_is_true k old new texts (BadDelays line) are made is = (tt, ((texts, are, is.0), is.1))

-- what was given behind the reading was given by the whole call
given_behind : (output : Output) (texts : List (List ℕ)) (old mid new : Meaning) → SameButReading old mid → IsGiven output texts mid new → IsGiven output texts old new
given_behind Aloud texts old mid new read is = record {
  made = is.made ∙ read.makes;
  said = λ t. is.said (read.tells ∙ t) ∙ ap (λ xs. xs ++ text_at texts 1) read.said;
}
given_behind (InFiles files) texts old mid new read is = record {
  made = made_behind (length files) old mid new read.makes is.made;
  hold = λ t name. is.hold (read.tells ∙ t) name ∙ ap (λ (held : Contents). after_writing (length files) files texts held name) read.files;
}

cut_behind : (output : Output) (texts : List (List ℕ)) (old mid new : Meaning) (role : FileRole) (put : ℕ) → SameButReading old mid → IsCut output texts mid new role put → IsCut output texts old new role put
cut_behind Aloud texts old mid new role put read is = record {
  is_role = is.is_role;
  rose = (let r : Rose mid.write_faults new.write_faults = is.rose in let e : mid.write_faults ≡ old.write_faults = read.write_faults in omega arith);
  say_rose = (let r : Rose mid.say_faults new.say_faults = is.say_rose in let e : mid.say_faults ≡ old.say_faults = read.say_faults in omega arith);
  made = is.made ∙ read.makes;
  says = is.says ∙ ap (λ n. after_more n put) read.says;
  said = λ t. subst (λ xs. (n : ℕ) × (n ≤ length (text_at texts 1)) × (new.said ≡ xs ++ take n (text_at texts 1))) read.said (is.said (read.tells ∙ t));
}
cut_behind (InFiles files) texts old mid new role put read is = record {
  before = is.before;
  few = is.few;
  is_role = is.is_role;
  rose = (let r : Rose mid.write_faults new.write_faults = is.rose in let e : mid.write_faults ≡ old.write_faults = read.write_faults in omega arith);
  made = made_behind (is.before + 1) old mid new read.makes is.made;
  puts = is.puts;
  holds = λ t.
      let name = name_behind files is.before in
      subst (λ (held : Contents). HoldsAfter (text_behind texts is.before) put (after_writing is.before files texts held name) (new.files name)) read.files (is.holds (read.tells ∙ t));
  others = λ t other ne. is.others (read.tells ∙ t) other ne ∙ ap (λ (held : Contents). after_writing is.before files texts held other) read.files;
}

-- ---- what was put

-- what is true of each answer of what was put
of_put : (P : Cause → Type 0) (output : Output) (texts : List (List ℕ)) (on : Arrangement) (told : Told) (old new : Meaning)
    → ((arrangement : Arrangement) (tallies : Vec Shut) (kept : Vec Kept) → arrangement ≡ on → telling tallies kept ≡ told → IsGiven output texts old new → P (Good arrangement tallies kept))
    → ((role : FileRole) (put : ℕ) → IsCut output texts old new role put → P (WriteFault role put)) → (cause : Cause) → IsPut output texts on told old new cause → P cause
of_put P output texts on told old new good cut (Good arrangement tallies kept) put = good arrangement tallies kept put.0 put.1 put.2
of_put P output texts on told old new good cut Usage put = absurd put
of_put P output texts on told old new good cut (BadBlif fault) put = absurd put
of_put P output texts on told old new good cut (BadPcf fault) put = absurd put
of_put P output texts on told old new good cut (BadChip fault) put = absurd put
of_put P output texts on told old new good cut (BadNet fault) put = absurd put
of_put P output texts on told old new good cut (BadPin fault) put = absurd put
of_put P output texts on told old new good cut (Overfull fault) put = absurd put
of_put P output texts on told old new good cut (Unreachable arrangement net sink) put = absurd put
of_put P output texts on told old new good cut (GaveUp arrangement logs tallies kept) put = absurd put
of_put P output texts on told old new good cut (ReadFault role) put = absurd put
of_put P output texts on told old new good cut (WriteFault role number) put = cut role number put
of_put P output texts on told old new good cut NoMemory put = absurd put
of_put P output texts on told old new good cut (BadAsc fault) put = absurd put
of_put P output texts on told old new good cut (BadBits fault) put = absurd put
of_put P output texts on told old new good cut (TooLong role limit) put = absurd put
of_put P output texts on told old new good cut (BadLevels line) put = absurd put
of_put P output texts on told old new good cut (BadDelays line) put = absurd put

pub put_behind : (output : Output) (texts : List (List ℕ)) (on : Arrangement) (told : Told) (old mid new : Meaning) (cause : Cause) → SameButReading old mid
    → IsPut output texts on told mid new cause → IsPut output texts on told old new cause
put_behind output texts on told old mid new cause read put =
    of_put (λ c. IsPut output texts on told old new c) output texts on told mid new (λ arrangement tallies kept e f given. (e, f, given_behind output texts old mid new read given))
    (λ role number is. cut_behind output texts old mid new role number read is) cause put

-- what was put is true of the command
pub put_is_true : (k : Command) (old new : Meaning) (texts : List (List ℕ)) (on : Arrangement) (told : Told) (cause : Cause) → OfTexts k.files old (λ read. k.Gives read texts on told)
    → IsPut k.output texts on told old new cause → IsTrueOf k old new cause
put_is_true k old new texts on told cause of put =
    of_put (λ c. IsTrueOf k old new c) k.output texts on told old new
    (λ arrangement tallies kept e f given. record {
      made = texts;
      texts = subst (λ (x : Told). OfTexts k.files old (λ read. k.Gives read texts arrangement x)) (sym f)
          (subst (λ (x : Arrangement). OfTexts k.files old (λ read. k.Gives read texts x told)) (sym e) of);
      given = given;
    })
    (λ role number is. record { made = texts; arrangement = on; told = told; texts = of; cut = is }) cause put

-- behind what was said, or a front of it, nothing is said
pub put_said : (texts : List (List ℕ)) (on : Arrangement) (told : Told) (old mid new : Meaning) (cause : Cause) → IsPut Aloud texts on told mid new cause → SaidBy Aloud old new cause
put_said texts on told old mid new cause put =
    of_put (λ c. SaidBy Aloud old new c) Aloud texts on told mid new (λ arrangement tallies kept e f given. λ refused. absurd refused) (λ role number is. λ refused. absurd refused) cause put

-- the files that were written, or those up to one, were made
pub put_made : (files : Files) (parting : Option File) (texts : List (List ℕ)) (on : Arrangement) (told : Told) (old new : Meaning) (cause : Cause)
    → IsPut (InFiles files) texts on told old new cause → MadeRow (InFiles files) parting old new cause
put_made files parting texts on told old new cause put =
    of_put (λ c. MadeRow (InFiles files) parting old new c) (InFiles files) texts on told old new (λ arrangement tallies kept e f given. given.made)
    (λ role number is. (is.before + 1, omega arith, omega (arith, is.few), is.made)) cause put

-- and no others changed
pub put_kept : (files : Files) (parting : Option File) (texts : List (List ℕ)) (on : Arrangement) (told : Told) (old new : Meaning) (cause : Cause) → old.tells ≡ true
    → IsPut (InFiles files) texts on told old new cause → KeptRow (InFiles files) parting old new cause
put_kept files parting texts on told old new cause t put =
    of_put (λ c. KeptRow (InFiles files) parting old new c) (InFiles files) texts on told old new
    (λ arrangement tallies kept e f given. λ name apart. given.hold t name ∙ others_hold name files texts old.files (length files) (omega arith) apart)
    (λ role number is. λ name apart. is.others t name (other_at name files is.before apart is.few) ∙ others_hold name files texts old.files is.before (omega (arith, is.few)) apart) cause put

-- and the rounds did not give up
pub put_not_given_up : (files : Files) (texts : List (List ℕ)) (on : Arrangement) (told : Told) (old new : Meaning) (cause : Cause) → IsPut (InFiles files) texts on told old new cause
    → HasGivenUp cause → ⊥
put_not_given_up files texts on told old new cause put =
    of_put (λ c. HasGivenUp c → ⊥) (InFiles files) texts on told old new (λ arrangement tallies kept e f given. λ gave. gave) (λ role number is. λ gave. gave) cause put

-- what was put to files stands while a line is said
whole_said : (files : Files) (texts : List (List ℕ)) (old mid new : Meaning) → SameButSaying mid new → AreWritten files texts old mid → AreWritten files texts old new
whole_said files texts old mid new same is = record {
  made = made_before (length files) old mid new is.made same.makes;
  hold = λ t name. ap (λ (held : Contents). held name) same.files ∙ is.hold t name;
}

part_said : (files : Files) (texts : List (List ℕ)) (old mid new : Meaning) (role : FileRole) (put : ℕ) → SameButSaying mid new → AreWrittenInPart files texts old mid role put
    → AreWrittenInPart files texts old new role put
part_said files texts old mid new role put same is = record {
  before = is.before;
  few = is.few;
  is_role = is.is_role;
  rose = (let r : Rose old.write_faults mid.write_faults = is.rose in let le : mid.write_faults ≤ new.write_faults = same.write_faults in omega arith);
  made = made_before (is.before + 1) old mid new is.made same.makes;
  puts = same.puts ∙ is.puts;
  holds = λ t.
      let name = name_behind files is.before in
      subst (λ (held : Contents). HoldsAfter (text_behind texts is.before) put (after_writing is.before files texts old.files name) (held name)) (sym same.files) (is.holds t);
  others = λ t other ne. ap (λ (held : Contents). held other) same.files ∙ is.others t other ne;
}

pub put_stays : (files : Files) (texts : List (List ℕ)) (on : Arrangement) (told : Told) (old mid new : Meaning) (cause : Cause) → SameButSaying mid new
    → IsPut (InFiles files) texts on told old mid cause → IsPut (InFiles files) texts on told old new cause
put_stays files texts on told old mid new cause same put =
    of_put (λ c. IsPut (InFiles files) texts on told old new c) (InFiles files) texts on told old mid (λ arrangement tallies kept e f given. (e, f, whole_said files texts old mid new same given))
    (λ role number is. part_said files texts old mid new role number same is) cause put

-- ---- a line is said

-- a refusal stays true while a line is said
pub true_while_said : (k : Command) (old mid new : Meaning) (cause : Cause) → SameButSaying mid new → IsRefused cause → IsTrueOf k old mid cause → IsTrueOf k old new cause
true_while_said k old mid new (Good arrangement tallies kept) same refused is = absurd refused
true_while_said k old mid new Usage same refused is = is
true_while_said k old mid new (BadBlif fault) same refused is = is
true_while_said k old mid new (BadPcf fault) same refused is = is
true_while_said k old mid new (BadChip fault) same refused is = is
true_while_said k old mid new (BadNet fault) same refused is = is
true_while_said k old mid new (BadPin fault) same refused is = is
true_while_said k old mid new (Overfull fault) same refused is = is
true_while_said k old mid new (Unreachable arrangement net sink) same refused is = is
true_while_said k old mid new (GaveUp arrangement logs tallies kept) same refused is = is
true_while_said k old mid new (ReadFault role) same refused is = fault_said k.files old mid new role same is
true_while_said k old mid new (WriteFault role put) same refused is = absurd refused
true_while_said k old mid new NoMemory same refused is = same.makes ∙ is
true_while_said k old mid new (BadAsc fault) same refused is = is
true_while_said k old mid new (BadBits fault) same refused is = is
true_while_said k old mid new (TooLong role limit) same refused is = long_said k.files old mid new role limit same is
true_while_said k old mid new (BadLevels line) same refused is = is
true_while_said k old mid new (BadDelays line) same refused is = is

-- what a refusal says
pub refused_said : (output : Output) (old new : Meaning) (cause : Cause) → SaidRow old new (line_of cause) → SaidBy output old new cause
refused_said Aloud old new cause said = λ refused. said
refused_said (InFiles files) old new cause said = said

-- a refusal makes no file, where nothing is left on parting
pub refused_made : (files : Files) (parting : Option File) (old new : Meaning) (cause : Cause) → IsRefused cause → (IsParting parting cause → ⊥) → new.makes ≡ old.makes
    → MadeRow (InFiles files) parting old new cause
refused_made files parting old new (Good arrangement tallies kept) refused stays made = absurd refused
refused_made files parting old new Usage refused stays made = made
refused_made files parting old new (BadBlif fault) refused stays made = made
refused_made files parting old new (BadPcf fault) refused stays made = made
refused_made files parting old new (BadChip fault) refused stays made = made
refused_made files parting old new (BadNet fault) refused stays made = made
refused_made files parting old new (BadPin fault) refused stays made = made
refused_made files parting old new (Overfull fault) refused stays made = made
refused_made files parting old new (Unreachable arrangement net sink) refused stays made = made
refused_made files None old new (GaveUp arrangement logs tallies kept) refused stays made = made
refused_made files (Some file) old new (GaveUp arrangement logs tallies kept) refused stays made = absurd (stays tt)
refused_made files parting old new (ReadFault role) refused stays made = made
refused_made files parting old new (WriteFault role put) refused stays made = absurd refused
refused_made files parting old new NoMemory refused stays made = made
refused_made files parting old new (BadAsc fault) refused stays made = made
refused_made files parting old new (BadBits fault) refused stays made = made
refused_made files parting old new (TooLong role limit) refused stays made = made
refused_made files parting old new (BadLevels line) refused stays made = made
refused_made files parting old new (BadDelays line) refused stays made = made

-- what is true of each answer of rounds that gave up
pub of_given_up : (P : Cause → Type 0) → ((arrangement : Arrangement) (logs : Vec RoundLog) (tallies : Vec Shut) (kept : Vec Kept) → P (GaveUp arrangement logs tallies kept)) → (cause : Cause) → HasGivenUp cause → P cause
of_given_up P gave (Good arrangement tallies kept) is = absurd is
of_given_up P gave Usage is = absurd is
of_given_up P gave (BadBlif fault) is = absurd is
of_given_up P gave (BadPcf fault) is = absurd is
of_given_up P gave (BadChip fault) is = absurd is
of_given_up P gave (BadNet fault) is = absurd is
of_given_up P gave (BadPin fault) is = absurd is
of_given_up P gave (Overfull fault) is = absurd is
of_given_up P gave (Unreachable arrangement net sink) is = absurd is
of_given_up P gave (GaveUp arrangement logs tallies kept) is = gave arrangement logs tallies kept
of_given_up P gave (ReadFault role) is = absurd is
of_given_up P gave (WriteFault role put) is = absurd is
of_given_up P gave NoMemory is = absurd is
of_given_up P gave (BadAsc fault) is = absurd is
of_given_up P gave (BadBits fault) is = absurd is
of_given_up P gave (TooLong role limit) is = absurd is
of_given_up P gave (BadLevels line) is = absurd is
of_given_up P gave (BadDelays line) is = absurd is

-- where the work is done and nothing was said behind it, nothing was said
pub silent_behind : (old mid new : Meaning) (cause : Cause) → IsSilent old mid → SilentWhereDone mid new cause → SilentWhereDone old new cause
silent_behind old mid new (Good arrangement tallies kept) before silent = record { said = silent.said ∙ before.said; says = silent.says ∙ before.says; say_faults = silent.say_faults ∙ before.say_faults }
silent_behind old mid new Usage before silent = tt
silent_behind old mid new (BadBlif fault) before silent = tt
silent_behind old mid new (BadPcf fault) before silent = tt
silent_behind old mid new (BadChip fault) before silent = tt
silent_behind old mid new (BadNet fault) before silent = tt
silent_behind old mid new (BadPin fault) before silent = tt
silent_behind old mid new (Overfull fault) before silent = tt
silent_behind old mid new (Unreachable arrangement net sink) before silent = tt
silent_behind old mid new (GaveUp arrangement logs tallies kept) before silent = tt
silent_behind old mid new (ReadFault role) before silent = tt
silent_behind old mid new (WriteFault role put) before silent = tt
silent_behind old mid new NoMemory before silent = tt
silent_behind old mid new (BadAsc fault) before silent = tt
silent_behind old mid new (BadBits fault) before silent = tt
silent_behind old mid new (TooLong role limit) before silent = tt
silent_behind old mid new (BadLevels line) before silent = tt
silent_behind old mid new (BadDelays line) before silent = tt
