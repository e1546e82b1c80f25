-- From what came of the making, and how the command ended, to what is true of the command.
use Rattle.std.proofs.Common.{◌≡◌, ◌≢◌, ◌∙◌, ◌≤◌, ◌<◌, ℕ, List, Option, None, Some, Result, Ok, Err, IfOk, IfErr, inl, inr, sym, ap, subst, arith}
use Rattle.ice_desk.specs.Desk.{Meaning}
use Rattle.ice_desk.specs.Changes.{SameButReading, SameButSaying, SameButWriting, Rose, after_one, HoldsAfter}
use Rattle.ice_desk.specs.Said.{IsSilent}
use Rattle.ice_desk.proofs.Saying.{after_silence}
use Rattle.ice_flow_frame.specs.declared.cause.Cause.{Cause}
use Rattle.ice_flow_frame.specs.declared.giving.Made.{Made}
use Rattle.ice_flow_frame.specs.declared.giving.Refused.{Refused}
use Rattle.ice_flow_frame.specs.Causes.{line_of}
use Rattle.ice_flow_frame.specs.Commands.{Command, Aloud, InFiles, IsRefusal, IsRefused, HasGivenUp, IsParting, IsTrueOf}
use Rattle.ice_flow_frame.specs.Ends.{IsLineSaid, SameButFiles, AreFilesGiven, IsTextLeft, IsLeft, IsEndAloud, IsEndInFiles, text_of, unreported, IsMadeOf, IsToldLong, IsReport, IsReported, IsEndOf}
use Rattle.ice_flow_frame.specs.Reading.{most_bytes, File, Files, IsLong, TellsLong}
use Rattle.ice_flow_frame.specs.Rows.{changed_by, MadeRow, IsLeftIn, IsParted}
use Rattle.ice_flow_frame.specs.Texts.{AreTexts, OfTexts}
use Rattle.ice_flow_frame.specs.Told.{told_in}
use Rattle.ice_flow_frame.specs.Writing.{Contents, IsOther}
use Rattle.ice_flow_frame.proofs.Commanding.{refusal_is_true, put_behind, put_is_true, true_while_said, refused_said, refused_made, of_given_up, put_said, put_made, put_kept, put_stays, put_not_given_up, silent_behind}

-- ---- what came of the making
pub made_of_texts : (k : Command) (old new : Meaning) (texts : List (List ℕ)) (result : Result Made Cause) → AreTexts k.files old texts → new.makes ≡ old.makes
    → IfOk result (λ made. k.Gives texts made.texts made.arrangement (told_in made)) → IfErr result (λ cause. IsRefusal (k.Stands texts) cause) → IsMadeOf k old new result
made_of_texts k old new texts (Ok made) are same gives refused = (texts, are, gives)
made_of_texts k old new texts (Err refusal) are same gives refused = refusal_is_true k old new texts refusal are same refused

-- where all texts were read, none was too long
pub told_of_texts : (new : Meaning) (result : Result Made Cause) → new.given ≤ most_bytes → IsToldLong new result
told_of_texts new (Ok made) fits = fits
told_of_texts new (Err refusal) fits = λ more. absurd (omega (arith, fits, more))

-- a command that has nothing to leave
pub none_reported : (k : Command) (old : Meaning) (result : Result Made Refused) → k.parting ≡ None → IfErr result (λ refused. refused.report ≡ None) → IsReported k old result
none_reported k old (Ok made) e is = tt
none_reported k old (Err refused) e is =
    subst (λ report. IsReport k old refused.cause (text_of report)) (sym is) (λ parting. subst (λ (file : Option File). IsParting file refused.cause) e parting)

-- ---- while the texts were read, nothing was said
silent_read : (old mid : Meaning) → SameButReading old mid → IsSilent old mid
silent_read old mid read = record { said = read.said; says = read.says; say_faults = read.say_faults }

-- and while files were written
silent_written : (old mid written : Meaning) → SameButReading old mid → SameButFiles mid written → IsSilent old written
silent_written old mid written read same = record { said = same.said ∙ read.said; says = same.says ∙ read.says; say_faults = same.say_faults ∙ read.say_faults }

silent_left : (name : List ℕ) (old mid written : Meaning) → SameButReading old mid → SameButWriting name mid written → IsSilent old written
silent_left name old mid written read same = record { said = same.said ∙ read.said; says = same.says ∙ read.says; say_faults = same.say_faults ∙ read.say_faults }

files_same : (old new : Meaning) (name : List ℕ) → new.files ≡ old.files → new.files name ≡ old.files name
files_same old new name same = ap (λ (held : Contents). held name) same

abbrev aloud : Command → Command
aloud k = record k { output = Aloud; parting = None }

abbrev with_parting : Command → Files → Option File → Command
with_parting k files parting = record k { output = InFiles files; parting = parting }

abbrev in_files : Command → Files → Command
in_files k files = record k { output = InFiles files }

-- ---- a refusal

-- a command that speaks
refused_aloud : (k : Command) (old mid new : Meaning) (cause : Cause) → SameButReading old mid → IsRefused cause → IsTrueOf (aloud k) old mid cause → IsLineSaid mid new cause → IsEndOf (aloud k) old new cause
refused_aloud k old mid new cause read refused is line = record {
  is_true = true_while_said (aloud k) old mid new cause line.same refused is;
  tells = line.same.tells ∙ read.tells;
  said = λ t. refused_said Aloud old new cause (after_silence old mid new (line_of cause) (silent_read old mid read) (line.said (read.tells ∙ t)));
  kept = λ t name apart. files_same old new name (line.same.files ∙ read.files);
  made = line.same.makes ∙ read.makes;
  silent = tt;
  parted = λ file e gave. absurd (none_is file e);
}
  where
    none_is : (file : File) → None ≡ Some file → ⊥
    none_is file e = cc

-- a command that writes, where nothing is left
refused_end : (k : Command) (files : Files) (parting : Option File) (old mid new : Meaning) (cause : Cause) → SameButReading old mid → IsRefused cause → (IsParting parting cause → ⊥)
    → IsTrueOf (with_parting k files parting) old mid cause → IsLineSaid mid new cause → IsEndOf (with_parting k files parting) old new cause
refused_end k files parting old mid new cause read refused stays is line = record {
  is_true = true_while_said (with_parting k files parting) old mid new cause line.same refused is;
  tells = line.same.tells ∙ read.tells;
  said = λ t. after_silence old mid new (line_of cause) (silent_read old mid read) (line.said (read.tells ∙ t));
  kept = λ t name apart. files_same old new name (line.same.files ∙ read.files);
  made = refused_made files parting old new cause refused stays (line.same.makes ∙ read.makes);
  silent = silent_behind old mid new cause (silent_read old mid read) line.silent;
  parted = λ file e gave. absurd (stays (subst (λ (p : Option File). IsParting p cause) (sym e) gave));
}

-- what was left stays while the line is said
left_stays : (name text : List ℕ) (old mid written new : Meaning) → SameButReading old mid → SameButSaying written new → IsLeftIn name text mid written → IsLeftIn name text old new
left_stays name text old mid written new read same (inl holds) = inl (files_same written new name same.files ∙ holds)
left_stays name text old mid written new read same (inr part) = inr (
  (let r : Rose mid.write_faults written.write_faults = part.0 in
      let e : mid.write_faults ≡ old.write_faults = read.write_faults in
      let le : written.write_faults ≤ new.write_faults = same.write_faults in
      omega arith),
  subst (λ (held : Contents). HoldsAfter text new.puts (held name) (new.files name)) read.files
      (subst (λ (held : Contents). HoldsAfter text new.puts (mid.files name) (held name)) (sym same.files)
      (subst (λ n. HoldsAfter text n (mid.files name) (written.files name)) (sym same.puts) part.1)),
)

parted_by : (k : Command) (file : File) (text : List ℕ) (old mid written new : Meaning) (cause : Cause) → SameButReading old mid → IsTextLeft file.name text mid written
    → SameButSaying written new → OfTexts k.files old (λ texts. k.Leaves texts cause text) → IsParted k file old new cause
parted_by k file text old mid written new cause read left same of = record {
  text = text;
  texts = of;
  made = same.makes ∙ left.made ∙ ap after_one read.makes;
  left = λ t. left_stays file.name text old mid written new read same (left.left (read.tells ∙ t));
  others = λ t other ne. files_same written new other same.files ∙ left.same.others (read.tells ∙ t) other ne ∙ files_same old mid other read.files;
}

-- a command that writes, where a text is left on parting
left_end : (k : Command) (files : Files) (file : File) (text : List ℕ) (old mid written new : Meaning) (cause : Cause) → SameButReading old mid → HasGivenUp cause
    → IsTrueOf (with_parting k files (Some file)) old mid cause → OfTexts k.files old (λ texts. k.Leaves texts cause text) → IsTextLeft file.name text mid written → IsLineSaid written new cause
    → IsEndOf (with_parting k files (Some file)) old new cause
left_end k files file text old mid written new cause read gave is of left line =
    let silent = silent_left file.name old mid written read left.same in
    let parted = parted_by (with_parting k files (Some file)) file text old mid written new cause read left line.same of in
    record {
      is_true = of_given_up (λ c. IsTrueOf (with_parting k files (Some file)) old mid c → IsTrueOf (with_parting k files (Some file)) old new c) (λ arrangement logs tallies kept. λ x. x) cause gave is;
      tells = line.same.tells ∙ left.same.tells ∙ read.tells;
      said = λ t. after_silence old written new (line_of cause) silent (line.said (left.same.tells ∙ read.tells ∙ t));
      kept = λ t name apart. parted.others t name (of_given_up (λ c. IsOther name (changed_by (InFiles files) (Some file) c) → name ≢ file.name) (λ arrangement logs tallies kept. λ x. x.0) cause gave apart);
      made = of_given_up (λ c. MadeRow (InFiles files) (Some file) old new c) (λ arrangement logs tallies kept. parted.made) cause gave;
      silent = silent_behind old written new cause silent line.silent;
      parted = λ other e gave_up. subst (λ (f : File). IsParted (with_parting k files (Some file)) f old new cause) (same_file other e) parted;
    }
  where
    same_file : (other : File) → Some file ≡ Some other → file ≡ other
    same_file other e = cc

-- either of them
refusal_end : (k : Command) (files : Files) (parting : Option File) (report : Option (List ℕ)) (old mid written new : Meaning) (cause : Cause) → SameButReading old mid → IsRefused cause
    → IsTrueOf (with_parting k files parting) old mid cause → IsReport (with_parting k files parting) old cause report → IsLeft parting report mid written → IsLineSaid written new cause
    → IsEndOf (with_parting k files parting) old new cause
refusal_end k files None None old mid written new cause read refused is reported left line =
    refused_end k files None old mid new cause read refused reported is (subst (λ (desk : Meaning). IsLineSaid desk new cause) left line)
refusal_end k files None (Some text) old mid written new cause read refused is reported left line = absurd reported.0
refusal_end k files (Some file) None old mid written new cause read refused is reported left line =
    refused_end k files (Some file) old mid new cause read refused reported is (subst (λ (desk : Meaning). IsLineSaid desk new cause) left line)
refusal_end k files (Some file) (Some text) old mid written new cause read refused is reported left line =
    left_end k files file text old mid written new cause read reported.0 is reported.1 left line

-- ---- what was made was given
pub end_is_aloud : (k : Command) (old mid new : Meaning) (result : Result Made Cause) (cause : Cause) → SameButReading old mid → IsMadeOf (aloud k) old mid result → IsEndAloud result mid new cause
    → IsEndOf (aloud k) old new cause
end_is_aloud k old mid new (Ok made) cause read of end = record {
  is_true = put_is_true (aloud k) old new made.texts made.arrangement (told_in made) cause of (put_behind Aloud made.texts made.arrangement (told_in made) old mid new cause read end.put);
  tells = end.same.tells ∙ read.tells;
  said = λ t. put_said made.texts made.arrangement (told_in made) old mid new cause end.put;
  kept = λ t name apart. files_same old new name (end.same.files ∙ read.files);
  made = end.same.makes ∙ read.makes;
  silent = tt;
  parted = λ file e gave. absurd (none_is file e);
}
  where
    none_is : (file : File) → None ≡ Some file → ⊥
    none_is file e = cc
end_is_aloud k old mid new (Err refusal) cause read of end =
    refused_aloud k old mid new cause read (subst IsRefused (sym end.is_cause) of.0) (subst (λ (x : Cause). IsTrueOf (aloud k) old mid x) (sym end.is_cause) of.1) end.line

given_end : (k : Command) (files : Files) (made : Made) (old mid new : Meaning) (cause : Cause) → SameButReading old mid → OfTexts k.files old (λ texts. k.Gives texts made.texts made.arrangement (told_in made))
    → AreFilesGiven files made.texts made.arrangement (told_in made) mid new cause → IsEndOf (in_files k files) old new cause
given_end k files made old mid new cause read of end =
    let put = put_stays files made.texts made.arrangement (told_in made) old end.written new cause end.line.same
    (put_behind (InFiles files) made.texts made.arrangement (told_in made) old mid end.written cause read end.put) in
    let silent = silent_written old mid end.written read end.same in
    record {
      is_true = put_is_true (in_files k files) old new made.texts made.arrangement (told_in made) cause of put;
      tells = end.line.same.tells ∙ end.same.tells ∙ read.tells;
      said = λ t. after_silence old end.written new (line_of cause) silent (end.line.said (end.same.tells ∙ read.tells ∙ t));
      kept = λ t. put_kept files k.parting made.texts made.arrangement (told_in made) old new cause t put;
      made = put_made files k.parting made.texts made.arrangement (told_in made) old new cause put;
      silent = silent_behind old end.written new cause silent end.line.silent;
      parted = λ file e gave. absurd (put_not_given_up files made.texts made.arrangement (told_in made) old new cause put gave);
    }

pub end_is_in_files : (k : Command) (files : Files) (old mid new : Meaning) (result : Result Made Refused) (cause : Cause) → SameButReading old mid
    → IsMadeOf (in_files k files) old mid (unreported result) → IsReported (in_files k files) old result → IsEndInFiles files k.parting result mid new cause → IsEndOf (in_files k files) old new cause
end_is_in_files k files old mid new (Ok made) cause read of reported end = given_end k files made old mid new cause read of end
end_is_in_files k files old mid new (Err refused) cause read of reported end =
    let same : cause ≡ refused.cause = end.said.is_cause in
    refusal_end k files k.parting (text_of refused.report) old mid end.written new cause read (subst IsRefused (sym same) of.0)
    (subst (λ (x : Cause). IsTrueOf (in_files k files) old mid x) (sym same) of.1)
    (subst (λ (x : Cause). IsReport (in_files k files) old x (text_of refused.report)) (sym same) reported) end.left end.said.line

-- ---- a text that is too long is told
given_told : (new : Meaning) (given : ℕ) (cause : Cause) → new.given ≡ given → given ≤ most_bytes → TellsLong new cause
given_told new given cause same fits = λ more. absurd (omega (arith, same, fits, more))

refusal_told : (mid new : Meaning) (refusal cause : Cause) → TellsLong mid refusal → new.given ≡ mid.given → cause ≡ refusal → TellsLong new cause
refusal_told mid new refusal cause told same is = λ more. subst IsLong (sym is) (told (subst (λ (n : ℕ). most_bytes < n) same more))

left_given : (parting : Option File) (report : Option (List ℕ)) (old new : Meaning) → IsLeft parting report old new → new.given ≡ old.given
left_given None report old new left = ap (λ (desk : Meaning). desk.given) left
left_given (Some file) None old new left = ap (λ (desk : Meaning). desk.given) left
left_given (Some file) (Some text) old new left = left.same.given

pub told_aloud : (mid new : Meaning) (result : Result Made Cause) (cause : Cause) → IsToldLong mid result → IsEndAloud result mid new cause → TellsLong new cause
told_aloud mid new (Ok made) cause told end = given_told new mid.given cause end.same.given told
told_aloud mid new (Err refusal) cause told end = refusal_told mid new refusal cause told end.line.same.given end.is_cause

pub told_in_files : (files : Files) (parting : Option File) (mid new : Meaning) (result : Result Made Refused) (cause : Cause) → IsToldLong mid (unreported result)
    → IsEndInFiles files parting result mid new cause → TellsLong new cause
told_in_files files parting mid new (Ok made) cause told end = given_told new mid.given cause (end.line.same.given ∙ end.same.given) told
told_in_files files parting mid new (Err refused) cause told end =
    refusal_told mid new refused.cause cause told (end.said.line.same.given ∙ left_given parting (text_of refused.report) mid end.written end.left) end.said.is_cause
