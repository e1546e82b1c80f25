-- When each answer comes, from what each cause says.
use Rattle.std.proofs.Common.{◌≡◌, ◌∙◌, ℕ, Option, None, Some, List, true, false, inl, inr, refl, sym, ap, subst, ◌⊎◌, if◌then◌else◌}
use Rattle.clap.specs.Words.{Text, takes, subcommand_of}
use Rattle.ice_desk.specs.Desk.{Meaning}
use Rattle.ice_desk.specs.Changes.{SameButSaying}
use Rattle.ice_desk.specs.Said.{SaidRow}
use Rattle.ice_flow_words.specs.Command.{command}
use Rattle.ice_flow_words.specs.Requests.{Asked, ForBuild, ForBack, ForPlayNet, ForPlayBits, ForTime, ForSample}
use Rattle.ice_flow_words.specs.Reading.{is_taken, asked_in, request_of}
use Rattle.ice_flow_frame.specs.declared.cause.Cause.{Cause}
use Rattle.ice_flow_frame.specs.declared.cause.Cause.TheVariants.{Usage, NoMemory}
use Rattle.ice_flow_frame.specs.declared.cause.Done.{Done}
use Rattle.ice_flow_frame.specs.Causes.{status_of, line_of}
use Rattle.ice_flow_frame.specs.Commands.{Command, Output, Aloud, InFiles, IsTrueOf}
use Rattle.ice_flow_frame.specs.Ends.{IsEndOf}
use Rattle.ice_flow_frame.specs.Reading.{File, TellsLong}
use Rattle.ice_flow_frame.specs.Refusals.{IsKnown}
use Rattle.ice_flow_frame.specs.Rows.{SaidBy, MadeRow, SilentRow}
use Rattle.ice_flow_frame.specs.Says.{SilentWhereDone}
use Rattle.ice_flow_frame.proofs.CommandRows as answers
use Rattle.ice_flow_frame.proofs.CommandRows.{known, asked}
use Rattle.ice_flow_chip_frame.proofs.RowLaws.{chip_row, asc_row, package_row, bits_row}
use Rattle.ice_flow_back_cmd.proofs.BackLaws as back
use Rattle.ice_flow_back_cmd.specs.Command.{back_files}
use Rattle.ice_flow_build_cmd.proofs.BuildLaws as built
use Rattle.ice_flow_build_cmd.specs.Command.{build_files}
use Rattle.ice_flow_play_net_cmd.proofs.PlayLaws as play
use Rattle.ice_flow_play_net_cmd.specs.Played.{PlayNet as NetPlay, play_net}
use Rattle.ice_flow_play_bits_cmd.proofs.BitsLaws as bits
use Rattle.ice_flow_play_bits_cmd.specs.Played.{PlayBits as BitsPlay, play_bits}
use Rattle.ice_flow_time_cmd.proofs.TimeLaws as timing
use Rattle.ice_flow_time_cmd.specs.Timings.{Time as BitsTime, time}
use Rattle.ice_flow_sample_cmd.proofs.SampleLaws as sample
use Rattle.ice_flow_sample_cmd.specs.Command.{sample as sample_command}
use Rattle.ice_flow.specs.Command.{asked_for}
use Rattle.ice_flow.specs.Ends.{IsDoneAs, IsRefusedAs}
use Rattle.ice_flow.specs.Plays.{IsNetAnswer, IsBitsAnswer, IsTimeAnswer}
use Rattle.ice_flow.specs.Names.{MayUse}
use Rattle.ice_flow.specs.Run.{IsAnswer, IsAnswerTo}
use Rattle.ice_flow.specs.Rows.{IsForgotten, HasRows, HasRowsOf}

-- ---- one command
never_usage : (w : Asked) (old new : Meaning) (cause : Cause) → IsTrueOf (asked_for w) old new cause → cause ≡ Usage → ⊥
never_usage (ForBuild w) old new cause is e = asked (build_files w) old new cause (built.lawful w) is e
never_usage (ForBack w) old new cause is e = asked (back_files w) old new cause (back.lawful w) is e
never_usage (ForPlayNet w) old new cause is e = asked (play_net w) old new cause (play.lawful w) is e
never_usage (ForPlayBits w) old new cause is e = asked (play_bits w) old new cause (bits.lawful w) is e
never_usage (ForTime w) old new cause is e = asked (time w) old new cause (timing.lawful w) is e
never_usage (ForSample w) old new cause is e = asked (sample_command w) old new cause (sample.lawful w) is e

net_answer : (p : NetPlay) (old new : Meaning) (end : Done) → IsTrueOf (play_net p) old new end.cause → end.status ≡ status_of end.cause → TellsLong new end.cause → IsNetAnswer p old new end
net_answer p old new end is status long = record {
  good = answers.good_row (play_net p) old new end.cause end.status is status;
  done = answers.done_row (play_net p) old new end.cause (play.lawful p) (play.alone p) is;
  bad_blif = play.blif_row p old new end.cause is;
  bad_net = play.net_row p old new end.cause is;
  bad_levels = play.levels_row p old new end.cause is;
  read_fault = answers.read_fault_row (play_net p) old new end.cause is;
  write_fault = answers.write_fault_row (play_net p) old new end.cause is;
  too_long = answers.too_long_row (play_net p) old new end.cause is long;
}

bits_answer : (p : BitsPlay) (old new : Meaning) (end : Done) → IsTrueOf (play_bits p) old new end.cause → end.status ≡ status_of end.cause → TellsLong new end.cause → IsBitsAnswer p old new end
bits_answer p old new end is status long = record {
  good = answers.good_row (play_bits p) old new end.cause end.status is status;
  done = answers.done_row (play_bits p) old new end.cause (bits.lawful p) (bits.alone p) is;
  bad_chip = chip_row true (play_bits p) bits.Then p.package_name (bits.on_bits p) old new end.cause is;
  bad_asc = asc_row true (play_bits p) bits.Then p.package_name (bits.on_bits p) old new end.cause is;
  no_package = package_row true (play_bits p) bits.Then p.package_name (bits.on_bits p) old new end.cause is;
  bad_bits = bits_row true (play_bits p) bits.Then p.package_name (bits.on_bits p) old new end.cause is;
  bad_levels = bits.levels_row p old new end.cause is;
  read_fault = answers.read_fault_row (play_bits p) old new end.cause is;
  write_fault = answers.write_fault_row (play_bits p) old new end.cause is;
  too_long = answers.too_long_row (play_bits p) old new end.cause is long;
}

time_answer : (t : BitsTime) (old new : Meaning) (end : Done) → IsTrueOf (time t) old new end.cause → end.status ≡ status_of end.cause → TellsLong new end.cause → IsTimeAnswer t old new end
time_answer t old new end is status long = record {
  good = answers.good_row (time t) old new end.cause end.status is status;
  done = answers.done_row (time t) old new end.cause (timing.lawful t) (timing.alone t) is;
  bad_chip = chip_row true (time t) timing.Then t.package_name (timing.on_bits t) old new end.cause is;
  bad_asc = asc_row true (time t) timing.Then t.package_name (timing.on_bits t) old new end.cause is;
  no_package = package_row true (time t) timing.Then t.package_name (timing.on_bits t) old new end.cause is;
  bad_bits = bits_row true (time t) timing.Then t.package_name (timing.on_bits t) old new end.cause is;
  bad_delays = timing.delays_row t old new end.cause is;
  read_fault = answers.read_fault_row (time t) old new end.cause is;
  write_fault = answers.write_fault_row (time t) old new end.cause is;
  too_long = answers.too_long_row (time t) old new end.cause is long;
}

-- ---- what the words ask for was done
abbrev DoneIf : Meaning → Meaning → Done → Option Asked → Type 0
DoneIf old new end None = Unit {0}
DoneIf old new end (Some w) = IsDoneAs w old new end

done_this : (w this : Asked) (old new : Meaning) (end : Done) → IsDoneAs w old new end → Some w ≡ Some this → IsDoneAs this old new end
done_this w this old new end is e = subst (DoneIf old new end) e is

done_answer : (words : List Text) (w : Asked) (old new : Meaning) (end : Done) → IsDoneAs w old new end → IsAnswerTo words (Some w) old new end
done_answer words w old new end is = record {
  status = is.status;
  usage = record {
    only = λ e. absurd (never_usage w old new end.cause is.end_is.is_true e);
    always = λ e. cc e;
  };
  caused = is.end_is.is_true;
  headline = λ b e. (let d = done_this w (ForBuild b) old new end is e in built.headline_row b old new end.cause end.status d.end_is.is_true d.status);
  said = is.end_is.said;
  silent = is.end_is.silent;
  kept = is.end_is.kept;
  made = is.end_is.made;
  parted = is.end_is.parted;
  tells = is.end_is.tells;
}

done_rows : (w : Asked) (old new : Meaning) (end : Done) → IsDoneAs w old new end → HasRowsOf (Some w) old new end
done_rows w old new end is =
    let this = λ (other : Asked) (e : Some w ≡ Some other). done_this w other old new end is e in
    record {
      no_memory = record {
        unmade = λ e. subst (λ (x : Cause). IsTrueOf (asked_for w) old new x) e is.end_is.is_true;
        alone = known (asked_for w) old new end.cause is.end_is.is_true;
      };
      built = λ b e. (let d = this (ForBuild b) e in inr (built.answers b old new end d.end_is.is_true d.status d.long d.end_is.parted));
      backed_up = λ b e. (let d = this (ForBack b) e in inr (back.answers b old new end d.end_is.is_true d.status d.long));
      played = λ p e. (let d = this (ForPlayNet p) e in inr (net_answer p old new end d.end_is.is_true d.status d.long));
      bits_played = λ p e. (let d = this (ForPlayBits p) e in inr (bits_answer p old new end d.end_is.is_true d.status d.long));
      timed = λ t e. (let d = this (ForTime t) e in inr (time_answer t old new end d.end_is.is_true d.status d.long));
      sampled = λ s e. (let d = this (ForSample s) e in inr (sample.answers s old new end d.end_is.is_true d.status));
    }

pub done_so : (words : List Text) (w : Asked) (old new : Meaning) (end : Done) → request_of words ≡ Some w → IsDoneAs w old new end → IsAnswer words old new end
done_so words w old new end e is = subst (λ (r : Option Asked). IsAnswerTo words r old new end) (sym e) (done_answer words w old new end is)

pub done_rows_so : (words : List Text) (w : Asked) (old new : Meaning) (end : Done) → request_of words ≡ Some w → IsDoneAs w old new end → HasRows words old new end
done_rows_so words w old new end e is = subst (λ (r : Option Asked). HasRowsOf r old new end) (sym e) (done_rows w old new end is)

pub may_use_asked : (may_read may_write : List ℕ → Type 0) (words : List Text) (w : Asked) → request_of words ≡ Some w → MayUse may_read may_write (request_of words) → MayUse may_read may_write (Some w)
may_use_asked may_read may_write words w e may = subst (MayUse may_read may_write) e may

-- ---- the words are no command
-- what the end of a refusal keeps and says
pub refusal_told : (refusal : Cause) (old new : Meaning) (end : Done) → end.cause ≡ refusal → end.status ≡ status_of refusal → SameButSaying old new
    → (old.tells ≡ true → SaidRow old new (line_of refusal)) → SilentWhereDone old new refusal → IsRefusedAs refusal old new end
refusal_told refusal old new end cause status same said silent = record {
  status = status ∙ ap status_of (sym cause);
  is_cause = cause;
  same = same;
  said = λ tells. subst (λ (c : Cause). SaidRow old new (line_of c)) (sym cause) (said tells);
  silent = subst (λ (c : Cause). SilentWhereDone old new c) (sym cause) silent;
}

-- which refusal it is: the words are not taken, or there was no memory
abbrev IsEither : List Text → Cause → Type 0
IsEither words refusal = ((refusal ≡ Usage) × (takes command words ≡ false)) ⊎ (refusal ≡ NoMemory)

refused_none : (words : List Text) (refusal : Cause) (old new : Meaning) (end : Done) → IsRefusedAs refusal old new end → IsEither words refusal → IsAnswerTo words None old new end
refused_none words refusal old new end is which = record {
  status = is.status;
  usage = record {
    only = λ e. (refl, elim which [ inl u ↦ u.1 | inr m ↦ (let both : Usage ≡ NoMemory = sym e ∙ is.is_cause ∙ m in cc both) ]);
    always = λ e. elim which [ inl u ↦ inl (is.is_cause ∙ u.0) | inr m ↦ inr (is.is_cause ∙ m) ];
  };
  caused = (is.same, elim which [ inl u ↦ inl (is.is_cause ∙ u.0) | inr m ↦ inr (is.is_cause ∙ m) ]);
  headline = λ w e. cc e;
  said = is.said;
  silent = tt;
  kept = λ t name. ap (λ (f : List ℕ → Option (List ℕ)). f name) is.same.files;
  made = is.same.makes;
  parted = tt;
  tells = is.same.tells;
}

refused_rows : (words : List Text) (refusal : Cause) (old new : Meaning) (end : Done) → IsRefusedAs refusal old new end → IsEither words refusal → HasRowsOf None old new end
refused_rows words refusal old new end is which = record {
  no_memory = record {
    unmade = λ e. is.same.makes;
    alone = elim which [ inl u ↦ subst IsKnown (sym (is.is_cause ∙ u.0)) tt | inr m ↦ subst IsKnown (sym (is.is_cause ∙ m)) tt ];
  };
  built = λ w e. cc e;
  backed_up = λ w e. cc e;
  played = λ w e. cc e;
  bits_played = λ w e. cc e;
  timed = λ w e. cc e;
  sampled = λ w e. cc e;
}

untaken : (words : List Text) → is_taken words ≡ false → request_of words ≡ None
untaken words e = ap (λ b. if b then asked_in (subcommand_of command words) else None) e

pub refused_so : (words : List Text) (old new : Meaning) (end : Done) → is_taken words ≡ false → takes command words ≡ false → IsRefusedAs Usage old new end → IsAnswer words old new end
refused_so words old new end e takes is =
    subst (λ (r : Option Asked). IsAnswerTo words r old new end) (sym (untaken words e)) (refused_none words Usage old new end is (inl (refl, takes)))

pub refused_rows_so : (words : List Text) (old new : Meaning) (end : Done) → is_taken words ≡ false → takes command words ≡ false → IsRefusedAs Usage old new end → HasRows words old new end
refused_rows_so words old new end e takes is =
    subst (λ (r : Option Asked). HasRowsOf r old new end) (sym (untaken words e)) (refused_rows words Usage old new end is (inl (refl, takes)))

-- ---- there was no memory to read the words
forgotten_said : (output : Output) (old new : Meaning) → SaidRow old new (line_of NoMemory) → SaidBy output old new NoMemory
forgotten_said Aloud old new said = λ refused. said
forgotten_said (InFiles files) old new said = said

forgotten_made : (output : Output) (parting : Option File) (old new : Meaning) → new.makes ≡ old.makes → MadeRow output parting old new NoMemory
forgotten_made Aloud parting old new same = same
forgotten_made (InFiles files) None old new same = same
forgotten_made (InFiles files) (Some file) old new same = same

forgotten_silent : (output : Output) (old new : Meaning) → SilentRow output old new NoMemory
forgotten_silent Aloud old new = tt
forgotten_silent (InFiles files) old new = tt

-- any command ends so where only the line of this was said
forgotten_end_of : (k : Command) (old new : Meaning) → SameButSaying old new → (old.tells ≡ true → SaidRow old new (line_of NoMemory)) → IsEndOf k old new NoMemory
forgotten_end_of k old new same said = record {
  is_true = same.makes;
  tells = same.tells;
  said = λ t. forgotten_said k.output old new (said t);
  kept = λ t name apart. ap (λ (f : List ℕ → Option (List ℕ)). f name) same.files;
  made = forgotten_made k.output k.parting old new same.makes;
  silent = forgotten_silent k.output old new;
  parted = λ file e gave. absurd gave;
}

forgotten_end : (w : Asked) (old new : Meaning) (end : Done) → IsRefusedAs NoMemory old new end → IsEndOf (asked_for w) old new end.cause
forgotten_end w old new end is =
    let said : old.tells ≡ true → SaidRow old new (line_of NoMemory) = subst (λ (x : Cause). old.tells ≡ true → SaidRow old new (line_of x)) is.is_cause is.said in
    subst (λ (x : Cause). IsEndOf (asked_for w) old new x) (sym is.is_cause) (forgotten_end_of (asked_for w) old new is.same said)

forgotten_answer : (words : List Text) (asked : Option Asked) (old new : Meaning) (end : Done) → IsRefusedAs NoMemory old new end → IsAnswerTo words asked old new end
forgotten_answer words None old new end is = refused_none words NoMemory old new end is (inr refl)
forgotten_answer words (Some w) old new end is =
    let ended = forgotten_end w old new end is in
    record {
      status = is.status;
      usage = record {
        only = λ e. (let both : Usage ≡ NoMemory = sym e ∙ is.is_cause in cc both);
        always = λ e. cc e;
      };
      caused = ended.is_true;
      headline = λ b e zero. (let both : status_of NoMemory ≡ 0 = ap status_of (sym is.is_cause) ∙ sym is.status ∙ zero in cc both);
      said = ended.said;
      silent = ended.silent;
      kept = ended.kept;
      made = ended.made;
      parted = ended.parted;
      tells = ended.tells;
    }

forgotten_rows : (words : List Text) (asked : Option Asked) (old new : Meaning) (end : Done) → IsRefusedAs NoMemory old new end → HasRowsOf asked old new end
forgotten_rows words None old new end is = refused_rows words NoMemory old new end is (inr refl)
forgotten_rows words (Some w) old new end is =
    let forgotten : IsForgotten old new end.cause = record { is_cause = is.is_cause; same = is.same } in
    record {
      no_memory = record { unmade = λ e. is.same.makes; alone = subst IsKnown (sym is.is_cause) tt };
      built = λ b e. inl forgotten;
      backed_up = λ b e. inl forgotten;
      played = λ p e. inl forgotten;
      bits_played = λ p e. inl forgotten;
      timed = λ t e. inl forgotten;
      sampled = λ s e. inl forgotten;
    }

pub forgotten_so : (words : List Text) (old new : Meaning) (end : Done) → IsRefusedAs NoMemory old new end → IsAnswer words old new end
forgotten_so words old new end is = forgotten_answer words (request_of words) old new end is

pub forgotten_rows_so : (words : List Text) (old new : Meaning) (end : Done) → IsRefusedAs NoMemory old new end → HasRows words old new end
forgotten_rows_so words old new end is = forgotten_rows words (request_of words) old new end is
