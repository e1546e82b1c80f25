-- From what comes of the texts to what comes of the making.
use Rattle.std.proofs.Common.{◌≡◌, ◌≤◌, ℕ, Option, None, Some, List, Result, Ok, Err, IfOk, IfErr, refl, sym, subst}
use Rattle.std.specs.Global.{Vec}
use Rattle.ice_desk.specs.Desk.{Meaning}
use Rattle.ice_flow_frame.specs.declared.cause.Cause.{Cause}
use Rattle.ice_flow_frame.specs.declared.cause.FileRole.TheVariants.{Report}
use Rattle.ice_flow_frame.specs.declared.giving.Made.{Made}
use Rattle.ice_flow_frame.specs.declared.giving.Refused.{Refused}
use Rattle.ice_flow_frame.specs.Commands.{HasGivenUp, IsParting, IsRefused, IsTrueOf}
use Rattle.ice_flow_frame.specs.Ends.{IsMadeOf, IsReport, IsReported, IsToldLong, text_of, unreported}
use Rattle.ice_flow_frame.specs.Reading.{most_bytes, File, IsUnread, TellsLong}
use Rattle.ice_flow_frame.specs.Told.{told_in}
use Rattle.ice_flow_frame.specs.Texts.{AreTexts, OfTexts}
use Rattle.ice_flow_frame.proofs.Commanding.{of_given_up, unread_is_true}
use Rattle.ice_flow_frame.proofs.Ended.{made_of_texts, told_of_texts}
use Rattle.ice_flow_build_cmd.specs.Asked.{Build, files_of, file_asked, parting_of}
use Rattle.ice_flow_build_cmd.specs.Command.{build_files}
use Rattle.ice_flow_build_cmd.specs.Made.{IsMadeByBuild}
use Rattle.ice_flow_build_cmd.specs.Parting.{TellsOf, HasReport, IsRefusedWith}
use Rattle.ice_flow_build_cmd.proofs.Refusing.{not_none}

-- ---- what was made of texts that were read
pub made_so : (b : Build) (old new : Meaning) (t : List (List ℕ)) (result : Result Made Refused) → AreTexts (files_of b) old t → new.makes ≡ old.makes
    → IfOk result (λ made. IsMadeByBuild b t made.texts made.arrangement (told_in made)) → IfErr result (IsRefusedWith b t) → IsMadeOf (build_files b) old new (unreported result)
made_so b old new t (Ok made) are same gives refused = made_of_texts (build_files b) old new t (Ok made) are same gives tt
made_so b old new t (Err refusal) are same gives refused = made_of_texts (build_files b) old new t (Err refusal.cause) are same tt refused.refusal

pub told_so : (new : Meaning) (result : Result Made Refused) → new.given ≤ most_bytes → IsToldLong new (unreported result)
told_so new result fits = told_of_texts new (unreported result) fits

-- what is left, where this is the parting file
abbrev IsReportIn : Build → Meaning → Cause → Option File → Option (List ℕ) → Type 0
IsReportIn b old cause parting None = IsParting parting cause → ⊥
IsReportIn b old cause parting (Some report) = IsParting parting cause × OfTexts (files_of b) old (λ texts. TellsOf b texts cause report)

report_left : (b : Build) (old : Meaning) (t : List (List ℕ)) (cause : Cause) (asked : Option (List ℕ)) (report : Option (List ℕ)) → b.report ≡ asked → AreTexts (files_of b) old t
    → HasReport b t cause report → IsReportIn b old cause (file_asked Report asked) report
report_left b old t cause None None e are has = λ never. never
report_left b old t cause (Some name) None e are has = λ gave. not_none b.report name e (has gave)
report_left b old t cause None (Some report) e are has = absurd (has.1 e)
report_left b old t cause (Some name) (Some report) e are has = (has.0, (t, are, has.2))

report_is : (b : Build) (old : Meaning) (cause : Cause) (report : Option (List ℕ)) → IsReportIn b old cause (parting_of b) report → IsReport (build_files b) old cause report
report_is b old cause None is = is
report_is b old cause (Some report) is = is

pub reported_so : (b : Build) (old : Meaning) (t : List (List ℕ)) (result : Result Made Refused) → AreTexts (files_of b) old t → IfErr result (IsRefusedWith b t)
    → IsReported (build_files b) old result
reported_so b old t (Ok made) are refused = tt
reported_so b old t (Err refusal) are refused =
    report_is b old refusal.cause (text_of refusal.report) (report_left b old t refusal.cause b.report (text_of refusal.report) refl are refused.report)

-- ---- texts that were not all read
unread_gave : (b : Build) (old new : Meaning) (cause : Cause) → IsUnread (files_of b) old new cause → HasGivenUp cause → ⊥
unread_gave b old new cause is gave = of_given_up (λ c. IsUnread (files_of b) old new c → ⊥) (λ arrangement logs tallies kept never. never) cause gave is

parting_gave : (asked : Option (List ℕ)) (cause : Cause) → IsParting (file_asked Report asked) cause → HasGivenUp cause
parting_gave None cause never = absurd never
parting_gave (Some name) cause gave = gave

pub unread_so : (b : Build) (old new : Meaning) (cause : Cause) (refused : Refused) → refused.cause ≡ cause → IsUnread (files_of b) old new cause
    → IsRefused refused.cause × IsTrueOf (build_files b) old new refused.cause
unread_so b old new cause refused e is = subst (λ (c : Cause). IsRefused c × IsTrueOf (build_files b) old new c) (sym e) (unread_is_true (build_files b) old new cause is)

pub unread_reported : (b : Build) (old new : Meaning) (cause : Cause) (refused : Refused) → refused.cause ≡ cause → refused.report ≡ None → IsUnread (files_of b) old new cause
    → IsReport (build_files b) old refused.cause (text_of refused.report)
unread_reported b old new cause refused e none is =
    subst (λ (c : Cause). IsReport (build_files b) old c (text_of refused.report)) (sym e)
    (subst (λ (o : Option (Vec ℕ)). IsReport (build_files b) old cause (text_of o)) (sym none) (λ parts. unread_gave b old new cause is (parting_gave b.report cause parts)))

pub unread_told : (new : Meaning) (cause : Cause) (refused : Refused) → refused.cause ≡ cause → TellsLong new cause → TellsLong new refused.cause
unread_told new cause refused e told = subst (TellsLong new) (sym e) told
