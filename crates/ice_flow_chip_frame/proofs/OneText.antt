-- One text that was made, or want of memory.
use Rattle.std.proofs.Common.{◌≡◌, ℕ, List, [], ◌∷◌, Result, Ok, Err, IfOk, sym, subst}
use Rattle.ice_flow_frame.specs.declared.cause.Cause.{Cause}
use Rattle.ice_flow_frame.specs.declared.giving.Made.{Made}
use Rattle.ice_flow_frame.specs.Causes.{no_arrangement}
use Rattle.ice_flow_frame.specs.Told.{nothing_told, told_in}
use Rattle.ice_flow_frame.specs.Texts.{text_at}

-- what is true of the text is true of the one that was made
pub one_is : (IsSo : List ℕ → Type 0) (text : List ℕ) (result : Result Made Cause) → IsSo text → IfOk result (λ made. made.texts ≡ text ∷ []) → IfOk result (λ made. made.arrangement ≡ no_arrangement)
    → IfOk result (λ made. told_in made ≡ nothing_told) → IfOk result (λ made. IsSo (text_at made.texts 1) × (made.arrangement ≡ no_arrangement) × (told_in made ≡ nothing_told))
one_is IsSo text (Ok made) so one arrangement told = (subst (λ (texts : List (List ℕ)). IsSo (text_at texts 1)) (sym one) so, arrangement, told)
one_is IsSo text (Err cause) so one arrangement told = tt
