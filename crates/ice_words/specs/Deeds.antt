-- A hand's steps, one by one, and the law that lawful parts were lawful all along.
use Rattle.std.specs.Prelude.{◌≡◌, ℕ, ◌<◌, false, List, [], ◌∷◌, length, take}
use Rattle.ice_words.specs.declared.view.Part.{Part}
use Rattle.ice_words.specs.Views.{no_part, claiming, ending, releasing, holding}
use Rattle.ice_words.specs.Rule.{IsNewestReleased, IsAfter, MayRelease, MayHold}
use Rattle.ice_words.specs.Lawful.{IsLawful}

-- a step of a hand on its own part: a claim that gave a number or None, a release, a hold
pub data Deed : Type 0 where
  claims : ℕ → Deed
  ends : Deed
  releases : ℕ → ℕ → Deed
  holds : ℕ → ℕ → Deed

-- the step meets the conditions of its call
abbrev pub May : List (List ℕ) → Part → Deed → Type 0
May olds p (claims n) = (p.ended ≡ false) × IsNewestReleased olds p.claims × (n < length olds) × IsAfter n p.claims
May olds p ends = (p.ended ≡ false) × IsNewestReleased olds p.claims
May olds p (releases task wire) = (p.ended ≡ false) × MayRelease olds p.claims task wire
May olds p (holds task wire) = (p.ended ≡ false) × MayHold olds p.claims task wire

abbrev pub after : Part → Deed → Part
after p (claims n) = claiming n p
after p ends = ending p
after p (releases task wire) = releasing wire p
after p (holds task wire) = holding wire p

-- the part after these steps
abbrev pub done_all : Part → List Deed → Part
done_all p [] = p
done_all p (d ∷ deeds) = done_all (after p d) deeds

-- each step meets its conditions when it comes
abbrev pub AreDeeds : List (List ℕ) → Part → List Deed → Type 0
AreDeeds olds p [] = Unit {0}
AreDeeds olds p (d ∷ deeds) = May olds p d × AreDeeds olds (after p d) deeds

-- where a hand's part is lawful after all its steps, it was lawful after each front of them
abbrev pub LawfulAllAlong : Type 0
LawfulAllAlong = (olds news : List (List ℕ)) (deeds : List Deed) (k : ℕ) → AreDeeds olds no_part deeds → IsLawful olds news (done_all no_part deeds) → IsLawful olds news (done_all no_part (take k deeds))
