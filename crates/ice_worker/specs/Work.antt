-- What a worker's hand has done after so many tasks.
use Rattle.std.specs.Prelude.{◌≡◌, ℕ, List, [], ◌∷◌}
use Rattle.ice_words.specs.declared.view.Claim.{Claim}
use Rattle.ice_words.specs.declared.view.Part.{Part}
use Rattle.ice_words.specs.Views.{newest_changed, claim_of}
use Rattle.ice_words.specs.Rule.{IsReleased}

-- the newest claim changes
abbrev pub changing : (Claim → Claim) → Part → Part
changing f p = record { claims = newest_changed f p.claims; ended = p.ended }

abbrev pub released_as : List ℕ → Claim → Claim
released_as wires c = record { task = c.task; released = wires; held = c.held }

abbrev pub held_as : List ℕ → Claim → Claim
held_as wires c = record { task = c.task; released = c.released; held = wires }

abbrev pub finished_as : List ℕ → List ℕ → Claim → Claim
finished_as old new c = record { task = c.task; released = old; held = new }

-- the newest claim is of this task, and nothing of it is released or held
abbrev pub IsNew : ℕ → List Claim → Type 0
IsNew task [] = ⊥
IsNew task (c ∷ cs) = c ≡ claim_of task

-- the newest claim is of this task, all of it is released and nothing held
abbrev pub IsReady : List (List ℕ) → ℕ → List Claim → Type 0
IsReady olds task [] = ⊥
IsReady olds task (c ∷ cs) = (c.task ≡ task) × IsReleased olds c × (c.held ≡ [])
