-- What the global buffers take, one buffer more at a time.
use Rattle.std.proofs.Common.{◌≡◌, ◌⊎◌, inl, inr, ℕ, ◌+◌, ◌<◌, ◌≤◌, Option, None, Some, List, [], ◌∷◌, ◌++◌, length, get_or, drop, refl, sym, ap, ◌∙◌, append_assoc, append-nil, arith}
use Rattle.std.specs.Prelude.{min}
use Rattle.std.proofs.lemmas.Bool.{cases_lt}
use Rattle.std.proofs.lemmas.List.{at_drop_more, at_drop_all}
use Rattle.ice_chip.specs.Database.{Parts}
use Rattle.ice_pads.specs.declared.want.Buffer.{Buffer}
use Rattle.ice_pads.specs.declared.want.Pins.{Pins}
use Rattle.ice_pads.specs.Globals.{Choices, direct_on, direct_choices, first_choices, choice, without, all_choices, other_choices, chosen_from, left, fed_pins}

-- ---- those that choose first
pub chosen_more : (parts : Parts) (pins : List Pins) (i : ℕ) (d : Pins) (n : Option ℕ) (taken more : List (Option ℕ)) (free left : List ℕ) (all : Choices) → i < length pins
    → n ≡ choice parts (get_or pins i d) free → more ≡ taken ++ n ∷ [] → left ≡ without n free → first_choices parts (record { taken = taken; free = free }) (drop i pins) ≡ all
    → first_choices parts (record { taken = more; free = left }) (drop (i + 1) pins) ≡ all
chosen_more parts pins i d n taken more free left all lt chosen added rest were =
    rw (added, rest, chosen) (sym (at_drop_more (first_choices parts (record { taken = taken; free = free })) pins i d lt) ∙ were)

pub all_chosen : (parts : Parts) (pins : List Pins) (i : ℕ) (taken : List (Option ℕ)) (free given : List ℕ) → length pins ≤ i
    → first_choices parts (record { taken = taken; free = free }) (drop i pins) ≡ first_choices parts (record { taken = []; free = given }) pins → other_choices taken free ≡ chosen_from parts given pins
all_chosen parts pins i taken free given le were =
    ap all_choices (sym (at_drop_all (first_choices parts (record { taken = taken; free = free })) pins i le) ∙ were)

-- ---- the others
pub other_more : (taken : List (Option ℕ)) (i : ℕ) (d : Option ℕ) (x : ℕ) (free left old new all : List ℕ) → i < length taken
    → other_choices (get_or taken i d ∷ drop (i + 1) taken) free ≡ x ∷ other_choices (drop (i + 1) taken) left → new ≡ old ++ x ∷ [] → old ++ other_choices (drop i taken) free ≡ all
    → new ++ other_choices (drop (i + 1) taken) left ≡ all
other_more taken i d x free left old new all lt next is were =
    let rest = other_choices (drop (i + 1) taken) left in
    ap (λ ys. ys ++ rest) is ∙ append_assoc old (x ∷ []) rest
    ∙ sym (ap (λ ys. old ++ ys) (at_drop_more (λ ts. other_choices ts free) taken i d lt ∙ next))
    ∙ were

-- ---- the direct ones
pub direct_more : (parts : Parts) (bs : List Buffer) (i : ℕ) (d : Buffer) (n : Option ℕ) (taken more : List (Option ℕ)) (all : List (Option ℕ)) → i < length bs
    → n ≡ direct_on parts taken (get_or bs i d).pins (get_or bs i d).pad → more ≡ taken ++ n ∷ [] → taken ++ direct_choices parts taken (drop i bs) ≡ all
    → more ++ direct_choices parts more (drop (i + 1) bs) ≡ all
direct_more parts bs i d n taken more all lt chosen added were =
    let rest = λ (o : Option ℕ). direct_choices parts (taken ++ o ∷ []) (drop (i + 1) bs) in
    ap (λ ts. ts ++ direct_choices parts ts (drop (i + 1) bs)) added
    ∙ append_assoc taken (n ∷ []) (rest n)
    ∙ ap (λ o. taken ++ o ∷ rest o) chosen
    ∙ sym (ap (λ ns. taken ++ ns) (at_drop_more (direct_choices parts taken) bs i d lt))
    ∙ were

pub all_direct : (parts : Parts) (bs : List Buffer) (i : ℕ) (taken all : List (Option ℕ)) → length bs ≤ i → taken ++ direct_choices parts taken (drop i bs) ≡ all → taken ≡ all
all_direct parts bs i taken all le were = sym (append-nil taken) ∙ sym (ap (λ ns. taken ++ ns) (at_drop_all (direct_choices parts taken) bs i le)) ∙ were

-- ---- the globals that are left
pub left_more : (direct : List (Option ℕ)) (i : ℕ) (d : Option ℕ) (free less all : List ℕ) → i < length direct → less ≡ without (get_or direct i d) free → left (drop i direct) free ≡ all → left (drop (i + 1) direct) less ≡ all
left_more direct i d free less all lt is were = ap (left (drop (i + 1) direct)) is ∙ sym (at_drop_more (λ ns. left ns free) direct i d lt) ∙ were

pub all_left : (direct : List (Option ℕ)) (i : ℕ) (free all : List ℕ) → length direct ≤ i → left (drop i direct) free ≡ all → free ≡ all
all_left direct i free all le were = sym (at_drop_all (λ ns. left ns free) direct i le) ∙ were

-- ---- the buffers that are not direct
both_drop : (direct : List (Option ℕ)) (bs : List Buffer) (k : ℕ) (d : Option ℕ) (e : Buffer) → k < length direct → k < length bs
    → fed_pins (drop k direct) (drop k bs) ≡ fed_pins (get_or direct k d ∷ drop (k + 1) direct) (get_or bs k e ∷ drop (k + 1) bs)
both_drop direct bs k d e lt below = at_drop_more (λ ns. fed_pins ns (drop k bs)) direct k d lt ∙ at_drop_more (fed_pins (get_or direct k d ∷ drop (k + 1) direct)) bs k e below

pub fed_kept : (direct : List (Option ℕ)) (bs : List Buffer) (k : ℕ) (d : Option ℕ) (e : Buffer) (old new all : List Pins) → k < length direct → k < length bs → get_or direct k d ≡ None
    → new ≡ old ++ (get_or bs k e).pins ∷ [] → old ++ fed_pins (drop k direct) (drop k bs) ≡ all → new ++ fed_pins (drop (k + 1) direct) (drop (k + 1) bs) ≡ all
fed_kept direct bs k d e old new all lt below none is were =
    let rest = fed_pins (drop (k + 1) direct) (drop (k + 1) bs) in
    ap (λ ps. ps ++ rest) is ∙ append_assoc old ((get_or bs k e).pins ∷ []) rest
    ∙ sym (ap (λ ps. old ++ ps) (both_drop direct bs k d e lt below ∙ ap (λ o. fed_pins (o ∷ drop (k + 1) direct) (get_or bs k e ∷ drop (k + 1) bs)) none))
    ∙ were

pub fed_skipped : (direct : List (Option ℕ)) (bs : List Buffer) (k : ℕ) (d : Option ℕ) (e : Buffer) (n : ℕ) (old new all : List Pins) → k < length direct → k < length bs → get_or direct k d ≡ Some n
    → new ≡ old → old ++ fed_pins (drop k direct) (drop k bs) ≡ all → new ++ fed_pins (drop (k + 1) direct) (drop (k + 1) bs) ≡ all
fed_skipped direct bs k d e n old new all lt below some is were =
    let rest = fed_pins (drop (k + 1) direct) (drop (k + 1) bs) in
    ap (λ ps. ps ++ rest) is
    ∙ sym (ap (λ ps. old ++ ps) (both_drop direct bs k d e lt below ∙ ap (λ o. fed_pins (o ∷ drop (k + 1) direct) (get_or bs k e ∷ drop (k + 1) bs)) some))
    ∙ were

no_buffers : (direct : List (Option ℕ)) → fed_pins direct [] ≡ []
no_buffers [] = refl
no_buffers (o ∷ direct) = refl

pub fed_ended : (direct : List (Option ℕ)) (bs : List Buffer) (k : ℕ) (old all : List Pins) → min (length direct) (length bs) ≤ k → old ++ fed_pins (drop k direct) (drop k bs) ≡ all → old ≡ all
fed_ended direct bs k old all le were = sym (append-nil old) ∙ sym (ap (λ ps. old ++ ps) (by (cases_lt k (length direct)))) ∙ were
  where
    by : (k < length direct) ⊎ (length direct ≤ k) → fed_pins (drop k direct) (drop k bs) ≡ []
    by (inl lt) = at_drop_all (fed_pins (drop k direct)) bs k (omega arith) ∙ no_buffers (drop k direct)
    by (inr ge) = at_drop_all (λ ns. fed_pins ns (drop k bs)) direct k ge
