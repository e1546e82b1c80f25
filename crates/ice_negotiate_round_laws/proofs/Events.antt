-- Each step of a hand is the event of its name in the core.
use Rattle.std.proofs.Common.{◌≡◌, ℕ, zero, suc, ◌+◌, ◌-◌, ◌≤◌, ◌<◌, ◌⊎◌, true, false, List, [], ◌∷◌, ◌++◌, length, map, take, drop, nat_lt, if◌then◌else◌, lt-ltb, le-ltb, append_assoc, slice_get, slice_set, slice_index, Some, inl, inr, get_or-set_same, get_or-set_other, refl, sym, ap, subst, arith, ◌∙◌}
use Rattle.std.proofs.lemmas.List.{get_or-drop}
use Rattle.std.proofs.lemmas.Option.{slice_get_within, get_or_from_slice_get}
use Rattle.ice_core.specs.declared.event.Event.TheVariants.{Claim as Claims}
use Rattle.ice_core.specs.Machine.{Worker, changed_at, claiming as claims_in_core, holding as holds_in_core, releasing as releases_in_core}
use Rattle.ice_core.specs.Routes.{wires_of}
use Rattle.ice_words.specs.declared.view.Claim.{Claim}
use Rattle.ice_words.specs.declared.view.Part.{Part}
use Rattle.ice_words.specs.declared.view.View.{View}
use Rattle.ice_words.specs.Views.{claiming, ending, held_at, holding, no_part, own, own_changed, own_of, released_at, releasing}
use Rattle.ice_words.specs.Rule.{IsNewestReleased, MayHold, MayRelease}
use Rattle.ice_words.specs.Lawful.{AreFinished, IsLawful, IsNewestFinished}
use Rattle.ice_words.specs.Showing.{all_parts, bare, left_of, rest_of, worker_of}
use Rattle.ice_words.proofs.Undoing.{bare_workers, core_same}
use Rattle.ice_words_hands.proofs.Parts.{own_is}
use Rattle.ice_negotiate_round_laws.specs.Events.{ClaimsAreClaims, HoldsAreHolds, IsEvent, ReleasesAreReleases, worker_number}

-- ---- lists
drop_own : (xs ys : List ℕ) → drop (length xs) (xs ++ ys) ≡ ys
drop_own [] ys = refl
drop_own (x ∷ xs) ys = drop_own xs ys

drop_front : (xs ys zs : List ℕ) → xs ++ ys ≡ zs → drop (length xs) zs ≡ ys
drop_front xs ys zs is = subst (λ us. drop (length xs) us ≡ ys) is (drop_own xs ys)

drop_all : (xs ys : List ℕ) → xs ≡ ys → drop (length xs) ys ≡ []
drop_all xs ys is = subst (λ us. drop (length xs) us ≡ []) is (all xs)
  where
    all : (xs : List ℕ) → drop (length xs) xs ≡ []
    all [] = refl
    all (x ∷ xs) = all xs

-- what is left from a place on, where an item stands there
drop_at : (xs : List ℕ) (k x : ℕ) → slice_get xs k ≡ Some x → drop k xs ≡ x ∷ drop (suc k) xs
drop_at [] k x at = absurd (let none : List ℕ = [] in let lt : k < 0 = slice_get_within none k x at in omega arith)
drop_at (y ∷ xs) zero x at = ap (λ z. z ∷ xs) (get_or_from_slice_get (y ∷ xs) 0 x y at)
drop_at (y ∷ xs) (suc k) x at = drop_at xs k x at

drop_pushed : (xs ys : List ℕ) (x : ℕ) → drop (length (xs ++ x ∷ [])) ys ≡ drop (suc (length xs)) ys
drop_pushed xs ys x = ap (λ n. drop n ys) (longer xs)
  where
    longer : (xs : List ℕ) → length (xs ++ x ∷ []) ≡ suc (length xs)
    longer [] = refl
    longer (y ∷ xs) = ap suc (longer xs)

drop_more : (k : ℕ) (xs : List ℕ) → drop 1 (drop k xs) ≡ drop (suc k) xs
drop_more zero [] = refl
drop_more zero (x ∷ xs) = refl
drop_more (suc k) [] = refl
drop_more (suc k) (x ∷ xs) = drop_more k xs

-- ---- the words
first_set : (words : List ℕ) (n : ℕ) → 1 ≤ length words → slice_index (slice_set words 0 n) 0 ≡ n
first_set words n long = get_or-set_same words 0 n 0 long

behind_first : (words : List ℕ) (n : ℕ) → drop 3 (slice_set words 0 n) ≡ drop 3 words
behind_first [] n = refl
behind_first (x ∷ words) n = refl

three : (w : ℕ) → w + 3 ≡ suc (suc (suc w))
three w = omega arith

wire_word : (words : List ℕ) (w : ℕ) → slice_index (drop 3 words) w ≡ slice_index words (w + 3)
wire_word words w = (let e : 3 + w ≡ w + 3 = omega arith in get_or-drop 3 words w 0 ∙ ap (λ k. slice_index words k) e)

wire_set : (words : List ℕ) (w n : ℕ) → 3 ≤ length words → drop 3 (slice_set words (w + 3) n) ≡ slice_set (drop 3 words) w n
wire_set words w n long = subst (λ k. drop 3 (slice_set words k n) ≡ slice_set (drop 3 words) w n) (sym (three w)) (far words long)
  where
    far : (words : List ℕ) → 3 ≤ length words → drop 3 (slice_set words (suc (suc (suc w))) n) ≡ slice_set (drop 3 words) w n
    far [] long = absurd (omega arith)
    far (x ∷ []) long = absurd (omega arith)
    far (x ∷ y ∷ []) long = absurd (omega arith)
    far (x ∷ y ∷ z ∷ words) long = refl

-- the claim number stays as a wire's word changes
first_stays : (words : List ℕ) (w n : ℕ) → slice_index (slice_set words (w + 3) n) 0 ≡ slice_index words 0
first_stays words w n = get_or-set_other words (w + 3) 0 n 0 (λ e. absurd (omega (arith, e)))

-- ---- the own part among all
module _ (olds news : List (List ℕ)) where
  abbrev shown : List Part → List Worker
  shown ps = map (worker_of olds news) ps

  there_behind : (ps ks qs : List Part) (u : Worker) → slice_get (shown qs) (length ks) ≡ Some u → slice_get (shown (ps ++ qs)) (length (ps ++ ks)) ≡ Some u
  there_behind [] ks qs u at = at
  there_behind (p ∷ ps) ks qs u at = there_behind ps ks qs u at

  there_first : (ps qs : List Part) → 1 ≤ length ps → slice_get (shown (ps ++ qs)) 0 ≡ Some (worker_of olds news (own_of no_part ps))
  there_first [] qs some_part = absurd (omega arith)
  there_first (p ∷ ps) qs some_part = refl

  -- the worker of that number is the own part
  worker_there : (views : List View) (id : ℕ) (v : View) → slice_get views id ≡ Some v → 1 ≤ length v.parts → slice_get (shown (all_parts views)) (worker_number views id) ≡ Some (worker_of olds news (own v))
  worker_there [] id v at some_part = absurd (let none : List View = [] in let lt : id < 0 = slice_get_within none id v at in omega arith)
  worker_there (u ∷ views) zero v at some_part =
      let same : u ≡ v = get_or_from_slice_get (u ∷ views) 0 v u at in
      subst (λ (x : View). slice_get (shown (x.parts ++ all_parts views)) 0 ≡ Some (worker_of olds news (own v))) (sym same) (there_first v.parts (all_parts views) some_part)
  worker_there (u ∷ views) (suc id) v at some_part = there_behind u.parts (all_parts (take id views)) (all_parts views) (worker_of olds news (own v)) (worker_there views id v at some_part)

  changed_behind : (g : Worker → Worker) (ps ks qs rs : List Part) → map bare (changed_at (length ks) g (shown qs)) ≡ shown rs → map bare (changed_at (length (ps ++ ks)) g (shown (ps ++ qs))) ≡ shown (ps ++ rs)
  changed_behind g [] ks qs rs same = same
  changed_behind g (p ∷ ps) ks qs rs same = ap (λ us. worker_of olds news p ∷ us) (changed_behind g ps ks qs rs same)

  changed_first : (g : Worker → Worker) (f : Part → Part) (ps qs : List Part) → 1 ≤ length ps → bare (g (worker_of olds news (own_of no_part ps))) ≡ worker_of olds news (f (own_of no_part ps)) → map bare (changed_at 0 g (shown (ps ++ qs))) ≡ shown (own_changed f ps ++ qs)
  changed_first g f [] qs some_part same = absurd (omega arith)
  changed_first g f (p ∷ ps) qs some_part same = λ k. same k ∷ bare_workers olds news (ps ++ qs) k

  -- it alone changes
  worker_changed : (g : Worker → Worker) (f : Part → Part) (views : List View) (id : ℕ) (v w : View) → slice_get views id ≡ Some v → 1 ≤ length v.parts → w.parts ≡ own_changed f v.parts → bare (g (worker_of olds news (own v))) ≡ worker_of olds news (f (own v))
      → map bare (changed_at (worker_number views id) g (shown (all_parts views))) ≡ shown (all_parts (slice_set views id w))
  worker_changed g f [] id v w at some_part parts same = absurd (let none : List View = [] in let lt : id < 0 = slice_get_within none id v at in omega arith)
  worker_changed g f (u ∷ views) zero v w at some_part parts same =
      let is : u ≡ v = get_or_from_slice_get (u ∷ views) 0 v u at in
      subst (λ (x : View). map bare (changed_at 0 g (shown (x.parts ++ all_parts views))) ≡ shown (w.parts ++ all_parts views)) (sym is)
      (changed_first g f v.parts (all_parts views) some_part same ∙ ap (λ ps. shown (ps ++ all_parts views)) (sym parts))
  worker_changed g f (u ∷ views) (suc id) v w at some_part parts same = changed_behind g u.parts (all_parts (take id views)) (all_parts views) (all_parts (slice_set views id w)) (worker_changed g f views id v w at some_part parts same)

  -- ---- what is left of the newest claim
  released_left : (cs : List Claim) → IsNewestReleased olds cs → left_of olds cs ≡ []
  released_left [] whole = refl
  released_left (c ∷ cs) whole = drop_all c.released (wires_of olds c.task) whole

  finished_rest : (cs : List Claim) → IsNewestFinished olds news cs → rest_of news cs ≡ []
  finished_rest [] done = refl
  finished_rest (c ∷ cs) done = drop_all c.held (wires_of news c.task) done.held

  before_finished : (n : ℕ) (cs : List Claim) → AreFinished olds news n cs → IsNewestFinished olds news cs
  before_finished n [] are = tt
  before_finished n (c ∷ cs) are = are.1

  -- ---- the steps of one worker
  claimed_step : (n : ℕ) (p : Part) → n < length olds → p.ended ≡ false → bare (claims_in_core olds news n (worker_of olds news p)) ≡ worker_of olds news (claiming n p)
  claimed_step n p lt going =
      let early : nat_lt n (length olds) ≡ true = lt-ltb n (length olds) lt in
      subst (λ b. bare (if b then record { claimed = n ∷ map (λ (c : Claim). c.task) p.claims; left = wires_of olds n; rest = wires_of news n; ended = false; up = 0; down = 0 } else record { claimed = map (λ (c : Claim). c.task) p.claims; left = left_of olds p.claims; rest = rest_of news p.claims; ended = true; up = 0; down = 0 }) ≡ worker_of olds news (claiming n p)) (sym early)
      (ap (λ b. record { claimed = n ∷ map (λ (c : Claim). c.task) p.claims; left = wires_of olds n; rest = wires_of news n; ended = b; up = 0; down = 0 }) (sym going))

  ended_step : (n : ℕ) (p : Part) → length olds ≤ n → bare (claims_in_core olds news n (worker_of olds news p)) ≡ worker_of olds news (ending p)
  ended_step n p le =
      let late : nat_lt n (length olds) ≡ false = le-ltb n (length olds) le in
      subst (λ b. bare (if b then record { claimed = n ∷ map (λ (c : Claim). c.task) p.claims; left = wires_of olds n; rest = wires_of news n; ended = false; up = 0; down = 0 } else record { claimed = map (λ (c : Claim). c.task) p.claims; left = left_of olds p.claims; rest = rest_of news p.claims; ended = true; up = 0; down = 0 }) ≡ worker_of olds news (ending p)) (sym late) refl

  -- the wire is the first that is left, and behind the step it is not
  release_left : (cs : List Claim) (task w : ℕ) → MayRelease olds cs task w → (wires : List ℕ) × (left_of olds cs ≡ w ∷ wires)
  release_left [] task w may = absurd may
  release_left (c ∷ cs) task w may = (drop (suc (length c.released)) (wires_of olds c.task), drop_at (wires_of olds c.task) (length c.released) w (subst (λ t. slice_get (wires_of olds t) (length c.released) ≡ Some w) (sym may.0) may.1))

  released_step : (n w : ℕ) (p : Part) → bare (releases_in_core n (worker_of olds news p)) ≡ worker_of olds news (releasing w p)
  released_step n w p = by_claims p.claims
    where
      by_claims : (cs : List Claim) → bare (releases_in_core n (worker_of olds news (record { claims = cs; ended = p.ended }))) ≡ worker_of olds news (releasing w (record { claims = cs; ended = p.ended }))
      by_claims [] = refl
      by_claims (c ∷ cs) = ap (λ l. record { claimed = c.task ∷ map (λ (c : Claim). c.task) cs; left = l; rest = drop (length c.held) (wires_of news c.task); ended = p.ended; up = 0; down = 0 }) (drop_more (length c.released) (wires_of olds c.task) ∙ sym (drop_pushed c.released (wires_of olds c.task) w))

  held_step : (n w : ℕ) (p : Part) → bare (holds_in_core n (worker_of olds news p)) ≡ worker_of olds news (holding w p)
  held_step n w p = by_claims p.claims
    where
      by_claims : (cs : List Claim) → bare (holds_in_core n (worker_of olds news (record { claims = cs; ended = p.ended }))) ≡ worker_of olds news (holding w (record { claims = cs; ended = p.ended }))
      by_claims [] = refl
      by_claims (c ∷ cs) = ap (λ r. record { claimed = c.task ∷ map (λ (c : Claim). c.task) cs; left = drop (length c.released) (wires_of olds c.task); rest = r; ended = p.ended; up = 0; down = 0 }) (drop_more (length c.held) (wires_of news c.task) ∙ sym (drop_pushed c.held (wires_of news c.task) w))

  -- where the part is lawful behind a hold, the wire was the next of the new route
  hold_rest : (w : ℕ) (p : Part) (task : ℕ) → MayHold olds p.claims task w → IsLawful olds news (holding w p) → (left_of olds p.claims ≡ []) × ((wires : List ℕ) × (rest_of news p.claims ≡ w ∷ wires))
  hold_rest w p task may lawful = by_claims p.claims may lawful
    where
      by_claims : (cs : List Claim) → MayHold olds cs task w → IsLawful olds news (holding w (record { claims = cs; ended = p.ended })) → (left_of olds cs ≡ []) × ((wires : List ℕ) × (rest_of news cs ≡ w ∷ wires))
      by_claims [] may lawful = absurd may
      by_claims (c ∷ cs) may lawful =
          let way = lawful.claims.0 in
          (drop_all c.released (wires_of olds c.task) may.1, (way.rest, drop_front c.held (w ∷ way.rest) (wires_of news c.task) (sym (append_assoc c.held (w ∷ []) way.rest) ∙ way.held)))

within_or_past : (n m : ℕ) → (n < m) ⊎ (m ≤ n)
within_or_past n zero = inr (omega arith)
within_or_past zero (suc m) = inl (omega arith)
within_or_past (suc n) (suc m) = elim (within_or_past n m) [
  | inl lt ↦ inl (omega arith)
  | inr le ↦ inr (omega arith)
]

pub claims_are_claims : ClaimsAreClaims
claims_are_claims olds news counts id v w s t h is whole draws step lawful = elim (within_or_past (slice_index s.words 0) (length v.olds)) [
  | inl lt ↦ by_change (claiming n) (ap (λ (u : View). u.parts) (draws.number lt).0) (claimed_step olds news n (own v) (omega (arith, lt, ap length is.tasks)) is.going)
      (λ part. before_finished olds news n (own v).claims part.claims.1)
  | inr le ↦ by_change ending (ap (λ (u : View). u.parts) (draws.none le)) (ended_step olds news n (own v) (omega (arith, le, ap length is.tasks))) (λ part. part.ended refl)
]
  where
    n : ℕ
    n = slice_index s.words 0

    by_change : (f : Part → Part) → w.parts ≡ own_changed f v.parts → bare (claims_in_core olds news n (worker_of olds news (own v))) ≡ worker_of olds news (f (own v)) → (IsLawful olds news (f (own v)) → IsNewestFinished olds news (own v).claims)
        → IsEvent olds news (Claims (worker_number s.views id)) s t
    by_change f parts same finished =
        let mine : own w ≡ f (own v) = ap (own_of no_part) parts ∙ own_is no_part f v.parts is.parts in
        let done = finished (subst (IsLawful olds news) mine lawful) in
        record {
          allowed = (worker_of olds news (own v), worker_there olds news s.views id v is.seat is.parts, (released_left olds news (own v).claims whole, finished_rest olds news (own v).claims done, is.going));
          comes = core_same _ _ _ _ _ _ (sym (ap (λ (ws : List ℕ). slice_index ws 0) step.words ∙ first_set s.words (n + 1) (omega (arith, h.words)))) (sym (ap (drop 3) step.words ∙ behind_first s.words (n + 1)))
              (worker_changed olds news (claims_in_core olds news n) f s.views id v w is.seat is.parts parts same ∙ ap (λ vs. map (worker_of olds news) (all_parts vs)) (sym step.views));
        }

pub releases_are_releases : ReleasesAreReleases
releases_are_releases olds news counts id task wire v s t h is may step =
    let n : ℕ = slice_index s.words (wire.0 + 3) in
    let count : slice_index (drop 3 s.words) wire.0 ≡ n = wire_word s.words wire.0 in
    record {
      allowed = (worker_of olds news (own v), worker_there olds news s.views id v is.seat is.parts, release_left olds news (own v).claims task wire.0 may);
      comes = core_same _ _ _ _ _ _ (sym (ap (λ (ws : List ℕ). slice_index ws 0) step.words ∙ first_stays s.words wire.0 (n - 1)))
          (ap (λ k. slice_set (drop 3 s.words) wire.0 (k - 1)) count ∙ sym (ap (drop 3) step.words ∙ wire_set s.words wire.0 (n - 1) (omega (arith, h.words))))
          (worker_changed olds news (releases_in_core (slice_index (drop 3 s.words) wire.0)) (releasing wire.0) s.views id v (released_at n wire.0 v) is.seat is.parts refl (released_step olds news (slice_index (drop 3 s.words) wire.0) wire.0 (own v))
          ∙ ap (λ vs. map (worker_of olds news) (all_parts vs)) (sym step.views));
    }

pub holds_are_holds : HoldsAreHolds
holds_are_holds olds news counts id task wire v s t h is may step lawful =
    let n : ℕ = slice_index s.words (wire.0 + 3) in
    let count : slice_index (drop 3 s.words) wire.0 ≡ n = wire_word s.words wire.0 in
    let mine : own (held_at n wire.0 v) ≡ holding wire.0 (own v) = own_is no_part (holding wire.0) v.parts is.parts in
    record {
      allowed = (worker_of olds news (own v), worker_there olds news s.views id v is.seat is.parts, hold_rest olds news wire.0 (own v) task may (subst (IsLawful olds news) mine lawful));
      comes = core_same _ _ _ _ _ _ (sym (ap (λ (ws : List ℕ). slice_index ws 0) step.words ∙ first_stays s.words wire.0 (n + 1)))
          (ap (λ k. slice_set (drop 3 s.words) wire.0 (k + 1)) count ∙ sym (ap (drop 3) step.words ∙ wire_set s.words wire.0 (n + 1) (omega (arith, h.words))))
          (worker_changed olds news (holds_in_core (slice_index (drop 3 s.words) wire.0)) (holding wire.0) s.views id v (held_at n wire.0 v) is.seat is.parts refl (held_step olds news (slice_index (drop 3 s.words) wire.0) wire.0 (own v))
          ∙ ap (λ vs. map (worker_of olds news) (all_parts vs)) (sym step.views));
    }
