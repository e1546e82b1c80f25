-- After a sweep each slot has the level that its feed gives it.
use Rattle.std.proofs.Common.{◌≡◌, ◌≢◌, ℕ, zero, suc, ◌+◌, ◌<◌, Bool, false, List, [], ◌∷◌, ◌++◌, length, set, Option, Some, None, refl, ap, sym, ◌∙◌, arith, get_or-set_same, get_or-set_other}
use Rattle.std.proofs.lemmas.List.{length-set}
use Rattle.ice_sim_sweep.specs.declared.parts.Gate.{Gate}
use Rattle.ice_sim_sweep.specs.declared.parts.Feed.{Feed}
use Rattle.ice_sim_sweep.specs.declared.parts.Feed.TheVariants.{Nothing, Port as FromPort, Kept, Made}
use Rattle.ice_sim_sweep.specs.Slots.{level_at}
use Rattle.ice_sim_sweep.specs.Feeds.{port_in, kept_in, linked, gate_in}
use Rattle.ice_sim_sweep.specs.Sweeps.{copied, gate_level, made}
use Rattle.ice_sim_sweep.specs.Arrays.{feed_level, feed_at, Obeys, links_from, gates_from, IsFed, AreFed}

-- ---- links
-- the level that a slot has when it may have taken one
abbrev taken : List Bool → Option ℕ → Bool → Bool
taken from None old = old
taken from (Some k) old = level_at from k

module _ (source : Feed → Option ℕ) (from : List Bool) where
  pub copied_long : (feeds : List Feed) (s : ℕ) (values : List Bool) → length (copied (links_from source s feeds) from values) ≡ length values
  copied_long [] s values = refl
  copied_long (feed ∷ feeds) s values = of (source feed) (λ vs. copied_long feeds (suc s) vs)
    where
      of : (o : Option ℕ) → ((vs : List Bool) → length (copied (links_from source (suc s) feeds) from vs) ≡ length vs)
          → length (copied (linked s o ++ links_from source (suc s) feeds) from values) ≡ length values
      of None rec = rec values
      of (Some k) rec = rec (set values s (level_at from k)) ∙ length-set values s (level_at from k)

  -- a slot before these
  pub copied_before : (feeds : List Feed) (s t : ℕ) (values : List Bool) → t < s → level_at (copied (links_from source s feeds) from values) t ≡ level_at values t
  copied_before [] s t values lt = refl
  copied_before (feed ∷ feeds) s t values lt = of (source feed) (λ vs. copied_before feeds (suc s) t vs (omega arith))
    where
      of : (o : Option ℕ) → ((vs : List Bool) → level_at (copied (links_from source (suc s) feeds) from vs) t ≡ level_at vs t)
          → level_at (copied (linked s o ++ links_from source (suc s) feeds) from values) t ≡ level_at values t
      of None rec = rec values
      of (Some k) rec =
          let other : t ≢ s = λ e. absurd (omega arith) in
          rec (set values s (level_at from k)) ∙ get_or-set_other values s t (level_at from k) false other

  -- one of these slots
  pub copied_at : (feeds : List Feed) (s k t : ℕ) (values : List Bool) → k < length feeds → t ≡ s + k → t < length values
      → level_at (copied (links_from source s feeds) from values) t ≡ taken from (source (feed_at feeds k)) (level_at values t)
  copied_at [] s k t values lt e within = absurd (omega arith)
  copied_at (feed ∷ feeds) s zero t values lt e within = of (source feed) (λ vs. copied_before feeds (suc s) t vs (omega arith))
    where
      same : t ≡ s
      same = omega arith

      of : (o : Option ℕ) → ((vs : List Bool) → level_at (copied (links_from source (suc s) feeds) from vs) t ≡ level_at vs t)
          → level_at (copied (linked s o ++ links_from source (suc s) feeds) from values) t ≡ taken from o (level_at values t)
      of None rec = rec values
      of (Some m) rec =
          rec (set values s (level_at from m))
          ∙ ap (λ x. level_at (set values x (level_at from m)) t) (sym same)
          ∙ get_or-set_same values t (level_at from m) false within
  copied_at (feed ∷ feeds) s (suc k) t values lt e within = of (source feed) (λ vs w. copied_at feeds (suc s) k t vs (omega arith) (omega arith) w)
    where
      of : (o : Option ℕ) → ((vs : List Bool) → t < length vs
          → level_at (copied (links_from source (suc s) feeds) from vs) t ≡ taken from (source (feed_at feeds k)) (level_at vs t))
          → level_at (copied (linked s o ++ links_from source (suc s) feeds) from values) t ≡ taken from (source (feed_at feeds k)) (level_at values t)
      of None rec = rec values within
      of (Some m) rec =
          let other : t ≢ s = λ same. absurd (omega arith) in
          let long = length-set values s (level_at from m) in
          rec (set values s (level_at from m)) (omega arith)
          ∙ ap (taken from (source (feed_at feeds k))) (get_or-set_other values s t (level_at from m) false other)

-- ---- tables
pub made_long : (gates : List Gate) (values : List Bool) → length (made gates values) ≡ length values
made_long [] values = refl
made_long (gate ∷ gates) values = made_long gates (set values gate.out (gate_level values gate)) ∙ length-set values gate.out (gate_level values gate)

-- what a table makes of the same levels
gate_same : (gate : Gate) (values others : List Bool) → level_at values gate.first ≡ level_at others gate.first → level_at values gate.second ≡ level_at others gate.second
    → level_at values gate.third ≡ level_at others gate.third → level_at values gate.fourth ≡ level_at others gate.fourth
    → gate_level values gate ≡ gate_level others gate
gate_same gate values others a b c d = rw (a, b, c, d) refl

module _ (ports cells : ℕ) where
  pub made_before : (feeds : List Feed) (s t : ℕ) (values : List Bool) → AreFed ports cells s feeds → t < s → level_at (made (gates_from feeds) values) t ≡ level_at values t
  made_before [] s t values fed lt = refl
  made_before (feed ∷ feeds) s t values fed lt = of feed fed.0 (λ vs. made_before feeds (suc s) t vs fed.1 (omega arith))
    where
      of : (f : Feed) → IsFed ports cells s f → ((vs : List Bool) → level_at (made (gates_from feeds) vs) t ≡ level_at vs t)
          → level_at (made (gate_in f ++ gates_from feeds) values) t ≡ level_at values t
      of Nothing ok rec = rec values
      of (FromPort k) ok rec = rec values
      of (Kept k) ok rec = rec values
      of (Made gate) ok rec =
          let out = ok.out_is in
          let other : t ≢ gate.out = λ e. absurd (omega arith) in
          rec (set values gate.out (gate_level values gate)) ∙ get_or-set_other values gate.out t (gate_level values gate) false other

  -- the level of a slot after all tables, by what it was before them
  abbrev settled : List Bool → Feed → Bool → Bool
  settled values Nothing old = old
  settled values (FromPort k) old = old
  settled values (Kept k) old = old
  settled values (Made gate) old = gate_level values gate

  settled_same : (values : List Bool) (f : Feed) (x y : Bool) → x ≡ y → settled values f x ≡ settled values f y
  settled_same values f x y e = ap (settled values f) e

  pub made_at : (feeds : List Feed) (s k t : ℕ) (values : List Bool) → AreFed ports cells s feeds → k < length feeds → t ≡ s + k → t < length values
      → level_at (made (gates_from feeds) values) t ≡ settled (made (gates_from feeds) values) (feed_at feeds k) (level_at values t)
  made_at [] s k t values fed lt e within = absurd (omega arith)
  made_at (feed ∷ feeds) s zero t values fed lt e within = of feed fed.0 (λ vs r before. made_before feeds (suc s) r vs fed.1 before)
    where
      of : (f : Feed) → IsFed ports cells s f → ((vs : List Bool) (r : ℕ) → r < suc s → level_at (made (gates_from feeds) vs) r ≡ level_at vs r)
          → level_at (made (gate_in f ++ gates_from feeds) values) t ≡ settled (made (gate_in f ++ gates_from feeds) values) f (level_at values t)
      of Nothing ok rec = rec values t (omega arith)
      of (FromPort k) ok rec = rec values t (omega arith)
      of (Kept k) ok rec = rec values t (omega arith)
      of (Made gate) ok rec =
          let out : gate.out ≡ t = (let o = ok.out_is in omega arith) in
          let next : List Bool = set values gate.out (gate_level values gate) in
          let keeps : (r : ℕ) → r < s → level_at (made (gates_from feeds) next) r ≡ level_at values r
          = λ r before.
          let other : r ≢ gate.out = λ same. absurd (omega arith) in
          rec next r (omega arith) ∙ get_or-set_other values gate.out r (gate_level values gate) false other in
          rec next t (omega arith)
          ∙ ap (λ o. level_at (set values o (gate_level values gate)) t) out
          ∙ get_or-set_same values t (gate_level values gate) false within
          ∙ sym (gate_same gate (made (gates_from feeds) next) values (keeps gate.first ok.first_before) (keeps gate.second ok.second_before)
          (keeps gate.third ok.third_before) (keeps gate.fourth ok.fourth_before))
  made_at (feed ∷ feeds) s (suc k) t values fed lt e within = of feed fed.0 (λ vs w. made_at feeds (suc s) k t vs fed.1 (omega arith) (omega arith) w)
    where
      of : (f : Feed) → IsFed ports cells s f → ((vs : List Bool) → t < length vs
          → level_at (made (gates_from feeds) vs) t ≡ settled (made (gates_from feeds) vs) (feed_at feeds k) (level_at vs t))
          → level_at (made (gate_in f ++ gates_from feeds) values) t ≡ settled (made (gate_in f ++ gates_from feeds) values) (feed_at feeds k) (level_at values t)
      of Nothing ok rec = rec values within
      of (FromPort m) ok rec = rec values within
      of (Kept m) ok rec = rec values within
      of (Made gate) ok rec =
          let out = ok.out_is in
          let other : t ≢ gate.out = λ same. absurd (omega arith) in
          let long = length-set values gate.out (gate_level values gate) in
          let next : List Bool = set values gate.out (gate_level values gate) in
          rec next (omega arith)
          ∙ settled_same (made (gates_from feeds) next) (feed_at feeds k) (level_at next t) (level_at values t)
          (get_or-set_other values gate.out t (gate_level values gate) false other)

-- ---- the whole sweep
module _ (ports cells : ℕ) (feeds : List Feed) (levels kept values : List Bool) (fed : AreFed ports cells 0 feeds) (long : length values ≡ length feeds)
    (unfed : (s : ℕ) → s < length feeds → feed_at feeds s ≡ Nothing → level_at values s ≡ false) where
  abbrev first : List Bool
  first = copied (links_from port_in 0 feeds) levels values

  abbrev second : List Bool
  second = copied (links_from kept_in 0 feeds) kept first

  abbrev pub third : List Bool
  third = made (gates_from feeds) second

  second_long : length second ≡ length feeds
  second_long = copied_long kept_in kept feeds 0 first ∙ copied_long port_in levels feeds 0 values ∙ long

  pub third_long : length third ≡ length feeds
  third_long = made_long (gates_from feeds) second ∙ second_long

  second_at : (s : ℕ) → s < length feeds → level_at second s ≡ taken kept (kept_in (feed_at feeds s)) (taken levels (port_in (feed_at feeds s)) (level_at values s))
  second_at s lt =
      copied_at kept_in kept feeds 0 s s first lt (omega arith) (let e = copied_long port_in levels feeds 0 values in omega arith)
      ∙ ap (taken kept (kept_in (feed_at feeds s))) (copied_at port_in levels feeds 0 s s values lt (omega arith) (omega arith))

  level_is : (s : ℕ) → s < length feeds → (f : Feed) → feed_at feeds s ≡ f
      → settled ports cells third f (taken kept (kept_in f) (taken levels (port_in f) (level_at values s))) ≡ feed_level levels kept third f
  level_is s lt Nothing e = unfed s lt e
  level_is s lt (FromPort k) e = refl
  level_is s lt (Kept k) e = refl
  level_is s lt (Made gate) e = refl

  -- each slot has the level that its feed gives it
  pub swept_obeys : Obeys feeds levels kept third
  swept_obeys = record {
    each = λ s lt.
        made_at ports cells feeds 0 s s second fed lt (omega arith) (let e = second_long in omega arith)
        ∙ settled_same ports cells third (feed_at feeds s) (level_at second s)
        (taken kept (kept_in (feed_at feeds s)) (taken levels (port_in (feed_at feeds s)) (level_at values s))) (second_at s lt)
        ∙ level_is s lt (feed_at feeds s) refl;
  }
