-- Tables that make their signals, one after another, in an order of evaluation.
use Rattle.std.proofs.Common.{◌≡◌, ◌≢◌, ℕ, suc, ◌+◌, ◌<◌, ◌≤◌, Bool, true, false, List, [], ◌∷◌, ◌++◌, length, map, set, get_or, drop, Some, refl, ap, sym, ◌∙◌, subst, inl, inr, arith, get_or-set_same, get_or-set_other}
use Rattle.std.specs.Prelude.{slice_get, unwrap_or}
use Rattle.std.specs.List.{flat_map}
use Rattle.std.proofs.lemmas.List.{length-set, set-get_or, drop_more, length-drop}
use Rattle.std.proofs.lemmas.Bool.{cases_lt}
use Rattle.ice_base_values.specs.System.{System, value}
use Rattle.ice_base_values.specs.Order.{At, IsOrder}
use Rattle.ice_base_values.proofs.Places.{At_same, At_drop}
use Rattle.ice_base_values.proofs.Values.{value_step, value_at_more}
use Rattle.ice_base_values.proofs.Gaps.{local_gapped}
use Rattle.ice_base_values.proofs.FillingSteps.{Filled, filled_all}
use Rattle.ice_net.specs.NetlistData.{NetlistData}
use Rattle.ice_net.specs.Formed.{IsFormed}
use Rattle.ice_net.specs.Drivers.{driver_of}
use Rattle.ice_net.specs.Meaning.{reads, makes, depends_on, system_of, signal_value}
use Rattle.ice_sim_sweep.specs.declared.parts.Gate.{Gate}
use Rattle.ice_sim_sweep.specs.declared.parts.Feed.{Feed}
use Rattle.ice_sim_sweep.specs.declared.parts.Feed.TheVariants.{Nothing, Port as FromPort, Kept, Made}
use Rattle.ice_sim_sweep.specs.Slots.{level_at}
use Rattle.ice_sim_sweep.specs.Feeds.{gate_in, feed_of}
use Rattle.ice_sim_sweep.specs.Sweeps.{gate_level, made}
use Rattle.ice_sim_sweep.specs.Arrays.{feed_level}
use Rattle.ice_sim_sweep.proofs.Feeding.{feed_makes, gate_out}

-- one more point of an order is filled, in an array that may go on behind the points
pub filled_one : {A : Type 0} (s : System ℕ A) (d : A) (n : ℕ) (order : List ℕ) (values : List A) (i p : ℕ) (x : A)
    → IsOrder n s.depends order → n ≤ length values → Filled s d order values i → At order i p
    → x ≡ s.local p (map (λ q. get_or values q d) (s.depends p)) → Filled s d order (set values p x) (i + 1)
filled_one s d n order values i p x o long filled at e j r lt here =
    let old : j < i → value s (suc j) r ≡ Some (get_or (set values p x) r d)
    = λ below.
    let other : r ≢ p = λ same. let f : j ≡ i = o.once j i p (subst (λ t. At order j t) same here) at in omega arith in
    rw (get_or-set_other values p r x d other) (filled j r below here) in
    let new : i ≤ j → value s (suc j) r ≡ Some (get_or (set values p x) r d)
    = λ above.
    let same_place : j ≡ i = omega arith in
    let same : r ≡ p = At_same order i r p (subst (λ t. At order t r) same_place here) at in
    let inside : p < length values = let f = o.within i p at in omega arith in
    let got : value s (suc i) p ≡ Some (s.local p (map (λ q. get_or values q d) (s.depends p)))
    = value_step s (λ q. get_or values q d) i p
    (λ q has. let before = o.after i p q at has in
    value_at_more s (suc before.0) i q (get_or values q d) (let f = before.1 in omega arith) (filled before.0 q before.1 before.2)) in
    rw (same_place, same, get_or-set_same values p x d inside, e) got in
    elim (cases_lt j i) [ inl below ↦ old below | inr above ↦ new above ]

-- the level of a signal that no table makes doesn't hang on the array
source_same : (levels kept values others : List Bool) (feed : Feed) → gate_in feed ≡ [] → feed_level levels kept values feed ≡ feed_level levels kept others feed
source_same levels kept values others Nothing e = refl
source_same levels kept values others (FromPort k) e = refl
source_same levels kept values others (Kept i) e = refl
source_same levels kept values others (Made gate) e = cc

-- the array after the first i signals of the order
pub record AreSettled (n : NetlistData) (levels kept : List Bool) (order : List ℕ) (i : ℕ) (values : List Bool) : Type 0 where
  pub filled : Filled (system_of n levels kept) false order values i
  pub sources : (s : ℕ) → s < length n.names → gate_in (feed_of n s) ≡ [] → level_at values s ≡ feed_level levels kept values (feed_of n s)
  pub zero_is : level_at values (length n.names) ≡ false
  pub one_is : level_at values (length n.names + 1) ≡ true
  pub long : length values ≡ length n.names + 2

module _ (n : NetlistData) (levels kept : List Bool) (order : List ℕ) (formed : IsFormed n) (ordered : IsOrder (length n.names) (depends_on n) order) where
  -- what a signal makes of the levels in the array
  local_is : (values : List Bool) → level_at values (length n.names) ≡ false → (s : ℕ)
      → (system_of n levels kept).local s (map (λ q. get_or values q false) ((system_of n levels kept).depends s)) ≡ feed_level levels kept values (feed_of n s)
  local_is values zero_is s =
      local_gapped (λ s. reads n (driver_of n s)) false (λ s. makes n levels kept (driver_of n s)) (λ q. get_or values q false) s
      ∙ feed_makes n levels kept values formed zero_is s

  -- a signal that no table makes
  pass : (i p : ℕ) (values : List Bool) → At order i p → gate_in (feed_of n p) ≡ [] → AreSettled n levels kept order i values → AreSettled n levels kept order (i + 1) values
  pass i p values at none settled =
      let here : level_at values p ≡ (system_of n levels kept).local p (map (λ q. get_or values q false) ((system_of n levels kept).depends p))
      = settled.sources p (ordered.within i p at) none ∙ sym (local_is values settled.zero_is p) in
      record {
        filled = subst (λ vs. Filled (system_of n levels kept) false order vs (i + 1)) (set-get_or values p false)
            (filled_one (system_of n levels kept) false (length n.names) order values i p (get_or values p false) ordered (let e = settled.long in omega arith) settled.filled at here);
        sources = settled.sources;
        zero_is = settled.zero_is;
        one_is = settled.one_is;
        long = settled.long;
      }

  -- a signal that a table makes
  make : (i p : ℕ) (values : List Bool) (gate : Gate) → At order i p → feed_of n p ≡ Made gate → AreSettled n levels kept order i values
      → AreSettled n levels kept order (i + 1) (set values gate.out (gate_level values gate))
  make i p values gate at is settled =
      let out : gate.out ≡ p = gate_out n p gate is in
      let inside : p < length n.names = ordered.within i p at in
      let here : gate_level values gate ≡ (system_of n levels kept).local p (map (λ q. get_or values q false) ((system_of n levels kept).depends p))
      = sym (local_is values settled.zero_is p ∙ ap (feed_level levels kept values) is) in
      rw out record {
        filled = filled_one (system_of n levels kept) false (length n.names) order values i p (gate_level values gate) ordered (let e = settled.long in omega arith) settled.filled at here;
        sources = λ s lt none.
            let other : s ≢ p = λ same. let f : feed_of n s ≡ Made gate = ap (feed_of n) same ∙ is in let g : gate ∷ [] ≡ [] = sym (ap gate_in f) ∙ none in cc g in
            get_or-set_other values p s (gate_level values gate) false other ∙ settled.sources s lt none
            ∙ source_same levels kept values (set values p (gate_level values gate)) (feed_of n s) none;
        zero_is = get_or-set_other values p (length n.names) (gate_level values gate) false (λ same. absurd (omega arith)) ∙ settled.zero_is;
        one_is = get_or-set_other values p (length n.names + 1) (gate_level values gate) false (λ same. absurd (omega arith)) ∙ settled.one_is;
        long = length-set values p (gate_level values gate) ∙ settled.long;
      }

  abbrev gates_of : List ℕ → List Gate
  gates_of signals = flat_map (λ s. gate_in (feed_of n s)) signals

  end : (i : ℕ) (values : List Bool) → length order ≤ i → AreSettled n levels kept order i values → AreSettled n levels kept order (length order) values
  end i values le settled = record {
    filled = λ j p lt at. settled.filled j p (omega arith) at;
    sources = settled.sources;
    zero_is = settled.zero_is;
    one_is = settled.one_is;
    long = settled.long;
  }

  sweep : (rest : List ℕ) (i : ℕ) (values : List Bool) → drop i order ≡ rest → AreSettled n levels kept order i values
      → AreSettled n levels kept order (length order) (made (gates_of rest) values)
  sweep [] i values is settled =
      let none : length (drop i order) ≡ 0 = ap length is in
      end i values (omega (arith, length-drop i order)) settled
  sweep (p ∷ rest) i values is settled = of (feed_of n p) refl (λ vs s. sweep rest (i + 1) vs behind s)
    where
      lt : i < length order
      lt = let some : length (drop i order) ≡ suc (length rest) = ap length is in omega (arith, length-drop i order)

      at : At order i p
      at = let e : i + 0 ≡ i = omega arith in subst (λ k. slice_get order k ≡ Some p) e (sym (At_drop order i 0) ∙ ap (λ l. slice_get l 0) is)

      behind : drop (i + 1) order ≡ rest
      behind = let e : get_or order i 0 ∷ drop (i + 1) order ≡ p ∷ rest = sym (drop_more order i 0 lt) ∙ is in cc

      of : (f : Feed) → feed_of n p ≡ f → ((vs : List Bool) → AreSettled n levels kept order (i + 1) vs → AreSettled n levels kept order (length order) (made (gates_of rest) vs))
          → AreSettled n levels kept order (length order) (made (gate_in f ++ gates_of rest) values)
      of Nothing f rec = rec values (pass i p values at (ap gate_in f) settled)
      of (FromPort k) f rec = rec values (pass i p values at (ap gate_in f) settled)
      of (Kept k) f rec = rec values (pass i p values at (ap gate_in f) settled)
      of (Made gate) f rec = rec (set values gate.out (gate_level values gate)) (make i p values gate at f settled)

  -- after all tables the array has the value of each signal
  pub all_made : (values : List Bool) → AreSettled n levels kept order 0 values → AreSettled n levels kept order (length order) (made (gates_of order) values)
  all_made values settled = sweep order 0 values refl settled

  pub values_are : (values : List Bool) → AreSettled n levels kept order (length order) values → (s : ℕ) → s < length n.names
      → signal_value n levels kept s ≡ level_at values s
  values_are values settled s lt =
      ap (λ o. unwrap_or o false) (filled_all (system_of n levels kept) false (length n.names) order values ordered settled.filled s lt)
