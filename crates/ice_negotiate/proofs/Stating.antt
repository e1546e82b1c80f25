-- What the state of negotiation holds, from round to round.
use Rattle.std.proofs.Common.{◌≡◌, ℕ, zero, suc, ◌+◌, ◌≤◌, ◌<◌, List, [], ◌∷◌, ◌++◌, Some, length, replicate, slice_get, slice_index, refl, sym, ap, ◌∙◌, subst, arith, inl, inr, ◌⊎◌, Vec, Global, None}
use Rattle.std.proofs.lemmas.Option.{slice_get_within}
use Rattle.ice_base.specs.declared.number.WireNo.{WireNo}
use Rattle.ice_base.specs.declared.number.NetNo.{NetNo}
use Rattle.ice_graph.specs.declared.tree.Tree.{Tree}
use Rattle.ice_graph.specs.Network.{Network}
use Rattle.ice_core.specs.declared.net.Net.{Net}
use Rattle.ice_core.specs.declared.log.RoundLog.{RoundLog}
use Rattle.ice_core.specs.Congestion.{next_history}
use Rattle.ice_core.specs.Moves.{IsOccupancy, movers_of}
use Rattle.ice_words.specs.Grips.{Shut}
use Rattle.ice_negotiate_defs.specs.Trees.{AreOnce}
use Rattle.ice_negotiate_defs.specs.Rounds.{Past, past_of, AreAll, AreBare, AreBounded, AreDifferent, AreMoversReached, AreReachedBefore, BeginsWith, HoldOnce, IsFirstFrom, IsFirstStop, IsRound, MoveFirst, left_from}
use Rattle.ice_negotiate_defs.specs.Logs.{AllEndOverusedFrom, AreLogsFrom, AreRoutedFrom, IsFaultFrom, IsLog, IsOpeningLog, IsStop}
use Rattle.ice_negotiate_defs.specs.Tallies.{AreTalliesFrom, IsTally}
use Rattle.ice_negotiate_defs.specs.Fitting.{Fits, wholes}
use Rattle.ice_negotiate_defs.specs.declared.kept.Kept.{Kept}
use Rattle.ice_negotiate_defs.specs.declared.fault.Routed.{Routed}
use Rattle.ice_negotiate_defs.specs.declared.fault.RouteFault.{RouteFault}
use Rattle.ice_negotiate_defs.specs.declared.fault.RouteFault.TheVariants.{Unreachable, GaveUp, NoMemory}
use Rattle.ice_negotiate_defs.proofs.Fitting.{wholes_long}
use Rattle.ice_negotiate_defs.proofs.Listing.{length_push}
use Rattle.ice_negotiate_defs.proofs.Rounding.{count_low, some_same}
use Rattle.ice_words_hands.proofs.Lists.{zeros_index}
use Rattle.ice_negotiate.specs.Progress.{IsAfter, IsBefore, IsPlayed, IsReady, MoveAtFirst, Opening, last_of}
use Rattle.ice_negotiate.specs.declared.rounds.State.{State}
use Rattle.ice_negotiate.proofs.Rounding.{all_different, all_first, bare_occupied, first_reached, length_next, logs_go_on, movers_different, next_low, overused_more, rounds_more, tallies_first, tallies_more, tallies_none}
use Rattle.ice_negotiate.proofs.Keeping.{begun_long, begun_once, left_different, left_first}

none_or_some : (n : ℕ) → (n ≡ 0) ⊎ (1 ≤ n)
none_or_some zero = inl refl
none_or_some (suc n) = inr (omega arith)

-- the bounds of the round that begins from the state
pub before_bounded : (graph : Network) (nets : List Net) (round : ℕ) (state : State) → round < 64 → graph.wires ≤ 1048576 → IsReady graph nets round state → AreBounded graph (round + 1) state.prices.history.items state.prices.counts.items
before_bounded graph nets round state lt wires h =
    let long = h.long in
    let counted = h.counted in
    record {
      first = omega arith;
      last = omega arith;
      wires = wires;
      long = long;
      counted = counted;
      low = λ w. (let le = h.low w in omega arith);
    }

-- ---- the state before the first round, from what it is made of
module _ (graph : Network) (nets : List Net) (number : ℕ) (history counts : Vec ℕ Global) (moved : Vec NetNo Global) (trees : Vec Tree Global) (logs : Vec RoundLog Global) (tallies : Vec Shut Global) where
  abbrev begun : State
  begun = record { prices = record { round = number; history = history; counts = counts }; moved = moved; trees = trees; logs = logs; tallies = tallies }

  ready_first : history.items ≡ replicate graph.wires 0 → length history.items ≡ graph.wires → length counts.items ≡ graph.wires → IsOccupancy counts.items trees.items → length trees.items ≡ length nets → HoldOnce trees.items → AreDifferent nets moved.items
      → IsReady graph nets 0 begun
  ready_first h h_long c_long occupied long once different = record {
    long = h_long;
    low = λ w. (let e : slice_index history.items w ≡ 0 = ap (λ xs. slice_index xs w) h ∙ zeros_index graph.wires w in omega arith);
    counted = c_long;
    occupied = occupied;
    many = long;
    apart = once;
    different = different;
  }

  before_first : (opening : Opening) → history.items ≡ replicate graph.wires 0 → length counts.items ≡ graph.wires → IsOccupancy counts.items trees.items → MoveFirst (length nets) opening moved.items → BeginsWith opening trees.items → MoveAtFirst graph nets moved.items
      → AreLogsFrom opening [] logs.items → tallies.items ≡ [] → IsBefore graph nets opening 0 begun
  before_first opening h c_long occupied movers begins first logs_are no_tally = record {
    earlier = [];
    number = refl;
    rounds = record {
      first = λ one at. absurd (let none_there : slice_get [] 0 ≡ Some one = at in cc);
      follow = λ k one next at next_at. absurd (let none_there : slice_get [] k ≡ Some one = at in cc);
      counted = λ k one at. absurd (let none_there : slice_get [] k ≡ Some one = at in cc);
    };
    next = record {
      on = λ new news done l is. record {
        first = λ one at. subst (IsFirstFrom graph nets opening) (some_same (past_of 1 history.items moved.items new news) one at) (record {
          before = trees.items;
          begins = begins;
          counts = counts.items;
          long = c_long;
          occupied = occupied;
          number = refl;
          fresh = h;
          movers = movers;
          done = done;
        });
        follow = λ k one next at next_at. absurd (let lt = slice_get_within (past_of 1 history.items moved.items new news ∷ []) (k + 1) next next_at in omega arith);
        counted = λ k one at. only k one (past_of 1 history.items moved.items new news) at (l, is);
      };
      tallied = λ new shut tally. subst (λ ts. AreTalliesFrom graph.wires opening (past_of 1 history.items moved.items new shut.closed ∷ []) (ts ++ shut ∷ [])) (sym no_tally) (tallies_first graph.wires opening (past_of 1 history.items moved.items new shut.closed) trees.items shut begins tally);
    };
    overused = λ k one at. absurd (let none_there : slice_get [] k ≡ Some one = at in cc);
    logs = logs_are;
    tallies = subst (AreTalliesFrom graph.wires opening []) (sym no_tally) (tallies_none graph.wires opening);
    first = λ z. first;
    reached = λ le. absurd (omega arith);
  }
    where
      only : (k : ℕ) (one : Past) (past : Past) → slice_get (past ∷ []) k ≡ Some one → (length past.counts ≡ graph.wires) × IsOccupancy past.counts past.trees → (length one.counts ≡ graph.wires) × IsOccupancy one.counts one.trees
      only zero one past at h = subst (λ (x : Past). (length x.counts ≡ graph.wires) × IsOccupancy x.counts x.trees) (some_same past one at) h
      only (suc k) one past at h = absurd (cc)

  -- without an opening
  pub ready_bare : history.items ≡ replicate graph.wires 0 → counts.items ≡ replicate graph.wires 0 → AreAll (length nets) moved.items → length trees.items ≡ length nets → AreBare trees.items → length history.items ≡ graph.wires → length counts.items ≡ graph.wires
      → IsReady graph nets 0 begun
  ready_bare h c all long bare h_long c_long =
      ready_first h h_long c_long (bare_occupied graph.wires counts.items trees.items c bare) long
      (λ n tree at. subst AreOnce (sym (bare n tree at)) (λ j k v a b. absurd (let none_there : slice_get [] j ≡ Some v = a in cc))) (all_different nets moved.items all)

  pub before_bare : history.items ≡ replicate graph.wires 0 → counts.items ≡ replicate graph.wires 0 → AreAll (length nets) moved.items → AreBare trees.items → logs.items ≡ [] → tallies.items ≡ [] → length counts.items ≡ graph.wires
      → IsBefore graph nets None 0 begun
  before_bare h c all bare no_log no_tally c_long =
      before_first None h c_long (bare_occupied graph.wires counts.items trees.items c bare) all bare (all_first graph nets moved.items all)
      (record { long = ap length no_log; each = λ k past log at log_at. absurd (let none_there : slice_get [] k ≡ Some past = at in cc) }) no_tally

  -- from an opening
  pub ready_begun : (kept : List Kept) → Fits graph nets kept → history.items ≡ replicate graph.wires 0 → length history.items ≡ graph.wires → length counts.items ≡ graph.wires → IsOccupancy counts.items trees.items → moved.items ≡ left_from 0 (wholes kept)
      → BeginsWith (Some (wholes kept)) trees.items → IsReady graph nets 0 begun
  ready_begun kept fits h h_long c_long occupied left begins =
      ready_first h h_long c_long occupied (begun_long graph nets kept trees.items fits begins) (begun_once graph nets kept trees.items fits begins) (left_different nets kept moved.items fits.long left)

  pub before_begun : (kept : List Kept) (log : RoundLog) → Fits graph nets kept → history.items ≡ replicate graph.wires 0 → length counts.items ≡ graph.wires → IsOccupancy counts.items trees.items → moved.items ≡ left_from 0 (wholes kept) → BeginsWith (Some (wholes kept)) trees.items
      → IsOpeningLog (wholes kept) log → logs.items ≡ log ∷ [] → tallies.items ≡ [] → IsBefore graph nets (Some (wholes kept)) 0 begun
  before_begun kept log fits h c_long occupied left begins opened one_log no_tally =
      before_first (Some (wholes kept)) h c_long occupied (wholes_long kept ∙ fits.long, left) begins (left_first graph nets kept moved.items fits left)
      (log, [], one_log, opened, record { long = refl; each = λ k past log at log_at. absurd (let none_there : slice_get [] k ≡ Some past = at in cc) }) no_tally

-- ---- behind a round
module _ (graph : Network) (nets : List Net) (round : ℕ) (old : State) (trees : Vec Tree Global) (logs : Vec RoundLog Global) (log : RoundLog) (shut : Shut) where
  abbrev played : State
  played = record { prices = record { round = round + 1; history = old.prices.history; counts = old.prices.counts }; moved = old.moved; trees = trees; logs = logs; tallies = old.tallies }

  after_round : (opening : Opening) → IsBefore graph nets opening round old → IsRound graph nets (round + 1) old.prices.history.items old.prices.counts.items old.moved.items old.trees.items trees.items
      → IsTally graph.wires old.moved.items old.trees.items trees.items shut → logs.items ≡ old.logs.items ++ log ∷ []
      → IsLog (past_of (round + 1) old.prices.history.items old.moved.items trees.items shut.closed) log
      → AreMoversReached graph nets old.moved.items (length old.moved.items)
      → IsAfter graph nets opening round played shut
  after_round opening h done tally logs_are is_log reached =
      let last = past_of (round + 1) old.prices.history.items old.moved.items trees.items shut.closed in
      record {
        earlier = h.earlier;
        number = h.number;
        rounds = h.next.on trees.items shut.closed done (sym tally.long ∙ tally.all) tally.closed;
        overused = h.overused;
        logs = subst (AreLogsFrom opening (h.earlier ++ last ∷ [])) (sym logs_are) (logs_go_on opening h.earlier last old.logs.items log h.logs is_log);
        tallies = h.next.tallied trees.items shut tally;
        reached = elim (none_or_some round) [
          | inl z ↦ first_reached graph nets old.moved.items (h.first z) reached
          | inr le ↦ h.reached le
        ];
      }

  -- the same where the lists have other names
  pub played_by : (moved : List NetNo) (before after : List Tree) → moved ≡ old.moved.items → before ≡ old.trees.items → after ≡ trees.items → IsReady graph nets round old
      → IsRound graph nets (round + 1) old.prices.history.items old.prices.counts.items moved before after → IsTally graph.wires moved before after shut → HoldOnce after → IsPlayed graph nets round played shut
  played_by moved before after m b a h done tally apart = record {
    sound = record {
      long = h.long;
      low = h.low;
      counted = sym tally.long ∙ tally.all;
      occupied = subst (IsOccupancy shut.closed) a tally.closed;
      many = ap length (sym a) ∙ done.news;
      apart = subst HoldOnce a apart;
      different = h.different;
    };
    opened = tally.all;
    room = h.counted;
  }

  pub after_by : (moved log_moved : List NetNo) (before after log_trees : List Tree) (log_counts : List ℕ) → moved ≡ old.moved.items → before ≡ old.trees.items → after ≡ trees.items → log_moved ≡ old.moved.items → log_trees ≡ trees.items → log_counts ≡ shut.closed
      → IsRound graph nets (round + 1) old.prices.history.items old.prices.counts.items moved before after → IsTally graph.wires moved before after shut → logs.items ≡ old.logs.items ++ log ∷ []
      → IsLog (past_of (round + 1) old.prices.history.items log_moved log_trees log_counts) log
      → AreMoversReached graph nets moved (length moved)
      → (opening : Opening) → IsBefore graph nets opening round old → IsAfter graph nets opening round played shut
  after_by moved log_moved before after log_trees log_counts m b a lm lt lc done tally logs_are is_log reached opening h =
      let history = old.prices.history.items in
      let counts = old.prices.counts.items in
      after_round opening h
      (subst (λ x. IsRound graph nets (round + 1) history counts x old.trees.items trees.items) m (subst (λ x. IsRound graph nets (round + 1) history counts moved x trees.items) b (subst (λ x. IsRound graph nets (round + 1) history counts moved before x) a done)))
      (subst (λ x. IsTally graph.wires x old.trees.items trees.items shut) m (subst (λ x. IsTally graph.wires moved x trees.items shut) b (subst (λ x. IsTally graph.wires moved before x shut) a tally)))
      logs_are
      (subst (λ x. IsLog (past_of (round + 1) history x trees.items shut.closed) log) lm (subst (λ x. IsLog (past_of (round + 1) history log_moved x shut.closed) log) lt (subst (λ x. IsLog (past_of (round + 1) history log_moved log_trees x) log) lc is_log)))
      (subst (λ (x : List NetNo). AreMoversReached graph nets x (length x)) m reached)

-- ---- the state before the round that follows
module _ (graph : Network) (nets : List Net) (round number : ℕ) (old : State) (shut : Shut) (history counts : Vec ℕ Global) (moved : Vec NetNo Global) (tallies : Vec Shut Global) (risen : history.items ≡ next_history old.prices.history.items shut.closed) (counts_are : counts.items ≡ shut.closed) (movers : moved.items ≡ movers_of (round + 1) old.trees.items) where
  abbrev following : State
  following = record { prices = record { round = number; history = history; counts = counts }; moved = moved; trees = old.trees; logs = old.logs; tallies = tallies }

  pub ready_next : length nets ≤ 65536 → IsPlayed graph nets round old shut → IsReady graph nets (round + 1) following
  ready_next few h = record {
    long = ap length risen ∙ (length_next old.prices.history.items shut.closed ∙ h.sound.long);
    low = λ w.
        (let e : slice_index history.items w ≡ slice_index (next_history old.prices.history.items shut.closed) w = ap (λ xs. slice_index xs w) risen in
        let rise = next_low old.prices.history.items shut.closed w in
        let was = h.sound.low w in
        let long = h.sound.many in
        let most = count_low shut.closed old.trees.items h.sound.occupied (omega arith) w in
        omega arith);
    counted = ap length counts_are ∙ h.sound.counted;
    occupied = subst (λ cs. IsOccupancy cs old.trees.items) (sym counts_are) h.sound.occupied;
    many = h.sound.many;
    apart = h.sound.apart;
    different = movers_different (round + 1) old.trees.items nets moved.items h.sound.many movers;
  }

  pub before_next : (w : ℕ) × (1 < slice_index shut.closed w) → tallies.items ≡ old.tallies.items ++ shut ∷ [] → (opening : Opening) → IsAfter graph nets opening round old shut → IsBefore graph nets opening (round + 1) following
  before_next over tallies_are opening h =
      let last = last_of (round + 1) old shut.closed in
      let all_tallies : AreTalliesFrom graph.wires opening (h.earlier ++ last ∷ []) tallies.items = subst (AreTalliesFrom graph.wires opening (h.earlier ++ last ∷ [])) (sym tallies_are) h.tallies in
      record {
        earlier = h.earlier ++ last ∷ [];
        number = (let e = length_push h.earlier last in let n = h.number in omega arith);
        rounds = h.rounds;
        next = record {
          on = λ new news done long occupied. rounds_more graph nets opening h.earlier last (past_of (round + 1 + 1) history.items moved.items new news) h.rounds
              (record { number = refl; risen = risen; movers = movers; done = subst (λ cs. IsRound graph nets (round + 1 + 1) history.items cs moved.items old.trees.items new) counts_are done }) long occupied;
          tallied = λ new after tally. tallies_more graph.wires opening h.earlier last (past_of (round + 1 + 1) history.items moved.items new after.closed) tallies.items after all_tallies tally;
        };
        overused = overused_more h.earlier last h.overused over;
        logs = h.logs;
        tallies = all_tallies;
        first = λ z. absurd (omega arith);
        reached = λ le. h.reached;
      }

-- where no wire is overused, the nets are routed
pub routed_of : (graph : Network) (nets : List Net) (opening : Opening) (round permitted : ℕ) (state : State) (shut : Shut) (routed : Routed) → IsAfter graph nets opening round state shut → round < permitted → ((w : ℕ) → slice_index shut.closed w ≤ 1)
    → routed.trees.items ≡ state.trees.items → routed.logs.items ≡ state.logs.items → routed.tallies.items ≡ state.tallies.items ++ shut ∷ [] → AreRoutedFrom graph nets opening permitted routed
routed_of graph nets opening round permitted state shut routed h lt free trees logs tallies =
    let last = last_of (round + 1) state shut.closed in
    record {
      earlier = h.earlier;
      last = last;
      rounds = h.rounds;
      few = omega (arith, h.number, lt);
      overused = h.overused;
      free = free;
      trees = trees;
      logs = subst (AreLogsFrom opening (h.earlier ++ last ∷ [])) (sym logs) h.logs;
      tallies = subst (AreTalliesFrom graph.wires opening (h.earlier ++ last ∷ [])) (sym tallies) h.tallies;
      reached = h.reached;
    }

-- where all nets are reached no net stops
no_stop : (graph : Network) (nets : List Net) (moved : List NetNo) (net : NetNo) (sink : WireNo) → AreReachedBefore graph nets (length nets) → IsFirstStop graph nets moved net sink → ⊥
no_stop graph nets moved net sink reached s =
    let cause = s.cause in
    cause.4 (reached net.0 s.net (slice_get_within nets net.0 s.net s.is) s.is cause.0 cause.1 cause.2)

pub stop_fault : (graph : Network) (nets : List Net) (round : ℕ) (state : State) (fault : RouteFault) → IsStop graph nets state.moved.items fault → (opening : Opening) (permitted : ℕ) → IsBefore graph nets opening round state → IsFaultFrom graph nets opening permitted fault
stop_fault graph nets round state (Unreachable net sink) s opening permitted h = elim (none_or_some round) [
  | inr le ↦ absurd (no_stop graph nets state.moved.items net sink (h.reached le) s)
  | inl z ↦
      (let first = h.first z in
      record {
        the_net = s.net;
        at = s.is;
        cause = s.cause;
        earlier = λ j other less at. elim (first.others j other at) [
          | inl moves ↦ s.earlier moves.0 (record { 0 = j }) other (first.rise moves.0 s.place (record { 0 = j }) net moves.1 s.at less) moves.1 at
          | inr reached ↦ reached
        ];
      })
]
stop_fault graph nets round state (GaveUp logs tallies) s opening permitted h = absurd s
stop_fault graph nets round state NoMemory s opening permitted h = record {}

-- permitted rounds that all ended with an overused wire
pub gave_up : (graph : Network) (nets : List Net) (opening : Opening) (round permitted : ℕ) (state : State) → IsBefore graph nets opening round state → round ≡ permitted → 1 ≤ permitted → AllEndOverusedFrom graph nets opening permitted state.logs.items state.tallies.items
gave_up graph nets opening round permitted state h all some_of = record {
  past = h.earlier;
  rounds = h.rounds;
  all = h.number ∙ all;
  overused = h.overused;
  logs_of = h.logs;
  tallies_of = h.tallies;
  reached = h.reached (omega arith);
}
