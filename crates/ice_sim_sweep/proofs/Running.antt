-- One step of a compiled netlist is one step of its meaning.
use Rattle.std.proofs.Common.{◌≡◌, ℕ, ◌+◌, ◌<◌, ◌≤◌, Bool, true, false, List, [], ◌∷◌, ◌++◌, length, map, replicate, Option, refl, ap, sym, ◌∙◌, subst, arith, length-append, append_assoc, append-nil}
use Rattle.std.specs.List.{flat_map}
use Rattle.std.proofs.lemmas.List.{get_or-replicate, get_or_append_left, length-replicate, length-map}
use Rattle.std.proofs.Math.Seq.{get_or-append_seam}
use Rattle.ice_base_values.specs.Order.{At}
use Rattle.ice_base_values.specs.System.{machine_shows}
use Rattle.ice_net.specs.declared.cell.Cell.{Cell}
use Rattle.ice_net.specs.declared.driver.Drive.{Drive}
use Rattle.ice_net.specs.NetlistData.{NetlistData}
use Rattle.ice_net.specs.Drives.{port_drive}
use Rattle.ice_net.specs.Meaning.{State, step, start, signal_value, kept_after}
use Rattle.ice_sim_sweep.specs.declared.parts.Memory.{Memory}
use Rattle.ice_sim_sweep.specs.declared.parts.Feed.{Feed}
use Rattle.ice_sim_sweep.specs.declared.parts.Feed.TheVariants.{Nothing, Port as FromPort, Kept, Made}
use Rattle.ice_sim_sweep.specs.declared.plan.SweepPlan.{SweepPlan}
use Rattle.ice_sim_levels.specs.DriveTexts.{drives_line, drives_text}
use Rattle.ice_sim_sweep.specs.Slots.{level_at}
use Rattle.ice_sim_sweep.specs.Feeds.{feed_of, port_in, kept_in, linked, gate_in, tap_of}
use Rattle.ice_sim_sweep.specs.Sweeps.{blank, kept_levels, copied, made, tap_drive, remembered}
use Rattle.ice_sim_sweep.specs.Plans.{IsPlan, IsBetweenSteps, IsRun, state_of, swept}
use Rattle.ice_sim_sweep.specs.Arrays.{feed_level}
use Rattle.ice_sim_sweep.proofs.Copying.{copy_long, copy_behind, copy_other, copy_done}
use Rattle.ice_sim_sweep.proofs.Settling.{AreSettled, all_made, values_are}
use Rattle.ice_sim_sweep.proofs.Showing.{all_drive}
use Rattle.ice_sim_sweep.proofs.Remembering.{state_with, followed, all_follow, kept_is, clocks_are, memories_after, memories_blank, kept_blank, clocks_blank}

module _ (n : NetlistData) (plan : SweepPlan) (levels : List Bool) (memories : List Memory) (values : List Bool) (p : IsPlan n plan) (b : IsBetweenSteps n memories values) where
  abbrev ports_of : ℕ → Option ℕ
  ports_of s = port_in (feed_of n s)

  abbrev keeps_of : ℕ → Option ℕ
  keeps_of s = kept_in (feed_of n s)

  abbrev kept : List Bool
  kept = kept_levels memories

  -- the array with the levels of ports
  abbrev first : List Bool
  first = copied (flat_map (λ s. linked s (ports_of s)) p.order) levels values

  -- and then with what flip-flops keep
  abbrev second : List Bool
  second = copied (flat_map (λ s. linked s (keeps_of s)) p.order) kept first

  first_long : length first ≡ length n.names + 2
  first_long = copy_long ports_of levels p.order values ∙ b.long

  second_long : length second ≡ length n.names + 2
  second_long = copy_long keeps_of kept p.order first ∙ first_long

  behind : (t : ℕ) → length n.names ≤ t → level_at second t ≡ level_at values t
  behind t le =
      let below : (j s : ℕ) → At p.order j s → s < t = λ j s at. let lt = p.ordered.within j s at in omega arith in
      copy_behind keeps_of kept p.order t below first ∙ copy_behind ports_of levels p.order t below values

  source : (s : ℕ) → s < length n.names → (f : Feed) → feed_of n s ≡ f → gate_in f ≡ [] → level_at second s ≡ feed_level levels kept second f
  source s lt Nothing e none =
      copy_other keeps_of kept p.order s (ap kept_in e) first ∙ copy_other ports_of levels p.order s (ap port_in e) values ∙ b.unfed s lt e
  source s lt (FromPort k) e none =
      let at = p.ordered.each s lt in
      copy_other keeps_of kept p.order s (ap kept_in e) first
      ∙ copy_done ports_of levels p.order at.0 s k at.1 (ap port_in e) values (let long = b.long in omega arith)
  source s lt (Kept i) e none =
      let at = p.ordered.each s lt in
      copy_done keeps_of kept p.order at.0 s i at.1 (ap kept_in e) first (let long = first_long in omega arith)
  source s lt (Made gate) e none = cc

  settled : AreSettled n levels kept p.order 0 second
  settled = record {
    filled = λ j q lt at. absurd (omega arith);
    sources = λ s lt none. source s lt (feed_of n s) refl none;
    zero_is = behind (length n.names) (omega arith) ∙ b.zero;
    one_is = behind (length n.names + 1) (omega arith) ∙ b.one;
    long = second_long;
  }

  abbrev third : List Bool
  third = made (flat_map (λ s. gate_in (feed_of n s)) p.order) second

  done : AreSettled n levels kept p.order (length p.order) third
  done = all_made n levels kept p.order p.formed p.ordered second settled

  third_is : swept plan levels memories values ≡ third
  third_is =
      ap (λ gates. made gates (copied plan.keeps.items kept (copied plan.pads.items levels values))) p.wired.gates_are
      ∙ ap (λ links. made (flat_map (λ s. gate_in (feed_of n s)) p.order) (copied links kept (copied plan.pads.items levels values))) p.wired.keeps_are
      ∙ ap (λ links. made (flat_map (λ s. gate_in (feed_of n s)) p.order) (copied (flat_map (λ s. linked s (keeps_of s)) p.order) kept (copied links levels values))) p.wired.pads_are

  abbrev v : ℕ → Bool
  v s = signal_value n levels kept s

  agree : (s : ℕ) → s < length n.names → v s ≡ level_at third s
  agree s lt = values_are n levels kept p.order p.formed p.ordered third done s lt

  out_is : map (tap_drive third) plan.taps.items ≡ map (port_drive n.cells v) n.ports
  out_is = ap (map (tap_drive third)) p.taps_are ∙ all_drive n p.formed v third agree done.zero_is done.one_is

  memories_are : remembered plan.keepers.items third memories ≡ followed v n.cells memories
  memories_are =
      ap (λ keepers. remembered keepers third memories) p.keepers_are
      ∙ all_follow v third (length n.names) agree done.zero_is done.one_is n.cells memories p.formed.cells b.remembers

  state_is : state_of (followed v n.cells memories) ≡ (step n (state_of memories) levels).0
  state_is =
      ap (λ l. state_with l (map (λ (memory : Memory). memory.clock) (followed v n.cells memories))) (kept_is v n.cells memories b.remembers)
      ∙ ap (λ l. state_with (kept_after v n.cells (state_of memories)) l) (clocks_are v n.cells memories b.remembers)

  between : IsBetweenSteps n (followed v n.cells memories) third
  between = record {
    remembers = memories_after v n.cells memories b.remembers;
    long = done.long;
    zero = done.zero_is;
    one = done.one_is;
    unfed = λ s lt e. done.sources s lt (ap gate_in e) ∙ ap (feed_level levels kept third) e;
  }

-- ---- what the code knows after a step
module _ (n : NetlistData) (plan : SweepPlan) (levels : List Bool) (memories next : List Memory) (values after : List Bool) (run : IsRun n plan memories values)
    (after_is : after ≡ swept plan levels memories values) (next_is : next ≡ remembered plan.keepers.items after memories) where
  after_last : after ≡ third n plan levels memories values run.planned run.between
  after_last = after_is ∙ third_is n plan levels memories values run.planned run.between

  next_follows : next ≡ followed (v n plan levels memories values run.planned run.between) n.cells memories
  next_follows = next_is ∙ ap (λ l. remembered plan.keepers.items l memories) after_last ∙ memories_are n plan levels memories values run.planned run.between

  pub run_after : IsRun n plan next after
  run_after = record {
    planned = run.planned;
    between = rw (next_follows, after_last) (between n plan levels memories values run.planned run.between);
  }

  pub state_after : state_of next ≡ (step n (state_of memories) levels).0
  state_after = ap state_of next_follows ∙ state_is n plan levels memories values run.planned run.between

  pub out_after : (out : List Drive) → out ≡ map (tap_drive after) plan.taps.items → out ≡ (step n (state_of memories) levels).1
  out_after out is = is ∙ ap (λ l. map (tap_drive l) plan.taps.items) after_last ∙ out_is n plan levels memories values run.planned run.between

  pub taps_long : length plan.taps.items ≡ length n.ports
  taps_long = ap length run.planned.taps_are ∙ length-map n.ports (tap_of n)

-- ---- the start
still : (signals s : ℕ) → s < signals + 1 → level_at (replicate (signals + 1) false ++ true ∷ []) s ≡ false
still signals s lt =
    let long : length (replicate (signals + 1) false) ≡ signals + 1 = length-replicate (signals + 1) false in
    get_or_append_left (replicate (signals + 1) false) (true ∷ []) false s (omega arith) ∙ get_or-replicate (signals + 1) s false false lt

last_one : (signals : ℕ) → level_at (replicate (signals + 1) false ++ true ∷ []) (signals + 1) ≡ true
last_one signals =
    let long : length (replicate (signals + 1) false) ≡ signals + 1 = length-replicate (signals + 1) false in
    subst (λ k. level_at (replicate (signals + 1) false ++ true ∷ []) k ≡ true) long (get_or-append_seam (replicate (signals + 1) false) true [] false)

pub run_start : (n : NetlistData) (plan : SweepPlan) → IsPlan n plan → IsRun n plan (replicate (length n.cells) blank) (replicate (length n.names + 1) false ++ true ∷ [])
run_start n plan p = record {
  planned = p;
  between = record {
    remembers = memories_blank n.cells;
    long = (let a = length-append (replicate (length n.names + 1) false) (true ∷ []) in let b = length-replicate (length n.names + 1) false in omega arith);
    zero = still (length n.names) (length n.names) (omega arith);
    one = last_one (length n.names);
    unfed = λ s lt e. still (length n.names) s (omega arith);
  };
}

abbrev state_of_lists : List Bool → List (Option Bool) → State
state_of_lists levels clocks = record { kept = levels; clocks = clocks }

pub state_start : (n : NetlistData) → state_of (replicate (length n.cells) blank) ≡ start n
state_start n =
    ap (λ l. state_of_lists l (map (λ (memory : Memory). memory.clock) (replicate (length n.cells) blank))) (kept_blank n.cells)
    ∙ ap (λ l. state_of_lists (map (λ (cell : Cell). false) n.cells) l) (clocks_blank n.cells)

-- ---- steps in a row
-- one line more was told
pub told_more : (n : NetlistData) (run next : NetlistData × State) (levels : List Bool) (left rest : List (List Bool)) (text longer all : List ℕ) → run.0 ≡ n → left ≡ levels ∷ rest
    → next ≡ (run.0, (step run.0 run.1 levels).0) → longer ≡ text ++ drives_line (step run.0 run.1 levels).1
    → all ≡ text ++ drives_text (machine_shows (step n) run.1 left) → all ≡ longer ++ drives_text (machine_shows (step n) next.1 rest)
told_more n run next levels left rest text longer all run_is left_is next_is longer_is told =
    let line : text ++ drives_line (step n run.1 levels).1 ≡ longer = sym (longer_is ∙ ap (λ (m : NetlistData). text ++ drives_line (step m run.1 levels).1) run_is) in
    let state : (step n run.1 levels).0 ≡ next.1 = sym (ap (λ (r : NetlistData × State). r.1) next_is ∙ ap (λ (m : NetlistData). (step m run.1 levels).0) run_is) in
    told
    ∙ ap (λ l. text ++ drives_text (machine_shows (step n) run.1 l)) left_is
    ∙ sym (append_assoc text (drives_line (step n run.1 levels).1) (drives_text (machine_shows (step n) (step n run.1 levels).0 rest)))
    ∙ ap (λ t. t ++ drives_text (machine_shows (step n) (step n run.1 levels).0 rest)) line
    ∙ ap (λ s. longer ++ drives_text (machine_shows (step n) s rest)) state

-- all was told
pub told_all : (n : NetlistData) (state : State) (left : List (List Bool)) (text all : List ℕ) → left ≡ [] → all ≡ text ++ drives_text (machine_shows (step n) state left) → text ≡ all
told_all n state left text all none told = sym (told ∙ ap (λ l. text ++ drives_text (machine_shows (step n) state l)) none ∙ append-nil text)
