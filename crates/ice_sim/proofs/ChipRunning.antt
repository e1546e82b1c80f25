-- One step of a compiled chip is one step of its meaning.
use Rattle.std.proofs.Common.{◌≡◌, ℕ, suc, ◌+◌, ◌≤◌, Bool, false, List, [], ◌∷◌, ◌++◌, length, map, replicate, All, refl, ap, sym, ◌∙◌, subst, arith, length-append}
use Rattle.std.proofs.lemmas.List.{get_or-replicate, length-replicate, length-map, get_or-append-add}
use Rattle.ice_chip.specs.Database.{Parts}
use Rattle.ice_chip.specs.declared.rows.Pad.{Pad}
use Rattle.ice_bits.specs.Configuration.{Bits}
use Rattle.ice_net.specs.declared.driver.Drive.{Drive}
use Rattle.ice_decode.specs.declared.point.Point.{Point}
use Rattle.ice_decode.specs.Pads.{stores}
use Rattle.ice_decode.specs.Meaning.{point_level, drive_at, chip_step}
use Rattle.ice_sim_sweep.specs.declared.parts.Memory.{Memory}
use Rattle.ice_sim_sweep.specs.declared.parts.Feed.{Feed}
use Rattle.ice_sim_sweep.specs.declared.parts.Feed.TheVariants.{Nothing}
use Rattle.ice_sim_sweep.specs.declared.plan.SweepPlan.{SweepPlan}
use Rattle.ice_sim_sweep.specs.Feeds.{port_in, kept_in}
use Rattle.ice_sim_sweep.specs.Sweeps.{blank, kept_levels, copied, made, tap_drive, remembered}
use Rattle.ice_sim_sweep.specs.Plans.{ArePartsWithin, IsLinkWithin, IsGateWithin, IsTapWithin, IsKeeperWithin, state_of, swept}
use Rattle.ice_sim_sweep.specs.Arrays.{feed_level, Obeys, AreFed, links_from, gates_from}
use Rattle.ice_sim.specs.Layouts.{feeds_from, output_feed, taps_from}
use Rattle.ice_sim.specs.ChipRuns.{IsChipPlan, IsChipRun}
use Rattle.ice_sim_sweep.proofs.Arrays.{third_long, swept_obeys}
use Rattle.ice_sim.proofs.Laying.{IsLaid, all_laid, obeys_left}
use Rattle.ice_sim.proofs.ChipLevels.{Holds, pads_are}
use Rattle.ice_sim.proofs.ChipStates.{followed, all_follow, state_is, kept_next, kept_blank, kept_long}
use Rattle.ice_sim.proofs.ChipBounds.{fed_append, stores_fed, outputs_fed, ports_within, keeps_within, gates_within, taps_within, keepers_within}

-- ---- the plan
module _ (parts : Parts) (bits : Bits) (extras : List (ℕ × ℕ × ℕ)) (bonded : List Pad) (feeds : List Feed) (plan : SweepPlan) (p : IsChipPlan parts bits extras bonded feeds plan) where
  abbrev ports : ℕ
  ports = length bonded

  abbrev count : ℕ
  count = length (stores parts)

  abbrev first : ℕ
  first = length p.layout.feeds

  -- what feeds the slots of the stores
  abbrev own : List Feed
  own = feeds_from parts bits bonded p.layout.slots (length p.layout.feeds) (stores parts)

  -- and those of the pads
  abbrev outputs : List Feed
  outputs = map (output_feed parts bits) bonded

  is_laid : IsLaid parts bits extras bonded p.order (length p.order) p.layout
  is_laid = subst (IsLaid parts bits extras bonded p.order (length p.order)) (sym p.laid_out) (all_laid parts bits extras bonded p.order p.ordered)

  feeds_are : feeds ≡ (p.layout.feeds ++ own) ++ outputs
  feeds_are = p.feeds_are ∙ ap (λ fs. (p.layout.feeds ++ fs) ++ outputs) p.own_are

  are_fed : AreFed ports count 0 feeds
  are_fed =
      let laid_ = is_laid in
      let e : 0 + length p.layout.feeds ≡ length p.layout.feeds = omega arith in
      subst (AreFed ports count 0) (sym feeds_are)
      (fed_append ports count (p.layout.feeds ++ own) outputs 0
      (fed_append ports count p.layout.feeds own 0 laid_.fed
      (subst (λ k. AreFed ports count k own) (sym e)
      (stores_fed parts bits extras bonded p.layout.slots first laid_.some laid_.low (stores parts) first (omega arith))))
      (outputs_fed parts bits extras bonded p.layout.slots first laid_.some laid_.low bonded (0 + length (p.layout.feeds ++ own))))

  feeds_long : length feeds ≡ length p.layout.feeds + length own + length bonded
  feeds_long =
      let whole = ap length feeds_are in
      let both = length-append (p.layout.feeds ++ own) outputs in
      let front = length-append p.layout.feeds own in
      let back = length-map bonded (output_feed parts bits) in
      omega arith

  -- the parts stay within the pads, the stores and the slots
  pub parts_within : (of_ports of_stores slots : ℕ) → of_ports ≡ length bonded → of_stores ≡ length (stores parts) → slots ≡ length feeds → ArePartsWithin of_ports of_stores slots plan
  parts_within of_ports of_stores slots same_ports same_stores same_slots =
      let laid_ = is_laid in
      let long = feeds_long in
      let front = length-append p.layout.feeds own in
      let behind = length-append p.layout.feeds p.own in
      let same = ap length p.own_are in
      let fit : length feeds ≤ length feeds = omega arith in
      let room : length p.layout.feeds ≤ length feeds = omega arith in
      rw (same_ports, same_stores, same_slots) record {
        pads_within = subst (All (IsLinkWithin ports (length feeds))) (sym p.wired.pads_are) (ports_within ports count (length feeds) feeds are_fed fit);
        keeps_within = subst (All (IsLinkWithin count (length feeds))) (sym p.wired.keeps_are) (keeps_within ports count (length feeds) feeds are_fed fit);
        gates_within = subst (All (IsGateWithin (length feeds))) (sym p.wired.gates_are) (gates_within ports count (length feeds) feeds are_fed fit);
        taps_within = subst (All (IsTapWithin (length feeds))) (sym p.taps_are)
            (taps_within parts bits extras bonded p.layout.slots first laid_.some laid_.low (length feeds) room bonded (length (p.layout.feeds ++ p.own)) (omega arith));
        keepers_within = subst (All (IsKeeperWithin count (length feeds))) (sym p.keepers_are)
            (keepers_within parts bits extras bonded p.layout.slots first laid_.some laid_.low count (length feeds) room (stores parts) 0 first (omega arith) (omega arith));
      }

  -- ---- one step
  module _ (levels : List Bool) (memories : List Memory) (values : List Bool) (run : IsChipRun parts bits extras bonded feeds plan memories values) where
    abbrev kept : List Bool
    kept = kept_levels memories

    abbrev last : List Bool
    last = made (gates_from feeds) (copied (links_from kept_in 0 feeds) kept (copied (links_from port_in 0 feeds) levels values))

    all_kept : length kept ≡ length (stores parts)
    all_kept = length-map memories (λ (memory : Memory). memory.kept) ∙ kept_long parts bits (stores parts) memories run.remembers

    swept_is : swept plan levels memories values ≡ last
    swept_is =
        ap (λ gates. made gates (copied plan.keeps.items kept (copied plan.pads.items levels values))) p.wired.gates_are
        ∙ ap (λ links. made (gates_from feeds) (copied links kept (copied plan.pads.items levels values))) p.wired.keeps_are
        ∙ ap (λ links. made (gates_from feeds) (copied (links_from kept_in 0 feeds) kept (copied links levels values))) p.wired.pads_are

    obeys : Obeys feeds levels kept last
    obeys = swept_obeys ports count feeds levels kept values are_fed run.long run.unfed

    obeys_all : Obeys ((p.layout.feeds ++ own) ++ outputs) levels kept last
    obeys_all = subst (λ fs. Obeys fs levels kept last) feeds_are obeys

    obeys_stores : Obeys (p.layout.feeds ++ own) levels kept last
    obeys_stores = obeys_left (p.layout.feeds ++ own) outputs levels kept last obeys_all

    obeys_first : Obeys p.layout.feeds levels kept last
    obeys_first = obeys_left p.layout.feeds own levels kept last obeys_stores

    -- feeds that are obeyed are those of the slots from 0 on
    behind : (front more : List Feed) → Obeys (front ++ more) levels kept last → Holds levels kept last (length front) more
    behind front more obeyed = λ s lt.
        obeyed.each (length front + s) (let long = length-append front more in omega arith)
        ∙ ap (feed_level levels kept last) (get_or-append-add front more s Nothing)

    holds : Holds levels kept last first own
    holds = behind p.layout.feeds own obeys_stores

    holds_outputs : Holds levels kept last (length (p.layout.feeds ++ p.own)) outputs
    holds_outputs = subst (λ fs. Holds levels kept last (length (p.layout.feeds ++ fs)) outputs) (sym p.own_are) (behind (p.layout.feeds ++ own) outputs obeys_all)

    abbrev v : Point → Bool
    v = point_level parts bits extras bonded levels kept

    out_is : map (tap_drive last) plan.taps.items ≡ map (drive_at parts bits kept v) bonded
    out_is =
        ap (map (tap_drive last)) p.taps_are
        ∙ pads_are parts bits extras bonded p.order p.ordered p.chip.read p.layout is_laid levels kept last all_kept obeys_first bonded (length (p.layout.feeds ++ p.own)) holds_outputs

    memories_are : remembered plan.keepers.items last memories ≡ followed parts bits bonded levels v (stores parts) memories
    memories_are =
        ap (λ keepers. remembered keepers last memories) p.keepers_are
        ∙ all_follow parts bits extras bonded p.order p.ordered p.chip.read p.layout is_laid levels kept last all_kept obeys_first memories first run.remembers holds

    module _ (next : List Memory) (after : List Bool) (after_is : after ≡ swept plan levels memories values) (next_is : next ≡ remembered plan.keepers.items after memories) where
      after_last : after ≡ last
      after_last = after_is ∙ swept_is

      next_follows : next ≡ followed parts bits bonded levels v (stores parts) memories
      next_follows = next_is ∙ ap (λ l. remembered plan.keepers.items l memories) after_last ∙ memories_are

      last_run : IsChipRun parts bits extras bonded feeds plan (followed parts bits bonded levels v (stores parts) memories) last
      last_run = record {
        planned = run.planned;
        remembers = kept_next parts bits bonded levels v (stores parts) memories run.remembers;
        long = third_long ports count feeds levels kept values are_fed run.long run.unfed;
        unfed = λ s lt e. obeys.each s lt ∙ ap (feed_level levels kept last) e;
      }

      pub run_after : IsChipRun parts bits extras bonded feeds plan next after
      run_after = rw (next_follows, after_last) last_run

      pub state_after_is : state_of next ≡ (chip_step parts bits extras bonded bonded (state_of memories) levels).0
      state_after_is = ap state_of next_follows ∙ state_is parts bits bonded levels v memories run.remembers

      pub out_after : (out : List Drive) → out ≡ map (tap_drive after) plan.taps.items → out ≡ (chip_step parts bits extras bonded bonded (state_of memories) levels).1
      out_after out is = is ∙ ap (λ l. map (tap_drive l) plan.taps.items) after_last ∙ out_is

  pub taps_long : length plan.taps.items ≡ length bonded
  taps_long = ap length p.taps_are ∙ many bonded (length (p.layout.feeds ++ p.own))
    where
      many : (pads : List Pad) (n : ℕ) → length (taps_from parts bits p.layout.slots n pads) ≡ length pads
      many [] n = refl
      many (pad ∷ pads) n = ap suc (many pads (suc n))

  -- ---- the start
  pub run_start : IsChipRun parts bits extras bonded feeds plan (replicate (length (stores parts)) blank) (replicate (length feeds) false)
  run_start = record {
    planned = p;
    remembers = kept_blank parts bits (stores parts);
    long = length-replicate (length feeds) false;
    unfed = λ s lt e. get_or-replicate (length feeds) s false false lt;
  }
