use Rattle.std.proofs.Common.{◌≡◌, ℕ, false, refl, List, length, map, replicate, ◌++◌, ap, ◌∙◌}
use Rattle.ice_bits.specs.Configuration.{bits_of}
use Rattle.ice_decode.specs.Pads.{stores}
use Rattle.ice_sim_sweep.specs.declared.parts.Feed.{Feed}
use Rattle.ice_sim.specs.Layouts.{layout_of, keepers_from, feeds_from, output_feed, taps_from}
use Rattle.ice_sim.proofs.chip_plan.compile_configured.Goals as goal
use Rattle.ice_sim.proofs.chip_plan.compile_configured.Goals.{In_ok-plan}

-- what feeds the slots of the stores
abbrev own_of : (c : In_ok-plan) → List Feed
own_of c =
    feeds_from c.args.configured.now.parts (bits_of c.args.configured.now.configuration) c.args.configured.now.bonded c.in_ok-slots.slots.items (length c.in_ok-slots.feeds.items) (stores c.args.configured.now.parts)

fed : (c : In_ok-plan) → c.keepers.new.feeds.items ≡ c.in_ok-slots.feeds.items ++ own_of c
fed c =
    c.in_ok-keepers.ensures.feeds
    ∙ ap (λ (slots : List ℕ). c.in_ok-slots.feeds.items
    ++ feeds_from c.args.configured.now.parts (bits_of c.args.configured.now.configuration) c.args.configured.now.bonded slots (length c.in_ok-slots.feeds.items) (stores c.args.configured.now.parts)) c.deref.ensures.value

pub returns : goal.returns
returns c =
    let a = (goal.at.returns c).In_ok-plan in
    record {
      feeds = c.plan_of.new.feeds.items;
      planned = record {
        chip = c.in_ok-slots.ensures.chip;
        order = c.args.order.now;
        ordered = c.requires.order;
        layout = layout_of c.in_ok-slots.slots.items c.in_ok-slots.feeds.items;
        laid_out = c.in_ok-slots.ensures.layout;
        own = own_of a;
        own_are = refl;
        feeds_are = c.in_ok-plan.ensures.feeds ∙ ap (λ (feeds : List Feed). feeds ++ map (output_feed c.args.configured.now.parts (bits_of c.args.configured.now.configuration)) c.args.configured.now.bonded) (fed a);
        wired = c.in_ok-plan.ensures.wired;
        keepers_are = c.in_ok-plan.ensures.keepers
            ∙ c.in_ok-keepers.ensures.keepers
            ∙ ap (λ (slots : List ℕ). keepers_from c.args.configured.now.parts (bits_of c.args.configured.now.configuration) c.args.configured.now.bonded slots 0 (length c.in_ok-slots.feeds.items)
            (stores c.args.configured.now.parts)) c.deref.ensures.value;
        taps_are = c.in_ok-plan.ensures.taps
            ∙ ap (λ (slots : List ℕ). taps_from c.args.configured.now.parts (bits_of c.args.configured.now.configuration) slots (length c.keepers.new.feeds.items) c.args.configured.now.bonded) c.deref-2.ensures.value
            ∙ ap (λ (feeds : List Feed). taps_from c.args.configured.now.parts (bits_of c.args.configured.now.configuration) c.in_ok-slots.slots.items (length feeds) c.args.configured.now.bonded) (fed a);
      };
      empty = c.in_ok-values.ensures ∙ ap (λ (n : ℕ). replicate n false) (c.len.ensures ∙ c.plan_of.new.feeds.ok.0);
    }
