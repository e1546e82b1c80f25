use Rattle.std.proofs.Common.{rules, ◌≡◌, ◌∙◌, length, ap, sym, subst}
use Rattle.std.proofs.lemmas.List.{nil_from_length}
use Rattle.ice_net.specs.NetlistData.{NetlistData}
use Rattle.ice_check.specs.Sound.{IsSound}
use Rattle.ice_check_promote.specs.Filling.{filled}
use Rattle.ice_check_promote.specs.Promoted.{promoted_clocks, promoted}
use Rattle.ice_check_promote.proofs.NewNames.{can_take}
use Rattle.ice_check_promote.proofs.Unpromoted.{unpromoted}
use Rattle.ice_check_promote.proofs.promoting.promoted_copy.Goals as goal

pub returns-then-is_empty-clause-netlist : goal.returns-then-is_empty-clause-netlist
returns-then-is_empty-clause-netlist c =
    let n = c.args.sound.now in
    let same = c.netlist-netlist.ensures.netlist in
    let zero : length c.in_ok-clocks.clocks.items ≡ 0 = search rules in
    unpromoted n c.args.outer.now c.args.free c.in_ok-clocks.clocks.items (c.in_ok-clocks.ensures ∙ ap (λ m. promoted_clocks m c.args.free) same) (nil_from_length c.in_ok-clocks.clocks.items zero)

pub with_buffers-requires : goal.with_buffers-requires
with_buffers-requires c =
    let n = c.args.sound.now in
    let same = c.netlist-netlist.ensures.netlist in
    let clocks = c.in_ok-clocks.ensures ∙ ap (λ m. promoted_clocks m c.args.free) same in
    rw (same, clocks) (can_take n c.args.outer.now c.args.free c.is_sound.ensures.formed c.is_sound.ensures.single c.requires)

pub check_sound-requires : goal.check_sound-requires
check_sound-requires c =
    let n = c.args.sound.now in
    let same = c.netlist-netlist.ensures.netlist in
    let clocks = c.in_ok-clocks.ensures ∙ ap (λ m. promoted_clocks m c.args.free) same in
    let made : c.in_ok-made.made ≡ promoted n c.args.outer.now c.args.free =
    c.in_ok-made.ensures
    ∙ ap (λ (m : NetlistData). filled m c.args.outer.now c.in_ok-clocks.clocks.items) same
    ∙ ap (filled n c.args.outer.now) clocks in
    subst IsSound (sym made) c.laws_of_promoted.ensures.sound
