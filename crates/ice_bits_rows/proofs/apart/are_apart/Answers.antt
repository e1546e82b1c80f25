use Rattle.std.proofs.Common.{◌≡◌, ◌+◌, ◌++◌, [], ◌∷◌, All, true, map, take, sym, subst}
use Rattle.ice_chip.specs.Views.{group_view}
use Rattle.ice_chip.specs.declared.sections.Group.{Group}
use Rattle.ice_bits_rows.specs.Apart.{AreApart, HasMet}
use Rattle.ice_bits_rows.specs.Owners.{is_within}
use Rattle.ice_bits_rows.proofs.Blocks.{bits_at, groups_within}
use Rattle.ice_bits_rows.proofs.ApartGroups.{apart_more}
use Rattle.ice_bits_rows.proofs.Marking.{views_more}
use Rattle.ice_bits_rows.proofs.apart.are_apart.Goals as goal

pub meet-requires-clause-bits : goal.meet-requires-clause-bits
meet-requires-clause-bits c =
    let all = groups_within c.args.chip.now.width c.args.chip.now.height c.args.chip.now.groups c.is_chip.ensures.read.group_forms in
    let these = subst (λ gs. All (λ g. All (λ b. is_within b ≡ true) g.bits) gs) (sym c.groups-group-items.ensures) all in
    subst (λ (g : Group). All (λ b. is_within b ≡ true) g.bits.items) (sym c.group-item.is) (bits_at c.groups-group-items.result.now c.loop-group.group-index c.group-item.result these c.loop-group-test.true)

pub loop-group-preserved : goal.loop-group-preserved
loop-group-preserved c =
    let groups = c.groups-group-items.result.now in
    let i = c.loop-group.group-index in
    let so_far = map group_view (take i groups) in
    let g = group_view c.group-item.result in
    let h = c.loop-group.invariant in
    let more : map group_view (take (i + 1) groups) ≡ so_far ++ g ∷ [] = views_more groups i c.group-item.result c.loop-group-test.true c.group-item.is in
    let met = c.in_ok-meet.ensures c.if-not-branch.false so_far h.met in
    record {
      met = subst (λ gs. HasMet c.args.chip.now gs c.meet.new.met) (sym more) met.1;
      apart = subst (λ gs. AreApart c.args.chip.now gs) (sym more) (apart_more c.args.chip.now so_far g h.apart met.0);
    }
