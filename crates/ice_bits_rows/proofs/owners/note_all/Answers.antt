use Rattle.std.proofs.Common.{◌≡◌, List, All, true, map, sym, subst, ap, ◌∙◌, arith}
use Rattle.std.specs.Prelude.{◌||◌}
use Rattle.std.proofs.lemmas.List.{at_drop_all}
use Rattle.ice_base.proofs.Booleans.{or_false}
use Rattle.ice_chip.specs.Views.{group_view}
use Rattle.ice_chip.specs.declared.sections.Group.{Group}
use Rattle.ice_bits_rows.specs.Bundles.{is_of_other}
use Rattle.ice_bits_rows.specs.Owners.{owner_at, is_other, is_within}
use Rattle.ice_bits_rows.proofs.Blocks.{bits_at}
use Rattle.ice_bits_rows.proofs.Passing.{group_noted}
use Rattle.ice_bits_rows.proofs.owners.note_all.Goals as goal

pub returns : goal.returns
returns c = λ t b w.
    sym (or_false (is_other w (owner_at c.loop-group.owners t b)))
    ∙ ap (λ z. is_other w (owner_at c.loop-group.owners t b) || z) (sym (at_drop_all (λ (gs : List Group). is_of_other (map group_view gs) t w b) c.args.groups.now c.loop-group.group-index (omega arith)))
    ∙ c.loop-group.invariant.held t b w

pub note_group-requires-clause-bits : goal.note_group-requires-clause-bits
note_group-requires-clause-bits c =
    subst (λ (g : Group). All (λ b. is_within b ≡ true) g.bits.items) (sym c.group-item.is) (bits_at c.args.groups.now c.loop-group.group-index c.group-item.result c.requires.bits c.loop-group-test.true)

pub loop-group-init : goal.loop-group-init
loop-group-init c = record {
  even = c.requires.even;
  held = λ t b w. ap (λ o. is_other w o || is_of_other (map group_view c.args.groups.now) t w b) (c.requires.none t b);
}

pub loop-group-preserved : goal.loop-group-preserved
loop-group-preserved c = record {
  even = c.in_ok-note_group.ensures.even;
  held = λ t b w.
      group_noted c.args.groups.now c.loop-group.group-index c.group-item.result t b w (is_other w (owner_at c.loop-group.owners t b)) (is_other w (owner_at c.note_group.new.owners t b)) c.loop-group-test.true
      c.group-item.is (c.in_ok-note_group.ensures.held t b w)
      ∙ c.loop-group.invariant.held t b w;
}
