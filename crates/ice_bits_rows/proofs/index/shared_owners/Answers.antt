use Rattle.std.proofs.Common.{All, true, ◌≡◌, sym, subst}
use Rattle.ice_bits_rows.specs.Owners.{is_within}
use Rattle.ice_bits_rows.proofs.ApartGroups.{share_nothing}
use Rattle.ice_bits_rows.proofs.Blocks.{groups_within}
use Rattle.ice_bits_rows.proofs.index.shared_owners.Goals as goal

pub owners_of-requires : goal.owners_of-requires
owners_of-requires c =
    subst (λ groups. All (λ g. All (λ b. is_within b ≡ true) g.bits) groups) (sym c.groups.ensures)
    (groups_within c.args.chip.now.width c.args.chip.now.height c.args.chip.now.groups c.is_chip.ensures.read.group_forms)

pub returns-then-branch-clause-nothing : goal.returns-then-branch-clause-nothing
returns-then-branch-clause-nothing c = λ none. share_nothing c.args.chip.now (c.in_ok-are_apart.ensures c.if-branch.true)
