-- The ports of a netlist in which the ends of carry chains stand in their runs want of their pads what they wanted before.
use Rattle.std.proofs.Common.{◌≡◌, ℕ, Some, List, length, map, refl}
use Rattle.ice_base.proofs.Booleans.{both_true}
use Rattle.ice_net.specs.declared.cell.Cell.{Cell}
use Rattle.ice_net.specs.declared.port.Port.{Port}
use Rattle.ice_net.specs.Formed.{IsFormed}
use Rattle.ice_net.specs.NetlistData.{NetlistData}
use Rattle.ice_cells.specs.declared.root.Root.TheVariants.{PadIn}
use Rattle.ice_cells.specs.Readings.{is_read}
use Rattle.ice_cells.specs.Runs.{design_of}
use Rattle.ice_pads.specs.Wants.{wants}
use Rattle.ice_pads.proofs.SameWants.{bare_shape, kind_shape, shape_by, wants_alike}
use Rattle.ice_pack_laws.proofs.PadReaders.{read_back, read_there}
use Rattle.ice_pack_laws.proofs.PadsRead.{unread, is_there, there_is}
use Rattle.ice_carry_tails.specs.Tails.{tail_names, read_behind}
use Rattle.ice_carry_tails.specs.Ends.{tables_of, tailed}
use Rattle.ice_carry_tails.proofs.Added.{Ins}
use Rattle.ice_carry_tails.proofs.Ended.{can_take}
use Rattle.ice_carry_tails.proofs.NewDrivers.{buffer_same}
use Rattle.ice_carry_tails.proofs.Taken.{in_use}
use Rattle.ice_pads_tails_laws.proofs.NewReaders.{by_place, reads_new, reads_old, tables_read}

-- ---- pads that are read

module _ (n : NetlistData) (formed : IsFormed n) (after : IsFormed (tailed n)) where
  abbrev names : List (List ℕ)
  names = tail_names n.names (length (tables_of n))

  abbrev lists : List Ins
  lists = map (read_behind n.cells) (tables_of n)

  abbrev count : ℕ
  count = length n.names

  abbrev new : NetlistData
  new = tailed n

  same_read : (k : ℕ) → is_read (unread new) (PadIn k) ≡ is_read (unread n) (PadIn k)
  same_read k =
      both_true (is_read (unread new) (PadIn k)) (is_read (unread n) (PadIn k))
      (λ e. there_is n k (read_there n k formed (reads_old n names lists formed k (tables_read n (tables_of n) formed (can_take n) k) (in_use n (tables_of n) formed (can_take n)).below (read_back new k (is_there new k e)))))
      (λ e. there_is new k (read_there new k after (reads_new n names lists formed k (read_back n k (is_there n k e)))))

  same_kind : (m : ℕ) (port : Port) (i : ℕ) → shape_by new.cells m port (Some i) ≡ shape_by n.cells m port (Some i)
  same_kind m port i = by_place n names lists formed 0 (λ (cell : Cell). kind_shape m port cell.kind) (bare_shape m port) (λ out ins. refl) i

  pub wants_same : wants (design_of new) ≡ wants (design_of n)
  wants_same = wants_alike n new same_read (λ s. buffer_same n names lists s) same_kind refl
