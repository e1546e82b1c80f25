-- A packed design keeps to what the laws of runs ask.
use Rattle.ice_net.specs.Formed as netlist
use Rattle.ice_net.specs.NetlistData.{NetlistData}
use Rattle.ice_check.specs.Sound.{IsSound}
use Rattle.ice_cells.specs.declared.root.Root.TheVariants.{PadIn, CellOut, GlobalOut, CarryOut}
use Rattle.ice_cells.specs.Meaning.{HasValues}
use Rattle.ice_cells.specs.Packed.{packed}
use Rattle.ice_carry_chains.specs.Before.{IsBeforeRuns}
use Rattle.ice_carry_laws.specs.FormedBefore.{IsFormedBefore}
use Rattle.ice_carry_laws.specs.RunLaws.{ReadsWithin}
use Rattle.ice_carry_form_laws.proofs.PackedCells.{unchained}
use Rattle.ice_carry_form_laws.proofs.PackedCarries.{said_once, said_of_cells, cells_said}
use Rattle.ice_carry_form_laws.proofs.PackedPads.{ports_stand, reads_tell, pads_are}
use Rattle.ice_carry_form_laws.proofs.PackedReads.{is_there_read}
use Rattle.ice_carry_form_laws.proofs.PackedResets.{resets_missing}

pub is_before : (n : NetlistData) → HasValues (packed n) → IsBeforeRuns (packed n)
is_before n values = record {
  once = λ i j x y at also same. said_once n i j x y at also same;
  there = λ c has. said_of_cells n c has;
  listed = λ c cell at has. cells_said n c cell at has;
  read = λ k has. is_there_read n (CarryOut k) has;
  unchained = λ c cell at. unchained n c cell at;
  values = values;
}

pub reads_within : (n : NetlistData) → ReadsWithin (packed n)
reads_within n = record {
  inputs = λ k has. is_there_read n (PadIn k) has;
  outputs = λ c has. is_there_read n (CellOut c) has;
  buffers = λ g has. is_there_read n (GlobalOut g) has;
}

pub is_formed : (n : NetlistData) → netlist.IsFormed n → IsSound n → IsFormedBefore (packed n)
is_formed n formed sound = record {
  ports = λ k pad at. ports_stand n k pad at;
  reads = λ k pad at. reads_tell n k pad at;
  pads = λ k pad at. pads_are n sound k pad at;
  resets = λ c cell control at e. resets_missing n formed c cell control at e;
}
