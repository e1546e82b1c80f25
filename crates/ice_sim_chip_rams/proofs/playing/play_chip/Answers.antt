use Rattle.std.proofs.Common.{List, ap, ◌∙◌}
use Rattle.ice_chip_rams.specs.declared.ram_site.RamSite.{RamSite}
use Rattle.ice_bits.specs.Configuration.{Configuration, bits_of}
use Rattle.ice_decode.specs.Rams.{rams}
use Rattle.ice_sim_levels.specs.DriveTexts.{drives_text}
use Rattle.ice_sim_chip_rams.specs.ClosedChips.{shown_with}
use Rattle.ice_sim_chip_rams.proofs.playing.play_chip.Goals as goal

pub returns : goal.returns
returns c =
    c.in_ok-text.ensures
    ∙ ap (λ (sites : List RamSite). drives_text (shown_with c.args.chip.now c.args.circuit.now.configuration sites c.args.bonded.now c.args.bonded.now c.args.levels.now))
    (c.deref.ensures.value ∙ c.in_ok-sites.ensures ∙ ap (λ (k : Configuration). rams c.args.chip.now (bits_of k)) c.bits.ensures)
