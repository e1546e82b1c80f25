use Rattle.std.proofs.Common.{◌≡◌, Bool, List, sym, ap, ◌∙◌, subst}
use Rattle.std.proofs.lemmas.Result.{IfOk-weaker}
use Rattle.ice_bits.specs.Configuration.{bits_of}
use Rattle.ice_net.specs.Meaning as nets
use Rattle.ice_net.specs.NetlistData.{NetlistData}
use Rattle.ice_check.specs.Sound.{IsSound}
use Rattle.ice_decode.specs.Meaning.{bits_show}
use Rattle.ice_back_laws.specs.Back.{back_netlist}
use Rattle.ice_back_points.specs.ConfiguredChips.{ConfiguredData, IsConfigured}
use Rattle.ice_back.proofs.making.back.Goals as goal

pub returns-clause-sound : goal.returns-clause-sound
returns-clause-sound c =
    let d : ConfiguredData = c.in_ok-configured.configured in
    let is : IsConfigured d = c.tiles.ensures.configured in
    IfOk-weaker c.filled.result (λ netlist. netlist ≡ back_netlist d.parts (bits_of d.configuration) d.configuration.extras d.bonded) (λ netlist. IsSound netlist)
    (λ netlist e. subst (λ (n : NetlistData). IsSound n) (sym e) (c.netlist_is_sound.ensures d.parts (bits_of d.configuration) d.configuration.extras d.bonded is.chip is.faultless is.listed))
    c.filled.ensures

pub returns-clause-shows : goal.returns-clause-shows
returns-clause-shows c =
    let d : ConfiguredData = c.in_ok-configured.configured in
    let is : IsConfigured d = c.tiles.ensures.configured in
    IfOk-weaker c.filled.result (λ netlist. netlist ≡ back_netlist d.parts (bits_of d.configuration) d.configuration.extras d.bonded)
    (λ netlist. (levels : List (List Bool)) → nets.shows netlist levels
    ≡ bits_show c.args.chip.now (bits_of c.args.circuit.now.configuration) c.args.circuit.now.configuration.extras c.args.«package».now.pads.keys c.args.«package».now.pads.keys levels)
    (λ netlist e levels. ap (λ (n : NetlistData). nets.shows n levels) e
    ∙ c.netlist_shows_what_bits_show.ensures d.parts (bits_of d.configuration) d.configuration.extras d.bonded is.chip is.faultless is.listed levels
    ∙ ap (λ (s : ConfiguredData). bits_show s.parts (bits_of s.configuration) s.configuration.extras s.bonded.pads s.bonded.pads levels) c.in_ok-configured.ensures)
    c.filled.ensures
