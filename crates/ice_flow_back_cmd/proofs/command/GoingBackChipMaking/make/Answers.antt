use Rattle.std.proofs.Common.{◌∷◌}
use Rattle.ice_chip.specs.Views.{package_view}
use Rattle.ice_flow_frame.specs.Commands.{IsDone}
use Rattle.ice_flow_frame.proofs.Refusing.{memory_refused}
use Rattle.ice_flow_chip_frame.proofs.OneText.{one_is}
use Rattle.ice_flow_back_cmd.specs.Headline.{IsShown}
use Rattle.ice_flow_back_cmd.specs.Made.{IsNetlistOfBits}
use Rattle.ice_flow_back_cmd.proofs.Making.{is_listed}
use Rattle.ice_flow_back_cmd.proofs.command.GoingBackChipMaking.make.Goals as goal

pub back_text-requires-clause-listed : goal.back_text-requires-clause-listed
back_text-requires-clause-listed c =
    is_listed c.args.chip.now c.requires.configured.0 (package_view c.args.bonded.now) c.requires.configured.2.is_packed.is_package

pub back_text-requires-clause-words : goal.back_text-requires-clause-words
back_text-requires-clause-words c =
    let is = c.requires.configured.2 in
    let rows = package_view c.args.bonded.now in
    c.pins_are_words.ensures c.requires.configured.1 c.args.chip.now is.is_packed.is_read.is_chip rows
    (is_listed c.args.chip.now c.requires.configured.0 rows is.is_packed.is_package)

pub returns-in-Ok-clause-given : goal.returns-in-Ok-clause-given
returns-in-Ok-clause-given c = λ name chip_text is.
    let texts = chip_text ∷ c.args._texts.now in
    let text = c.in-Ok.text.items in
    let shown : IsShown name texts text = record {
      parts = c.args.chip.now;
      configuration = c.args.circuit.now.configuration;
      bonded = package_view c.args.bonded.now;
      is_configured = is;
      says = c.in-Ok.ensures.says;
    } in
    one_is (IsNetlistOfBits name texts) text c.made_text.result (record { is_shown = shown; is_text = c.in-Ok.ensures.text })
    c.made_text.ensures.text c.made_text.ensures.arrangement c.made_text.ensures.told

pub returns-in-Ok-clause-refused : goal.returns-in-Ok-clause-refused
returns-in-Ok-clause-refused c = λ name chip_text is. memory_refused IsDone c.made_text.result c.made_text.ensures.stop
