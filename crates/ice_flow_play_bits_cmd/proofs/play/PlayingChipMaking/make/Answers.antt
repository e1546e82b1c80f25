use Rattle.std.proofs.Common.{◌∷◌}
use Rattle.ice_chip.specs.Views.{package_view}
use Rattle.ice_flow_frame.specs.Texts.{text_at}
use Rattle.ice_flow_frame.proofs.Refusing.{memory_refused}
use Rattle.ice_flow_chip_frame.proofs.OneText.{one_is}
use Rattle.ice_flow_play_bits_cmd.specs.Played.{LevelsStand, IsPlayed}
use Rattle.ice_flow_play_bits_cmd.proofs.play.PlayingChipMaking.make.Goals as goal

pub returns-in-Ok-play_chip-clause-given : goal.returns-in-Ok-play_chip-clause-given
returns-in-Ok-play_chip-clause-given c = λ name chip_text is.
    let texts = chip_text ∷ c.args.texts.now in
    let text = c.in-Ok-play_chip.text.items in
    let played : IsPlayed name texts text = record {
      parts = c.args.chip.now;
      configuration = c.args.circuit.now.configuration;
      bonded = package_view c.args.bonded.now;
      levels = c.in-Ok.levels;
      is_configured = is;
      levels_are = rw (c.at.ensures, c.len.ensures.len) at c.in-Ok.ensures.gives;
      is_text = rw c.as_slice.ensures.keys at c.in-Ok-play_chip.ensures;
    } in
    one_is (IsPlayed name texts) text c.made_text.result played c.made_text.ensures.text c.made_text.ensures.arrangement c.made_text.ensures.told

pub returns-in-Ok-play_chip-clause-refused : goal.returns-in-Ok-play_chip-clause-refused
returns-in-Ok-play_chip-clause-refused c = λ name chip_text is.
    memory_refused (LevelsStand (text_at (chip_text ∷ c.args.texts.now) 3) (package_view c.args.bonded.now)) c.made_text.result c.made_text.ensures.stop
