use Rattle.std.proofs.Common.{◌∷◌, sym}
use Rattle.ice_chip.specs.Views.{package_view}
use Rattle.ice_flow_frame.specs.Texts.{text_at}
use Rattle.ice_flow_frame.proofs.Refusing.{memory_refused}
use Rattle.ice_flow_chip_frame.proofs.OneText.{one_is}
use Rattle.ice_flow_time_cmd.specs.Timings.{DelaysStand, IsTimed}
use Rattle.ice_flow_time_cmd.proofs.Standing.{delays_refused}
use Rattle.ice_flow_time_cmd.proofs.timing.TimingChipMaking.make.Goals as goal

pub returns-in-Ok-longest_text-clause-given : goal.returns-in-Ok-longest_text-clause-given
returns-in-Ok-longest_text-clause-given c = λ name chip_text is.
    let texts = chip_text ∷ c.args.texts.now in
    let text = c.in-Ok-longest_text.text.items in
    let timed : IsTimed name texts text = record {
      parts = c.args.chip.now;
      configuration = c.args.circuit.now.configuration;
      bonded = package_view c.args._bonded.now;
      delays = c.in-Ok.delays;
      is_configured = is;
      delays_are = sym (rw c.at.ensures at c.in-Ok.ensures);
      is_longest = c.in-Ok-longest_text.ensures;
    } in
    one_is (IsTimed name texts) text c.made_text.result timed c.made_text.ensures.text c.made_text.ensures.arrangement c.made_text.ensures.told

pub returns-in-Ok-longest_text-clause-refused : goal.returns-in-Ok-longest_text-clause-refused
returns-in-Ok-longest_text-clause-refused c = λ name chip_text is.
    memory_refused (DelaysStand (text_at (chip_text ∷ c.args.texts.now) 3) (package_view c.args._bonded.now)) c.made_text.result c.made_text.ensures.stop

pub returns-in-Err-clause-refused : goal.returns-in-Err-clause-refused
returns-in-Err-clause-refused c = λ name chip_text is.
    delays_refused (text_at (chip_text ∷ c.args.texts.now) 3) (package_view c.args._bonded.now) c.in-Err.fault c.delays_refusal.result (sym (rw c.at.ensures at c.in-Err.ensures)) c.delays_refusal.ensures
