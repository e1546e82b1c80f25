-- The command `sample`: it reads no file.
use Rattle.std.specs.Prelude.{[]}
use Rattle.ice_flow_frame.specs.Commands.{Command, command_of, Aloud}
use Rattle.ice_flow_frame.specs.Texts.{text_at}
use Rattle.ice_flow_sample_cmd.specs.Made.{IsSampled}
use Rattle.ice_flow_sample_cmd.specs.Samples.{Sample}
use Rattle.ice_flow_sample_cmd.specs.Standing.{StandsForSample}

abbrev pub sample : Sample → Command
sample s = command_of [] (λ texts. StandsForSample s.number) (λ texts made. IsSampled s.number (text_at made 1)) Aloud
