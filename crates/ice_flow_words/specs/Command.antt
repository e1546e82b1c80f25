-- The command of the program, as the promises of `clap` see a command.
use Rattle.std.specs.Prelude.{◌-◌, ◌^◌, ℕ, true, false, Some, List, [], ◌∷◌, ◌++◌, codes}
use Rattle.clap.specs.Words.{App, Rule, Shape, Text, new_rule}
use Rattle.clap.specs.Simple.{new_shape}
use Rattle.clap.specs.declared.builder.action.ArgAction.TheVariants.{Set}
use Rattle.clap.specs.declared.builder.value_parser.ValueParser.TheVariants.{Unsigned}

-- a word that has to be given, in its place
abbrev pub place : Text → Rule
place id = record (new_rule id) { required = true; action = Some Set }

-- the same for a number from the least to the most
abbrev pub number_place : Text → ℕ → ℕ → Rule
number_place id least most = record (place id) { parser = Some (Unsigned least most) }

-- an option for the name of a file
abbrev pub file_option : Text → Rule
file_option id = record (new_rule id) { long = Some id; action = Some Set }

-- an option for a number from the least to the most, and what stands for it where it is not given
abbrev pub number_option : Text → ℕ → ℕ → Text → Rule
number_option id least most usual = record (file_option id) { parser = Some (Unsigned least most); defaults = usual ∷ [] }

abbrev pub most_number : ℕ
most_number = 2 ^ 64 - 1

abbrev pub most_rounds : ℕ
most_rounds = 64

abbrev pub most_workers : ℕ
most_workers = 8

abbrev pub workers_option : Rule
workers_option = number_option (codes "workers") 1 most_workers (codes "2")

-- a subcommand, with its arguments
abbrev pub subcommand : Text → List Rule → Shape
subcommand name rules = record (new_shape name) { rules = rules }

abbrev pub build_places : List Rule
build_places = place (codes "CHIP") ∷ place (codes "PACKAGE") ∷ place (codes "PCF") ∷ place (codes "BLIF") ∷ place (codes "ASC") ∷ []

abbrev pub build_options : List Rule
build_options = file_option (codes "pins") ∷ file_option (codes "report") ∷ number_option (codes "seed") 0 most_number (codes "1")
    ∷ number_option (codes "rounds") 1 most_rounds (codes "64") ∷ workers_option ∷ number_option (codes "opening") 0 1 (codes "0") ∷ []

abbrev pub build_command : Shape
build_command = subcommand (codes "build") (build_places ++ build_options)

abbrev pub back_command : Shape
back_command = subcommand (codes "back") (place (codes "CHIP") ∷ place (codes "PACKAGE") ∷ place (codes "ASC") ∷ place (codes "BLIF") ∷ [])

abbrev pub play_net_command : Shape
play_net_command = subcommand (codes "play-net") (place (codes "BLIF") ∷ place (codes "LEVELS") ∷ [])

abbrev pub play_bits_command : Shape
play_bits_command = subcommand (codes "play-bits") (place (codes "CHIP") ∷ place (codes "PACKAGE") ∷ place (codes "ASC") ∷ place (codes "LEVELS") ∷ [])

abbrev pub time_command : Shape
time_command = subcommand (codes "time") (place (codes "CHIP") ∷ place (codes "PACKAGE") ∷ place (codes "ASC") ∷ place (codes "DELAYS") ∷ [])

abbrev pub sample_command : Shape
sample_command = subcommand (codes "sample") (number_place (codes "NUMBER") 0 most_number ∷ workers_option ∷ [])

-- a command that has no subcommand
abbrev pub alone : Shape → App
alone shape = record { top = shape; subs = [] }

-- the words begin after the program's name, and a subcommand has to be given
abbrev pub bare_command : Shape
bare_command = record (new_shape (codes "tefitsundra")) { no_binary_name = true; subcommand_required = true }

-- the command, with its six subcommands
abbrev pub command : App
command = record {
  top = record bare_command { is_leaf = false };
  subs = build_command ∷ back_command ∷ play_net_command ∷ play_bits_command ∷ time_command ∷ sample_command ∷ [];
}
