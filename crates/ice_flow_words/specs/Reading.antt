-- What words ask for: what is made of the rows of words that the command's arguments found.
use Rattle.std.specs.Prelude.{ℕ, Bool, Option, Some, None, List, if◌then◌else◌, codes, nat_eq}
use Rattle.std.specs.Str.{bytes_eq}
use Rattle.std.specs.Str.Parse.{digits_value, without_leading_plus}
use Rattle.clap.specs.Words.{Row, Text, fault_of, first_of, subcommand_of}
use Rattle.clap.specs.Walk.{is_empty}
use Rattle.clap.specs.ValueTests.{is_unsigned_in}
use Rattle.ice_flow_words.specs.Command.{command, most_number, most_rounds, most_workers}
use Rattle.ice_flow_words.specs.Requests.{Back, PlayNet, PlayBits, Time, Sample, Asked, ForBuild, ForBack, ForPlayNet, ForPlayBits, ForTime, ForSample}
use Rattle.ice_flow_words.specs.BuildRequest.{Build}

-- what the second makes of what the first gives, where it gives anything
infixl 10 ◌>>=◌
abbrev pub ◌>>=◌ : {X Y : Type 0} → Option X → (X → Option Y) → Option Y
(Some x) >>= f = f x
None >>= f = None

-- the number that a text writes, where it is one from the least to the most
abbrev pub number_in : ℕ → ℕ → Text → Option ℕ
number_in least most text = if is_unsigned_in least most text then Some (digits_value 10 (without_leading_plus text)) else None

-- the number that was found for an argument
abbrev pub number_of : Text → ℕ → ℕ → List Row → Option ℕ
number_of id least most rows = first_of id rows >>= number_in least most

abbrev pub workers_of : List Row → Option ℕ
workers_of rows = number_of (codes "workers") 1 most_workers rows

-- what was found for each subcommand
abbrev pub build_of : List Row → Option Build
build_of rows =
    first_of (codes "CHIP") rows >>= (λ chip.
    first_of (codes "PACKAGE") rows >>= (λ name.
    first_of (codes "PCF") rows >>= (λ pcf.
    first_of (codes "BLIF") rows >>= (λ blif.
    first_of (codes "ASC") rows >>= (λ asc.
    number_of (codes "seed") 0 most_number rows >>= (λ seed.
    number_of (codes "rounds") 1 most_rounds rows >>= (λ rounds.
    workers_of rows >>= (λ workers.
    number_of (codes "opening") 0 1 rows >>= (λ opening.
    Some (record {
      chip = chip;
      package_name = name;
      pcf = pcf;
      blif = blif;
      asc = asc;
      pins = first_of (codes "pins") rows;
      report = first_of (codes "report") rows;
      seed = seed;
      rounds = rounds;
      workers = workers;
      opening = nat_eq opening 1;
    }))))))))))

abbrev pub back_of : List Row → Option Back
back_of rows =
    first_of (codes "CHIP") rows >>= (λ chip.
    first_of (codes "PACKAGE") rows >>= (λ name.
    first_of (codes "ASC") rows >>= (λ asc.
    first_of (codes "BLIF") rows >>= (λ blif.
    Some (record { chip = chip; package_name = name; asc = asc; blif = blif })))))

abbrev pub play_net_of : List Row → Option PlayNet
play_net_of rows =
    first_of (codes "BLIF") rows >>= (λ blif.
    first_of (codes "LEVELS") rows >>= (λ levels.
    Some (record { blif = blif; levels = levels })))

abbrev pub play_bits_of : List Row → Option PlayBits
play_bits_of rows =
    first_of (codes "CHIP") rows >>= (λ chip.
    first_of (codes "PACKAGE") rows >>= (λ name.
    first_of (codes "ASC") rows >>= (λ asc.
    first_of (codes "LEVELS") rows >>= (λ levels.
    Some (record { chip = chip; package_name = name; asc = asc; levels = levels })))))

abbrev pub time_of : List Row → Option Time
time_of rows =
    first_of (codes "CHIP") rows >>= (λ chip.
    first_of (codes "PACKAGE") rows >>= (λ name.
    first_of (codes "ASC") rows >>= (λ asc.
    first_of (codes "DELAYS") rows >>= (λ delays.
    Some (record { chip = chip; package_name = name; asc = asc; delays = delays })))))

abbrev pub sample_of : List Row → Option Sample
sample_of rows =
    number_of (codes "NUMBER") 0 most_number rows >>= (λ number.
    workers_of rows >>= (λ workers.
    Some (record { number = number; workers = workers })))

-- what a subcommand asks for, with what was found for it
abbrev pub asked_of : Text → List Row → Option Asked
asked_of name rows = if bytes_eq name (codes "build") then build_of rows >>= (λ b. Some (ForBuild b))
    else (if bytes_eq name (codes "back") then back_of rows >>= (λ b. Some (ForBack b))
    else (if bytes_eq name (codes "play-net") then play_net_of rows >>= (λ p. Some (ForPlayNet p))
    else (if bytes_eq name (codes "play-bits") then play_bits_of rows >>= (λ p. Some (ForPlayBits p))
    else (if bytes_eq name (codes "time") then time_of rows >>= (λ t. Some (ForTime t))
    else (if bytes_eq name (codes "sample") then sample_of rows >>= (λ s. Some (ForSample s)) else None)))))

-- the same of the subcommand that was found
abbrev pub asked_in : Option (Text × List Row) → Option Asked
asked_in found = found >>= (λ p. asked_of p.0 p.1)

-- the command takes the words after the program's name: no step of reading them fails, as a call for help does
abbrev pub is_taken : List Text → Bool
is_taken words = is_empty (fault_of command words)

-- what words ask for, where the command takes them
abbrev pub request_of : List Text → Option Asked
request_of words = if is_taken words then asked_in (subcommand_of command words) else None
