-- What a text of pin constraints says: its constraints, or the first fault in it.
use Rattle.std.specs.Prelude.{ℕ, Bool, true, false, ◌||◌, List, [], ◌∷◌, Option, Some, None, Result, Ok, Err, if◌then◌else◌, codes}
use Rattle.std.specs.Str.{bytes_eq}
use Rattle.ice_base.specs.Text.{lines, numbered, words, begins_with, uncommented}
use Rattle.ice_pcf.specs.declared.constraint.Constraint.{Constraint}
use Rattle.ice_pcf.specs.declared.constraint.Options.{Options}
use Rattle.ice_pcf.specs.declared.fault.PcfFault.{PcfFault}
use Rattle.ice_pcf.specs.declared.fault.PcfFault.TheVariants.{UnknownWord, Missing, Extra}

-- the first fault of two parts in order: that of the first part, else that of the second, which may use the first's value
infixl 10 ◌>>=◌
abbrev pub ◌>>=◌ : {A B : Type 0} → Result A PcfFault → (A → Result B PcfFault) → Result B PcfFault
(Ok value) >>= next = next value
(Err fault) >>= next = Err fault

-- before its first option a line is strict, and says nothing of the pull-up
abbrev pub no_options : Options
no_options = record { lenient = false; pullup = None }

abbrev pub with_lenient : Options → Options
with_lenient options = record { lenient = true; pullup = options.pullup }

-- of several pull-ups the last counts
abbrev pub with_pullup : Bool → Options → Options
with_pullup pullup options = record { lenient = options.lenient; pullup = Some pullup }

-- behind the name stands the pin, which may be any word, and nothing more
abbrev pub pin_says : ℕ → Options → List ℕ → List (List ℕ) → Result Constraint PcfFault
pin_says line options name [] = Err (Missing line)
pin_says line options name (pin ∷ []) = Ok (record { line = line; name = name; pin = pin; lenient = options.lenient; pullup = options.pullup })
pin_says line options name (pin ∷ extra ∷ ws) = Err (Extra line)

abbrev pub is_lenient_option : List ℕ → Bool
is_lenient_option word = bytes_eq word (codes "--warn-no-port") || bytes_eq word (codes "-nowarn")

-- OPTIONS NAME PIN, where the options so far say `options`. Directly behind `-pullup` its value is due; 45 is `-`
abbrev pub set_io_says : ℕ → (value_due : Bool) → Options → List (List ℕ) → Result Constraint PcfFault
set_io_says line value_due options [] = Err (Missing line)
set_io_says line true options (w ∷ ws) =
    if bytes_eq w (codes "yes") then set_io_says line false (with_pullup true options) ws
    else (if bytes_eq w (codes "no") then set_io_says line false (with_pullup false options) ws
    else Err (UnknownWord line))
set_io_says line false options (w ∷ ws) =
    if bytes_eq w (codes "-pullup") then set_io_says line true options ws
    else (if is_lenient_option w then set_io_says line false (with_lenient options) ws
    else (if begins_with 45 w then Err (UnknownWord line)
    else pin_says line options w ws))

-- what the words of a line say: no constraint, one, or a fault
abbrev pub words_say : ℕ → List (List ℕ) → Result (Option Constraint) PcfFault
words_say line [] = Ok None
words_say line (w ∷ ws) =
    if bytes_eq w (codes "set_frequency") then Ok None
    else (if bytes_eq w (codes "set_io") then set_io_says line false no_options ws >>= (λ constraint. Ok (Some constraint))
    else Err (UnknownWord line))

-- what a line says by its words before the comment
abbrev pub pin_line_says : ℕ × List ℕ → Result (Option Constraint) PcfFault
pin_line_says line = words_say line.0 (uncommented (words line.1))

abbrev pub with_constraint : Option Constraint → List Constraint → List Constraint
with_constraint None constraints = constraints
with_constraint (Some constraint) constraints = constraint ∷ constraints

-- what numbered lines say: their constraints in order, or the first fault
abbrev pub pin_lines_say : List (ℕ × List ℕ) → Result (List Constraint) PcfFault
pin_lines_say [] = Ok []
pin_lines_say (line ∷ lines) = pin_line_says line >>= (λ constraint. pin_lines_say lines >>= (λ constraints. Ok (with_constraint constraint constraints)))

-- what a text says: its constraints in the order of its lines, or the first fault
abbrev pub pin_text_says : List ℕ → Result (List Constraint) PcfFault
pin_text_says text = pin_lines_say (numbered 1 (lines text))
