-- Texts of delays: for each of seven words one line of the word and its delay, in any order.
use Rattle.std.specs.Prelude.{ℕ, List, [], ◌∷◌, Option, Some, None, Result, Ok, Err, option_map, is_some, if◌then◌else◌, codes}
use Rattle.std.specs.Option.{option_and_then}
use Rattle.std.specs.Str.{bytes_eq}
use Rattle.ice_base.specs.Text.{lines, numbered, words, uncommented, number_below}
use Rattle.ice_timing_delays.specs.declared.delays.Delays.{Delays}
use Rattle.ice_timing_delays.specs.declared.known.Known.{Known}
use Rattle.ice_timing_delays.specs.declared.word.Word.{Word}
use Rattle.ice_timing_delays.specs.declared.word.Word.TheVariants.{PadIn, PadOut, Switch, Lut, Carry, ClockToQ, Setup}
use Rattle.ice_timing_delays.specs.declared.fault.DelayFault.{DelayFault}
use Rattle.ice_timing_delays.specs.declared.fault.DelayFault.TheVariants.{BadLine}

-- which of the seven words it is
abbrev pub word_of : List ℕ → Option Word
word_of word =
    if bytes_eq word (codes "pad_in") then Some PadIn
    else (if bytes_eq word (codes "pad_out") then Some PadOut
    else (if bytes_eq word (codes "switch") then Some Switch
    else (if bytes_eq word (codes "lut") then Some Lut
    else (if bytes_eq word (codes "carry") then Some Carry
    else (if bytes_eq word (codes "clock_to_q") then Some ClockToQ
    else (if bytes_eq word (codes "setup") then Some Setup
    else None))))))

-- ---- the delays that the lines so far have given
abbrev pub none_known : Known
none_known = record { pad_in = None; pad_out = None; switch = None; lut = None; carry = None; clock_to_q = None; setup = None }

abbrev pub delay_of : Known → Word → Option ℕ
delay_of known PadIn = known.pad_in
delay_of known PadOut = known.pad_out
delay_of known Switch = known.switch
delay_of known Lut = known.lut
delay_of known Carry = known.carry
delay_of known ClockToQ = known.clock_to_q
delay_of known Setup = known.setup

abbrev pub with_delay : Word → ℕ → Known → Known
with_delay PadIn delay known = record known { pad_in = Some delay }
with_delay PadOut delay known = record known { pad_out = Some delay }
with_delay Switch delay known = record known { switch = Some delay }
with_delay Lut delay known = record known { lut = Some delay }
with_delay Carry delay known = record known { carry = Some delay }
with_delay ClockToQ delay known = record known { clock_to_q = Some delay }
with_delay Setup delay known = record known { setup = Some delay }

-- the delays, where all seven are there
abbrev pub delays_in : Known → Option Delays
delays_in known =
    option_and_then (λ pad_in. option_and_then (λ pad_out. option_and_then (λ switch. option_and_then (λ lut. option_and_then (λ carry. option_and_then (λ clock_to_q. option_map (λ setup.
    record { pad_in = pad_in; pad_out = pad_out; switch = switch; lut = lut; carry = carry; clock_to_q = clock_to_q; setup = setup })
    known.setup) known.clock_to_q) known.carry) known.lut) known.switch) known.pad_out) known.pad_in

-- ---- lines
-- the delay of a word that has none yet
abbrev pub with_new : Known → Word → ℕ → Option Known
with_new known word delay = if is_some (delay_of known word) then None else Some (with_delay word delay known)

-- one of the seven words for the first time, and a number of at most 1,000,000
abbrev pub word_says : Known → List ℕ → List ℕ → Option Known
word_says known word number = option_and_then (λ w. option_and_then (with_new known w) (number_below 1000001 number)) (word_of word)

-- what there is, or a refusal of the line
abbrev pub or_refusal : {A : Type 0} → ℕ → Option A → Result A DelayFault
or_refusal number None = Err (BadLine number)
or_refusal number (Some value) = Ok value

-- what is known with what the words of a line give: no words, or a word and its delay
abbrev pub words_say : ℕ → Known → List (List ℕ) → Result Known DelayFault
words_say number known [] = Ok known
words_say number known (word ∷ []) = Err (BadLine number)
words_say number known (word ∷ delay ∷ []) = or_refusal number (word_says known word delay)
words_say number known (word ∷ delay ∷ other ∷ words) = Err (BadLine number)

-- the same by the words of the line before its comment
abbrev pub line_says : Known → ℕ × List ℕ → Result Known DelayFault
line_says known line = words_say line.0 known (uncommented (words line.1))

-- the refusal, or what follows
infixl 10 ◌>>=◌
abbrev pub ◌>>=◌ : {A B : Type 0} → Result A DelayFault → (A → Result B DelayFault) → Result B DelayFault
(Ok value) >>= next = next value
(Err fault) >>= next = Err fault

-- what is known with what lines give, or the first line that is refused
abbrev pub lines_say : Known → List (ℕ × List ℕ) → Result Known DelayFault
lines_say known [] = Ok known
lines_say known (line ∷ lines) = line_says known line >>= (λ more. lines_say more lines)

-- What a text of delays says: all seven, or the first line that is refused; it is line 0 where only a word is missing.
abbrev pub delays_of : List ℕ → Result Delays DelayFault
delays_of text = lines_say none_known (numbered 1 (lines text)) >>= (λ known. or_refusal 0 (delays_in known))
