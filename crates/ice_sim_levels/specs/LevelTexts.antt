-- Level texts: for each step one line of one word, which has a digit for each port.
use Rattle.std.specs.Prelude.{◌≡◌, ℕ, Bool, true, false, ◌==◌, ◌&&◌, nat_lt, List, [], ◌∷◌, ◌++◌, length, map, Option, Some, None, Result, Ok, Err, if◌then◌else◌}
use Rattle.ice_base.specs.Text.{lines, numbered, words, uncommented}
use Rattle.ice_base.specs.Lists.{all_known}
use Rattle.ice_sim_levels.specs.declared.fault.LevelFault.{LevelFault}
use Rattle.ice_sim_levels.specs.declared.fault.LevelFault.TheVariants.{BadLine, NoMemory}

-- the level that a digit writes; 48 is `0` and 49 is `1`
abbrev pub digit_level : ℕ → Option Bool
digit_level digit = if digit == 48 then Some false else (if digit == 49 then Some true else None)

-- these levels and then those, if they are there
abbrev pub levels_and : List Bool → Option (List Bool) → Option (List Bool)
levels_and levels None = None
levels_and levels (Some others) = Some (levels ++ others)

-- the levels that a word writes, where it has one digit for each port; without ports no word is accepted
abbrev pub word_levels : ℕ → List ℕ → Option (List Bool)
word_levels ports word = if nat_lt 0 ports && length word == ports then all_known (map digit_level word) else None

-- the one step with these levels; a line without levels is refused with its number
abbrev pub one_step : ℕ → Option (List Bool) → Result (List (List Bool)) ℕ
one_step number None = Err number
one_step number (Some levels) = Ok (levels ∷ [])

-- the steps that the words of a line say: none where there are no words
abbrev pub words_steps : ℕ → ℕ → List (List ℕ) → Result (List (List Bool)) ℕ
words_steps ports number [] = Ok []
words_steps ports number (word ∷ []) = one_step number (word_levels ports word)
words_steps ports number (word ∷ other ∷ words) = Err number

-- the steps that a line says, by its words before the comment
abbrev pub line_steps : ℕ → ℕ × List ℕ → Result (List (List Bool)) ℕ
line_steps ports line = words_steps ports line.0 (uncommented (words line.1))

-- these steps and then those, or the first number of a line that is refused
abbrev pub then_steps : List (List Bool) → Result (List (List Bool)) ℕ → Result (List (List Bool)) ℕ
then_steps steps (Ok others) = Ok (steps ++ others)
then_steps steps (Err number) = Err number

abbrev pub steps_and : Result (List (List Bool)) ℕ → Result (List (List Bool)) ℕ → Result (List (List Bool)) ℕ
steps_and (Ok steps) others = then_steps steps others
steps_and (Err number) others = Err number

-- the steps that lines say, or the number of the first line that is refused
abbrev pub lines_steps : ℕ → List (ℕ × List ℕ) → Result (List (List Bool)) ℕ
lines_steps ports [] = Ok []
lines_steps ports (line ∷ lines) = steps_and (line_steps ports line) (lines_steps ports lines)

-- what a text of levels says: for each step the level of each port, or the number of the first line that is refused
abbrev pub levels_of : ℕ → List ℕ → Result (List (List Bool)) ℕ
levels_of ports text = lines_steps ports (numbered 1 (lines text))

-- a step that has a level for each of so many ports
abbrev pub HasWidth : ℕ → List Bool → Type 0
HasWidth ports step = length step ≡ ports

-- the reader's refusal is the one that is meant, unless memory ran out
abbrev pub IsRefusal : LevelFault → Result (List (List Bool)) ℕ → Type 0
IsRefusal (BadLine line) said = said ≡ Err line
IsRefusal NoMemory said = Unit {0}

-- the answer is exactly what the definition says, unless memory ran out
abbrev pub Gives : Result (List (List Bool)) LevelFault → Result (List (List Bool)) ℕ → Type 0
Gives (Ok levels) said = said ≡ Ok levels
Gives (Err fault) said = IsRefusal fault said
