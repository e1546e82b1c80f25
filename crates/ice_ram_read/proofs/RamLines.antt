-- Lines of RAMs, read one after another.
use Rattle.std.proofs.Common.{◌≡◌, true, false, List, [], ◌∷◌, ◌++◌, Option, if◌then◌else◌, codes, bytes_eq, sym, ap, ◌∙◌, append_assoc}
use Rattle.ice_net.specs.NetlistData.{NetlistData}
use Rattle.ice_blif.specs.JoinedLines.{FilledLine}
use Rattle.ice_ram_read.specs.RamData.{RamData}
use Rattle.ice_ram_read.specs.RamTexts.{listed, before_line, after_line, rams_said}

-- a line that isn't `.end`
pub lines_more : (n : NetlistData) (last next : Option RamData) (l : FilledLine) (ls rest : List FilledLine) (rams later all : List RamData)
    → ls ≡ l ∷ rest → bytes_eq l.first (codes ".end") ≡ false → later ≡ rams ++ before_line last l.first → next ≡ after_line n last l
    → all ≡ rams ++ rams_said n last ls → all ≡ later ++ rams_said n next rest
lines_more n last next l ls rest rams later all here test more is told =
    told
    ∙ ap (λ xs. rams ++ rams_said n last xs) here
    ∙ ap (λ b. rams ++ (if b then listed last else before_line last l.first ++ rams_said n (after_line n last l) rest)) test
    ∙ sym (append_assoc rams (before_line last l.first) (rams_said n (after_line n last l) rest))
    ∙ ap (λ xs. xs ++ rams_said n (after_line n last l) rest) (sym more)
    ∙ ap (λ o. later ++ rams_said n o rest) (sym is)

-- the line `.end`
pub lines_end : (n : NetlistData) (last : Option RamData) (l : FilledLine) (ls rest : List FilledLine) (rams all : List RamData)
    → ls ≡ l ∷ rest → bytes_eq l.first (codes ".end") ≡ true → all ≡ rams ++ rams_said n last ls → rams ++ listed last ≡ all
lines_end n last l ls rest rams all here test told =
    sym (told ∙ ap (λ xs. rams ++ rams_said n last xs) here ∙ ap (λ b. rams ++ (if b then listed last else before_line last l.first ++ rams_said n (after_line n last l) rest)) test)

-- no line is left
pub lines_none : (n : NetlistData) (last : Option RamData) (ls : List FilledLine) (rams all : List RamData) → ls ≡ [] → all ≡ rams ++ rams_said n last ls → rams ++ listed last ≡ all
lines_none n last ls rams all none told = sym (told ∙ ap (λ xs. rams ++ rams_said n last xs) none)
