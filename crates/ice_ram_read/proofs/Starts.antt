-- RAMs before their first step, made one after another.
use Rattle.std.proofs.Common.{◌≡◌, ℕ, ◌+◌, Bool, Option, List, [], ◌∷◌, ◌++◌, length, map, refl, sym, ap, ◌∙◌, append_assoc, append-nil, arith}
use Rattle.ice_base.specs.declared.number.SignalNo.{SignalNo}
use Rattle.ice_ram.specs.declared.setup.Setup.{Setup}
use Rattle.ice_ram.specs.Ram.{Kept}
use Rattle.ice_ram_words.specs.declared.kind.Edges.{Edges}
use Rattle.ice_ram_read.specs.RamData.{RamData}
use Rattle.ice_ram_read.specs.ClosedNetlists.{ram_of}

pub started_more : (all left rest : List RamData) (text : RamData) (rams more : List (Setup × Kept)) (ram : Setup × Kept) → map ram_of all ≡ rams ++ map ram_of left → left ≡ text ∷ rest → ram ≡ ram_of text
    → more ≡ rams ++ ram ∷ [] → map ram_of all ≡ more ++ map ram_of rest
started_more all left rest text rams more ram said here made pushed =
    said
    ∙ ap (λ xs. rams ++ map ram_of xs) here
    ∙ sym (append_assoc rams (ram_of text ∷ []) (map ram_of rest))
    ∙ ap (λ r. (rams ++ r ∷ []) ++ map ram_of rest) (sym made)
    ∙ ap (λ xs. xs ++ map ram_of rest) (sym pushed)

pub started_all : (all left : List RamData) (rams : List (Setup × Kept)) → map ram_of all ≡ rams ++ map ram_of left → left ≡ [] → rams ≡ map ram_of all
started_all all left rams said none = sym (said ∙ ap (λ xs. rams ++ map ram_of xs) none ∙ append-nil rams)

pub long_more : (left rest : List RamData) (text : RamData) (count later : ℕ) → left ≡ text ∷ rest → later + 1 ≡ count → count ≡ length left → later ≡ length rest
long_more left rest text count later here step long = let e : length left ≡ length rest + 1 = ap (λ xs. length xs) here ∙ omega arith in omega (arith, e, step, long)

pub left_none : (left : List RamData) (count : ℕ) → count ≡ 0 → count ≡ length left → left ≡ []
left_none [] count none long = refl
left_none (text ∷ left) count none long = absurd (let e : length (text ∷ left) ≡ length left + 1 = omega arith in omega (arith, none, long, e))

-- a RAM with these words, and all else as at its line
abbrev pub made_text : ℕ → Edges → List (Option SignalNo) → List (List Bool) → RamData
made_text line edges signals words = record { line = line; edges = edges; signals = signals; read_mode = 0; write_mode = 0; words = words }
