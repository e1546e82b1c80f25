-- Names at places, looked up where they lie in memory.
use Rattle.std.proofs.Common.{◌≡◌, ◌==◌, Bool, true, false, Some, None, Ok, Err, cond, List, [], ◌∷◌, ◌++◌, refl, sym, ap, ◌∙◌, if◌then◌else◌}
use Rattle.std.specs.Map.{lookup}
use Rattle.indexmap.specs.IndexMap.{insert_entry}
use Rattle.ice_chip_build.specs.PlacedTexts.{placed_text, by_placed}
use Rattle.ice_chip.specs.WholeFaults.{same_placed, with_placed, clash_or}
use Rattle.ice_chip.proofs.Entries.{restored}
use Rattle.ice_chip_build.specs.declared.named.PlacedText.{PlacedText}
use Rattle.ice_chip.specs.declared.placed.PlacedName.{PlacedName}
use Rattle.ice_chip.specs.declared.name_lines.WireLine.{WireLine}

-- the test of two names at places where they lie
abbrev pub same_text : PlacedText → PlacedText → Bool
same_text a b = same_placed (placed_text a) (placed_text b)

found : (placed : PlacedText) (entries : List (PlacedText × WireLine)) → lookup (same_placed (placed_text placed)) (by_placed entries) ≡ lookup (same_text placed) entries
found placed [] = refl
found placed (e ∷ es) = ap (cond (same_placed (placed_text placed) (placed_text e.0)) (Some e.1)) (found placed es)

by_placed_last : (entries : List (PlacedText × WireLine)) (e : PlacedText × WireLine) → by_placed (entries ++ e ∷ []) ≡ by_placed entries ++ (placed_text e.0, e.1) ∷ []
by_placed_last [] e = refl
by_placed_last (x ∷ xs) e = ap (λ es. (placed_text x.0, x.1) ∷ es) (by_placed_last xs e)

-- a name that is new goes last
pub joins : (placed : PlacedText) (known : WireLine) (entries now : List (PlacedText × WireLine)) → lookup (same_text placed) entries ≡ None → now ≡ entries ++ (placed, known) ∷ []
    → with_placed (by_placed entries) (placed_text placed) known (lookup (same_placed (placed_text placed)) (by_placed entries)) ≡ Ok (by_placed now)
joins placed known entries now none put =
    ap (with_placed (by_placed entries) (placed_text placed) known) (found placed entries ∙ none)
    ∙ ap (λ es. Ok es) (sym (ap by_placed put ∙ by_placed_last entries (placed, known)))

by_test : (seen : List (PlacedName × WireLine)) (known first : WireLine) (same : Bool) → (if same then Ok seen else Err (known.line, first.line)) ≡ clash_or (if same then None else Some (known.line, first.line)) seen
by_test seen known first true = refl
by_test seen known first false = refl

-- a name that was met stays with the wire that had it
pub stays : (placed : PlacedText) (known first : WireLine) (entries over now : List (PlacedText × WireLine)) → lookup (same_text placed) entries ≡ Some first
    → over ≡ insert_entry same_text entries placed known → now ≡ insert_entry same_text over placed first
    → with_placed (by_placed entries) (placed_text placed) known (lookup (same_placed (placed_text placed)) (by_placed entries))
    ≡ clash_or (if first.wire == known.wire then None else Some (known.line, first.line)) (by_placed now)
stays placed known first entries over now met put back =
    let same : now ≡ entries = back ∙ ap (λ es. insert_entry same_text es placed first) put ∙ restored same_text entries placed known first met in
    ap (with_placed (by_placed entries) (placed_text placed) known) (found placed entries ∙ met)
    ∙ by_test (by_placed entries) known first (first.wire == known.wire)
    ∙ ap (λ es. clash_or (if first.wire == known.wire then None else Some (known.line, first.line)) (by_placed es)) (sym same)
