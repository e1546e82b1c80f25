-- The inputs in use, as the cells are gone over.
use Rattle.std.proofs.Common.{◌≡◌, ℕ, ◌+◌, ◌<◌, List, [], ◌∷◌, ◌++◌, length, get_or, take, ap, ◌∙◌, zero, suc, Option, sym, subst}
use Rattle.std.specs.List.{flat_map}
use Rattle.std.proofs.lemmas.List.{take_more, append-nil}
use Rattle.std.proofs.lemmas.Grind.{flat_map-append}
use Rattle.std.proofs.lemmas.Option.{none-some, same_Some}
use Rattle.ice_base.specs.declared.number.SignalNo.{SignalNo}
use Rattle.ice_base_values.specs.Order.{At, Has}
use Rattle.ice_base_values.proofs.Members.{At_left, At_right}
use Rattle.ice_net.specs.declared.cell.Cell.{Cell}
use Rattle.ice_check.specs.Faults.{uses_of}

pub uses_more : (cells : List Cell) (i : ℕ) (d : Cell) → i < length cells
    → flat_map uses_of (take (i + 1) cells) ≡ flat_map uses_of (take i cells) ++ uses_of (get_or cells i d)
uses_more cells i d lt =
    ap (flat_map uses_of) (take_more cells i d lt)
    ∙ flat_map-append uses_of (take i cells) (get_or cells i d ∷ [])
    ∙ ap (λ signals. flat_map uses_of (take i cells) ++ signals) (append-nil (uses_of (get_or cells i d)))

pub used_at : (cells : List Cell) (i : ℕ) (cell : Cell) (x : Option SignalNo) → At cells i cell → Has (uses_of cell) x → Has (flat_map uses_of cells) x
used_at [] i cell x at has = absurd (none-some cell at)
used_at (c ∷ cells) zero cell x at has =
    let here : Has (uses_of c) x = subst (λ (c : Cell). Has (uses_of c) x) (sym (same_Some c cell at)) has in
    (here.0, At_left (uses_of c) (flat_map uses_of cells) here.0 x here.1)
used_at (c ∷ cells) (suc i) cell x at has =
    let rest = used_at cells i cell x at has in
    (length (uses_of c) + rest.0, At_right (uses_of c) (flat_map uses_of cells) rest.0 x rest.1)
