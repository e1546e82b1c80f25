-- The names of a text's netlist are none that are added where it is prepared.
use Rattle.std.proofs.Common.{◌≡◌, ◌≢◌, inl, inr, ◌∙◌, ℕ, ◌<◌, List, [], ◌∷◌, ◌++◌, length, refl, sym, ap, arith}
use Rattle.std.specs.Prelude.{All, codes, decimal}
use Rattle.std.proofs.lemmas.List.Elements.{All-weaker}
use Rattle.ice_net.specs.NetlistData.{NetlistData}
use Rattle.ice_blif.specs.Registers.{hidden_name}
use Rattle.ice_blif_laws.specs.ReadNames.{IsHidden, IsReadName}
use Rattle.ice_check_promote.specs.Promotable.{last_byte}
use Rattle.ice_flow_prepare.specs.Prepared.{IsPreparableName, CanBePrepared, most_cells}

-- a hidden name ends in `n` (110) or `t` (116)
last_in : (d : ℕ) (front : List ℕ) → last_byte d (front ++ 32 ∷ codes "in") ≡ 110
last_in d [] = refl
last_in d (b ∷ front) = last_in b front

last_out : (d : ℕ) (front : List ℕ) → last_byte d (front ++ 32 ∷ codes "out") ≡ 116
last_out d [] = refl
last_out d (b ∷ front) = last_out b front

ends_in : (name hidden : List ℕ) (last : ℕ) → name ≡ hidden → last_byte 0 hidden ≡ last → last ≢ 98 → last ≢ 108 → IsPreparableName name
ends_in name hidden last is ends b l =
    let same : last_byte 0 name ≡ last = ap (last_byte 0) is ∙ ends in
    inr (λ e. b (sym same ∙ e), λ e. l (sym same ∙ e))

hidden_fits : (name : List ℕ) → IsHidden name → IsPreparableName name
hidden_fits name h = elim h.is [
  | inl input ↦ ends_in name (hidden_name h.line (codes "in")) 110 input (last_in 0 (decimal h.line)) (λ e. absurd (omega (arith, e))) (λ e. absurd (omega (arith, e)))
  | inr output ↦ ends_in name (hidden_name h.line (codes "out")) 116 output (last_out 0 (decimal h.line)) (λ e. absurd (omega (arith, e))) (λ e. absurd (omega (arith, e)))
]

read_fits : (name : List ℕ) → IsReadName name → IsPreparableName name
read_fits name (inl word) = inl word
read_fits name (inr hidden) = hidden_fits name hidden

pub can_be_prepared : (n : NetlistData) → All IsReadName n.names → length n.cells < most_cells → CanBePrepared n
can_be_prepared n names room = record { names = All-weaker IsReadName IsPreparableName read_fits n.names names; room = room }
