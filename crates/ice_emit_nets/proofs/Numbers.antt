-- Numbers of nets.
use Rattle.std.proofs.Common.{◌≡◌, ℕ, arith, true, cond, Option, Some, ◌+◌, List, [], ◌∷◌, ◌++◌, length, map, refl, ap, sym, ◌∙◌}
use Rattle.std.specs.Prelude.{is_some, slice_get}
use Rattle.std.specs.List.{range_with_len}
use Rattle.ice_base.specs.declared.number.WireNo.{WireNo}
use Rattle.std.proofs.lemmas.List.{map-append, length_push}
use Rattle.std.proofs.lemmas.List.FromFn.{map-range_with_len_more}
use Rattle.ice_core.specs.declared.net.Net.{Net}
use Rattle.ice_emit_nets.specs.Nets.{net_number, bare_net}
use Rattle.ice_emit_nets.specs.Collected.{AreNumbered, bare_nets, one_net}

map_self : (xs : List ℕ) → map (λ (n : ℕ). n) xs ≡ xs
map_self [] = refl
map_self (x ∷ xs) = ap (λ ys. x ∷ ys) (map_self xs)

range_more : (n : ℕ) → range_with_len 0 (n + 1) ≡ range_with_len 0 n ++ n ∷ []
range_more n =
    let same : 0 + n ≡ n = omega arith in
    sym (map_self (range_with_len 0 (n + 1))) ∙ map-range_with_len_more (λ (k : ℕ). k) 0 n n same ∙ ap (λ xs. xs ++ n ∷ []) (map_self (range_with_len 0 n))

-- a net behind others has their count as its number
pub numbered_more : (nets new : List Net) (net : Net) → AreNumbered nets → new ≡ nets ++ net ∷ [] → net.net.0 ≡ length nets → AreNumbered new
numbered_more nets new net are e is =
    ap (map net_number) e ∙ map-append net_number nets (net ∷ []) ∙ ap (λ xs. xs ++ net.net.0 ∷ []) are ∙ ap (λ n. range_with_len 0 (length nets) ++ n ∷ []) is
    ∙ sym (range_more (length nets)) ∙ ap (range_with_len 0) (sym (length_push nets net)) ∙ ap (λ xs. range_with_len 0 (length xs)) (sym e)

-- a net behind others, as the definition has it
pub net_more : (nets new : List Net) (net : Net) (wire : Option WireNo) (root : WireNo) (sinks : List (List WireNo)) → new ≡ nets ++ net ∷ [] → wire ≡ Some root → is_some (slice_get sinks 0) ≡ true
    → bare_net net ≡ (root.0, sinks) → bare_nets new ≡ bare_nets nets ++ one_net wire sinks
net_more nets new net wire root sinks e w t is =
    ap (map bare_net) e ∙ map-append bare_net nets (net ∷ []) ∙ ap (λ b. bare_nets nets ++ b ∷ []) is
    ∙ sym (ap (λ o. bare_nets nets ++ one_net o sinks) w ∙ ap (λ b. bare_nets nets ++ cond b ((root.0, sinks) ∷ []) []) t)
