-- The clocks of RAMs, one RAM after another.
use Rattle.std.proofs.Common.{◌≡◌, ℕ, ◌+◌, ◌*◌, ◌<◌, List, [], ◌∷◌, ◌++◌, refl, sym, ap, ◌∙◌, arith, append-nil}
use Rattle.std.specs.List.{flat_map, range_with_len}
use Rattle.std.proofs.lemmas.Grind.{flat_map-append}
use Rattle.std.proofs.lemmas.List.{map-id}
use Rattle.std.proofs.lemmas.List.FromFn.{map-range_with_len_more}
use Rattle.ice_base.specs.declared.number.SignalNo.{SignalNo}
use Rattle.ice_net.specs.declared.port.Port.{Port}
use Rattle.ice_ram_read.specs.RamClocks.{clocks_there, clocks_from}

numbers_more : (n : ℕ) → range_with_len 0 (n + 1) ≡ range_with_len 0 n ++ n ∷ []
numbers_more n = sym (map-id (range_with_len 0 (n + 1))) ∙ map-range_with_len_more (λ x. x) 0 n n (omega arith) ∙ ap (λ xs. xs ++ n ∷ []) (map-id (range_with_len 0 n))

pub none_yet : (ports : List Port) (place : ℕ) (signals : List SignalNo) → signals ≡ [] → signals ≡ clocks_from ports place 0
none_yet ports place signals e = e

pub one_more : (ports : List Port) (place ram : ℕ) (before after : List SignalNo) → before ≡ clocks_from ports place ram → after ≡ before ++ clocks_there ports (place + 74 * ram)
    → after ≡ clocks_from ports place (ram + 1)
one_more ports place ram before after e next =
    let f : ℕ → List SignalNo = λ k. clocks_there ports (place + 74 * k) in
    next
    ∙ ap (λ xs. xs ++ f ram) e
    ∙ ap (λ xs. flat_map f (range_with_len 0 ram) ++ xs) (sym (append-nil (f ram)))
    ∙ sym (flat_map-append f (range_with_len 0 ram) (ram ∷ []))
    ∙ ap (flat_map f) (sym (numbers_more ram))
