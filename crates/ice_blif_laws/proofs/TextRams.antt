-- The signals that a RAM's connections find in the whole netlist are those that its line said.
use Rattle.std.proofs.Common.{◌≡◌, ◌∙◌, ℕ, ◌+◌, Bool, true, false, List, [], ◌∷◌, take, drop, slice_set, nat_le, Option, Some, None, option_map, IfSome, if◌then◌else◌, refl, ap, subst}
use Rattle.std.specs.Option.{option_and_then}
use Rattle.ice_net.specs.NetlistData.{NetlistData}
use Rattle.ice_blif.specs.Grammar.{is_missing, equals_at}
use Rattle.ice_ram_words.specs.declared.kind.Edges.{Edges}
use Rattle.ice_ram_words.specs.Words.{place}
use Rattle.ice_ram_read.specs.RamTexts.{found, actual_found, placed, connected, signals_said}
use Rattle.ice_blif_laws.specs.NetlistText.{Wiring, actual_joins, connection_joins, connections_join}
use Rattle.ice_blif_laws.proofs.GrownNames.{found_later}
use Rattle.ice_blif_write.proofs.NamesRead.{Grows, grows_same, grows_more}
use Rattle.ice_blif_laws.proofs.TextMoves.{some_then, actual_by, connections_grow}
use Rattle.ice_blif_laws.proofs.TextSteps.{equals_is}

some_both : {A : Type 0} (P Q R : A → Type 0) (o : Option A) → ((x : A) → P x → Q x → R x) → IfSome o P → IfSome o Q → IfSome o R
some_both P Q R None h p q = tt
some_both P Q R (Some x) h p q = h x p q

actual_later : (output : Bool) (actual : List ℕ) (c : Wiring) (at : ℕ) (m : NetlistData) → Grows (actual_joins output actual c at).0.names m.names
    → slice_set c.1 at (actual_found m output actual) ≡ (actual_joins output actual c at).1
actual_later output actual c at m = by (is_missing output actual)
  where
    by : (b : Bool) → Grows (actual_by actual c at b).0.names m.names → slice_set c.1 at (if b then None else found m actual) ≡ (actual_by actual c at b).1
    by true grown = refl
    by false grown = ap (slice_set c.1 at) (found_later c.0 m actual grown)

-- connections of a word whose first `=` is there, found later
abbrev pub FoundBy : Edges → List ℕ → Wiring → Option ℕ → Wiring → Type 0
FoundBy edges word c at d = (m : NetlistData) → Grows d.0.names m.names → connected m edges c.1 word at ≡ d.1

connection_later : (edges : Edges) (word : List ℕ) (c : Wiring) → IfSome (connection_joins 60 (place edges) word c) (FoundBy edges word c (equals_at word))
connection_later edges word c =
    subst (λ (o : Option ℕ). IfSome (option_and_then (λ at. option_map (λ k. actual_joins (nat_le 60 k) (drop (at + 1) word) c k) (place edges (take at word))) o) (FoundBy edges word c (equals_at word))) (equals_is word)
    (by (equals_at word))
  where
    by_place : (at : ℕ) (o : Option ℕ) → IfSome (option_map (λ k. actual_joins (nat_le 60 k) (drop (at + 1) word) c k) o)
        (λ (d : Wiring). (m : NetlistData) → Grows d.0.names m.names → placed m c.1 (drop (at + 1) word) o ≡ d.1)
    by_place at None = tt
    by_place at (Some k) = actual_later (nat_le 60 k) (drop (at + 1) word) c k

    by : (o : Option ℕ) → IfSome (option_and_then (λ at. option_map (λ k. actual_joins (nat_le 60 k) (drop (at + 1) word) c k) (place edges (take at word))) o) (FoundBy edges word c o)
    by None = tt
    by (Some at) = by_place at (place edges (take at word))

abbrev pub AllFoundBy : Edges → List (List ℕ) → Wiring → Wiring → Type 0
AllFoundBy edges words c d = (m : NetlistData) → Grows d.0.names m.names → signals_said m edges c.1 words ≡ d.1

pub signals_later : (edges : Edges) (words : List (List ℕ)) (c : Wiring) → IfSome (connections_join 60 (place edges) words c) (AllFoundBy edges words c)
signals_later edges [] c = λ m grown. refl
signals_later edges (word ∷ words) c =
    some_then (AllFoundBy edges (word ∷ words) c) (FoundBy edges word c (equals_at word)) (connection_joins 60 (place edges) word c) (connections_join 60 (place edges) words) (connection_later edges word c)
    (λ d one. some_both (λ (k : Wiring). Grows d.0.names k.0.names) (AllFoundBy edges words d) (AllFoundBy edges (word ∷ words) c) (connections_join 60 (place edges) words d)
    (λ k grown later m more. ap (λ x. signals_said m edges x words) (one m (grows_more d.0.names k.0.names m.names grown more)) ∙ later m more)
    (connections_grow d.0.names 60 (place edges) words d (grows_same d.0.names)) (signals_later edges words d))
