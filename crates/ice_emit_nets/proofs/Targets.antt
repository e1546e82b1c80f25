-- Wires and loads, one after another.
use Rattle.std.proofs.Common.{◌≡◌, ℕ, Option, None, Some, List, [], ◌∷◌, ◌++◌, map, refl, ap, sym, ◌∙◌}
use Rattle.std.specs.Prelude.{option_map}
use Rattle.std.specs.List.{cons_option}
use Rattle.std.proofs.lemmas.List.{map-append, append_assoc}
use Rattle.ice_base.specs.declared.number.WireNo.{WireNo}
use Rattle.ice_chip.specs.Database.{Parts}
use Rattle.ice_place_defs.specs.Loads.{Load}
use Rattle.ice_emit_nets.specs.Ends.{End, wire_no, load_end}

-- a wire by its number
pub wire_is : (wire : Option WireNo) (number : Option ℕ) → option_map (λ (w : WireNo). w.0) wire ≡ number → wire ≡ option_map wire_no number
wire_is None number e = ap (option_map wire_no) e
wire_is (Some w) number e = ap (option_map wire_no) e

-- ---- targets
wire_then : (wire : Option WireNo) (rest : List WireNo) → cons_option wire [] ++ rest ≡ cons_option wire rest
wire_then None rest = refl
wire_then (Some w) rest = refl

pub four_wires : (a b c d : Option WireNo) (one two three four : List WireNo) → one ≡ cons_option a [] → two ≡ one ++ cons_option b [] → three ≡ two ++ cons_option c [] → four ≡ three ++ cons_option d []
    → four ≡ cons_option a (cons_option b (cons_option c (cons_option d [])))
four_wires a b c d one two three four e f g h =
    h ∙ ap (λ xs. xs ++ cons_option d []) (g ∙ ap (λ xs. xs ++ cons_option c []) (f ∙ ap (λ xs. xs ++ cons_option b []) e)) ∙ by a b c
  where
    last : (c : Option WireNo) → cons_option c [] ++ cons_option d [] ≡ cons_option c (cons_option d [])
    last c = wire_then c (cons_option d [])

    by : (a b c : Option WireNo) → ((cons_option a [] ++ cons_option b []) ++ cons_option c []) ++ cons_option d [] ≡ cons_option a (cons_option b (cons_option c (cons_option d [])))
    by None None c = last c
    by None (Some y) c = ap (λ xs. y ∷ xs) (last c)
    by (Some x) None c = ap (λ xs. x ∷ xs) (last c)
    by (Some x) (Some y) c = ap (λ xs. x ∷ y ∷ xs) (last c)

-- ---- loads
pub two_loads : (parts : Parts) (a b : List Load) (old one two : List End) → one ≡ old ++ map (load_end parts) a → two ≡ one ++ map (load_end parts) b → two ≡ old ++ map (load_end parts) (a ++ b)
two_loads parts a b old one two e f =
    f ∙ ap (λ xs. xs ++ map (load_end parts) b) e ∙ append_assoc old (map (load_end parts) a) (map (load_end parts) b) ∙ ap (λ xs. old ++ xs) (sym (map-append (load_end parts) a b))

pub three_loads : (parts : Parts) (a b c : List Load) (old one two three : List End) → one ≡ old ++ map (load_end parts) a → two ≡ one ++ map (load_end parts) b → three ≡ two ++ map (load_end parts) c
    → three ≡ old ++ map (load_end parts) (a ++ b ++ c)
three_loads parts a b c old one two three e f g = two_loads parts (a ++ b) c old two three (two_loads parts a b old one two e f) g

pub four_loads : (parts : Parts) (a b c d : List Load) (old one two three four : List End) → one ≡ old ++ map (load_end parts) a → two ≡ one ++ map (load_end parts) b
    → three ≡ two ++ map (load_end parts) c → four ≡ three ++ map (load_end parts) d → four ≡ old ++ map (load_end parts) (a ++ b ++ c ++ d)
four_loads parts a b c d old one two three four e f g h = two_loads parts (a ++ b ++ c) d old three four (three_loads parts a b c old one two three e f g) h
