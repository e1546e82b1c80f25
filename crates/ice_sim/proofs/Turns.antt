-- One more turn of the loops that compile chips.
use Rattle.std.proofs.Common.{Bool, ◌≡◌, ℕ, suc, ◌+◌, ◌<◌, List, [], ◌∷◌, ◌++◌, length, drop, map, get_or, refl, ap, sym, ◌∙◌, arith, append_assoc, length-append}
use Rattle.std.specs.List.{flat_map}
use Rattle.std.proofs.lemmas.List.{at_drop_more}
use Rattle.ice_chip.specs.Database.{Parts}
use Rattle.ice_chip.specs.declared.rows.Pad.{Pad}
use Rattle.ice_bits.specs.Configuration.{Bits}
use Rattle.ice_decode.specs.declared.point.Point.{Point}
use Rattle.ice_sim_sweep.proofs.Turns.{joined}
use Rattle.ice_sim.specs.ChipSlots.{number, point_slot}
use Rattle.ice_sim_sweep.specs.declared.parts.Feed.{Feed}
use Rattle.ice_sim_sweep.specs.declared.parts.Tap.{Tap}
use Rattle.ice_sim.specs.Layouts.{Layout, placed, laid, pad_tap, taps_from}
use Rattle.ice_sim.specs.ConfiguredChips.{with_place, with_places}

pub flat_joined : {X A : Type 0} (f : X → List A) (d : X) (all old new : List A) (xs : List X) (i : ℕ) → i < length xs → all ≡ old ++ flat_map f (drop i xs)
    → new ≡ old ++ f (get_or xs i d) → all ≡ new ++ flat_map f (drop (i + 1) xs)
flat_joined f d all old new xs i lt e pushed = joined (λ k. flat_map f) (λ k. f) (λ k x ys. refl) d all old new xs i lt e pushed

given_joined : {X Y : Type 0} (f : X → Y) (x : X) (y : Y) (all old new : List Y) (left rest : List X) → all ≡ old ++ map f left → left ≡ x ∷ rest → new ≡ old ++ y ∷ []
    → y ≡ f x → all ≡ new ++ map f rest
given_joined f x y all old new left rest e cut pushed is =
    e
    ∙ ap (λ xs. old ++ map f xs) cut
    ∙ ap (λ z. old ++ z ∷ map f rest) (sym is)
    ∙ sym (append_assoc old (y ∷ []) (map f rest))
    ∙ ap (λ ys. ys ++ map f rest) (sym pushed)

-- what feeds the slot of one more pad
pub fed_more : (f : Pad → Feed) (d : Pad) (feed : Feed) (all old new : List Feed) (pads : List Pad) (i : ℕ) → i < length pads → all ≡ old ++ map f (drop i pads) → new ≡ old ++ feed ∷ []
    → feed ≡ f (get_or pads i d) → all ≡ new ++ map f (drop (i + 1) pads)
fed_more f d feed all old new pads i lt e pushed is =
    given_joined f (get_or pads i d) feed all old new (drop i pads) (drop (i + 1) pads) e (at_drop_more (λ (left : List Pad). left) pads i d lt) pushed is

-- what drives one more pad
taps_joined : (parts : Parts) (bits : Bits) (slots : List ℕ) (pad : Pad) (tap : Tap) (all old new : List Tap) (feed : Feed) (feeds more : List Feed) (left rest : List Pad)
    → all ≡ old ++ taps_from parts bits slots (length feeds) left → left ≡ pad ∷ rest → more ≡ feeds ++ feed ∷ [] → new ≡ old ++ tap ∷ [] → tap ≡ pad_tap parts bits slots (length feeds) pad
    → all ≡ new ++ taps_from parts bits slots (length more) rest
taps_joined parts bits slots pad tap all old new feed feeds more left rest e cut fed pushed is =
    let long : suc (length feeds) ≡ length more = (let one = ap length fed in let both = length-append feeds (feed ∷ []) in omega arith) in
    e
    ∙ ap (λ pads. old ++ taps_from parts bits slots (length feeds) pads) cut
    ∙ ap (λ z. old ++ z ∷ taps_from parts bits slots (suc (length feeds)) rest) (sym is)
    ∙ sym (append_assoc old (tap ∷ []) (taps_from parts bits slots (suc (length feeds)) rest))
    ∙ ap (λ ts. ts ++ taps_from parts bits slots (suc (length feeds)) rest) (sym pushed)
    ∙ ap (λ n. new ++ taps_from parts bits slots n rest) long

pub taps_more : (parts : Parts) (bits : Bits) (slots : List ℕ) (d : Pad) (tap : Tap) (all old new : List Tap) (feed : Feed) (feeds more : List Feed) (pads : List Pad) (i own : ℕ) → i < length pads
    → own ≡ length feeds → all ≡ old ++ taps_from parts bits slots (length feeds) (drop i pads) → more ≡ feeds ++ feed ∷ [] → new ≡ old ++ tap ∷ [] → tap ≡ pad_tap parts bits slots own (get_or pads i d)
    → all ≡ new ++ taps_from parts bits slots (length more) (drop (i + 1) pads)
taps_more parts bits slots d tap all old new feed feeds more pads i own lt has e fed pushed is =
    taps_joined parts bits slots (get_or pads i d) tap all old new feed feeds more (drop i pads) (drop (i + 1) pads) e (at_drop_more (λ (left : List Pad). left) pads i d lt) fed pushed
    (is ∙ ap (λ n. pad_tap parts bits slots n (get_or pads i d)) has)

pub laid_more : (parts : Parts) (bits : Bits) (extras : List (ℕ × ℕ × ℕ)) (bonded : List Pad) (d : Point) (all old new : Layout) (order : List Point) (i : ℕ) → i < length order
    → all ≡ laid parts bits extras bonded (drop i order) old
    → new ≡ placed (point_slot parts bits extras bonded old.slots (length old.feeds) (get_or order i d)) (number parts (get_or order i d)) old
    → all ≡ laid parts bits extras bonded (drop (i + 1) order) new
laid_more parts bits extras bonded d all old new order i lt e pushed =
    e ∙ at_drop_more (λ points. laid parts bits extras bonded points old) order i d lt ∙ ap (laid parts bits extras bonded (drop (i + 1) order)) (sym pushed)

pub places_more : {K : Type 0} (equal : K → K → Bool) (d : K) (all old new : List (K × ℕ)) (keys : List K) (i k : ℕ) → i < length keys → all ≡ with_places equal i (drop i keys) old
    → new ≡ with_place equal (get_or keys i d) k old → k ≡ i → all ≡ with_places equal (i + 1) (drop (i + 1) keys) new
places_more equal d all old new keys i k lt e pushed same =
    let one : suc i ≡ i + 1 = omega arith in
    e
    ∙ at_drop_more (λ left. with_places equal i left old) keys i d lt
    ∙ ap (λ n. with_places equal n (drop (i + 1) keys) (with_place equal (get_or keys i d) i old)) one
    ∙ ap (λ n. with_places equal (i + 1) (drop (i + 1) keys) (with_place equal (get_or keys i d) n old)) (sym same)
    ∙ ap (with_places equal (i + 1) (drop (i + 1) keys)) (sym pushed)
