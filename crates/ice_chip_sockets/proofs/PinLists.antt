-- Lists of pins that grow.
use Rattle.std.proofs.Common.{◌≡◌, ℕ, ◌+◌, ◌<◌, List, ◌∷◌, [], ◌++◌, length, map, get_or, drop, sym, ap, ◌∙◌, arith, append_assoc}
use Rattle.std.specs.List.{flat_map, range_with_len}
use Rattle.std.proofs.lemmas.List.{at_drop_more}
use Rattle.std.proofs.lemmas.List.FromFn.{map-range_with_len_more}
use Rattle.ice_chip.specs.declared.rows.Pad.{Pad}
use Rattle.ice_chip_rams.specs.Sites.{ram_pin, ram_pins}
use Rattle.ice_chip_rams.specs.declared.ram_site.RamSite.{RamSite}

-- one more pin of a block RAM
pub pin_more : (s : RamSite) (n : ℕ) (pin : Pad) (old pads longer : List Pad) → pin ≡ ram_pin s n → pads ≡ old ++ map (ram_pin s) (range_with_len 0 n) → longer ≡ pads ++ pin ∷ []
    → longer ≡ old ++ map (ram_pin s) (range_with_len 0 (n + 1))
pin_more s n pin old pads longer is held pushed =
    pushed
    ∙ ap (λ ps. ps ++ pin ∷ []) held
    ∙ append_assoc old (map (ram_pin s) (range_with_len 0 n)) (pin ∷ [])
    ∙ ap (λ p. old ++ (map (ram_pin s) (range_with_len 0 n) ++ p ∷ [])) is
    ∙ ap (λ ps. old ++ ps) (sym (map-range_with_len_more (ram_pin s) 0 n n (omega arith)))

-- all pins of a block RAM
pub pins_whole : (s : RamSite) (n : ℕ) (old pads : List Pad) → n ≡ 74 → pads ≡ old ++ map (ram_pin s) (range_with_len 0 n) → pads ≡ old ++ ram_pins s
unfolding ram_pins
pins_whole s n old pads all held = held ∙ ap (λ m. old ++ map (ram_pin s) (range_with_len 0 m)) all

-- the pins of one more block RAM
pub pins_more : (sites : List RamSite) (i : ℕ) (d : RamSite) (all old new : List Pad) → i < length sites → all ≡ old ++ flat_map ram_pins (drop i sites) → new ≡ old ++ ram_pins (get_or sites i d)
    → all ≡ new ++ flat_map ram_pins (drop (i + 1) sites)
pins_more sites i d all old new lt held added =
    held
    ∙ ap (λ (pins : List Pad). old ++ pins) (at_drop_more (λ (ss : List RamSite). flat_map ram_pins ss) sites i d lt)
    ∙ sym (append_assoc old (ram_pins (get_or sites i d)) (flat_map ram_pins (drop (i + 1) sites)))
    ∙ ap (λ (pins : List Pad). pins ++ flat_map ram_pins (drop (i + 1) sites)) (sym added)
