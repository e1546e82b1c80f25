-- The block RAMs that written bits have in use are those of the netlist.
use Rattle.std.proofs.Common.{◌≡◌, ℕ, zero, suc, ◌<◌, ◌≤◌, Bool, true, false, cond, Option, Some, List, [], ◌∷◌, length, map, take, filter, refl, sym, ap, ◌∙◌, arith}
use Rattle.std.specs.Map.{lookup}
use Rattle.std.specs.Prelude.{unwrap_or}
use Rattle.std.proofs.lemmas.Bool.{false_from_ne_true}
use Rattle.std.proofs.lemmas.Option.{none-some, same_Some}
use Rattle.ice_base.specs.declared.number.TileAt.{TileAt}
use Rattle.ice_base.proofs.Keys.{tile_same, tile_self}
use Rattle.ice_base_values.specs.Order.{At, Has}
use Rattle.ice_chip.specs.Database.{Parts, same_tile}
use Rattle.ice_chip.specs.IsRead.{IsRead}
use Rattle.ice_chip_rams.specs.Sites.{sites}
use Rattle.ice_chip_rams.specs.declared.ram_site.RamSite.{RamSite}
use Rattle.ice_chip_sockets.proofs.SiteFacts.{sites_once}
use Rattle.ice_bits.specs.Configuration.{Configuration, bits_of}
use Rattle.ice_decode.specs.Rams.{is_on, rams as rams_on}
use Rattle.ice_ram.specs.Ram.{Kept, start}
use Rattle.ice_ram.specs.declared.setup.Setup.{Setup}
use Rattle.ice_sim_chip_rams.specs.ClosedChips.{setup_of, no_words, words_of, ram_at, rams_at}
use Rattle.ice_emit_defs.specs.Rams.{site_contents}
use Rattle.ice_emit_closed_laws.specs.ClosedPlans.{HoldsRams}
use Rattle.ice_emit_closed_laws.proofs.Levels.{item}

-- the first so many pass, and no others
filter_first : {X : Type 0} (test : X → Bool) (xs : List X) (n : ℕ) → ((j : ℕ) (x : X) → At xs j x → j < n → test x ≡ true) → ((j : ℕ) (x : X) → At xs j x → n ≤ j → test x ≡ false) → filter test xs ≡ take n xs
filter_first test [] zero on off = refl
filter_first test [] (suc n) on off = refl
filter_first test (x ∷ xs) zero on off =
    ap (λ b. cond b (x ∷ filter test xs) (filter test xs)) (off 0 x refl (omega arith)) ∙ filter_first test xs zero (λ j y at lt. absurd (omega (arith, lt))) (λ j y at le. off (suc j) y at (omega arith))
filter_first test (x ∷ xs) (suc n) on off =
    ap (λ b. cond b (x ∷ filter test xs) (filter test xs)) (on 0 x refl (omega arith))
    ∙ ap (λ ys. x ∷ ys) (filter_first test xs n (λ j y at lt. on (suc j) y at (omega (arith, lt))) (λ j y at le. off (suc j) y at (omega (arith, le))))

-- the words that the block RAM of a site holds
found_words : (list : List RamSite) (rams : List (Setup × Kept)) (j : ℕ) (s : RamSite) (ram : Setup × Kept) → ((i k : ℕ) (a b : RamSite) → At list i a → At list k b → a.lower ≡ b.lower → i ≡ k) → At list j s → At rams j ram
    → lookup (same_tile s.lower) (site_contents list rams) ≡ Some ram.1.words
found_words [] rams j s ram once at there = absurd (none-some s at)
found_words (x ∷ list) [] j s ram once at there = absurd (none-some ram there)
found_words (x ∷ list) (y ∷ rams) zero s ram once at there =
    ap (λ b. cond b (Some y.1.words) (lookup (same_tile s.lower) (site_contents list rams))) (ap (λ (z : RamSite). same_tile s.lower z.lower) (same_Some x s at) ∙ tile_self s.lower)
    ∙ ap (λ (z : Setup × Kept). Some z.1.words) (same_Some y ram there)
found_words (x ∷ list) (y ∷ rams) (suc j) s ram once at there =
    let other = false_from_ne_true (same_tile s.lower x.lower) (λ e. let same : suc j ≡ 0 = once (suc j) 0 s x at refl (tile_same s.lower x.lower e) in omega (arith, same)) in
    ap (λ b. cond b (Some y.1.words) (lookup (same_tile s.lower) (site_contents list rams))) other
    ∙ found_words list rams j s ram (λ i k a b one two e. (let same : suc i ≡ suc k = once (suc i) (suc k) a b one two e in omega (arith, same))) at there

-- what stands at so many first places, made of what stands there
made_first : {X Y : Type 0} (f : X → Y) (xs : List X) (ys : List Y) → length ys ≤ length xs → ((j : ℕ) (x : X) (y : Y) → At xs j x → At ys j y → f x ≡ y) → map f (take (length ys) xs) ≡ ys
made_first f [] [] few made = refl
made_first f (x ∷ xs) [] few made = refl
made_first f [] (y ∷ ys) few made = absurd (omega (arith, few))
made_first f (x ∷ xs) (y ∷ ys) few made =
    let one = made 0 x y refl refl in
    let rest = made_first f xs ys (omega (arith, few)) (λ j a b at there. made (suc j) a b at there) in
    λ i. one i ∷ rest i

module _ (parts : Parts) (read : IsRead parts) (rams : List (Setup × Kept)) (k : Configuration) (holds : HoldsRams parts rams k) where
  -- the first sites
  pub first_on : rams_on parts (bits_of k) ≡ take (length rams) (sites parts)
  first_on =
      filter_first (is_on parts (bits_of k)) (sites parts) (length rams)
      (λ j s at lt. let ram = item rams j lt in holds.settled.on j s ram.0 at ram.1)
      (λ j s at le. holds.settled.off j s at le)

  one_held : ((ram : Setup × Kept) → Has rams ram → ram.1 ≡ start ram.1.words) → (j : ℕ) (s : RamSite) (ram : Setup × Kept) → At (sites parts) j s → At rams j ram → ram_at parts k s ≡ ram
  one_held started j s ram at there =
      let settled : setup_of parts (bits_of k) s ≡ ram.0 = holds.settled.settled j s ram at there in
      let words : words_of k s ≡ ram.1.words =
      ap (λ (all : List (TileAt × List (List Bool))). unwrap_or (lookup (same_tile s.lower) all) no_words) holds.contents
      ∙ ap (λ (o : Option (List (List Bool))). unwrap_or o no_words) (found_words (sites parts) rams j s ram (sites_once parts read) at there) in
      let begun = started ram (j, there) in
      (λ i. (settled i, start (words i))) ∙ (λ i. (ram.0, sym begun i))

  -- with what is settled of them and held in them
  pub all_held : length rams ≤ length (sites parts) → ((ram : Setup × Kept) → Has rams ram → ram.1 ≡ start ram.1.words) → rams_at parts k (take (length rams) (sites parts)) ≡ rams
  all_held enough started = made_first (ram_at parts k) (sites parts) rams enough (one_held started)
