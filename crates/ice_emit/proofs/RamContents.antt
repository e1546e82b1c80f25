-- The words of block RAMs: one more at a time, and all of them as contents of a chip.
use Rattle.std.proofs.Common.{◌≡◌, ◌⊎◌, inl, inr, ℕ, zero, suc, ◌+◌, ◌<◌, ◌≤◌, Bool, true, is_some, List, [], ◌∷◌, length, get_or, drop, min, refl, sym, ap, ◌∙◌, append_assoc, append-nil, arith}
use Rattle.std.specs.List.{AllByRecursion}
use Rattle.std.specs.Map.{keys_of}
use Rattle.std.proofs.lemmas.Bool.{cases_lt}
use Rattle.std.proofs.lemmas.List.{at_drop_more, at_drop_all}
use Rattle.std.proofs.lemmas.Option.{none-some, same_Some}
use Rattle.ice_base.specs.declared.number.TileAt.{TileAt}
use Rattle.ice_base.proofs.Keys.{tile_same}
use Rattle.ice_base_values.specs.Order.{At, Has, StandOnce}
use Rattle.ice_base_values.proofs.Members.{Has_all}
use Rattle.ice_base_values.proofs.Once.{distinct_from_once}
use Rattle.ice_base_values.proofs.Together.{Has_head, Has_tail}
use Rattle.ice_bits.specs.Configuration.{Configuration}
use Rattle.ice_bits.specs.Grids.{AreWords, IsContent, AreContents}
use Rattle.ice_bits.specs.Rewriting.{with_content}
use Rattle.ice_chip.specs.Database.{Parts, same_tile}
use Rattle.ice_chip.specs.IsRead.{IsChip}
use Rattle.ice_chip_rams.specs.Sites.{site_at, sites}
use Rattle.ice_chip_rams.specs.declared.ram_site.RamSite.{RamSite}
use Rattle.ice_chip_sockets.proofs.SiteFacts.{site_found, sites_once}
use Rattle.ice_ram.specs.Ram.{Kept}
use Rattle.ice_ram.specs.declared.setup.Setup.{Setup}
use Rattle.ice_emit_defs.specs.Rams.{IsFormedRam, AreFormed, site_contents}
use Rattle.ice_emit.specs.Views.{with_contents}

-- ---- one more
drop_both : (sites : List RamSite) (rams : List (Setup × Kept)) (i : ℕ) (d : RamSite) (e : Setup × Kept) → i < length sites → i < length rams
    → site_contents (drop i sites) (drop i rams) ≡ ((get_or sites i d).lower, (get_or rams i e).1.words) ∷ site_contents (drop (i + 1) sites) (drop (i + 1) rams)
drop_both sites rams i d e lt below =
    at_drop_more (λ (ss : List RamSite). site_contents ss (drop i rams)) sites i d lt ∙ at_drop_more (λ (rs : List (Setup × Kept)). site_contents (get_or sites i d ∷ drop (i + 1) sites) rs) rams i e below

pub words_more : (sites : List RamSite) (rams : List (Setup × Kept)) (i : ℕ) (s d : RamSite) (ram : Setup × Kept) (old new whole : Configuration) → i < length sites → i < length rams → s ≡ get_or sites i d → ram ≡ get_or rams i ram
    → new ≡ with_content s.lower ram.1.words old → with_contents (site_contents (drop i sites) (drop i rams)) old ≡ whole → with_contents (site_contents (drop (i + 1) sites) (drop (i + 1) rams)) new ≡ whole
words_more sites rams i s d ram old new whole lt below at ram_at e inv =
    let rest : List (TileAt × List (List Bool)) = site_contents (drop (i + 1) sites) (drop (i + 1) rams) in
    ap (with_contents rest) e
    ∙ ap (λ (cs : List (TileAt × List (List Bool))). record old { contents = cs }) (append_assoc old.contents ((s.lower, ram.1.words) ∷ []) rest)
    ∙ (λ k. with_contents (((at k).lower, (ram_at k).1.words) ∷ rest) old)
    ∙ ap (λ (cs : List (TileAt × List (List Bool))). with_contents cs old) (sym (drop_both sites rams i d ram lt below))
    ∙ inv

no_more : (sites : List RamSite) → site_contents sites [] ≡ []
no_more [] = refl
no_more (s ∷ sites) = refl

none_behind : (sites : List RamSite) (rams : List (Setup × Kept)) (i : ℕ) → min (length sites) (length rams) ≤ i → site_contents (drop i sites) (drop i rams) ≡ []
none_behind sites rams i le = by (cases_lt i (length sites))
  where
    by : (i < length sites) ⊎ (length sites ≤ i) → site_contents (drop i sites) (drop i rams) ≡ []
    by (inl lt) = at_drop_all (λ (rs : List (Setup × Kept)). site_contents (drop i sites) rs) rams i (omega arith) ∙ no_more (drop i sites)
    by (inr ge) = at_drop_all (λ (ss : List RamSite). site_contents ss (drop i rams)) sites i ge

pub words_end : (sites : List RamSite) (rams : List (Setup × Kept)) (i : ℕ) (made whole : Configuration) → min (length sites) (length rams) ≤ i → with_contents (site_contents (drop i sites) (drop i rams)) made ≡ whole → made ≡ whole
words_end sites rams i made whole le inv =
    sym (ap (λ (cs : List (TileAt × List (List Bool))). record made { contents = cs }) (append-nil made.contents)) ∙ sym (ap (λ (cs : List (TileAt × List (List Bool))). with_contents cs made) (none_behind sites rams i le)) ∙ inv

-- ---- all of them
each_content : (parts : Parts) (sites : List RamSite) (rams : List (Setup × Kept)) → ((j : ℕ) (s : RamSite) → At sites j s → is_some (site_at parts s.lower) ≡ true)
    → ((ram : Setup × Kept) → Has rams ram → AreWords ram.1.words) → AllByRecursion (IsContent parts) (site_contents sites rams)
each_content parts [] rams found words = tt
each_content parts (s ∷ sites) [] found words = tt
each_content parts (s ∷ sites) (ram ∷ rams) found words = (
  record { site = found 0 s refl; words = words ram (Has_head ram rams) },
  each_content parts sites rams (λ j u at. found (suc j) u at) (λ r has. words r (Has_tail ram r rams has)),
)

key_at : (sites : List RamSite) (rams : List (Setup × Kept)) (i : ℕ) (t : TileAt) → At (keys_of (site_contents sites rams)) i t → (s : RamSite) × At sites i s × (s.lower ≡ t)
key_at [] rams i t at = absurd (none-some t at)
key_at (s ∷ sites) [] i t at = absurd (none-some t at)
key_at (s ∷ sites) (ram ∷ rams) zero t at = (s, refl, same_Some s.lower t at)
key_at (s ∷ sites) (ram ∷ rams) (suc i) t at = key_at sites rams i t at

module _ (parts : Parts) (chip : IsChip parts) (rams : List (Setup × Kept)) (formed : AreFormed rams) where
  found : (j : ℕ) (s : RamSite) → At (sites parts) j s → is_some (site_at parts s.lower) ≡ true
  found j s at = ap is_some (site_found parts j s at)

  keys_once : StandOnce (keys_of (site_contents (sites parts) rams))
  keys_once i j t a b =
      let one = key_at (sites parts) rams i t a in
      let other = key_at (sites parts) rams j t b in
      sites_once parts chip.read i j one.0 other.0 one.1 other.1 (one.2 ∙ sym other.2)

  pub are_contents : AreContents parts (site_contents (sites parts) rams)
  are_contents = record {
    each = each_content parts (sites parts) rams found (λ ram has. (Has_all IsFormedRam rams ram formed has).words);
    once = distinct_from_once same_tile tile_same (keys_of (site_contents (sites parts) rams)) keys_once;
  }
