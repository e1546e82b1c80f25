-- The settings of sites, one more at a time.
use Rattle.std.proofs.Common.{◌≡◌, ℕ, zero, suc, ◌+◌, ◌<◌, ◌≤◌, List, [], ◌∷◌, ◌++◌, length, drop, get_or, refl, sym, ap, ◌∙◌, append_assoc, append-nil, add-one, arith, Option}
use Rattle.std.proofs.lemmas.List.{at_drop_all}
use Rattle.ice_chip_rams.specs.declared.ram_site.RamSite.{RamSite}
use Rattle.ice_ram.specs.Ram.{Kept}
use Rattle.ice_ram.specs.declared.setup.Setup.{Setup}
use Rattle.ice_emit_rows_laws.specs.Settings.{Setting}
use Rattle.ice_emit_defs.specs.Rams.{site_settings}
use Rattle.ice_emit_settings.specs.Rams.{setup_in, site_gives}

none_left : (k : ℕ) → drop {A = Setup × Kept} k [] ≡ []
none_left zero = refl
none_left (suc k) = refl

-- those of a site, and of the sites behind it
one_site : (sites : List RamSite) (rams : List (Setup × Kept)) (k : ℕ) (d : RamSite) → k < length sites
    → site_settings (drop k sites) (drop k rams) ≡ site_gives (get_or sites k d) (setup_in rams k) ++ site_settings (drop (suc k) sites) (drop (suc k) rams)
one_site [] rams k d lt = absurd (omega arith)
one_site (s ∷ sites) [] zero d lt = refl
one_site (s ∷ sites) (ram ∷ rams) zero d lt = refl
one_site (s ∷ sites) [] (suc k) d lt =
    ap (λ (rs : List (Setup × Kept)). site_settings (drop k sites) rs) (sym (none_left k)) ∙ one_site sites [] k d (omega arith)
one_site (s ∷ sites) (ram ∷ rams) (suc k) d lt = one_site sites rams k d (omega arith)

pub next_site : (sites : List RamSite) (rams : List (Setup × Kept)) (k : ℕ) (s d : RamSite) (setup : Option Setup) (old new whole : List Setting) → k < length sites → s ≡ get_or sites k d → setup ≡ setup_in rams k
    → new ≡ old ++ site_gives s setup → old ++ site_settings (drop k sites) (drop k rams) ≡ whole → new ++ site_settings (drop (k + 1) sites) (drop (k + 1) rams) ≡ whole
next_site sites rams k s d setup old new whole lt is at e inv =
    let rest : List Setting = site_settings (drop (k + 1) sites) (drop (k + 1) rams) in
    ap (λ xs. xs ++ rest) e
    ∙ append_assoc old (site_gives s setup) rest
    ∙ (λ i. old ++ (site_gives (is i) (at i) ++ rest))
    ∙ ap (λ n. old ++ (site_gives (get_or sites k d) (setup_in rams k) ++ site_settings (drop n sites) (drop n rams))) (add-one k)
    ∙ ap (λ xs. old ++ xs) (sym (one_site sites rams k d lt))
    ∙ inv

no_sites : (sites : List RamSite) (rams : List (Setup × Kept)) (k : ℕ) → length sites ≤ k → site_settings (drop k sites) (drop k rams) ≡ []
no_sites sites rams k le = at_drop_all (λ (ss : List RamSite). site_settings ss (drop k rams)) sites k le

pub all_sites : (sites : List RamSite) (rams : List (Setup × Kept)) (k : ℕ) (new whole : List Setting) → length sites ≤ k → new ++ site_settings (drop k sites) (drop k rams) ≡ whole → new ≡ whole
all_sites sites rams k new whole le inv = sym (append-nil new) ∙ ap (λ xs. new ++ xs) (sym (no_sites sites rams k le)) ∙ inv
