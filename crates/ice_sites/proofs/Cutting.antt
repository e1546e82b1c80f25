-- The stretches of what is left of a list of sites.
use Rattle.std.proofs.Common.{◌≡◌, ℕ, suc, ◌+◌, ◌<◌, ◌≤◌, Bool, true, false, cond, List, [], ◌∷◌, ◌++◌, length, drop, get_or, sym, ap, ◌∙◌, arith, drop-cons, append_assoc, append-nil}
use Rattle.std.proofs.lemmas.List.{at_drop_all}
use Rattle.ice_base.specs.declared.number.TileAt.{TileAt}
use Rattle.ice_sites.specs.Stretches.{goes_on, cut}

first : (sites : List TileAt) (k : ℕ) (d : TileAt) → k < length sites → drop k sites ≡ get_or sites k d ∷ drop (k + 1) sites
first sites k d lt = let one : k + 1 ≡ suc k = omega arith in rw one (drop-cons sites k d lt)

-- a stretch that goes on
pub goes : (link : TileAt → TileAt → Bool) (before sites : List TileAt) (k : ℕ) (d : TileAt) → k < length sites → goes_on link (get_or sites k d) (drop (k + 1) sites) ≡ true
    → cut link before (drop k sites) ≡ cut link (before ++ get_or sites k d ∷ []) (drop (k + 1) sites)
goes link before sites k d lt is = ap (cut link before) (first sites k d lt)
    ∙ ap (λ b. cond b (cut link (before ++ get_or sites k d ∷ []) (drop (k + 1) sites)) ((before ++ get_or sites k d ∷ []) ∷ cut link [] (drop (k + 1) sites))) is

-- a stretch that ends
pub ends : (link : TileAt → TileAt → Bool) (before sites : List TileAt) (k : ℕ) (d : TileAt) → k < length sites → goes_on link (get_or sites k d) (drop (k + 1) sites) ≡ false
    → cut link before (drop k sites) ≡ (before ++ get_or sites k d ∷ []) ∷ cut link [] (drop (k + 1) sites)
ends link before sites k d lt is = ap (cut link before) (first sites k d lt)
    ∙ ap (λ b. cond b (cut link (before ++ get_or sites k d ∷ []) (drop (k + 1) sites)) ((before ++ get_or sites k d ∷ []) ∷ cut link [] (drop (k + 1) sites))) is

-- a turn of the loop at which the stretch goes on
pub goes_step : (link : TileAt → TileAt → Bool) (sites : List TileAt) (k : ℕ) (d : TileAt) (before now : List TileAt) (old new all : List (List TileAt)) → k < length sites
    → goes_on link (get_or sites k d) (drop (k + 1) sites) ≡ true → now ≡ before ++ get_or sites k d ∷ [] → new ≡ old → old ++ cut link before (drop k sites) ≡ all → new ++ cut link now (drop (k + 1) sites) ≡ all
goes_step link sites k d before now old new all lt on made same were = rw (same, made) (ap (λ xs. old ++ xs) (sym (goes link before sites k d lt on)) ∙ were)

-- one at which it ends
pub ends_step : (link : TileAt → TileAt → Bool) (sites : List TileAt) (k : ℕ) (d : TileAt) (before tiles now : List TileAt) (old new all : List (List TileAt)) → k < length sites
    → goes_on link (get_or sites k d) (drop (k + 1) sites) ≡ false → tiles ≡ before ++ get_or sites k d ∷ [] → now ≡ [] → new ≡ old ++ tiles ∷ [] → old ++ cut link before (drop k sites) ≡ all
    → new ++ cut link now (drop (k + 1) sites) ≡ all
ends_step link sites k d before tiles now old new all lt off made none added were =
    rw (added, none, made) (append_assoc old ((before ++ get_or sites k d ∷ []) ∷ []) (cut link [] (drop (k + 1) sites)) ∙ ap (λ xs. old ++ xs) (sym (ends link before sites k d lt off)) ∙ were)

pub all_cut : (link : TileAt → TileAt → Bool) (sites : List TileAt) (k : ℕ) (before : List TileAt) (old all : List (List TileAt)) → length sites ≤ k → old ++ cut link before (drop k sites) ≡ all → old ≡ all
all_cut link sites k before old all le were = sym (append-nil old) ∙ sym (ap (λ xs. old ++ xs) (at_drop_all (cut link before) sites k le)) ∙ were
