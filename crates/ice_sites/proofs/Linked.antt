-- The stretches hold sites, each linked to the next.
use Rattle.std.proofs.Common.{◌≡◌, ℕ, zero, suc, ◌+◌, Bool, true, false, cond, Option, Some, List, [], ◌∷◌, ◌++◌, filter, slice_get, refl, subst, arith}
use Rattle.ice_base.specs.declared.number.TileAt.{TileAt}
use Rattle.ice_chip.specs.Database.{Parts}
use Rattle.ice_sites.specs.Site.{is_site, is_link}
use Rattle.ice_sites.specs.Stretches.{goes_on, cut, columns, sites_in_order, stretches_of}
use Rattle.ice_sites.specs.Legal.{IsInStretch, IsAmong, Follows, IsLegal, IsLegalOn, tile_at}

-- ---- a fact of each site
abbrev Each : (TileAt → Bool) → List TileAt → Type 0
Each test [] = Unit {0}
Each test (t ∷ sites) = (test t ≡ true) × Each test sites

abbrev EachOf : (TileAt → Bool) → List (List TileAt) → Type 0
EachOf test [] = Unit {0}
EachOf test (s ∷ stretches) = Each test s × EachOf test stretches

each_more : (test : TileAt → Bool) (xs : List TileAt) (t : TileAt) → Each test xs → test t ≡ true → Each test (xs ++ t ∷ [])
each_more test [] t each is = (is, tt)
each_more test (x ∷ xs) t each is = (each.0, each_more test xs t each.1 is)

cut_each : (test : TileAt → Bool) (link : TileAt → TileAt → Bool) (before sites : List TileAt) → Each test before → Each test sites → EachOf test (cut link before sites)
cut_each test link before [] b s = tt
cut_each test link before (t ∷ sites) b s = by (goes_on link t sites) (cut_each test link (before ++ t ∷ []) sites (each_more test before t b s.0) s.1) (cut_each test link [] sites tt s.1)
  where
    by : (e : Bool) → EachOf test (cut link (before ++ t ∷ []) sites) → EachOf test (cut link [] sites)
        → EachOf test (cond e (cut link (before ++ t ∷ []) sites) ((before ++ t ∷ []) ∷ cut link [] sites))
    by true longer other = longer
    by false longer other = (each_more test before t b s.0, other)

filter_each : (test : TileAt → Bool) (places : List TileAt) → Each test (filter test places)
filter_each test [] = tt
filter_each test (t ∷ places) = by (test t) refl (filter_each test places)
  where
    by : (e : Bool) → test t ≡ e → Each test (filter test places) → Each test (cond e (t ∷ filter test places) (filter test places))
    by true is others = (is, others)
    by false is others = others

each_at : (test : TileAt → Bool) (sites : List TileAt) (j : ℕ) (t : TileAt) → Each test sites → slice_get sites j ≡ Some t → test t ≡ true
each_at test [] j t each at = absurd (cc)
each_at test (s ∷ sites) zero t each at = let same : s ≡ t = cc at in subst (λ x. test x ≡ true) same each.0
each_at test (s ∷ sites) (suc j) t each at = each_at test sites j t each.1 at

stretch_each : (test : TileAt → Bool) (stretches : List (List TileAt)) (i j : ℕ) (t : TileAt) → EachOf test stretches → IsInStretch stretches i j t → test t ≡ true
stretch_each test [] i j t each at = absurd (cc)
stretch_each test (s ∷ stretches) zero j t each at = each_at test s j t each.0 at
stretch_each test (s ∷ stretches) (suc i) j t each at = stretch_each test stretches i j t each.1 at

-- ---- links
abbrev Chain : (TileAt → TileAt → Bool) → List TileAt → Type 0
Chain link [] = Unit {0}
Chain link (t ∷ []) = Unit {0}
Chain link (t ∷ u ∷ sites) = (link t u ≡ true) × Chain link (u ∷ sites)

abbrev Chains : (TileAt → TileAt → Bool) → List (List TileAt) → Type 0
Chains link [] = Unit {0}
Chains link (s ∷ stretches) = Chain link s × Chains link stretches

chain_more : (link : TileAt → TileAt → Bool) (before : List TileAt) (t u : TileAt) → Chain link (before ++ t ∷ []) → link t u ≡ true → Chain link ((before ++ t ∷ []) ++ u ∷ [])
chain_more link [] t u chain is = (is, tt)
chain_more link (b ∷ []) t u chain is = (chain.0, (is, tt))
chain_more link (b ∷ c ∷ before) t u chain is = (chain.0, chain_more link (c ∷ before) t u chain.1 is)

cut_chains : (link : TileAt → TileAt → Bool) (before : List TileAt) (t : TileAt) (sites : List TileAt) → Chain link (before ++ t ∷ []) → Chains link (cut link before (t ∷ sites))
cut_chains link before t [] chain = (chain, tt)
cut_chains link before t (u ∷ sites) chain = by (link t u) refl (λ is. cut_chains link (before ++ t ∷ []) u sites (chain_more link before t u chain is)) (cut_chains link [] u sites tt)
  where
    by : (e : Bool) → link t u ≡ e → (link t u ≡ true → Chains link (cut link (before ++ t ∷ []) (u ∷ sites))) → Chains link (cut link [] (u ∷ sites))
        → Chains link (cond e (cut link (before ++ t ∷ []) (u ∷ sites)) ((before ++ t ∷ []) ∷ cut link [] (u ∷ sites)))
    by true is longer others = longer is
    by false is longer others = (chain, others)

all_chains : (link : TileAt → TileAt → Bool) (sites : List TileAt) → Chains link (cut link [] sites)
all_chains link [] = tt
all_chains link (t ∷ sites) = cut_chains link [] t sites tt

chain_at : (link : TileAt → TileAt → Bool) (sites : List TileAt) (j : ℕ) (low high : TileAt) → Chain link sites → slice_get sites j ≡ Some low → slice_get sites (suc j) ≡ Some high → link low high ≡ true
chain_at link [] j low high chain at at' = absurd (cc)
chain_at link (t ∷ []) j low high chain at at' = absurd (cc)
chain_at link (t ∷ u ∷ sites) zero low high chain at at' =
    let same : t ≡ low = cc at in
    let same' : u ≡ high = cc at' in
    subst (λ x. link x high ≡ true) same (subst (λ x. link t x ≡ true) same' chain.0)
chain_at link (t ∷ u ∷ sites) (suc j) low high chain at at' = chain_at link (u ∷ sites) j low high chain.1 at at'

stretch_chain : (link : TileAt → TileAt → Bool) (stretches : List (List TileAt)) (i j : ℕ) (low high : TileAt) → Chains link stretches → IsInStretch stretches i j low → IsInStretch stretches i (suc j) high → link low high ≡ true
stretch_chain link [] i j low high chains at at' = absurd (cc)
stretch_chain link (s ∷ stretches) zero j low high chains at at' = chain_at link s j low high chains.0 at at'
stretch_chain link (s ∷ stretches) (suc i) j low high chains at at' = stretch_chain link stretches i j low high chains.1 at at'

-- ---- placements
among_is_site : (parts : Parts) (t : TileAt) → IsAmong (stretches_of parts) t → is_site parts t ≡ true
among_is_site parts t among =
    stretch_each (is_site parts) (stretches_of parts) among.0 among.1.0 t (cut_each (is_site parts) (is_link parts) [] (sites_in_order parts) tt (filter_each (is_site parts) (columns 256))) among.1.1

follows_is_link : (parts : Parts) (low high : TileAt) → Follows (stretches_of parts) low high → is_link parts low high ≡ true
follows_is_link parts low high follows =
    let one : follows.1.0 + 1 ≡ suc follows.1.0 = omega arith in
    stretch_chain (is_link parts) (stretches_of parts) follows.0 follows.1.0 low high (all_chains (is_link parts) (sites_in_order parts)) follows.1.1.0
    (subst (λ j. IsInStretch (stretches_of parts) follows.0 j high) one follows.1.1.1)

pub legal_on : (parts : Parts) (chunks : List (Option (ℕ × ℕ))) (at : List TileAt) → IsLegal (stretches_of parts) chunks at → IsLegalOn parts chunks at
legal_on parts chunks at legal = record {
  counts = legal.counts;
  sites = λ c lt. among_is_site parts (tile_at at c) (legal.sites c lt);
  apart = legal.apart;
  linked = λ c d lt lt' next. follows_is_link parts (tile_at at c) (tile_at at d) (legal.linked c d lt lt' next);
}
