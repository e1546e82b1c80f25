-- Stretches: longest pieces of linked sites.
use Rattle.std.specs.Prelude.{ℕ, zero, suc, Bool, false, List, [], ◌∷◌, ◌++◌, filter, if◌then◌else◌}
use Rattle.ice_base.specs.declared.number.TileAt.{TileAt}
use Rattle.ice_chip.specs.Database.{Parts}
use Rattle.ice_sites.specs.Site.{is_site, is_link}

-- ---- places in order; a chip has at most 256 columns, and 256 places in each
-- the places of a column below a height, from below
unfoldable pub column : ℕ → ℕ → List TileAt
column x zero = []
column x (suc y) = column x y ++ (record { x = x; y = y }) ∷ []

-- the places of so many columns, column by column
unfoldable pub columns : ℕ → List TileAt
columns zero = []
columns (suc x) = columns x ++ column x 256

-- the sites of a chip, by column and then from below
abbrev pub sites_in_order : Parts → List TileAt
sites_in_order parts = filter (is_site parts) (columns 256)

-- ---- stretches
-- the next of these sites, if there is one, is linked to this one
abbrev pub goes_on : (TileAt → TileAt → Bool) → TileAt → List TileAt → Bool
goes_on link t [] = false
goes_on link t (u ∷ sites) = link t u

-- the stretches of these sites, the first of which begins with the sites `before`: one ends where the next site is not linked
abbrev pub cut : (TileAt → TileAt → Bool) → List TileAt → List TileAt → List (List TileAt)
cut link before [] = []
cut link before (t ∷ sites) = if goes_on link t sites then cut link (before ++ t ∷ []) sites else (before ++ t ∷ []) ∷ cut link [] sites

-- the stretches of a chip, by column and then from below
abbrev pub stretches_of : Parts → List (List TileAt)
stretches_of parts = cut (is_link parts) [] (sites_in_order parts)
