-- The words of a block RAM among those of many.
use Rattle.std.proofs.Common.{◌≡◌, ℕ, ◌+◌, ◌<◌, Bool, true, false, List, [], ◌∷◌, length, replicate, get_or, drop, ap, sym, ◌∙◌, subst, cond, Some}
use Rattle.std.specs.List.{AllByRecursion}
use Rattle.std.specs.Map.{lookup}
use Rattle.std.specs.Prelude.{Vec, unwrap_or}
use Rattle.std.specs.declared.alloc.Global.{Global}
use Rattle.std.proofs.lemmas.List.{length-replicate, drop_more}
use Rattle.ice_base.specs.declared.number.TileAt.{TileAt}
use Rattle.ice_chip.specs.Database.{Parts, same_tile}
use Rattle.ice_chip_rams.specs.declared.ram_site.RamSite.{RamSite}
use Rattle.ice_bits.specs.Configuration.{Configuration, bits_of}
use Rattle.ice_bits.specs.Grids.{IsOf, IsContent}
use Rattle.ice_bits.specs.ContentViews.{contents_view}
use Rattle.ice_ram.specs.declared.setup.Setup.{Setup}
use Rattle.ice_ram.specs.Ram.{Kept, start}
use Rattle.ice_sim_chip_rams.specs.ClosedChips.{no_words, words_of, setup_of, ram_at}

-- the words of these that the block RAM with this lower tile has, or else others
abbrev pub found : TileAt → List (List Bool) → List (TileAt × Vec (List Bool) Global) → List (List Bool)
found t others held = unwrap_or (lookup (same_tile t) (contents_view held)) others

-- the first are its own
found_here : (t : TileAt) (others : List (List Bool)) (content : TileAt × Vec (List Bool) Global) (rest : List (TileAt × Vec (List Bool) Global)) → same_tile t content.0 ≡ true
    → found t others (content ∷ rest) ≡ content.1.items
found_here t others content rest is = ap (λ b. unwrap_or (cond b (Some content.1.items) (lookup (same_tile t) (contents_view rest))) others) is

-- the first are another's
found_behind : (t : TileAt) (others : List (List Bool)) (content : TileAt × Vec (List Bool) Global) (rest : List (TileAt × Vec (List Bool) Global)) → same_tile t content.0 ≡ false
    → found t others (content ∷ rest) ≡ found t others rest
found_behind t others content rest is = ap (λ b. unwrap_or (cond b (Some content.1.items) (lookup (same_tile t) (contents_view rest))) others) is

-- those at a place are its own
pub own_words : (t : TileAt) (others all : List (List Bool)) (held : List (TileAt × Vec (List Bool) Global)) (i : ℕ) (content : TileAt × Vec (List Bool) Global) → i < length held
    → content ≡ get_or held i content → same_tile t content.0 ≡ true → all ≡ found t others (drop i held) → all ≡ content.1.items
own_words t others all held i content lt here same from =
    from
    ∙ ap (found t others) (drop_more held i content lt)
    ∙ ap (λ (c : TileAt × Vec (List Bool) Global). found t others (c ∷ drop (i + 1) held)) (sym here)
    ∙ found_here t others content (drop (i + 1) held) same

-- those at a place are another's
pub later_words : (t : TileAt) (others all : List (List Bool)) (held : List (TileAt × Vec (List Bool) Global)) (i : ℕ) (content : TileAt × Vec (List Bool) Global) → i < length held
    → content ≡ get_or held i content → same_tile t content.0 ≡ false → all ≡ found t others (drop i held) → all ≡ found t others (drop (i + 1) held)
later_words t others all held i content lt here other from =
    from
    ∙ ap (found t others) (drop_more held i content lt)
    ∙ ap (λ (c : TileAt × Vec (List Bool) Global). found t others (c ∷ drop (i + 1) held)) (sym here)
    ∙ found_behind t others content (drop (i + 1) held) other

-- there are 256 of them
are_many : (parts : Parts) (t : TileAt) (others : List (List Bool)) (contents : List (TileAt × List (List Bool))) → AllByRecursion (IsContent parts) contents → length others ≡ 256
    → length (unwrap_or (lookup (same_tile t) contents) others) ≡ 256
are_many parts t others [] each many = many
are_many parts t others (content ∷ rest) each many = by (same_tile t content.0) (are_many parts t others rest each.1 many)
  where
    by : (b : Bool) → length (unwrap_or (lookup (same_tile t) rest) others) ≡ 256 → length (unwrap_or (cond b (Some content.1) (lookup (same_tile t) rest)) others) ≡ 256
    by true later = each.0.words.many
    by false later = later

pub words_many : (parts : Parts) (k : Configuration) (s : RamSite) → IsOf parts k → length (words_of k s) ≡ 256
unfolding no_words
words_many parts k s of = are_many parts s.lower no_words k.contents of.contents.each (length-replicate 256 (replicate 16 false))

-- a block RAM with what is settled of it and its words
pub ram_is : (parts : Parts) (k : Configuration) (s : RamSite) (setup : Setup) (words : List (List Bool)) (ram : Setup × Kept) → ram ≡ (setup, start words) → setup ≡ setup_of parts (bits_of k) s
    → words ≡ words_of k s → ram ≡ ram_at parts k s
ram_is parts k s setup words ram made settled held =
    subst (λ (ws : List (List Bool)). ram ≡ (setup_of parts (bits_of k) s, start ws)) held (subst (λ (x : Setup). ram ≡ (x, start words)) settled made)
