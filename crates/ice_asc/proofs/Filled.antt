-- Block RAMs whose words a text has said, each once, and the words of a row.
use Rattle.std.proofs.Common.{◌≡◌, ℕ, ◌+◌, ◌*◌, Bool, false, List, [], ◌∷◌, ◌++◌, length, map, is_some, true, refl, sym, ap, subst}
use Rattle.std.specs.Prelude.{All}
use Rattle.std.specs.List.{IsDistinct, list_any, range_with_len}
use Rattle.std.specs.Map.{keys_of}
use Rattle.std.proofs.lemmas.Bool.{or_parts}
use Rattle.std.proofs.lemmas.List.Elements.{All-nil, All-cons}
use Rattle.std.proofs.lemmas.List.FromFn.{length-map-range_with_len}
use Rattle.ice_base.specs.declared.number.TileAt.{TileAt}
use Rattle.ice_base.proofs.TextLines.{all_append}
use Rattle.ice_chip.specs.Database.{Parts, same_tile}
use Rattle.ice_chip_rams.specs.Sites.{site_at}
use Rattle.ice_bits.specs.Configuration.{Configuration}
use Rattle.ice_bits.specs.Grids.{IsOf, IsContent, AreWords}
use Rattle.ice_bits.specs.Rewriting.{with_content}
use Rattle.ice_asc.specs.Hex.{row_bit, row_word, row_words}
use Rattle.ice_asc.proofs.WrittenLines.{flipped}

-- ---- one more
pub keys_push : {X : Type 0} (es : List (TileAt × X)) (e : TileAt × X) → keys_of (es ++ e ∷ []) ≡ keys_of es ++ e.0 ∷ []
keys_push [] e = refl
keys_push (x ∷ es) e = ap (λ ks. x.0 ∷ ks) (keys_push es e)

pub none_apart : IsDistinct same_tile []
unfolding IsDistinct
none_apart = tt

pub distinct_push : (t : TileAt) (ts : List TileAt) → IsDistinct same_tile ts → list_any (same_tile t) ts ≡ false → IsDistinct same_tile (ts ++ t ∷ [])
unfolding IsDistinct
distinct_push t [] apart new = (tt, tt)
distinct_push t (u ∷ us) apart new =
    let both = or_parts (same_tile t u) (list_any (same_tile t) us) new in
    (all_append (λ (v : TileAt). same_tile u v ≡ false) us (t ∷ []) apart.0 (flipped t u both.0, tt), distinct_push t us apart.1 both.1)

pub with_content_is_of : (parts : Parts) (k : Configuration) (t : TileAt) (words : List (List Bool)) → IsOf parts k → is_some (site_at parts t) ≡ true → AreWords words
    → IsDistinct same_tile (keys_of k.contents ++ t ∷ []) → IsOf parts (with_content t words k)
with_content_is_of parts k t words of site are apart = record {
  grids = of.grids;
  kinds = of.kinds;
  contents = record {
    each = all_append (IsContent parts) k.contents ((t, words) ∷ []) of.contents.each (record { site = site; words = are }, tt);
    once = subst (IsDistinct same_tile) (sym (keys_push k.contents (t, words))) apart;
  };
}

-- ---- the words of a row have sixteen bits
all_wide : (f : ℕ → List Bool) (ks : List ℕ) → ((k : ℕ) → length (f k) ≡ 16) → All (λ (word : List Bool). length word ≡ 16) (map f ks)
all_wide f [] wide = All-nil (λ (word : List Bool). length word ≡ 16)
all_wide f (k ∷ ks) wide = All-cons (λ (word : List Bool). length word ≡ 16) (f k) (map f ks) (wide k) (all_wide f ks wide)

pub row_words_wide : (values : List ℕ) → All (λ (word : List Bool). length word ≡ 16) (row_words values)
unfolding row_words
row_words_wide values = all_wide (row_word values) (range_with_len 0 16) (λ k. length-map-range_with_len (λ b. row_bit values (16 * k + b)) 0 16)
