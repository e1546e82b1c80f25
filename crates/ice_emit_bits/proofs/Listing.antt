-- Lists of rows and of settings, one after another.
use Rattle.std.proofs.Common.{◌≡◌, ℕ, ◌+◌, ◌<◌, ◌≤◌, List, length, map, get_or, drop, sym, ap, ◌∙◌, subst}
use Rattle.std.specs.Prelude.{◌||◌}
use Rattle.ice_base.specs.declared.number.RowNo.{RowNo}
use Rattle.ice_chip.specs.Database.{Parts}
use Rattle.ice_chip.specs.FunctionNames.{function_name}
use Rattle.ice_chip_names.specs.declared.function_names.TileFunction.{TileFunction}
use Rattle.ice_bits.specs.Configuration.{Bits, Configuration}
use Rattle.ice_emit_rows_laws.specs.Settings.{sets_one, function_bits}
use Rattle.ice_emit_bits.specs.declared.settings.Setting.{Setting}
use Rattle.ice_emit_bits.specs.Adds.{Adds, AreLeft, row_bits, setting_of}
use Rattle.ice_emit_bits.specs.Lists.{setting_view, all_rows}
use Rattle.ice_emit_bits.proofs.Adding.{fewer_left, none_left, any_next, any_end, any_map}

pub rows_next : (parts : Parts) (old mid new : Configuration) (rows : List RowNo) (k : ℕ) (row : RowNo) (whole : Bits) → k < length rows → row ≡ get_or rows k row
    → AreLeft parts old mid whole (all_rows parts (drop k rows)) → Adds parts mid new (row_bits parts row.0) → AreLeft parts old new whole (all_rows parts (drop (k + 1) rows))
rows_next parts old mid new rows k row whole lt at left adds =
    fewer_left parts old mid new whole (all_rows parts (drop k rows)) (row_bits parts row.0) (all_rows parts (drop (k + 1) rows)) left adds (λ t b. any_next (λ (r : RowNo). row_bits parts r.0 t b) rows k row lt at)

pub rows_done : (parts : Parts) (old now : Configuration) (rows : List RowNo) (k : ℕ) (whole : Bits) → length rows ≤ k → AreLeft parts old now whole (all_rows parts (drop k rows)) → Adds parts old now whole
rows_done parts old now rows k whole le left = none_left parts old now whole (all_rows parts (drop k rows)) left (λ t b. any_end (λ (r : RowNo). row_bits parts r.0 t b) rows k le)

pub settings_next : (parts : Parts) (old mid new : Configuration) (all : List Setting) (k : ℕ) (x : Setting) (whole : Bits) → k < length all → x ≡ get_or all k x
    → AreLeft parts old mid whole (function_bits parts (map setting_view (drop k all))) → Adds parts mid new (λ t b. sets_one parts t b (setting_view x)) → AreLeft parts old new whole (function_bits parts (map setting_view (drop (k + 1) all)))
settings_next parts old mid new all k x whole lt at left adds =
    fewer_left parts old mid new whole (function_bits parts (map setting_view (drop k all))) (λ t b. sets_one parts t b (setting_view x)) (function_bits parts (map setting_view (drop (k + 1) all))) left adds
    (λ t b. any_map setting_view (sets_one parts t b) (drop k all) ∙ any_next (λ (y : Setting). sets_one parts t b (setting_view y)) all k x lt at
    ∙ ap (λ z. sets_one parts t b (setting_view x) || z) (sym (any_map setting_view (sets_one parts t b) (drop (k + 1) all))))

pub settings_done : (parts : Parts) (old now : Configuration) (all : List Setting) (k : ℕ) (whole : Bits) → length all ≤ k → AreLeft parts old now whole (function_bits parts (map setting_view (drop k all))) → Adds parts old now whole
settings_done parts old now all k whole le left =
    none_left parts old now whole (function_bits parts (map setting_view (drop k all))) left
    (λ t b. any_map setting_view (sets_one parts t b) (drop k all) ∙ any_end (λ (y : Setting). sets_one parts t b (setting_view y)) all k le)

-- a setting, by its function's name
pub setting_added : (parts : Parts) (old new : Configuration) (x : Setting) (f : TileFunction) (name : List ℕ) (n : ℕ) → x.function ≡ f → name ≡ function_name f → n ≡ x.number
    → Adds parts old new (λ t b. sets_one parts t b (setting_of x.tile name n)) → Adds parts old new (λ t b. sets_one parts t b (setting_view x))
setting_added parts old new x f name n is named numbered adds =
    let e : name ≡ function_name x.function = named ∙ ap function_name (sym is) in
    subst (λ (m : ℕ). Adds parts old new (λ t b. sets_one parts t b (setting_of x.tile (function_name x.function) m))) numbered
    (subst (λ (m : List ℕ). Adds parts old new (λ t b. sets_one parts t b (setting_of x.tile m n))) e adds)
