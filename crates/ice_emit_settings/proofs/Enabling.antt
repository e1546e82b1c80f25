-- Which inputs are disabled, by the pads that are read.
use Rattle.std.proofs.Common.{◌≡◌, ℕ, ◌+◌, ◌<◌, ◌≤◌, Bool, true, false, not, Option, List, [], ◌∷◌, ◌++◌, length, drop, get_or, refl, sym, ap, ◌∙◌, subst}
use Rattle.std.specs.Prelude.{◌&&◌, ◌||◌, slice_get, flat_map, if◌then◌else◌}
use Rattle.std.specs.List.{list_any}
use Rattle.std.specs.Option.{option_map_or}
use Rattle.std.proofs.lemmas.List.Folds.{list_any-append}
use Rattle.std.proofs.lemmas.List.Sums.{fold-append}
use Rattle.indexmap.specs.IndexSet.{insert_key, insert_all}
use Rattle.ice_chip.proofs.Keys.{pad_same, pad_self}
use Rattle.ice_chip.specs.Names.{input_enable_function}
use Rattle.ice_chip.specs.Database.{same_pad}
use Rattle.ice_chip.specs.declared.rows.Pad.{Pad}
use Rattle.ice_cells.specs.declared.design.DesignPad.{DesignPad}
use Rattle.ice_emit_nets.specs.Sides.{sides}
use Rattle.ice_emit_nets.proofs.Siding.{sides_are, sides_step, sides_end}
use Rattle.ice_emit_rows_laws.specs.Settings.{Setting}
use Rattle.ice_emit_bits.proofs.Adding.{or_assoc}
use Rattle.ice_emit_defs.specs.Functions.{setting_if, read_pads, is_read_pad, is_needed, enable_settings}
use Rattle.ice_emit_settings.specs.Enables.{read_pads_at, one_needed, needed_places, disabled_by}

pub read_added : (old new : List Pad) (port : DesignPad) (pad : Pad) → port.reads ≡ true → new ≡ insert_key same_pad old pad → new ≡ insert_all same_pad old (read_pads_at port pad)
read_added old new port pad is e = e ∙ ap (λ x. insert_all same_pad old (if x then pad ∷ [] else [])) (sym is)

pub none_added : (old : List Pad) (port : DesignPad) (pad : Pad) → port.reads ≡ false → old ≡ insert_all same_pad old (read_pads_at port pad)
none_added old port pad is = ap (λ x. insert_all same_pad old (if x then pad ∷ [] else [])) (sym is)

pub needed_added : (old new read : List Pad) (pad enable : Pad) → list_any (same_pad pad) read ≡ true → new ≡ insert_key same_pad old enable → new ≡ insert_all same_pad old (one_needed read (pad, enable))
needed_added old new read pad enable is e = e ∙ ap (λ x. insert_all same_pad old (if x then enable ∷ [] else [])) (sym is)

pub none_needed : (old read : List Pad) (pad enable : Pad) → list_any (same_pad pad) read ≡ false → old ≡ insert_all same_pad old (one_needed read (pad, enable))
none_needed old read pad enable is = ap (λ x. insert_all same_pad old (if x then enable ∷ [] else [])) (sym is)

all_append : (old a b : List Pad) → insert_all same_pad old (a ++ b) ≡ insert_all same_pad (insert_all same_pad old a) b
all_append old a b = fold-append (insert_key same_pad) old a b

-- ---- the pads that are read
reads_are : (pads : List Pad) (ports : List DesignPad) → sides read_pads_at pads 0 ports ≡ read_pads pads ports
reads_are = sides_are read_pads_at read_pads (λ ports. refl) right step
  where
    right : (pads : List Pad) → read_pads pads [] ≡ []
    right [] = refl
    right (p ∷ pads) = refl

    step : (pad : Pad) (pads : List Pad) (port : DesignPad) (ports : List DesignPad) → read_pads (pad ∷ pads) (port ∷ ports) ≡ read_pads_at port pad ++ read_pads pads ports
    step pad pads port ports = by port.reads
      where
        by : (x : Bool) → (if x then pad ∷ read_pads pads ports else read_pads pads ports) ≡ (if x then pad ∷ [] else []) ++ read_pads pads ports
        by true = refl
        by false = refl

pub next_read : (pads : List Pad) (ports : List DesignPad) (k : ℕ) (port d : DesignPad) (o : Option Pad) (old new whole : List Pad) → k < length ports → port ≡ get_or ports k d → o ≡ slice_get pads k
    → new ≡ insert_all same_pad old (option_map_or (read_pads_at port) o []) → insert_all same_pad old (sides read_pads_at pads k (drop k ports)) ≡ whole → insert_all same_pad new (sides read_pads_at pads (k + 1) (drop (k + 1) ports)) ≡ whole
next_read pads ports k port d o old new whole lt is at e inv =
    let here : List Pad = option_map_or (read_pads_at port) o [] in
    let rest : List Pad = sides read_pads_at pads (k + 1) (drop (k + 1) ports) in
    let split : here ++ rest ≡ sides read_pads_at pads k (drop k ports) = sides_step read_pads_at pads ports k port d o [] here _ lt is at refl refl in
    ap (λ ks. insert_all same_pad ks rest) e ∙ sym (all_append old here rest) ∙ ap (insert_all same_pad old) split ∙ inv

pub all_read : (pads : List Pad) (ports : List DesignPad) (k : ℕ) (old new : List Pad) → length ports ≤ k → insert_all same_pad new (sides read_pads_at pads k (drop k ports)) ≡ insert_all same_pad old (sides read_pads_at pads 0 ports)
    → new ≡ insert_all same_pad old (read_pads pads ports)
all_read pads ports k old new le inv =
    let none : [] ≡ sides read_pads_at pads k (drop k ports) = sides_end read_pads_at pads ports k [] _ le refl in
    ap (insert_all same_pad new) none ∙ inv ∙ ap (insert_all same_pad old) (reads_are pads ports)

-- ---- what is gathered has the same pads

one_more : (q : Pad) (ks : List Pad) (p : Pad) → list_any (same_pad q) (insert_key same_pad ks p) ≡ (list_any (same_pad q) ks || same_pad q p)
one_more q ks p = by (list_any (same_pad p) ks) refl
  where
    last : list_any (same_pad q) (ks ++ p ∷ []) ≡ (list_any (same_pad q) ks || same_pad q p)
    last = list_any-append (same_pad q) ks (p ∷ []) ∙ ap (λ x. list_any (same_pad q) ks || x) (end (same_pad q p))
      where
        end : (x : Bool) → (x || false) ≡ x
        end true = refl
        end false = refl

    there : (x : Bool) → same_pad q p ≡ x → list_any (same_pad p) ks ≡ true → list_any (same_pad q) ks ≡ (list_any (same_pad q) ks || x)
    there true e has = let same : q ≡ p = pad_same q p e in let has_q : list_any (same_pad q) ks ≡ true = subst (λ (z : Pad). list_any (same_pad z) ks ≡ true) (sym same) has in ap (λ x. x) has_q ∙ sym (ap (λ x. x || true) has_q)
    there false e has = none (list_any (same_pad q) ks)
      where
        none : (x : Bool) → x ≡ (x || false)
        none true = refl
        none false = refl

    by : (x : Bool) → list_any (same_pad p) ks ≡ x → list_any (same_pad q) (if x then ks else ks ++ p ∷ []) ≡ (list_any (same_pad q) ks || same_pad q p)
    by true e = there (same_pad q p) refl e
    by false e = last

gathered : (q : Pad) (ks ps : List Pad) → list_any (same_pad q) (insert_all same_pad ks ps) ≡ (list_any (same_pad q) ks || list_any (same_pad q) ps)
gathered q ks [] = none (list_any (same_pad q) ks)
  where
    none : (x : Bool) → x ≡ (x || false)
    none true = refl
    none false = refl
gathered q ks (p ∷ ps) = gathered q (insert_key same_pad ks p) ps ∙ ap (λ x. x || list_any (same_pad q) ps) (one_more q ks p) ∙ or_assoc (list_any (same_pad q) ks) (same_pad q p) (list_any (same_pad q) ps)

-- ---- where an input is needed
pad_other : (a b : Pad) → same_pad a b ≡ same_pad b a
pad_other a b = by (same_pad a b) (same_pad b a) refl refl
  where
    turned : (c d : Pad) → c ≡ d → same_pad d c ≡ true
    turned c d e = subst (λ (x : Pad). same_pad x c ≡ true) e (pad_self c)

    by : (x y : Bool) → same_pad a b ≡ x → same_pad b a ≡ y → x ≡ y
    by true true e f = refl
    by false false e f = refl
    by true false e f = sym (turned a b (pad_same a b e)) ∙ f
    by false true e f = sym e ∙ turned b a (pad_same b a f)

needed_is : (read set : List Pad) (place : Pad) (enables : List (Pad × Pad)) → ((q : Pad) → list_any (same_pad q) set ≡ list_any (same_pad q) read)
    → list_any (same_pad place) (needed_places set enables) ≡ is_needed enables read place
needed_is read set place [] same = refl
needed_is read set place (row ∷ enables) same =
    list_any-append (same_pad place) (one_needed set row) (needed_places set enables)
    ∙ ap (λ x. list_any (same_pad place) (one_needed set row) || x) (needed_is read set place enables same)
    ∙ ap (λ x. x || is_needed enables read place) (here (list_any (same_pad row.0) set) refl)
  where
    here : (x : Bool) → list_any (same_pad row.0) set ≡ x → list_any (same_pad place) (if x then row.1 ∷ [] else []) ≡ (same_pad row.1 place && is_read_pad read row.0)
    here true e = one (same_pad place row.1) ∙ pad_other place row.1 ∙ and_true (same_pad row.1 place) (is_read_pad read row.0) (sym (same row.0) ∙ e)
      where
        one : (x : Bool) → (x || false) ≡ x
        one true = refl
        one false = refl

        and_true : (x y : Bool) → y ≡ true → x ≡ (x && y)
        and_true true y f = sym f
        and_true false y f = refl
    here false e = and_false (same_pad row.1 place) (is_read_pad read row.0) (sym (same row.0) ∙ e)
      where
        and_false : (x y : Bool) → y ≡ false → false ≡ (x && y)
        and_false true y f = sym f
        and_false false y f = refl

each_row : (read found set : List Pad) (all rows : List (Pad × Pad)) → ((q : Pad) → list_any (same_pad q) found ≡ list_any (same_pad q) read) → ((q : Pad) → list_any (same_pad q) set ≡ list_any (same_pad q) (needed_places found all))
    → flat_map (disabled_by set) rows ≡ flat_map (enable_settings all read) rows
each_row read found set all [] same needed = refl
each_row read found set all (row ∷ rows) same needed =
    ap (λ x. setting_if (not x) row.1.tile (input_enable_function row.1.pio) 0 ++ flat_map (disabled_by set) rows) (needed row.1 ∙ needed_is read found row.1 all same)
    ∙ ap (λ xs. enable_settings all read row ++ xs) (each_row read found set all rows same needed)

pub enables_are : (read found set : List Pad) (all entries : List (Pad × Pad)) (old new : List Setting) → entries ≡ all → found ≡ insert_all same_pad [] read → set ≡ insert_all same_pad [] (needed_places found entries)
    → new ≡ old ++ flat_map (disabled_by set) entries → new ≡ old ++ flat_map (enable_settings all read) all
enables_are read found set all entries old new same from needed e =
    e ∙ ap (λ es. old ++ flat_map (disabled_by set) es) same
    ∙ ap (λ xs. old ++ xs)
    (each_row read found set all all (λ q. ap (list_any (same_pad q)) from ∙ gathered q [] read)
    (λ q. ap (list_any (same_pad q)) needed ∙ gathered q [] (needed_places found entries) ∙ ap (λ es. list_any (same_pad q) (needed_places found es)) same))
