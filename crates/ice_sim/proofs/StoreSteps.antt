-- The stores of a chip, a few more at a time.
use Rattle.std.proofs.Common.{◌≡◌, ℕ, suc, ◌+◌, ◌<◌, Bool, true, cond, List, [], ◌∷◌, ◌++◌, length, drop, get_or, refl, ap, sym, ◌∙◌, arith, append_assoc, append-nil, length-append}
use Rattle.std.specs.List.{flat_map}
use Rattle.std.proofs.lemmas.List.{drop_more}
use Rattle.ice_base.specs.declared.number.TileAt.{TileAt}
use Rattle.ice_chip.specs.Database.{Parts}
use Rattle.ice_chip.specs.declared.rows.Pad.{Pad}
use Rattle.ice_bits.specs.Configuration.{Bits}
use Rattle.ice_decode.specs.Cells.{cells}
use Rattle.ice_decode.specs.Pads.{pads, Store, InputStore, OutputStore, cell_store, pad_stores, stores}
use Rattle.ice_sim_sweep.specs.declared.parts.Keeper.{Keeper}
use Rattle.ice_sim_sweep.specs.declared.parts.Feed.{Feed}
use Rattle.ice_sim.specs.Layouts.{cell_stores, store_keepers, store_feeds, next_slot, keepers_from, feeds_from}
use Rattle.ice_sim.proofs.StoreLists.{stores_flat, cells_long}

module _ (parts : Parts) (bits : Bits) (bonded : List Pad) (slots : List ℕ) where
  abbrev feeds : ℕ → List Store → List Feed
  feeds n list = feeds_from parts bits bonded slots n list

  abbrev keepers : ℕ → ℕ → List Store → List Keeper
  keepers c n list = keepers_from parts bits bonded slots c n list

  pub feeds_append : (n : ℕ) (xs ys : List Store) → feeds n (xs ++ ys) ≡ feeds n xs ++ feeds (n + length (feeds n xs)) ys
  feeds_append n [] ys = let e : n ≡ n + 0 = omega arith in ap (λ k. feeds k ys) e
  feeds_append n (s ∷ xs) ys =
      let own : List Feed = store_feeds parts bits bonded slots n s in
      let m : ℕ = next_slot parts bits bonded slots n s in
      let long = length-append (store_feeds parts bits bonded slots n s) (feeds (next_slot parts bits bonded slots n s) xs) in
      let e : m + length (feeds m xs) ≡ n + length (own ++ feeds m xs) = omega arith in
      ap (λ fs. own ++ fs) (feeds_append m xs ys)
      ∙ sym (append_assoc own (feeds m xs) (feeds (m + length (feeds m xs)) ys))
      ∙ ap (λ k. (own ++ feeds m xs) ++ feeds k ys) e

  pub keepers_append : (c n : ℕ) (xs ys : List Store) → keepers c n (xs ++ ys) ≡ keepers c n xs ++ keepers (c + length xs) (n + length (feeds n xs)) ys
  keepers_append c n [] ys =
      let e : n ≡ n + 0 = omega arith in
      let f : c ≡ c + 0 = omega arith in
      ap (λ k. keepers c k ys) e ∙ ap (λ d. keepers d (n + 0) ys) f
  keepers_append c n (s ∷ xs) ys =
      let own : List Feed = store_feeds parts bits bonded slots n s in
      let m : ℕ = next_slot parts bits bonded slots n s in
      let some : List Keeper = store_keepers parts bits slots c n s in
      let long = length-append (store_feeds parts bits bonded slots n s) (feeds (next_slot parts bits bonded slots n s) xs) in
      let e : m + length (feeds m xs) ≡ n + length (own ++ feeds m xs) = omega arith in
      let f : suc c + length xs ≡ c + length (s ∷ xs) = omega arith in
      ap (λ ks. some ++ ks) (keepers_append (suc c) m xs ys)
      ∙ sym (append_assoc some (keepers (suc c) m xs) (keepers (suc c + length xs) (m + length (feeds m xs)) ys))
      ∙ ap (λ k. (some ++ keepers (suc c) m xs) ++ keepers (suc c + length xs) k ys) e
      ∙ ap (λ d. (some ++ keepers (suc c) m xs) ++ keepers d (n + length (own ++ feeds m xs)) ys) f

  -- ---- one more turn of a loop over what has stores
  module _ {X : Type 0} (f : X → List Store) where
    grown : (old new : List Feed) (x : X) → new ≡ old ++ feeds (length old) (f x) → length old + length (feeds (length old) (f x)) ≡ length new
    grown old new x e = sym (ap length e ∙ length-append old (feeds (length old) (f x)))

    pub feeds_more : (d : X) (all old new : List Feed) (xs : List X) (i : ℕ) → i < length xs → all ≡ old ++ feeds (length old) (flat_map f (drop i xs))
        → new ≡ old ++ feeds (length old) (f (get_or xs i d)) → all ≡ new ++ feeds (length new) (flat_map f (drop (i + 1) xs))
    feeds_more d all old new xs i lt e pushed =
        let x : X = get_or xs i d in
        let rest : List Store = flat_map f (drop (i + 1) xs) in
        e
        ∙ ap (λ list. old ++ feeds (length old) (flat_map f list)) (drop_more xs i d lt)
        ∙ ap (λ fs. old ++ fs) (feeds_append (length old) (f x) rest)
        ∙ sym (append_assoc old (feeds (length old) (f x)) (feeds (length old + length (feeds (length old) (f x))) rest))
        ∙ ap (λ fs. fs ++ feeds (length old + length (feeds (length old) (f x))) rest) (sym pushed)
        ∙ ap (λ k. new ++ feeds k rest) (grown old new x pushed)

    pub keepers_more : (d : X) (all kept next : List Keeper) (old new : List Feed) (xs : List X) (i c e : ℕ) → i < length xs
        → all ≡ kept ++ keepers c (length old) (flat_map f (drop i xs)) → new ≡ old ++ feeds (length old) (f (get_or xs i d))
        → next ≡ kept ++ keepers c (length old) (f (get_or xs i d)) → c + length (f (get_or xs i d)) ≡ e → all ≡ next ++ keepers e (length new) (flat_map f (drop (i + 1) xs))
    keepers_more d all kept next old new xs i c e lt is fed pushed place =
        let x : X = get_or xs i d in
        let rest : List Store = flat_map f (drop (i + 1) xs) in
        is
        ∙ ap (λ list. kept ++ keepers c (length old) (flat_map f list)) (drop_more xs i d lt)
        ∙ ap (λ ks. kept ++ ks) (keepers_append c (length old) (f x) rest)
        ∙ sym (append_assoc kept (keepers c (length old) (f x)) (keepers (c + length (f x)) (length old + length (feeds (length old) (f x))) rest))
        ∙ ap (λ ks. ks ++ keepers (c + length (f x)) (length old + length (feeds (length old) (f x))) rest) (sym pushed)
        ∙ ap (λ k. next ++ keepers (c + length (f x)) k rest) (grown old new x fed)
        ∙ ap (λ m. next ++ keepers m (length new) rest) place

  -- ---- one more store or pad
  pub store_fed : (n : ℕ) (s : Store) (old new : List Feed) → new ≡ old ++ store_feeds parts bits bonded slots n s → new ≡ old ++ feeds n (s ∷ [])
  store_fed n s old new e = e ∙ ap (λ fs. old ++ fs) (sym (append-nil (store_feeds parts bits bonded slots n s)))

  pub store_kept : (c n : ℕ) (s : Store) (old new : List Keeper) → new ≡ old ++ store_keepers parts bits slots c n s → new ≡ old ++ keepers c n (s ∷ [])
  store_kept c n s old new e = e ∙ ap (λ ks. old ++ ks) (sym (append-nil (store_keepers parts bits slots c n s)))

  -- one cell more
  pub cells_fed : (d : TileAt × ℕ) (all old new : List Feed) (xs : List (TileAt × ℕ)) (i : ℕ) → i < length xs → all ≡ old ++ feeds (length old) (flat_map cell_stores (drop i xs))
      → new ≡ old ++ store_feeds parts bits bonded slots (length old) (cell_store (get_or xs i d)) → all ≡ new ++ feeds (length new) (flat_map cell_stores (drop (i + 1) xs))
  cells_fed d all old new xs i lt e pushed = feeds_more cell_stores d all old new xs i lt e (store_fed (length old) (cell_store (get_or xs i d)) old new pushed)

  pub cells_kept : (d : TileAt × ℕ) (all kept next : List Keeper) (old new : List Feed) (xs : List (TileAt × ℕ)) (i c : ℕ) → i < length xs → all ≡ kept ++ keepers c (length old) (flat_map cell_stores (drop i xs))
      → new ≡ old ++ store_feeds parts bits bonded slots (length old) (cell_store (get_or xs i d)) → next ≡ kept ++ store_keepers parts bits slots c (length old) (cell_store (get_or xs i d))
      → all ≡ next ++ keepers (c + 1) (length new) (flat_map cell_stores (drop (i + 1) xs))
  cells_kept d all kept next old new xs i c lt is fed pushed =
      keepers_more cell_stores d all kept next old new xs i c (c + 1) lt is (store_fed (length old) (cell_store (get_or xs i d)) old new fed) (store_kept c (length old) (cell_store (get_or xs i d)) kept next pushed) refl

  pub pad_fed : (n : ℕ) (pad : Pad) (old new : List Feed) → new ≡ old ++ store_feeds parts bits bonded slots n (InputStore pad) → new ≡ old ++ feeds n (pad_stores pad)
  pad_fed n pad old new e = e ∙ ap (λ fs. old ++ fs) (sym (append-nil (store_feeds parts bits bonded slots n (InputStore pad))))

  pub pad_kept : (c d n m : ℕ) (pad : Pad) (old mid new : List Keeper) → mid ≡ old ++ store_keepers parts bits slots c n (InputStore pad)
      → new ≡ mid ++ store_keepers parts bits slots d m (OutputStore pad) → d ≡ suc c → new ≡ old ++ keepers c n (pad_stores pad)
  pad_kept c d n m pad old mid new one two place =
      let input : List Keeper = store_keepers parts bits slots c n (InputStore pad) in
      two
      ∙ ap (λ k. mid ++ store_keepers parts bits slots k m (OutputStore pad)) place
      ∙ ap (λ ks. ks ++ store_keepers parts bits slots (suc c) m (OutputStore pad)) one
      ∙ append_assoc old input (store_keepers parts bits slots (suc c) m (OutputStore pad))
      ∙ ap (λ ks. old ++ (input ++ ks)) (sym (append-nil (store_keepers parts bits slots (suc c) m (OutputStore pad))))

-- ---- all stores
module _ (parts : Parts) (bits : Bits) (bonded : List Pad) (slots : List ℕ) (cs : List (TileAt × ℕ)) (ps : List Pad) (some : cs ≡ cells parts) (more : ps ≡ pads parts) where
  abbrev xs : List Store
  xs = flat_map cell_stores cs

  abbrev ys : List Store
  ys = flat_map pad_stores ps

  listed : xs ++ ys ≡ stores parts
  listed =
      ap (λ list. flat_map cell_stores list ++ ys) some
      ∙ ap (λ list. flat_map cell_stores (cells parts) ++ flat_map pad_stores list) more
      ∙ stores_flat parts

  behind : (old mid : List Feed) → mid ≡ old ++ feeds_from parts bits bonded slots (length old) xs → length mid ≡ length old + length (feeds_from parts bits bonded slots (length old) xs)
  behind old mid e = ap length e ∙ length-append old (feeds_from parts bits bonded slots (length old) xs)

  pub all_fed : (old mid new : List Feed) → mid ≡ old ++ feeds_from parts bits bonded slots (length old) xs → new ≡ mid ++ feeds_from parts bits bonded slots (length mid) ys
      → new ≡ old ++ feeds_from parts bits bonded slots (length old) (stores parts)
  all_fed old mid new one two =
      let front : List Feed = feeds_from parts bits bonded slots (length old) xs in
      two
      ∙ ap (λ n. mid ++ feeds_from parts bits bonded slots n ys) (behind old mid one)
      ∙ ap (λ fs. fs ++ feeds_from parts bits bonded slots (length old + length front) ys) one
      ∙ append_assoc old front (feeds_from parts bits bonded slots (length old + length front) ys)
      ∙ ap (λ fs. old ++ fs) (sym (feeds_append parts bits bonded slots (length old) xs ys))
      ∙ ap (λ list. old ++ feeds_from parts bits bonded slots (length old) list) listed

  pub all_kept : (old mid : List Feed) (front new : List Keeper) (first : ℕ) → first ≡ length cs → mid ≡ old ++ feeds_from parts bits bonded slots (length old) xs
      → front ≡ keepers_from parts bits bonded slots 0 (length old) xs → new ≡ front ++ keepers_from parts bits bonded slots first (length mid) ys
      → new ≡ keepers_from parts bits bonded slots 0 (length old) (stores parts)
  all_kept old mid front new first count fed one two =
      let n : ℕ = length old + length (feeds_from parts bits bonded slots (length old) xs) in
      let place : first ≡ 0 + length xs = (let long = cells_long cs in omega arith) in
      two
      ∙ ap (λ m. front ++ keepers_from parts bits bonded slots first m ys) (behind old mid fed)
      ∙ ap (λ c. front ++ keepers_from parts bits bonded slots c n ys) place
      ∙ ap (λ ks. ks ++ keepers_from parts bits bonded slots (0 + length xs) n ys) one
      ∙ sym (keepers_append parts bits bonded slots 0 (length old) xs ys)
      ∙ ap (keepers_from parts bits bonded slots 0 (length old)) listed

-- what is pushed where a store is used
pub used_pushed : {A : Type 0} (b : Bool) (x y : A) (old new : List A) → b ≡ true → x ≡ y → new ≡ old ++ x ∷ [] → new ≡ old ++ cond b (y ∷ []) []
used_pushed b x y old new has is pushed = pushed ∙ ap (λ z. old ++ z ∷ []) is ∙ ap (λ t. old ++ cond t (y ∷ []) []) (sym has)
