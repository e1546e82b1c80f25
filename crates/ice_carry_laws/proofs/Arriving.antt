-- Runs keep the levels of nodes.
use Rattle.std.proofs.Common.{◌≡◌, ℕ, zero, suc, ◌<◌, Bool, true, false, Option, None, Some, List, [], ◌∷◌, map, cond, inl, inr, refl, sym, ap, ◌∙◌, subst, arith}
use Rattle.std.specs.Prelude.{unwrap_or, slice_get, slice_index_or}
use Rattle.std.specs.Option.{option_map_or}
use Rattle.ice_net.specs.declared.kind.Reset.{Reset}
use Rattle.ice_net.specs.Meaning.{number_of, table_bit, majority}
use Rattle.ice_base_values.specs.Order.{At, Has}
use Rattle.ice_base_values.specs.System.{reading}
use Rattle.ice_base_values.specs.Arriving.{HasValue, HaveValues}
use Rattle.ice_base_values.proofs.Arriving.{value_made}
use Rattle.ice_base_values.proofs.Members.{At_map}
use Rattle.ice_cells.specs.declared.cell.Control.{Control}
use Rattle.ice_cells.specs.declared.cell.LogicCell.{LogicCell}
use Rattle.ice_cells.specs.declared.design.Design.{Design}
use Rattle.ice_cells.specs.declared.root.CarryIn.{CarryIn}
use Rattle.ice_cells.specs.declared.root.CarryIn.TheVariants.{Fixed, Read}
use Rattle.ice_cells.specs.declared.root.Root.{Root}
use Rattle.ice_cells.specs.declared.root.Root.TheVariants.{PadIn, CellOut, GlobalOut, CarryOut}
use Rattle.ice_cells.specs.Meaning.{input, cell_inputs, output_reads, carry_reads, node_reads, output_makes, node_makes, system_of, given}
use Rattle.ice_cells.specs.Moves.{renamed, renamed_source, renamed_flop, kept_flop, become, moved_cell}
use Rattle.ice_cells.specs.Nodes.{Node, Net, Level, net, source_node, carry_into}
use Rattle.ice_carry_laws.proofs.Renaming.{four, four_new, old_inputs, new_inputs}
use Rattle.ice_carry_laws.specs.AreRuns.{IsIn, home, own, CarriesIn, AreRuns}

module _ (old new : Design) (moved fed : List (Option ℕ)) (runs : AreRuns old new moved fed) (levels kept new_kept : List Bool)
    (same_kept : (c : ℕ) (cell : LogicCell) (flop : Control × Reset) → At old.cells c cell → cell.flop ≡ Some flop → slice_index_or new_kept (home moved c) false ≡ slice_index_or kept c false)
    (v : Node → Bool) (meets : (n : Node) → v n ≡ node_makes old levels kept n (map (reading false v) (node_reads old n)))
    (rank : Node → ℕ) (falls : (p q : Node) → Has (node_reads old p) (Some q) → rank q < rank p)
    (closed : (p q : Node) → IsIn old p → Has (node_reads old p) (Some q) → IsIn old q) where
  abbrev HasNew : Node → Bool → Type 0
  HasNew n x = HasValue (system_of new levels new_kept) n x

  abbrev HaveNew : List (Option Node) → List Bool → Type 0
  HaveNew ps xs = HaveValues (system_of new levels new_kept) false ps xs

  abbrev read : Option Node → Bool
  read o = reading false v o

  made : (n : Node) (ps : List (Option Node)) (xs : List Bool) (x : Bool) → node_reads new n ≡ ps → HaveNew ps xs → node_makes new levels new_kept n xs ≡ x → HasNew n x
  made n ps xs x e all is = value_made (node_reads new) false (node_makes new levels new_kept) n xs x (subst (λ (qs : List (Option Node)). HaveNew qs xs) (sym e) all) is

  -- what a root's readers read has its level, once the root's own node has
  pub read_value : (r : Root) → HasNew (own moved (Net r)) (v (Net r)) → HasNew (Net (renamed moved fed r)) (v (Net r))
  read_value (PadIn k) has = has
  read_value (CellOut c) has = has
  read_value (GlobalOut g) has = has
  read_value (CarryOut c) has = by (slice_index_or fed c None) refl
    where
      passed : (b : Bool) → table_bit 65280 (number_of (false ∷ false ∷ false ∷ b ∷ [])) ≡ b
      passed true = refl
      passed false = refl

      by : (o : Option ℕ) → slice_index_or fed c None ≡ o → HasNew (Net (option_map_or (λ f. CellOut f) o (CarryOut c))) (v (Net (CarryOut c)))
      by None e = has
      by (Some f) e =
          let is = runs.passed c f e in
          let ins : node_reads new (Net (CellOut f)) ≡ None ∷ None ∷ None ∷ Some (Net (CarryOut c)) ∷ []
          = ap (λ o. option_map_or (λ (cell : LogicCell). output_reads cell.flop (cell_inputs new f cell)) o []) is.at ∙ ap (λ o. None ∷ None ∷ None ∷ o ∷ []) is.into in
          made (Net (CellOut f)) (None ∷ None ∷ None ∷ Some (Net (CarryOut c)) ∷ []) (false ∷ false ∷ false ∷ v (Net (CarryOut c)) ∷ []) (v (Net (CarryOut c))) ins
          (refl, (refl, (refl, (has, tt))))
          (ap (λ o. option_map_or (λ (cell : LogicCell). output_makes cell cell.flop (slice_index_or new_kept f false) (false ∷ false ∷ false ∷ v (Net (CarryOut c)) ∷ [])) o false) is.at
          ∙ passed (v (Net (CarryOut c))))

  -- one input more
  put : (r : Option Root) → ((x : Root) → r ≡ Some x → HasNew (own moved (Net x)) (v (Net x))) → (ps : List (Option Node)) (xs : List Bool) → HaveNew ps xs
      → HaveNew (net (renamed_source moved fed r) ∷ ps) (read (net r) ∷ xs)
  put None lower ps xs rest = (refl, rest)
  put (Some x) lower ps xs rest = (read_value x (lower x refl), rest)

  Has_net : (ns : List (Option Node)) (k : ℕ) (r : Option Root) → At ns k (net r) → (x : Root) → r ≡ Some x → Has ns (Some (Net x))
  Has_net ns k r at x e = (k, subst (λ (o : Option Root). At ns k (net o)) e at)

  -- the inputs of a table have their levels, once what they read has
  pub have_four : (cell : LogicCell) → ((k : ℕ) (r : Option Root) → At (four cell) k (net r) → (q : Root) → r ≡ Some q → HasNew (own moved (Net q)) (v (Net q))) → HaveNew (four_new moved fed cell) (map read (four cell))
  have_four cell down =
      put (slice_index_or cell.ins 0 None) (down 0 (slice_index_or cell.ins 0 None) refl) _ _ (put (slice_index_or cell.ins 1 None) (down 1 (slice_index_or cell.ins 1 None) refl) _ _
      (put (slice_index_or cell.ins 2 None) (down 2 (slice_index_or cell.ins 2 None) refl) _ _ (put (slice_index_or cell.ins 3 None) (down 3 (slice_index_or cell.ins 3 None) refl) [] [] tt)))

  -- a flip-flop's node has what is kept
  flop_new : (m : ℕ) (z : LogicCell) (flop : Control × Reset) (x : Bool) → At new.cells m z → z.flop ≡ Some flop → slice_index_or new_kept m false ≡ x → HasNew (Net (CellOut m)) x
  flop_new m z flop x at e keeps =
      made (Net (CellOut m)) [] [] x
      (ap (λ o. option_map_or (λ (cell : LogicCell). output_reads cell.flop (cell_inputs new m cell)) o []) at ∙ ap (λ f. output_reads f (cell_inputs new m z)) e) tt
      (ap (λ o. option_map_or (λ (cell : LogicCell). output_makes cell cell.flop (slice_index_or new_kept m false) []) o false) at ∙ ap (λ f. output_makes z f (slice_index_or new_kept m false) []) e ∙ keeps)

  -- a cell without a flip-flop gives what its table gives
  pub table_new : (c : ℕ) (cell : LogicCell) → At old.cells c cell → HaveNew (four_new moved fed cell) (map read (four cell)) → renamed_flop moved fed (kept_flop (slice_index_or moved c None) cell.flop) ≡ None
      → HasNew (Net (CellOut c)) (given old v c cell)
  table_new c cell at all e =
      made (Net (CellOut c)) (four_new moved fed cell) (map read (four cell)) (given old v c cell)
      (ap (λ o. option_map_or (λ (x : LogicCell). output_reads x.flop (cell_inputs new c x)) o []) (runs.cells c cell at) ∙ ap (λ f. output_reads f (cell_inputs new c (become moved fed c cell))) e ∙ new_inputs old new moved fed runs c cell at)
      all
      (ap (λ o. option_map_or (λ (x : LogicCell). output_makes x x.flop (slice_index_or new_kept c false) (map read (four cell))) o false) (runs.cells c cell at)
      ∙ ap (λ f. output_makes (become moved fed c cell) f (slice_index_or new_kept c false) (map read (four cell))) e
      ∙ ap (λ ns. table_bit cell.table (number_of (map read ns))) (sym (old_inputs old new moved fed runs c cell at)))

  pub arrives : (bound : ℕ) (n : Node) → rank n < bound → IsIn old n → HasNew (own moved n) (v n)
  arrives zero n lt is = absurd (omega arith)
  arrives (suc bound) n lt is = at n is (λ m has. arrives bound m (let f = falls n m has in omega arith) (closed n m is has))
    where
      at : (n : Node) → IsIn old n → ((m : Node) → Has (node_reads old n) (Some m) → HasNew (own moved m) (v m)) → HasNew (own moved n) (v n)
      at (Level b) is lower = made (Level b) [] [] (v (Level b)) refl tt (sym (meets (Level b)))
      at (Net (PadIn k)) is lower = made (Net (PadIn k)) [] [] (v (Net (PadIn k))) refl tt (sym (meets (Net (PadIn k))))
      at (Net (GlobalOut g)) (r, here) lower =
          let ins : node_reads old (Net (GlobalOut g)) ≡ net r ∷ [] = ap (λ o. option_map_or (λ q. net q ∷ []) o []) here in
          let there : At new.globals g (renamed_source moved fed r) = subst (λ (xs : List (Option Root)). At xs g (renamed_source moved fed r)) (sym runs.globals) (At_map (renamed_source moved fed) old.globals g r here) in
          let outs : node_reads new (Net (GlobalOut g)) ≡ net (renamed_source moved fed r) ∷ [] = ap (λ o. option_map_or (λ q. net q ∷ []) o []) there in
          made (Net (GlobalOut g)) (net (renamed_source moved fed r) ∷ []) (read (net r) ∷ []) (v (Net (GlobalOut g))) outs
          (put r (λ x e. lower (Net x) (subst (λ (ns : List (Option Node)). Has ns (Some (Net x))) (sym ins) (Has_net (net r ∷ []) 0 r refl x e))) [] [] tt)
          (sym (meets (Net (GlobalOut g)) ∙ ap (λ ns. slice_index_or (map read ns) 0 false) ins))
      at (Net (CellOut c)) (cell, here) lower = by cell.flop refl
        where
          value_is : v (Net (CellOut c)) ≡ output_makes cell cell.flop (slice_index_or kept c false) (map read (output_reads cell.flop (cell_inputs old c cell)))
          value_is =
              meets (Net (CellOut c))
              ∙ ap (λ o. option_map_or (λ (x : LogicCell). output_makes x x.flop (slice_index_or kept c false) (map read (option_map_or (λ (x : LogicCell). output_reads x.flop (cell_inputs old c x)) o []))) o false) here

          by : (f : Option (Control × Reset)) → cell.flop ≡ f → HasNew (Net (CellOut (home moved c))) (v (Net (CellOut c)))
          by (Some flop) e = whither (slice_index_or moved c None) refl
            where
              keeps : slice_index_or new_kept (home moved c) false ≡ v (Net (CellOut c))
              keeps = same_kept c cell flop here e ∙ sym (value_is ∙ ap (λ f. output_makes cell f (slice_index_or kept c false) (map read (output_reads f (cell_inputs old c cell)))) e)

              whither : (o : Option ℕ) → slice_index_or moved c None ≡ o → HasNew (Net (CellOut (home moved c))) (v (Net (CellOut c)))
              whither None mo =
                  subst (λ (o : Option ℕ). HasNew (Net (CellOut (unwrap_or o c))) (v (Net (CellOut c)))) (sym mo)
                  (flop_new c (become moved fed c cell) _ (v (Net (CellOut c))) (runs.cells c cell here) ((λ i. renamed_flop moved fed (kept_flop (mo i) (e i))))
                  (subst (λ (o : Option ℕ). slice_index_or new_kept (unwrap_or o c) false ≡ v (Net (CellOut c))) mo keeps))
              whither (Some m) mo =
                  let z = runs.moves c m mo in
                  let same : slice_get old.cells c ≡ Some cell = here in
                  subst (λ (o : Option ℕ). HasNew (Net (CellOut (unwrap_or o c))) (v (Net (CellOut c)))) (sym mo)
                  (flop_new m (moved_cell moved fed old.cells c) _ (v (Net (CellOut c))) z.4
                  (ap (λ o. renamed_flop moved fed (option_map_or (λ (x : LogicCell). x.flop) o None)) same ∙ ap (renamed_flop moved fed) e)
                  (subst (λ (o : Option ℕ). slice_index_or new_kept (unwrap_or o c) false ≡ v (Net (CellOut c))) mo keeps))
          by None e = whither (slice_index_or moved c None) refl
            where
              ins : node_reads old (Net (CellOut c)) ≡ four cell
              ins = ap (λ o. option_map_or (λ (x : LogicCell). output_reads x.flop (cell_inputs old c x)) o []) here ∙ ap (λ f. output_reads f (cell_inputs old c cell)) e ∙ old_inputs old new moved fed runs c cell here

              down : (k : ℕ) (r : Option Root) → At (four cell) k (net r) → (q : Root) → r ≡ Some q → HasNew (own moved (Net q)) (v (Net q))
              down k r a q f = lower (Net q) (subst (λ (ns : List (Option Node)). Has ns (Some (Net q))) (sym ins) (Has_net (four cell) k r a q f))

              gives : given old v c cell ≡ v (Net (CellOut c))
              gives = sym (value_is ∙ ap (λ f. output_makes cell f (slice_index_or kept c false) (map read (output_reads f (cell_inputs old c cell)))) e)

              whither : (o : Option ℕ) → slice_index_or moved c None ≡ o → HasNew (Net (CellOut (home moved c))) (v (Net (CellOut c)))
              whither (Some m) mo =
                  let z = runs.moves c m mo in
                  let same : z.0 ≡ cell = at_one (slice_get old.cells c) z.0 cell z.2 here in
                  absurd (none_some z.1 (sym e ∙ ap (λ (x : LogicCell). x.flop) (sym same) ∙ z.3))
                where
                  at_one : (o : Option LogicCell) (x y : LogicCell) → o ≡ Some x → o ≡ Some y → x ≡ y
                  at_one o x y f g = cc

                  none_some : (x : Control × Reset) → None ≡ Some x → ⊥
                  none_some x f = cc
              whither None mo =
                  subst (λ (o : Option ℕ). HasNew (Net (CellOut (unwrap_or o c))) (v (Net (CellOut c)))) (sym mo)
                  (subst (λ x. HasNew (Net (CellOut c)) x) gives (table_new c cell here (have_four cell down) (λ i. renamed_flop moved fed (kept_flop (mo i) (e i)))))
      at (Net (CarryOut c)) (cell, here, on) lower =
          let old_into = runs.carries c cell here on in
          let three = input cell 1 ∷ input cell 2 ∷ carry_into old c ∷ [] in
          let ins : node_reads old (Net (CarryOut c)) ≡ three = ap (λ o. option_map_or (carry_reads old c) o []) here ∙ ap (λ b. cond b three []) on in
          let new_three = net (renamed_source moved fed (slice_index_or cell.ins 1 None)) ∷ net (renamed_source moved fed (slice_index_or cell.ins 2 None)) ∷ carry_into new c ∷ [] in
          let outs : node_reads new (Net (CarryOut c)) ≡ new_three = ap (λ o. option_map_or (carry_reads new c) o []) (runs.cells c cell here) ∙ ap (λ b. cond b new_three []) on in
          let down : (k : ℕ) (r : Option Root) → At three k (net r) → (q : Root) → r ≡ Some q → HasNew (own moved (Net q)) (v (Net q))
          = λ k r a q f. lower (Net q) (subst (λ (ns : List (Option Node)). Has ns (Some (Net q))) (sym ins) (Has_net three k r a q f)) in
          let last : HaveNew (carry_into new c ∷ []) (read (carry_into old c) ∷ [])
          = subst (λ (o : Option Node). HaveNew (carry_into new c ∷ []) (read o ∷ [])) (sym old_into.1)
          (carried old_into.0 old_into.2 (lower (source_node old_into.0) (subst (λ (ns : List (Option Node)). Has ns (Some (source_node old_into.0))) (sym ins) (2, ap Some old_into.1)))) in
          made (Net (CarryOut c)) new_three (map read three) (v (Net (CarryOut c))) outs
          (put (slice_index_or cell.ins 1 None) (down 0 (slice_index_or cell.ins 1 None) refl) _ _ (put (slice_index_or cell.ins 2 None) (down 1 (slice_index_or cell.ins 2 None) refl) _ _ last))
          (sym (meets (Net (CarryOut c)) ∙ ap (λ ns. majority (slice_index_or (map read ns) 0 false) (slice_index_or (map read ns) 1 false) (slice_index_or (map read ns) 2 false)) ins))
        where
          taken : (b : Bool) → majority b false true ≡ b
          taken true = refl
          taken false = refl

          carried : (into : CarryIn) → CarriesIn new moved fed c into → HasNew (own moved (source_node into)) (v (source_node into)) → HaveNew (carry_into new c ∷ []) (v (source_node into) ∷ [])
          carried (Fixed b) is has = subst (λ (p : Option Node). HaveNew (p ∷ []) (v (Level b) ∷ [])) (sym is) (has, tt)
          carried (Read r) (inl (k, e, is)) has =
              subst (λ (p : Option Node). HaveNew (p ∷ []) (v (Net r) ∷ [])) (sym is)
              (subst (λ (q : Root). HasNew (own moved (Net q)) (v (Net r)) → HasNew (Net (CarryOut k)) (v (Net r))) (sym e) (λ h. h) has, tt)
          carried (Read r) (inr (f, is, feed)) has =
              let feeds : node_reads new (Net (CarryOut f)) ≡ Some (Net (renamed moved fed r)) ∷ None ∷ Some (Level true) ∷ []
              = ap (λ o. option_map_or (carry_reads new f) o []) feed.at ∙ ap (λ o. Some (Net (renamed moved fed r)) ∷ None ∷ o ∷ []) feed.set in
              let one : HasNew (Level true) true = made (Level true) [] [] true refl tt refl in
              let taken_in : HasNew (Net (CarryOut f)) (v (Net r))
              = made (Net (CarryOut f)) (Some (Net (renamed moved fed r)) ∷ None ∷ Some (Level true) ∷ []) (v (Net r) ∷ false ∷ true ∷ []) (v (Net r)) feeds (read_value r has, (refl, (one, tt))) (taken (v (Net r))) in
              subst (λ (p : Option Node). HaveNew (p ∷ []) (v (Net r) ∷ [])) (sym is) (taken_in, tt)
