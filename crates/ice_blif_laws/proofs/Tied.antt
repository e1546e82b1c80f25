-- Netlists that are the same by the names of their signals: their ports and cells are tied one by one, signal by signal.
use Rattle.std.proofs.Common.{◌≡◌, ℕ, ◌<◌, ◌==◌, Bool, true, false, Option, None, Some, List, [], ◌∷◌, length, map, All, inl, inr, refl, sym, ap, ◌∙◌, get_or, bytes_eq, arith, eq-eqb, eqb-true, true≢false}
use Rattle.std.specs.List.{IsDistinct}
use Rattle.std.proofs.lemmas.Bool.{cases_lt, cases_order}
use Rattle.std.proofs.lemmas.List.{get_or_past}
use Rattle.std.proofs.lemmas.List.Elements.{All-tail, All-head, All-get_or}
use Rattle.std.proofs.lemmas.Map.Keys.{apart_from_distinct}
use Rattle.ice_base.proofs.Keys.{bytes_self}
use Rattle.ice_base.specs.declared.number.SignalNo.{SignalNo}
use Rattle.ice_net.specs.declared.cell.Cell.{Cell}
use Rattle.ice_net.specs.declared.port.Port.{Port}
use Rattle.ice_net.specs.declared.port.Way.{Way}
use Rattle.ice_net.specs.Formed.{IsFormed, IsFormedCell, IsPortBelow, IsBelow}
use Rattle.ice_net.specs.NetlistData.{NetlistData}
use Rattle.ice_blif_write.specs.RoundTrip.{IsName, named_signal, named_port, NamedCell, named_cell, IsSameByNames}
use Rattle.ice_blif_laws.proofs.Alike.{Both, Each}

-- ---- names
-- no two places of a list have the same name
pub one_place : (names : List (List ℕ)) (i j : ℕ) → IsDistinct bytes_eq names → i < length names → j < length names → get_or names i [] ≡ get_or names j [] → i ≡ j
one_place names i j once left right same = elim (cases_order i j) [
  | inl e ↦ e
  | inr other ↦ elim other [ inl lt ↦ absurd (never i j lt right same) | inr lt ↦ absurd (never j i lt left (sym same)) ]
]
  where
    never : (a b : ℕ) → a < b → b < length names → get_or names a [] ≡ get_or names b [] → ⊥
    never a b lt long e = true≢false (sym (bytes_self (get_or names b [])) ∙ ap (λ x. bytes_eq x (get_or names b [])) (sym e) ∙ apart_from_distinct bytes_eq names a b [] once lt long)

-- ---- signals
module _ (n m : NetlistData) where
  -- the signals have the same name
  pub record IsOne (s t : ℕ) : Type 0 where
    pub left : s < length n.names
    pub right : t < length m.names
    pub same : get_or n.names s [] ≡ get_or m.names t []

  abbrev pub AreOne : SignalNo → SignalNo → Type 0
  AreOne s t = IsOne s.0 t.0

  abbrev pub IsTied : Option SignalNo → Option SignalNo → Type 0
  IsTied x y = Both AreOne x y

  pub record IsPortTied (p q : Port) : Type 0 where
    pub signal : IsOne p.signal.0 q.signal.0
    pub way : p.way ≡ q.way

  pub record IsCellTied (c d : Cell) : Type 0 where
    pub kind : c.kind ≡ d.kind
    pub ins : Each IsTied c.ins d.ins
    pub outs : Each IsTied c.outs d.outs

  pub record AreTied : Type 0 where
    pub once : IsDistinct bytes_eq n.names
    pub once_too : IsDistinct bytes_eq m.names
    pub ports : Each IsPortTied n.ports m.ports
    pub cells : Each IsCellTied n.cells m.cells

  -- ---- from netlists that are the same by names
  -- a name is no empty one, so what has it is among the names
  one_of : (s t : ℕ) → All IsName n.names → s < length n.names → get_or m.names t [] ≡ get_or n.names s [] → IsOne s t
  one_of s t words lt same = record { left = lt; right = right; same = sym same }
    where
      right : t < length m.names
      right = elim (cases_lt t (length m.names)) [
        | inl here ↦ here
        | inr past ↦ (let word = (All-get_or IsName n.names s [] lt words).word.0 in
            let empty = ap (λ (x : List ℕ). length x) (sym same ∙ get_or_past m.names t [] past) in
            absurd (omega (arith, word, empty)))
      ]

  some_name : (a b : List ℕ) → Some a ≡ Some b → a ≡ b
  some_name a b e = cc

  tied_one : (x y : Option SignalNo) → All IsName n.names → IsBelow (length n.names) x → named_signal m.names y ≡ named_signal n.names x → IsTied x y
  tied_one None None words below e = tt
  tied_one None (Some t) words below e = absurd (cc e)
  tied_one (Some s) None words below e = absurd (cc e)
  tied_one (Some s) (Some t) words below e = one_of s.0 t.0 words below (some_name (get_or m.names t.0 []) (get_or n.names s.0 []) e)

  heads : {X : Type 0} (x y : X) (xs ys : List X) → x ∷ xs ≡ y ∷ ys → x ≡ y
  heads x y xs ys e = cc

  tails : {X : Type 0} (x y : X) (xs ys : List X) → x ∷ xs ≡ y ∷ ys → xs ≡ ys
  tails x y xs ys e = cc

  signals_tied : (xs ys : List (Option SignalNo)) → All IsName n.names → All (IsBelow (length n.names)) xs → map (named_signal m.names) ys ≡ map (named_signal n.names) xs → Each IsTied xs ys
  signals_tied [] [] words below e = tt
  signals_tied [] (y ∷ ys) words below e = absurd (cc e)
  signals_tied (x ∷ xs) [] words below e = absurd (cc e)
  signals_tied (x ∷ xs) (y ∷ ys) words below e = (
    tied_one x y words (All-head (IsBelow (length n.names)) x xs below) (heads (named_signal m.names y) (named_signal n.names x) (map (named_signal m.names) ys) (map (named_signal n.names) xs) e),
    signals_tied xs ys words (All-tail (IsBelow (length n.names)) x xs below) (tails (named_signal m.names y) (named_signal n.names x) (map (named_signal m.names) ys) (map (named_signal n.names) xs) e),
  )

  ports_tied : (ps qs : List Port) → All IsName n.names → All (IsPortBelow (length n.names)) ps → map (named_port m.names) qs ≡ map (named_port n.names) ps → Each IsPortTied ps qs
  ports_tied [] [] words below e = tt
  ports_tied [] (q ∷ qs) words below e = absurd (cc e)
  ports_tied (p ∷ ps) [] words below e = absurd (cc e)
  ports_tied (p ∷ ps) (q ∷ qs) words below e =
      let head = heads (named_port m.names q) (named_port n.names p) (map (named_port m.names) qs) (map (named_port n.names) ps) e in (
        record { signal = one_of p.signal.0 q.signal.0 words (All-head (IsPortBelow (length n.names)) p ps below) (ap (λ (x : List ℕ × Way). x.0) head); way = sym (ap (λ (x : List ℕ × Way). x.1) head) },
        ports_tied ps qs words (All-tail (IsPortBelow (length n.names)) p ps below) (tails (named_port m.names q) (named_port n.names p) (map (named_port m.names) qs) (map (named_port n.names) ps) e),
      )

  cells_tied : (cs ds : List Cell) → All IsName n.names → All (IsFormedCell (length n.names)) cs → map (named_cell m.names) ds ≡ map (named_cell n.names) cs → Each IsCellTied cs ds
  cells_tied [] [] words formed e = tt
  cells_tied [] (d ∷ ds) words formed e = absurd (cc e)
  cells_tied (c ∷ cs) [] words formed e = absurd (cc e)
  cells_tied (c ∷ cs) (d ∷ ds) words formed e =
      let head = heads (named_cell m.names d) (named_cell n.names c) (map (named_cell m.names) ds) (map (named_cell n.names) cs) e in
      let form = All-head (IsFormedCell (length n.names)) c cs formed in (
        record {
          kind = sym (ap (λ (x : NamedCell). x.kind) head);
          ins = signals_tied c.ins d.ins words form.ins_below (ap (λ (x : NamedCell). x.ins) head);
          outs = signals_tied c.outs d.outs words form.outs_below (ap (λ (x : NamedCell). x.outs) head);
        },
        cells_tied cs ds words (All-tail (IsFormedCell (length n.names)) c cs formed) (tails (named_cell m.names d) (named_cell n.names c) (map (named_cell m.names) ds) (map (named_cell n.names) cs) e),
      )

  pub tied : IsFormed n → IsDistinct bytes_eq n.names → All IsName n.names → IsDistinct bytes_eq m.names → IsSameByNames n m → AreTied
  tied formed once words once_too same = record {
    once = once;
    once_too = once_too;
    ports = ports_tied n.ports m.ports words formed.ports same.ports;
    cells = cells_tied n.cells m.cells words formed.cells same.cells;
  }

  -- ---- tests
  module _ (are : AreTied) where
    -- of two signals and those with their names either both are one or neither
    pub same_test : (s t u v : ℕ) → IsOne s t → IsOne u v → (s == u) ≡ (t == v)
    same_test s t u v st uv = by (s == u) refl (t == v) refl
      where
        by : (b : Bool) → (s == u) ≡ b → (c : Bool) → (t == v) ≡ c → b ≡ c
        by true e true f = refl
        by false e false f = refl
        by true e false f =
            let one : s ≡ u = eqb-true s u e in
            let other : t ≡ v = one_place m.names t v are.once_too st.right uv.right (sym st.same ∙ ap (λ k. get_or n.names k []) one ∙ uv.same) in
            absurd (true≢false (sym (eq-eqb t v other) ∙ f))
        by false e true f =
            let one : t ≡ v = eqb-true t v f in
            let other : s ≡ u = one_place n.names s u are.once st.left uv.left (st.same ∙ ap (λ k. get_or m.names k []) one ∙ sym uv.same) in
            absurd (true≢false (sym (eq-eqb s u other) ∙ e))

    -- what has the same name as a signal is one signal
    pub one_left : (s u t : ℕ) → IsOne s t → IsOne u t → s ≡ u
    one_left s u t st ut = one_place n.names s u are.once st.left ut.left (st.same ∙ sym ut.same)
