-- A key that is new goes last in a map, and a value that is put back over another leaves the map as it was.
use Rattle.std.proofs.Common.{◌≡◌, Bool, true, false, cond, is_some, List, [], ◌∷◌, ◌++◌, None, Some, refl, sym, ap, ◌∙◌, true≢false}
use Rattle.std.specs.Map.{lookup}
use Rattle.std.proofs.lemmas.Option.{same_Some}
use Rattle.indexmap.specs.IndexMap.{IndexMap, insert_entry}
use Rattle.indexmap.proofs.CallerLemmas.{insert_entry-new}

pub new_goes_last : {K V S : Type 0} (eq : K → K → Bool) (m n : IndexMap K V S) (k : K) (v : V) → lookup (eq k) m.entries ≡ None → n.entries ≡ insert_entry eq m.entries k v → n.entries ≡ m.entries ++ (k, v) ∷ []
new_goes_last eq m n k v none put = put ∙ insert_entry-new eq m k v none

module _ {K V : Type 0} (eq : K → K → Bool) where
  put_here : (e : K × V) (es : List (K × V)) (k : K) (v : V) → eq k e.0 ≡ true → insert_entry eq (e ∷ es) k v ≡ (e.0, v) ∷ es
  put_here e es k v is = rw is refl

  put_past : (e : K × V) (es : List (K × V)) (k : K) (v : V) → eq k e.0 ≡ false → insert_entry eq (e ∷ es) k v ≡ e ∷ insert_entry eq es k v
  put_past e es k v is = rw is refl

  restored_by : (e : K × V) (es : List (K × V)) (k : K) (v old : V) (here : Bool) → eq k e.0 ≡ here
      → (lookup (eq k) es ≡ Some old → insert_entry eq (insert_entry eq es k v) k old ≡ es) → cond here (Some e.1) (lookup (eq k) es) ≡ Some old
      → insert_entry eq (insert_entry eq (e ∷ es) k v) k old ≡ e ∷ es
  restored_by e es k v old true is rest met =
      ap (λ xs. insert_entry eq xs k old) (put_here e es k v is) ∙ put_here (e.0, v) es k old is ∙ ap (λ x. (e.0, x) ∷ es) (sym (same_Some e.1 old met))
  restored_by e es k v old false is rest met =
      ap (λ xs. insert_entry eq xs k old) (put_past e es k v is) ∙ put_past e (insert_entry eq es k v) k old is ∙ ap (λ others. e ∷ others) (rest met)

  pub restored : (es : List (K × V)) (k : K) (v old : V) → lookup (eq k) es ≡ Some old → insert_entry eq (insert_entry eq es k v) k old ≡ es
  restored [] k v old met = absurd (true≢false (sym (ap is_some met)))
  restored (e ∷ es) k v old met = restored_by e es k v old (eq k e.0) refl (restored es k v old) met
