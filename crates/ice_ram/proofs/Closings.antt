-- Machines that show the same show the same when they are closed.
use Rattle.std.proofs.Common.{◌≡◌, List, [], ◌∷◌, map, refl, ap, ◌∙◌, sym}
use Rattle.ice_base_values.specs.System.{machine_shows}
use Rattle.ice_ram.specs.Closing.{closed}

abbrev first : {A : Type 0} → A → List A → A
first a [] = a
first a (x ∷ xs) = x

abbrev rest : {A : Type 0} → List A → List A
rest [] = []
rest (x ∷ xs) = xs

pub closings_alike : {S T M N I J O P K L : Type 0}
    (f : S → I → S × O) (g : T → J → T × P) (into : J → I) (seen : P → O)
    (f_joined : K → M → I) (g_joined : L → N → J) (f_takes : M → O → M) (g_takes : N → P → N) (outside : L → K) (mine : N → M)
    → ((l : L) (n : N) → into (g_joined l n) ≡ f_joined (outside l) (mine n))
    → ((n : N) (p : P) → mine (g_takes n p) ≡ f_takes (mine n) (seen p))
    → (s : S) (t : T) → ((js : List J) → machine_shows f s (map into js) ≡ map seen (machine_shows g t js))
    → (n : N) (ls : List L) → machine_shows (closed f f_joined f_takes) (s, mine n) (map outside ls) ≡ map seen (machine_shows (closed g g_joined g_takes) (t, n) ls)
closings_alike {S} {T} {M} {N} {I} {J} f g into seen f_joined g_joined f_takes g_takes outside mine joins takes s t alike n [] = refl
closings_alike {S} {T} {M} {N} {I} {J} f g into seen f_joined g_joined f_takes g_takes outside mine joins takes s t alike n (l ∷ ls) =
    let j = g_joined l n in
    let now = ap (λ os. first (f s (into j)).1 os) (alike (j ∷ [])) in
    let then_alike : (js : List J) → machine_shows f (f s (into j)).0 (map into js) ≡ map seen (machine_shows g (g t j).0 js) = λ js. ap (λ os. rest os) (alike (j ∷ js)) in
    let tail = closings_alike f g into seen f_joined g_joined f_takes g_takes outside mine joins takes (f s (into j)).0 (g t j).0 then_alike (g_takes n (g t j).1) ls in
    let kept = takes n (g t j).1 ∙ ap (λ o. f_takes (mine n) o) (sym now) in
    ap (λ i. (f s i).1 ∷ machine_shows (closed f f_joined f_takes) ((f s i).0, f_takes (mine n) (f s i).1) (map outside ls)) (sym (joins l n))
    ∙ ap (λ m. (f s (into j)).1 ∷ machine_shows (closed f f_joined f_takes) ((f s (into j)).0, m) (map outside ls)) (sym kept)
    ∙ ap (λ os. (f s (into j)).1 ∷ os) tail
    ∙ ap (λ o. o ∷ map seen (machine_shows (closed g g_joined g_takes) ((g t j).0, g_takes n (g t j).1) ls)) now
