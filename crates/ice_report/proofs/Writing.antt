-- Reports that are written piece by piece.
use Rattle.std.proofs.Common.{◌≡◌, ℕ, ◌+◌, ◌<◌, ◌++◌, ◌∷◌, [], List, map, length, take, get_or, min, ap, ap₂, sym, ◌∙◌, arith, refl, append_assoc, append-nil}
use Rattle.std.specs.List.{zip, flat_map}
use Rattle.std.proofs.lemmas.List.{take_all, map_more}
use Rattle.std.proofs.lemmas.List.Concat.{flat_map-append}
use Rattle.std.proofs.lemmas.Slice.Zip.{length-zip, get_or-zip}
use Rattle.ice_base.specs.Lines.{text_of_lines}
use Rattle.ice_base.proofs.Pieces.{line_more, further}
use Rattle.ice_report.specs.Lines.{line_of}

-- the line of one pair further
pub pair_more : {A B : Type 0} (f : A × B → List ℕ) (ks : List A) (vs : List B) (i j : ℕ) (x : A) (y : B) → i < length ks → i < length vs
    → x ≡ get_or ks i x → y ≡ get_or vs i y → j ≡ i + 1
    → text_of_lines (map f (take i (zip ks vs))) ++ text_of_lines (f (x, y) ∷ []) ≡ text_of_lines (map f (take j (zip ks vs)))
pair_more {A = A} {B = B} f ks vs i j x y first second left right step =
    let pairs : List (A × B) = zip ks vs in
    let pair : A × B = (x, y) in
    let is : pair ≡ get_or pairs i pair = ap₂ (λ a b. (a, b)) left right ∙ sym (get_or-zip ks vs i pair first second) in
    ap (λ e. text_of_lines (map f (take i pairs)) ++ text_of_lines (f e ∷ [])) is
    ∙ line_more f pairs i pair (omega (arith, length-zip ks vs)) ∙ ap (λ k. text_of_lines (map f (take k pairs))) (sym step)

-- the lines of all pairs
pub pairs_end : {A B : Type 0} (f : A × B → List ℕ) (ks : List A) (vs : List B) (i : ℕ) (start text : List ℕ) → i ≡ min (length ks) (length vs)
    → text ≡ start ++ text_of_lines (map f (take i (zip ks vs))) → text ≡ start ++ text_of_lines (map f (zip ks vs))
pairs_end f ks vs i start text all so_far =
    so_far ∙ ap (λ pairs. start ++ text_of_lines (map f pairs)) (take_all i (zip ks vs) (omega (arith, length-zip ks vs)))

-- a word behind others
words_join : (words : List (List ℕ)) (word : List ℕ) → flat_map (λ (w : List ℕ). 32 ∷ w) words ++ 32 ∷ word ≡ flat_map (λ (w : List ℕ). 32 ∷ w) (words ++ word ∷ [])
words_join words word =
    ap (λ end. flat_map (λ (w : List ℕ). 32 ∷ w) words ++ end) (sym (append-nil (32 ∷ word))) ∙ sym (flat_map-append (λ (w : List ℕ). 32 ∷ w) words (word ∷ []))

-- the word of one thing further
pub word_more : {X : Type 0} (f : X → List ℕ) (xs : List X) (i : ℕ) (d : X) → i < length xs
    → flat_map (λ (w : List ℕ). 32 ∷ w) (map f (take i xs)) ++ 32 ∷ f (get_or xs i d) ≡ flat_map (λ (w : List ℕ). 32 ∷ w) (map f (take (i + 1) xs))
word_more f xs i d below = words_join (map f (take i xs)) (f (get_or xs i d)) ∙ ap (flat_map (λ (w : List ℕ). 32 ∷ w)) (sym (map_more f xs i d below))

-- a word, words behind it and a last one, and the end of their line
line_joined : (first last : List ℕ) (words : List (List ℕ)) → ((first ++ flat_map (λ (w : List ℕ). 32 ∷ w) words) ++ 32 ∷ last) ++ 10 ∷ [] ≡ text_of_lines (line_of (first ∷ (words ++ last ∷ [])) ∷ [])
line_joined first last words =
    ap (λ line. line ++ 10 ∷ []) (append_assoc first (flat_map (λ (w : List ℕ). 32 ∷ w) words) (32 ∷ last) ∙ ap (λ behind. first ++ behind) (words_join words last))
    ∙ sym (append-nil (line_of (first ∷ (words ++ last ∷ [])) ++ 10 ∷ []))

-- the line of a port, whose name and way are known by other names
pub port_joined : (name first way last : List ℕ) (words : List (List ℕ)) (out p q r new : List ℕ) → name ≡ first → way ≡ last
    → p ≡ out ++ name → q ≡ p ++ flat_map (λ (w : List ℕ). 32 ∷ w) words → r ≡ q ++ 32 ∷ way → new ≡ r ++ 10 ∷ []
    → new ≡ out ++ text_of_lines (line_of (first ∷ (words ++ last ∷ [])) ∷ [])
port_joined name first way last words out p q r new named ends begun put then ended =
    further out r new _ _ _ (further out q r _ _ _ (further out p q _ _ _ (begun ∙ ap (λ t. out ++ t) named) put refl) (then ∙ ap (λ t. q ++ 32 ∷ t) ends) refl) ended (line_joined first last words)
