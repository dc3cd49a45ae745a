-- Texts of lists grow at their end.
use Rattle.std.proofs.Common.{◌≡◌, ℕ, zero, suc, ◌+◌, ◌<◌, List, [], ◌∷◌, ◌++◌, length, take, get_or, refl, sym, ap, ◌∙◌, append_assoc, append-nil, length-take, arith}
use Rattle.std.proofs.lemmas.List.{take_more}
use Rattle.std.proofs.lemmas.List.Concat.{flat_map-append}
use Rattle.std.proofs.lemmas.List.Folds.{flat_map-map}
use Rattle.std.specs.List.{flat_map, range_with_len}
use Rattle.rb_core.proofs.TextLemmas.{appended}
use Rattle.rb_layout.specs.declared.layout.FlatArm.{FlatArm}
use Rattle.rb_show.specs.Lines.{numbered_texts, other_literal}
use Rattle.rb_show.specs.inner.Ways.{literals_in}

-- five pieces one after the other
pub five : {X : Type 0} (t0 t1 t2 t3 t4 t5 a b c d e : List X) → t1 ≡ t0 ++ a → t2 ≡ t1 ++ b → t3 ≡ t2 ++ c → t4 ≡ t3 ++ d → t5 ≡ t4 ++ e
    → t5 ≡ t0 ++ ((((a ++ b) ++ c) ++ d) ++ e)
five t0 t1 t2 t3 t4 t5 a b c d e e1 e2 e3 e4 e5 =
    let f2 = e2 ∙ ap (λ t. t ++ b) e1 ∙ append_assoc t0 a b in
    let f3 = e3 ∙ ap (λ t. t ++ c) f2 ∙ append_assoc t0 (a ++ b) c in
    let f4 = e4 ∙ ap (λ t. t ++ d) f3 ∙ append_assoc t0 ((a ++ b) ++ c) d in
    e5 ∙ ap (λ t. t ++ e) f4 ∙ append_assoc t0 (((a ++ b) ++ c) ++ d) e

-- Lists -------------------------------------------------------------------------------------

pub flat_map_next : {X A : Type 0} (f : X → List A) (xs : List X) (k : ℕ) (d : X) → k < length xs → flat_map f (take (k + 1) xs) ≡ flat_map f (take k xs) ++ f (get_or xs k d)
flat_map_next f xs k d lt =
    ap (λ ys. flat_map f ys) (take_more xs k d lt) ∙ flat_map-append f (take k xs) (get_or xs k d ∷ [])
    ∙ ap (λ t. flat_map f (take k xs) ++ t) (append-nil (f (get_or xs k d)))

pub flat_next : {X A : Type 0} (f : X → List A) (xs : List X) (k : ℕ) (x : X) (start before after : List A) → k < length xs → x ≡ get_or xs k x
    → before ≡ start ++ flat_map f (take k xs) → after ≡ before ++ f x → after ≡ start ++ flat_map f (take (k + 1) xs)
flat_next f xs k x start before after lt is e0 e1 =
    appended start (flat_map f (take k xs)) (flat_map f (take (k + 1) xs)) (f x) before after e0 e1
    (flat_map_next f xs k x lt ∙ ap (λ y. flat_map f (take k xs) ++ f y) (sym is))

-- a `flat_map` of a `flat_map`
pub nested : {X Y A : Type 0} (g : Y → List A) (f : X → List Y) (xs : List X) → flat_map g (flat_map f xs) ≡ flat_map (λ x. flat_map g (f x)) xs
nested g f [] = refl
nested g f (x ∷ xs) = flat_map-append g (f x) (flat_map f xs) ∙ ap (λ t. flat_map g (f x) ++ t) (nested g f xs)

pub nested_next : {X Y A : Type 0} (g : Y → List A) (f : X → List Y) (xs : List X) (k : ℕ) (x : X) (start before after : List A) → k < length xs → x ≡ get_or xs k x
    → before ≡ start ++ flat_map g (flat_map f (take k xs)) → after ≡ before ++ flat_map g (f x) → after ≡ start ++ flat_map g (flat_map f (take (k + 1) xs))
nested_next g f xs k x start before after lt is e0 e1 =
    flat_next (λ y. flat_map g (f y)) xs k x start before after lt is (e0 ∙ ap (λ t. start ++ t) (nested g f (take k xs))) e1
    ∙ ap (λ t. start ++ t) (sym (nested g f (take (k + 1) xs)))

-- Numbers of items --------------------------------------------------------------------------

numbered-push : {X : Type 0} (f : ℕ → X → List ℕ) (n : ℕ) (xs : List X) (x : X) → numbered_texts f n (xs ++ x ∷ []) ≡ numbered_texts f n xs ++ f (n + length xs) x
numbered-push f n [] x = let z : n ≡ n + 0 = omega arith in append-nil (f n x) ∙ ap (λ i. f i x) z
numbered-push f n (y ∷ ys) x =
    let shift : n + 1 + length ys ≡ n + suc (length ys) = omega arith in
    ap (λ t. f n y ++ t) (numbered-push f (n + 1) ys x ∙ ap (λ i. numbered_texts f (n + 1) ys ++ f i x) shift)
    ∙ sym (append_assoc (f n y) (numbered_texts f (n + 1) ys) (f (n + suc (length ys)) x))

pub numbered_next : {X : Type 0} (f : ℕ → X → List ℕ) (xs : List X) (k : ℕ) (x : X) (start before after : List ℕ) → k < length xs → x ≡ get_or xs k x
    → before ≡ start ++ numbered_texts f 0 (take k xs) → after ≡ before ++ f k x → after ≡ start ++ numbered_texts f 0 (take (k + 1) xs)
numbered_next f xs k x start before after lt is e0 e1 =
    let many : 0 + length (take k xs) ≡ k = let e = length-take k xs in omega (arith, e, lt) in
    appended start (numbered_texts f 0 (take k xs)) (numbered_texts f 0 (take (k + 1) xs)) (f k x) before after e0 e1
    (ap (λ ys. numbered_texts f 0 ys) (take_more xs k x lt) ∙ numbered-push f 0 (take k xs) (get_or xs k x)
    ∙ ap (λ i. numbered_texts f 0 (take k xs) ++ f i (get_or xs k x)) many ∙ ap (λ y. numbered_texts f 0 (take k xs) ++ f k y) (sym is))

-- Bits --------------------------------------------------------------------------------------

range-more : {A : Type 0} (f : ℕ → List A) (a n : ℕ) → flat_map f (range_with_len a (suc n)) ≡ flat_map f (range_with_len a n) ++ f (a + n)
range-more f a zero = let z : a ≡ a + 0 = omega arith in append-nil (f a) ∙ ap f z
range-more f a (suc n) =
    let shift : a + 1 + n ≡ a + suc n = omega arith in
    ap (λ t. f a ++ t) (range-more f (a + 1) n ∙ ap (λ i. flat_map f (range_with_len (a + 1) n) ++ f i) shift)
    ∙ sym (append_assoc (f a) (flat_map f (range_with_len (a + 1) n)) (f (a + suc n)))

pub bits_next : {A B : Type 0} (g : A → List B) (f : ℕ → List A) (k : ℕ) (start before after : List B)
    → before ≡ start ++ flat_map g (flat_map f (range_with_len 0 k)) → after ≡ before ++ flat_map g (f k) → after ≡ start ++ flat_map g (flat_map f (range_with_len 0 (k + 1)))
bits_next g f k start before after e0 e1 =
    let one : k + 1 ≡ suc k = omega arith in
    let z : 0 + k ≡ k = omega arith in
    appended start (flat_map g (flat_map f (range_with_len 0 k))) (flat_map g (flat_map f (range_with_len 0 (k + 1)))) (flat_map g (f k)) before after e0 e1
    (ap (λ n. flat_map g (flat_map f (range_with_len 0 n))) one ∙ ap (λ xs. flat_map g xs) (range-more f 0 k ∙ ap (λ i. flat_map f (range_with_len 0 k) ++ f i) z)
    ∙ flat_map-append g (flat_map f (range_with_len 0 k)) (f k))

-- Literals ----------------------------------------------------------------------------------

pub literals_next : (arms : List FlatArm) (k : ℕ) (x : FlatArm) (start before after : List ℕ) → k < length arms → x ≡ get_or arms k x
    → before ≡ start ++ flat_map other_literal (literals_in (take k arms)) → after ≡ before ++ other_literal x.literal
    → after ≡ start ++ flat_map other_literal (literals_in (take (k + 1) arms))
literals_next arms k x start before after lt is e0 e1 =
    let g : FlatArm → ℕ = λ a. a.literal in
    flat_next (λ (a : FlatArm). other_literal a.literal) arms k x start before after lt is (e0 ∙ ap (λ t. start ++ t) (flat_map-map other_literal g (take k arms))) e1
    ∙ ap (λ t. start ++ t) (sym (flat_map-map other_literal g (take (k + 1) arms)))
