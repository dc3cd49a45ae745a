-- Where the parts in the order of a leaf stand: in its root words, or in its blocks.
use Rattle.std.proofs.Common.{◌≡◌, ℕ, zero, suc, ◌+◌, ◌/◌, ◌<◌, ◌≤◌, ◌==◌, ◌⊎◌, inl, inr, Bool, true, false, cond, List, [], ◌∷◌, ◌++◌, filter, length, Option, Some, None, refl, sym, subst, ap, ◌∙◌, arith}
use Rattle.std.specs.Prelude.{slice_get}
use Rattle.std.specs.List.{flat_map}
use Rattle.std.proofs.lemmas.Bool.{cases_eq}
use Rattle.std.proofs.lemmas.Option.{same_Some}
use Rattle.std.proofs.lemmas.Grind.{common_steps}
use Rattle.rb_layout.specs.declared.layout.Leaf.{Leaf}
use Rattle.rb_layout.specs.declared.layout.FlatWord.{FlatWord}
use Rattle.rb_layout.specs.declared.layout.Kind.{Kind}
use Rattle.rb_layout.specs.declared.layout.Kind.TheVariants.{Const, Bits, Word, Pointer}
use Rattle.rb_layout.specs.declared.layout.Part.{Part}
use Rattle.rb_layout.specs.Words.{words_in}
use Rattle.rb_image.specs.Orders.{LocatedPart, beginning_at, beginning_from, pointed_parts, block_order, by_offset, order_of, with_inner, word_order, words_order}

-- Members ------------------------------------------------------------------------------------
module _ {A : Type 0} where
  abbrev pub In : A → List A → Type 0
  In x [] = ⊥
  In x (y ∷ ys) = (x ≡ y) ⊎ In x ys

  pub in_append : (x : A) (xs ys : List A) → In x (xs ++ ys) → In x xs ⊎ In x ys
  in_append x [] ys h = inr h
  in_append x (y ∷ xs) ys (inl e) = inl (inl e)
  in_append x (y ∷ xs) ys (inr h) = elim (in_append x xs ys h) [ inl a ↦ inl (inr a) | inr b ↦ inr b ]

  pub in_left : (x : A) (xs ys : List A) → In x xs → In x (xs ++ ys)
  in_left x [] ys h = absurd h
  in_left x (y ∷ xs) ys (inl e) = inl e
  in_left x (y ∷ xs) ys (inr h) = inr (in_left x xs ys h)

  pub in_right : (x : A) (xs ys : List A) → In x ys → In x (xs ++ ys)
  in_right x [] ys h = h
  in_right x (y ∷ xs) ys h = inr (in_right x xs ys h)

  pub in_get : (x : A) (xs : List A) → In x xs → (k : ℕ) × (slice_get xs k ≡ Some x)
  in_get x [] h = absurd h
  in_get x (y ∷ xs) (inl e) = (0, ap Some (sym e))
  in_get x (y ∷ xs) (inr h) = let r = in_get x xs h in (suc r.0, r.1)

  pub get_in : (x : A) (xs : List A) (k : ℕ) → slice_get xs k ≡ Some x → In x xs
  get_in x [] k e = absurd cc
  get_in x (y ∷ xs) zero e = inl (sym (same_Some y x e))
  get_in x (y ∷ xs) (suc k) e = inr (get_in x xs k e)

  in_cond : (b : Bool) (x y : A) (ys zs : List A) → (In x ys → In x zs) → In x (cond b (y ∷ ys) ys) → (x ≡ y) ⊎ In x zs
  in_cond true x y ys zs go (inl e) = inl e
  in_cond true x y ys zs go (inr h) = inr (go h)
  in_cond false x y ys zs go h = inr (go h)

  in_filter : (test : A → Bool) (x : A) (xs : List A) → In x (filter test xs) → In x xs
  in_filter test x [] h = h
  in_filter test x (y ∷ xs) h = in_cond (test y) x y (filter test xs) xs (in_filter test x xs) h

  cond_in : (b : Bool) (x y : A) (ys : List A) → In x ys → In x (cond b (y ∷ ys) ys)
  cond_in true x y ys h = inr h
  cond_in false x y ys h = h

  filter_in : (test : A → Bool) (x : A) (xs : List A) → test x ≡ true → In x xs → In x (filter test xs)
  filter_in test x [] is h = h
  filter_in test x (y ∷ xs) is (inl e) = subst (λ b. In x (cond b (y ∷ filter test xs) (filter test xs))) (sym (ap test (sym e) ∙ is)) (inl e)
  filter_in test x (y ∷ xs) is (inr h) = cond_in (test y) x y (filter test xs) (filter_in test x xs is h)

pub in_flat_map : {A B : Type 0} (f : A → List B) (y : B) (xs : List A) → In y (flat_map f xs) → (x : A) × In x xs × In y (f x)
in_flat_map f y [] h = absurd h
in_flat_map f y (x ∷ xs) h = elim (in_append y (f x) (flat_map f xs) h) [
  | inl a ↦ (x, inl refl, a)
  | inr b ↦ let r = in_flat_map f y xs b in (r.0, inr r.1, r.2)
]

pub flat_map_in : {A B : Type 0} (f : A → List B) (y : B) (x : A) (xs : List A) → In x xs → In y (f x) → In y (flat_map f xs)
flat_map_in f y x [] h g = absurd h
flat_map_in f y x (z ∷ xs) (inl e) g = in_left y (f z) (flat_map f xs) (subst (λ u. In y (f u)) e g)
flat_map_in f y x (z ∷ xs) (inr h) g = in_right y (f z) (flat_map f xs) (flat_map_in f y x xs h g)

-- Parts by offset ----------------------------------------------------------------------------
pub in_beginning : (p : Part) (parts : List Part) (o n : ℕ) → In p (beginning_from parts o n) → In p parts
in_beginning p parts o zero h = absurd h
in_beginning p parts o (suc n) h = elim (in_append p (beginning_at parts o) (beginning_from parts (o + 1) n) h) [
  | inl a ↦ in_filter (λ (q : Part). q.o == o) p parts a
  | inr b ↦ in_beginning p parts (o + 1) n b
]

same_is : (a : ℕ) → (a == a) ≡ true
same_is a = grind (arith, common_steps)

pub beginning_in : (p : Part) (parts : List Part) (o n : ℕ) → In p parts → o ≤ p.o → p.o < o + n → In p (beginning_from parts o n)
beginning_in p parts o zero h le lt = absurd (omega (arith, le, lt))
beginning_in p parts o (suc n) h le lt = elim (cases_eq p.o o) [
  | inl e ↦ in_left p (beginning_at parts o) (beginning_from parts (o + 1) n) (filter_in (λ (q : Part). q.o == o) p parts (ap (λ k. p.o == k) (sym e) ∙ same_is p.o) h)
  | inr ne ↦ in_right p (beginning_at parts o) (beginning_from parts (o + 1) n) (beginning_in p parts (o + 1) n h (above p.o o le ne) (omega (arith, lt)))
]
  where
    above : (a b : ℕ) → b ≤ a → (a ≡ b → ⊥) → b + 1 ≤ a
    above a b le ne = omega (arith, le, ne)

-- Parts of words -----------------------------------------------------------------------------
abbrev pub IsInBlock : Option ℕ → Type 0
IsInBlock None = ⊥
IsInBlock (Some b) = Unit {0}

-- a part that stands in one of the words
pub record StandsIn (fs : List FlatWord) (s : LocatedPart) : Type 0 where
  pub word : FlatWord
  pub is_word : In word fs
  pub is_part : In s.part word.parts

in_behind : (inner : ℕ → List LocatedPart) → ((b : ℕ) (s : LocatedPart) → In s (inner b) → IsInBlock s.block) → (k : Kind) (s : LocatedPart) → In s (pointed_parts inner k) → IsInBlock s.block
in_behind inner go (Const c) s h = absurd h
in_behind inner go (Bits path a) s h = absurd h
in_behind inner go (Word path j) s h = absurd h
in_behind inner go (Pointer align b) s h = go b s h

module _ (inner : ℕ → List LocatedPart) (go : (b : ℕ) (s : LocatedPart) → In s (inner b) → IsInBlock s.block) (block : Option ℕ) where
  in_words : (j byte : ℕ) (fs : List FlatWord) (s : LocatedPart) → In s (words_order inner block j byte fs) → IsInBlock s.block ⊎ ((s.block ≡ block) × StandsIn fs s)
  in_words j byte [] s h = absurd h
  in_words j byte (f ∷ fs) s h = elim (in_append s (word_order inner block j byte f) (words_order inner block (j + 1) (byte + f.width / 8) fs) h) [
    | inl a ↦ let r = in_flat_map (with_inner inner block j byte f.width) s (by_offset f) a in
        elim r.2 [
          | inl e ↦ inr (
            ap (λ (x : LocatedPart). x.block) e,
            record { word = f; is_word = inl refl; is_part = subst (λ p. In p f.parts) (sym (ap (λ (x : LocatedPart). x.part) e)) (in_beginning r.0 f.parts 0 f.width r.1) },
          )
          | inr b ↦ inl (in_behind inner go r.0.kind s b)
        ]
    | inr b ↦ elim (in_words (j + 1) (byte + f.width / 8) fs s b) [
      | inl x ↦ inl x
      | inr y ↦ inr (y.0, record { word = y.1.word; is_word = inr y.1.is_word; is_part = y.1.is_part })
    ]
  ]

module _ (leaf : Leaf) where
  in_block_order : (depth b : ℕ) (s : LocatedPart) → In s (block_order leaf depth b) → IsInBlock s.block
  in_block_order zero b s h = absurd h
  in_block_order (suc depth) b s h = elim (in_words (block_order leaf depth) (λ c t. in_block_order depth c t) (Some b) 0 0 (words_in leaf (Some b)) s h) [
    | inl x ↦ x
    | inr y ↦ subst IsInBlock (sym y.0) tt
  ]

  -- a part of the order stands in a block, or in a root word
  pub in_order : (s : LocatedPart) → In s (order_of leaf) → IsInBlock s.block ⊎ StandsIn leaf.root s
  in_order s h = elim (in_words (block_order leaf (length leaf.blocks)) (λ b t. in_block_order (length leaf.blocks) b t) None 0 0 leaf.root s h) [
    | inl x ↦ inl x
    | inr y ↦ inr y.1
  ]

-- each part of a root word is in it
module _ (inner : ℕ → List LocatedPart) (block : Option ℕ) where
  pub words_in_order : (j byte : ℕ) (fs : List FlatWord) (f : FlatWord) (p : Part) → In f fs → In p f.parts → p.o < f.width → (s : LocatedPart) × In s (words_order inner block j byte fs) × (s.part ≡ p)
  words_in_order j byte [] f p h g lt = absurd h
  words_in_order j byte (e ∷ fs) f p (inl same) g lt =
      let s : LocatedPart = record { block = block; word = j; byte = byte; width = e.width; part = p } in
      let at : In p (by_offset e) = subst (λ (x : FlatWord). In p (by_offset x)) same (beginning_in p f.parts 0 f.width g (omega arith) (omega (arith, lt))) in
      (s, in_left s (word_order inner block j byte e) (words_order inner block (j + 1) (byte + e.width / 8) fs) (flat_map_in (with_inner inner block j byte e.width) s p (by_offset e) at (inl refl)), refl)
  words_in_order j byte (e ∷ fs) f p (inr h) g lt =
      let r = words_in_order (j + 1) (byte + e.width / 8) fs f p h g lt in
      (r.0, in_right r.0 (word_order inner block j byte e) (words_order inner block (j + 1) (byte + e.width / 8) fs) r.1, r.2)
