-- A unit that is held is held by a part.
use Rattle.std.proofs.Common.{◌≡◌, ℕ, zero, suc, ◌+◌, ◌<◌, ◌≤◌, ◌==◌, ◌&&◌, ◌⊎◌, inl, inr, sum, map, List, [], ◌∷◌, Bool, true, false, Some, None, refl, subst, ap, ◌∙◌, arith}
use Rattle.std.specs.Prelude.{slice_get, leb, ltb, if◌then◌else◌}
use Rattle.std.proofs.lemmas.Bool.{and_parts}
use Rattle.std.proofs.lemmas.Grind.{common_steps}
use Rattle.rb_core.specs.declared.types.Ty.{Ty}
use Rattle.rb_core.specs.declared.types.Ty.TheVariants.{Int, Named}
use Rattle.rb_layout.specs.declared.layout.Leaf.{Leaf}
use Rattle.rb_layout.specs.declared.layout.FlatWord.{FlatWord}
use Rattle.rb_layout.specs.declared.layout.Part.{Part}
use Rattle.rb_layout.specs.declared.layout.Kind.{Kind}
use Rattle.rb_layout.specs.declared.layout.Kind.TheVariants.{Const, Bits, Word, Pointer}
use Rattle.rb_layout.specs.declared.layout.WordRef.{WordRef}
use Rattle.rb_layout.specs.Words.{flat_at, words_of_block}
use Rattle.rb_layout.specs.Flattening.{same_path}
use Rattle.rb_layout.specs.A6.{holds_unit, times_in_part, times_in_word, times_in_block, times_held}
use Rattle.rb_rel.proofs.Lawful.{HoldsUnit, Holder}
use Rattle.rb_rel.proofs.Known.{ltb_is}
use Rattle.rb_rel.proofs.Reading.{same_nat, leb_is}

split : {A : Type 0} (f : A → ℕ) (x : A) (xs : List A) (n : ℕ) → f x ≡ n → 1 ≤ n + sum (map f xs)
    → (1 ≤ sum (map f xs) → (k : ℕ) × (y : A) × (slice_get xs k ≡ Some y) × (1 ≤ f y)) → (k : ℕ) × (y : A) × (slice_get (x ∷ xs) k ≡ Some y) × (1 ≤ f y)
split f x xs zero e h rest = let r = rest (omega arith) in (suc r.0, r.1, r.2, r.3)
split f x xs (suc n) e h rest = (0, x, refl, omega arith)

sum_first : (n : ℕ) (ns : List ℕ) → sum (n ∷ ns) ≡ n + sum ns
sum_first n ns = grind (arith, common_steps)

-- an item that counts
counts : {A : Type 0} (f : A → ℕ) (xs : List A) → 1 ≤ sum (map f xs) → (k : ℕ) × (x : A) × (slice_get xs k ≡ Some x) × (1 ≤ f x)
counts f [] h = absurd (omega arith)
counts f (x ∷ xs) h = split f x xs (f x) refl (subst (λ n. 1 ≤ n) (sum_first (f x) (map f xs)) h) (counts f xs)

pub path_is : (p q : List ℕ) → same_path p q ≡ true → p ≡ q
path_is [] [] e = refl
path_is [] (j ∷ q) e = absurd cc
path_is (i ∷ p) [] e = absurd cc
path_is (i ∷ p) (j ∷ q) e = let b = and_parts (i == j) (same_path p q) e in let x = same_nat i j b.0 in let y = path_is p q b.1 in cc

-- the part that holds a unit
abbrev IsHolder : Ty → List ℕ → ℕ → ℕ → Kind → Type 0
IsHolder (Int bits) path i l k = (a : ℕ) × (k ≡ Bits path a) × (a ≤ i) × (i < a + l)
IsHolder (Named t) path i l k = k ≡ Word path i

holder : (ty : Ty) (path : List ℕ) (i l : ℕ) (k : Kind) → holds_unit ty path i l k ≡ true → IsHolder ty path i l k
holder (Int bits) path i l (Bits p a) e =
    let b = and_parts (same_path p path) (leb a i && ltb i (a + l)) e in let c = and_parts (leb a i) (ltb i (a + l)) b.1 in
    (a, ap (λ q. Bits q a) (path_is p path b.0), leb_is a i c.0, ltb_is i (a + l) c.1)
holder (Named t) path i l (Word p j) e =
    let b = and_parts (same_path p path) (j == i) e in ap (λ q. Word q j) (path_is p path b.0) ∙ ap (λ x. Word path x) (same_nat j i b.1)
holder (Int bits) path i l (Const c) e = absurd cc
holder (Int bits) path i l (Word p j) e = absurd cc
holder (Int bits) path i l (Pointer align b) e = absurd cc
holder (Named t) path i l (Const c) e = absurd cc
holder (Named t) path i l (Bits p a) e = absurd cc
holder (Named t) path i l (Pointer align b) e = absurd cc

one_is : (t : Bool) → 1 ≤ (if t then 1 else 0) → t ≡ true
one_is true h = refl
one_is false h = absurd (omega arith)

holds_it : (ty : Ty) (path : List ℕ) (i : ℕ) (p : Part) → IsHolder ty path i p.l p.kind → HoldsUnit ty path i p
holds_it (Int bits) path i p h = h
holds_it (Named t) path i p h = h

either : (a b : ℕ) → 1 ≤ a + b → (1 ≤ a) ⊎ (1 ≤ b)
either zero b h = inr (omega arith)
either (suc a) b h = inl (omega arith)

module _ (leaf : Leaf) (ty : Ty) (path : List ℕ) (i : ℕ) where
  in_word_is : (r : WordRef) (f : FlatWord) → flat_at leaf r ≡ Some f → 1 ≤ times_in_word ty path i f → Holder leaf ty path i
  in_word_is r f is h =
      let c = counts (times_in_part ty path i) f.parts h in
      let k = holder ty path i c.1.l c.1.kind (one_is (holds_unit ty path i c.1.l c.1.kind) c.3) in
      record { ref = r; word = f; is_word = is; number = c.0; part = c.1; is_part = c.2; is_holder = holds_it ty path i c.1 k }

  pub is_held : 1 ≤ times_held leaf ty path i → Holder leaf ty path i
  is_held h =
      elim (either (sum (map (times_in_word ty path i) leaf.root)) (sum (map (times_in_block ty path i) leaf.blocks)) h) [
        | inl a ↦ let c = counts (times_in_word ty path i) leaf.root a in in_word_is (record { block = None; word = c.0 }) c.1 c.2 c.3
        | inr a ↦ let b = counts (times_in_block ty path i) leaf.blocks a in
            let c = counts (times_in_word ty path i) b.1.words b.3 in
            in_word_is (record { block = Some b.0; word = c.0 }) c.1 (ap (λ x. slice_get (words_of_block x) c.0) b.2 ∙ c.2) c.3
      ]
