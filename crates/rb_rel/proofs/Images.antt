-- A clean placing of a leaf, checked by computation.
use Rattle.std.proofs.Common.{◌≡◌, ℕ, zero, suc, ◌+◌, ◌*◌, ◌/◌, ◌^◌, ◌<◌, ◌≤◌, ◌&&◌, ◌⊎◌, inl, inr, length, List, [], ◌∷◌, Bool, true, false, Option, Some, None, Result, Ok, Err, refl, sym, subst, ap, ◌∙◌, arith}
use Rattle.std.specs.Prelude.{slice_get, leb, ltb, nat_eq}
use Rattle.std.proofs.lemmas.Bool.{and_parts}
use Rattle.std.proofs.lemmas.Option.{same_Some}
use Rattle.std.proofs.lemmas.Grind.{common_steps}
use Rattle.rb_bits.specs.Words.{AreDisjoint}
use Rattle.rb_bytes.specs.Memory.{Memory, size_at, load_of}
use Rattle.rb_bytes.specs.declared.fault.Trap.{Trap}
use Rattle.rb_layout.specs.declared.layout.Leaf.{Leaf}
use Rattle.rb_layout.specs.declared.layout.Block.{Block}
use Rattle.rb_layout.specs.declared.layout.FlatWord.{FlatWord}
use Rattle.rb_layout.specs.declared.layout.Part.{Part}
use Rattle.rb_layout.specs.declared.layout.Kind.{Kind}
use Rattle.rb_layout.specs.declared.layout.Kind.TheVariants.{Const, Bits, Word, Pointer}
use Rattle.rb_layout.specs.declared.layout.WordRef.{WordRef}
use Rattle.rb_layout.specs.Words.{words_in, words_of_block, flat_at, begins_at, size_of}
use Rattle.rb_rel.specs.Relation.{IsFound, WordHolds, LeafStands}
use Rattle.rb_rel.proofs.Packing.{packed, packed_holds}
use Rattle.rb_rel.specs.Storing.{number_of}
use Rattle.rb_rel.proofs.Reading.{leb_is}
use Rattle.rb_rel.proofs.Known.{ltb_is}

pub nat_is : (a b : ℕ) → nat_eq a b ≡ true → a ≡ b
nat_is a b e = grind (arith, common_steps)

-- of each of a list, and of the one with a number
abbrev pub AllOf : {A : Type 0} → (A → Type 0) → List A → Type 0
AllOf P [] = Unit {0}
AllOf P (x ∷ xs) = P x × AllOf P xs

pub of_one : {A : Type 0} (P : A → Type 0) (xs : List A) → AllOf P xs → (k : ℕ) (x : A) → slice_get xs k ≡ Some x → P x
of_one P [] all k x e = absurd cc
of_one P (y ∷ xs) all zero x e = subst P (same_Some y x e) all.0
of_one P (y ∷ xs) all (suc k) x e = of_one P xs all.1 k x e

abbrev or_else : Bool → Bool → Bool
or_else true b = true
or_else false b = b

or_is : (a b : Bool) → or_else a b ≡ true → (a ≡ true) ⊎ (b ≡ true)
or_is true b e = inl refl
or_is false b e = inr e

abbrev pub apart_ok : Part → List Part → Bool
apart_ok p [] = true
apart_ok p (q ∷ qs) = or_else (leb (p.o + p.l) q.o) (leb (q.o + q.l) p.o) && apart_ok p qs

abbrev pub tidy_ok : ℕ → List Part → Bool
tidy_ok width [] = true
tidy_ok width (p ∷ ps) = apart_ok p ps && (leb (p.o + p.l) width && tidy_ok width ps)

abbrev pub aligned_ok : (ℕ → ℕ) → Kind → Bool
aligned_ok ats (Const c) = true
aligned_ok ats (Bits path a) = true
aligned_ok ats (Word path j) = true
aligned_ok ats (Pointer align b) = nat_eq (ats b / align * align) (ats b)

abbrev pub can_ok : (List ℕ → List ℕ) → (ℕ → ℕ) → List Part → Bool
can_ok subs ats [] = true
can_ok subs ats (p ∷ ps) = ltb (number_of subs ats p.l p.kind) (2 ^ p.l) && (aligned_ok ats p.kind && can_ok subs ats ps)

abbrev pub found_ok : Result ℕ Trap → ℕ → Bool
found_ok (Ok w) n = nat_eq w n
found_ok (Err t) n = false

abbrev pub some_ok : Option ℕ → ℕ → Bool
some_ok None n = false
some_ok (Some w) n = nat_eq w n

disjoint : (p q : Part) (qs : List Part) → apart_ok p (q ∷ qs) ≡ true → AreDisjoint p.o p.l q.o q.l
disjoint p q qs e = elim (or_is (leb (p.o + p.l) q.o) (leb (q.o + q.l) p.o) (and_parts (or_else (leb (p.o + p.l) q.o) (leb (q.o + q.l) p.o)) (apart_ok p qs) e).0) [
  | inl h ↦ inl (leb_is (p.o + p.l) q.o h)
  | inr h ↦ inr (leb_is (q.o + q.l) p.o h)
]

all_apart : (p : Part) (ps : List Part) (k : ℕ) (q : Part) → apart_ok p ps ≡ true → slice_get ps k ≡ Some q → AreDisjoint p.o p.l q.o q.l
all_apart p [] k q e is = absurd cc
all_apart p (x ∷ ps) zero q e is = subst (λ (y : Part). AreDisjoint p.o p.l y.o y.l) (same_Some x q is) (disjoint p x ps e)
all_apart p (x ∷ ps) (suc k) q e is = all_apart p ps k q (and_parts (or_else (leb (p.o + p.l) x.o) (leb (x.o + x.l) p.o)) (apart_ok p ps) e).1 is

apart_is : (width : ℕ) (ps : List Part) → tidy_ok width ps ≡ true → (j k : ℕ) (p q : Part) → j < k → slice_get ps j ≡ Some p → slice_get ps k ≡ Some q → AreDisjoint p.o p.l q.o q.l
apart_is width [] e j k p q lt a b = absurd cc
apart_is width (x ∷ ps) e zero zero p q lt a b = absurd (omega (arith, lt))
apart_is width (x ∷ ps) e zero (suc k) p q lt a b = subst (λ (y : Part). AreDisjoint y.o y.l q.o q.l) (same_Some x p a) (all_apart x ps k q (and_parts (apart_ok x ps) (leb (x.o + x.l) width && tidy_ok width ps) e).0 b)
apart_is width (x ∷ ps) e (suc j) zero p q lt a b = absurd (omega (arith, lt))
apart_is width (x ∷ ps) e (suc j) (suc k) p q lt a b =
    apart_is width ps (and_parts (leb (x.o + x.l) width) (tidy_ok width ps) (and_parts (apart_ok x ps) (leb (x.o + x.l) width && tidy_ok width ps) e).1).1 j k p q (omega (arith, lt)) a b

inside_is : (width : ℕ) (ps : List Part) → tidy_ok width ps ≡ true → (k : ℕ) (p : Part) → slice_get ps k ≡ Some p → p.o + p.l ≤ width
inside_is width [] e k p a = absurd cc
inside_is width (x ∷ ps) e zero p a = subst (λ (y : Part). y.o + y.l ≤ width) (same_Some x p a) (leb_is (x.o + x.l) width (and_parts (leb (x.o + x.l) width) (tidy_ok width ps) (and_parts (apart_ok x ps) (leb (x.o + x.l) width && tidy_ok width ps) e).1).0)
inside_is width (x ∷ ps) e (suc k) p a = inside_is width ps (and_parts (leb (x.o + x.l) width) (tidy_ok width ps) (and_parts (apart_ok x ps) (leb (x.o + x.l) width && tidy_ok width ps) e).1).1 k p a

module _ (subs : List ℕ → List ℕ) (ats : ℕ → ℕ) where
  abbrev N : Part → ℕ
  N p = number_of subs ats p.l p.kind

  parts_can : (p : Part) (ps : List Part) → can_ok subs ats (p ∷ ps) ≡ true → (N p < 2 ^ p.l) × (aligned_ok ats p.kind ≡ true) × (can_ok subs ats ps ≡ true)
  parts_can p ps e =
      let a = and_parts (ltb (N p) (2 ^ p.l)) (aligned_ok ats p.kind && can_ok subs ats ps) e in
      let b = and_parts (aligned_ok ats p.kind) (can_ok subs ats ps) a.1 in
      (ltb_is (N p) (2 ^ p.l) a.0, b.0, b.1)

  fit_is : (ps : List Part) → can_ok subs ats ps ≡ true → (k : ℕ) (p : Part) → slice_get ps k ≡ Some p → N p < 2 ^ p.l
  fit_is [] e k p a = absurd cc
  fit_is (x ∷ ps) e zero p a = subst (λ (y : Part). N y < 2 ^ y.l) (same_Some x p a) (parts_can x ps e).0
  fit_is (x ∷ ps) e (suc k) p a = fit_is ps (parts_can x ps e).2 k p a

  kind_is : (kind : Kind) (align b : ℕ) → aligned_ok ats kind ≡ true → kind ≡ Pointer align b → ats b / align * align ≡ ats b
  kind_is kind align b e is = nat_is (ats b / align * align) (ats b) (ap (aligned_ok ats) (sym is) ∙ e)

  aligned_is : (ps : List Part) → can_ok subs ats ps ≡ true → (k : ℕ) (p : Part) → slice_get ps k ≡ Some p → (align b : ℕ) → p.kind ≡ Pointer align b → ats b / align * align ≡ ats b
  aligned_is [] e k p a = absurd cc
  aligned_is (x ∷ ps) e zero p a = subst (λ (y : Part). (align b : ℕ) → y.kind ≡ Pointer align b → ats b / align * align ≡ ats b) (same_Some x p a) (λ align b is. kind_is x.kind align b (parts_can x ps e).1 is)
  aligned_is (x ∷ ps) e (suc k) p a = aligned_is ps (parts_can x ps e).2 k p a

  abbrev pub fit_ok : FlatWord → Bool
  fit_ok f = tidy_ok f.width f.parts && can_ok subs ats f.parts

  word_is : (f : FlatWord) → fit_ok f ≡ true → WordHolds subs ats true f (packed subs ats f.parts)
  word_is f e =
      let b = and_parts (tidy_ok f.width f.parts) (can_ok subs ats f.parts) e in
      packed_holds subs ats f (record { apart = apart_is f.width f.parts b.0; inside = inside_is f.width f.parts b.0 })
      (record { fit = fit_is f.parts b.1; aligned = aligned_is f.parts b.1 }) true

  module _ (ws : List ℕ) (m : Memory) where
    -- root words from number j on, and words of block b from number j on
    abbrev pub root_ok : List FlatWord → ℕ → Bool
    root_ok [] j = true
    root_ok (f ∷ fs) j = (some_ok (slice_get ws j) (packed subs ats f.parts) && fit_ok f) && root_ok fs (j + 1)

    abbrev pub block_ok : List FlatWord → ℕ → List FlatWord → ℕ → Bool
    block_ok all b [] j = true
    block_ok all b (f ∷ fs) j =
        (found_ok (load_of m (ats b) (begins_at all j) f.width) (packed subs ats f.parts) && fit_ok f) && block_ok all b fs (j + 1)

    abbrev pub blocks_ok : List Block → ℕ → Bool
    blocks_ok [] b = true
    blocks_ok (x ∷ xs) b = (some_ok (size_at m.blocks (ats b)) (size_of x) && block_ok x.words b x.words 0) && blocks_ok xs (b + 1)

    -- the leaf is placed cleanly: each word is what its parts make
    abbrev pub image_ok : Leaf → Bool
    image_ok leaf = nat_eq (length ws) (length leaf.root) && (root_ok leaf.root 0 && blocks_ok leaf.blocks 0)

    some_is : (o : Option ℕ) (n : ℕ) → some_ok o n ≡ true → o ≡ Some n
    some_is None n e = absurd cc
    some_is (Some w) n e = ap Some (nat_is w n e)

    found_is : (o : Result ℕ Trap) (n : ℕ) → found_ok o n ≡ true → o ≡ Ok n
    found_is (Ok w) n e = ap Ok (nat_is w n e)
    found_is (Err t) n e = absurd cc

    root_is : (fs : List FlatWord) (j k : ℕ) (f : FlatWord) → root_ok fs j ≡ true → slice_get fs k ≡ Some f → (slice_get ws (j + k) ≡ Some (packed subs ats f.parts)) × WordHolds subs ats true f (packed subs ats f.parts)
    root_is [] j k f e is = absurd cc
    root_is (x ∷ fs) j zero f e is =
        let a = and_parts (some_ok (slice_get ws j) (packed subs ats x.parts) && fit_ok x) (root_ok fs (j + 1)) e in
        let b = and_parts (some_ok (slice_get ws j) (packed subs ats x.parts)) (fit_ok x) a.0 in
        let z : j + 0 ≡ j = omega arith in
        subst (λ (y : FlatWord). (slice_get ws (j + 0) ≡ Some (packed subs ats y.parts)) × WordHolds subs ats true y (packed subs ats y.parts)) (same_Some x f is)
        (ap (slice_get ws) z ∙ some_is (slice_get ws j) (packed subs ats x.parts) b.0, word_is x b.1)
    root_is (x ∷ fs) j (suc k) f e is =
        let a = and_parts (some_ok (slice_get ws j) (packed subs ats x.parts) && fit_ok x) (root_ok fs (j + 1)) e in
        let z : j + suc k ≡ j + 1 + k = omega arith in
        let r = root_is fs (j + 1) k f a.1 is in (ap (slice_get ws) z ∙ r.0, r.1)

    block_is : (all : List FlatWord) (b : ℕ) (fs : List FlatWord) (j k : ℕ) (f : FlatWord) → block_ok all b fs j ≡ true → slice_get fs k ≡ Some f
        → (load_of m (ats b) (begins_at all (j + k)) f.width ≡ Ok (packed subs ats f.parts)) × WordHolds subs ats true f (packed subs ats f.parts)
    block_is all b [] j k f e is = absurd cc
    block_is all b (x ∷ fs) j zero f e is =
        let a = and_parts (found_ok (load_of m (ats b) (begins_at all j) x.width) (packed subs ats x.parts) && fit_ok x) (block_ok all b fs (j + 1)) e in
        let c = and_parts (found_ok (load_of m (ats b) (begins_at all j) x.width) (packed subs ats x.parts)) (fit_ok x) a.0 in
        let z : j + 0 ≡ j = omega arith in
        subst (λ (y : FlatWord). (load_of m (ats b) (begins_at all (j + 0)) y.width ≡ Ok (packed subs ats y.parts)) × WordHolds subs ats true y (packed subs ats y.parts)) (same_Some x f is)
        (ap (λ i. load_of m (ats b) (begins_at all i) x.width) z ∙ found_is (load_of m (ats b) (begins_at all j) x.width) (packed subs ats x.parts) c.0, word_is x c.1)
    block_is all b (x ∷ fs) j (suc k) f e is =
        let a = and_parts (found_ok (load_of m (ats b) (begins_at all j) x.width) (packed subs ats x.parts) && fit_ok x) (block_ok all b fs (j + 1)) e in
        let z : j + suc k ≡ j + 1 + k = omega arith in
        let r = block_is all b fs (j + 1) k f a.1 is in (ap (λ i. load_of m (ats b) (begins_at all i) f.width) z ∙ r.0, r.1)

    abbrev BlockIs : ℕ → Block → Type 0
    BlockIs b x = (size_at m.blocks (ats b) ≡ Some (size_of x)) × (block_ok x.words b x.words 0 ≡ true)

    blocks_is : (xs : List Block) (b k : ℕ) (x : Block) → blocks_ok xs b ≡ true → slice_get xs k ≡ Some x → BlockIs (b + k) x
    blocks_is [] b k x e is = absurd cc
    blocks_is (y ∷ xs) b zero x e is =
        let a = and_parts (some_ok (size_at m.blocks (ats b)) (size_of y) && block_ok y.words b y.words 0) (blocks_ok xs (b + 1)) e in
        let c = and_parts (some_ok (size_at m.blocks (ats b)) (size_of y)) (block_ok y.words b y.words 0) a.0 in
        let z : b ≡ b + 0 = omega arith in
        subst (λ i. BlockIs i x) z (subst (λ (q : Block). BlockIs b q) (same_Some y x is) (some_is (size_at m.blocks (ats b)) (size_of y) c.0, c.1))
    blocks_is (y ∷ xs) b (suc k) x e is =
        let a = and_parts (some_ok (size_at m.blocks (ats b)) (size_of y) && block_ok y.words b y.words 0) (blocks_ok xs (b + 1)) e in
        let z : b + 1 + k ≡ b + suc k = omega arith in subst (λ i. BlockIs i x) z (blocks_is xs (b + 1) k x a.1 is)

    pub image_is : (leaf : Leaf) → image_ok leaf ≡ true → LeafStands leaf ws m true subs ats
    image_is leaf e = record {
      count = nat_is (length ws) (length leaf.root) b.0;
      blocks = λ k x is. let z : 0 + k ≡ k = omega arith in ap (λ i. size_at m.blocks (ats i)) (sym z) ∙ (blocks_is leaf.blocks 0 k x c.1 is).0;
      words = λ r f is. word r f is;
    }
      where
        b : (nat_eq (length ws) (length leaf.root) ≡ true) × ((root_ok leaf.root 0 && blocks_ok leaf.blocks 0) ≡ true)
        b = and_parts (nat_eq (length ws) (length leaf.root)) (root_ok leaf.root 0 && blocks_ok leaf.blocks 0) e

        c : (root_ok leaf.root 0 ≡ true) × (blocks_ok leaf.blocks 0 ≡ true)
        c = and_parts (root_ok leaf.root 0) (blocks_ok leaf.blocks 0) b.1

        in_block : (k : ℕ) (x : Option Block) (j : ℕ) (f : FlatWord) → slice_get leaf.blocks k ≡ x → slice_get (words_of_block x) j ≡ Some f
            → (w : ℕ) × (load_of m (ats k) (begins_at (words_of_block x) j) f.width ≡ Ok w) × WordHolds subs ats true f w
        in_block k None j f is h = absurd cc
        in_block k (Some x) j f is h =
            let q = blocks_is leaf.blocks 0 k x c.1 is in
            let r = block_is x.words (0 + k) x.words 0 j f q.1 h in
            let z : 0 + k ≡ k = omega arith in
            let y : 0 + j ≡ j = omega arith in
            (packed subs ats f.parts, ap (λ i. load_of m (ats i) (begins_at x.words j) f.width) (sym z) ∙ ap (λ i. load_of m (ats (0 + k)) (begins_at x.words i) f.width) (sym y) ∙ r.0, r.1)

        word : (r : WordRef) (f : FlatWord) → flat_at leaf r ≡ Some f → (w : ℕ) × IsFound r.block (words_in leaf r.block) f r.word ws ats m w × WordHolds subs ats true f w
        word r f is = go r.block is
          where
            go : (x : Option ℕ) → slice_get (words_in leaf x) r.word ≡ Some f → (w : ℕ) × IsFound x (words_in leaf x) f r.word ws ats m w × WordHolds subs ats true f w
            go None h = let q = root_is leaf.root 0 r.word f c.0 h in let z : 0 + r.word ≡ r.word = omega arith in (packed subs ats f.parts, ap (slice_get ws) (sym z) ∙ q.0, q.1)
            go (Some k) h = in_block k (slice_get leaf.blocks k) r.word f refl h
